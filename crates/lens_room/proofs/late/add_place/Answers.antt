use Rattle.std.proofs.Common.{◌≡◌, ◌++◌, codes, decimal, ap, ◌∙◌}
use Rattle.lens_room.specs.Late.{place_text}
use Rattle.trace_writer.proofs.Added.{added, where-ok}
use Rattle.lens_room.proofs.late.add_place.Goals as goal

pub returns : goal.returns
unfolding place_text
returns c =
    let old = c.args.text.now.items in
    let one = c.add.new.text.items in
    let two = c.add_number.new.text.items in
    let three = c.add-2.new.text.items in
    let four = c.add_number-2.new.text.items in
    let five = c.add-3.new.text.items in
    let late = c.args.late in
    let beat : four ≡ three ++ decimal late.beat.0 = c.in_ok-add_number-2.ensures ∙ ap (λ n. three ++ decimal n) c.from.ensures in
    where-ok c.add-3.result (five ≡ four ++ codes " controller=") (five ≡ old ++ place_text late)
    (λ last. added old one five (codes "late-reply=/events/") (decimal late.place ++ (codes " beat=" ++ (decimal late.beat.0 ++ codes " controller="))) c.in_ok-add.ensures
    (added one two five (decimal late.place) (codes " beat=" ++ (decimal late.beat.0 ++ codes " controller=")) c.in_ok-add_number.ensures
    (added two three five (codes " beat=") (decimal late.beat.0 ++ codes " controller=") c.in_ok-add-2.ensures
    (added three four five (decimal late.beat.0) (codes " controller=") beat last))))
    c.add-3.ensures
