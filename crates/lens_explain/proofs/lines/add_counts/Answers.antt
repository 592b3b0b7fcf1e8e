use Rattle.std.proofs.Common.{◌++◌, length, codes, decimal, ap, ◌∙◌}
use Rattle.std.proofs.lemmas.Result.{on_ok_weaker}
use Rattle.lens_explain.specs.Replies.{well_formed_text}
use Rattle.lens_explain.proofs.Added.{all_added}
use Rattle.lens_explain.proofs.lines.add_counts.Goals as goal

pub returns : goal.returns
unfolding well_formed_text
returns c =
    let d = c.args.document.now in
    let t = c.args.text.now.items in
    let one = c.add_count.new.text.items in
    let two = c.add_count-2.new.text.items in
    let three = c.add_count-3.new.text.items in
    let four = c.add_count-4.new.text.items in
    let five = c.add_count-5.new.text.items in
    on_ok_weaker c.add.result (λ last.
    all_added t one two three four five c.add.new.text.items _ _ _ _ _ (codes "\n")
    (c.in_ok-add_count.ensures ∙ ap (λ l. t ++ (codes "well-formed controllers=" ++ decimal (length l))) c.as_slice.ensures)
    (c.in_ok-add_count-2.ensures ∙ ap (λ l. one ++ (codes " kubelets=" ++ decimal (length l))) c.as_slice-2.ensures)
    (c.in_ok-add_count-3.ensures ∙ ap (λ l. two ++ (codes " objects=" ++ decimal (length l))) c.as_slice-3.ensures)
    c.in_ok-add_count-4.ensures
    (c.in_ok-add_count-5.ensures ∙ ap (λ l. four ++ (codes " events=" ++ decimal (length l))) c.as_slice-4.ensures) last) c.add.ensures
