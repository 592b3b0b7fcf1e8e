use Rattle.std.proofs.Common.{[], ◌∷◌, ◌++◌, codes, map, Some, None, sym, ap, ◌∙◌, append-nil}
use Rattle.std.proofs.lemmas.Result.{on_ok_weaker}
use Rattle.lens_json.specs.Members.{named, nat}
use Rattle.lens_trace.proofs.OverlapLaws.{overlap-told}
use Rattle.lens_trace.proofs.leaders_json.parts.add_overlap.Goals as goal

pub returns-in-Some : goal.returns-in-Some
returns-in-Some c =
    let old = map named c.args.members.now.items in
    let one = map named c.add.new.members.items in
    let two = map named c.add-2.new.members.items in
    let three = map named c.add-3.new.members.items in
    on_ok_weaker c.add-in-Some.result
    (λ then. overlap-told c.args.acting.now c.args.stretch.now (Some c.in-Some.other.now) old one two three (map named c.add-in-Some.new.members.items)
    c.in-Some.ensures (c.in_ok-add.ensures ∙ ap (λ m. old ++ m ∷ []) c.number.ensures)
    (c.in_ok-add-2.ensures ∙ ap (λ m. one ++ m ∷ []) (c.number-2.ensures ∙ ap (nat (codes "from")) c.from.ensures))
    (c.in_ok-add-3.ensures ∙ ap (λ m. two ++ m ∷ []) c.text.ensures) (then ∙ ap (λ m. three ++ m ∷ []) c.text-in-Some.ensures))
    c.add-in-Some.ensures

pub returns-in-None : goal.returns-in-None
returns-in-None c =
    let old = map named c.args.members.now.items in
    let one = map named c.add.new.members.items in
    let two = map named c.add-2.new.members.items in
    let three = map named c.add-3.new.members.items in
    overlap-told c.args.acting.now c.args.stretch.now None old one two three three
    c.in-None.ensures (c.in_ok-add.ensures ∙ ap (λ m. old ++ m ∷ []) c.number.ensures)
    (c.in_ok-add-2.ensures ∙ ap (λ m. one ++ m ∷ []) (c.number-2.ensures ∙ ap (nat (codes "from")) c.from.ensures))
    (c.in_ok-add-3.ensures ∙ ap (λ m. two ++ m ∷ []) c.text.ensures) (sym (append-nil three))
