use Rattle.std.proofs.Common.{[], ◌∷◌, ◌++◌, codes, map, sym, ap, ◌∙◌}
use Rattle.std.proofs.lemmas.Result.{on_ok_weaker}
use Rattle.lens_json.specs.Members.{named, nat, text}
use Rattle.lens_trace.specs.LineMembers.{answer_members}
use Rattle.lens_trace.proofs.MemberLaws.{gathered}
use Rattle.lens_trace.proofs.lines.members.answer.Goals as goal

pub returns-in_ok-text-in-Conflict : goal.returns-in_ok-text-in-Conflict
returns-in_ok-text-in-Conflict c =
    let old = map named c.args.members.now.items in
    on_ok_weaker c.number-in-Conflict.result
    (λ then. gathered old (map named c.text.new.members.items) (map named c.number-in-Conflict.new.members.items) (text (codes "answer") (codes "conflict") ∷ [])
    (nat (codes "v") c.in-Conflict.version ∷ []) c.in_ok-text-in-Conflict.ensures then
    ∙ ap (λ a. old ++ answer_members a) (sym c.in-Conflict.is))
    c.number-in-Conflict.ensures
