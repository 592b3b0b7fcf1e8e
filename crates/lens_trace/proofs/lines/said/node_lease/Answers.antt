use Rattle.std.proofs.Common.{◌≡◌, [], ◌∷◌, ◌++◌, codes, map}
use Rattle.std.proofs.lemmas.Result.{on_ok_weaker}
use Rattle.lens_json.specs.Members.{Named, named, text}
use Rattle.lens_trace.specs.LineMembers.{answer_members}
use Rattle.lens_trace.proofs.MemberLaws.{gathered}
use Rattle.lens_trace.proofs.lines.said.node_lease.Goals as goal

pub returns : goal.returns
returns c =
    let old = map named c.args.members.now.items in
    let two = map named c.text-2.new.members.items in
    let object : Named = text (codes "object") (codes "nodelease") in
    let node : Named = text (codes "node") c.args.node.now in
    let to_two : two ≡ old ++ object ∷ node ∷ []
    = gathered old (map named c.text.new.members.items) two (object ∷ []) (node ∷ []) c.in_ok-text.ensures c.in_ok-text-2.ensures in
    on_ok_weaker c.answer.result
    (λ then. gathered old two (map named c.answer.new.members.items) (object ∷ node ∷ []) (answer_members c.args.how) to_two then)
    c.answer.ensures
