use Rattle.std.proofs.Common.{◌≡◌, [], ◌∷◌, ◌++◌, codes, map, sym, ap, ◌∙◌}
use Rattle.std.proofs.lemmas.Result.{on_ok_weaker}
use Rattle.lens_json.specs.Members.{Named, named, nat, text}
use Rattle.lens_trace.specs.LineMembers.{answer_members, election_members}
use Rattle.lens_trace.proofs.MemberLaws.{gathered}
use Rattle.lens_trace.proofs.lines.said.election.Goals as goal

abbrev object : Named
object = text (codes "object") (codes "election")

pub returns-in_ok-number-in-Done : goal.returns-in_ok-number-in-Done
returns-in_ok-number-in-Done c =
    let old = map named c.args.members.now.items in
    let one = map named c.text.new.members.items in
    let two = map named c.number.new.members.items in
    let version : Named = nat (codes "v") c.in-Done.version in
    let to_two : two ≡ old ++ object ∷ version ∷ [] = gathered old one two (object ∷ []) (version ∷ []) c.in_ok-text.ensures c.in_ok-number-in-Done.ensures in
    on_ok_weaker c.number-in-Done.result
    (λ then. gathered old two (map named c.number-in-Done.new.members.items) (object ∷ version ∷ []) (nat (codes "t") c.args.transitions ∷ []) to_two
    (then ∙ ap (λ n. two ++ nat (codes "t") n ∷ []) c.from.ensures)
    ∙ ap (λ a. old ++ object ∷ election_members a c.args.transitions) (sym c.in-Done.is))
    c.number-in-Done.ensures

pub returns-in-Conflict : goal.returns-in-Conflict
returns-in-Conflict c =
    let old = map named c.args.members.now.items in
    let same : answer_members c.args.how ≡ election_members c.args.how c.args.transitions
    = ap answer_members c.in-Conflict.is ∙ sym (ap (λ a. election_members a c.args.transitions) c.in-Conflict.is) in
    on_ok_weaker c.answer.result
    (λ then. gathered old (map named c.text.new.members.items) (map named c.answer.new.members.items) (object ∷ []) (answer_members c.args.how) c.in_ok-text.ensures then
    ∙ ap (λ ms. old ++ object ∷ ms) same)
    c.answer.ensures

pub returns-in-Absent : goal.returns-in-Absent
returns-in-Absent c =
    let old = map named c.args.members.now.items in
    let same : answer_members c.args.how ≡ election_members c.args.how c.args.transitions
    = ap answer_members c.in-Absent.is ∙ sym (ap (λ a. election_members a c.args.transitions) c.in-Absent.is) in
    on_ok_weaker c.answer-in-Absent.result
    (λ then. gathered old (map named c.text.new.members.items) (map named c.answer-in-Absent.new.members.items) (object ∷ []) (answer_members c.args.how) c.in_ok-text.ensures then
    ∙ ap (λ ms. old ++ object ∷ ms) same)
    c.answer-in-Absent.ensures

pub returns-in-Exists : goal.returns-in-Exists
returns-in-Exists c =
    let old = map named c.args.members.now.items in
    let same : answer_members c.args.how ≡ election_members c.args.how c.args.transitions
    = ap answer_members c.in-Exists.is ∙ sym (ap (λ a. election_members a c.args.transitions) c.in-Exists.is) in
    on_ok_weaker c.answer-in-Exists.result
    (λ then. gathered old (map named c.text.new.members.items) (map named c.answer-in-Exists.new.members.items) (object ∷ []) (answer_members c.args.how) c.in_ok-text.ensures then
    ∙ ap (λ ms. old ++ object ∷ ms) same)
    c.answer-in-Exists.ensures
