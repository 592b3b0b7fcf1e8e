use Rattle.std.proofs.Common.{◌≡◌, [], ◌∷◌, ◌++◌, codes, map, ap, ◌∙◌}
use Rattle.std.proofs.lemmas.Result.{on_ok_weaker}
use Rattle.lens_json.specs.Members.{Named, named, nat, text}
use Rattle.lens_trace.specs.LineMembers.{premise_word}
use Rattle.lens_trace.proofs.MemberLaws.{gathered}
use Rattle.lens_trace.proofs.lines.header.gather.Goals as goal

pub returns : goal.returns
returns c =
    let old = map named c.args.members.now.items in
    let one = map named c.text.new.members.items in
    let two = map named c.number.new.members.items in
    let three = map named c.number-2.new.members.items in
    let four = map named c.number-3.new.members.items in
    let kind : Named = text (codes "kind") (codes "trace") in
    let version : Named = nat (codes "version") 1 in
    let millis : Named = nat (codes "beatMillis") c.args.header.beat_millis in
    let end : Named = nat (codes "end") c.args.header.end in
    let premise : Named = text (codes "premise") (premise_word c.args.header.premise) in
    let to_two : two ≡ old ++ kind ∷ version ∷ [] = gathered old one two (kind ∷ []) (version ∷ []) c.in_ok-text.ensures c.in_ok-number.ensures in
    let to_three : three ≡ old ++ kind ∷ version ∷ millis ∷ []
    = gathered old two three (kind ∷ version ∷ []) (millis ∷ []) to_two (c.in_ok-number-2.ensures ∙ ap (λ n. two ++ nat (codes "beatMillis") n ∷ []) c.from.ensures) in
    let to_four : four ≡ old ++ kind ∷ version ∷ millis ∷ end ∷ []
    = gathered old three four (kind ∷ version ∷ millis ∷ []) (end ∷ []) to_three (c.in_ok-number-3.ensures ∙ ap (λ n. three ++ nat (codes "end") n ∷ []) c.from-2.ensures) in
    on_ok_weaker c.text-2.result
    (λ then. gathered old four (map named c.text-2.new.members.items) (kind ∷ version ∷ millis ∷ end ∷ []) (premise ∷ []) to_four
    (then ∙ ap (λ t. four ++ text (codes "premise") t ∷ []) c.premise_word.ensures))
    c.text-2.ensures
