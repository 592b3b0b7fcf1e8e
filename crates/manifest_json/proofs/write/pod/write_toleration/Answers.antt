use Rattle.std.proofs.Common.{codes, ◌∙◌, ap, Some}
use Rattle.serde_json.specs.Data.{object, string}
use Rattle.manifest_json.specs.Written.{toleration_of, members_of, filled_text}
use Rattle.manifest_json.proofs.WriteLoops.{field-step}
use Rattle.manifest_json.proofs.write.pod.write_toleration.Goals as goal

pub returns : goal.returns
unfolding toleration_of members_of
returns c =
    let m1 = field-step (codes "value") _ _ _ _ _ c.in_ok-put_unless_empty.ensures (ap filled_text c.text_of.ensures) c.new-members.ensures in
    let m2 = field-step (codes "tolerationSeconds") _ _ _ _ _ c.in_ok-put.ensures c.seconds.ensures m1 in
    let m3 = field-step (codes "operator") _ _ _ _ _ c.in_ok-put_text.ensures (ap (λ t. Some (string t)) c.operator_text.ensures) m2 in
    let m4 = field-step (codes "key") _ _ _ _ _ c.in_ok-put_unless_empty-2.ensures (ap filled_text c.text_of-2.ensures) m3 in
    let m5 = field-step (codes "effect") _ _ _ _ _ c.in_ok-put-2.ensures c.in_ok-effect.ensures m4 in
    c.into_value.ensures ∙ ap (λ ms. object ms) m5
