use Rattle.std.proofs.Common.{codes, ◌∙◌, ap}
use Rattle.manifest_json.specs.Written.{lease_spec_of, members_of, filled_text, filled_object}
use Rattle.manifest_json.proofs.WriteLoops.{field-step}
use Rattle.manifest_json.proofs.write.lease.spec.Goals as goal

pub returns : goal.returns
unfolding lease_spec_of members_of
returns c =
    let m1 = field-step (codes "renewTime") _ _ _ _ _ c.in_ok-put.ensures c.in_ok-renewed.ensures c.new-members.ensures in
    let m2 = field-step (codes "leaseTransitions") _ _ _ _ _ c.in_ok-put-2.ensures c.count.ensures m1 in
    let m3 = field-step (codes "leaseDurationSeconds") _ _ _ _ _ c.in_ok-put-3.ensures c.count-2.ensures m2 in
    let m4 = field-step (codes "holderIdentity") _ _ _ _ _ c.in_ok-put_unless_empty.ensures (ap filled_text (c.as_str.ensures.value ∙ c.in_ok-holder.ensures)) m3 in
    let m5 = field-step (codes "acquireTime") _ _ _ _ _ c.in_ok-put-4.ensures c.in_ok-acquired.ensures m4 in
    c.into_value_unless_empty.ensures ∙ ap filled_object m5
