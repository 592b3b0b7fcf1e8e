use Rattle.std.proofs.Common.{codes, ◌∙◌, ap, refl, Some}
use Rattle.serde_json.specs.Data.{object}
use Rattle.manifest_json.specs.Written.{lease_of, members_of}
use Rattle.manifest_json.proofs.WriteLoops.{field-step}
use Rattle.manifest_json.proofs.write.lease.write_lease.Goals as goal

pub returns : goal.returns
unfolding lease_of members_of
returns c =
    let m1 = field-step (codes "spec") _ _ _ _ _ c.in_ok-put.ensures c.in_ok-spec.ensures c.new-members.ensures in
    let m2 = field-step (codes "metadata") _ _ _ _ _ c.in_ok-put-2.ensures (ap (λ d. Some d) c.in_ok-metadata.ensures) m1 in
    let m3 = field-step (codes "kind") _ _ _ _ _ c.in_ok-put_text.ensures refl m2 in
    let m4 = field-step (codes "apiVersion") _ _ _ _ _ c.in_ok-put_text-2.ensures refl m3 in
    c.into_value.ensures ∙ ap (λ ms. object ms) m4
