use Rattle.std.proofs.Common.{◌≡◌, ◌∙◌, ◌&&◌, not, true, false, ap, subst, sym}
use Rattle.std.specs.List.Sorted.{IsStrictlySortedBy}
use Rattle.std.specs.Ordering.{nat_cmp}
use Rattle.kube_objects.specs.Health.{is_known}
use Rattle.kube_objects.specs.Judgement.{strips}
use Rattle.node_health.specs.Kept.{is_listed}
use Rattle.controller_core.proofs.pass.found.is_new.Goals as goal

pub returns-then-strips : goal.returns-then-strips
returns-then-strips c doc q h s held =
    let there : strips doc.settings.rules.first_sight ≡ true = sym (c.strips.ensures ∙ ap strips s.first_sight) ∙ c.if-strips.true in
    let known : c.holds.result ≡ is_known q c.args.name h =
    c.holds.ensures (subst (IsStrictlySortedBy nat_cmp) (sym c.as_slice.ensures) held.ascend) ∙ ap (λ names. is_listed names c.args.name) c.as_slice.ensures ∙ held.names.named c.args.name in
    ap not known ∙ sym (ap (λ b. b && not (is_known q c.args.name h)) there)

pub returns-else-strips : goal.returns-else-strips
returns-else-strips c doc q h s held =
    let gone : strips doc.settings.rules.first_sight ≡ false = sym (c.strips.ensures ∙ ap strips s.first_sight) ∙ c.if-strips.false in
    c.if-strips.false ∙ sym (ap (λ b. b && not (is_known q c.args.name h)) gone)
