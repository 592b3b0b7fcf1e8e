use Rattle.std.proofs.Common.{◌≡◌, ◌∙◌, ◌==◌, ◌&&◌, not, true, false, ap, sym, arith}
use Rattle.std.proofs.lemmas.Bool.Decides.{nat_tests}
use Rattle.kube_objects.specs.InForce.{watches}
use Rattle.kube_objects.specs.Seen.{is_fresh}
use Rattle.controller_core.proofs.sync.syncs_at_once.Goals as goal

pub returns-then-first_sync_millis-eq0 : goal.returns-then-first_sync_millis-eq0
returns-then-first_sync_millis-eq0 c doc q h first s st is =
    let none : (doc.settings.rules.first_sync_millis == 0) ≡ true = ap (λ n. n == 0) (sym first ∙ c.if-first_sync_millis-eq0.true) in
    c.syncs.ensures doc q h s st is ∙ sym (ap (λ b. b && (watches doc q.process h && not (is_fresh q h))) none)

pub returns-else-first_sync_millis-eq0 : goal.returns-else-first_sync_millis-eq0
returns-else-first_sync_millis-eq0 c doc q h first s st is =
    let some : (doc.settings.rules.first_sync_millis == 0) ≡ false = grind (arith, nat_tests, c.if-first_sync_millis-eq0.false, first) in
    ap (λ n. n == 0) first ∙ some ∙ sym (ap (λ b. b && (watches doc q.process h && not (is_fresh q h))) some)
