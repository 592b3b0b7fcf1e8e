use Rattle.std.proofs.Common.{◌≡◌, ◌+◌, sym, ap, ◌∙◌, subst, arith}
use Rattle.kube_objects.specs.Clocks.{local}
use Rattle.kube_objects.specs.Identities.{identity}
use Rattle.kube_objects.specs.Process.{starts}
use Rattle.zone_counts.specs.Settings.{AreSettings}
use Rattle.world_process.proofs.OwnTerm.{owns-started}
use Rattle.world_process.proofs.Readings.{reading-local}
use Rattle.world_process.proofs.Standing.{stands-started, new-unheard}
use Rattle.world_process.proofs.controller.Controller.start.Goals as goal

pub returns-clause-stands : goal.returns-clause-stands
returns-clause-stands c doc n k step p h s at plain few =
    let i : c.saturating_add-incarnation.result ≡ starts p h + 1 = omega (arith, s.incarnation, few, c.saturating_add-incarnation.ensures) in
    let unheard = plain.fresh p (starts p h + 1) (omega arith) in
    stands-started doc k step p c.saturating_add-incarnation.result h c.args.self.now c.start.result c.renew.new.self s i
    (c.start.ensures.stands doc (identity p (starts p h + 1)) h k step s.me i s.timing (c.local-now.ensures.value ∙ reading-local doc p c.args.beat.0 c.args.self.now.clock s.clock ∙ ap (local doc p) at) (new-unheard doc (identity p (starts p h + 1)) h unheard))
    (owns-started doc k step p h c.renew.new.self unheard (λ q g none unled. c.renew.ensures doc q g none unled (subst (λ t. AreSettings doc t.settings) (sym c.deref_mut.ensures.value) s.term.settings)))
