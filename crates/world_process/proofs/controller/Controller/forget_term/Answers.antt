use Rattle.std.proofs.Common.{sym, subst}
use Rattle.zone_counts.specs.Settings.{AreSettings}
use Rattle.world_process.proofs.Forgetting.{stands-forgets}
use Rattle.world_process.proofs.controller.Controller.forget_term.Goals as goal

pub returns-clause-stands : goal.returns-clause-stands
returns-clause-stands c doc p h s =
    stands-forgets doc p h c.args.self.now c.renew.new.self c.requires s
    (λ q g none unled. c.renew.ensures doc q g none unled (subst (λ t. AreSettings doc t.settings) (sym c.deref_mut.ensures.value) s.term.settings))
