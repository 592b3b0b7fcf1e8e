use Rattle.std.proofs.Common.{arith, subst, sym}
use Rattle.term_state.specs.MidTick.{MidTick}
use Rattle.term_state.specs.Sights.{spent}
use Rattle.controller_core.specs.Costs.{HaveCost}
use Rattle.controller_core.specs.Trying.{IsTryOf}
use Rattle.controller_core.proofs.trying.write_if.Goals as goal

pub returns-in_default : goal.returns-in_default
returns-in_default g c doc k q before h f r v made =
    subst (λ now. MidTick doc q k before now c.args.cluster.now c.args.store.now c.args.told.now × HaveCost q k h now (spent c.args.cluster.now c.args.steps.now) (spent c.args.cluster.now c.args.steps.now))
    (sym (subst (IsTryOf k q h f) c.in_default.is made)) (r, omega arith)

pub returns : goal.returns
returns g c doc k q before h f r v made =
    let t = subst (IsTryOf k q h f) c.in-Some.is made in
    subst (λ now. MidTick doc q k before now c.try_write.new.cluster c.try_write.new.store c.try_write.new.told × HaveCost q k h now (spent c.args.cluster.now c.args.steps.now) (spent c.try_write.new.cluster c.try_write.new.steps))
    t.adds (c.in_ok-try_write.ensures.stands doc k q before h t.tick r v t.write t.seen, c.in_ok-try_write.ensures.counted doc k q before h t.tick r v t.write)
