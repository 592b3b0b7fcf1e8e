use Rattle.std.proofs.Common.{◌≡◌, ◌∙◌, sym, ap, cond, None, refl}
use Rattle.std.proofs.lemmas.Bool.{eq-eqb}
use Rattle.taint_zones.specs.declared.place.Place.{Place}
use Rattle.taint_zones.specs.Homes.{since_at}
use Rattle.taint_zones.proofs.Homing.{either_way, home_new, left_others, same_home, same_homes, stays}
use Rattle.taint_zones.proofs.queues.Queues.leave_others.Goals as goal

pub returns-then-is_home-clause-left : goal.returns-then-is_home-clause-left
returns-then-is_home-clause-left c =
    stays c.args.self.now.zones c.args.self.now.zones c.args.self.now.homes c.args.self.now.at_home c.args.node c.args.place
    (same_home c.args.place _ (sym c.is_home.ensures ∙ c.if-is_home.true))

pub invariant_of-self : goal.invariant_of-self
invariant_of-self c =
    let nowhere : (zone : Place) → since_at c.leave.new.self.zones zone c.args.node ≡ None =
    λ zone. c.leave.ensures zone c.args.node ∙ ap (λ b. cond b None (since_at c.args.self.now.zones zone c.args.node)) (eq-eqb c.args.node c.args.node refl) in
    record {
      at_home = either_way c.insert.result _ _ _ c.insert.ensures.updates c.insert.ensures.err
          (λ u. home_new c.leave.new.self.zones c.leave.new.self.homes c.insert.new.self c.args.node c.args.place c.leave.new.self.at_home nowhere u.2)
          (λ u. home_new c.leave.new.self.zones c.leave.new.self.homes c.insert.new.self c.args.node c.args.place c.leave.new.self.at_home nowhere
          (λ other apart. same_homes c.leave.new.self.homes c.insert.new.self u other));
    }

pub returns-clause-left : goal.returns-clause-left
returns-clause-left c =
    left_others c.args.self.now.zones c.leave.new.self.zones c.args.self.now.homes c.args.node c.args.place c.args.self.now.at_home (sym c.is_home.ensures ∙ c.if-is_home.false) c.leave.ensures
