use Rattle.std.proofs.Common.{rules, ◌∙◌, sym, ap, subst}
use Rattle.std.specs.Option.{option_copied_mut}
use Rattle.taint_zones.specs.Limits.{LimitStands}
use Rattle.taint_zones.specs.Places.{entry_place, of_place}
use Rattle.taint_zones.proofs.Tokening.{limit_kept, limit_taken, no_token, token_is}
use Rattle.taint_zones.proofs.zones.Zones.try_take.Goals as goal

pub returns-in-Some-clause-there : goal.returns-in-Some-clause-there
returns-in-Some-clause-there c doc q k h s reading =
    c.try_take.ensures.taken ∙ token_is doc q k h (entry_place c.args.place) c.in-Some.limit.now c.args.now.0
    (subst (LimitStands doc q h (entry_place c.args.place)) (sym c.get_mut.ensures.value ∙ ap option_copied_mut c.in-Some.is) (s (entry_place c.args.place)))
    reading

pub returns-in-None-clause-there : goal.returns-in-None-clause-there
returns-in-None-clause-there c doc q k h s reading =
    no_token doc q k h (entry_place c.args.place)
    (subst (LimitStands doc q h (entry_place c.args.place)) (sym c.get_mut.ensures.value ∙ ap option_copied_mut c.in-None.is) (s (entry_place c.args.place)))

pub returns-in-Some-clause-kept : goal.returns-in-Some-clause-kept
returns-in-Some-clause-kept c is zone =
    limit_kept c.args.self.now.limits (c.get_mut.follows.lender (record { state = c.in-Some.limit.now.state; rate = c.in-Some.limit.now.rate; bucket = c.try_take.new.self }))
    c.args.place c.in-Some.limit.now c.try_take.new.self c.args.now.0 c.try_take.result (sym c.get_mut.ensures.value ∙ ap option_copied_mut c.in-Some.is)
    ((c.get_mut.follows.holds (record { state = c.in-Some.limit.now.state; rate = c.in-Some.limit.now.rate; bucket = c.try_take.new.self })).3 (search rules))
    c.try_take.ensures.after is (of_place zone)

pub returns-in-Some-clause-taken : goal.returns-in-Some-clause-taken
returns-in-Some-clause-taken c is zone =
    limit_taken c.args.self.now.limits (c.get_mut.follows.lender (record { state = c.in-Some.limit.now.state; rate = c.in-Some.limit.now.rate; bucket = c.try_take.new.self }))
    c.args.place c.in-Some.limit.now c.try_take.new.self c.args.now.0 c.try_take.result (sym c.get_mut.ensures.value ∙ ap option_copied_mut c.in-Some.is)
    ((c.get_mut.follows.holds (record { state = c.in-Some.limit.now.state; rate = c.in-Some.limit.now.rate; bucket = c.try_take.new.self })).3 (search rules))
    c.try_take.ensures.after is (of_place zone)
