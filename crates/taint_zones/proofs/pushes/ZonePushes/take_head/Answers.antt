use Rattle.std.proofs.Common.{rules, ◌∙◌, sym, ap}
use Rattle.std.specs.BTreeMap.{get}
use Rattle.std.specs.Option.{option_copied_mut}
use Rattle.taint_zones.specs.Places.{zone_cmp, zone_eq}
use Rattle.taint_zones.specs.Pushing.{counts_of, names_of}
use Rattle.taint_zones.proofs.PushMaps.{changed, no_turn, same_both, turn, turn_absent}
use Rattle.taint_zones.proofs.pushes.ZonePushes.take_head.Goals as goal

pub returns-in-Some-clause-some : goal.returns-in-Some-clause-some
returns-in-Some-clause-some c =
    turn c.args.self.now.zones (c.get_mut.follows.lender c.take_head.new.self) c.args.place c.in-Some.pushes.now c.take_head.new.self
    (sym c.get_mut.ensures.value ∙ ap option_copied_mut c.in-Some.is) ((c.get_mut.follows.holds c.take_head.new.self).3 (search rules)) c.take_head.ensures.some

pub returns-in-Some-clause-none : goal.returns-in-Some-clause-none
returns-in-Some-clause-none c =
    no_turn c.args.self.now.zones (c.get_mut.follows.lender c.take_head.new.self) c.args.place c.in-Some.pushes.now c.take_head.new.self
    (sym c.get_mut.ensures.value ∙ ap option_copied_mut c.in-Some.is) ((c.get_mut.follows.holds c.take_head.new.self).3 (search rules)) c.take_head.ensures.none

pub returns-in-Some-clause-counts : goal.returns-in-Some-clause-counts
returns-in-Some-clause-counts c = λ zone other.
    changed (λ o. counts_of o other) (λ o. counts_of o other) c.args.self.now.zones (c.get_mut.follows.lender c.take_head.new.self) c.args.place c.in-Some.pushes.now c.take_head.new.self
    (sym c.get_mut.ensures.value ∙ ap option_copied_mut c.in-Some.is) ((c.get_mut.follows.holds c.take_head.new.self).3 (search rules)) (c.take_head.ensures.counts other) zone
    ∙ same_both (zone_eq c.args.place zone) (counts_of (get zone_cmp c.args.self.now.zones zone) other)

pub returns-in_default-clause-some : goal.returns-in_default-clause-some
returns-in_default-clause-some c =
    turn_absent c.args.self.now.zones c.get_mut.follows.lender-at-none c.args.place (sym c.get_mut.ensures.value ∙ ap option_copied_mut c.in_default.is)
    (λ zone. ap (λ m. get zone_cmp m zone) c.get_mut.follows.holds-at-none)

pub returns-in_default-clause-none : goal.returns-in_default-clause-none
returns-in_default-clause-none c = λ zone is. ap (λ m. names_of (get zone_cmp m zone)) c.get_mut.follows.holds-at-none ∙ is

pub returns-in_default-clause-counts : goal.returns-in_default-clause-counts
returns-in_default-clause-counts c = λ zone other. ap (λ m. counts_of (get zone_cmp m zone) other) c.get_mut.follows.holds-at-none
