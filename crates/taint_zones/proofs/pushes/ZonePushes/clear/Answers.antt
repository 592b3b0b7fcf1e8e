use Rattle.std.proofs.Common.{rules, ◌∙◌, ◌==◌, true, false, cond, sym, ap, refl}
use Rattle.std.specs.BTreeMap.{get}
use Rattle.std.specs.Option.{option_copied_mut}
use Rattle.kube_objects.specs.Judgement as model
use Rattle.taint_zones.specs.Places.{zone_cmp, zone_eq}
use Rattle.taint_zones.specs.Pushing.{counts_of, names_of}
use Rattle.taint_zones.proofs.PushMaps.{absent, changed, neither, same_both}
use Rattle.taint_zones.proofs.pushes.ZonePushes.clear.Goals as goal

pub returns-in-Some-clause-names : goal.returns-in-Some-clause-names
returns-in-Some-clause-names c = λ zone.
    changed names_of (λ o. model.clear true (counts_of o c.args.node) c.args.node (names_of o)) c.args.self.now.zones (c.get_mut.follows.lender c.clear.new.self) c.args.place
    c.in-Some.pushes.now c.clear.new.self (sym c.get_mut.ensures.value ∙ ap option_copied_mut c.in-Some.is) ((c.get_mut.follows.holds c.clear.new.self).3 (search rules)) c.clear.ensures.names zone

pub returns-in-Some-clause-counts : goal.returns-in-Some-clause-counts
returns-in-Some-clause-counts c = λ zone other.
    let zones = c.args.self.now.zones in
    changed (λ o. counts_of o other) (λ o. cond (c.args.node == other) false (counts_of o other)) zones (c.get_mut.follows.lender c.clear.new.self) c.args.place
    c.in-Some.pushes.now c.clear.new.self (sym c.get_mut.ensures.value ∙ ap option_copied_mut c.in-Some.is) ((c.get_mut.follows.holds c.clear.new.self).3 (search rules)) (c.clear.ensures.counts other) zone
    ∙ neither (zone_eq c.args.place zone) (c.args.node == other) (counts_of (get zone_cmp zones zone) other)

pub returns-in_default-clause-names : goal.returns-in_default-clause-names
returns-in_default-clause-names c = λ zone.
    absent names_of (λ o. model.clear true (counts_of o c.args.node) c.args.node (names_of o)) c.args.self.now.zones c.get_mut.follows.lender-at-none c.args.place
    (sym c.get_mut.ensures.value ∙ ap option_copied_mut c.in_default.is) (λ zone. ap (λ m. get zone_cmp m zone) c.get_mut.follows.holds-at-none) refl zone

pub returns-in_default-clause-counts : goal.returns-in_default-clause-counts
returns-in_default-clause-counts c = λ zone other.
    let zones = c.args.self.now.zones in
    absent (λ o. counts_of o other) (λ o. cond (c.args.node == other) false (counts_of o other)) zones c.get_mut.follows.lender-at-none c.args.place
    (sym c.get_mut.ensures.value ∙ ap option_copied_mut c.in_default.is) (λ zone. ap (λ m. get zone_cmp m zone) c.get_mut.follows.holds-at-none) (sym (same_both (c.args.node == other) false)) zone
    ∙ neither (zone_eq c.args.place zone) (c.args.node == other) (counts_of (get zone_cmp zones zone) other)
