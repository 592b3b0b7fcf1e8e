use Rattle.std.proofs.Common.{rules, ◌∙◌, ℕ, sym, ap, refl, Option, None}
use Rattle.std.specs.BTreeMap.{get}
use Rattle.std.specs.Option.{option_copied_mut}
use Rattle.kube_base.specs.declared.numbers.Beat.{Beat}
use Rattle.taint_zones.specs.Places.{zone_cmp}
use Rattle.taint_zones.proofs.ZoneMaps.{changed, absent}
use Rattle.taint_zones.proofs.zone_queues.leave.Goals as goal

pub returns-in-Some : goal.returns-in-Some
returns-in-Some c =
    changed c.args.zones.now (c.get_mut.follows.lender c.leave.new.self) c.args.place c.args.node (λ (o : Option Beat). None) (λ (o : Option ℕ). None) (λ o. refl)
    c.in-Some.queue.now c.leave.new.self (sym c.get_mut.ensures.value ∙ ap option_copied_mut c.in-Some.is) ((c.get_mut.follows.holds c.leave.new.self).3 (search rules)) c.leave.ensures

pub returns-in_default : goal.returns-in_default
returns-in_default c =
    absent c.args.zones.now c.get_mut.follows.lender-at-none c.args.place c.args.node (λ (o : Option Beat). None) (λ (o : Option ℕ). None) (λ o. refl)
    (sym c.get_mut.ensures.value ∙ ap option_copied_mut c.in_default.is) refl (λ zone. ap (λ m. get zone_cmp m zone) c.get_mut.follows.holds-at-none)
