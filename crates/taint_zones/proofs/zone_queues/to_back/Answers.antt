use Rattle.std.proofs.Common.{rules, ◌≡◌, ◌∙◌, sym, ap, refl, Option, Some, None}
use Rattle.std.specs.BTreeMap.{get}
use Rattle.std.specs.Option.{option_copied_mut, option_map}
use Rattle.kube_base.specs.declared.numbers.Beat.{Beat}
use Rattle.taint_zones.specs.Homes.{beat_number}
use Rattle.taint_zones.specs.Places.{zone_cmp}
use Rattle.taint_zones.proofs.ZoneMaps.{changed, absent}
use Rattle.taint_zones.proofs.zone_queues.to_back.Goals as goal

agree : (at : Beat) (o : Option Beat) → beat_number (option_map (λ _. at) o) ≡ option_map (λ _. at.0) (beat_number o)
agree at None = refl
agree at (Some b) = refl

pub returns-in-Some : goal.returns-in-Some
returns-in-Some c =
    changed c.args.zones.now (c.get_mut.follows.lender c.to_back.new.self) c.args.place c.args.node (option_map (λ _. c.args.at)) (option_map (λ _. c.args.at.0)) (agree c.args.at)
    c.in-Some.queue.now c.to_back.new.self (sym c.get_mut.ensures.value ∙ ap option_copied_mut c.in-Some.is) ((c.get_mut.follows.holds c.to_back.new.self).3 (search rules)) c.to_back.ensures

pub returns-in_default : goal.returns-in_default
returns-in_default c =
    absent c.args.zones.now c.get_mut.follows.lender-at-none c.args.place c.args.node (option_map (λ _. c.args.at)) (option_map (λ _. c.args.at.0)) (agree c.args.at)
    (sym c.get_mut.ensures.value ∙ ap option_copied_mut c.in_default.is) refl (λ zone. ap (λ m. get zone_cmp m zone) c.get_mut.follows.holds-at-none)
