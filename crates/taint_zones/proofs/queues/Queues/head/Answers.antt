use Rattle.std.proofs.Common.{◌≡◌, ◌∙◌, ℕ, Option, Some, None, IfSome, sym, ap, subst, true, refl}
use Rattle.std.specs.BTreeMap.{BTreeMap, get}
use Rattle.std.specs.Option.{option_copied}
use Rattle.kube_base.specs.declared.numbers.Beat.{Beat}
use Rattle.taint_queue.specs.Order.{precedes}
use Rattle.taint_queue.specs.Queue.{waits_since}
use Rattle.taint_queue.specs.declared.queue.Queue.{Queue}
use Rattle.taint_zones.specs.declared.place.Place.{Place}
use Rattle.taint_zones.specs.Homes.{beat_number, since_in, since_at}
use Rattle.taint_zones.specs.Places.{zone_cmp}
use Rattle.taint_zones.proofs.Homing.{none_is, some_is}
use Rattle.taint_zones.proofs.queues.Queues.head.Goals as goal

first : (zones : BTreeMap Place Queue) (place : Place) (queue : Queue) (o : Option ℕ) → get zone_cmp zones place ≡ Some queue
    → IfSome o (λ node. (at : Beat) × (waits_since queue node ≡ Some at) × ((other : ℕ) (since : Beat) → waits_since queue other ≡ Some since → precedes at.0 node since.0 other ≡ true))
    → IfSome o (λ node. (at : ℕ) × (since_at zones place node ≡ Some at) × ((other beat : ℕ) → since_at zones place other ≡ Some beat → precedes at node beat other ≡ true))
first zones place queue None found f = f
first zones place queue (Some node) found (at, is, least) = (at.0, ap (λ o. since_in o node) found ∙ ap beat_number is, before)
  where
    by_beat : (other beat : ℕ) (o : Option Beat) → waits_since queue other ≡ o → beat_number o ≡ Some beat → precedes at.0 node beat other ≡ true
    by_beat other beat None was is = absurd (none_is beat is)
    by_beat other beat (Some b) was is = subst (λ n. precedes at.0 node n other ≡ true) (some_is b.0 beat is) (least other b was)

    before : (other beat : ℕ) → since_at zones place other ≡ Some beat → precedes at.0 node beat other ≡ true
    before other beat is = by_beat other beat (waits_since queue other) refl (sym (ap (λ o. since_in o other) found) ∙ is)

pub returns-in-Some-clause-first : goal.returns-in-Some-clause-first
returns-in-Some-clause-first c =
    first c.args.self.now.zones c.args.place c.in-Some.queue.now c.head.result (sym c.get.ensures.value ∙ ap option_copied c.in-Some.is) c.head.ensures.first
