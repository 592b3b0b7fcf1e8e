use Rattle.std.proofs.Common.{◌≡◌, inl, inr, ◌<◌, ◌⊎◌, Some, None, IfSome, refl, sym, subst, arith, rules}
use Rattle.history_laws.proofs.Plainly.{false_is}
use Rattle.kube_objects.specs.Entry as entry
use Rattle.taint_zones.specs.Places.{entry_place}
use Rattle.controller_core.proofs.Tainting.ZoneWalk.{fewer_left, zones_left}
use Rattle.controller_core.specs.HeadsStand.{IsNextHead}
use Rattle.controller_core.specs.Wakes.{IsTokenReading}
use Rattle.controller_core.proofs.Readying.{answered_all, either, end_covered, next_covered}
use Rattle.controller_core.proofs.term.Term.first_ready.Goals as goal

pub loop-next-init : goal.loop-next-init
loop-next-init c = record {
  least = omega arith;
  there = λ doc q h s. inl refl;
  walk = (None, c.next_zone-next.ensures.later, λ doc q h s. (c.next_zone-next.ensures.next doc q h s, λ place at out r. absurd (false_is (sym out))));
}

pub loop-next-smaller : goal.loop-next-smaller
loop-next-smaller c =
    let place = c.in-Some.place in
    let region : place.region < 4294967296 = omega arith in
    let zone : place.zone < 4294967296 = omega arith in
    subst (λ o. zones_left c.next_zone-next-in-Some.result < zones_left o) (sym c.in-Some.is) (fewer_left place c.next_zone-next-in-Some.result region zone c.next_zone-next-in-Some.ensures.later)

pub loop-next-preserved : goal.loop-next-preserved
loop-next-preserved c =
    let place = c.in-Some.place in
    let i = c.loop-next.invariant in
    record {
      least = omega (arith, c.earlier-least.ensures.least, i.least);
      there = λ doc q h s. either c.earlier-least.ensures.there
          (λ same. subst (λ at. (at ≡ c.args.given) ⊎ ((p : entry.Place) × IsTokenReading doc q h p at.0)) (sym same) (i.there doc q h s))
          (λ new. inr (entry_place place, subst (λ o. IfSome o (λ at. IsTokenReading doc q h (entry_place place) at.0)) new (c.ready.ensures.reading doc q h s)));
      walk = (
        Some place,
        c.next_zone-next-in-Some.ensures.later,
        λ doc q h s.
            let before = i.walk.2 doc q h s in
            let next = subst (IsNextHead doc q h i.walk.0) c.in-Some.is before.0 in (
              c.next_zone-next-in-Some.ensures.next doc q h s,
              next_covered doc q h i.walk.0 place c.loop-next.least.0 c.earlier-least.result.0 next c.earlier-least.ensures.least before.1
                  (answered_all doc q h (entry_place place) c.ready.result c.earlier-least.result.0 (c.ready.ensures.reading doc q h s) (c.ready.ensures.none doc q h s) c.earlier-least.ensures.other),
            ),
      );
    }

pub returns-clause-all : goal.returns-clause-all
returns-clause-all c doc q h place at s r =
    let i = c.loop-next.invariant in
    let all = i.walk.2 doc q h s in
    let none : c.loop-next.next ≡ None = search rules in
    end_covered doc q h i.walk.0 c.loop-next.least.0 (subst (IsNextHead doc q h i.walk.0) none all.0) all.1 place at r

pub returns-clause-least : goal.returns-clause-least
returns-clause-least c = c.loop-next.invariant.least

pub returns-clause-there : goal.returns-clause-there
returns-clause-there c doc q h s = c.loop-next.invariant.there doc q h s
