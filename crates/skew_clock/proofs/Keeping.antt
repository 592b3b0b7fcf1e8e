-- A clock's segments stay in keeping with its rates as rates are set.
use Rattle.std.proofs.Common.{Vec, length-append, ◌≡◌, ℕ, ◌-◌, ◌<◌, ◌≤◌, List, [], ◌∷◌, ◌++◌, length, map, get_or, refl, sym, ◌∙◌, ap, subst, arith}
use Rattle.std.specs.Prelude.{All}
use Rattle.std.specs.declared.alloc.Global.{Global}
use Rattle.std.specs.List.Sorted.{IsNonDecreasingBy}
use Rattle.std.proofs.lemmas.List.{map-append, reverse-append, get_or_append_left, get_or_push}
use Rattle.std.proofs.lemmas.List.Elements.{All-push, All-weaker, All-cons, All-nil}
use Rattle.std.proofs.lemmas.List.Sorted.{IsNonDecreasingBy-push, IsNonDecreasingBy-short}
use Rattle.skew_clock.specs.Clocking.{Clocking, rate_at, reading, last_set, IsRate, IsEpoch, IsOffset, IsSpan}
use Rattle.skew_clock.specs.Segments.{set_of, sets_of, clocking_of, Keeps, IsKept}
use Rattle.skew_clock.specs.declared.clock.Segment.{Segment}
use Rattle.skew_clock.specs.declared.clock.Clock.TheInside.{Inside}
use Rattle.skew_clock.proofs.Readings.{reading-zero, reading-same}
use Rattle.skew_clock.proofs.SegmentsLemmas.{skipped}

sets_of-push : (segments : List Segment) (s : Segment) → sets_of (segments ++ s ∷ []) ≡ set_of s ∷ sets_of segments
sets_of-push segments s = rw (map-append set_of segments (s ∷ [])) (reverse-append (map set_of segments) (set_of s ∷ []))

-- a newer set changes no reading up to its beat
keeps-on : (c d : Clocking) (s : Segment) (newest : ℕ × ℕ) → d.beat_micros ≡ c.beat_micros → d.sets ≡ newest ∷ c.sets → last_set c.sets ≤ newest.0 → Keeps c s → Keeps d s
keeps-on c d s newest beats sets later keeps =
    let rates : (j : ℕ) → j < s.beat.0 → rate_at c.sets j ≡ rate_at d.sets j =
    λ j before. rw sets (sym (skipped newest c.sets j (omega (arith, keeps.within)))) in
    record { at_reading = keeps.at_reading ∙ reading-same c d s.beat.0 (sym beats) rates; within = rw sets (omega (arith, keeps.within)); in_range = keeps.in_range }

pub kept-push : (a : Inside) (v : Vec Segment Global) (s : Segment) → IsKept a → v.items ≡ a.segments.items ++ s ∷ [] → last_set (sets_of a.segments.items) ≤ s.beat.0 → s.beat.0 ≤ a.end.0 → IsRate s.ppm → s.reading.0 ≡ reading (clocking_of a) s.beat.0 → IsKept (record a { segments = v; last = s })
kept-push a v s kept items later within rate at_reading =
    let old = a.segments.items in
    let c = clocking_of a in
    let d : Clocking = clocking_of (record a { segments = v; last = s }) in
    let sets : d.sets ≡ set_of s ∷ c.sets = ap sets_of items ∙ sets_of-push old s in
    let newer : last_set d.sets ≡ s.beat.0 = ap last_set sets in
    let rates : (j : ℕ) → j < s.beat.0 → rate_at c.sets j ≡ rate_at d.sets j =
    λ j before. rw sets (sym (skipped (set_of s) c.sets j before)) in
    let keeps : Keeps d s = record { at_reading = at_reading ∙ reading-same c d s.beat.0 refl rates; within = omega arith; in_range = rate } in
    let each = All-weaker (Keeps c) (Keeps d) (λ t. keeps-on c d t (set_of s) refl sets later) old kept.each in
    let before : (e : Segment) → 0 < length old → (get_or old (length old - 1) e).beat.0 ≤ s.beat.0 =
    λ e some. let last = kept.each (length old - 1) e (omega arith) in omega (arith, last.within) in
    record {
      some = rw items (omega (arith, length-append old (s ∷ [])));
      first = λ e. rw (items, get_or_append_left old (s ∷ []) e 0 kept.some) (kept.first e);
      ordered = subst (IsNonDecreasingBy (λ (t : Segment). t.beat.0)) (sym items) (IsNonDecreasingBy-push (λ (t : Segment). t.beat.0) old s kept.ordered before);
      each = subst (All (Keeps d)) (sym items) (All-push (Keeps d) old s each keeps);
      newest = rw items (sym (get_or_push old s s _ (omega (arith, length-append old (s ∷ [])))));
      last = omega arith;
      epoch = kept.epoch;
      offset = kept.offset;
      span = kept.span;
    }

pub kept-first : (a : Inside) (s : Segment) → a.segments.items ≡ s ∷ [] → a.last ≡ s → s.beat.0 ≡ 0 → s.reading.0 ≡ 0 → IsRate s.ppm → IsEpoch a.epoch.0 → IsOffset a.offset_micros → IsSpan a.beat_micros a.end.0 → IsKept a
kept-first a s items last beat reads rate epoch offset span =
    let P = Keeps (clocking_of a) in
    let sets : sets_of a.segments.items ≡ set_of s ∷ [] = ap sets_of items in
    let keeps : P s = record { at_reading = reads ∙ sym (reading-zero (clocking_of a)) ∙ ap (reading (clocking_of a)) (sym beat); within = omega arith; in_range = rate } in
    record {
      some = rw items (omega arith);
      first = λ d. rw items beat;
      ordered = IsNonDecreasingBy-short (λ (t : Segment). t.beat.0) a.segments.items (rw items (omega arith));
      each = subst (All P) (sym items) (All-cons P s [] keeps (All-nil P));
      newest = rw items last;
      last = rw sets (omega arith);
      epoch = epoch;
      offset = offset;
      span = span;
    }
