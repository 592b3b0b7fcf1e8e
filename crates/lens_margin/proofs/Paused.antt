-- A document with one more pause has the same rates, and of the pauses that count the longer.
use Rattle.std.proofs.Common.{◌≡◌, ℕ, zero, suc, ◌+◌, ◌-◌, ◌*◌, ◌≤◌, nat_lt, Bool, true, false, cond, List, [], ◌∷◌, length, Option, Some, None, refl, sym, ap, ap₂, ◌∙◌, arith, eq-eqb}
use Rattle.std.proofs.lemmas.Bool.{le-ltb}
use Rattle.std.proofs.lemmas.Bool.Decides.{nat_tests}
use Rattle.kube_objects.specs.Clocks.{rate, last_rate}
use Rattle.kube_objects.specs.Document.{Doc, end_beat, beat_micros, first_rate}
use Rattle.kube_objects.specs.Newest.{when, only_if, or_else}
use Rattle.kube_objects.specs.Pauses.{pause_of}
use Rattle.kube_objects.specs.declared.script.Event.{Event}
use Rattle.kube_objects.specs.declared.rules.RespectRule.{RespectRule}
use Rattle.kube_objects.specs.declared.rules.RespectRule.TheVariants as respects
use Rattle.history.specs.Premise.{less, more, stands, longest, longest_below, second_below, least_rate, greatest_rate, greatest_below, least_lease, waited_by, calls_late, stall_by, span_by}
use Rattle.script_reader.specs.Leases.{beside_by}
use Rattle.lens_margin.specs.Laws.{outlasted, paused, bears}
use Rattle.lens_margin.specs.Margins.{slowest}

-- the beats of a further pause, and one more
abbrev pub counts : ℕ → ℕ
counts zero = 0
counts (suc n) = suc n + 1

-- of the beats that pauses may add those that a further one takes the place of, where it is longer
abbrev pub rest_by : (calls : ℕ) → Doc → ℕ → ℕ
rest_by zero doc p = longest doc p
rest_by (suc calls) doc p = second_below p doc.events

none-added : (n : ℕ) → n ≡ 0 + n
none-added n = omega arith

pub stall-parts : (calls : ℕ) (doc : Doc) (p : ℕ) → stall_by calls doc p ≡ beside_by calls doc p + rest_by calls doc p
stall-parts zero doc p = none-added (longest doc p)
stall-parts (suc calls) doc p = refl

second-less : (p : ℕ) (es : List Event) → second_below p es ≤ longest_below p es
second-less p [] = omega arith
second-less p (e ∷ es) = less-step (longest_below p es) (second_below p es) (stands (pause_of p e.what)) (second-less p es)
  where
    less-step : (first second n : ℕ) → second ≤ first → more second (less first n) ≤ more first n
    less-step first second n below = grind (arith, nat_tests)

-- a further pause counts beside the longest of all
beside-longest : (first second n : ℕ) → second ≤ first → more first n + more second (less first n) ≡ first + more second n
beside-longest first second n below = grind (arith, nat_tests)

unset : (o : Option ℕ) (b : Bool) → elim o [ None ↦ only_if b None | Some ppm ↦ Some ppm ] ≡ o
unset None true = refl
unset None false = refl
unset (Some ppm) b = refl

module _ (doc : Doc) (p m : ℕ) where
  abbrev more_paused : Doc
  more_paused = paused doc p (suc m)

  rate-same : (q k : ℕ) → rate more_paused q k ≡ rate doc q k
  rate-same q k = ap (or_else (first_rate doc q)) (unset (last_rate q k doc.events) _)

  least-same : (q k : ℕ) → least_rate more_paused q k ≡ least_rate doc q k
  least-same q zero = rate-same q 0
  least-same q (suc k) = ap₂ less (least-same q k) (rate-same q (suc k))

  greatest-same : (q k : ℕ) → greatest_rate more_paused q k ≡ greatest_rate doc q k
  greatest-same q zero = rate-same q 0
  greatest-same q (suc k) = ap₂ more (greatest-same q k) (rate-same q (suc k))

  below-same : (c : ℕ) → greatest_below more_paused c ≡ greatest_below doc c
  below-same zero = refl
  below-same (suc c) = ap₂ more (below-same c) (greatest-same c (end_beat doc))

  longest-more : longest more_paused p ≡ more (longest doc p) (suc m + 1)
  longest-more = ap (λ b. more (longest doc p) (stands (when b (suc m)))) (eq-eqb p p refl)

  second-more : second_below p more_paused.events ≡ more (second_below p doc.events) (less (longest doc p) (suc m + 1))
  second-more = ap (λ b. more (second_below p doc.events) (less (longest doc p) (stands (when b (suc m))))) (eq-eqb p p refl)

  -- what its pauses may add
  stall-more : (calls : ℕ) → stall_by calls more_paused p ≡ beside_by calls doc p + more (rest_by calls doc p) (suc m + 1)
  stall-more zero = longest-more ∙ none-added (more (longest doc p) (suc m + 1))
  stall-more (suc calls) =
      ap₂ (λ a b. a + b) longest-more second-more
      ∙ beside-longest (longest doc p) (second_below p doc.events) (suc m + 1) (second-less p doc.events)

  span-same : (calls : ℕ) → span_by calls more_paused p ≡ span_by calls doc p
  span-same zero = refl
  span-same (suc calls) = refl

  leases-same : (q : ℕ) → least_lease more_paused q ≡ least_lease doc q
  leases-same zero = refl
  leases-same (suc q) = ap₂ less (leases-same q) refl

  waited-same : (respect : RespectRule) → waited_by respect more_paused p ≡ waited_by respect doc p
  waited-same respects.Record = refl
  waited-same respects.Own = leases-same (length doc.controllers - 1)

  bears-more : bears doc p (suc m)
      ≡ nat_lt (outlasted doc p (beside_by (calls_late doc) doc p + more (rest_by (calls_late doc) doc p) (suc m + 1))) (waited_by doc.settings.rules.respect doc p * slowest doc p)
  bears-more =
      let calls = calls_late doc in
      λ i.
      nat_lt
      (stall-more calls i * (beat_micros doc * below-same (length doc.controllers) i) * least-same p (end_beat doc) i
      + span-same calls i * below-same (length doc.controllers) i)
      (waited-same doc.settings.rules.respect i * least-same p (end_beat doc) i)

more-none : (n : ℕ) → more n 0 ≡ n
more-none n = ap (λ b. cond b 0 n) (le-ltb n 0 (omega arith))

pub bears-is : (doc : Doc) (p n : ℕ)
    → bears doc p n ≡ nat_lt (outlasted doc p (beside_by (calls_late doc) doc p + more (rest_by (calls_late doc) doc p) (counts n))) (waited_by doc.settings.rules.respect doc p * slowest doc p)
bears-is doc p zero =
    let calls = calls_late doc in
    ap
    (λ stall. nat_lt (outlasted doc p stall) (waited_by doc.settings.rules.respect doc p * slowest doc p))
    (stall-parts calls doc p ∙ ap (λ n. beside_by calls doc p + n) (sym (more-none (rest_by calls doc p))))
bears-is doc p (suc m) = bears-more doc p m
