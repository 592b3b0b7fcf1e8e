-- The rates of a clock, read from the last set to the first, and the least and the greatest of them over the beats.
use Rattle.std.proofs.Common.{◌≡◌, ℕ, zero, suc, ◌+◌, ◌-◌, ◌*◌, ◌<◌, ◌≤◌, min, max, nat_le, nat_lt, List, [], ◌∷◌, ◌++◌, length, get_or, drop, slice_get, Option, Some, None, inl, inr, refl, sym, ap, ap₂, subst, ◌∙◌, arith, drop-cons, eq-eqb}
use Rattle.std.proofs.lemmas.Bool.{cases_lt, le-leb, lt-leb, lt-ltb, le-ltb}
use Rattle.std.proofs.lemmas.Bool.Decides.{nat_tests}
use Rattle.kube_objects.specs.Clocks.{rate, rate_of, last_rate}
use Rattle.kube_base.specs.declared.numbers.ProcId.{ProcId}
use Rattle.kube_objects.specs.Document.{Doc, end_beat, field, first_rate, of_seconds, of_millis}
use Rattle.kube_objects.specs.Newest.{when, only_if, or_else}
use Rattle.kube_objects.specs.declared.script.Event.{Event}
use Rattle.kube_objects.specs.declared.script.Proc.{Proc}
use Rattle.kube_objects.specs.declared.script.What.TheVariants.{Rate, Pause}
use Rattle.kube_objects.specs.Pauses.{pause_of}
use Rattle.history.specs.Premise.{less, more, least_rate, greatest_rate, stands, longest_below, second_below}
use Rattle.script_reader.specs.ClockRates.{Spans, IsBetween, with_earlier}
use Rattle.script_reader.specs.declared.premise.ClockRates.{ClockRates}

or_earlier : ℕ → ℕ → ℕ → Option ℕ → Option ℕ
or_earlier beat ppm k later = elim later [ None ↦ only_if (nat_le beat k) (Some ppm) | Some rate ↦ Some rate ]

module _ (beat ppm : ℕ) (later : ℕ → Option ℕ) (k : ℕ) where
  earlier-none : later k ≡ None → k < beat → with_earlier beat ppm later k ≡ None
  unfolding or_earlier
  earlier-none none below = ap (or_earlier beat ppm k) none ∙ ap (λ b. only_if b (Some ppm)) (lt-leb beat k below)

  earlier-set : later k ≡ None → beat ≤ k → with_earlier beat ppm later k ≡ Some ppm
  unfolding or_earlier
  earlier-set none from = ap (or_earlier beat ppm k) none ∙ ap (λ b. only_if b (Some ppm)) (le-leb beat k from)

  earlier-later : (r : ℕ) → later k ≡ Some r → with_earlier beat ppm later k ≡ Some r
  unfolding or_earlier
  earlier-later r some = ap (or_earlier beat ppm k) some

between-wider : (a b least greatest : ℕ) (later earlier : Option ℕ) → least ≤ a → b ≤ greatest → IsBetween a b later → IsBetween least greatest (elim later [ None ↦ earlier | Some rate ↦ Some rate ])
between-wider a b least greatest None earlier low high between = absurd between
between-wider a b least greatest (Some r) earlier low high between = (omega (arith, between.0), omega (arith, between.1))

between-set : (least greatest ppm : ℕ) (o : Option ℕ) → o ≡ Some ppm → least ≤ ppm → ppm ≤ greatest → IsBetween least greatest o
between-set least greatest ppm o is low high = rw is (low, high)

-- a rate that is set before the others
pub Spans-earlier : (end beat ppm : ℕ) (later : ℕ → Option ℕ) (old new : ClockRates) → ppm ≤ 4294967295 → Spans end later old → beat < old.from → new.from ≡ beat → new.least ≡ min old.least ppm → new.greatest ≡ max old.greatest ppm → Spans end (with_earlier beat ppm later) new
Spans-earlier end beat ppm later old new small spans first from least greatest =
    let inside : beat ≤ end = omega (arith, spans.begins) in
    let at_beat : with_earlier beat ppm later beat ≡ Some ppm = earlier-set beat ppm later beat (spans.before beat first) (omega arith) in
    record {
      begins = omega (arith, spans.begins);
      before = λ k below. earlier-none beat ppm later k (spans.before k (omega arith)) (omega arith);
      within = λ k begun ends. elim (cases_lt k old.from) [
        | inl before ↦ between-set new.least new.greatest ppm _ (earlier-set beat ppm later k (spans.before k before) (omega arith)) (omega arith) (omega arith)
        | inr after ↦ between-wider old.least old.greatest new.least new.greatest (later k) _ (omega arith) (omega arith) (spans.within k after ends)
      ];
      least = λ _. elim (cases_lt ppm old.least) [
        | inl less ↦ (beat, inside, at_beat ∙ ap (λ r. Some r) (omega arith))
        | inr more ↦ elim (cases_lt end old.from) [
          | inl none ↦ let none' = spans.unset none in (beat, inside, at_beat ∙ ap (λ r. Some r) (omega (arith, none'.0)))
          | inr some ↦ let at = spans.least some in (at.0, at.1, earlier-later beat ppm later at.0 old.least at.2 ∙ ap (λ r. Some r) (omega arith))
        ]
      ];
      greatest = λ _. elim (cases_lt old.greatest ppm) [
        | inl more ↦ (beat, inside, at_beat ∙ ap (λ r. Some r) (omega arith))
        | inr less ↦ elim (cases_lt end old.from) [
          | inl none ↦ let none' = spans.unset none in (beat, inside, at_beat ∙ ap (λ r. Some r) (omega (arith, none'.1)))
          | inr some ↦ let at = spans.greatest some in (at.0, at.1, earlier-later beat ppm later at.0 old.greatest at.2 ∙ ap (λ r. Some r) (omega arith))
        ]
      ];
      unset = λ above. absurd (omega arith);
    }

-- a rate that isn't in force at any beat
pub Spans-hidden : (end beat ppm : ℕ) (later : ℕ → Option ℕ) (rates : ClockRates) → Spans end later rates → rates.from ≤ beat → Spans end (with_earlier beat ppm later) rates
Spans-hidden end beat ppm later rates spans hidden =
    record {
      begins = spans.begins;
      before = λ k below. earlier-none beat ppm later k (spans.before k below) (omega arith);
      within = λ k begun ends. between-wider rates.least rates.greatest rates.least rates.greatest (later k) _ (omega arith) (omega arith) (spans.within k begun ends);
      least = λ some. let at = spans.least some in (at.0, at.1, earlier-later beat ppm later at.0 rates.least at.2);
      greatest = λ some. let at = spans.greatest some in (at.0, at.1, earlier-later beat ppm later at.0 rates.greatest at.2);
      unset = spans.unset;
    }

-- ---- the least and the greatest rate over the beats

below-least : (doc : Doc) (p k j : ℕ) → j ≤ k → least_rate doc p k ≤ rate doc p j
below-least doc p zero j within = rw (let none : j ≡ 0 = omega arith in none) (omega arith)
below-least doc p (suc k) j within =
    elim (cases_lt j (suc k)) [
      | inl before ↦ let low = below-least doc p k j (omega arith) in grind (arith, nat_tests)
      | inr last ↦ let same : rate doc p j ≡ rate doc p (suc k) = ap (rate doc p) (omega arith) in grind (arith, nat_tests)
    ]

at-least : (doc : Doc) (p k : ℕ) → (j : ℕ) × (j ≤ k) × (least_rate doc p k ≡ rate doc p j)
at-least doc p zero = (0, omega arith, refl)
at-least doc p (suc k) =
    let before = at-least doc p k in
    elim (cases_lt (least_rate doc p k) (rate doc p (suc k))) [
      | inl low ↦ (before.0, omega (arith, before.1), grind (arith, nat_tests, before.2))
      | inr high ↦ (suc k, omega arith, grind (arith, nat_tests))
    ]

above-greatest : (doc : Doc) (p k j : ℕ) → j ≤ k → rate doc p j ≤ greatest_rate doc p k
above-greatest doc p zero j within = rw (let none : j ≡ 0 = omega arith in none) (omega arith)
above-greatest doc p (suc k) j within =
    elim (cases_lt j (suc k)) [
      | inl before ↦ let high = above-greatest doc p k j (omega arith) in grind (arith, nat_tests)
      | inr last ↦ let same : rate doc p j ≡ rate doc p (suc k) = ap (rate doc p) (omega arith) in grind (arith, nat_tests)
    ]

at-greatest : (doc : Doc) (p k : ℕ) → (j : ℕ) × (j ≤ k) × (greatest_rate doc p k ≡ rate doc p j)
at-greatest doc p zero = (0, omega arith, refl)
at-greatest doc p (suc k) =
    let before = at-greatest doc p k in
    elim (cases_lt (greatest_rate doc p k) (rate doc p (suc k))) [
      | inl low ↦ (suc k, omega arith, grind (arith, nat_tests))
      | inr high ↦ (before.0, omega (arith, before.1), grind (arith, nat_tests, before.2))
    ]

bounds : (least greatest r : ℕ) (o : Option ℕ) → o ≡ Some r → IsBetween least greatest o → (least ≤ r) × (r ≤ greatest)
bounds least greatest r None is between = absurd between
bounds least greatest r (Some x) is between = let same : x ≡ r = cc in (omega (arith, between.0), omega (arith, between.1))

module _ (doc : Doc) (p : ℕ) (rates : ClockRates) (spans : Spans (end_beat doc) (with_earlier 0 (first_rate doc p) (λ k. last_rate p k doc.events)) rates) where
  first_or : (k : ℕ) (o : Option ℕ) → or_earlier 0 (first_rate doc p) k o ≡ Some (or_else (first_rate doc p) o)
  unfolding or_earlier
  first_or k None = ap (λ b. only_if b (Some (first_rate doc p))) (le-leb 0 k (omega arith))
  first_or k (Some r) = refl

  rate-at : (k : ℕ) → with_earlier 0 (first_rate doc p) (λ k. last_rate p k doc.events) k ≡ Some (rate doc p k)
  unfolding or_earlier
  rate-at k = first_or k (last_rate p k doc.events)

  from-start : rates.from ≤ 0
  from-start = elim (cases_lt 0 rates.from) [ inl some ↦ absurd (let none = sym (rate-at 0) ∙ spans.before 0 some in cc) | inr none ↦ none ]

  between : (k : ℕ) → k ≤ end_beat doc → (rates.least ≤ rate doc p k) × (rate doc p k ≤ rates.greatest)
  between k inside = bounds rates.least rates.greatest (rate doc p k) _ (rate-at k) (spans.within k (omega (arith, from-start)) inside)

  pub least-is : rates.least ≡ least_rate doc p (end_beat doc)
  least-is =
      let found = spans.least (omega (arith, from-start)) in
      let is : rates.least ≡ rate doc p found.0 = let both = sym found.2 ∙ rate-at found.0 in cc in
      let low = below-least doc p (end_beat doc) found.0 found.1 in
      let at = at-least doc p (end_beat doc) in
      let high = between at.0 at.1 in
      omega (arith, is, low, at.2, high.0)

  pub greatest-is : rates.greatest ≡ greatest_rate doc p (end_beat doc)
  greatest-is =
      let found = spans.greatest (omega (arith, from-start)) in
      let is : rates.greatest ≡ rate doc p found.0 = let both = sym found.2 ∙ rate-at found.0 in cc in
      let low = above-greatest doc p (end_beat doc) found.0 found.1 in
      let at = at-greatest doc p (end_beat doc) in
      let high = between at.0 at.1 in
      omega (arith, is, low, at.2, high.1)

-- ---- the walk over the events

rate_of-own : (p : ℕ) (e : Event) (id : ProcId) (ppm : ℕ) → e.what ≡ Rate id ppm → id.0 ≡ p → rate_of p e.what ≡ Some ppm
rate_of-own p e id ppm is same = ap (rate_of p) is ∙ ap (λ b. when b ppm) (eq-eqb id.0 p same)

last_rate-cons : (p : ℕ) (e : Event) (es : List Event) (ppm : ℕ) → rate_of p e.what ≡ Some ppm → with_earlier e.beat.0 ppm (λ k. last_rate p k es) ≡ (λ k. last_rate p k (e ∷ es))
last_rate-cons p e es ppm sets = λ i k. elim (last_rate p k es) [ None ↦ only_if (nat_le e.beat.0 k) (sym sets i) | Some rate ↦ Some rate ]

drop-before : (events : List Event) (place : ℕ) (e : Event) → 0 < place → place ≤ length events → e ≡ get_or events (place - 1) e → e ∷ drop place events ≡ drop (place - 1) events
drop-before events place e some inside is =
    let next : suc (place - 1) ≡ place = omega arith in
    sym (drop-cons events (place - 1) e (omega arith) ∙ ap (λ x. x ∷ drop (suc (place - 1)) events) (sym is) ∙ ap (λ n. e ∷ drop n events) next)

pub Spans-event : (end p place : ℕ) (events : List Event) (e : Event) (id : ProcId) (ppm : ℕ) (rates : ClockRates) → 0 < place → place ≤ length events → e ≡ get_or events (place - 1) e → e.what ≡ Rate id ppm → id.0 ≡ p → Spans end (with_earlier e.beat.0 ppm (λ k. last_rate p k (drop place events))) rates → Spans end (λ k. last_rate p k (drop (place - 1) events)) rates
Spans-event end p place events e id ppm rates some inside is what own spans =
    let known = last_rate-cons p e (drop place events) ppm (rate_of-own p e id ppm what own) in
    let more = drop-before events place e some inside is in
    subst (λ (f : ℕ → Option ℕ). Spans end f rates) (known ∙ ap (λ es k. last_rate p k es) more) spans

-- ---- the controllers

-- a field of a controller, which stands before the kubelets
pub field-at : {A : Type 0} (f : Proc → A) (none : A) (controllers kubelets : List Proc) (p : ℕ) (d : Proc) → p < length controllers → field f none (slice_get (controllers ++ kubelets) p) ≡ f (get_or controllers p d)
field-at f none [] kubelets p d inside = absurd (omega arith)
field-at f none (c ∷ cs) kubelets zero d inside = refl
field-at f none (c ∷ cs) kubelets (suc p) d inside = field-at f none cs kubelets p d (omega arith)

pub first-is : (doc : Doc) (p : ℕ) (controllers : List Proc) (d : Proc) → controllers ≡ doc.controllers → p < length doc.controllers → (get_or controllers p d).rate_ppm ≡ first_rate doc p
first-is doc p controllers d same inside = ap (λ cs. (get_or cs p d).rate_ppm) same ∙ sym (field-at (λ x. x.rate_ppm) 0 doc.controllers doc.kubelets p d inside)

pub rates-end : (doc : Doc) (p place ppm : ℕ) (events : List Event) (old new : ClockRates) → ppm ≡ first_rate doc p → events ≡ doc.events → place ≤ 0 → Spans (end_beat doc) (λ k. last_rate p k (drop place events)) old → ((end : ℕ) (later : ℕ → Option ℕ) → Spans end later old → Spans end (with_earlier 0 ppm later) new) → (new.least ≡ least_rate doc p (end_beat doc)) × (new.greatest ≡ greatest_rate doc p (end_beat doc))
rates-end doc p place ppm events old new first same none spans step =
    let start : place ≡ 0 = omega arith in
    let from_start : Spans (end_beat doc) (λ k. last_rate p k events) old = subst (λ n. Spans (end_beat doc) (λ k. last_rate p k (drop n events)) old) start spans in
    let all : Spans (end_beat doc) (λ k. last_rate p k doc.events) old = subst (λ es. Spans (end_beat doc) (λ k. last_rate p k es) old) same from_start in
    let more : Spans (end_beat doc) (with_earlier 0 (first_rate doc p) (λ k. last_rate p k doc.events)) new = subst (λ n. Spans (end_beat doc) (with_earlier 0 n (λ k. last_rate p k doc.events)) new) first (step (end_beat doc) (λ k. last_rate p k doc.events) all) in
    (least-is doc p new more, greatest-is doc p new more)

-- ---- the longest pause

pause_of-own : (p : ℕ) (e : Event) (id : ProcId) (beats : ℕ) → e.what ≡ Pause id beats → id.0 ≡ p → pause_of p e.what ≡ Some beats
pause_of-own p e id beats is same = ap (pause_of p) is ∙ ap (λ b. when b beats) (eq-eqb id.0 p same)

-- a pause that begins before the others
pub longest-event : (p place so_far longer : ℕ) (events : List Event) (e : Event) (id : ProcId) (beats : ℕ) → 0 < place → place ≤ length events → e ≡ get_or events (place - 1) e → e.what ≡ Pause id beats → id.0 ≡ p → so_far ≡ longest_below p (drop place events) → longer ≡ more so_far (stands (Some beats)) → longer ≡ longest_below p (drop (place - 1) events)
longest-event p place so_far longer events e id beats some inside is what own before step =
    step ∙ ap (λ n. more n (stands (Some beats))) before ∙ ap (λ o. more (longest_below p (drop place events)) (stands o)) (sym (pause_of-own p e id beats what own))
    ∙ ap (longest_below p) (drop-before events place e some inside is)

-- and the second longest by it
pub second-event : (p place longest so_far longer : ℕ) (events : List Event) (e : Event) (id : ProcId) (beats : ℕ) → 0 < place → place ≤ length events → e ≡ get_or events (place - 1) e → e.what ≡ Pause id beats → id.0 ≡ p → longest ≡ longest_below p (drop place events) → so_far ≡ second_below p (drop place events) → longer ≡ more so_far (less longest (stands (Some beats))) → longer ≡ second_below p (drop (place - 1) events)
second-event p place longest so_far longer events e id beats some inside is what own first second step =
    step ∙ ap₂ (λ n l. more n (less l (stands (Some beats)))) second first
    ∙ ap (λ o. more (second_below p (drop place events)) (less (longest_below p (drop place events)) (stands o))) (sym (pause_of-own p e id beats what own))
    ∙ ap (second_below p) (drop-before events place e some inside is)

-- ---- the lease

lt-scaled : (a b : ℕ) → nat_lt a b ≡ nat_lt (a * 1000) (b * 1000)
lt-scaled a b =
    elim (cases_lt a b) [
      | inl less ↦ lt-ltb a b less ∙ sym (lt-ltb (a * 1000) (b * 1000) (omega arith))
      | inr more ↦ le-ltb a b more ∙ sym (le-ltb (a * 1000) (b * 1000) (omega arith))
    ]

-- in units of 10^-12 s, of which 10^6 are parts per million, as in milliseconds
pub in_units : (stall beat acting lease high low : ℕ) → nat_lt (stall * beat * high * low + acting * 1000000 * high) (lease * 1000000000 * low) ≡ nat_lt (stall * (beat * 1000 * high) * low + of_millis acting * high) (of_seconds lease * low)
unfolding of_seconds of_millis
in_units stall beat acting lease high low =
    let acts : (stall * beat * high * low + acting * 1000000 * high) * 1000 ≡ stall * (beat * 1000 * high) * low + acting * 1000000000 * high = omega arith in
    let leased : lease * 1000000000 * low * 1000 ≡ lease * 1000000000000 * low = omega arith in
    lt-scaled (stall * beat * high * low + acting * 1000000 * high) (lease * 1000000000 * low) ∙ ap₂ nat_lt acts leased
