-- The settings, processes and events of a generated document are lawful.
use Rattle.std.proofs.Common.{◌≡◌, ℕ, zero, suc, ◌+◌, ◌<◌, ◌≤◌, ◌==◌, nat_lt, Bool, false, List, [], ◌∷◌, ◌++◌, map, length, filter, refl, sym, ap, subst, ◌∙◌, arith, inl, inr, length-append}
use Rattle.std.proofs.lemmas.Bool.{cond-true, cond-false, cases_Bool}
use Rattle.std.proofs.lemmas.Bool.Decides.{eqb_tells, nat_tests}
use Rattle.std.proofs.lemmas.List.{map-append, length-map}
use Rattle.std.proofs.lemmas.List.FromFn.{length-map-range_with_len}
use Rattle.std.specs.List.{range_with_len, AllByRecursion, IsDistinct}
use Rattle.rand_pcg.specs.Lcg.{Lcg}
use Rattle.kube_objects.specs.declared.script.Event.{Event}
use Rattle.kube_objects.specs.Document.{Doc, processes, end_beat}
use Rattle.kube_objects.specs.Own.{AreUnstalled}
use Rattle.kube_objects.specs.Pauses.{AreUnpaused}
use Rattle.script_reader.specs.Lawful.{AreLawful, IsLawful, AreNamedApart, AreLawfulFrom}
use Rattle.script_reader.specs.Walk.{numbers_of}
use Rattle.world_gen.specs.declared.crash.Crash.{Crash}
use Rattle.world_gen.specs.Draws.{draw, crash_of, crashes}
use Rattle.world_gen.specs.Generated.{settings, process, controllers, kubelet, kubelets, by_beat, event, middle}
use Rattle.world_gen.proofs.Steps.{draw-below}

-- ---- settings and processes

pub settings-lawful : (beats : ℕ) → beats ≤ 100000 → AreLawful (settings beats)
settings-lawful beats few = record {
  beat_least = omega arith;
  beat_most = omega arith;
  end = omega arith;
  epoch_least = omega arith;
  epoch_most = omega arith;
  lease_least = omega arith;
  lease = omega arith;
  renew_least = omega arith;
  renew = omega arith;
  retry_least = omega arith;
  retry = omega arith;
  timeout_least = omega arith;
  timeout = omega arith;
  restart_least = omega arith;
  restart = omega arith;
  monitor_least = omega arith;
  monitor = omega arith;
  grace_least = omega arith;
  grace = omega arith;
  startup_least = omega arith;
  startup = omega arith;
  node_lease_least = omega arith;
  node_lease = omega arith;
  primary = omega arith;
  secondary = omega arith;
  large_zone = omega arith;
  percent = omega arith;
  rules = refl;
  renew_within_lease = omega arith;
  retry_within_renew = omega arith;
}

process-lawful : (name rate : ℕ) → 500000 ≤ rate → rate ≤ 2000000 → IsLawful (process name rate)
process-lawful name rate least most = grind (arith, least, most)

pub controllers-lawful : AllByRecursion IsLawful controllers
controllers-lawful = (
  process-lawful 10 1_000_000 (omega arith) (omega arith),
  (process-lawful 11 1_010_000 (omega arith) (omega arith), (process-lawful 12 990_000 (omega arith) (omega arith), tt)),
)

pub controllers-apart : AreNamedApart controllers
unfolding IsDistinct
controllers-apart = ((refl, (refl, tt)), ((refl, tt), (tt, tt)))

kubelets-lawful_from : (start n : ℕ) → AllByRecursion IsLawful (map kubelet (range_with_len start n))
kubelets-lawful_from start zero = tt
kubelets-lawful_from start (suc n) = (process-lawful _ _ (omega arith) (omega arith), kubelets-lawful_from (start + 1) n)

pub kubelets-lawful : (nodes : ℕ) → AllByRecursion IsLawful (kubelets nodes)
kubelets-lawful nodes = kubelets-lawful_from 0 nodes

later-apart : (name start n : ℕ) → name < 13 + start
    → AllByRecursion (λ other. (name == other) ≡ false) (numbers_of (map kubelet (range_with_len start n)))
later-apart name start zero lt = tt
later-apart name start (suc n) lt = (grind (arith, nat_tests), later-apart name (start + 1) n (omega arith))

apart_from : (start n : ℕ) → AreNamedApart (map kubelet (range_with_len start n))
unfolding IsDistinct
apart_from start zero = tt
apart_from start (suc n) = (later-apart (13 + start) (start + 1) n (omega arith), apart_from (start + 1) n)

pub kubelets-apart : (nodes : ℕ) → AreNamedApart (kubelets nodes)
kubelets-apart nodes = apart_from 0 nodes

pub kubelets-count : (nodes : ℕ) → length (kubelets nodes) ≡ nodes
kubelets-count nodes = length-map-range_with_len kubelet 0 nodes

-- ---- crashes

-- a crash of one of so many processes, at most at the last beat
abbrev pub Fits : ℕ → ℕ → Crash → Type 0
Fits beats count crash = (crash.beat ≤ beats) × (crash.process < count)

both : (P : Crash → Type 0) (xs ys : List Crash) → AllByRecursion P xs → AllByRecursion P ys → AllByRecursion P (xs ++ ys)
both P [] ys left right = right
both P (x ∷ xs) ys left right = (left.0, both P xs ys left.1 right)

crash-fits : (beats count i : ℕ) (g : Lcg) → 3 + i < count
    → AllByRecursion (Fits beats count) (crash_of beats i g).value × (length (crash_of beats i g).value ≤ 1)
unfolding crash_of
crash-fits beats count i g lt = elim (cases_Bool ((draw 4 g).value == 0)) [
  | inl crashes_then ↦ rw crashes_then
      ((let below = draw-below (beats + 1) (draw 4 g).rest (omega arith) in (omega arith, lt), tt), omega arith)
  | inr stays ↦ rw stays (tt, omega arith)
]

crashes-fit : (beats nodes n : ℕ) (g : Lcg) → n ≤ nodes
    → AllByRecursion (Fits beats (3 + nodes)) (crashes beats n g).value × (length (crashes beats n g).value ≤ n)
unfolding crashes
crashes-fit beats nodes zero g le = (tt, omega arith)
crashes-fit beats nodes (suc n) g le =
    let before = crashes-fit beats nodes n g (omega arith) in
    let next = crash-fits beats (3 + nodes) n (crashes beats n g).rest (omega arith) in (
      both _ _ _ before.0 next.0,
      omega
          (arith, before.1, next.1, length-append (crashes beats n g).value (crash_of beats n (crashes beats n g).rest).value),
    )

pub crashes-all-fit : (beats nodes : ℕ) (g : Lcg)
    → AllByRecursion (Fits beats (3 + nodes)) ((crashes beats nodes g).value ++ middle beats ∷ [])
    × (length ((crashes beats nodes g).value ++ middle beats ∷ []) ≤ nodes + 1)
crashes-all-fit beats nodes g =
    let drawn = crashes-fit beats nodes nodes g (omega arith) in (
      both _ _ _ drawn.0 ((omega arith, omega arith), tt),
      omega
          (arith, drawn.1, length-append (crashes beats nodes g).value (middle beats ∷ [])),
    )

-- ---- events

module _ (doc : Doc) where
  starts-sooner : (from to : ℕ) (ys : List Event) → from ≤ to → AreLawfulFrom doc to ys → AreLawfulFrom doc from ys
  starts-sooner from to [] le h = tt
  starts-sooner from to (y ∷ ys) le h = let first = h.0 in (omega arith, h.1, h.2, h.3)

  go-on : (from to : ℕ) (xs ys : List Event) → from ≤ to → AreLawfulFrom doc from xs → AllByRecursion (λ e. e.beat.0 ≤ to) xs
      → AreLawfulFrom doc to ys
      → AreLawfulFrom doc from (xs ++ ys)
  go-on from to [] ys le h within last = starts-sooner from to ys le last
  go-on from to (x ∷ xs) ys le h within last = (h.0, h.1, h.2, go-on x.beat.0 to xs ys within.0 h.3 within.1 last)

  at_beat : (n : ℕ) (ys : List Crash) → AllByRecursion (Fits (end_beat doc) (processes doc)) ys
      → AreLawfulFrom doc n (map event (filter (λ crash. crash.beat == n) ys))
      × AllByRecursion (λ e. e.beat.0 ≤ n) (map event (filter (λ crash. crash.beat == n) ys))
  at_beat n [] fit = (tt, tt)
  at_beat n (y ∷ ys) fit =
      let rest = at_beat n ys fit.1 in
      elim (eqb_tells y.beat n) [
        | inl same ↦
            rw (cond-true (y.beat == n) (y ∷ filter (λ crash. crash.beat == n) ys) (filter (λ crash. crash.beat == n) ys) same.0) (
              (
                omega (arith, same.1),
                fit.0.0,
                fit.0.1,
                subst (λ k. AreLawfulFrom doc k (map event (filter (λ crash. crash.beat == n) ys)))
                    (sym same.1) rest.0,
              ),
              (omega (arith, same.1), rest.1),
            )
        | inr other ↦
            rw (cond-false (y.beat == n) (y ∷ filter (λ crash. crash.beat == n) ys) (filter (λ crash. crash.beat == n) ys) other.0) rest
      ]

  later : (n : ℕ) (xs : List Event) → AllByRecursion (λ e. e.beat.0 < n) xs → AllByRecursion (λ e. e.beat.0 ≤ n) xs
  later n [] h = tt
  later n (x ∷ xs) h = let first = h.0 in (omega arith, later n xs h.1)

  sooner : (n : ℕ) (xs : List Event) → AllByRecursion (λ e. e.beat.0 ≤ n) xs → AllByRecursion (λ e. e.beat.0 < suc n) xs
  sooner n [] h = tt
  sooner n (x ∷ xs) h = let first = h.0 in (omega arith, sooner n xs h.1)

  joined : (n : ℕ) (xs ys : List Event) → AllByRecursion (λ e. e.beat.0 < n) xs → AllByRecursion (λ e. e.beat.0 < n) ys
      → AllByRecursion (λ e. e.beat.0 < n) (xs ++ ys)
  joined n [] ys left right = right
  joined n (x ∷ xs) ys left right = (left.0, joined n xs ys left.1 right)

  below_later : (n : ℕ) (xs : List Event) → AllByRecursion (λ e. e.beat.0 < n) xs → AllByRecursion (λ e. e.beat.0 < suc n) xs
  below_later n xs h = sooner n xs (later n xs h)

  pub in_order : (n : ℕ) (ys : List Crash) → AllByRecursion (Fits (end_beat doc) (processes doc)) ys
      → AreLawfulFrom doc 0 (map event (by_beat n ys)) × AllByRecursion (λ e. e.beat.0 < n) (map event (by_beat n ys))
  unfolding by_beat
  in_order zero ys fit = (tt, tt)
  in_order (suc n) ys fit =
      let before = in_order n ys fit in
      let now = at_beat n ys fit in
      rw (map-append event (by_beat n ys) (filter (λ crash. crash.beat == n) ys))
      (go-on 0 n _ _ (omega arith) before.0 (later n _ before.1) now.0, joined (suc n) _ _ (below_later n _ before.1) (sooner n _ now.1))

-- ---- how many events

length-more : (n : ℕ) (ys : List Crash)
    → length (filter (λ crash. nat_lt crash.beat (suc n)) ys) ≡ length (filter (λ crash. nat_lt crash.beat n) ys)
    + length (filter (λ crash. crash.beat == n) ys)
length-more n [] = refl
length-more n (y ∷ ys) = let more = length-more n ys in grind (arith, nat_tests, more)

length-by_beat : (n : ℕ) (ys : List Crash) → length (by_beat n ys) ≡ length (filter (λ crash. nat_lt crash.beat n) ys)
unfolding by_beat
length-by_beat zero ys = sym (none ys)
  where
    none : (zs : List Crash) → length (filter (λ crash. nat_lt crash.beat 0) zs) ≡ 0
    none [] = refl
    none (z ∷ zs) = let rest = none zs in grind (arith, nat_tests, rest)
length-by_beat (suc n) ys =
    length-append (by_beat n ys) (filter (λ crash. crash.beat == n) ys)
    ∙ ap (λ k. k + length (filter (λ crash. crash.beat == n) ys)) (length-by_beat n ys)
    ∙ sym (length-more n ys)

short : (p : Crash → Bool) (ys : List Crash) → length (filter p ys) ≤ length ys
short p [] = omega arith
short p (y ∷ ys) = let rest = short p ys in grind (arith, rest)

pub events-few : (n : ℕ) (ys : List Crash) → length (map event (by_beat n ys)) ≤ length ys
events-few n ys = omega (arith, length-map (by_beat n ys) event, length-by_beat n ys, short (λ crash. nat_lt crash.beat n) ys)

pub crashes-pause_nobody : (ys : List Crash) → AreUnpaused (map event ys)
crashes-pause_nobody [] = tt
crashes-pause_nobody (y ∷ ys) = (tt, crashes-pause_nobody ys)

pub crashes-stall_nothing : (ys : List Crash) → AreUnstalled (map event ys)
crashes-stall_nothing [] = tt
crashes-stall_nothing (y ∷ ys) = (refl, crashes-stall_nothing ys)
