-- Who writes acts, and what is stored stays while nobody acts.
use Rattle.std.proofs.Common.{◌≡◌, ◌⊎◌, ◌<◌, ◌≤◌, ℕ, zero, suc, ◌+◌, Bool, true, false, ◌∷◌, refl, sym, ap, ◌∙◌, inl, inr, ⊎_elim, arith}
use Rattle.std.proofs.lemmas.Bool.{cases_lt}
use Rattle.kube_objects.specs.Elector.{acts}
use Rattle.history.specs.History.{history, at_turn}
use Rattle.history_laws.specs.Tails.{IsTail}
use Rattle.history_laws.proofs.Plainly.{false_is}
use Rattle.history_laws.proofs.Tailed.{tail_trans, later_tail}
use Rattle.call_laws.proofs.Placing.{in_own_beat}
use Rattle.takeover_laws.specs.Acting.{ActsBetween, WritersAct, RecordsStay}
use Rattle.takeover_laws.proofs.Records.{record_stays}
use Rattle.takeover_laws.proofs.Writers.{writer_acts}

-- ---- a test over the numbers from a to n

pub record Found (f : ℕ → Bool) (a n : ℕ) : Type 0 where
  pub k : ℕ
  pub from : a ≤ k
  pub to : k ≤ n
  pub is : f k ≡ true

abbrev pub Searched : (ℕ → Bool) → ℕ → ℕ → Type 0
Searched f a n = Found f a n ⊎ ((k : ℕ) → a ≤ k → k ≤ n → f k ≡ true → ⊥)

at_last : (f : ℕ → Bool) (a n : ℕ) → ((k : ℕ) → a ≤ k → k < n → f k ≡ true → ⊥) → Searched f a n
at_last f a n below = by_test (f n) refl
  where
    same : (k : ℕ) → k ≤ n → (k < n → ⊥) → k ≡ n
    same k le not_less = ⊎_elim (λ lt. absurd (not_less lt)) (λ ge. omega (arith, le, ge)) (cases_lt k n)

    by_test : (b : Bool) → f n ≡ b → Searched f a n
    by_test true is = ⊎_elim (λ lt. inr (λ k from to so. omega (arith, lt, from, to))) (λ le. inl (record { k = n; from = le; to = omega arith; is = is })) (cases_lt n a)
    by_test false is = inr (λ k from to so. ⊎_elim (λ lt. below k from lt so) (λ ge. let e : k ≡ n = omega (arith, to, ge) in false_is (sym is ∙ ap f (sym e) ∙ so)) (cases_lt k n))

pub search : (f : ℕ → Bool) (a n : ℕ) → Searched f a n
search f a zero = at_last f a zero (λ k from lt so. omega (arith, lt))
search f a (suc n) = by_below (search f a n)
  where
    by_below : Searched f a n → Searched f a (suc n)
    by_below (inl found) = let to = found.to in inl (record { k = found.k; from = found.from; to = omega (arith, to); is = found.is })
    by_below (inr none) = at_last f a (suc n) (λ k from lt so. none k from (omega (arith, lt)) so)

-- ---- the laws

pub writers_act : WritersAct
writers_act doc rules near far a e q one role steady time m x before at mine writes from late = by_search (search (λ k. acts doc q k (at_turn doc q.process k)) a (x.beat + far))
  where
    there : IsTail (x ∷ before) (history doc (suc (x.beat + far)))
    there = tail_trans (x ∷ before) (history doc (suc x.beat)) (history doc (suc (x.beat + far))) (in_own_beat doc m x before at) (later_tail doc (suc x.beat) (suc (x.beat + far)) (omega arith))

    by_search : Searched (λ k. acts doc q k (at_turn doc q.process k)) a (x.beat + far) → ActsBetween doc q a (x.beat + far)
    by_search (inl found) = record { k = found.k; from = found.from; to = found.to; acts = (role, found.is) }
    by_search (inr none) = absurd (writer_acts doc rules near far a e (x.beat + far) q role steady time late one (λ k from to acting. none k from to acting.1) x before there mine writes (omega arith))

pub records_stay : RecordsStay
records_stay doc near far a e n sound rules calm time one ways end within none m from late h low high = record_stays doc near far a e n sound rules calm end within one ways time none m from late h low high
