-- When a pass is due.
use Rattle.std.proofs.Common.{◌≡◌, ◌∙◌, ◌⊎◌, inl, inr, ℕ, zero, suc, ◌+◌, ◌-◌, ◌*◌, ◌<◌, ◌≤◌, nat_le, Bool, true, false, List, Option, Some, None, option_map, refl, sym, ap, arith}
use Rattle.std.proofs.Math.Nat.{mul_assoc, mul_comm}
use Rattle.std.proofs.lemmas.Bool.Decides.{nat_tests}
use Rattle.std.proofs.lemmas.Nat.{mul-le}
use Rattle.kube_base.specs.Bounds.{most_local}
use Rattle.kube_objects.specs.Clocks.{local}
use Rattle.kube_objects.specs.Document.{Doc, of_millis}
use Rattle.kube_objects.specs.Entry.{Entry, Identity}
use Rattle.kube_objects.specs.Health.{is_after_pass, is_pass_due, last_pass, pass_period, work_of}
use Rattle.controller_core.specs.Passing.{LastStands}
use Rattle.controller_core.specs.Wakes.{pass_reading}
use Rattle.controller_core.specs.Working.{kept}
use Rattle.controller_core.specs.declared.pass.work.LastPass.{LastPass}

pub some_number : (a b : ℕ) → ◌≡◌ {A = Option ℕ} (Some a) (Some b) → a ≡ b
some_number a b is = cc

some_none : (a : ℕ) → ◌≡◌ {A = Option ℕ} (Some a) None → ⊥
some_none a is = cc

-- a pass is due a period after the last
pub due_from : (doc : Doc) (k : ℕ) (q : Identity) (h : List Entry) (last : LastPass) → LastStands doc q h (Some last)
    → is_pass_due doc k q h ≡ nat_le (last.at.0 + pass_period doc q h) (local doc q.process k)
due_from doc k q h last s = by_pass (last_pass q h) s.reading
  where
    by_pass : (o : Option ℕ) → Some last.at.0 ≡ option_map (local doc q.process) o → is_after_pass doc k q (pass_period doc q h) o ≡ nat_le (last.at.0 + pass_period doc q h) (local doc q.process k)
    by_pass None stands = absurd (some_none last.at.0 stands)
    by_pass (Some at) stands = ap (λ n. nat_le (n + pass_period doc q h) (local doc q.process k)) (sym (some_number last.at.0 (local doc q.process at) stands))

-- the reading of the next pass
pub pass_is : (doc : Doc) (q : Identity) (h : List Entry) (last : LastPass) → LastStands doc q h (Some last) → pass_reading doc q h ≡ Some (last.at.0 + pass_period doc q h)
pass_is doc q h last s = by_pass (last_pass q h) s.reading
  where
    by_pass : (o : Option ℕ) → Some last.at.0 ≡ option_map (local doc q.process) o → option_map (λ k. local doc q.process k + pass_period doc q h) o ≡ Some (last.at.0 + pass_period doc q h)
    by_pass None stands = absurd (some_none last.at.0 stands)
    by_pass (Some at) stands = ap (λ n. Some (n + pass_period doc q h)) (sym (some_number last.at.0 (local doc q.process at) stands))

pub not_none : (doc : Doc) (q : Identity) (h : List Entry) (last : LastPass) → LastStands doc q h (Some last) → last_pass q h ≡ None → ⊥
not_none doc q h last s none = some_none last.at.0 (s.reading ∙ ap (option_map (local doc q.process)) none)

pub none_last : (doc : Doc) (q : Identity) (h : List Entry) → LastStands doc q h None → last_pass q h ≡ None
none_last doc q h s = by_pass (last_pass q h) s.reading
  where
    by_pass : (o : Option ℕ) → ◌≡◌ {A = Option ℕ} None (option_map (local doc q.process) o) → o ≡ None
    by_pass None is = refl
    by_pass (Some at) is = absurd (some_none (local doc q.process at) (sym is))

pub not_yet : (a b : ℕ) → b < a → nat_le a b ≡ false
not_yet a b less = grind (arith, nat_tests)

-- a period as it is kept decides alike for the readings in range
pub kept_due : (at exact period now : ℕ) → period ≡ kept exact → now ≤ most_local → nat_le (at + exact) now ≡ nat_le (at + period) now
kept_due at exact period now is within = by_test (nat_le exact 18446744073709551615) refl
  where
    fits : (n : ℕ) → nat_le n 18446744073709551615 ≡ true → n ≤ 18446744073709551615
    fits n le = grind (arith, nat_tests)

    beyond : (n : ℕ) → nat_le n 18446744073709551615 ≡ false → 18446744073709551615 < n
    beyond n more = grind (arith, nat_tests)

    by_test : (b : Bool) → nat_le exact 18446744073709551615 ≡ b → nat_le (at + exact) now ≡ nat_le (at + period) now
    by_test true le = ap (λ n. nat_le (at + n) now) (let small : exact ≡ period = omega (arith, is, fits exact le) in small)
    by_test false more =
        let large : 18446744073709551615 < exact = beyond exact more in
        not_yet (at + exact) now (omega (arith, large, within)) ∙ sym (not_yet (at + period) now (omega (arith, large, within, is)))

-- the sum of both as it is kept is the exact one, or the greatest u64
pub kept_sum : (at exact period sum : ℕ) → period ≡ kept exact → sum ≡ kept (at + period) → (sum ≡ at + exact) ⊎ (sum ≡ 18446744073709551615)
kept_sum at exact period sum is kept_is = by_test (nat_le (at + exact) 18446744073709551615) refl
  where
    by_test : (b : Bool) → nat_le (at + exact) 18446744073709551615 ≡ b → (sum ≡ at + exact) ⊎ (sum ≡ 18446744073709551615)
    by_test true le = inl (let fits : at + exact ≤ 18446744073709551615 = grind (arith, nat_tests) in omega (arith, is, kept_is, fits))
    by_test false more = inr (let large : 18446744073709551615 < at + exact = grind (arith, nat_tests) in omega (arith, is, kept_is, large))

pub kept_least : (at exact period sum : ℕ) → period ≡ kept exact → sum ≡ kept (at + period) → sum ≤ at + exact
kept_least at exact period sum is kept_is = omega (arith, is, kept_is)

-- ---- the period, from the number of pods as it is kept

beyond_least : (n : ℕ) → nat_le n 18446744073709551615 ≡ false → 18446744073709551615 ≤ n
beyond_least n more = grind (arith, nat_tests)

kept_small : (n : ℕ) → nat_le n 18446744073709551615 ≡ true → kept n ≡ n
kept_small n le = (let fits : n ≤ 18446744073709551615 = grind (arith, nat_tests) in omega (arith, fits))

-- so many are beyond the greatest u64 with any time each
kept_product : (all burst unit : ℕ) → burst ≤ 4294967295 → (unit ≡ 0) ⊎ (1000000000 ≤ unit) → kept ((kept all - burst) * unit) ≡ kept ((all - burst) * unit)
kept_product all burst unit few units = by_test (nat_le all 18446744073709551615) refl
  where
    by_unit : 18446744073709551615 ≤ all → (unit ≡ 0) ⊎ (1000000000 ≤ unit) → kept ((kept all - burst) * unit) ≡ kept ((all - burst) * unit)
    by_unit large (inl none) =
        ap (λ n. kept ((kept all - burst) * n)) none
        ∙ (let one : (kept all - burst) * 0 ≡ 0 = omega arith in let two : (all - burst) * 0 ≡ 0 = omega arith in ap kept (one ∙ sym two))
        ∙ sym (ap (λ n. kept ((all - burst) * n)) none)
    by_unit large (inr some) =
        let low : 18446744069414584320 ≤ kept all - burst = omega (arith, large, few) in
        let high : 18446744069414584320 ≤ all - burst = omega (arith, large, few) in
        let one = mul-le 18446744069414584320 1000000000 (kept all - burst) unit low some in
        let two = mul-le 18446744069414584320 1000000000 (all - burst) unit high some in
        omega (arith, one, two)

    by_test : (b : Bool) → nat_le all 18446744073709551615 ≡ b → kept ((kept all - burst) * unit) ≡ kept ((all - burst) * unit)
    by_test true le = ap (λ n. kept ((n - burst) * unit)) (kept_small all le)
    by_test false more = by_unit (beyond_least all more) units

unit_is : (millis : ℕ) → (of_millis millis ≡ 0) ⊎ (1000000000 ≤ of_millis millis)
unfolding of_millis
unit_is zero = inl refl
unit_is (suc m) = inr (omega arith)

work_is : (millis burst all : ℕ) → work_of millis burst all ≡ (all - burst) * of_millis millis
unfolding of_millis
work_is millis burst all =
    ap (λ n. n * 1000000000) (mul_comm millis (all - burst)) ∙ mul_assoc (all - burst) millis 1000000000

pub period_kept : (monitor millis burst all pods over work period : ℕ) → burst ≤ 4294967295 → pods ≡ kept all → over ≡ pods - burst → work ≡ kept (over * of_millis millis)
    → period ≡ kept (monitor + work) → period ≡ kept (monitor + work_of millis burst all)
period_kept monitor millis burst all pods over work period few pods_is over_is work_is' period_is =
    let same : work ≡ kept (work_of millis burst all) =
    work_is' ∙ ap (λ n. kept (n * of_millis millis)) (over_is ∙ ap (λ n. n - burst) pods_is) ∙ kept_product all burst (of_millis millis) few (unit_is millis) ∙ sym (ap kept (work_is millis burst all)) in
    omega (arith, period_is, same)
