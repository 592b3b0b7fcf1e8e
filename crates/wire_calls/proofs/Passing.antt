-- Messages that all pass a test.
use Rattle.std.proofs.Common.{◌≡◌, Bool, true, false, cond, ◌&&◌, List, [], ◌∷◌, ◌++◌, Option, IfSome, refl, sym, subst}
use Rattle.std.specs.List.{list_all}
use Rattle.wire_calls.specs.InFlight.{first_of}

-- the first message at the front passes
pub first-passes : {T : Type 0} (test : T → Bool) (b : Bool) (front others : List T) (first : Option T) → b ≡ true → first ≡ first_of front → list_all test (cond b front [] ++ others) ≡ true → IfSome first (λ x. test x ≡ true)
first-passes test false front others first is taken all = absurd (cc)
first-passes test true [] others first is taken all = subst (λ o. IfSome o (λ x. test x ≡ true)) (sym taken) tt
first-passes test true (x ∷ xs) others first is taken all = subst (λ o. IfSome o (λ x. test x ≡ true)) (sym taken) (by_test (test x) all)
  where
    by_test : (b : Bool) → (b && list_all test (xs ++ others)) ≡ true → b ≡ true
    by_test true all = refl
    by_test false all = all
