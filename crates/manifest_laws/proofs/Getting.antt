-- What a walk's value keeps, part by part.
use Rattle.std.proofs.Common.{◌≡◌, ℕ, List, Bool, true, false, Option, Some, None, Result, Ok, Err, refl, subst}
use Rattle.std.specs.Prelude.{if◌then◌else◌}
use Rattle.manifest_json.specs.declared.fault.Refusal.{Refusal}
use Rattle.manifest_json.specs.Faults.{◌>>=◌}
use Rattle.manifest_json.specs.Fields.{or_refuse}

-- the walk's value, if there is one, keeps P
pub record Gets {A : Type 0} (P : A → Type 0) (walk : Result A Refusal) : Type 0 where
  pub at : (x : A) → walk ≡ Ok x → P x

module _ {A : Type 0} {P : A → Type 0} where
  pub done : (x : A) → P x → Gets P (Ok x)
  done x h = record { at = λ y e. subst P (let same : x ≡ y = cc in same) h }

  pub refused : (e : Refusal) → Gets P (Err e)
  refused e = record { at = λ y same. absurd (let none : ⊥ = cc in none) }

  pub weaker : {Q : A → Type 0} {walk : Result A Refusal} → Gets P walk → ((x : A) → P x → Q x) → Gets Q walk
  weaker h f = record { at = λ x e. f x (h.at x e) }

  pub by_test : (b : Bool) (x y : Result A Refusal) → (b ≡ true → Gets P x) → (b ≡ false → Gets P y) → Gets P (if b then x else y)
  by_test true x y h k = h refl
  by_test false x y h k = k refl

module _ {A B : Type 0} {Q : B → Type 0} {f : A → Result B Refusal} where
  pub and_then : {P : A → Type 0} {walk : Result A Refusal} → Gets P walk → ((x : A) → P x → Gets Q (f x)) → Gets Q (walk >>= f)
  and_then {P} {walk} h next = by_walk walk h
    where
      by_walk : (walk : Result A Refusal) → Gets P walk → Gets Q (walk >>= f)
      by_walk (Ok x) h = next x (h.at x refl)
      by_walk (Err e) h = refused e

  pub skip : (walk : Result A Refusal) → ((x : A) → Gets Q (f x)) → Gets Q (walk >>= f)
  skip (Ok x) next = next x
  skip (Err e) next = refused e

-- the value, if there is one, keeps P
abbrev pub Has : {A : Type 0} → (A → Type 0) → Option A → Type 0
Has P None = Unit {0}
Has P (Some x) = P x

pub of_option : {A : Type 0} {P : A → Type 0} (o : Option A) (code : ℕ) (path : List ℕ) → Has P o → Gets P (or_refuse o code path)
of_option None code path h = refused _
of_option (Some x) code path h = done x h
