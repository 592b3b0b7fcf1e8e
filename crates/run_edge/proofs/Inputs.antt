-- The bytes that were taken of a source.
use Rattle.std.proofs.Common.{◌≡◌, ◌≤◌, ◌<◌, ℕ, List, [], ◌∷◌, ◌++◌, length, drop, Option, Some, Result, Ok, Err, IfOk, IfErr, refl, sym, ap, ◌∙◌, subst, arith, length-append}
use Rattle.byte_edge.specs.Bytes.{Took, TookAll, IsTooLarge}
use Rattle.run_edge.specs.Inputs.{IsInput, IsTooLong}

pub ok-map : {A E : Type 0} (r : Result A E) (P Q : A → Type 0) → ((a : A) → P a → Q a) → IfOk r P → IfOk r Q
ok-map (Ok a) P Q more is = more a is
ok-map (Err e) P Q more is = tt

pub err-map : {A E : Type 0} (r : Result A E) (P Q : E → Type 0) → ((e : E) → P e → Q e) → IfErr r P → IfErr r Q
err-map (Ok a) P Q more is = tt
err-map (Err e) P Q more is = more e is

-- all bytes were taken, at most as many as may be
pub input-taken : (left after : Option (List ℕ)) (bytes taken : List ℕ) → left ≡ Some bytes → TookAll left after taken × (length taken ≤ 16777216) → IsInput bytes after taken
input-taken left after bytes taken told took =
    let P : Option (List ℕ) → Type 0 = λ l. TookAll l after taken in
    let all : (taken ≡ bytes) × (after ≡ Some []) = subst P told took.0 in
    record { short = subst (λ l. length l ≤ 16777216) all.0 took.1; is = all.0; rest = all.1 }

drop-front : (xs ys : List ℕ) → drop (length xs) (xs ++ ys) ≡ ys
drop-front [] ys = refl
drop-front (x ∷ xs) ys = drop-front xs ys

-- more bytes were there than may be
pub input-long : (left after : Option (List ℕ)) (bytes : List ℕ) → left ≡ Some bytes → IsTooLarge 16777216 left after → IsTooLong bytes after
input-long left after bytes told large = from (let P : Option (List ℕ) → Type 0 = λ l. Took l after large.0 in subst P told large.2)
  where
    from : (rest : List ℕ) × (after ≡ Some rest) × (large.0 ++ rest ≡ bytes) → IsTooLong bytes after
    from t =
        let behind : drop 16777217 bytes ≡ t.0 = subst (λ l. drop 16777217 l ≡ t.0) t.2 (subst (λ n. drop n (large.0 ++ t.0) ≡ t.0) large.1 (drop-front large.0 t.0)) in
        record { long = omega (arith, ap length t.2, length-append large.0 t.0, large.1); rest = t.1 ∙ ap Some (sym behind) }
