-- What is in flight one way, in the order of its beats.
use Rattle.std.proofs.Common.{◌≡◌, ℕ, ◌+◌, ◌<◌, ◌==◌, ◌≤◌, nat_lt, Bool, true, false, cond, List, [], ◌∷◌, ◌++◌, map, ◌⊎◌, inl, inr, refl, sym, ap, ◌∙◌, subst, arith}
use Rattle.std.proofs.lemmas.Bool.{eqb-true, eqb-false, ltb-true, ltb-false}
use Rattle.std.proofs.lemmas.Bool.Decides.{nat_tests}
use Rattle.wire_calls.specs.WireStands.{InOrder, at_beat}

map-push : {S T : Type 0} (f : S → T) (xs : List S) (x : S) → map f (xs ++ x ∷ []) ≡ map f xs ++ f x ∷ []
map-push f [] x = refl
map-push f (y ∷ xs) x = ap (λ ys. f y ∷ ys) (map-push f xs x)

apart : (j i : ℕ) → i < j → (j == i) ≡ false
apart j i below = grind (arith, nat_tests)

-- one more message, which comes at a later beat
pub in_order-push : {S T : Type 0} (f : S → T) (k j : ℕ) (due : List S) (later : ℕ → List S) (kept now : ℕ → List T) (s : S) → k < j → InOrder f k due later kept → ((i : ℕ) → now i ≡ cond (j == i) (kept i ++ f s ∷ []) (kept i)) → InOrder f k due (λ i. cond (j == i) (later i ++ s ∷ []) (later i)) now
in_order-push f k j due later kept now s after o is =
    record {
      before = λ i below. is i ∙ ap (λ b. cond b (kept i ++ f s ∷ []) (kept i)) (let h : i < j = omega (arith, below, after) in apart j i h) ∙ o.before i below;
      present = is k ∙ ap (λ b. cond b (kept k ++ f s ∷ []) (kept k)) (apart j k after) ∙ o.present;
      after = λ i above. is i ∙ ap (λ xs. cond (j == i) (xs ++ f s ∷ []) xs) (o.after i above) ∙ by_test i (j == i);
    }
  where
    by_test : (i : ℕ) (b : Bool) → cond b (map f (later i) ++ f s ∷ []) (map f (later i)) ≡ map f (cond b (later i ++ s ∷ []) (later i))
    by_test i true = sym (map-push f (later i) s)
    by_test i false = refl

-- the next beat begins, where nothing more comes at this one
pub in_order-next : {S T : Type 0} (f : S → T) (k : ℕ) (later : ℕ → List S) (kept : ℕ → List T) → InOrder f k [] later kept → InOrder f (k + 1) (later (k + 1)) later kept
in_order-next f k later kept o =
    record {
      before = λ j below. by_place j (let h : (j < k) ⊎ (k ≡ j) = split j below in h);
      present = o.after (k + 1) (omega arith);
      after = λ j above. o.after j (omega (arith, above));
    }
  where
    split : (j : ℕ) → j < k + 1 → (j < k) ⊎ (k ≡ j)
    split j below = grind arith

    by_place : (j : ℕ) → (j < k) ⊎ (k ≡ j) → kept j ≡ []
    by_place j (inl below) = o.before j below
    by_place j (inr same) = subst (λ i. kept i ≡ []) same o.present

-- nothing is kept for a beat exactly where nothing comes at it
pub map-nil : {S T : Type 0} (f : S → T) (xs : List S) → map f xs ≡ [] → xs ≡ []
map-nil f [] is = refl
map-nil f (x ∷ xs) is = absurd (cc)

-- what is kept for a beat is what comes at it
pub kept-at : {S T : Type 0} (f : S → T) (k : ℕ) (due : List S) (later : ℕ → List S) (kept : ℕ → List T) → InOrder f k due later kept → (j : ℕ) → kept j ≡ map f (at_beat k due later j)
kept-at f k due later kept o j = by_tests (j == k) refl (nat_lt k j) refl
  where
    by_tests : (a : Bool) → (j == k) ≡ a → (b : Bool) → nat_lt k j ≡ b → kept j ≡ map f (cond a due (cond b (later j) []))
    by_tests true same b is = subst (λ i. kept i ≡ map f due) (sym (eqb-true j k same)) o.present
    by_tests false apart true is = o.after j (ltb-true k j is)
    by_tests false apart false is = o.before j (let le : j ≤ k = ltb-false k j is in let ne : j ≡ k → ⊥ = eqb-false j k apart in omega (arith, le, ne))

pub quiet-kept : {S T : Type 0} (f : S → T) (k : ℕ) (due : List S) (later : ℕ → List S) (kept : ℕ → List T) → InOrder f k due later kept → (j : ℕ) → kept j ≡ [] → at_beat k due later j ≡ []
quiet-kept f k due later kept o j none = map-nil f (at_beat k due later j) (sym (kept-at f k due later kept o j) ∙ none)

pub kept-quiet : {S T : Type 0} (f : S → T) (k : ℕ) (due : List S) (later : ℕ → List S) (kept : ℕ → List T) → InOrder f k due later kept → (j : ℕ) → at_beat k due later j ≡ [] → kept j ≡ []
kept-quiet f k due later kept o j quiet = kept-at f k due later kept o j ∙ ap (map f) quiet
