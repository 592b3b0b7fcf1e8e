-- The places of names beside the processes.
use Rattle.std.proofs.Common.{◌≡◌, ℕ, ◌+◌, ◌<◌, ◌≤◌, ◌==◌, ◌||◌, Bool, true, false, cond, nat_lt, eqb, List, [], ◌∷◌, ◌++◌, length, position, Some, None, refl, sym, ap, ◌∙◌, arith, length-append}
use Rattle.std.proofs.lemmas.Bool.{lt-ltb, ltb-true, eq-eqb, eqb-true}
use Rattle.std.proofs.lemmas.Bool.Decides.{nat_tests}
use Rattle.std.proofs.lemmas.List.{map-append, length-map}
use Rattle.std.proofs.lemmas.List.Folds.{position_or_len_push}
use Rattle.std.specs.BTreeMap.{BTreeMap, Updates, get}
use Rattle.std.specs.List.{list_any, position_or_len}
use Rattle.std.specs.Ordering.{is_eq, nat_cmp}
use Rattle.std.specs.Prelude.{is_some}
use Rattle.kube_objects.specs.declared.script.Proc.{Proc}
use Rattle.manifest_json.proofs.Places.{any_within, none_within}
use Rattle.script_reader.specs.Walk.{has_name, numbers_of}

no_lt : (a b : ℕ) → b ≤ a → nat_lt a b ≡ false
no_lt a b le = by (nat_lt a b) refl
  where
    by : (c : Bool) → nat_lt a b ≡ c → nat_lt a b ≡ false
    by false e = e
    by true e = absurd (omega (arith, ltb-true a b e))

module _ (p : ℕ → Bool) where
  there : (xs : List ℕ) → list_any p xs ≡ true → position p xs ≡ Some (position_or_len p xs)
  there xs h = ap (λ b. cond b (Some (position_or_len p xs)) None) (lt-ltb _ _ (any_within p xs h))

  nowhere : (xs : List ℕ) → list_any p xs ≡ false → position p xs ≡ None
  nowhere xs h = ap (λ b. cond b (Some (position_or_len p xs)) None) (no_lt _ _ (omega (arith, none_within p xs h)))

  -- a place is found exactly where there is one
  found-is : (xs : List ℕ) → is_some (position p xs) ≡ list_any p xs
  found-is xs = by (list_any p xs) refl
    where
      by : (b : Bool) → list_any p xs ≡ b → is_some (position p xs) ≡ list_any p xs
      by true e = ap is_some (there xs e) ∙ sym e
      by false e = ap is_some (nowhere xs e) ∙ sym e

  -- a further one at the end
  push : (xs : List ℕ) (x : ℕ) → position p (xs ++ x ∷ []) ≡ cond (list_any p xs) (position p xs) (cond (p x) (Some (length xs)) None)
  push xs x = by (list_any p xs) refl (p x) refl
    where
      at : position_or_len p (xs ++ x ∷ []) ≡ cond (eqb (position_or_len p xs) (length xs)) (length xs + cond (p x) 0 1) (position_or_len p xs)
      at = position_or_len_push p xs x

      long : length (xs ++ x ∷ []) ≡ length xs + 1
      long = length-append xs (x ∷ [])

      made : (n : ℕ) → position_or_len p (xs ++ x ∷ []) ≡ n → position p (xs ++ x ∷ []) ≡ cond (nat_lt n (length xs + 1)) (Some n) None
      made n e = rw (e, long) refl

      by : (b : Bool) → list_any p xs ≡ b → (c : Bool) → p x ≡ c → position p (xs ++ x ∷ []) ≡ cond (list_any p xs) (position p xs) (cond (p x) (Some (length xs)) None)
      by true e c f =
          let lt = any_within p xs e in
          let apart : eqb (position_or_len p xs) (length xs) ≡ false = differ (position_or_len p xs) (length xs) lt in
          let here = at ∙ ap (λ b. cond b (length xs + cond (p x) 0 1) (position_or_len p xs)) apart in
          made (position_or_len p xs) here ∙ ap (λ b. cond b (Some (position_or_len p xs)) None) (lt-ltb (position_or_len p xs) (length xs + 1) (omega (arith, lt)))
          ∙ sym (there xs e) ∙ ap (λ b. cond b (position p xs) (cond (p x) (Some (length xs)) None)) (sym e)
        where
          differ : (a b : ℕ) → a < b → eqb a b ≡ false
          differ a b lt = grind (arith, nat_tests)
      by false e true f =
          let same = eq-eqb (position_or_len p xs) (length xs) (none_within p xs e) in
          let here = at ∙ ap (λ b. cond b (length xs + cond (p x) 0 1) (position_or_len p xs)) same ∙ ap (λ b. length xs + cond b 0 1) f in
          made (length xs + 0) here ∙ ap (λ b. cond b (Some (length xs + 0)) None) (lt-ltb (length xs + 0) (length xs + 1) (omega arith)) ∙ ap (λ n. Some n) (omega arith)
          ∙ ap (λ b. cond b (Some (length xs)) None) (sym f) ∙ ap (λ b. cond b (position p xs) (cond (p x) (Some (length xs)) None)) (sym e)
      by false e false f =
          let same = eq-eqb (position_or_len p xs) (length xs) (none_within p xs e) in
          let here = at ∙ ap (λ b. cond b (length xs + cond (p x) 0 1) (position_or_len p xs)) same ∙ ap (λ b. length xs + cond b 0 1) f in
          made (length xs + 1) here ∙ ap (λ b. cond b (Some (length xs + 1)) None) (no_lt (length xs + 1) (length xs + 1) (omega arith))
          ∙ ap (λ b. cond b (Some (length xs)) None) (sym f) ∙ ap (λ b. cond b (position p xs) (cond (p x) (Some (length xs)) None)) (sym e)

pub any_map : (q : ℕ) (ps : List Proc) → list_any (λ o. q == o) (numbers_of ps) ≡ has_name q ps
any_map q [] = refl
any_map q (p ∷ ps) = ap (λ b. (q == p.name) || b) (any_map q ps)

-- a name has a place exactly where a process has it
pub has-is : (q : ℕ) (ps : List Proc) → is_some (position (λ o. q == o) (numbers_of ps)) ≡ has_name q ps
has-is q ps = found-is (λ o. q == o) (numbers_of ps) ∙ any_map q ps

pub numbers-push : (ps : List Proc) (p : Proc) → numbers_of (ps ++ p ∷ []) ≡ numbers_of ps ++ p.name ∷ []
numbers-push ps p = map-append (λ x. x.name) ps (p ∷ [])

same_test : (a b : ℕ) → is_eq (nat_cmp a b) ≡ (b == a)
same_test a b = grind (arith, nat_tests)

-- the place of a new name is behind the others
pub places-push : (m n : BTreeMap ℕ ℕ) (ps more : List Proc) (p : Proc) (q : ℕ)
    → ((q : ℕ) → get nat_cmp m q ≡ position (λ o. q == o) (numbers_of ps))
    → has_name p.name ps ≡ false → more ≡ ps ++ p ∷ []
    → Updates nat_cmp m n p.name (Some (length ps))
    → get nat_cmp n q ≡ position (λ o. q == o) (numbers_of more)
places-push m n ps more p q had new is update =
    update.0 q ∙ (λ i. cond (same_test p.name q i) (Some (length ps)) (had q i)) ∙ by (q == p.name) refl
    ∙ sym (ap (position (λ o. q == o)) (ap numbers_of is ∙ numbers-push ps p) ∙ push (λ o. q == o) (numbers_of ps) p.name)
  where
    many : length (numbers_of ps) ≡ length ps
    many = length-map ps (λ x. x.name)

    none : q ≡ p.name → list_any (λ o. q == o) (numbers_of ps) ≡ false
    none e = ap (λ x. list_any (λ o. x == o) (numbers_of ps)) e ∙ any_map p.name ps ∙ new

    by : (b : Bool) → (q == p.name) ≡ b
        → cond (q == p.name) (Some (length ps)) (position (λ o. q == o) (numbers_of ps))
        ≡ cond (list_any (λ o. q == o) (numbers_of ps)) (position (λ o. q == o) (numbers_of ps)) (cond (q == p.name) (Some (length (numbers_of ps))) None)
    by true e =
        let same = eqb-true q p.name e in
        ap (λ b. cond b (Some (length ps)) (position (λ o. q == o) (numbers_of ps))) e ∙ ap (λ n. Some n) (sym many)
        ∙ ap (λ b. cond b (Some (length (numbers_of ps))) None) (sym e)
        ∙ ap (λ b. cond b (position (λ o. q == o) (numbers_of ps)) (cond (q == p.name) (Some (length (numbers_of ps))) None)) (sym (none same))
    by false e =
        ap (λ b. cond b (Some (length ps)) (position (λ o. q == o) (numbers_of ps))) e ∙ by_any (list_any (λ o. q == o) (numbers_of ps)) refl
        ∙ ap (λ b. cond (list_any (λ o. q == o) (numbers_of ps)) (position (λ o. q == o) (numbers_of ps)) (cond b (Some (length (numbers_of ps))) None)) (sym e)
      where
        by_any : (b : Bool) → list_any (λ o. q == o) (numbers_of ps) ≡ b
            → position (λ o. q == o) (numbers_of ps) ≡ cond (list_any (λ o. q == o) (numbers_of ps)) (position (λ o. q == o) (numbers_of ps)) None
        by_any true f = ap (λ b. cond b (position (λ o. q == o) (numbers_of ps)) None) (sym f)
        by_any false f = nowhere (λ o. q == o) (numbers_of ps) f ∙ ap (λ b. cond b (position (λ o. q == o) (numbers_of ps)) None) (sym f)
