-- What a change of a shelf is to the values under namespaces and names.
use Rattle.std.proofs.Common.{◌≡◌, ◌≢◌, ℕ, zero, suc, ◌<◌, nat_lt, Bool, true, false, cond, ◌&&◌, ◌==◌, ◌∙◌, List, [], ◌∷◌, ◌++◌, Option, None, Some, Result, Ok, Err, OnErr, is_some, length, get_or, set, refl, sym, ap, subst, arith, ◌⊎◌, inl, inr}
use Rattle.std.proofs.lemmas.Bool.{cases_eq}
use Rattle.std.proofs.lemmas.Bool.Decides.{nat_tests}
use Rattle.std.proofs.lemmas.Option.{slice_get_read, slice_get_within}
use Rattle.std.specs.HashMap.{get, Updates}
use Rattle.std.specs.List.{slice_get}
use Rattle.std.specs.Map.{lookup}
use Rattle.kube_base.proofs.Lists.{get-end, get-set_other, get-set_same}
use Rattle.key_map.specs.declared.shelf.Row.{Row}
use Rattle.key_map.specs.declared.shelf.Shelf.{Shelf}
use Rattle.key_map.specs.Held.{aside, held, value_in, value_of}
use Rattle.key_map.specs.Rows.{if_for, is_for, own_row, place_in, place_of}

-- ---- tests

-- a namespace and a name are two others
abbrev pub same : ℕ → ℕ → ℕ → ℕ → Bool
same space name s n = (space == s) && (name == n)

same_parts : (a b c d : ℕ) → same a b c d ≡ true → (a ≡ c) × (b ≡ d)
same_parts a b c d h = (grind (arith, nat_tests, h), grind (arith, nat_tests, h))

same_one : (a b x y c d : ℕ) → same x y a b ≡ true → same x y c d ≡ true → same a b c d ≡ true
same_one a b x y c d one two =
    let first = same_parts x y a b one in
    let second = same_parts x y c d two in
    let left : a ≡ c = sym first.0 ∙ second.0 in
    let right : b ≡ d = sym first.1 ∙ second.1 in
    grind (arith, nat_tests, left, right)

other_name : (a b c d : ℕ) → b ≢ d → same a b c d ≡ false
other_name a b c d ne = by_test (same a b c d) refl
  where
    by_test : (t : Bool) → same a b c d ≡ t → same a b c d ≡ false
    by_test true is = absurd (ne (same_parts a b c d is).1)
    by_test false is = is

-- one number for each namespace and name
place_is : (a b c d : ℕ) → b < 4294967296 → d < 4294967296 → (place_of a b == place_of c d) ≡ same a b c d
place_is a b c d low high = grind (arith, nat_tests, low, high)

-- a name of 32 bits isn't one that has more
apart : (a b c d : ℕ) → b < 4294967296 → nat_lt d 4294967296 ≡ false → same a b c d ≡ false
apart a b c d low high = other_name a b c d (λ e. absurd_at (subst (λ n. n < 4294967296) e low) high)
  where
    absurd_at : d < 4294967296 → nat_lt d 4294967296 ≡ false → ⊥
    absurd_at low high = grind (arith, nat_tests, low, high)

module _ {V : Type 0} where
  -- ---- which row is whose

  pub own_is : (places : List (Option ℕ)) (rows : List (Row V)) (s n i : ℕ) → own_row places rows s n ≡ Some i → (place_in places n ≡ Some i) × (is_for (slice_get rows i) s n ≡ true)
  own_is places rows s n i h = by_place (place_in places n) refl h
    where
      by_place : (o : Option ℕ) → place_in places n ≡ o → if_for rows o s n ≡ Some i → (place_in places n ≡ Some i) × (is_for (slice_get rows i) s n ≡ true)
      by_place None e h = cc
      by_place (Some j) e h = by_test (is_for (slice_get rows j) s n) refl h
        where
          by_test : (t : Bool) → is_for (slice_get rows j) s n ≡ t → cond t (Some j) None ≡ Some i → (place_in places n ≡ Some i) × (is_for (slice_get rows i) s n ≡ true)
          by_test false is h = cc
          by_test true is h =
              let e' : j ≡ i = cc in
              (e ∙ ap Some e', subst (λ k. is_for (slice_get rows k) s n ≡ true) e' is)

  pub own_from : (places : List (Option ℕ)) (rows : List (Row V)) (s n i : ℕ) → place_in places n ≡ Some i → is_for (slice_get rows i) s n ≡ true → own_row places rows s n ≡ Some i
  own_from places rows s n i e is = ap (λ o. if_for rows o s n) e ∙ ap (λ t. cond t (Some i) None) is

  -- the same, of lists that are read as slices
  pub own_at : (places found : List (Option ℕ)) (rows seen : List (Row V)) (s n : ℕ) (o : Option ℕ) → found ≡ places → seen ≡ rows → o ≡ own_row found seen s n → own_row places rows s n ≡ o
  own_at places found rows seen s n o a b is = sym (is ∙ ap (λ l. own_row l seen s n) a ∙ ap (λ l. own_row places l s n) b)

  pub read_row : (rows seen : List (Row V)) (i : ℕ) (row : Row V) → seen ≡ rows → i < length seen → row ≡ get_or rows i row → slice_get rows i ≡ Some row
  read_row rows seen i row b within is = slice_get_read rows (length rows) i row refl (subst (λ l. i < length l) b within) is

  -- a namespace and a name that aren't those of a row
  is_not_for : (row : Option (Row V)) (a b s n : ℕ) → is_for row a b ≡ true → same a b s n ≡ false → is_for row s n ≡ false
  is_not_for None a b s n is differs = refl
  is_not_for (Some row) a b s n is differs = by_test (is_for (Some row) s n) refl
    where
      by_test : (t : Bool) → is_for (Some row) s n ≡ t → is_for (Some row) s n ≡ false
      by_test false h = h
      by_test true h = let both : same a b s n ≡ true = same_one a b row.space row.name s n is h in cc

  -- ---- a value in a row

  -- what is held where a row was written, for what it is for
  pub row_written : (places : List (Option ℕ)) (rows : List (Row V)) (row : Row V) (a b i : ℕ) (s n : ℕ) (w : Option V) → own_row places rows a b ≡ Some i → is_for (Some row) a b ≡ true
      → value_in (set rows i row) (own_row places (set rows i row) s n) w ≡ cond (same a b s n) row.value (value_in rows (own_row places rows s n) w)
  row_written places rows row a b i s n w own is = by_same (same a b s n) refl
    where
      here : i < length rows
      here = within (slice_get rows i) refl (own_is places rows a b i own).1
        where
          within : (o : Option (Row V)) → slice_get rows i ≡ o → is_for o a b ≡ true → i < length rows
          within None e h = cc
          within (Some r) e h = slice_get_within rows i r e

      written : slice_get (set rows i row) i ≡ Some row
      written = get-set_same rows i row here

      by_same : (t : Bool) → same a b s n ≡ t → value_in (set rows i row) (own_row places (set rows i row) s n) w ≡ cond t row.value (value_in rows (own_row places rows s n) w)
      by_same true e =
          let parts = same_parts a b s n e in
          let place : place_in places n ≡ Some i = subst (λ k. place_in places k ≡ Some i) parts.1 (own_is places rows a b i own).0 in
          let for_it : is_for (Some row) s n ≡ true = subst (λ k. is_for (Some row) k n ≡ true) parts.0 (subst (λ k. is_for (Some row) a k ≡ true) parts.1 is) in
          ap (λ o. value_in (set rows i row) o w) (own_from places (set rows i row) s n i place (ap (λ o. is_for o s n) written ∙ for_it)) ∙ ap value_of written
      by_same false e = by_place (place_in places n)
        where
          by_row : (j : ℕ) → (j ≡ i) ⊎ (j ≢ i) → value_in (set rows i row) (if_for (set rows i row) (Some j) s n) w ≡ value_in rows (if_for rows (Some j) s n) w
          by_row j (inl f) =
              ap (λ t. value_in (set rows i row) (cond t (Some j) None) w) (ap (λ k. is_for (slice_get (set rows i row) k) s n) f ∙ ap (λ o. is_for o s n) written ∙ is_not_for (Some row) a b s n is e)
              ∙ sym (ap (λ t. value_in rows (cond t (Some j) None) w) (ap (λ k. is_for (slice_get rows k) s n) f ∙ is_not_for (slice_get rows i) a b s n (own_is places rows a b i own).1 e))
          by_row j (inr ne) =
              ap (λ t. value_in (set rows i row) (cond t (Some j) None) w) (ap (λ o. is_for o s n) (get-set_other rows i j row ne))
              ∙ by_test (is_for (slice_get rows j) s n)
            where
              by_test : (t : Bool) → value_in (set rows i row) (cond t (Some j) None) w ≡ value_in rows (cond t (Some j) None) w
              by_test true = ap value_of (get-set_other rows i j row ne)
              by_test false = refl

          by_place : (o : Option ℕ) → value_in (set rows i row) (if_for (set rows i row) o s n) w ≡ value_in rows (if_for rows o s n) w
          by_place None = refl
          by_place (Some j) = by_row j (cases_eq j i)

  -- ---- a row that is new

  -- it is at no other place
  pushed_test : (rows : List (Row V)) (row : Row V) (j s n : ℕ) → is_for (Some row) s n ≡ false → is_for (slice_get (rows ++ row ∷ []) j) s n ≡ is_for (slice_get rows j) s n
  pushed_test [] row zero s n differs = differs
  pushed_test [] row (suc j) s n differs = refl
  pushed_test (x ∷ xs) row zero s n differs = refl
  pushed_test (x ∷ xs) row (suc j) s n differs = pushed_test xs row j s n differs

  pushed_value : (rows : List (Row V)) (row : Row V) (j s n : ℕ) → is_for (slice_get rows j) s n ≡ true → value_of (slice_get (rows ++ row ∷ []) j) ≡ value_of (slice_get rows j)
  pushed_value [] row j s n is = cc
  pushed_value (x ∷ xs) row zero s n is = refl
  pushed_value (x ∷ xs) row (suc j) s n is = pushed_value xs row j s n is

  pub row_given : (places wider : List (Option ℕ)) (rows : List (Row V)) (row : Row V) (s n : ℕ) (w : Option V) → place_in places row.name ≡ None
      → ((m : ℕ) → place_in wider m ≡ cond (row.name == m) (Some (length rows)) (place_in places m))
      → value_in (rows ++ row ∷ []) (own_row wider (rows ++ row ∷ []) s n) w ≡ cond (same row.space row.name s n) row.value (value_in rows (own_row places rows s n) w)
  row_given places wider rows row s n w none wide = by_name (row.name == n) refl
    where
      more : List (Row V)
      more = rows ++ row ∷ []

      at_last : is_for (slice_get more (length rows)) s n ≡ same row.space row.name s n
      at_last = ap (λ o. is_for o s n) (get-end rows row)

      by_name : (t : Bool) → (row.name == n) ≡ t
          → value_in more (own_row wider more s n) w ≡ cond (same row.space row.name s n) row.value (value_in rows (own_row places rows s n) w)
      by_name true e =
          ap (λ o. value_in more (if_for more o s n) w) (wide n ∙ ap (λ t. cond t (Some (length rows)) (place_in places n)) e)
          ∙ ap (λ t. value_in more (cond t (Some (length rows)) None) w) at_last
          ∙ by_test (same row.space row.name s n)
          ∙ sym (ap (λ o. cond (same row.space row.name s n) row.value (value_in rows (if_for rows o s n) w)) bare)
        where
          bare : place_in places n ≡ None
          bare = subst (λ m. place_in places m ≡ None) (grind (arith, nat_tests, e)) none

          by_test : (t : Bool) → value_in more (cond t (Some (length rows)) None) w ≡ cond t row.value w
          by_test true = ap value_of (get-end rows row)
          by_test false = refl
      by_name false e =
          ap (λ o. value_in more (if_for more o s n) w) (wide n ∙ ap (λ t. cond t (Some (length rows)) (place_in places n)) e)
          ∙ by_place (place_in places n)
          ∙ sym (ap (λ t. cond t row.value (value_in rows (own_row places rows s n) w)) differs)
        where
          differs : same row.space row.name s n ≡ false
          differs = other_name row.space row.name s n (grind (arith, nat_tests, e))

          by_place : (o : Option ℕ) → value_in more (if_for more o s n) w ≡ value_in rows (if_for rows o s n) w
          by_place None = refl
          by_place (Some j) =
              ap (λ t. value_in more (cond t (Some j) None) w) (pushed_test rows row j s n differs) ∙ by_test (is_for (slice_get rows j) s n) refl
            where
              by_test : (t : Bool) → is_for (slice_get rows j) s n ≡ t → value_in more (cond t (Some j) None) w ≡ value_in rows (cond t (Some j) None) w
              by_test true is = pushed_value rows row j s n is
              by_test false is = refl

  -- ---- what is found by hash

  -- something was put or taken out there
  put-aside : (old new : Shelf V) (space name s n : ℕ) (w : Option V) → name < 4294967296 → Updates ◌==◌ old.others new.others (place_of space name) w
      → aside new s n ≡ cond (same space name s n) w (aside old s n)
  put-aside old new space name s n w low u = by_test (nat_lt n 4294967296) refl
    where
      by_test : (t : Bool) → nat_lt n 4294967296 ≡ t → aside new s n ≡ cond (same space name s n) w (aside old s n)
      by_test true is =
          let high : n < 4294967296 = grind (arith, nat_tests, is) in
          ap (λ t. cond t (get ◌==◌ new.others (place_of s n)) None) is
          ∙ u.0 (place_of s n)
          ∙ ap (λ t. cond t w (get ◌==◌ old.others (place_of s n))) (place_is space name s n low high)
          ∙ sym (ap (λ t. cond (same space name s n) w (cond t (get ◌==◌ old.others (place_of s n)) None)) is)
      by_test false is =
          ap (λ t. cond t (get ◌==◌ new.others (place_of s n)) None) is
          ∙ sym (ap (λ t. cond t w (aside old s n)) (apart space name s n low is) ∙ ap (λ t. cond t (get ◌==◌ old.others (place_of s n)) None) is)

  -- ---- what is held

  pub held_row : (shelf : Shelf V) (s n i : ℕ) (row : Row V) → own_row shelf.places.items shelf.rows.items s n ≡ Some i → slice_get shelf.rows.items i ≡ Some row → row.value ≡ held shelf s n
  unfolding held
  held_row shelf s n i row own at = sym (ap (λ o. value_in shelf.rows.items o (aside shelf s n)) own ∙ ap value_of at)

  pub held_aside : (shelf : Shelf V) (s n place : ℕ) → own_row shelf.places.items shelf.rows.items s n ≡ None → n < 4294967296 → place ≡ place_of s n → get ◌==◌ shelf.others place ≡ held shelf s n
  unfolding held
  held_aside shelf s n place own low at =
      let fits : nat_lt n 4294967296 ≡ true = grind (arith, nat_tests, low) in
      ap (get ◌==◌ shelf.others) at
      ∙ sym (ap (λ o. value_in shelf.rows.items o (aside shelf s n)) own ∙ ap (λ t. cond t (get ◌==◌ shelf.others (place_of s n)) None) fits)

  -- nothing was put in
  pub held_none : (shelf : Shelf V) → shelf.places.items ≡ [] → shelf.others.entries ≡ [] → (s n : ℕ) → held shelf s n ≡ None
  unfolding held
  held_none shelf places others s n =
      ap (λ l. value_in shelf.rows.items (own_row l shelf.rows.items s n) (aside shelf s n)) places
      ∙ ap (λ w. cond (nat_lt n 4294967296) w None) (ap (lookup (◌==◌ (place_of s n))) others)
      ∙ if_same (nat_lt n 4294967296) None
    where
      if_same : (t : Bool) (w : Option V) → cond t w w ≡ w
      if_same true w = refl
      if_same false w = refl

  -- a row was written
  put_in_row : (old new : Shelf V) (space name i : ℕ) (row : Row V) → own_row old.places.items old.rows.items space name ≡ Some i → is_for (Some row) space name ≡ true
      → new.places.items ≡ old.places.items → new.rows.items ≡ set old.rows.items i row → new.others ≡ old.others
      → (s n : ℕ) → held new s n ≡ cond (same space name s n) row.value (held old s n)
  unfolding held
  put_in_row old new space name i row own is places rows others s n =
      ap (λ l. value_in new.rows.items (own_row l new.rows.items s n) (aside new s n)) places
      ∙ ap (λ l. value_in l (own_row old.places.items l s n) (aside new s n)) rows
      ∙ ap (λ m. value_in (set old.rows.items i row) (own_row old.places.items (set old.rows.items i row) s n) (cond (nat_lt n 4294967296) (get ◌==◌ m (place_of s n)) None)) others
      ∙ row_written old.places.items old.rows.items row space name i s n (aside old s n) own is

  -- the value of a row was changed
  pub put_value : (old new : Shelf V) (space name i : ℕ) (row : Row V) (w : Option V) → own_row old.places.items old.rows.items space name ≡ Some i → slice_get old.rows.items i ≡ Some row
      → new.places.items ≡ old.places.items → new.rows.items ≡ set old.rows.items i (record row { value = w }) → new.others ≡ old.others
      → (s n : ℕ) → held new s n ≡ cond (same space name s n) w (held old s n)
  put_value old new space name i row w own at =
      put_in_row old new space name i (record row { value = w }) own (ap (λ o. is_for o space name) (sym at) ∙ (own_is old.places.items old.rows.items space name i own).1)

  -- a row was given
  pub put_row : (old new : Shelf V) (row : Row V) → place_in old.places.items row.name ≡ None
      → ((m : ℕ) → place_in new.places.items m ≡ cond (row.name == m) (Some (length old.rows.items)) (place_in old.places.items m))
      → new.rows.items ≡ old.rows.items ++ row ∷ [] → new.others ≡ old.others
      → (s n : ℕ) → held new s n ≡ cond (same row.space row.name s n) row.value (held old s n)
  unfolding held
  put_row old new row none wide rows others s n =
      ap (λ l. value_in l (own_row new.places.items l s n) (aside new s n)) rows
      ∙ ap (λ m. value_in more (own_row new.places.items more s n) (cond (nat_lt n 4294967296) (get ◌==◌ m (place_of s n)) None)) others
      ∙ row_given old.places.items new.places.items old.rows.items row s n (aside old s n) none wide
    where
      more : List (Row V)
      more = old.rows.items ++ row ∷ []

  -- a value was put or taken out by hash, where there is no own row
  pub put_aside : (old new : Shelf V) (space name place : ℕ) (w : Option V) → own_row old.places.items old.rows.items space name ≡ None → name < 4294967296 → place ≡ place_of space name
      → Updates ◌==◌ old.others new.others place w → new.places.items ≡ old.places.items → new.rows.items ≡ old.rows.items
      → (s n : ℕ) → held new s n ≡ cond (same space name s n) w (held old s n)
  unfolding held
  put_aside old new space name place w own low at u places rows s n =
      ap (λ l. value_in new.rows.items (own_row l new.rows.items s n) (aside new s n)) places
      ∙ ap (λ l. value_in l (own_row old.places.items l s n) (aside new s n)) rows
      ∙ ap (value_in old.rows.items (own_row old.places.items old.rows.items s n)) (put-aside old new space name s n w low (subst (λ p. Updates ◌==◌ old.others new.others p w) at u))
      ∙ by_same (same space name s n) refl
    where
      by_same : (t : Bool) → same space name s n ≡ t
          → value_in old.rows.items (own_row old.places.items old.rows.items s n) (cond t w (aside old s n)) ≡ cond t w (value_in old.rows.items (own_row old.places.items old.rows.items s n) (aside old s n))
      by_same true e =
          let parts = same_parts space name s n e in
          ap (λ o. value_in old.rows.items o w) (subst (λ k. own_row old.places.items old.rows.items s k ≡ None) parts.1 (subst (λ k. own_row old.places.items old.rows.items k name ≡ None) parts.0 own))
      by_same false e = refl

  -- the same rows are found, and the same by hash
  pub held_same : (old new : Shelf V) → ((m : ℕ) → place_in new.places.items m ≡ place_in old.places.items m) → new.rows.items ≡ old.rows.items → new.others.entries ≡ old.others.entries
      → (s n : ℕ) → held new s n ≡ held old s n
  unfolding held
  held_same old new places rows others s n =
      ap (λ l. value_in l (own_row new.places.items l s n) (aside new s n)) rows
      ∙ ap (λ o. value_in old.rows.items (if_for old.rows.items o s n) (aside new s n)) (places n)
      ∙ ap (λ l. value_in old.rows.items (own_row old.places.items old.rows.items s n) (cond (nat_lt n 4294967296) (lookup (◌==◌ (place_of s n)) l) None)) others

  pub none_found : (o : Option V) → is_some o ≡ false → None ≡ o
  none_found None is = refl
  none_found (Some x) is = cc

-- a fact is one on errors too
pub on_err : {T E P : Type 0} (r : Result T E) → P → OnErr r P
on_err (Ok x) p = tt
on_err (Err e) p = p
