-- Texts that an index set keeps, as their numbers see them.
use Rattle.std.proofs.Common.{◌≡◌, ℕ, ◌+◌, Bool, true, false, not, cond, ◌||◌, List, [], ◌∷◌, ◌++◌, map, position, refl, sym, ap}
use Rattle.std.proofs.lemmas.List.{map-append, length-map}
use Rattle.std.specs.List.{list_any, position_or_len}
use Rattle.std.specs.Str.{bytes_eq}
use Rattle.indexmap.specs.IndexSet.{insert_key}
use Rattle.kube_base.specs.Names.{number_of, number_in, with_name}

module _ {A : Type 0} (f : A → List ℕ) where
  position_or_len-map : (p : List ℕ → Bool) (ks : List A) → position_or_len p (map f ks) ≡ position_or_len (λ k. p (f k)) ks
  position_or_len-map p [] = refl
  position_or_len-map p (k ∷ ks) = ap (λ n. cond (not (p (f k))) (1 + n) 0) (position_or_len-map p ks)

  list_any-map : (p : List ℕ → Bool) (ks : List A) → list_any p (map f ks) ≡ list_any (λ k. p (f k)) ks
  list_any-map p [] = refl
  list_any-map p (k ∷ ks) = ap (λ b. p (f k) || b) (list_any-map p ks)

  pub number_in-map : (ks : List A) (text : List ℕ) → number_in (map f ks) text ≡ position_or_len (λ k. bytes_eq text (f k)) ks
  unfolding number_in
  number_in-map ks text = position_or_len-map (bytes_eq text) ks

  pub number_of-map : (ks : List A) (text : List ℕ) → number_of (map f ks) text ≡ position (λ k. bytes_eq text (f k)) ks
  unfolding number_of
  number_of-map ks text = rw (position_or_len-map (bytes_eq text) ks, length-map ks f)

  pub with_name-map : (ks : List A) (k : A) → with_name (map f ks) (f k) ≡ map f (insert_key (λ a b. bytes_eq (f a) (f b)) ks k)
  unfolding with_name
  with_name-map ks k = rw (list_any-map (bytes_eq (f k)) ks) (by (list_any (λ b. bytes_eq (f k) (f b)) ks))
    where
      by : (b : Bool) → cond b (map f ks) (map f ks ++ f k ∷ []) ≡ map f (cond b ks (ks ++ k ∷ []))
      by true = refl
      by false = sym (map-append f ks (k ∷ []))
