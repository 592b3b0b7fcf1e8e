-- A walk over things in strict order is a walk over those at which it does something.
use Rattle.std.proofs.Common.{◌≡◌, ◌∙◌, inl, inr, Bool, true, false, cond, List, [], ◌∷◌, Option, Some, None, refl, sym, ap, subst, Less, Equal, Greater}
use Rattle.std.proofs.lemmas.Cmp.{tied_itself}
use Rattle.std.specs.Ordering.{is_lt, ordering_reverse}
use Rattle.std.specs.declared.cmp.Ordering.{Ordering}
use Rattle.kube_objects.specs.Entry.{Entry}
use Rattle.kube_objects.specs.Tick.{for_each}
use Rattle.tick_laws.specs.Walks.{IsStrict, Among, Above, Ascends, is_after, after}

less_is : (o : Ordering) → is_lt o ≡ true → o ≡ Less
less_is Less is = refl
less_is Equal is = absurd (cc)
less_is Greater is = absurd (cc)

module _ {A : Type 0} (compare : A → A → Ordering) (strict : IsStrict compare) where
  -- not after itself, and not after what comes after it
  pub not_itself : (n : A) → is_after compare (Some n) n ≡ false
  not_itself n = ap is_lt (tied_itself strict.total n)

  pub not_before : (m n : A) → compare m n ≡ Less → is_after compare (Some n) m ≡ false
  not_before m n less = ap is_lt (strict.total.antisymm n m ∙ ap ordering_reverse less)

  pub after_more : (c : Option A) (n m : A) → is_after compare c n ≡ true → compare n m ≡ Less → is_after compare c m ≡ true
  after_more None n m later less = refl
  after_more (Some c) n m later less = ap is_lt (strict.total.trans c n m (less_is (compare c n) later) less)

  pub above_less : (n m : A) (ms : List A) → Among n ms → Above compare m ms → compare m n ≡ Less
  above_less n m [] there p = absurd there
  above_less n m (x ∷ xs) (inl is) p = subst (λ y. compare m y ≡ Less) (sym is) p.0
  above_less n m (x ∷ xs) (inr there) p = above_less n m xs there p.1

  -- what comes after one that does, or after the place itself
  pub after_above : (c : Option A) (m : A) (ms : List A) → is_after compare c m ≡ true → Above compare m ms → after compare c ms ≡ ms
  after_above c m [] later p = refl
  after_above c m (x ∷ xs) later p = ap (λ b. cond b (x ∷ xs) (after compare c xs)) (after_more c m x later p.0)

  pub after_it : (m : A) (ms : List A) → Above compare m ms → after compare (Some m) ms ≡ ms
  after_it m [] p = refl
  after_it m (x ∷ xs) p = ap (λ b. cond b (x ∷ xs) (after compare (Some m) xs)) (ap is_lt p.0)

  pub after_none : (names : List A) → after compare None names ≡ names
  after_none [] = refl
  after_none (x ∷ xs) = refl

  module _ (f : A → List Entry → List Entry) where
    -- n is the next one after the place c at which something is done
    pub walk_next_among : (c : Option A) (n : A) (names : List A) (h : List Entry) → is_after compare c n ≡ true → Ascends compare names → Among n names
        → ((m : A) → Among m names → is_after compare c m ≡ true → compare m n ≡ Less → f m h ≡ h)
        → for_each f (after compare c names) h ≡ for_each f (after compare (Some n) names) (f n h)
    walk_next_among c n [] h later ascends there idle = absurd there
    walk_next_among c n (m ∷ ms) h later ascends (inl is) idle =
        subst (λ m. Above compare m ms → for_each f (after compare c (m ∷ ms)) h ≡ for_each f (after compare (Some n) (m ∷ ms)) (f n h)) is here ascends.0
      where
        here : Above compare n ms → for_each f (after compare c (n ∷ ms)) h ≡ for_each f (after compare (Some n) (n ∷ ms)) (f n h)
        here above =
            ap (λ b. for_each f (cond b (n ∷ ms) (after compare c ms)) h) later
            ∙ ap (λ xs. for_each f xs (f n h)) (sym (after_it n ms above))
            ∙ ap (λ b. for_each f (cond b (n ∷ ms) (after compare (Some n) ms)) (f n h)) (sym (not_itself n))
    walk_next_among c n (m ∷ ms) h later ascends (inr there) idle =
        by_test (is_after compare c m) refl
        ∙ walk_next_among c n ms h later ascends.1 there (λ m at. idle m (inr at))
        ∙ ap (λ b. for_each f (cond b (m ∷ ms) (after compare (Some n) ms)) (f n h)) (sym (not_before m n below))
      where
        below : compare m n ≡ Less
        below = above_less n m ms there ascends.0

        by_test : (b : Bool) → is_after compare c m ≡ b → for_each f (cond b (m ∷ ms) (after compare c ms)) h ≡ for_each f (after compare c ms) h
        by_test false test = refl
        by_test true test = ap (for_each f ms) (idle m (inl refl) test below) ∙ ap (λ xs. for_each f xs h) (sym (after_above c m ms test ascends.0))

    pub walk_next : (c : Option A) (n : A) (names : List A) (h : List Entry) → is_after compare c n ≡ true → Ascends compare names → Among n names
        → ((m : A) → is_after compare c m ≡ true → compare m n ≡ Less → f m h ≡ h)
        → for_each f (after compare c names) h ≡ for_each f (after compare (Some n) names) (f n h)
    walk_next c n names h later ascends there idle = walk_next_among c n names h later ascends there (λ m at. idle m)

    -- at none after the place c is anything done
    pub walk_end_among : (c : Option A) (names : List A) (h : List Entry) → Ascends compare names → ((m : A) → Among m names → is_after compare c m ≡ true → f m h ≡ h)
        → for_each f (after compare c names) h ≡ h
    walk_end_among c [] h ascends idle = refl
    walk_end_among c (m ∷ ms) h ascends idle = by_test (is_after compare c m) refl ∙ walk_end_among c ms h ascends.1 (λ m at. idle m (inr at))
      where
        by_test : (b : Bool) → is_after compare c m ≡ b → for_each f (cond b (m ∷ ms) (after compare c ms)) h ≡ for_each f (after compare c ms) h
        by_test false test = refl
        by_test true test = ap (for_each f ms) (idle m (inl refl) test) ∙ ap (λ xs. for_each f xs h) (sym (after_above c m ms test ascends.0))

    pub walk_end : (c : Option A) (names : List A) (h : List Entry) → Ascends compare names → ((m : A) → is_after compare c m ≡ true → f m h ≡ h)
        → for_each f (after compare c names) h ≡ h
    walk_end c names h ascends idle = walk_end_among c names h ascends (λ m at. idle m)
