-- What a change of the map of beats makes of what is pending.
use Rattle.std.proofs.Common.{◌≡◌, ℕ, ◌<◌, ◌≤◌, ◌==◌, Bool, true, false, cond, List, [], ◌∷◌, ◌++◌, Option, Some, None, IsSome, length, refl, sym, ap, ◌∙◌, subst, arith}
use Rattle.std.proofs.lemmas.Map.Keys.{le_from_not_gt}
use Rattle.std.specs.BTreeMap.{BTreeMap, get, Updates, IsLowerBound}
use Rattle.std.specs.Cmp.{unsigned_tied}
use Rattle.kube_base.specs.contracts.numbers.BeatOrd.TheImpl as beat_ord
use Rattle.kube_base.specs.declared.numbers.Beat.{Beat}
use Rattle.wire_calls.specs.InFlight.{beat_cmp}
use borrow.Author.Tests.{eqb-true}

pub beat_order : (beat_ord.cmp-value).it ≡ beat_cmp
beat_order = refl

-- f gives the messages of a beat
abbrev pub items_by : {X T : Type 0} → (X → List T) → Option X → List T
items_by f None = []
items_by f (Some x) = f x

abbrev pub IsLive : {X T : Type 0} → (X → List T) → Option X → Type 0
IsLive f None = Unit {0}
IsLive f (Some x) = f x ≡ [] → ⊥

abbrev pub at_beat : ℕ → Beat
at_beat j = record { 0 = j }

abbrev pub pending_by : {X T : Type 0} → (X → List T) → BTreeMap Beat X → ℕ → List T
pending_by f m j = items_by f (get beat_cmp m (at_beat j))

pub updates-get : {X : Type 0} (m n : BTreeMap Beat X) (beat : Beat) (w : Option X) → Updates (beat_ord.cmp-value).it m n beat w → (j : ℕ) → get beat_cmp n (at_beat j) ≡ cond (beat.0 == j) w (get beat_cmp m (at_beat j))
updates-get m n beat w u j = (subst (λ cmp. Updates cmp m n beat w) beat_order u).0 (at_beat j) ∙ ap (λ b. cond b w (get beat_cmp m (at_beat j))) (unsigned_tied beat.0 j)

-- a change of one beat
pub change-pending : {X T : Type 0} (f : X → List T) (m n : BTreeMap Beat X) (beat : Beat) (w : Option X) (g : List T → List T) → ((j : ℕ) → get beat_cmp n (at_beat j) ≡ cond (beat.0 == j) w (get beat_cmp m (at_beat j))) → items_by f w ≡ g (pending_by f m beat.0) → (j : ℕ) → pending_by f n j ≡ cond (beat.0 == j) (g (pending_by f m j)) (pending_by f m j)
change-pending f m n beat w g u is j = ap (items_by f) (u j) ∙ by_test (beat.0 == j) (λ same. is ∙ ap (λ i. g (pending_by f m i)) (eqb-true beat.0 j same))
  where
    by_test : (b : Bool) → (b ≡ true → items_by f w ≡ g (pending_by f m j)) → items_by f (cond b w (get beat_cmp m (at_beat j))) ≡ cond b (g (pending_by f m j)) (pending_by f m j)
    by_test true is = is refl
    by_test false is = refl

pub change-live : {X T : Type 0} (f : X → List T) (m n : BTreeMap Beat X) (beat : Beat) (w : Option X) → ((j : ℕ) → get beat_cmp n (at_beat j) ≡ cond (beat.0 == j) w (get beat_cmp m (at_beat j))) → IsLive f w → ((j : ℕ) → IsLive f (get beat_cmp m (at_beat j))) → (j : ℕ) → IsLive f (get beat_cmp n (at_beat j))
change-live f m n beat w u live all j = subst (IsLive f) (sym (u j)) (by_test (beat.0 == j))
  where
    by_test : (b : Bool) → IsLive f (cond b w (get beat_cmp m (at_beat j)))
    by_test true = live
    by_test false = all j

-- where the changed messages of a beat are none, the beat is taken out
pub emptied-get : {X : Type 0} (m n k : BTreeMap Beat X) (beat : Beat) (w : Option X) → ((j : ℕ) → get beat_cmp n (at_beat j) ≡ cond (beat.0 == j) w (get beat_cmp m (at_beat j))) → ((j : ℕ) → get beat_cmp k (at_beat j) ≡ cond (beat.0 == j) None (get beat_cmp n (at_beat j))) → (j : ℕ) → get beat_cmp k (at_beat j) ≡ cond (beat.0 == j) None (get beat_cmp m (at_beat j))
emptied-get m n k beat w u v j = v j ∙ ap (λ x. cond (beat.0 == j) None x) (u j) ∙ by_test (beat.0 == j)
  where
    by_test : (b : Bool) → cond b None (cond b w (get beat_cmp m (at_beat j))) ≡ cond b None (get beat_cmp m (at_beat j))
    by_test true = refl
    by_test false = refl

-- below the least beat nothing is pending
pub below-least : {X T : Type 0} (f : X → List T) (m : BTreeMap Beat X) (beat : Beat) → IsLowerBound (beat_ord.cmp-value).it m beat → (j : ℕ) → j < beat.0 → pending_by f m j ≡ []
below-least f m beat least j below = by_get (get beat_cmp m (at_beat j)) (λ some. le_from_not_gt beat.0 j ((subst (λ cmp. IsLowerBound cmp m beat) beat_order least) (at_beat j) some))
  where
    by_get : (o : Option _) → (IsSome o → beat.0 ≤ j) → items_by f o ≡ []
    by_get None le = refl
    by_get (Some x) le = absurd (let h = le refl in omega (arith, h, below))

-- ---- small lemmas on lists

pub either : {A : Type 0} (b : Bool) (x : A) → cond b x x ≡ x
either true x = refl
either false x = refl

pub never-empty : {T : Type 0} (xs : List T) (x : T) → xs ++ x ∷ [] ≡ [] → ⊥
never-empty [] x is = absurd (cc)
never-empty (y ∷ xs) x is = absurd (cc)

pub nil-from-length : {T : Type 0} (xs : List T) → length xs ≡ 0 → xs ≡ []
nil-from-length [] is = refl
nil-from-length (x ∷ xs) is = absurd (omega (arith, is))
