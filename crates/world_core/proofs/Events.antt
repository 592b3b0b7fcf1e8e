-- Layer 2, what a history keeps: the events of a beat, among all events.
use Rattle.std.proofs.Common.{◌≡◌, ℕ, zero, suc, ◌+◌, ◌<◌, ◌≤◌, ◌==◌, Bool, true, false, List, [], ◌∷◌, Some, slice_get, length, drop, refl, sym, ap, ◌∙◌, subst, arith}
use Rattle.std.specs.Prelude.{if◌then◌else◌}
use Rattle.std.proofs.lemmas.List.{drop_more}
use Rattle.std.proofs.lemmas.Option.{slice_get_within, get_or_from_slice_get}
use Rattle.kube_objects.specs.declared.script.Event.{Event}
use Rattle.kube_objects.specs.Document.{Doc}
use Rattle.kube_objects.specs.Entry.{Entry}
use Rattle.history.specs.Steps.{happens, happen_all}
use Rattle.script_reader.specs.Lawful.{IsLawfulWhat, AreLawfulFrom}
use Rattle.world_process.proofs.Names.{eq-self, eq-is, eq-isnt}

-- ---- the place in a list

pub drop-at : {A : Type 0} (xs : List A) (i : ℕ) (x : A) → slice_get xs i ≡ Some x → drop i xs ≡ x ∷ drop (i + 1) xs
drop-at xs i x is = drop_more xs i x (slice_get_within xs i x is) ∙ ap (λ y. y ∷ drop (i + 1) xs) (get_or_from_slice_get xs i x x is)

pub drop-past : {A : Type 0} (xs : List A) (i : ℕ) → length xs ≤ i → drop i xs ≡ []
drop-past [] zero past = refl
drop-past [] (suc i) past = refl
drop-past (y ∷ ys) zero past = absurd (omega (arith, past))
drop-past (y ∷ ys) (suc i) past = drop-past ys i (omega (arith, past))

-- ---- events of other beats do nothing

happens-not : (doc : Doc) (k : ℕ) (e : Event) (h : List Entry) → ¬ (e.beat.0 ≡ k) → (if (e.beat.0 == k) then happens doc k e.what h else h) ≡ h
happens-not doc k e h other = ap (λ b. (if b then happens doc k e.what h else h)) (eq-isnt e.beat.0 k other)

pub happens-now : (doc : Doc) (k : ℕ) (e : Event) (h : List Entry) → e.beat.0 ≡ k → (if (e.beat.0 == k) then happens doc k e.what h else h) ≡ happens doc k e.what h
happens-now doc k e h now = ap (λ n. (if (e.beat.0 == n) then happens doc k e.what h else h)) (sym now) ∙ ap (λ b. (if b then happens doc k e.what h else h)) (eq-self e.beat.0)

-- those of earlier beats
pub happen-earlier : (doc : Doc) (k : ℕ) (es : List Event) (n : ℕ) (h : List Entry) → ((i : ℕ) (e : Event) → i < n → slice_get es i ≡ Some e → e.beat.0 < k) → happen_all doc k (drop n es) h ≡ happen_all doc k es h
happen-earlier doc k es zero h earlier = refl
happen-earlier doc k [] (suc n) h earlier = refl
happen-earlier doc k (e ∷ es) (suc n) h earlier =
    let before : e.beat.0 < k = earlier 0 e (omega arith) refl in
    let other : ¬ (e.beat.0 ≡ k) = λ is. omega (arith, before, is) in
    happen-earlier doc k es n h (λ i x less is. earlier (suc i) x (omega (arith, less)) is)
    ∙ ap (λ g. happen_all doc k es g) (sym (happens-not doc k e h other))

-- those of later beats
pub happen-later : (doc : Doc) (k from : ℕ) (es : List Event) (h : List Entry) → k < from → AreLawfulFrom doc from es → happen_all doc k es h ≡ h
happen-later doc k from [] h less lawful = refl
happen-later doc k from (e ∷ es) h less lawful =
    let least = lawful.0 in
    let after : k < e.beat.0 = omega (arith, less, least) in
    let other : ¬ (e.beat.0 ≡ k) = λ is. omega (arith, after, is) in
    ap (λ g. happen_all doc k es g) (happens-not doc k e h other) ∙ happen-later doc k e.beat.0 es h after lawful.3

-- the first event isn't of this beat: all are of later ones
pub lawful-later : (doc : Doc) (k : ℕ) (e : Event) (es : List Event) → ¬ (e.beat.0 ≡ k) → AreLawfulFrom doc k (e ∷ es) → AreLawfulFrom doc (k + 1) (e ∷ es)
lawful-later doc k e es other lawful = let least = lawful.0 in (omega (arith, least, other), lawful.1, lawful.2, lawful.3)

-- the first event is of this beat: the others are of this beat or later
pub lawful-rest : (doc : Doc) (k : ℕ) (e : Event) (es : List Event) → e.beat.0 ≡ k → AreLawfulFrom doc k (e ∷ es) → AreLawfulFrom doc k es
lawful-rest doc k e es now lawful = subst (λ n. AreLawfulFrom doc n es) now lawful.3

pub lawful-what : (doc : Doc) (k : ℕ) (e : Event) (es : List Event) → AreLawfulFrom doc k (e ∷ es) → IsLawfulWhat doc e.what
lawful-what doc k e es lawful = lawful.2

-- one event more lies before the place
pub earlier-more : (k n : ℕ) (es : List Event) (x : Event) → slice_get es n ≡ Some x → x.beat.0 < k → ((i : ℕ) (e : Event) → i < n → slice_get es i ≡ Some e → e.beat.0 < k) →
    (i : ℕ) (e : Event) → i < n + 1 → slice_get es i ≡ Some e → e.beat.0 < k
earlier-more k n es x here less before i e within is = by_place (i == n) refl
  where
    by_place : (b : Bool) → (i == n) ≡ b → e.beat.0 < k
    by_place true same =
        let place : i ≡ n = eq-is i n same in
        let there : Some x ≡ Some e = sym here ∙ ap (slice_get es) (sym place) ∙ is in
        let one : x ≡ e = cc in
        subst (λ y. y.beat.0 < k) one less
    by_place false other =
        let apart : ¬ (i ≡ n) = λ same. (let now : (i == n) ≡ true = ap (λ m. i == m) (sym same) ∙ eq-self i in cc) in
        before i e (omega (arith, within, apart)) is
