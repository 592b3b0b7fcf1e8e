-- The first of some lines.
use Rattle.std.proofs.Common.{◌≡◌, ℕ, ◌≤◌, Bool, true, false, cond, ◌||◌, List, [], ◌∷◌, ◌++◌, min, Option, Some, None, refl, sym, ap, ◌∙◌, arith}
use Rattle.std.specs.List.{filter, list_any}
use Rattle.std.specs.Str.{bytes_eq}
use Rattle.trace_terms.specs.Entries.{Entry}
use Rattle.trace_terms.specs.Findings.{earlier, least, numbers}

pub earlier-none : (a : Option ℕ) → earlier a None ≡ a
earlier-none None = refl
earlier-none (Some a) = refl

pub earlier-swap : (a b : Option ℕ) → earlier a b ≡ earlier b a
earlier-swap None None = refl
earlier-swap None (Some b) = refl
earlier-swap (Some a) None = refl
earlier-swap (Some a) (Some b) = let e : min a b ≡ min b a = omega arith in ap (λ n. Some n) e

pub earlier-join : (a b c : Option ℕ) → earlier (earlier a b) c ≡ earlier a (earlier b c)
earlier-join None b c = refl
earlier-join (Some a) None c = refl
earlier-join (Some a) (Some b) None = refl
earlier-join (Some a) (Some b) (Some c) = let e : min (min a b) c ≡ min a (min b c) = omega arith in ap (λ n. Some n) e

pub earlier-same : (a : Option ℕ) → earlier a a ≡ a
earlier-same None = refl
earlier-same (Some a) = let e : min a a ≡ a = omega arith in ap (λ n. Some n) e

pub least-append : (xs ys : List ℕ) → least (xs ++ ys) ≡ earlier (least xs) (least ys)
least-append [] ys = refl
least-append (x ∷ xs) ys = ap (λ l. earlier (Some x) l) (least-append xs ys) ∙ sym (earlier-join (Some x) (least xs) (least ys))

-- one that comes first is told
pub earlier-first : (a : ℕ) (b : ℕ) → a ≤ b → earlier (Some a) (Some b) ≡ Some a
earlier-first a b le = let e : min a b ≡ a = omega arith in ap (λ n. Some n) e

-- ---- by groups

-- the first of what each key gives
abbrev pub least_by : (List ℕ → Option ℕ) → List (List ℕ) → Option ℕ
least_by f [] = None
least_by f (k ∷ ks) = earlier (f k) (least_by f ks)

-- those of one actor
abbrev pub by_actor : List ℕ → List Entry → List Entry
by_actor who es = filter (λ a. bytes_eq a.actor who) es

-- what a key gives with one line more at one key
abbrev grown : ℕ → List ℕ → (List ℕ → Option ℕ) → List ℕ → Option ℕ
grown n who f k = cond (bytes_eq who k) (earlier (Some n) (f k)) (f k)

swap-in : (x a b : Option ℕ) → earlier x (earlier a b) ≡ earlier a (earlier x b)
swap-in x a b = sym (earlier-join x a b) ∙ ap (λ l. earlier l b) (earlier-swap x a) ∙ earlier-join a x b

twice : (x a : Option ℕ) → earlier x (earlier x a) ≡ earlier x a
twice x a = sym (earlier-join x x a) ∙ ap (λ l. earlier l a) (earlier-same x)

-- with the line told anyway nothing changes
grown-told : (n : ℕ) (who : List ℕ) (f : List ℕ → Option ℕ) (ks : List (List ℕ))
    → earlier (Some n) (least_by (grown n who f) ks) ≡ earlier (Some n) (least_by f ks)
grown-told n who f [] = refl
grown-told n who f (k ∷ ks) = by (bytes_eq who k) (grown-told n who f ks)
  where
    by : (b : Bool) → earlier (Some n) (least_by (grown n who f) ks) ≡ earlier (Some n) (least_by f ks)
        → earlier (Some n) (earlier (cond b (earlier (Some n) (f k)) (f k)) (least_by (grown n who f) ks)) ≡ earlier (Some n) (earlier (f k) (least_by f ks))
    by true rest =
        ap (λ l. earlier (Some n) l) (earlier-join (Some n) (f k) (least_by (grown n who f) ks))
        ∙ twice (Some n) (earlier (f k) (least_by (grown n who f) ks))
        ∙ swap-in (Some n) (f k) (least_by (grown n who f) ks)
        ∙ ap (λ l. earlier (f k) l) rest ∙ sym (swap-in (Some n) (f k) (least_by f ks))
    by false rest =
        swap-in (Some n) (f k) (least_by (grown n who f) ks) ∙ ap (λ l. earlier (f k) l) rest ∙ sym (swap-in (Some n) (f k) (least_by f ks))

-- one line more at a key is one line more
pub grown-held : (n : ℕ) (who : List ℕ) (f : List ℕ → Option ℕ) (ks : List (List ℕ)) → list_any (bytes_eq who) ks ≡ true
    → least_by (grown n who f) ks ≡ earlier (Some n) (least_by f ks)
grown-held n who f [] held = absurd (let no : false ≡ true = held in cc)
grown-held n who f (k ∷ ks) held = by (bytes_eq who k) held (grown-held n who f ks)
  where
    by : (b : Bool) → (b || list_any (bytes_eq who) ks) ≡ true → (list_any (bytes_eq who) ks ≡ true → least_by (grown n who f) ks ≡ earlier (Some n) (least_by f ks))
        → earlier (cond b (earlier (Some n) (f k)) (f k)) (least_by (grown n who f) ks) ≡ earlier (Some n) (earlier (f k) (least_by f ks))
    by true held rest =
        earlier-join (Some n) (f k) (least_by (grown n who f) ks)
        ∙ swap-in (Some n) (f k) (least_by (grown n who f) ks)
        ∙ ap (λ l. earlier (f k) l) (grown-told n who f ks) ∙ sym (swap-in (Some n) (f k) (least_by f ks))
    by false held rest = ap (λ l. earlier (f k) l) (rest held) ∙ sym (swap-in (Some n) (f k) (least_by f ks))

pub least_by-same : (f g : List ℕ → Option ℕ) → ((k : List ℕ) → f k ≡ g k) → (ks : List (List ℕ)) → least_by f ks ≡ least_by g ks
least_by-same f g same [] = refl
least_by-same f g same (k ∷ ks) = ap (λ l. earlier l (least_by f ks)) (same k) ∙ ap (λ l. earlier (g k) l) (least_by-same f g same ks)

nothing : (ks : List (List ℕ)) → least_by (λ k. None) ks ≡ None
nothing [] = refl
nothing (k ∷ ks) = nothing ks

-- each actor of some lines is held
abbrev pub AreHeld : List (List ℕ) → List Entry → Type 0
AreHeld ks [] = Unit {0}
AreHeld ks (e ∷ es) = (list_any (bytes_eq e.actor) ks ≡ true) × AreHeld ks es

more : (k : List ℕ) (e : Entry) (es : List Entry) → grown e.line e.actor (λ j. least (numbers (by_actor j es))) k ≡ least (numbers (by_actor k (e ∷ es)))
more k e es = by (bytes_eq e.actor k)
  where
    by : (b : Bool) → cond b (earlier (Some e.line) (least (numbers (by_actor k es)))) (least (numbers (by_actor k es))) ≡ least (numbers (cond b (e ∷ by_actor k es) (by_actor k es)))
    by true = refl
    by false = refl

-- the first of all is the first of each actor's first
pub least-grouped : (ks : List (List ℕ)) (es : List Entry) → AreHeld ks es → least_by (λ k. least (numbers (by_actor k es))) ks ≡ least (numbers es)
least-grouped ks [] held = nothing ks
least-grouped ks (e ∷ es) held =
    least_by-same (λ k. least (numbers (by_actor k (e ∷ es)))) (grown e.line e.actor (λ j. least (numbers (by_actor j es)))) (λ k. sym (more k e es)) ks
    ∙ grown-held e.line e.actor (λ j. least (numbers (by_actor j es))) ks held.0
    ∙ ap (λ l. earlier (Some e.line) l) (least-grouped ks es held.1)
