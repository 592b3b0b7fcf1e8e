-- The nearest spans tell which lead a term crosses first.
use Rattle.std.proofs.Common.{◌≡◌, ℕ, ◌≤◌, ◌==◌, nat_le, nat_lt, Bool, true, false, cond, not, ◌&&◌, List, [], ◌∷◌, map, slice_get, min, max, Option, Some, None, refl, sym, ap, subst, ◌∙◌, arith, leb-true, eqb-true}
use Rattle.std.specs.List.{filter}
use Rattle.std.specs.Str.{bytes_eq}
use Rattle.std.proofs.lemmas.Bool.Decides.{nat_tests}
use Rattle.std.proofs.lemmas.Slice.Eq.{bytes_eq-Decides}
use Rattle.trace_terms.specs.declared.nearest.Span.{Span}
use Rattle.trace_terms.specs.Entries.{Entry}
use Rattle.trace_terms.specs.Terms.{Term, terms, term_of, is_lead}
use Rattle.trace_terms.specs.Findings.{earlier, least, crosses}
use Rattle.trace_terms.specs.Near.{another_of, begun_before, live, others, IsFirst, IsOther}
use Rattle.trace_terms.specs.Seats.{AreAfter, InOrder, Once}
use Rattle.trace_terms.proofs.SeatsLaws.{one-place}

-- ---- who is nearest

-- the first span of another is the first of the terms of others
pub another-first : (actors : List (List ℕ)) (ts : List Term) (first other : Option Span) (p : ℕ) (a : List ℕ) → Once actors → slice_get actors p ≡ Some a
    → IsFirst actors ts first → IsOther actors ts other → IsFirst actors (others a ts) (another_of first other p)
another-first actors [] None other p a once at f o = tt
another-first actors [] (Some s) other p a once at f o = absurd f
another-first actors (t ∷ ts) None other p a once at f o = absurd f
another-first actors (t ∷ ts) (Some s) other p a once at f o = by (s.who == p) refl
  where
    hit : s.who ≡ p → a ≡ t.actor
    hit same = let e : Some a ≡ Some t.actor = sym at ∙ ap (λ n. slice_get actors n) (sym same) ∙ f.who in cc

    miss : (b : Bool) → bytes_eq a t.actor ≡ b → (s.who == p) ≡ false → bytes_eq a t.actor ≡ false
    miss false e other_place = e
    miss true e other_place =
        let same : a ≡ t.actor = (bytes_eq-Decides a t.actor).0 e in
        let place : s.who ≡ p = one-place actors once s.who p a (f.who ∙ ap (λ w. Some w) (sym same)) at in
        absurd (let denied : (p == p) ≡ false = subst (λ w. (w == p) ≡ false) place other_place in grind (arith, nat_tests))

    by : (b : Bool) → (s.who == p) ≡ b → IsFirst actors (others a (t ∷ ts)) (cond b other (Some s))
    by true e =
        let same : a ≡ t.actor = hit (eqb-true _ _ e) in
        let same_bytes : bytes_eq a t.actor ≡ true = (bytes_eq-Decides a t.actor).1 same in
        subst (λ b. IsFirst actors (cond (not b) (t ∷ others a ts) (others a ts)) other) (sym same_bytes) (subst (λ w. IsFirst actors (others w ts) other) (sym same) o)
    by false e = subst (λ b. IsFirst actors (cond (not b) (t ∷ others a ts) (others a ts)) (Some s)) (sym (miss (bytes_eq a t.actor) refl e)) f

-- ---- order

-- no term begins before this beat or this line
abbrev pub TermsAfter : ℕ → ℕ → List Term → Type 0
TermsAfter from line [] = Unit {0}
TermsAfter from line (t ∷ ts) = (nat_le from t.from ≡ true) × (nat_le line t.line ≡ true) × TermsAfter from line ts

abbrev pub TermsInOrder : List Term → Type 0
TermsInOrder [] = Unit {0}
TermsInOrder (t ∷ ts) = TermsAfter t.from t.line ts × TermsInOrder ts

after-filter : (p : Term → Bool) (from line : ℕ) (ts : List Term) → TermsAfter from line ts → TermsAfter from line (filter p ts)
after-filter p from line [] h = tt
after-filter p from line (t ∷ ts) h = by (p t) (after-filter p from line ts h.2)
  where
    by : (b : Bool) → TermsAfter from line (filter p ts) → TermsAfter from line (cond b (t ∷ filter p ts) (filter p ts))
    by true rest = (h.0, h.1, rest)
    by false rest = rest

order-filter : (p : Term → Bool) (ts : List Term) → TermsInOrder ts → TermsInOrder (filter p ts)
order-filter p [] h = tt
order-filter p (t ∷ ts) h = by (p t) (order-filter p ts h.1)
  where
    by : (b : Bool) → TermsInOrder (filter p ts) → TermsInOrder (cond b (t ∷ filter p ts) (filter p ts))
    by true rest = (after-filter p t.from t.line ts h.0, rest)
    by false rest = rest

pub terms-after : (stop from line : ℕ) (es : List Entry) → AreAfter from line es → TermsAfter from line (terms stop es)
unfolding terms
terms-after stop from line [] h = tt
terms-after stop from line (e ∷ es) h = by (is_lead e.role) (terms-after stop from line es h.2)
  where
    by : (b : Bool) → TermsAfter from line (terms stop es) → TermsAfter from line (cond b (term_of stop e es ∷ terms stop es) (terms stop es))
    by true rest = (h.0, h.1, rest)
    by false rest = rest

pub terms-in-order : (stop : ℕ) (es : List Entry) → InOrder es → TermsInOrder (terms stop es)
unfolding terms
terms-in-order stop [] h = tt
terms-in-order stop (e ∷ es) h = by (is_lead e.role) (terms-in-order stop es h.1)
  where
    by : (b : Bool) → TermsInOrder (terms stop es) → TermsInOrder (cond b (term_of stop e es ∷ terms stop es) (terms stop es))
    by true rest = (terms-after stop e.beat e.line es h.0, rest)
    by false rest = rest

-- ---- the first that begins before a beat

abbrev lines_of_terms : List Term → List ℕ
lines_of_terms ts = map (λ u. u.line) ts

first-line : (p : Term → Bool) (from line : ℕ) (ts : List Term) → TermsAfter from line ts → earlier (Some line) (least (lines_of_terms (filter p ts))) ≡ Some line
first-line p from line [] h = refl
first-line p from line (t ∷ ts) h = by (p t) (first-line p from line ts h.2)
  where
    first : (o : Option ℕ) → earlier (Some line) o ≡ Some line → earlier (Some line) (earlier (Some t.line) o) ≡ Some line
    first None e = let le : line ≤ t.line = leb-true _ _ h.1 in let m : min line t.line ≡ line = omega arith in ap (λ n. Some n) m
    first (Some n) e =
        let le : line ≤ t.line = leb-true _ _ h.1 in
        let m : min line n ≡ line = (let s : Some (min line n) ≡ Some line = e in cc) in
        let all : min line (min t.line n) ≡ line = omega arith in ap (λ n. Some n) all

    by : (b : Bool) → earlier (Some line) (least (lines_of_terms (filter p ts))) ≡ Some line
        → earlier (Some line) (least (lines_of_terms (cond b (t ∷ filter p ts) (filter p ts)))) ≡ Some line
    by true rest = first (least (lines_of_terms (filter p ts))) rest
    by false rest = rest

none-before : (to from line : ℕ) (ts : List Term) → TermsAfter from line ts → nat_lt from to ≡ false → filter (λ u. nat_lt u.from to) ts ≡ []
none-before to from line [] h denied = refl
none-before to from line (t ∷ ts) h denied =
    let le : nat_le from t.from ≡ true = h.0 in
    let late : nat_lt t.from to ≡ false = grind (arith, nat_tests) in
    ap (λ b. cond b (t ∷ filter (λ u. nat_lt u.from to) ts) (filter (λ u. nat_lt u.from to) ts)) late ∙ none-before to from line ts h.2 denied

begun-first : (actors : List (List ℕ)) (to : ℕ) (ts : List Term) (s : Option Span) → TermsInOrder ts → IsFirst actors ts s
    → least (lines_of_terms (filter (λ u. nat_lt u.from to) ts)) ≡ begun_before to s
begun-first actors to [] None h f = refl
begun-first actors to [] (Some s) h f = absurd f
begun-first actors to (t ∷ ts) None h f = absurd f
begun-first actors to (t ∷ ts) (Some s) h f =
    by (nat_lt t.from to) refl ∙ ap (λ n. cond (nat_lt n to) (Some t.line) None) (sym f.from) ∙ ap (λ n. cond (nat_lt s.from to) (Some n) None) (sym f.line)
  where
    by : (b : Bool) → nat_lt t.from to ≡ b
        → least (lines_of_terms (cond b (t ∷ filter (λ u. nat_lt u.from to) ts) (filter (λ u. nat_lt u.from to) ts))) ≡ cond b (Some t.line) None
    by true e = first-line (λ u. nat_lt u.from to) t.from t.line ts h.0
    by false e = ap (λ l. least (lines_of_terms l)) (none-before to t.from t.line ts h.0 e)

-- ---- crossing is beginning within

crosses-as : (t u : Term) → nat_le t.from u.from ≡ true → crosses t u ≡ (not (bytes_eq t.actor u.actor) && (nat_lt u.from t.to && nat_lt u.from u.to))
crosses-as t u le = ap (λ b. not (bytes_eq t.actor u.actor) && b) (within t.from u.from t.to u.to le)
  where
    within : (a b c d : ℕ) → nat_le a b ≡ true → nat_lt (max a b) (min c d) ≡ (nat_lt b c && nat_lt b d)
    within a b c d le = grind (arith, nat_tests)

crossing-filter : (from line : ℕ) (t : Term) (ts : List Term) → from ≡ t.from → TermsAfter from line ts
    → filter (crosses t) ts ≡ filter (λ u. nat_lt u.from t.to) (others t.actor (live ts))
crossing-filter from line t [] same h = refl
crossing-filter from line t (u ∷ us) same h =
    ap (λ b. cond b (u ∷ filter (crosses t) us) (filter (crosses t) us)) (crosses-as t u (subst (λ n. nat_le n u.from ≡ true) same h.0))
    ∙ by (not (bytes_eq t.actor u.actor)) (nat_lt u.from t.to) (nat_lt u.from u.to) refl refl (crossing-filter from line t us same h.2)
  where
    by : (n b l : Bool) → not (bytes_eq t.actor u.actor) ≡ n → nat_lt u.from t.to ≡ b
        → filter (crosses t) us ≡ filter (λ u. nat_lt u.from t.to) (others t.actor (live us))
        → cond (n && (b && l)) (u ∷ filter (crosses t) us) (filter (crosses t) us) ≡ filter (λ u. nat_lt u.from t.to) (others t.actor (cond l (u ∷ live us) (live us)))
    by n b false en eb rest = side n b ∙ rest
      where
        side : (n b : Bool) → cond (n && (b && false)) (u ∷ filter (crosses t) us) (filter (crosses t) us) ≡ filter (crosses t) us
        side true true = refl
        side true false = refl
        side false b = refl
    by false b true en eb rest =
        rest ∙ ap (λ c. filter (λ u. nat_lt u.from t.to) (cond c (u ∷ others t.actor (live us)) (others t.actor (live us)))) (sym en)
    by true false true en eb rest =
        rest ∙ ap (λ c. cond c (u ∷ filter (λ u. nat_lt u.from t.to) (others t.actor (live us))) (filter (λ u. nat_lt u.from t.to) (others t.actor (live us)))) (sym eb)
        ∙ ap (λ c. filter (λ u. nat_lt u.from t.to) (cond c (u ∷ others t.actor (live us)) (others t.actor (live us)))) (sym en)
    by true true true en eb rest =
        ap (λ l. u ∷ l) rest
        ∙ ap (λ c. cond c (u ∷ filter (λ u. nat_lt u.from t.to) (others t.actor (live us))) (filter (λ u. nat_lt u.from t.to) (others t.actor (live us)))) (sym eb)
        ∙ ap (λ c. filter (λ u. nat_lt u.from t.to) (cond c (u ∷ others t.actor (live us)) (others t.actor (live us)))) (sym en)

-- the first lead that a term crosses begins at the nearest span of another
pub crossed-first : (actors : List (List ℕ)) (t : Term) (ts : List Term) (s : Option Span) → TermsAfter t.from t.line ts → TermsInOrder ts
    → IsFirst actors (others t.actor (live ts)) s → least (map (λ u. u.line) (filter (crosses t) ts)) ≡ begun_before t.to s
crossed-first actors t ts s after order f =
    ap (λ l. least (lines_of_terms l)) (crossing-filter t.from t.line t ts refl after)
    ∙ begun-first actors t.to (others t.actor (live ts)) s
    (order-filter (λ u. not (bytes_eq t.actor u.actor)) (live ts) (order-filter (λ u. nat_lt u.from u.to) ts order)) f
