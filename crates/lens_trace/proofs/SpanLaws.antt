-- A beat lies in one of the spans without a leader exactly where nobody acts.
use Rattle.std.proofs.Common.{◌≡◌, ℕ, zero, suc, ◌+◌, ◌++◌, filter, ◌≤◌, ◌<◌, ◌&&◌, ◌||◌, not, nat_le, nat_lt, max, Bool, true, false, cond, List, [], ◌∷◌, length, filter_map, ◌==◌, Option, Some, None, refl, sym, ap, subst, ◌∙◌, arith}
use Rattle.std.specs.List.{cons_option}
use Rattle.std.proofs.lemmas.Bool.{le-leb}
use Rattle.std.proofs.lemmas.Bool.Decides.{nat_tests}
use Rattle.std.proofs.lemmas.List.Folds.{list_any-append}
use Rattle.trace_lines.specs.declared.line.Line.{Line}
use Rattle.trace_lines.specs.Forms.{line_of}
use Rattle.trace_audit.specs.Entries.{first_wrong, wrong_from}
use Rattle.lens_terms.specs.declared.stretch.Stretch.{Stretch}
use Rattle.lens_terms.specs.Acting.{by_beat, stretches, nothing_known, acting}
use Rattle.lens_terms.specs.Beats.{is_led, covers, lies_in}
use Rattle.lens_terms.specs.Spans.{span, leaderless}

-- ---- the order of lines and stretches

-- beats don't go down from a beat on, nor above the end
abbrev pub AreOrdered : ℕ → ℕ → List (Line (List ℕ)) → Type 0
AreOrdered end before [] = Unit {0}
AreOrdered end before (l ∷ ls) = (nat_le before l.beat ≡ true) × (nat_le l.beat end ≡ true) × AreOrdered end l.beat ls

no-line : line_of [] ≡ None
unfolding line_of
no-line = refl

pub lines-ordered : (end number before : ℕ) (texts : List (List ℕ)) → first_wrong end number before texts ≡ None → AreOrdered end before (filter_map line_of texts)
unfolding first_wrong
lines-ordered end number before [] right = tt
lines-ordered end number before (l ∷ []) right = by l right
  where
    by : (l : List ℕ) → cond (length l == 0) None (Some number) ≡ None → AreOrdered end before (cons_option (line_of l) [])
    by [] right = subst (λ o. AreOrdered end before (cons_option o [])) (sym no-line) tt
    by (c ∷ cs) right = absurd (some (length (c ∷ cs) == 0) (grind (arith, nat_tests)) right)
      where
        some : (b : Bool) → b ≡ false → cond b None (Some number) ≡ None → ⊥
        some true e right = let no : true ≡ false = e in cc
        some false e right = cc
lines-ordered end number before (l ∷ m ∷ more) right = by (λ beat r. lines-ordered end (number + 1) beat (m ∷ more) r) (line_of l) right
  where
    by : ((beat : ℕ) → first_wrong end (number + 1) beat (m ∷ more) ≡ None → AreOrdered end beat (filter_map line_of (m ∷ more)))
        → (o : Option (Line (List ℕ))) → wrong_from end number before o (λ beat. first_wrong end (number + 1) beat (m ∷ more)) ≡ None
        → AreOrdered end before (cons_option o (filter_map line_of (m ∷ more)))
    by again None right = absurd (let no : Some number ≡ None = right in cc)
    by again (Some line) right = in_bounds (nat_le before line.beat) (nat_le line.beat end) refl refl right
      where
        in_bounds : (a b : Bool) → nat_le before line.beat ≡ a → nat_le line.beat end ≡ b → cond (a && b) (first_wrong end (number + 1) line.beat (m ∷ more)) (Some number) ≡ None
            → AreOrdered end before (line ∷ filter_map line_of (m ∷ more))
        in_bounds false b e f right = absurd (let no : Some number ≡ None = right in cc)
        in_bounds true false e f right = absurd (let no : Some number ≡ None = right in cc)
        in_bounds true true e f right = (e, f, again line.beat right)

-- each stretch begins not before the one before it, and before the trace's end
abbrev pub AreBegun : ℕ → ℕ → List (Stretch (List ℕ)) → Type 0
AreBegun end before [] = Unit {0}
AreBegun end before (s ∷ more) = (nat_le before s.from ≡ true) × (nat_le s.from end ≡ true) × AreBegun end s.from more

-- each begins before a beat
abbrev AreBelow : ℕ → List (Stretch (List ℕ)) → Type 0
AreBelow n [] = Unit {0}
AreBelow n (s ∷ more) = (s.from < n) × AreBelow n more

-- each begins at a beat
abbrev AreAt : ℕ → List (Stretch (List ℕ)) → Type 0
AreAt n [] = Unit {0}
AreAt n (s ∷ more) = (s.from ≡ n) × AreAt n more

filtered-at : (n : ℕ) (all : List (Stretch (List ℕ))) → AreAt n (filter (λ s. s.from == n) all)
filtered-at n [] = tt
filtered-at n (s ∷ all) = by (s.from == n) refl (filtered-at n all)
  where
    by : (b : Bool) → (s.from == n) ≡ b → AreAt n (filter (λ s. s.from == n) all) → AreAt n (cond b (s ∷ filter (λ s. s.from == n) all) (filter (λ s. s.from == n) all))
    by true e h = (grind (arith, nat_tests, e), h)
    by false e h = h

at-begun : (end n before : ℕ) (all : List (Stretch (List ℕ))) → before ≤ n → n ≤ end → AreAt n all → AreBegun end before all
at-begun end n before [] low high h = tt
at-begun end n before (s ∷ all) low high h = (
  le-leb before s.from (omega (arith, low, h.0)),
  le-leb s.from end (omega (arith, high, h.0)),
  at-begun end n s.from all (omega (arith, h.0)) high h.1,
)

at-below : (n : ℕ) (all : List (Stretch (List ℕ))) → AreAt n all → AreBelow (suc n) all
at-below n [] h = tt
at-below n (s ∷ all) h = (omega (arith, h.0), at-below n all h.1)

below-append : (n : ℕ) (xs ys : List (Stretch (List ℕ))) → AreBelow n xs → AreBelow (suc n) ys → AreBelow (suc n) (xs ++ ys)
below-append n [] ys h k = k
below-append n (s ∷ xs) ys h k = (omega (arith, h.0), below-append n xs ys h.1 k)

begun-append : (end n before : ℕ) (xs ys : List (Stretch (List ℕ))) → before ≤ n → n ≤ end → AreBegun end before xs → AreBelow n xs → AreAt n ys → AreBegun end before (xs ++ ys)
begun-append end n before [] ys low high h k at = at-begun end n before ys low high at
begun-append end n before (s ∷ xs) ys low high h k at = (h.0, h.1, begun-append end n s.from xs ys (omega (arith, k.0)) high h.2 k.1 at)

by_beat-below : (n : ℕ) (all : List (Stretch (List ℕ))) → AreBelow n (by_beat n all)
unfolding by_beat
by_beat-below zero all = tt
by_beat-below (suc n) all = below-append n (by_beat n all) (filter (λ s. s.from == n) all) (by_beat-below n all) (at-below n (filter (λ s. s.from == n) all) (filtered-at n all))

by_beat-begun : (end n : ℕ) (all : List (Stretch (List ℕ))) → n ≤ end + 1 → AreBegun end 0 (by_beat n all)
unfolding by_beat
by_beat-begun end zero all within = tt
by_beat-begun end (suc n) all within =
    begun-append end n 0 (by_beat n all) (filter (λ s. s.from == n) all) (omega arith) (omega (arith, within)) (by_beat-begun end n all (omega (arith, within))) (by_beat-below n all)
    (filtered-at n all)

pub acting-begun : (end : ℕ) (ls : List (Line (List ℕ))) → AreBegun end 0 (acting (end + 1) ls)
unfolding acting
acting-begun end ls = by_beat-begun end (end + 1) (stretches (end + 1) 2 nothing_known ls) (omega arith)

-- ---- beats

not-begun : (end before beat : ℕ) (ts : List (Stretch (List ℕ))) → AreBegun end before ts → nat_lt beat before ≡ true → is_led beat ts ≡ false
not-begun end before beat [] h early = refl
not-begun end before beat (t ∷ ts) h early =
    let here : nat_le before t.from ≡ true = h.0 in
    let late : nat_le t.from beat ≡ false = grind (arith, nat_tests) in
    ap (λ b. (b && nat_lt beat t.until) || is_led beat ts) late ∙ not-begun end t.from beat ts h.2 (grind (arith, nat_tests))

or-false : (b : Bool) → (b || false) ≡ b
or-false true = refl
or-false false = refl

in-span : (beat from until : ℕ) → lies_in beat (span from until) ≡ (nat_le from beat && nat_lt beat until)
in-span beat from until = by (nat_lt from until) refl
  where
    by : (b : Bool) → nat_lt from until ≡ b → lies_in beat (cond b (record { from = from; until = until } ∷ []) []) ≡ (nat_le from beat && nat_lt beat until)
    by true e = or-false (nat_le from beat && nat_lt beat until)
    by false e = outside (nat_le from beat) (nat_lt beat until) refl refl
      where
        outside : (a b : Bool) → nat_le from beat ≡ a → nat_lt beat until ≡ b → false ≡ (a && b)
        outside false b p q = refl
        outside true false p q = refl
        outside true true p q = absurd (let low : from ≤ beat = grind (arith, nat_tests, p) in let high : beat < until = grind (arith, nat_tests, q) in let none : until ≤ from = grind (arith, nat_tests, e) in omega arith)

-- a beat is in the first span or in a later one, by whether it is behind the beat `since`, before the first term's, and before its end
choose : (x y u l : Bool) → (y ≡ true → l ≡ false) → ((x && y) || ((x && not u) && not l)) ≡ (x && not ((not y && u) || l))
choose false false u l h = refl
choose false true u l h = refl
choose true false true l h = refl
choose true false false l h = refl
choose true true true l h = sym (ap (λ b. not b) (h refl))
choose true true false l h = sym (ap (λ b. not b) (h refl))

later-max : (a b beat : ℕ) → nat_le (max a b) beat ≡ (nat_le a beat && not (nat_lt beat b))
later-max a b beat = grind (arith, nat_tests)

from-not : (from beat : ℕ) → nat_le from beat ≡ not (nat_lt beat from)
from-not from beat = grind (arith, nat_tests)

last-span : (since stop beat : ℕ) → nat_lt beat stop ≡ true → lies_in beat (span since stop) ≡ (nat_le since beat && not false)
last-span since stop beat below = in-span beat since stop ∙ ap (λ b. nat_le since beat && b) below

spans-hold : (stop end since before beat : ℕ) (ts : List (Stretch (List ℕ))) → AreBegun end before ts → nat_lt beat stop ≡ true
    → lies_in beat (leaderless since stop ts) ≡ (nat_le since beat && not (is_led beat ts))
spans-hold stop end since before beat [] h below = last-span since stop beat below
spans-hold stop end since before beat (t ∷ ts) h below =
    list_any-append (covers beat) (span since t.from) (leaderless (max since t.until) stop ts)
    ∙ ap (λ b. b || lies_in beat (leaderless (max since t.until) stop ts)) (in-span beat since t.from)
    ∙ ap (λ b. (nat_le since beat && nat_lt beat t.from) || b) (spans-hold stop end (max since t.until) t.from beat ts h.2 below)
    ∙ ap (λ b. (nat_le since beat && nat_lt beat t.from) || (b && not (is_led beat ts))) (later-max since t.until beat)
    ∙ choose (nat_le since beat) (nat_lt beat t.from) (nat_lt beat t.until) (is_led beat ts) (not-begun end t.from beat ts h.2)
    ∙ ap (λ b. nat_le since beat && not ((b && nat_lt beat t.until) || is_led beat ts)) (sym (from-not t.from beat))

zero-first : (beat : ℕ) (b : Bool) → (nat_le 0 beat && b) ≡ b
zero-first beat b = let is : nat_le 0 beat ≡ true = grind (arith, nat_tests) in ap (λ a. a && b) is

-- of a trace
pub nobody-acts : (end : ℕ) (ls : List (Line (List ℕ))) (beat : ℕ) → beat ≤ end
    → lies_in beat (leaderless 0 (end + 1) (acting (end + 1) ls)) ≡ not (is_led beat (acting (end + 1) ls))
nobody-acts end ls beat within =
    let below : nat_lt beat (end + 1) ≡ true = grind (arith, nat_tests, within) in
    spans-hold (end + 1) end 0 0 beat (acting (end + 1) ls) (acting-begun end ls) below ∙ zero-first beat (not (is_led beat (acting (end + 1) ls)))
