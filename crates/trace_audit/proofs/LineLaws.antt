-- The lines of a text, one line more at their front.
use Rattle.std.proofs.Common.{◌≡◌, ℕ, ◌+◌, ◌<◌, ◌≤◌, ◌==◌, nat_le, nat_lt, Bool, true, false, cond, not, ◌&&◌, ◌≢◌, ◌-◌, suc, List, [], ◌∷◌, ◌++◌, length, count_by, take, drop, get_or, append_assoc, MatchOption, Bor, Option, Some, None, refl, sym, ap, subst, ◌∙◌, arith}
use Rattle.std.proofs.Math.Seq.{drop-cons}
use Rattle.std.proofs.lemmas.Bool.Decides.{nat_tests}
use Rattle.std.proofs.lemmas.List.{take-append-drop}
use Rattle.std.proofs.lemmas.List.Sums.{sum_by-cons, count_by-le-length}
use Rattle.trace_lines.specs.declared.line.Line.{Line}
use Rattle.trace_lines.specs.Forms.{line_of}
use Rattle.trace_terms.specs.Entries.{Entry}
use Rattle.trace_terms.specs.Seats.{AreAfter, InOrder}
use Rattle.trace_audit.specs.Entries.{onto, lines_of, wrong_from, first_wrong, entry_of, with_entry, entries_of}
use Rattle.trace_audit.specs.Passes.{beat_from, next_beat, is_below}

-- ---- cutting at line feeds

onto-longer : (byte : ℕ) (ls : List (List ℕ)) → 0 < length ls → length (onto byte ls) ≡ length ls
onto-longer byte [] some = absurd (omega arith)
onto-longer byte (l ∷ ls) some = refl

-- there is one line more than line feeds
pub length-lines : (text : List ℕ) → length (lines_of text) ≡ 1 + count_by (λ byte. byte == 10) text
length-lines [] = refl
length-lines (byte ∷ text) = by (byte == 10) (length-lines text) ∙ ap (λ n. 1 + n) (sym (sum_by-cons (λ byte. cond (byte == 10) 1 0) byte text))
  where
    by : (b : Bool) → length (lines_of text) ≡ 1 + count_by (λ byte. byte == 10) text
        → length (cond b ([] ∷ lines_of text) (onto byte (lines_of text))) ≡ 1 + (cond b 1 0 + count_by (λ byte. byte == 10) text)
    by true e = let h : length ([] ∷ lines_of text) ≡ 1 + (1 + count_by (λ byte. byte == 10) text) = omega (arith, e) in h
    by false e = onto-longer byte (lines_of text) (omega (arith, e)) ∙ omega (arith, e)

-- no more lines than bytes and one
pub few-lines : (text : List ℕ) → length (lines_of text) ≤ 1 + length text
few-lines text = omega (arith, length-lines text, count_by-le-length (λ byte. byte == 10) text)

onto-append : (byte : ℕ) (ls more : List (List ℕ)) → 0 < length ls → onto byte (ls ++ more) ≡ onto byte ls ++ more
onto-append byte [] more some = absurd (omega arith)
onto-append byte (l ∷ ls) more some = refl

some-line : (text : List ℕ) → 0 < length (lines_of text)
some-line text = omega (arith, length-lines text)

-- a line feed stands between lines
pub lines-append : (before behind : List ℕ) → lines_of (before ++ 10 ∷ behind) ≡ lines_of before ++ lines_of behind
lines-append [] behind = refl
lines-append (byte ∷ before) behind = by (byte == 10) (lines-append before behind)
  where
    by : (b : Bool) → lines_of (before ++ 10 ∷ behind) ≡ lines_of before ++ lines_of behind
        → cond b ([] ∷ lines_of (before ++ 10 ∷ behind)) (onto byte (lines_of (before ++ 10 ∷ behind)))
        ≡ cond b ([] ∷ lines_of before) (onto byte (lines_of before)) ++ lines_of behind
    by true e = ap (λ ls. [] ∷ ls) e
    by false e = ap (λ ls. onto byte ls) e ∙ onto-append byte (lines_of before) (lines_of behind) (some-line before)

-- a text without line feeds is one line
pub one-more : (byte : ℕ) (text : List ℕ) → (byte == 10) ≡ false → lines_of text ≡ text ∷ [] → lines_of (byte ∷ text) ≡ (byte ∷ text) ∷ []
one-more byte text other e =
    ap (λ b. cond b ([] ∷ lines_of text) (onto byte (lines_of text))) other ∙ ap (λ ls. onto byte ls) e

-- a byte and what follows it
byte-before : (text : List ℕ) (at : ℕ) → 0 < at → at ≤ length text → drop (at - 1) text ≡ get_or text (at - 1) 0 ∷ drop at text
byte-before text at some within =
    let next : suc (at - 1) ≡ at = omega arith in
    drop-cons text (at - 1) 0 (omega arith) ∙ ap (λ n. get_or text (at - 1) 0 ∷ drop n text) next

-- the end of a text is one line, and so it is with the byte before, where that is no line feed
pub line-longer : (text : List ℕ) (at : ℕ) → 0 < at → at ≤ length text → get_or text (at - 1) 0 ≢ 10 → lines_of (drop at text) ≡ drop at text ∷ []
    → lines_of (drop (at - 1) text) ≡ drop (at - 1) text ∷ []
line-longer text at some within other e =
    subst (λ l. lines_of l ≡ l ∷ []) (sym (byte-before text at some within)) (one-more (get_or text (at - 1) 0) (drop at text) (grind (arith, nat_tests)) e)

-- what follows the last line feed is the last line
pub line-last : (text : List ℕ) (at : ℕ) → 0 < at → at ≤ length text → get_or text (at - 1) 0 ≡ 10 → lines_of (drop at text) ≡ drop at text ∷ []
    → lines_of text ≡ lines_of (take (at - 1) text) ++ drop at text ∷ []
line-last text at some within feed e =
    ap (λ l. lines_of l) (sym (take-append-drop (at - 1) text) ∙ ap (λ l. take (at - 1) text ++ l) (byte-before text at some within ∙ ap (λ b. b ∷ drop at text) feed))
    ∙ lines-append (take (at - 1) text) (drop at text)
    ∙ ap (λ ls. lines_of (take (at - 1) text) ++ ls) e

-- the lines passed so far, with one more before them
pub passed-more : (o : Option (Bor (List ℕ))) (all before : List (List ℕ)) (next line : List ℕ) (behind : List (List ℕ)) → all ≡ before ++ line ∷ behind
    → MatchOption o (before ≡ next ∷ []) (λ b. before ≡ lines_of b.now ++ next ∷ [])
    → MatchOption o (all ≡ next ∷ line ∷ behind) (λ b. all ≡ lines_of b.now ++ next ∷ line ∷ behind)
passed-more None all before next line behind e m = e ∙ ap (λ ls. ls ++ line ∷ behind) m
passed-more (Some b) all before next line behind e m = e ∙ ap (λ ls. ls ++ line ∷ behind) m ∙ append_assoc (lines_of b.now) (next ∷ []) (line ∷ behind)

-- ---- the first wrong line

zero-le : (n : ℕ) → nat_le 0 n ≡ true
zero-le n = grind (arith, nat_tests)

-- the first wrong line behind a beat, by the first wrong line behind none
abbrev pub unless_before : ℕ → ℕ → Option ℕ → Option ℕ → Option ℕ
unless_before number before None wrong = wrong
unless_before number before (Some next) wrong = cond (nat_lt next before) (Some number) wrong

pub wrong-behind : (end number before : ℕ) (ls : List (List ℕ)) → first_wrong end number before ls ≡ unless_before number before (next_beat ls) (first_wrong end number 0 ls)
unfolding first_wrong
wrong-behind end number before [] = refl
wrong-behind end number before (l ∷ []) = refl
wrong-behind end number before (l ∷ m ∷ ls) = by (line_of l) (λ beat. first_wrong end (number + 1) beat (m ∷ ls))
  where
    tests : (x : ℕ) (wrong : Option ℕ) → cond (nat_le before x && nat_le x end) wrong (Some number)
        ≡ cond (nat_lt x before) (Some number) (cond (nat_le 0 x && nat_le x end) wrong (Some number))
    tests x wrong = choose (nat_le before x) (nat_lt x before) (nat_le x end) opposite ∙ ap (λ b. cond (nat_lt x before) (Some number) (cond (b && nat_le x end) wrong (Some number))) (sym (zero-le x))
      where
        opposite : nat_lt x before ≡ not (nat_le before x)
        opposite = grind (arith, nat_tests)

        choose : (a b c : Bool) → b ≡ not a → cond (a && c) wrong (Some number) ≡ cond b (Some number) (cond (true && c) wrong (Some number))
        choose true b c e = ap (λ b. cond b (Some number) (cond (true && c) wrong (Some number))) (sym e)
        choose false b c e = ap (λ b. cond b (Some number) (cond (true && c) wrong (Some number))) (sym e)

    by : (line : Option (Line (List ℕ))) (rest : ℕ → Option ℕ) → wrong_from end number before line rest
        ≡ unless_before number before (beat_from line) (wrong_from end number 0 line rest)
    by None rest = refl
    by (Some line) rest = tests line.beat (rest line.beat)

-- ---- one right line more

first-more : (end number : ℕ) (l m : List ℕ) (ls : List (List ℕ)) (line : Line (List ℕ)) → line_of l ≡ Some line
    → first_wrong end number 0 (l ∷ m ∷ ls) ≡ cond (nat_le line.beat end) (unless_before (number + 1) line.beat (next_beat (m ∷ ls)) (first_wrong end (number + 1) 0 (m ∷ ls))) (Some number)
unfolding first_wrong
first-more end number l m ls line is =
    ap (λ o. wrong_from end number 0 o (λ beat. first_wrong end (number + 1) beat (m ∷ ls))) is
    ∙ ap (λ b. cond (b && nat_le line.beat end) (first_wrong end (number + 1) line.beat (m ∷ ls)) (Some number)) (zero-le line.beat)
    ∙ ap (λ o. cond (nat_le line.beat end) o (Some number)) (wrong-behind end (number + 1) line.beat (m ∷ ls))

unless-below : (number before : ℕ) (o wrong : Option ℕ) → cond (is_below o before) (Some number) wrong ≡ unless_before number before o wrong
unless-below number before None wrong = refl
unless-below number before (Some next) wrong = refl

turned : (end beat : ℕ) → nat_lt end beat ≡ not (nat_le beat end)
turned end beat = grind (arith, nat_tests)

cond-not : (b : Bool) (x y : Option ℕ) → cond (not b) x y ≡ cond b y x
cond-not true x y = refl
cond-not false x y = refl

pub first-taken : (end number : ℕ) (l m : List ℕ) (ls : List (List ℕ)) (line : Line (List ℕ)) → line_of l ≡ Some line
    → cond (nat_lt end line.beat) (Some number) (cond (is_below (next_beat (m ∷ ls)) line.beat) (Some (number + 1)) (first_wrong end (number + 1) 0 (m ∷ ls)))
    ≡ first_wrong end number 0 (l ∷ m ∷ ls)
first-taken end number l m ls line is =
    ap (λ o. cond (nat_lt end line.beat) (Some number) o) (unless-below (number + 1) line.beat (next_beat (m ∷ ls)) (first_wrong end (number + 1) 0 (m ∷ ls)))
    ∙ ap (λ b. cond b (Some number) (unless_before (number + 1) line.beat (next_beat (m ∷ ls)) (first_wrong end (number + 1) 0 (m ∷ ls)))) (turned end line.beat)
    ∙ cond-not (nat_le line.beat end) (Some number) (unless_before (number + 1) line.beat (next_beat (m ∷ ls)) (first_wrong end (number + 1) 0 (m ∷ ls)))
    ∙ sym (first-more end number l m ls line is)

-- a line of no form
pub first-formless : (end number : ℕ) (l m : List ℕ) (ls : List (List ℕ)) → line_of l ≡ None → first_wrong end number 0 (l ∷ m ∷ ls) ≡ Some number
unfolding first_wrong
first-formless end number l m ls none = ap (λ o. wrong_from end number 0 o (λ beat. first_wrong end (number + 1) beat (m ∷ ls))) none

pub entries-more : (number : ℕ) (l : List ℕ) (ls : List (List ℕ)) (line : Line (List ℕ)) → line_of l ≡ Some line
    → entries_of number (l ∷ ls) ≡ entry_of number line ∷ entries_of (number + 1) ls
unfolding entries_of
entries-more number l ls line is = ap (λ o. with_entry number o (entries_of (number + 1) ls)) is

-- ---- the entries of lines that are right

after-more : (beat line : ℕ) (more : ℕ) (es : List Entry) (low : ℕ) → nat_le beat low ≡ true → AreAfter low (line + more) es → AreAfter beat line es
after-more beat line more [] low le h = tt
after-more beat line more (e ∷ es) low le h =
    let here : nat_le low e.beat ≡ true = h.0 in
    let there : nat_le (line + more) e.line ≡ true = h.1 in
    (grind (arith, nat_tests), grind (arith, nat_tests), after-more beat line more es low le h.2)

no-line : line_of [] ≡ None
unfolding line_of
no-line = refl

-- where no line is wrong, beats and numbers don't go down
-- what stands behind the last line feed is no entry, where it is empty
pub no-entry : (number : ℕ) → entries_of number ([] ∷ []) ≡ []
unfolding entries_of
no-entry number = ap (λ o. with_entry number o []) no-line

pub right-order : (end number before : ℕ) (ls : List (List ℕ)) → first_wrong end number before ls ≡ None
    → AreAfter before number (entries_of number ls) × InOrder (entries_of number ls)
unfolding first_wrong entries_of
right-order end number before [] right = (tt, tt)
right-order end number before (l ∷ []) right = by l right
  where
    by : (l : List ℕ) → cond (length l == 0) None (Some number) ≡ None → AreAfter before number (with_entry number (line_of l) []) × InOrder (with_entry number (line_of l) [])
    by [] right = subst (λ o. AreAfter before number (with_entry number o []) × InOrder (with_entry number o [])) (sym no-line) (tt, tt)
    by (c ∷ cs) right = absurd (some (length (c ∷ cs) == 0) (grind (arith, nat_tests)) right)
      where
        some : (b : Bool) → b ≡ false → cond b None (Some number) ≡ None → ⊥
        some true e right = let no : true ≡ false = e in cc
        some false e right = cc
right-order end number before (l ∷ m ∷ ls) right = by (λ beat r. right-order end (number + 1) beat (m ∷ ls) r) (line_of l) right
  where
    by : ((beat : ℕ) → first_wrong end (number + 1) beat (m ∷ ls) ≡ None
        → AreAfter beat (number + 1) (entries_of (number + 1) (m ∷ ls)) × InOrder (entries_of (number + 1) (m ∷ ls)))
        → (o : Option (Line (List ℕ))) → wrong_from end number before o (λ beat. first_wrong end (number + 1) beat (m ∷ ls)) ≡ None
        → AreAfter before number (with_entry number o (entries_of (number + 1) (m ∷ ls))) × InOrder (with_entry number o (entries_of (number + 1) (m ∷ ls)))
    by again None right = absurd (let no : Some number ≡ None = right in cc)
    by again (Some line) right = in_bounds (nat_le before line.beat) (nat_le line.beat end) refl right
      where
        in_bounds : (a b : Bool) → nat_le before line.beat ≡ a → cond (a && b) (first_wrong end (number + 1) line.beat (m ∷ ls)) (Some number) ≡ None
            → AreAfter before number (entry_of number line ∷ entries_of (number + 1) (m ∷ ls)) × InOrder (entry_of number line ∷ entries_of (number + 1) (m ∷ ls))
        in_bounds false b e right = absurd (let no : Some number ≡ None = right in cc)
        in_bounds true false e right = absurd (let no : Some number ≡ None = right in cc)
        in_bounds true true e right =
            let rest = again line.beat right in
            ((e, grind (arith, nat_tests), after-more before number 1 _ line.beat e rest.0), (after-more line.beat number 1 _ line.beat (grind (arith, nat_tests)) rest.0, rest.1))
