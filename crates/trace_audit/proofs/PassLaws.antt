-- What is known of the lines stands behind one line more.
use Rattle.std.proofs.Common.{◌≡◌, ℕ, ◌+◌, ◌<◌, nat_lt, Bool, true, false, cond, ◌==◌, List, [], ◌∷◌, length, suc, Option, Some, None, refl, sym, ap, subst, ◌∙◌, arith}
use Rattle.std.proofs.lemmas.Bool.Decides.{nat_tests}
use Rattle.trace_lines.specs.declared.header.Header.{Header}
use Rattle.trace_lines.specs.declared.line.Line.{Line}
use Rattle.trace_lines.specs.Forms.{line_of}
use Rattle.trace_terms.specs.Entries.{Entry}
use Rattle.trace_terms.specs.declared.seat.Seat.{Seat}
use Rattle.trace_terms.specs.Reviews.{ReviewStands}
use Rattle.trace_terms.specs.Seats.{AllSit, AreAfter, InOrder}
use Rattle.trace_audit.specs.declared.pass.Pass.{Pass}
use Rattle.trace_audit.specs.Entries.{entries_of, first_wrong, entry_of}
use Rattle.trace_audit.specs.Passes.{PassStands, beat_from, next_beat, is_below, wrong_with}
use Rattle.trace_audit.proofs.LineLaws.{no-entry, entries-more, first-taken, first-formless, right-order}

-- a line that is wrong leaves nothing to say of the terms
stands-wrong : (header : Header) (number wrong : ℕ) (ls : List (List ℕ)) (p : Pass) → p.header ≡ header → p.wrong ≡ first_wrong header.end number 0 ls → p.next ≡ next_beat ls
    → p.wrong ≡ Some wrong → PassStands header number ls p
stands-wrong header number wrong ls p e w n some = record {
  header_is = e;
  wrong = w;
  next = n;
  review = λ none. absurd (let bad : None ≡ Some wrong = sym none ∙ some in cc);
}

pub stands-formless : (header : Header) (number : ℕ) (l m : List ℕ) (ls : List (List ℕ)) (p : Pass) → line_of l ≡ None → p.header ≡ header → p.wrong ≡ Some number → p.next ≡ None
    → PassStands header number (l ∷ m ∷ ls) p
stands-formless header number l m ls p none e w n =
    stands-wrong header number number (l ∷ m ∷ ls) p e (w ∙ sym (first-formless header.end number l m ls none)) (n ∙ ap (λ o. beat_from o) (sym none)) w

-- nothing stands behind the last line feed
pub stands-ended : (header : Header) (number : ℕ) (l : List ℕ) (p : Pass) → length l ≡ 0 → p.header ≡ header → p.wrong ≡ None → p.next ≡ None
    → ReviewStands header.beat_millis header.end [] p.review → PassStands header number (l ∷ []) p
unfolding first_wrong
stands-ended header number [] p empty e w n r = record {
  header_is = e;
  wrong = w;
  next = n;
  review = λ none. subst (λ es. ReviewStands header.beat_millis header.end es p.review) (sym (no-entry number)) r;
}
stands-ended header number (c ∷ cs) p empty e w n r = absurd (omega (arith, empty))

-- something does
pub stands-unended : (header : Header) (number : ℕ) (l : List ℕ) (p : Pass) → 0 < length l → p.header ≡ header → p.wrong ≡ Some number → p.next ≡ None
    → PassStands header number (l ∷ []) p
unfolding first_wrong
stands-unended header number [] p some e w n = absurd (omega arith)
stands-unended header number (c ∷ cs) p some e w n = stands-wrong header number number ((c ∷ cs) ∷ []) p e (w ∙ sym (first-unended (length (c ∷ cs) == 0) (grind (arith, nat_tests)))) n w
  where
    first-unended : (b : Bool) → b ≡ false → cond b None (Some number) ≡ Some number
    first-unended b e = ap (λ b. cond b None (Some number)) e

-- ---- what a pass counts with

-- each identity has one seat
pub all-sit-even : (P : List ℕ → Seat → Type 0) (ks : List (List ℕ)) (ss : List Seat) → AllSit P ks ss → length ss ≡ length ks
all-sit-even P [] [] h = refl
all-sit-even P [] (s ∷ ss) h = absurd h
all-sit-even P (k ∷ ks) [] h = absurd h
all-sit-even P (k ∷ ks) (s ∷ ss) h = ap (λ n. suc n) (all-sit-even P ks ss h.1)

-- ---- a line that is of a form

wrong-taken : (header : Header) (number : ℕ) (l m : List ℕ) (ls : List (List ℕ)) (line : Line (List ℕ)) (p : Pass) → line_of l ≡ Some line
    → PassStands header (number + 1) (m ∷ ls) p → wrong_with number line.beat p ≡ first_wrong header.end number 0 (l ∷ m ∷ ls)
wrong-taken header number l m ls line p is h =
    ap (λ x. cond (nat_lt x.end line.beat) (Some number) (cond (is_below p.next line.beat) (Some (number + 1)) p.wrong)) h.header_is
    ∙ ap (λ o. cond (nat_lt header.end line.beat) (Some number) (cond (is_below o line.beat) (Some (number + 1)) p.wrong)) h.next
    ∙ ap (λ o. cond (nat_lt header.end line.beat) (Some number) (cond (is_below (next_beat (m ∷ ls)) line.beat) (Some (number + 1)) o)) h.wrong
    ∙ first-taken header.end number l m ls line is

-- where no line is wrong with it, none was before
none-before : (number : ℕ) (a b : Bool) (wrong : Option ℕ) → cond a (Some number) (cond b (Some (number + 1)) wrong) ≡ None → wrong ≡ None
none-before number true b wrong e = absurd (let bad : Some number ≡ None = e in cc)
none-before number false true wrong e = absurd (let bad : Some (number + 1) ≡ None = e in cc)
none-before number false false wrong e = e

-- a line at fault, or one before one at fault
pub stands-line-wrong : (header : Header) (number wrong : ℕ) (l m : List ℕ) (ls : List (List ℕ)) (line : Line (List ℕ)) (old new : Pass) → line_of l ≡ Some line
    → PassStands header (number + 1) (m ∷ ls) old → new.header ≡ old.header → new.wrong ≡ wrong_with number line.beat old → new.next ≡ Some line.beat → new.wrong ≡ Some wrong
    → PassStands header number (l ∷ m ∷ ls) new
stands-line-wrong header number wrong l m ls line old new is h e w n some =
    stands-wrong header number wrong (l ∷ m ∷ ls) new (e ∙ h.header_is) (w ∙ wrong-taken header number l m ls line old is h) (n ∙ ap (λ o. beat_from o) (sym is)) some

-- where none is wrong, what follows was right
pub right-before : (header : Header) (number : ℕ) (l m : List ℕ) (ls : List (List ℕ)) (line : Line (List ℕ)) (old : Pass) → line_of l ≡ Some line
    → PassStands header (number + 1) (m ∷ ls) old → wrong_with number line.beat old ≡ None
    → ReviewStands header.beat_millis header.end (entries_of (number + 1) (m ∷ ls)) old.review × AreAfter line.beat number (entries_of (number + 1) (m ∷ ls))
right-before header number l m ls line old is h none =
    let first : first_wrong header.end number 0 (l ∷ m ∷ ls) ≡ None = sym (wrong-taken header number l m ls line old is h) ∙ none in
    let order : InOrder (entry_of number line ∷ entries_of (number + 1) (m ∷ ls)) =
    subst (λ es. InOrder es) (entries-more number l (m ∷ ls) line is) ((right-order header.end number 0 (l ∷ m ∷ ls) first).1) in
    (h.review (none-before number (nat_lt old.header.end line.beat) (is_below old.next line.beat) old.wrong none), order.0)

pub stands-line : (header : Header) (number : ℕ) (l m : List ℕ) (ls : List (List ℕ)) (line : Line (List ℕ)) (old new : Pass) (e : Entry) → line_of l ≡ Some line
    → PassStands header (number + 1) (m ∷ ls) old → new.header ≡ old.header → new.wrong ≡ wrong_with number line.beat old → new.next ≡ Some line.beat
    → e ≡ entry_of number line → ReviewStands header.beat_millis header.end (e ∷ entries_of (number + 1) (m ∷ ls)) new.review → PassStands header number (l ∷ m ∷ ls) new
stands-line header number l m ls line old new e is h he w n entry r = record {
  header_is = he ∙ h.header_is;
  wrong = w ∙ wrong-taken header number l m ls line old is h;
  next = n ∙ ap (λ o. beat_from o) (sym is);
  review = λ none. subst (λ es. ReviewStands header.beat_millis header.end es new.review)
      (ap (λ x. x ∷ entries_of (number + 1) (m ∷ ls)) entry ∙ sym (entries-more number l (m ∷ ls) line is)) r;
}
