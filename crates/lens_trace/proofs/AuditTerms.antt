-- The entries and terms by which `audit` judges lines that are right, one line more.
use Rattle.std.proofs.Common.{◌≡◌, ℕ, ◌+◌, ◌==◌, ◌&&◌, nat_le, Bool, true, false, cond, List, [], ◌∷◌, length, filter_map, Option, Some, None, refl, sym, ap, ◌∙◌, arith}
use Rattle.std.specs.List.{cons_option}
use Rattle.std.specs.Str.{bytes_eq}
use Rattle.std.proofs.lemmas.Bool.Decides.{nat_tests}
use Rattle.trace_lines.specs.declared.line.Line.{Line}
use Rattle.trace_lines.specs.Forms.{line_of}
use Rattle.trace_terms.specs.Entries.{Entry}
use Rattle.trace_terms.specs.Terms.{terms, term_of, ended, is_lead, is_end}
use Rattle.trace_audit.specs.Entries.{entry_of, entries_of, with_entry, first_wrong, wrong_from}

-- the entries of lines
abbrev pub numbered : ℕ → List (Line (List ℕ)) → List Entry
numbered number [] = []
numbered number (l ∷ ls) = entry_of number l ∷ numbered (number + 1) ls

no-line : line_of [] ≡ None
unfolding line_of
no-line = refl

-- where no line is wrong, each has an entry
pub entries-numbered : (end number before : ℕ) (texts : List (List ℕ)) → first_wrong end number before texts ≡ None
    → entries_of number texts ≡ numbered number (filter_map line_of texts)
unfolding first_wrong entries_of
entries-numbered end number before [] right = refl
entries-numbered end number before (l ∷ []) right = by l right
  where
    by : (l : List ℕ) → cond (length l == 0) None (Some number) ≡ None → with_entry number (line_of l) [] ≡ numbered number (cons_option (line_of l) [])
    by [] right = ap (λ o. with_entry number o []) no-line ∙ sym (ap (λ o. numbered number (cons_option o [])) no-line)
    by (c ∷ cs) right = absurd (some (length (c ∷ cs) == 0) (grind (arith, nat_tests)) right)
      where
        some : (b : Bool) → b ≡ false → cond b None (Some number) ≡ None → ⊥
        some true e right = let no : true ≡ false = e in cc
        some false e right = cc
entries-numbered end number before (l ∷ m ∷ more) right = by (λ beat r. entries-numbered end (number + 1) beat (m ∷ more) r) (line_of l) right
  where
    by : ((beat : ℕ) → first_wrong end (number + 1) beat (m ∷ more) ≡ None → entries_of (number + 1) (m ∷ more) ≡ numbered (number + 1) (filter_map line_of (m ∷ more)))
        → (o : Option (Line (List ℕ))) → wrong_from end number before o (λ beat. first_wrong end (number + 1) beat (m ∷ more)) ≡ None
        → with_entry number o (entries_of (number + 1) (m ∷ more)) ≡ numbered number (cons_option o (filter_map line_of (m ∷ more)))
    by again None right = absurd (let no : Some number ≡ None = right in cc)
    by again (Some line) right = in_bounds (nat_le before line.beat && nat_le line.beat end) right
      where
        in_bounds : (b : Bool) → cond b (first_wrong end (number + 1) line.beat (m ∷ more)) (Some number) ≡ None
            → entry_of number line ∷ entries_of (number + 1) (m ∷ more) ≡ entry_of number line ∷ numbered (number + 1) (filter_map line_of (m ∷ more))
        in_bounds true right = ap (λ es. entry_of number line ∷ es) (again line.beat right)
        in_bounds false right = absurd (let no : Some number ≡ None = right in cc)

pub audit-more : (stop : ℕ) (e : Entry) (es : List Entry) → terms stop (e ∷ es) ≡ cond (is_lead e.role) (term_of stop e es ∷ terms stop es) (terms stop es)
unfolding terms
audit-more stop e es = refl

pub audit-none : (stop : ℕ) → terms stop [] ≡ []
unfolding terms
audit-none stop = refl

pub ended-more : (stop : ℕ) (who : List ℕ) (e : Entry) (es : List Entry) → ended stop who (e ∷ es) ≡ cond (bytes_eq e.actor who && is_end e.role) e.beat (ended stop who es)
unfolding ended
ended-more stop who e es = refl

pub ended-none : (stop : ℕ) (who : List ℕ) → ended stop who [] ≡ stop
unfolding ended
ended-none stop who = refl
