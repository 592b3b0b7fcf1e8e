-- The lines of a text that are of a form, one line more.
use Rattle.std.proofs.Common.{◌≡◌, ℕ, List, [], ◌++◌, Option, Some, None, option_to_list, filter_map, refl, sym, ap, ◌∙◌, append_assoc}
use Rattle.std.specs.List.{cons_option}
use Rattle.trace_lines.specs.declared.line.Line.{Line}
use Rattle.trace_lines.specs.Forms.{line_of}
use Rattle.trace_lines.specs.Grammar.{cut}
use Rattle.trace_audit.specs.Entries.{lines_of}
use Rattle.lens_trace.specs.Read.{line_in}
use Rattle.lens_trace.proofs.CutLaws.{cut-is, cut-lines, uncut-lines}

formed : List ℕ → List (Line (List ℕ))
formed text = filter_map line_of (lines_of text)

-- a line and those behind it
cons-list : (o : Option (Line (List ℕ))) (ls : List (Line (List ℕ))) → option_to_list o ++ ls ≡ cons_option o ls
cons-list None ls = refl
cons-list (Some l) ls = refl

pub read-more : (old new all : List (Line (List ℕ))) (text line behind : List ℕ) → cut 10 text ≡ Some (line, behind) → old ++ filter_map line_of (lines_of text) ≡ all
    → new ≡ old ++ line_in line → new ++ filter_map line_of (lines_of behind) ≡ all
read-more old new all text line behind is h more =
    let later = filter_map line_of (lines_of behind) in
    ap (λ ls. ls ++ later) more
    ∙ append_assoc old (line_in line) later
    ∙ ap (λ ls. old ++ ls) (cons-list (line_of line) later ∙ ap (λ ls. filter_map line_of ls) (sym (cut-lines text line behind (cut-is text line behind is))))
    ∙ h

pub read-last : (old new all : List (Line (List ℕ))) (text : List ℕ) → cut 10 text ≡ None → old ++ filter_map line_of (lines_of text) ≡ all → new ≡ old ++ line_in text → new ≡ all
read-last old new all text is h more =
    more ∙ ap (λ ls. old ++ ls) (last (line_of text) ∙ ap (λ ls. filter_map line_of ls) (sym (uncut-lines text is))) ∙ h
  where
    last : (o : Option (Line (List ℕ))) → option_to_list o ≡ cons_option o []
    last None = refl
    last (Some l) = refl
