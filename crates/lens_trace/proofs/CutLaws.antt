-- Lines that are cut off the front of a text.
use Rattle.std.proofs.Common.{◌≡◌, ℕ, ◌+◌, ◌<◌, ◌==◌, nat_lt, Bool, true, false, cond, List, [], ◌∷◌, ◌++◌, length, suc, take, drop, get_or, Some, None, refl, ap, subst, ◌∙◌, arith, length-append, length-take}
use Rattle.std.specs.List.{position_or_len}
use Rattle.std.specs.Option.{option_map}
use Rattle.std.proofs.lemmas.Bool.Decides.{nat_tests}
use Rattle.std.proofs.lemmas.List.{get_or-take}
use Rattle.std.proofs.lemmas.List.Sums.{split_at_first, fails_before_first, passes_at_first}
use Rattle.trace_lines.specs.Grammar.{cut}
use Rattle.trace_audit.specs.Entries.{lines_of}
use Rattle.trace_audit.proofs.LineLaws.{lines-append, one-more}

-- a text without line feeds is one line
one-line : (text : List ℕ) → ((k : ℕ) → k < length text → (get_or text k 0 == 10) ≡ false) → lines_of text ≡ text ∷ []
one-line [] none = refl
one-line (byte ∷ text) none = one-more byte text (none 0 (omega arith)) (one-line text (λ k below. none (suc k) (omega (arith, below))))

-- a text was cut at its first line feed
pub record IsCut (text before behind : List ℕ) : Type 0 where
  pub is : text ≡ before ++ 10 ∷ behind
  pub clean : (k : ℕ) → k < length before → (get_or before k 0 == 10) ≡ false

abbrev feed : ℕ → Bool
feed byte = byte == 10

some-is : (x y : List ℕ × List ℕ) → Some x ≡ Some y → x ≡ y
some-is x y e = ap (λ o. elim o [ None ↦ x | Some z ↦ z ]) e

pub cut-is : (text before behind : List ℕ) → cut 10 text ≡ Some (before, behind) → IsCut text before behind
cut-is text before behind h = by_test (nat_lt (position_or_len feed text) (length text)) refl h
  where
    n : ℕ
    n = position_or_len feed text

    by_test : (b : Bool) → nat_lt n (length text) ≡ b → option_map {U = List ℕ × List ℕ} (λ place. (take place text, drop (place + 1) text)) (cond b (Some n) None) ≡ Some (before, behind) → IsCut text before behind
    by_test true e h =
        let within : n < length text = grind (arith, nat_tests, e) in
        let at : get_or text n 0 ≡ 10 = grind (arith, nat_tests, passes_at_first feed text 0 within) in
        subst (λ parts. IsCut text parts.0 parts.1) (some-is (take n text, drop (n + 1) text) (before, behind) h) (record {
          is = split_at_first feed text 0 within ∙ ap (λ byte. take n text ++ byte ∷ drop (n + 1) text) at;
          clean = λ k below.
              let early : k < n = omega (arith, length-take n text, below) in
              ap feed (get_or-take n text k 0 early) ∙ fails_before_first feed text k 0 early;
        })
    by_test false e h = absurd (let no : None ≡ Some (before, behind) = h in cc)

-- the line and those behind it
pub cut-lines : (text before behind : List ℕ) → IsCut text before behind → lines_of text ≡ before ∷ lines_of behind
cut-lines text before behind h =
    ap (λ t. lines_of t) h.is ∙ lines-append before behind ∙ ap (λ ls. ls ++ lines_of behind) (one-line before h.clean)

pub cut-shorter : (text before behind : List ℕ) → IsCut text before behind → length behind < length text
cut-shorter text before behind h = omega (arith, ap (λ t. length t) h.is, length-append before (10 ∷ behind))

-- a text that isn't cut is one line
pub uncut-lines : (text : List ℕ) → cut 10 text ≡ None → lines_of text ≡ text ∷ []
uncut-lines text h = by_test (nat_lt (position_or_len feed text) (length text)) refl h
  where
    n : ℕ
    n = position_or_len feed text

    by_test : (b : Bool) → nat_lt n (length text) ≡ b → option_map {U = List ℕ × List ℕ} (λ place. (take place text, drop (place + 1) text)) (cond b (Some n) None) ≡ None → lines_of text ≡ text ∷ []
    by_test true e h = absurd (let no : Some (take n text, drop (n + 1) text) ≡ None = h in cc)
    by_test false e h = one-line text (λ k below. let early : k < n = grind (arith, nat_tests, e) in fails_before_first feed text k 0 early)
