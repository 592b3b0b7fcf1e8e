-- The reading of a number from a word.
use Rattle.std.proofs.Common.{◌≡◌, ◌≤◌, ◌<◌, ◌^◌, ◌&&◌, ℕ, nat_le, Bool, true, false, cond, List, decimal, Option, Some, None}
use Rattle.std.proofs.Common.{Result, Ok, refl, sym, ap, ◌∙◌, subst, arith}
use Rattle.std.proofs.lemmas.Bool.{false≢true, le-leb, leb-true}
use Rattle.std.proofs.lemmas.Fmt.{decimal_is_IsNumeral, parse-decimal}
use Rattle.std.proofs.lemmas.Slice.Eq.{bytes_eq-Decides}
use Rattle.std.specs.Str.{bytes_eq}
use Rattle.std.specs.Str.Parse.{ParsesUnsigned, digits_value}
use Rattle.replay_top.specs.Sizes.{number}

all-true : (a b c : Bool) → a ≡ true → b ≡ true → c ≡ true → (a && b && c) ≡ true
all-true a b c p q r = ap (λ x. x && b && c) p ∙ ap (λ x. true && x && c) q ∙ ap (λ x. true && true && x) r

each-true : (a b c : Bool) → (a && b && c) ≡ true → (a ≡ true) × (b ≡ true) × (c ≡ true)
each-true true true true e = (refl, refl, refl)
each-true true true false e = absurd (false≢true e)
each-true true false c e = absurd (false≢true e)
each-true false b c e = absurd (false≢true e)

-- the word is n in decimal, and n is in the range
abbrev is_written : ℕ → ℕ → List ℕ → ℕ → Bool
is_written least most word n = bytes_eq (decimal n) word && nat_le least n && nat_le n most

abbrev if_written : ℕ → ℕ → List ℕ → ℕ → Option ℕ
if_written least most word n = cond (is_written least most word n) (Some n) None

pub number-some : (least most n : ℕ) (word : List ℕ) → n < 2 ^ 64 → decimal n ≡ word → least ≤ n → n ≤ most
    → Some n ≡ number least most word
number-some least most n word small is from within =
    let value : digits_value 10 word ≡ n = subst (λ w. digits_value 10 w ≡ n) is (decimal_is_IsNumeral n small).1 in
    let test : is_written least most word n ≡ true
    = all-true (bytes_eq (decimal n) word) (nat_le least n) (nat_le n most) ((bytes_eq-Decides (decimal n) word).1 is)
    (le-leb least n from) (le-leb n most within) in
    sym (ap (λ b. cond b (Some n) None) test) ∙ ap (if_written least most word) (sym value)

-- no number that the word is in decimal is read of it
pub number-none : {E : Type 0} (least most : ℕ) (word : List ℕ) (r : Result ℕ E) → most < 2 ^ 64 → ParsesUnsigned 64 10 word r
    → ((n : ℕ) → r ≡ Ok n → decimal n ≡ word → least ≤ n → n ≤ most → ⊥) → None ≡ number least most word
number-none least most word r small parses never = by_test (is_written least most word (digits_value 10 word)) refl
  where
    by_test : (b : Bool) → is_written least most word (digits_value 10 word) ≡ b → None ≡ cond b (Some (digits_value 10 word)) None
    by_test false e = refl
    by_test true e =
        let n = digits_value 10 word in
        let tests = each-true (bytes_eq (decimal n) word) (nat_le least n) (nat_le n most) e in
        let is : decimal n ≡ word = (bytes_eq-Decides (decimal n) word).0 tests.0 in
        let within : n ≤ most = leb-true n most tests.2 in
        let low : n < 2 ^ 64 = omega (arith, within, small) in
        absurd (never n (parse-decimal 64 n word r low low (sym is) parses) is (leb-true least n tests.1) within)
