-- No byte of an object is a line feed.
use Rattle.std.proofs.Common.{◌≡◌, ℕ, zero, suc, ◌+◌, ◌/◌, ◌%◌, ◌==◌, nat_lt, Bool, true, false, cond, ◌&&◌, ◌||◌, List, [], ◌∷◌, ◌++◌, decimal, refl, ap, ap₂, ◌∙◌, arith}
use Rattle.std.specs.Char.{digit_char}
use Rattle.std.specs.Fmt.{digits, digits_onto, digit_glyph}
use Rattle.std.proofs.lemmas.Bool.Decides.{nat_tests}
use Rattle.std.proofs.lemmas.List.Concat.{flat_map-cons}
use Rattle.std.proofs.lemmas.List.Folds.{list_all-append}
use Rattle.json.specs.Print.{escape, escape_byte, escape_letter, quoted}
use Rattle.serde_json.specs.Written.{compact_text, comma_if, members_text}
use Rattle.lens_json.specs.Members.{Named, members_of, object_of}
use Rattle.lens_json.specs.Clean.{is_no_feed, is_clean, AreClean}

clean-both : (xs ys : List ℕ) → is_clean xs ≡ true → is_clean ys ≡ true → is_clean (xs ++ ys) ≡ true
clean-both xs ys one other = list_all-append is_no_feed xs ys ∙ ap₂ (λ a b. a && b) one other

-- ---- texts in quotation marks

either : (b : Bool) (m n : ℕ) → (b ≡ true → is_no_feed m ≡ true) → is_no_feed n ≡ true → is_no_feed (cond b m n) ≡ true
either true m n one other = one refl
either false m n one other = other

mark : (x : ℕ) → ((x == 34) || (x == 92)) ≡ true → is_no_feed x ≡ true
mark x h = grind (arith, nat_tests, h)

letter : (x : ℕ) → is_no_feed (escape_letter x) ≡ true
letter x =
    either ((x == 34) || (x == 92)) x _ (mark x)
    (either (x == 8) 98 _ (λ h. refl) (either (x == 12) 102 _ (λ h. refl) (either (x == 10) 110 _ (λ h. refl) (either (x == 13) 114 _ (λ h. refl) (either (x == 9) 116 0 (λ h. refl) refl)))))

digit : (d : ℕ) → is_no_feed (digit_char d) ≡ true
digit d = either (nat_lt d 10) (48 + d) (87 + d) (λ h. grind (arith, nat_tests)) (grind (arith, nat_tests))

either-clean : (b : Bool) (xs ys : List ℕ) → is_clean xs ≡ true → (b ≡ false → is_clean ys ≡ true) → is_clean (cond b xs ys) ≡ true
either-clean true xs ys one other = one
either-clean false xs ys one other = other refl

two : (a b : Bool) → a ≡ true → b ≡ true → (a && b) ≡ true
two a b one other = ap₂ (λ a b. a && b) one other

escaped : (x : ℕ) → is_clean (escape_byte x) ≡ true
unfolding escape_byte
escaped x =
    either-clean (nat_lt 0 (escape_letter x)) (92 ∷ escape_letter x ∷ []) _ (two (is_no_feed (escape_letter x)) true (letter x) refl)
    (λ h. either-clean (nat_lt x 32) (92 ∷ 117 ∷ 48 ∷ 48 ∷ digit_char (x / 16) ∷ digit_char (x % 16) ∷ []) (x ∷ [])
    (two (is_no_feed (digit_char (x / 16))) (is_no_feed (digit_char (x % 16)) && true) (digit (x / 16)) (two (is_no_feed (digit_char (x % 16))) true (digit (x % 16)) refl))
    (λ large. two (is_no_feed x) true (grind (arith, nat_tests, large)) refl))

escape-clean : (t : List ℕ) → is_clean (escape t) ≡ true
escape-clean [] = refl
escape-clean (x ∷ xs) = ap is_clean (flat_map-cons escape_byte x xs) ∙ clean-both (escape_byte x) (escape xs) (escaped x) (escape-clean xs)

pub quoted-clean : (t : List ℕ) → is_clean (quoted t) ≡ true
quoted-clean t = clean-both (escape t) (34 ∷ []) (escape-clean t) refl

-- ---- numbers

digits-clean : (k n : ℕ) (behind : List ℕ) → is_clean behind ≡ true → is_clean (digits_onto k 10 false n behind) ≡ true
digits-clean zero n behind h = h
digits-clean (suc k) n behind h =
    let more : is_clean (digit_glyph false (n % 10) ∷ behind) ≡ true = two (is_no_feed (digit_glyph false (n % 10))) (is_clean behind) (digit (n % 10)) h in
    either-clean (n / 10 == 0) (digit_glyph false (n % 10) ∷ behind) (digits_onto k 10 false (n / 10) (digit_glyph false (n % 10) ∷ behind)) more
    (λ large. digits-clean k (n / 10) (digit_glyph false (n % 10) ∷ behind) more)

pub decimal-clean : (n : ℕ) → is_clean (decimal n) ≡ true
unfolding digits
decimal-clean n = digits-clean 64 n [] refl

-- ---- objects

comma-clean : (later : Bool) → is_clean (comma_if later) ≡ true
comma-clean true = refl
comma-clean false = refl

members-clean : (later : Bool) (ms : List Named) → AreClean ms → is_clean (members_text later (members_of ms)) ≡ true
members-clean later [] h = refl
members-clean later (m ∷ ms) h =
    clean-both (comma_if later) _ (comma-clean later)
    (clean-both (quoted m.0) _ (quoted-clean m.0) (clean-both (compact_text m.1) (members_text true (members_of ms)) h.0 (members-clean true ms h.1)))

pub object-clean : (ms : List Named) → AreClean ms → is_clean (compact_text (object_of ms)) ≡ true
object-clean ms h = members-clean false ms h
