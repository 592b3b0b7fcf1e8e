-- A name of at most 242 bytes with `-` and a small number behind it is a name.
use Rattle.std.proofs.Common.{◌≡◌, ℕ, ◌+◌, ◌%◌, ◌<◌, ◌≤◌, ◌^◌, ◌==◌, ◌&&◌, nat_le, true, false, List, [], ◌∷◌, ◌++◌, length, codes, decimal, ap, ◌∙◌, arith, append_assoc, length-append, refl}
use Rattle.std.proofs.lemmas.Bool.{and_parts, le-leb}
use Rattle.std.proofs.lemmas.Bool.Decides.{nat_tests}
use Rattle.std.proofs.lemmas.Fmt.{decimal_by_steps, length-decimal-le}
use Rattle.manifest_json.specs.Fields.{is_name, is_name_rest, is_small_letter_or_digit, may_follow}
use Rattle.script_reader.specs.Sets.{pod_name}

abbrev AreDigits : List ℕ → Type 0
AreDigits [] = Unit {0}
AreDigits (d ∷ ds) = (48 ≤ d) × (d < 58) × AreDigits ds

digits-push : (ds : List ℕ) (d : ℕ) → AreDigits ds → 48 ≤ d → d < 58 → AreDigits (ds ++ (d ∷ []))
digits-push [] d h lo hi = (lo, hi, tt)
digits-push (e ∷ es) d h lo hi = (h.0, h.1, digits-push es d h.2 lo hi)

-- one digit at least
abbrev AreSome : List ℕ → Type 0
AreSome ds = AreDigits ds × (1 ≤ length ds)

are-digits : (n : ℕ) → n < 2 ^ 64 → AreSome (decimal n)
are-digits n few =
    decimal_by_steps (λ _ ds. AreSome ds) (λ n lt. ((omega arith, omega arith, tt), omega arith))
    (λ n ds ge h. (digits-push ds (48 + n % 10) h.0 (omega arith) (omega arith), omega (arith, h.1, length-append ds ((48 + n % 10) ∷ [])))) n few

digit-follows : (d : ℕ) → 48 ≤ d → d < 58 → is_small_letter_or_digit d ≡ true
digit-follows d lo hi = grind (arith, nat_tests)

-- digits go on behind a byte that isn't a dot
digits-rest : (last : ℕ) (ds : List ℕ) → (last == 46) ≡ false → AreSome ds → is_name_rest last ds ≡ true
digits-rest last [] dot h = absurd (omega (arith, h.1))
digits-rest last (d ∷ []) dot h =
    let digit = digit-follows d h.0.0 h.0.1 in
    let low = h.0.0 in
    grind (arith, nat_tests, digit, dot, low)
digits-rest last (d ∷ (e ∷ es)) dot h =
    let digit = digit-follows d h.0.0 h.0.1 in
    let low = h.0.0 in
    let rest = digits-rest d (e ∷ es) (grind (arith, nat_tests, low)) (h.0.2, omega arith) in
    grind (arith, nat_tests, digit, rest, dot, low)

-- so do a `-` and digits behind a name
dash-rest : (last : ℕ) (text ds : List ℕ) → is_name_rest last text ≡ true → AreSome ds → is_name_rest last (text ++ 45 ∷ ds) ≡ true
dash-rest last [] ds small h =
    let rest = digits-rest 45 ds refl h in
    grind (arith, nat_tests, small, rest)
dash-rest last (byte ∷ text) ds both h =
    let parts = and_parts (may_follow last byte) (is_name_rest byte text) both in
    ap (λ b. b && is_name_rest byte (text ++ 45 ∷ ds)) parts.0 ∙ dash-rest byte text ds parts.1 h

dash-name : (text ds : List ℕ) → is_name text ≡ true → AreSome ds → length text + (1 + length ds) ≤ 253 → is_name (text ++ 45 ∷ ds) ≡ true
dash-name [] ds none h few = absurd cc
dash-name (byte ∷ text) ds name h few =
    let first = and_parts (nat_le (length text) 252 && is_small_letter_or_digit byte) (is_name_rest byte text) name in
    let small = and_parts (nat_le (length text) 252) (is_small_letter_or_digit byte) first.0 in
    let short : nat_le (length (text ++ 45 ∷ ds)) 252 ≡ true = le-leb (length (text ++ 45 ∷ ds)) 252 (omega (arith, few, length-append text (45 ∷ ds))) in
    ap (λ b. b && is_small_letter_or_digit byte && is_name_rest byte (text ++ 45 ∷ ds)) short
    ∙ ap (λ b. b && is_name_rest byte (text ++ 45 ∷ ds)) small.1
    ∙ dash-rest byte text ds first.1 h

pub pod_name-is_name : (text : List ℕ) (j : ℕ) → is_name text ≡ true → length text ≤ 242 → j < 10 ^ 9 → is_name (pod_name text j) ≡ true
pod_name-is_name text j name short few =
    let long = length-decimal-le 9 j (omega arith) few (omega arith) in
    ap is_name (append_assoc text (codes "-") (decimal j))
    ∙ dash-name text (decimal j) name (are-digits j (omega arith)) (omega (arith, short, long))
