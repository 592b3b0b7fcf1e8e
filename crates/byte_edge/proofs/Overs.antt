-- A buffer that bytes are laid over, piece by piece.
use Rattle.std.proofs.Common.{◌≡◌, ℕ, zero, suc, ◌+◌, ◌-◌, List, [], ◌∷◌, ◌++◌, length, take, drop, refl, sym, ap, ◌∙◌, arith}
use Rattle.byte_edge.specs.Bytes.{over}

-- the same, byte by byte
abbrev laid : List ℕ → ℕ → List ℕ → List ℕ
laid [] from bytes = []
laid (x ∷ xs) zero [] = x ∷ xs
laid (x ∷ xs) zero (byte ∷ bytes) = byte ∷ laid xs zero bytes
laid (x ∷ xs) (suc from) bytes = x ∷ laid xs from bytes

take-nil : (n : ℕ) → take {A = ℕ} n [] ≡ []
take-nil zero = refl
take-nil (suc n) = refl

drop-nil : (n : ℕ) → drop {A = ℕ} n [] ≡ []
drop-nil zero = refl
drop-nil (suc n) = refl

over-laid : (xs : List ℕ) (from : ℕ) (bytes : List ℕ) → over xs from bytes ≡ laid xs from bytes
over-laid [] zero bytes = drop-nil (0 + length bytes)
over-laid [] (suc from) bytes =
    let none : 0 - suc from ≡ 0 = omega arith in
    ap (λ n. take n bytes ++ drop (suc from + length bytes) []) none ∙ drop-nil (suc from + length bytes)
over-laid (x ∷ xs) zero [] = ap (λ l. l ++ (x ∷ xs)) (take-nil (suc (length xs) - 0))
over-laid (x ∷ xs) zero (byte ∷ bytes) =
    let room : suc (length xs) - 0 ≡ suc (length xs - 0) = omega arith in
    let past : 0 + suc (length bytes) ≡ suc (0 + length bytes) = omega arith in
    ap (λ n. take n (byte ∷ bytes) ++ drop (0 + suc (length bytes)) (x ∷ xs)) room
    ∙ ap (λ n. byte ∷ (take (length xs - 0) bytes ++ drop n (x ∷ xs))) past
    ∙ ap (λ l. byte ∷ l) (over-laid xs zero bytes)
over-laid (x ∷ xs) (suc from) bytes =
    let room : suc (length xs) - suc from ≡ length xs - from = omega arith in
    let past : suc from + length bytes ≡ suc (from + length bytes) = omega arith in
    ap (λ n. x ∷ (take from xs ++ take n bytes ++ drop (suc from + length bytes) (x ∷ xs))) room
    ∙ ap (λ n. x ∷ (take from xs ++ take (length xs - from) bytes ++ drop n (x ∷ xs))) past
    ∙ ap (λ l. x ∷ l) (over-laid xs from bytes)

laid-nothing : (xs : List ℕ) (from : ℕ) → laid xs from [] ≡ xs
laid-nothing [] from = refl
laid-nothing (x ∷ xs) zero = refl
laid-nothing (x ∷ xs) (suc from) = ap (λ l. x ∷ l) (laid-nothing xs from)

laid-more : (xs : List ℕ) (from : ℕ) (one two : List ℕ) → laid (laid xs from one) (from + length one) two ≡ laid xs from (one ++ two)
laid-more [] from one two = refl
laid-more (x ∷ xs) zero [] two = refl
laid-more (x ∷ xs) zero (byte ∷ one) two =
    let past : 0 + suc (length one) ≡ suc (0 + length one) = omega arith in
    ap (λ n. laid (byte ∷ laid xs zero one) n two) past ∙ ap (λ l. byte ∷ l) (laid-more xs zero one two)
laid-more (x ∷ xs) (suc from) one two =
    let past : suc from + length one ≡ suc (from + length one) = omega arith in
    ap (λ n. laid (x ∷ laid xs from one) n two) past ∙ ap (λ l. x ∷ l) (laid-more xs from one two)

pub over-nothing : (xs : List ℕ) (from : ℕ) → over xs from [] ≡ xs
over-nothing xs from = over-laid xs from [] ∙ laid-nothing xs from

pub over-more : (xs : List ℕ) (from : ℕ) (one two : List ℕ) → over (over xs from one) (from + length one) two ≡ over xs from (one ++ two)
over-more xs from one two =
    ap (λ l. over l (from + length one) two) (over-laid xs from one)
    ∙ over-laid (laid xs from one) (from + length one) two
    ∙ laid-more xs from one two
    ∙ sym (over-laid xs from (one ++ two))
