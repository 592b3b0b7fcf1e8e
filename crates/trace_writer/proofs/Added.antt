-- Texts that are added one after the other.
use Rattle.std.proofs.Common.{◌≡◌, ℕ, List, ◌++◌, Result, Ok, Err, OnOk, sym, ap, ◌∙◌, append_assoc}

pub added : (old one two a b : List ℕ) → one ≡ old ++ a → two ≡ one ++ b → two ≡ old ++ (a ++ b)
added old one two a b p q = q ∙ ap (λ t. t ++ b) p ∙ append_assoc old a b

-- a label and a number
pub added-both : (old one two a b c : List ℕ) → one ≡ old ++ a → two ≡ one ++ (b ++ c) → two ≡ old ++ ((a ++ b) ++ c)
added-both old one two a b c p q = added old one two a (b ++ c) p q ∙ ap (λ t. old ++ t) (sym (append_assoc a b c))

pub where-ok : {T E : Type 0} (r : Result T E) (P Q : Type 0) → (P → Q) → OnOk r P → OnOk r Q
where-ok (Ok x) P Q f h = f h
where-ok (Err e) P Q f h = tt
