-- Texts that are added one after the other.
use Rattle.std.proofs.Common.{◌≡◌, ℕ, List, ◌++◌, ap, ◌∙◌, append_assoc}

pub added : (old one two a b : List ℕ) → one ≡ old ++ a → two ≡ one ++ b → two ≡ old ++ (a ++ b)
added old one two a b p q = q ∙ ap (λ t. t ++ b) p ∙ append_assoc old a b

-- six texts
pub all_added : (t t1 t2 t3 t4 t5 t6 a b c d e f : List ℕ) → t1 ≡ t ++ a → t2 ≡ t1 ++ b → t3 ≡ t2 ++ c → t4 ≡ t3 ++ d → t5 ≡ t4 ++ e → t6 ≡ t5 ++ f → t6 ≡ t ++ (a ++ (b ++ (c ++ (d ++ (e ++ f)))))
all_added t t1 t2 t3 t4 t5 t6 a b c d e f pa pb pc pd pe pf =
    added t t1 t6 a (b ++ (c ++ (d ++ (e ++ f)))) pa
    (added t1 t2 t6 b (c ++ (d ++ (e ++ f))) pb (added t2 t3 t6 c (d ++ (e ++ f)) pc (added t3 t4 t6 d (e ++ f) pd (added t4 t5 t6 e f pe pf))))
