-- Pieces that are added to a text one after another.
use Rattle.std.proofs.Common.{◌≡◌, ℕ, List, ◌++◌, ap, ◌∙◌, append_assoc}

-- a piece was added, and then the rest
pub more : (old piece rest next all : List ℕ) → next ≡ old ++ piece → all ≡ next ++ rest → all ≡ old ++ (piece ++ rest)
more old piece rest next all added then = then ∙ ap (λ text. text ++ rest) added ∙ append_assoc old piece rest
