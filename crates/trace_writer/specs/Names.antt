-- The texts that numbers stand for.
use Rattle.std.specs.Prelude.{ℕ, List, [], slice_get, unwrap_or}

-- the text at a number that is held
abbrev pub text_of : List (List ℕ) → ℕ → List ℕ
text_of texts number = unwrap_or (slice_get texts number) []
