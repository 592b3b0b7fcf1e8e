-- What a source gives as an input.
use Rattle.std.specs.Prelude.{◌≡◌, ◌≤◌, ◌<◌, ℕ, List, [], length, drop, Option, Some}

-- all bytes that a source told are taken: there are at most 16,777,216
pub record IsInput (bytes : List ℕ) (left : Option (List ℕ)) (taken : List ℕ) : Type 0 where
  pub short : length bytes ≤ 16777216
  pub is : taken ≡ bytes
  pub rest : left ≡ Some []

-- there are more, and so many and one more are gone
pub record IsTooLong (bytes : List ℕ) (left : Option (List ℕ)) : Type 0 where
  pub long : 16777216 < length bytes
  pub rest : left ≡ Some (drop 16777217 bytes)
