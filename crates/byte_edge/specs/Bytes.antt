-- What a source loses, what a sink takes, and when a count of faults has risen.
use Rattle.std.specs.Prelude.{◌≡◌, ◌⊎◌, ℕ, ◌-◌, ◌^◌, ◌<◌, ◌≤◌, ◌+◌, ◌++◌, ◌↔◌, List, [], length, take, drop, Option, Some, None, IfSome}

-- the count is greater, or it stands at its last value
abbrev pub Rose : ℕ → ℕ → Type 0
Rose before now = (before < now) ⊎ (now ≡ 2 ^ 64 - 1)

-- just these bytes were lost
abbrev pub Took : Option (List ℕ) → Option (List ℕ) → List ℕ → Type 0
Took None after bytes = after ≡ None
Took (Some left) after bytes = (rest : List ℕ) × (after ≡ Some rest) × (bytes ++ rest ≡ left)

-- these bytes are all that was left
abbrev pub TookAll : Option (List ℕ) → Option (List ℕ) → List ℕ → Type 0
TookAll None after bytes = after ≡ None
TookAll (Some left) after bytes = (bytes ≡ left) × (after ≡ Some [])

-- a piece of n bytes was lost, and put at the end of what was there; 0 is the end of input
pub record TakesPiece (before after : Option (List ℕ)) (old new : List ℕ) (n : ℕ) : Type 0 where
  pub piece : List ℕ
  pub size : length piece ≡ n
  pub added : new ≡ old ++ piece
  pub took : Took before after piece
  pub end : IfSome before (λ left. (n ≡ 0) ↔ (left ≡ []))

-- some bytes were lost, at most so many
abbrev pub TookAtMost : ℕ → Option (List ℕ) → Option (List ℕ) → Type 0
TookAtMost most before after = (bytes : List ℕ) × (length bytes ≤ most) × Took before after bytes

-- more than the limit was there, and one byte more than the limit was lost
abbrev pub IsTooLarge : ℕ → Option (List ℕ) → Option (List ℕ) → Type 0
IsTooLarge limit before after = (bytes : List ℕ) × (length bytes ≡ limit + 1) × Took before after bytes

-- what a sink tells of the bytes that it has taken: nothing; all of them; or a borrowed buffer with the first of them, and how many
-- they are in all. The borrow is known by its name
pub data Taken : Type 0 where
  Untold : Taken
  Known : List ℕ → Taken
  Over : ℕ → List ℕ → ℕ → Taken

-- a buffer with these bytes over its places from `from` on, as many as have room
abbrev pub over : List ℕ → ℕ → List ℕ → List ℕ
over buffer from bytes = take from buffer ++ take (length buffer - from) bytes ++ drop (from + length bytes) buffer

-- just these bytes were taken
abbrev pub Gives : Taken → Taken → List ℕ → Type 0
Gives Untold after bytes = after ≡ Untold
Gives (Known before) after bytes = after ≡ Known (before ++ bytes)
Gives (Over borrow buffer count) after bytes = after ≡ Over borrow (over buffer count bytes) (count + length bytes)

-- all of these bytes but the rest were taken
pub record GaveFront (before after : Taken) (bytes rest : List ℕ) : Type 0 where
  pub front : List ℕ
  pub is : front ++ rest ≡ bytes
  pub gives : Gives before after front

-- a prefix of these bytes was taken
abbrev pub Gave : Taken → Taken → List ℕ → Type 0
Gave before after bytes = (rest : List ℕ) × GaveFront before after bytes rest
