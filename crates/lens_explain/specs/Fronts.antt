-- Beginnings of an input, and which of them can be ended so that they are JSON.
use Rattle.std.specs.Prelude.{◌≡◌, ◌⊎◌, ◌≤◌, ℕ, ◌+◌, ◌==◌, ◌||◌, Bool, true, false, List, [], ◌∷◌, ◌++◌, length, take, reverse, codes, is_ok, if◌then◌else◌}
use Rattle.lens_explain.specs.declared.scan.Mark.{Mark}
use Rattle.lens_explain.specs.declared.scan.Mark.TheVariants.{Within, Plain, Object, Array, Close, Comma, Colon}
use Rattle.lens_explain.specs.declared.scan.Side.{Side}
use Rattle.lens_explain.specs.declared.scan.Side.TheVariants.{Outside, Text, Escaped}
use Rattle.lens_explain.specs.Keys.{without_innermost}
use Rattle.lens_explain.specs.Marks.{mark_of, mark_outside, side_behind}
use Rattle.script_reader.specs.Walk.{data_of}

-- ---- the text or word that isn't over

-- outside of a text a word goes on with each byte of a value
abbrev pub begin_outside : Mark → ℕ → ℕ → ℕ
begin_outside Plain place begin = begin
begin_outside Within place begin = place + 1
begin_outside Object place begin = place + 1
begin_outside Array place begin = place + 1
begin_outside Close place begin = place + 1
begin_outside Comma place begin = place + 1
begin_outside Colon place begin = place + 1

-- where the text or word begins that isn't over behind a byte at a place; where there is none, the place behind the byte
abbrev pub begin_behind : Side → ℕ → ℕ → ℕ → ℕ
begin_behind Outside byte place begin = if byte == 34 then place else begin_outside (mark_outside byte) place begin
begin_behind Text byte place begin = if byte == 34 then place + 1 else begin
begin_behind Escaped byte place begin = begin

-- ---- the brackets that close what is open, those of the innermost last

abbrev pub closing_behind : Mark → List ℕ → List ℕ
closing_behind Object closing = closing ++ (125 ∷ [])
closing_behind Array closing = closing ++ (93 ∷ [])
closing_behind Close closing = without_innermost closing
closing_behind Within closing = closing
closing_behind Plain closing = closing
closing_behind Comma closing = closing
closing_behind Colon closing = closing

-- ---- a beginning

pub record FrontAt : Type 0 where
  pub begin : ℕ
  pub closing : List ℕ

abbrev pub front_from : ℕ → List ℕ → Side → ℕ → List ℕ → FrontAt
front_from place [] side begin closing = record { begin = begin; closing = closing }
front_from place (byte ∷ rest) side begin closing =
    front_from (place + 1) rest (side_behind side byte) (begin_behind side byte place begin) (closing_behind (mark_of side byte) closing)

abbrev pub front_of : List ℕ → FrontAt
front_of text = front_from 0 text Outside 0 []

-- ---- its ends

abbrev pub is_json : List ℕ → Bool
is_json text = is_ok (data_of text)

-- with a value, with nothing, with the value of a key, or with a member of an object, and with these brackets it is JSON
abbrev pub can_end : List ℕ → List ℕ → Bool
can_end text brackets =
    is_json (text ++ (codes "0" ++ brackets)) || is_json (text ++ (codes "" ++ brackets))
    || is_json (text ++ (codes ":0" ++ brackets)) || is_json (text ++ (codes "\"\":0" ++ brackets))

-- so many bytes of an input can be ended, without the text or word that isn't over behind them
abbrev pub can_go_on : List ℕ → ℕ → Bool
can_go_on input here = can_end (take (front_of (take here input)).begin input) (reverse (front_of (take here input)).closing)

-- behind so many bytes, if they can be ended as they stand; else where the text or word begins that isn't over behind them
abbrev pub stop_behind : List ℕ → ℕ → ℕ
stop_behind input here =
    if can_end (take here input) (reverse (front_of (take here input)).closing) then here else (front_of (take here input)).begin

-- where an input stops to be JSON: what stands before the place can be ended so that it is JSON; what stands up to the end of the text, word or
-- bracket that begins there can't, or the input ends there or within it. A whole word before it isn't what is wrong, so the place is behind it
pub record IsStop (input : List ℕ) (place : ℕ) : Type 0 where
  pub last : ℕ
  pub within : last ≤ length input
  pub stops : place ≡ stop_behind input last
  pub goes_on : can_go_on input last ≡ true
  pub ends : (last ≡ length input) ⊎ (can_go_on input (last + 1) ≡ false)
