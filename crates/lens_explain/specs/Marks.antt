-- The marks of a JSON text, byte by byte.
use Rattle.std.specs.Prelude.{ℕ, ◌+◌, ◌==◌, ◌||◌, Bool, List, take, drop, if◌then◌else◌}
use Rattle.lens_explain.specs.declared.scan.Mark.{Mark}
use Rattle.lens_explain.specs.declared.scan.Mark.TheVariants.{Within, Plain, Object, Array, Close, Comma, Colon}
use Rattle.lens_explain.specs.declared.scan.Scan.{Scan}
use Rattle.lens_explain.specs.declared.scan.Side.{Side}
use Rattle.lens_explain.specs.declared.scan.Side.TheVariants.{Outside, Text, Escaped}
use Rattle.lens_explain.specs.declared.scan.Span.{Span}

abbrev pub is_blank : ℕ → Bool
is_blank byte = byte == 32 || byte == 9 || byte == 10 || byte == 13

-- what a byte outside of a text is: the brackets { [ } ], a comma, a colon, a blank, or the byte of a value
abbrev pub mark_outside : ℕ → Mark
mark_outside byte =
    if byte == 123 then Object
    else if byte == 91 then Array
    else if byte == 125 || byte == 93 then Close
    else if byte == 44 then Comma
    else if byte == 58 then Colon
    else if is_blank byte then Within
    else Plain

abbrev pub mark_of : Side → ℕ → Mark
mark_of Outside byte = mark_outside byte
mark_of Text byte = Within
mark_of Escaped byte = Within

-- a quote begins a text, and one that no backslash stands before ends it
abbrev pub side_behind : Side → ℕ → Side
side_behind Outside byte = if byte == 34 then Text else Outside
side_behind Text byte = if byte == 92 then Escaped else if byte == 34 then Outside else Text
side_behind Escaped byte = Text

-- the places of the quotes of the last text
abbrev pub span_behind : Side → Span → ℕ → ℕ → Span
span_behind Outside s place byte = if byte == 34 then record { quote = place; until = s.until } else s
span_behind Text s place byte = if byte == 34 then record { quote = s.quote; until = place } else s
span_behind Escaped s place byte = s

-- what is known behind a byte at a place
abbrev pub scanned : Scan → ℕ → ℕ → Scan
scanned s place byte = record { side = side_behind s.side byte; last = span_behind s.side s.last place byte }

-- what is known before the first byte
abbrev pub unscanned : Scan
unscanned = record { side = Outside; last = record { quote = 0; until = 0 } }

-- the bytes of a text between its quotes
abbrev pub text_of : List ℕ → Span → List ℕ
text_of input s = drop (s.quote + 1) (take s.until input)
