-- The document and its trace, in one input: the trace begins with the first line that begins with `trace `, which no line of JSON can.
use Rattle.std.specs.Prelude.{ℕ, ◌+◌, ◌==◌, ◌&&◌, Bool, true, List, [], ◌∷◌, take, drop, codes, if◌then◌else◌}
use Rattle.std.specs.Str.{bytes_eq}

-- a line begins here, as the first one of a trace does
abbrev pub begins_trace : Bool → List ℕ → Bool
begins_trace fresh text = fresh && bytes_eq (codes "trace ") (take 6 text)

-- how many bytes stand before that line, where a line may begin with the first byte; all of them where there is none
abbrev pub document_end : Bool → List ℕ → ℕ
document_end fresh [] = 0
document_end fresh (byte ∷ rest) = if begins_trace fresh (byte ∷ rest) then 0 else document_end (byte == 10) rest + 1

abbrev pub document_part : List ℕ → List ℕ
document_part input = take (document_end true input) input

abbrev pub trace_part : List ℕ → List ℕ
trace_part input = drop (document_end true input) input
