-- The first line of a trace.
use Rattle.std.specs.Prelude.{ℕ, nat_le, Bool, true, false, List, codes, Option, Some, None, if◌then◌else◌}
use Rattle.std.specs.Str.{bytes_eq}
use Rattle.kube_base.specs.Times.{◌>>=◌}
use Rattle.trace_lines.specs.declared.header.Header.{Header}
use Rattle.trace_lines.specs.Grammar.{cut, labelled_number}

-- what stands behind this word and a space
unfoldable pub behind : List ℕ → List ℕ → Option (List ℕ)
behind word text = do
  parts ← cut 32 text
  if bytes_eq parts.0 word then Some parts.1 else None

-- `yes` or `no`
abbrev pub premise_of : List ℕ → Option Bool
premise_of text =
    if bytes_eq text (codes "premise=yes") then Some true
    else (if bytes_eq text (codes "premise=no") then Some false else None)

-- `trace 1 beat=MILLIS end=BEAT premise=P`
unfoldable pub header_of : List ℕ → Option Header
header_of text = do
  version ← behind (codes "trace") text
  rest ← behind (codes "1") version
  first ← cut 32 rest
  millis ← labelled_number (codes "beat") 1000 first.0
  second ← cut 32 first.1
  end ← labelled_number (codes "end") 604800000 second.0
  premise ← premise_of second.1
  if nat_le 1 millis then Some (record { beat_millis = millis; end = end; premise = premise }) else None
