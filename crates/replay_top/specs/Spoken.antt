-- A text that is written as it grows, from a buffer.
use Rattle.std.specs.Prelude.{◌≡◌, ℕ, ◌++◌, List, Result, Ok, Err}
use Rattle.byte_edge.specs.Bytes.{Gives, Gave, Taken}
use Rattle.trace_writer.specs.declared.writing.WriteFault.{WriteFault}

-- what was taken and what the buffer holds are the text so far
pub record Spoken (before now : Taken) (buffer said : List ℕ) : Type 0 where
  pub given : List ℕ
  pub gives : Gives before now given
  pub is : given ++ buffer ≡ said

-- the text was taken, or a prefix of it before a fault of the sink or want of memory
abbrev pub Written : {T : Type 0} → Taken → Taken → List ℕ → Result T WriteFault → Type 0
Written before after text (Ok done) = Gives before after text
Written before after text (Err fault) = Gave before after text
