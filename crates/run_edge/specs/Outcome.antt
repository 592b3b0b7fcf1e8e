-- What a run writes and how it ends.
use Rattle.std.specs.Prelude.{◌≡◌, ℕ, ◌++◌, nat_le, Bool, true, false, List, [], length, drop, codes, decimal, if◌then◌else◌, Option, Some}
use Rattle.byte_edge.specs.Bytes.{Gives, Gave, Taken}
use Rattle.run_edge.specs.declared.answer.Answer.{Answer}
use Rattle.run_edge.specs.declared.status.Verdict.{Verdict}
use Rattle.run_edge.specs.declared.status.Verdict.TheVariants.{Refused, Usage}
use Rattle.run_edge.specs.declared.status.Status.{Status}
use Rattle.run_edge.specs.declared.status.Status.TheVariants.{Answered, SourceFault, SinkFault, OutOfMemory}

-- a finished answer: what it comes to, and all its text
pub record Reply : Type 0 where
  pub verdict : Verdict
  pub text : List ℕ

abbrev pub reply_of : Answer → Reply
reply_of a = record { verdict = a.verdict; text = a.text.items }

-- a finished answer, and what the run leaves of the source's bytes
pub record Outcome : Type 0 where
  pub reply : Reply
  pub left : List ℕ

abbrev pub refusal_text : ℕ → List ℕ → List ℕ
refusal_text code path = codes "refused " ++ decimal code ++ codes " " ++ path ++ codes "\n"

-- an input is refused, by the code and the place of what is wrong
abbrev pub refusal : ℕ → List ℕ → Reply
refusal code path = record { verdict = Refused; text = refusal_text code path }

-- the words are no command, as a program's line says
abbrev pub usage : List ℕ → Reply
usage line = record { verdict = Usage; text = line }

-- ---- which outcomes there may be for the bytes of a source

-- the source isn't read
abbrev pub Unread : Reply → List ℕ → Outcome → Type 0
Unread reply bytes o = o ≡ record { reply = reply; left = bytes }

-- all bytes are read and answered so, or there are too many of them
abbrev pub ReadBy : Bool → (Reply → Type 0) → List ℕ → Outcome → Type 0
ReadBy true IsReply bytes o = IsReply o.reply × (o.left ≡ [])
ReadBy false IsReply bytes o = o ≡ record { reply = refusal 33 (codes "/"); left = drop 16777217 bytes }

-- at most 16,777,216 bytes are read, and one more to see that there are more
unfoldable pub Read : (List ℕ → Reply → Type 0) → List ℕ → Outcome → Type 0
Read IsReply bytes o = ReadBy (nat_le (length bytes) 16777216) (IsReply bytes) bytes o

-- the same where each input has one answer
unfoldable pub read_by : (List ℕ → Reply) → List ℕ → Outcome
read_by answer bytes =
    if nat_le (length bytes) 16777216 then record { reply = answer bytes; left = [] } else record { reply = refusal 33 (codes "/"); left = drop 16777217 bytes }

-- ---- how a run ends

-- this was the verdict, all the text was taken, and this is left of the source
pub record IsWhole (o : Outcome) (rest : Option (List ℕ)) (before after : Taken) (ended : Verdict) : Type 0 where
  pub verdict : ended ≡ o.reply.verdict
  pub text : Gives before after o.reply.text
  pub left : rest ≡ Some o.left

-- with one of these outcomes. Before a fault of the sink a prefix of its text was taken, and before another fault nothing
abbrev pub Ends : (Outcome → Type 0) → Option (List ℕ) → Taken → Taken → Status → Type 0
Ends IsOutcome left before after (Answered verdict) = (o : Outcome) × IsOutcome o × IsWhole o left before after verdict
Ends IsOutcome left before after SourceFault = after ≡ before
Ends IsOutcome left before after SinkFault = (o : Outcome) × IsOutcome o × Gave before after o.reply.text
Ends IsOutcome left before after OutOfMemory = after ≡ before

-- of whatever bytes the source tells, the run ends as by these
abbrev pub EndsAs : (List ℕ → Outcome → Type 0) → Option (List ℕ) → Option (List ℕ) → Taken → Taken → Status → Type 0
EndsAs IsOutcome source left before after ended = (bytes : List ℕ) → source ≡ Some bytes → Ends (IsOutcome bytes) left before after ended

-- the whole answer was written, or memory ran out
abbrev pub IsDone : Status → Type 0
IsDone (Answered verdict) = Unit {0}
IsDone SourceFault = ⊥
IsDone SinkFault = ⊥
IsDone OutOfMemory = Unit {0}

-- it was refused, the sink failed, or memory ran out
abbrev pub IsRefusing : Status → Type 0
IsRefusing (Answered Refused) = Unit {0}
IsRefusing (Answered verdict) = ⊥
IsRefusing SourceFault = ⊥
IsRefusing SinkFault = Unit {0}
IsRefusing OutOfMemory = Unit {0}
