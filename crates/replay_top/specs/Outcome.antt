-- What a run writes and how it ends.
use Rattle.std.specs.Prelude.{◌≡◌, ℕ, List, codes, Option, Some, None}
use Rattle.byte_edge.specs.Bytes.{Gave, Taken}
use Rattle.run_edge.specs.declared.status.Status.{Status}
use Rattle.run_edge.specs.declared.status.Status.TheVariants.{Answered, SourceFault, SinkFault, OutOfMemory}
use Rattle.run_edge.specs.declared.status.Verdict.TheVariants.{Done, Refused, Usage}
use Rattle.run_edge.specs.Outcome.{IsWhole, Outcome, Reply, read_by}
use Rattle.run_edge.specs.Outcome as edge
use Rattle.replay_top.specs.declared.command.Command.{Command}
use Rattle.replay_top.specs.declared.command.Command.TheVariants.{Asks, Runs, Generates}
use Rattle.replay_top.specs.Commands.{command_of}
use Rattle.replay_top.specs.Generated.{generated_line}
use Rattle.replay_top.specs.Replies.{done, reply_to, run_reply}

-- the source isn't read
abbrev pub unread : Reply → List ℕ → Outcome
unread reply bytes = record { reply = reply; left = bytes }

-- the words are no command
abbrev pub usage : Reply
usage = edge.usage (codes "usage: kube_replay COMMAND\n")

abbrev pub outcome_of : Option Command → List ℕ → Outcome
outcome_of (Some (Asks asked)) bytes = read_by (reply_to asked) bytes
outcome_of (Some (Runs run)) bytes = read_by (run_reply run) bytes
outcome_of (Some (Generates sizes)) bytes = unread (done (generated_line sizes)) bytes
outcome_of None bytes = unread usage bytes

-- by the words after the program's name and all bytes of the source
abbrev pub outcome : List (List ℕ) → List ℕ → Outcome
outcome words bytes = outcome_of (command_of words) bytes

-- the run ends so. Before a fault of the sink or want of memory a prefix of the text was taken, and before a fault of the source nothing
abbrev pub Ends : Outcome → Option (List ℕ) → Taken → Taken → Status → Type 0
Ends o left before after (Answered verdict) = IsWhole o left before after verdict
Ends o left before after SourceFault = after ≡ before
Ends o left before after SinkFault = Gave before after o.reply.text
Ends o left before after OutOfMemory = Gave before after o.reply.text

-- of whatever bytes the source tells, the run ends as by these
abbrev pub EndsAs : (List ℕ → Outcome) → Option (List ℕ) → Option (List ℕ) → Taken → Taken → Status → Type 0
EndsAs outcome source left before after ended = (bytes : List ℕ) → source ≡ Some bytes → Ends (outcome bytes) left before after ended

-- the run ends so with all its text, or memory ran out
abbrev pub IsComplete : Outcome → Option (List ℕ) → Taken → Taken → Status → Type 0
IsComplete o left before after (Answered verdict) = IsWhole o left before after verdict
IsComplete o left before after SourceFault = ⊥
IsComplete o left before after SinkFault = ⊥
IsComplete o left before after OutOfMemory = Unit {0}

-- a run that needs no source was done, the sink failed, or memory ran out
abbrev pub IsRunEnd : Status → Type 0
IsRunEnd (Answered Done) = Unit {0}
IsRunEnd (Answered verdict) = ⊥
IsRunEnd SourceFault = ⊥
IsRunEnd SinkFault = Unit {0}
IsRunEnd OutOfMemory = Unit {0}

-- the run ended before a document was there to be run
abbrev pub IsUndone : Status → Type 0
IsUndone (Answered Refused) = Unit {0}
IsUndone (Answered Usage) = Unit {0}
IsUndone (Answered verdict) = ⊥
IsUndone SourceFault = Unit {0}
IsUndone SinkFault = ⊥
IsUndone OutOfMemory = ⊥
