-- What is read of texts, seen without where it lies in memory.
use Rattle.std.specs.Prelude.{◌≡◌, ℕ, List, Option, Some, None}
use denote.Ref.{Bor}
use Rattle.trace_lines.specs.declared.line.Line.{Line}
use Rattle.trace_lines.specs.declared.line.Says.{Says}
use Rattle.trace_lines.specs.declared.line.Says.TheVariants as says

-- what a function returned, seen by the view, is what the definition reads
abbrev pub Reads : {X Y : Type 0} → (X → Y) → Option X → Option Y → Type 0
Reads view None read = read ≡ None
Reads view (Some x) read = read ≡ Some (view x)

abbrev pub two : Bor (List ℕ) × Bor (List ℕ) → List ℕ × List ℕ
two parts = (parts.0.now, parts.1.now)

-- what is said, with the texts themselves in the place of references to them
abbrev pub said : Says (Bor (List ℕ)) → Says (List ℕ)
said says.Start = says.Start
said says.Crash = says.Crash
said says.Stop = says.Stop
said says.End = says.End
said (says.Pause beats) = says.Pause beats
said (says.Stall beats) = says.Stall beats
said (says.Lead version) = says.Lead version
said (says.Election verb answer transitions) = says.Election verb answer transitions
said (says.NodeLease verb node answer) = says.NodeLease verb node.now answer
said (says.Status node ready answer) = says.Status node.now ready answer
said (says.Put key version) = says.Put key.now version
said (says.Remove key version) = says.Remove key.now version
said (says.Unknown node reason answer) = says.Unknown node.now reason.now answer
said (says.Mode on) = says.Mode on
said (says.Zone zone state rate) = says.Zone zone.now state.now rate
said (says.Taint node taint answer) = says.Taint node.now taint.now answer
said (says.Swap node taint answer) = says.Swap node.now taint.now answer
said (says.Untaint node answer) = says.Untaint node.now answer
said (says.Evict pod due answer) = says.Evict pod.now due.now answer

abbrev pub seen : Line (Bor (List ℕ)) → Line (List ℕ)
seen line = record { beat = line.beat; actor = line.actor.now; says = said line.says }
