use Rattle.std.proofs.Common.{◌≡◌, ◌++◌, take}
use Rattle.trace_writer.specs.Lines.{lines_of}
use Rattle.replay_top.proofs.trace.add_lines.Given as goal

abbrev pub invariant-loop-deed : goal.invariant-loop-deed
invariant-loop-deed l = l.buffer.text.items ≡ l.fn.buffer.text.items ++ lines_of l.names l.processes (take l.deed-index l.deeds)
