use Rattle.std.proofs.Common.{◌≡◌, ◌++◌, drop}
use Rattle.lens_calm.specs.Documents.{gone_lines}
use Rattle.lens_calm.proofs.document.add_times.Given as goal

-- what is left is added
abbrev pub invariant-loop-seconds : goal.invariant-loop-seconds
invariant-loop-seconds l = l.fn.text.items ++ gone_lines l.o l.times ≡ l.text.items ++ gone_lines l.o (drop l.seconds-index l.times)
