use Rattle.std.proofs.Common.{◌≡◌, ◌≤◌, drop, Some}
use Rattle.lens_room.specs.Durations.{read_from}
use Rattle.lens_room.specs.declared.by_flags.duration.Stage.TheVariants.{Whole}
use Rattle.lens_room.proofs.by_flags.duration.millis_of.Given as goal

-- what is left decides
abbrev pub invariant-loop-byte : goal.invariant-loop-byte
invariant-loop-byte l = record {
  rest : read_from (Some (record { millis = 0; number = 0; stage = Whole })) l.text ≡ read_from (Some l.reading) (drop l.byte-index l.text);
  small : l.reading.millis ≤ 86400000;
}
