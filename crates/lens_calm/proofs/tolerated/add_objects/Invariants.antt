use Rattle.std.proofs.Common.{◌≡◌, drop}
use Rattle.lens_calm.specs.Tolerated.{with_objects}
use Rattle.lens_calm.proofs.tolerated.add_objects.Given as goal

-- what is left decides
abbrev pub invariant-loop-item : goal.invariant-loop-item
invariant-loop-item l = with_objects l.fn.times.items l.objects ≡ with_objects l.times.items (drop l.item-index l.objects)
