use Rattle.std.proofs.Common.{◌≡◌, true, drop}
use Rattle.std.specs.List.{list_all}
use Rattle.manifest_json.specs.Written.{taint_of, is_writable_taint}
use Rattle.manifest_json.proofs.WriteLoops.{SoFar}
use Rattle.manifest_json.proofs.write.node.write_taints.Given as goal

abbrev pub invariant-loop-taint : goal.invariant-loop-taint
invariant-loop-taint l = record {
  written : SoFar (taint_of l.names) l.taints l.taint-index l.values.items;
  left : list_all is_writable_taint (drop l.taint-index l.taints) ≡ true;
}
