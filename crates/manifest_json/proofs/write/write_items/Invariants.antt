use Rattle.std.proofs.Common.{◌≡◌, true, drop}
use Rattle.std.specs.List.{list_all}
use Rattle.manifest_json.specs.Written.{object_of, is_writable_item}
use Rattle.manifest_json.proofs.WriteLoops.{SoFar}
use Rattle.manifest_json.proofs.write.write_items.Given as goal

abbrev pub invariant-loop-item : goal.invariant-loop-item
invariant-loop-item l = record {
  written : SoFar (object_of l.names l.known) l.items l.item-index l.values.items;
  left : list_all is_writable_item (drop l.item-index l.items) ≡ true;
}
