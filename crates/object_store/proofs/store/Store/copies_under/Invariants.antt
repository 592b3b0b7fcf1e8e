use Rattle.std.proofs.Common.{◌≡◌, ◌++◌}
use Rattle.object_store.proofs.Items.{listed}
use Rattle.object_store.proofs.store.Store.copies_under.Given as goal

abbrev pub invariant-loop-key : goal.invariant-loop-key
invariant-loop-key l = l.items ++ listed l.self.objects l.key-iterator ≡ listed l.self.objects l.fn.keys.keys
