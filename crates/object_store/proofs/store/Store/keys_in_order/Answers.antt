use Rattle.std.proofs.Common.{◌≡◌, rules}
use Rattle.object_store.proofs.Items.{keys_step}
use Rattle.object_store.proofs.store.Store.keys_in_order.Goals as goal

pub loop-key-preserved : goal.loop-key-preserved
loop-key-preserved c =
    let changes = c.args.self.now.changes.items in
    let same : c.deref-key-items.result.now ≡ changes = search rules in
    keys_step c.loop-key.keys c.insert.new.self c.deref-key-items.result.now changes c.loop-key.key-index _ same c.loop-key-test.true
    c.in_ok-insert.ensures.updates c.loop-key.invariant
