use Rattle.std.proofs.Common.{◌≡◌, IfOk, subst}
use Rattle.std.specs.Map.{lookup}
use Rattle.kube_objects.specs.Keys.{key_eq}
use Rattle.object_store.proofs.Items.{items-stored}
use Rattle.object_store.proofs.store.Store.objects.Goals as goal

pub returns-clause-stored : goal.returns-clause-stored
returns-clause-stored c h key s =
    subst (λ stored. IfOk c.copies_under.result (λ items. lookup (key_eq key) items ≡ stored))
    (items-stored h c.args.self.now c.in_ok-keys.keys key s (c.in_ok-keys.ensures key))
    (c.copies_under.ensures.stored key)
