use Rattle.std.proofs.Common.{◌≡◌, ◌∙◌, [], ◌∷◌, ◌++◌, sym, ap, subst}
use Rattle.std.specs.List.Sorted.{IsStrictlySortedBy}
use Rattle.std.specs.Map.{keys_of, lookup}
use Rattle.kube_objects.specs.declared.object.Object.{Object}
use Rattle.kube_objects.specs.Keys.{key_cmp, key_eq}
use Rattle.object_store.proofs.Items.{items-ascend, items-whole, listed, listed_more, listed_past, lookup-listed}
use Rattle.object_store.proofs.store.Store.copies_under.Goals as goal

pub loop-key-init : goal.loop-key-init
loop-key-init c =
    let objects = c.args.self.now.objects in
    ap (λ items. items ++ listed objects c.into_iter-key-iterator.result) c.new-items.ensures
    ∙ ap (listed objects) (c.into_iter-key-iterator.ensures.into_iter_gives ∙ c.iter-key-items.ensures.rest)

pub loop-key-preserved-in_ok-push : goal.loop-key-preserved-in_ok-push
loop-key-preserved-in_ok-push c =
    let objects = c.args.self.now.objects in
    let key = c.in-Some.key.now in
    ap (λ items. items ++ listed objects c.next.new.self)
    (c.in_ok-push.ensures.ok ∙ ap (λ (x : Object). c.loop-key.items ++ (key, x) ∷ []) c.in_ok-copy.ensures)
    ∙ listed_more objects c.loop-key.items _ key c.in-Some-get.kept.now c.loop-key.key-iterator c.next.new.self
    c.in-Some.ensures.steps c.in-Some-get.ensures c.loop-key.invariant

pub loop-key-preserved : goal.loop-key-preserved
loop-key-preserved c =
    listed_past c.args.self.now.objects c.loop-key.items _ c.in-Some.key.now c.loop-key.key-iterator c.next.new.self
    c.in-Some.ensures.steps c.in_default.ensures c.loop-key.invariant

pub returns-clause-ascend : goal.returns-clause-ascend
returns-clause-ascend c =
    let objects = c.args.self.now.objects in
    let keys = c.args.keys.now.keys in
    let is : c.loop-key.items ≡ listed objects keys =
    items-whole objects c.loop-key.items keys c.loop-key.key-iterator c.in-None.ensures.steps.0 c.loop-key.invariant in
    subst (λ items. IsStrictlySortedBy key_cmp (keys_of items)) (sym is) (items-ascend objects keys c.iter-key-items.ensures.ordered)

pub returns-clause-stored : goal.returns-clause-stored
returns-clause-stored c key =
    let objects = c.args.self.now.objects in
    let keys = c.args.keys.now.keys in
    let is : c.loop-key.items ≡ listed objects keys =
    items-whole objects c.loop-key.items keys c.loop-key.key-iterator c.in-None.ensures.steps.0 c.loop-key.invariant in
    ap (lookup (key_eq key)) is ∙ lookup-listed objects key keys
