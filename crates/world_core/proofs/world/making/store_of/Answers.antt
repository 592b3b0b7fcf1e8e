use Rattle.std.proofs.Common.{All, ◌≡◌, ◌+◌, ◌*◌, ◌++◌, ℕ, [], ◌∷◌, Some, take, refl, sym, ap, ◌∙◌, subst, arith}
use Rattle.std.proofs.lemmas.List.{take_more, take_all}
use Rattle.std.proofs.lemmas.List.Elements.{All-get_or}
use Rattle.kube_objects.specs.declared.key.Key.{Key}
use Rattle.kube_objects.specs.declared.object.Object.{Object}
use Rattle.kube_objects.specs.Clocks.{whole_second}
use Rattle.kube_objects.specs.Kinds.{IsOfKind, kind_of}
use Rattle.kube_objects.specs.Stamps.{stamped}
use Rattle.kube_objects.specs.Stored.{Write}
use Rattle.history.specs.History.{put_all}
use Rattle.object_store.specs.Stands.{StoreStands}
use Rattle.world_core.proofs.Puts.{put_first, put-more}
use Rattle.world_core.proofs.world.making.store_of.Goals as goal

abbrev IsItemOfKind : Key × Object → Type 0
IsItemOfKind item = IsOfKind item.0 item.1

pub put-requires : goal.put-requires
put-requires c =
    let x = c.item-item.result in
    let xs = c.as_slice-item-items.result.now in
    let all = subst (All IsItemOfKind) (sym c.as_slice-item-items.ensures) c.requires in
    let own : IsItemOfKind x = subst IsItemOfKind (sym c.item-item.is) (All-get_or IsItemOfKind xs c.loop-item.item-index x c.loop-item-test.true all) in
    record { kind = own ∙ ap kind_of (sym c.in_ok-copy.ensures) }

pub loop-item-init : goal.loop-item-init
loop-item-init c doc epoch = c.new-store.ensures [] refl

pub loop-item-preserved : goal.loop-item-preserved
loop-item-preserved c = λ doc epoch. (
    let x = c.item-item.result in
    let xs = c.as_slice-item-items.result.now in
    let i = c.loop-item.item-index in
    let same : doc.settings.epoch.0 ≡ c.args.epoch.0 = ap (λ e. e.0) epoch in
    let wall : doc.settings.epoch.0 + 0 * (doc.settings.beat_millis * 1000) ≡ c.args.epoch.0 = omega (arith, same) in
    let as_write : ℕ → Object → Write = λ n o. (x.0, Some (stamped (whole_second n) o)) in
    let write = ap (λ n. Some (as_write n x.1)) wall ∙ ap (λ o. Some (as_write c.args.epoch.0 o)) (sym c.in_ok-copy.ensures) in
    let more : put_all doc (take (i + 1) xs) [] ≡ put_first doc x ∷ put_all doc (take i xs) [] = ap (λ ys. put_all doc ys []) (take_more xs i x c.loop-item-test.true ∙ ap (λ y. take i xs ++ y ∷ []) (sym c.item-item.is)) ∙ put-more doc (take i xs) x [] in
    subst (λ g. StoreStands g c.put.new.self) (sym more) (c.in_ok-put.ensures.ok (put_all doc (take i xs) []) (put_first doc x) (c.loop-item.invariant doc epoch) write))

pub returns : goal.returns
returns c = λ doc epoch. (
    let xs = c.as_slice-item-items.result.now in
    let end = take_all c.loop-item.item-index xs (omega (arith, c.loop-item-test.false)) ∙ c.as_slice-item-items.ensures in
    subst (λ ys. StoreStands (put_all doc ys []) c.loop-item.store) end (c.loop-item.invariant doc epoch))
