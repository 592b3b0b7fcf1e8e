use Rattle.std.proofs.Common.{◌+◌, drop, ap, ◌∙◌, refl}
use Rattle.std.specs.List.{list_any}
use Rattle.kube_objects.specs.Keys.{key_eq}
use Rattle.watch_cache.proofs.Syncs.{stands_synced}
use Rattle.watch_cache.proofs.cache.Cache.sync_since.Goals as goal

pub returns-clause-stands : goal.returns-clause-stands
returns-clause-stands g c q h k s read =
    let changed = c.args.changed.now in
    let of = g.C.Changed in
    stands_synced q h k (of.keys changed) (of.changed changed) (of.shown changed) c.args.self.now _
    (g.met.C.Changed.last changed ∙ ap (λ n. drop n (of.changed changed)) c.requires.start) s read
    (record {
      kept = c.in_ok-take_over.ensures.taken;
      stale = λ key. ap (list_any (key_eq key)) c.clear.ensures.empty;
      synced = refl;
      position = ap (λ n. n + c.count.result) c.start.ensures ∙ ap (λ n. of.from changed + n) c.count.ensures.count ∙ g.met.C.Changed.total changed;
    })
