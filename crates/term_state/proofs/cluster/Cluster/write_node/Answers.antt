use Rattle.std.proofs.Common.{◌∙◌, Some, cond, ap}
use Rattle.std.proofs.lemmas.Result.{on_ok_weaker}
use Rattle.kube_objects.specs.declared.object.Object.TheVariants as object
use Rattle.kube_objects.specs.Keys.{key_eq}
use Rattle.watch_cache.specs.Stands.{kept_in}
use Rattle.term_state.proofs.Aside.{noted_alone, noted_aside}
use Rattle.term_state.proofs.cluster.Cluster.write_node.Goals as goal

pub returns-clause-stands : goal.returns-clause-stands
returns-clause-stands c q h g s d =
    let old = c.args.self.now in
    on_ok_weaker c.note_own.result
    (λ kept. noted_aside q h g c.args.name c.args.version c.args.written d old c.note_own.new.self s (record {
      kept = λ key. kept key ∙ ap (λ n. cond (key_eq n key) (Some (c.args.version, object.Node c.args.written)) (kept_in old.cache key)) c.node.ensures;
      stale = c.note_own.ensures.stale;
      synced = c.note_own.ensures.synced;
      position = c.note_own.ensures.position;
    }))
    c.note_own.ensures.kept

pub returns-clause-alone : goal.returns-clause-alone
returns-clause-alone c q h g s d same =
    let old = c.args.self.now in
    on_ok_weaker c.note_own.result
    (λ kept. noted_alone q h g c.args.name c.args.version c.args.written d old c.note_own.new.self s (record {
      kept = λ key. kept key ∙ ap (λ n. cond (key_eq n key) (Some (c.args.version, object.Node c.args.written)) (kept_in old.cache key)) c.node.ensures;
      stale = c.note_own.ensures.stale;
      synced = c.note_own.ensures.synced;
      position = c.note_own.ensures.position;
    }) same)
    c.note_own.ensures.kept
