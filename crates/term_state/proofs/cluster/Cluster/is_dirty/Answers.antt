use Rattle.std.proofs.Common.{◌≡◌, ◌∙◌, false, Some, None, ap, sym, rules}
use Rattle.kube_objects.specs.Seen.{seen_node}
use Rattle.kube_objects.specs.Stored.{node_key}
use Rattle.watch_cache.specs.Stands.{stale_in}
use Rattle.watch_cache.specs.Told.{found_pair}
use Rattle.term_state.proofs.Judging.{judged_dirty}
use Rattle.term_state.proofs.cluster.Cluster.is_dirty.Goals as goal

pub returns-in-None : goal.returns-in-None
returns-in-None c q h nodes pods s synced =
    let fresh : stale_in c.args.self.now.cache (node_key c.args.name) ≡ false = search rules in
    let sees : seen_node q c.args.name h ≡ None = sym (c.node-2.ensures q h nodes pods s synced) ∙ ap found_pair c.in-None.is in
    sym (judged_dirty q c.args.name h c.args.self.now.mode None (sym (s.cache.stale (node_key c.args.name)) ∙ fresh) s.mode sees)

pub returns-in-Some : goal.returns-in-Some
returns-in-Some c q h nodes pods s synced =
    let fresh : stale_in c.args.self.now.cache (node_key c.args.name) ≡ false = search rules in
    let sees = sym (c.node-2.ensures q h nodes pods s synced) ∙ ap found_pair c.in-Some.is in
    c.is_cleaned.ensures ∙ sym (judged_dirty q c.args.name h c.args.self.now.mode (Some (_, c.in-Some.node.now)) (sym (s.cache.stale (node_key c.args.name)) ∙ fresh) s.mode sees)
