use Rattle.std.proofs.Common.{◌≡◌, ◌∙◌, false, subst, sym, Err}
use Rattle.history_laws.proofs.Plainly.{false_is}
use Rattle.kube_objects.specs.Seen.{is_synced, seen_pod}
use Rattle.watch_cache.specs.Kept.{is_on}
use Rattle.watch_cache.specs.Told.{AreListed, Lists}
use Rattle.watch_cache.specs.declared.faults.ListFault.TheVariants as list_fault
use Rattle.term_state.proofs.cluster.Cluster.pods_of.Goals as goal

pub returns-in-Err-NotSynced-clause-counted : goal.returns-in-Err-NotSynced-clause-counted
returns-in-Err-NotSynced-clause-counted g c q h nodes pods s synced =
    let none : c.pods_of.result ≡ Err list_fault.NotSynced = cc in
    let unsynced : is_synced q h ≡ false = subst (λ r. Lists (is_synced q h) (AreListed (λ k. is_on c.args.name (seen_pod q k h))) r) none (c.pods_of.ensures.answer q h s.cache) in
    absurd (false_is (sym unsynced ∙ synced))
