use Rattle.std.proofs.Common.{◌∙◌, ap, sym}
use Rattle.kube_objects.specs.Answers.{as_kind, lease_in}
use Rattle.kube_objects.specs.Health.{lease_of}
use Rattle.kube_objects.specs.Seen.{seen}
use Rattle.term_state.specs.ClusterStands.{no_node, no_pod}
use Rattle.watch_cache.specs.Told.{found_pair}
use Rattle.controller_core.proofs.pass.looks.lease_of.Goals as goal

pub returns-in-None : goal.returns-in-None
returns-in-None c q h s synced =
    ap (λ o. lease_of (found_pair o)) (sym c.in-None.is)
    ∙ ap lease_of (c.lease.ensures q h no_node no_pod s synced)
    ∙ ap (λ key. lease_of (as_kind lease_in (seen q key h))) c.node_lease.ensures

pub returns-in-Some : goal.returns-in-Some
returns-in-Some c q h s synced =
    ap (λ o. lease_of (found_pair o)) (sym c.in-Some.is)
    ∙ ap lease_of (c.lease.ensures q h no_node no_pod s synced)
    ∙ ap (λ key. lease_of (as_kind lease_in (seen q key h))) c.node_lease.ensures
