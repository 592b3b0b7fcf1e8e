use Rattle.std.proofs.Common.{◌≡◌, List, ap, arith, length}
use Rattle.kube_objects.specs.declared.key.Key.{Key}
use Rattle.term_state.proofs.Counted.{listed_all}
use Rattle.term_state.specs.ClusterStands.{no_node, no_pod}
use Rattle.tick_laws.specs.Steps.{pods_on}
use Rattle.controller_core.proofs.pass.work.PodWrites.add.Goals as goal

pub returns-clause-count : goal.returns-clause-count
returns-clause-count g c q h stands synced =
    let many : length c.in_ok-pods.pods ≡ pods_on q c.args.name h = listed_all q h c.args.name c.in_ok-pods.pods stands.kinds (c.in_ok-pods.ensures.listed q h no_node no_pod stands synced) in
    let same = ap (λ (keys : List Key). length keys) c.as_slice.ensures in
    omega (arith, many, same, c.saturating_add-self.ensures)

pub returns-clause-counted : goal.returns-clause-counted
returns-clause-counted g c q h stands synced =
    let many : length c.in_ok-pods.pods ≡ pods_on q c.args.name h = listed_all q h c.args.name c.in_ok-pods.pods stands.kinds (c.in_ok-pods.ensures.listed q h no_node no_pod stands synced) in
    omega (arith, many, c.in_ok-pods.ensures.counted q h no_node no_pod stands synced)
