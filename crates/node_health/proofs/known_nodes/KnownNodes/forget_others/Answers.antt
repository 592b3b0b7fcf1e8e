use Rattle.std.proofs.Common.{◌∙◌, ap}
use Rattle.std.proofs.lemmas.List.Sorted.{non_decreasing_from_is_sorted}
use Rattle.key_map.specs.Values.{value_at}
use Rattle.kube_objects.specs.Stored.{node_key}
use Rattle.node_health.proofs.Nodes.{forgotten, only-listed, still-named}
use Rattle.node_health.proofs.Searches.{when_true}
use Rattle.node_health.proofs.known_nodes.KnownNodes.forget_others.Goals as goal

pub forget_unlisted-requires : goal.forget_unlisted-requires
forget_unlisted-requires c =
    when_true _ _ c.is_sorted-ascends.result (non_decreasing_from_is_sorted c.args.listed.now c.is_sorted-ascends.result c.is_sorted-ascends.ensures.cases)

pub list_anew-requires : goal.list_anew-requires
list_anew-requires c =
    when_true _ _ c.is_sorted-ascends.result (non_decreasing_from_is_sorted c.args.listed.now c.is_sorted-ascends.result c.is_sorted-ascends.ensures.cases)

pub invariant_of-self-2 : goal.invariant_of-self-2
invariant_of-self-2 c =
    let old = c.args.self.now in
    let listed = c.args.listed.now in
    record {
      named = λ node absent.
          let was = value_at old.map (node_key node) in
          let now = value_at c.forget_unlisted.new.map (node_key node) in
          still-named old.names.items listed c.list_anew.new.names.items node was now
          (only-listed old.names.items listed node was now
          (c.forget_unlisted.ensures node ∙ ap (λ l. forgotten l listed node was) c.as_slice-2.ensures.value) (old.named node))
          (old.named node) (c.list_anew.ensures node) absent;
    }
