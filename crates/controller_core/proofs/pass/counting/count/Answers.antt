use Rattle.std.proofs.Common.{◌≡◌, ◌∙◌, ◌∷◌, [], Some, None, ap, arith, subst, sym}
use Rattle.std.proofs.lemmas.Grind.{common_steps}
use Rattle.kube_base.specs.declared.numbers.Version.{Version}
use Rattle.kube_objects.specs.declared.node.Node.{Node}
use Rattle.kube_objects.specs.Modes.{nodes, nodes_among}
use Rattle.kube_objects.specs.Newest.{has}
use Rattle.kube_objects.specs.Seen.{seen_node}
use Rattle.history_laws.proofs.Plainly.{false_is}
use Rattle.term_state.specs.ClusterStands.{no_node, no_pod}
use Rattle.controller_core.proofs.Passing.Numbered.{Counting, begin_counting, end_counting, first_seen, next_counting, room}
use Rattle.watch_cache.specs.Told.{found_pair}
use Rattle.controller_core.proofs.pass.counting.count.Goals as goal

pub loop-name-init : goal.loop-name-init
loop-name-init c = record {
  counting = λ q h s synced are few.
      subst (λ rest. Counting q h c.args.names.now rest c.new-counts.result) (sym c.as_slice-rest.ensures) (begin_counting q h c.args.names.now c.new-counts.result are c.new-counts.ensures);
}

pub loop-name-preserved-in_ok-add : goal.loop-name-preserved-in_ok-add
loop-name-preserved-in_ok-add c =
    let n = c.in-Some.name.now in
    let others = c.in-Some.others.now in
    let names = c.args.names.now in
    let all = c.loop-name.rest.now in
    let old = c.loop-name.counts in
    let x : Version × Node = (c.in-Some-node.field-0-0, c.in-Some-node.node.now) in
    let split : all ≡ n ∷ others = c.in-Some.ensures.cases.0 in
    record {
      counting = λ q h s synced are few.
          let l = c.loop-name.invariant.counting q h s synced are few in
          let sees : seen_node q n h ≡ Some x = sym (c.in-Some-node.ensures q h no_node no_pod s synced) in
          next_counting q h names all others n x old c.add.new.self split l sees
          (c.in_ok-add.ensures (nodes_among q l.front h) l.stands (room q h names all others n x old split l are sees few));
    }

pub loop-name-preserved : goal.loop-name-preserved
loop-name-preserved c =
    let n = c.in-Some.name.now in
    let others = c.in-Some.others.now in
    let names = c.args.names.now in
    let all = c.loop-name.rest.now in
    let split : all ≡ n ∷ others = c.in-Some.ensures.cases.0 in
    record {
      counting = λ q h s synced are few.
          let l = c.loop-name.invariant.counting q h s synced are few in
          let none : None ≡ seen_node q n h = ap found_pair (sym c.in_default-node.is) ∙ c.node.ensures q h no_node no_pod s synced in
          absurd (false_is (ap has none ∙ first_seen q h names all others n c.loop-name.counts split l));
    }

pub returns : goal.returns
returns c q h s synced are few =
    let empty : c.loop-name.rest.now ≡ [] = grind (arith, common_steps) in
    c.list.ensures (nodes q h) (end_counting q h c.args.names.now c.loop-name.rest.now c.loop-name.counts empty are (c.loop-name.invariant.counting q h s synced are few))
