use Rattle.std.proofs.Common.{◌≡◌, ◌∙◌, ◌==◌, ◌∷◌, ◌||◌, [], refl, ap, sym, rules, arith}
use Rattle.std.proofs.lemmas.Grind.{common_steps}
use Rattle.kube_objects.specs.Newest.{has}
use Rattle.kube_objects.specs.Seen.{seen_node}
use Rattle.watch_cache.specs.Listed.{is_named}
use Rattle.term_state.specs.ClusterStands.{has_moved, no_node, no_pod}
use Rattle.term_state.proofs.Judging.{moved_nodes, next_nodes}
use Rattle.term_state.proofs.Sighted.{retained_more, retained_self}
use Rattle.term_state.proofs.Widen.{widen}
use Rattle.term_state.proofs.cluster.Cluster.judge_nodes.Goals as goal

pub loop-name-init : goal.loop-name-init
loop-name-init c = record {
  stands = λ q h s synced.
      widen q h (λ n. has (seen_node q n h)) (is_named c.as_slice-rest.result.now) no_pod no_pod c.args.self.now
      (λ n is. sym ((c.in_ok-names.ensures.named q h (λ n. has (seen_node q n h)) no_pod s synced).named n) ∙ ap (λ xs. is_named xs n) (sym c.as_slice-rest.ensures) ∙ is) (λ p is. is) s;
  retained = retained_self c.args.self.now;
  touched = λ key. refl;
  untouched = refl;
  moved = λ n. refl;
}

pub loop-name-preserved : goal.loop-name-preserved
loop-name-preserved c =
    let split : c.loop-name.rest.now ≡ c.in-Some.name.now ∷ c.in-Some.others.now = search rules in
    record {
      stands = λ q h s synced.
          next_nodes q h c.loop-name.rest.now c.in-Some.others.now c.in-Some.name.now c.judge_node_alone.new.self split
          (c.in_ok-judge_node_alone.ensures.stands q h (is_named c.loop-name.rest.now) no_pod (c.loop-name.invariant.stands q h s synced) synced);
      retained = retained_more c.args.self.now c.loop-name.self c.judge_node_alone.new.self c.loop-name.invariant.retained c.in_ok-judge_node_alone.ensures.retained;
      touched = λ key. c.in_ok-judge_node_alone.ensures.touched key ∙ c.loop-name.invariant.touched key;
      untouched = c.in_ok-judge_node_alone.ensures.untouched ∙ c.loop-name.invariant.untouched;
      moved = λ n.
          ap (λ b. is_named c.in-Some.others.now n || b) (c.in_ok-judge_node_alone.ensures.moved n)
          ∙ moved_nodes (c.in-Some.name.now == n) (is_named c.in-Some.others.now n) (has_moved c.loop-name.self n)
          ∙ ap (λ xs. is_named xs n || has_moved c.loop-name.self n) (sym split)
          ∙ c.loop-name.invariant.moved n;
    }

pub returns-clause-stands : goal.returns-clause-stands
returns-clause-stands c q h s synced =
    let empty : c.loop-name.rest.now ≡ [] = grind (arith, common_steps) in
    widen q h (is_named c.loop-name.rest.now) no_node no_pod no_pod c.loop-name.self (λ n is. ap (λ xs. is_named xs n) empty) (λ p is. is) (c.loop-name.invariant.stands q h s synced)

pub returns-clause-moved : goal.returns-clause-moved
returns-clause-moved c q h s synced n =
    let empty : c.loop-name.rest.now ≡ [] = grind (arith, common_steps) in
    ap (λ xs. is_named xs n || has_moved c.loop-name.self n) (sym empty)
    ∙ c.loop-name.invariant.moved n
    ∙ ap (λ b. b || has_moved c.args.self.now n) (ap (λ xs. is_named xs n) c.as_slice-rest.ensures ∙ (c.in_ok-names.ensures.named q h (λ n. has (seen_node q n h)) no_pod s synced).named n)
