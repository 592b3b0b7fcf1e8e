use Rattle.std.proofs.Common.{◌≡◌, ◌∙◌, ◌+◌, ◌<◌, ◌≤◌, true, false, cond, refl, sym, ap, subst, arith}
use Rattle.std.proofs.lemmas.Grind.{common_steps}
use Rattle.std.specs.BTreeMap.{is_at}
use Rattle.std.specs.BTreeSet.{Updates, btree_set_len, contains}
use Rattle.std.specs.List.{list_any}
use Rattle.kube_objects.specs.contracts.key.KeyOrd.TheImpl as key_ord
use Rattle.kube_objects.specs.declared.key.Key.{Key}
use Rattle.kube_objects.specs.Keys.{key_cmp, key_eq}
use Rattle.kube_objects.proofs.KeyOrder.{key_order}
use Rattle.history_laws.proofs.Plainly.{false_is}
use Rattle.tick_laws.specs.Judged.{is_by_now}
use Rattle.term_state.specs.ClusterStands.{no_node, no_pod}
use Rattle.term_state.proofs.Judging.{with_dues}
use Rattle.term_state.proofs.Settling.{dues_stand}
use Rattle.term_state.proofs.TakingDue.{begin_taken, end_taken, gone_more, is_new, left_but, more_left, next_taken, settled_left}
use Rattle.term_state.proofs.Widen.{widen}
use Rattle.term_state.proofs.cluster.Cluster.take_due.Goals as goal

pub loop-pod-init : goal.loop-pod-init
loop-pod-init g c =
    let empty : (p : Key) → contains key_cmp c.new-todo.result p ≡ false = λ p. ap (list_any (is_at (key_cmp p))) c.new-todo.ensures.empty in
    record {
      gone = λ p there. absurd (false_is (sym (empty p) ∙ there));
      taken = begin_taken c.args.self.now.dues c.args.now.0 c.new-todo.result empty;
      cluster = λ q h s. widen q h no_node no_node no_pod (λ p. contains key_cmp c.new-todo.result p) c.args.self.now (λ n is. is) (λ p is. refl) s;
      from = refl;
      rows = λ key. refl;
      touched = λ key. refl;
      moved = λ n. refl;
      counted = omega arith;
    }

pub loop-pod-smaller : goal.loop-pod-smaller
loop-pod-smaller g c =
    let due = c.in-Some.ensures.due in
    let fresh = is_new c.loop-pod.todo c.loop-pod.self.dues c.in-Some.pod due.0 c.loop-pod.invariant.gone due.1 in
    let new : contains (key_ord.cmp-value).it c.loop-pod.todo c.in-Some.pod ≡ false = ap (λ cmp. contains cmp c.loop-pod.todo c.in-Some.pod) key_order ∙ fresh in
    let grown : btree_set_len c.insert.new.self ≡ btree_set_len c.loop-pod.todo + 1 = grind (arith, common_steps, new) in
    omega (arith, grown, c.len.ensures)

pub loop-pod-preserved : goal.loop-pod-preserved
loop-pod-preserved g c =
    let pod = c.in-Some.pod in
    let due = c.in-Some.ensures.due in
    let fresh = is_new c.loop-pod.todo c.loop-pod.self.dues pod due.0 c.loop-pod.invariant.gone due.1 in
    let new : contains (key_ord.cmp-value).it c.loop-pod.todo pod ≡ false = ap (λ cmp. contains cmp c.loop-pod.todo pod) key_order ∙ fresh in
    let grown : btree_set_len c.insert.new.self ≡ btree_set_len c.loop-pod.todo + 1 = grind (arith, common_steps, new) in
    let has : (p : Key) → contains key_cmp c.insert.new.self p ≡ cond (key_eq pod p) true (contains key_cmp c.loop-pod.todo p) =
    (subst (λ cmp. Updates cmp c.loop-pod.todo c.insert.new.self pod true) key_order c.in_ok-insert.ensures.updates).0 in
    let le : due.0 ≤ c.args.now.0 = omega (arith, due.2) in
    record {
      gone = gone_more c.loop-pod.todo c.insert.new.self c.loop-pod.self.dues c.next_due.new.self pod c.loop-pod.invariant.gone c.in-Some.ensures.taken has;
      taken = next_taken c.args.self.now.dues c.args.now.0 due.0 pod c.loop-pod.todo c.insert.new.self c.loop-pod.self.dues c.next_due.new.self c.loop-pod.invariant.taken due.1 le fresh c.in-Some.ensures.taken has;
      cluster = λ q h s.
          left_but q h (λ p. contains key_cmp c.loop-pod.todo p) (λ p. contains key_cmp c.insert.new.self p) c.loop-pod.self c.next_due.new.self
          (more_left pod (λ p. contains key_cmp c.loop-pod.todo p) (λ p. contains key_cmp c.insert.new.self p) c.loop-pod.self.dues c.next_due.new.self c.in-Some.ensures.taken has) (c.loop-pod.invariant.cluster q h s);
      from = c.loop-pod.invariant.from;
      rows = c.loop-pod.invariant.rows;
      touched = c.loop-pod.invariant.touched;
      moved = c.loop-pod.invariant.moved;
      counted = omega (arith, grown, c.loop-pod.invariant.counted, c.in-Some.ensures.counted due.0 pod due.1);
    }

pub returns-clause-stands : goal.returns-clause-stands
returns-clause-stands g c q h s =
    left_but q h (λ p. contains key_cmp c.loop-pod.todo p) (λ p. contains key_cmp c.loop-pod.todo p) c.loop-pod.self c.next_due.new.self (λ p out. (out, c.in_default.ensures.kept p)) (c.loop-pod.invariant.cluster q h s)

pub returns-clause-settled : goal.returns-clause-settled
returns-clause-settled g c doc q h s from settled =
    settled_left doc.settings.rules.evict_from doc q h no_pod (λ p. contains key_cmp c.loop-pod.todo p) c.args.self.now (with_dues c.loop-pod.self c.next_due.new.self) c.loop-pod.invariant.rows c.loop-pod.invariant.touched
    (λ p out. (refl, c.in_default.ensures.kept p ∙ c.loop-pod.invariant.taken.left p out)) settled

pub returns-clause-due : goal.returns-clause-due
returns-clause-due g c doc q h s from settled p =
    end_taken c.args.self.now.dues c.args.now.0 c.loop-pod.todo c.loop-pod.self.dues c.loop-pod.invariant.taken (λ at key is. subst (λ n. n < at) c.from.ensures (c.in_default.ensures.none at key is)) p
    ∙ ap (is_by_now c.args.now.0) (dues_stand doc.settings.rules.evict_from doc q h no_node no_pod c.args.self.now from s settled p refl)
