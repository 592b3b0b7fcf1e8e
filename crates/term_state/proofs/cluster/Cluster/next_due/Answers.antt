use Rattle.std.proofs.Common.{◌≡◌, ◌∙◌, ◌<◌, ◌≤◌, ◌||◌, ℕ, cond, refl, sym, ap, subst, arith}
use Rattle.kube_objects.specs.declared.key.Key.{Key}
use Rattle.kube_objects.specs.declared.pod.Due.TheVariants.{Never, At}
use Rattle.kube_objects.specs.Keys.{key_eq}
use Rattle.evict_queue.specs.Order.{IsNotAfter}
use Rattle.evict_queue.specs.Queue.{due_in}
use Rattle.tick_laws.specs.Judged.{is_by_now, term_due}
use Rattle.term_state.specs.ClusterStands.{ClusterBut, no_node, no_pod}
use Rattle.term_state.specs.Queues.{IsFirstDue}
use Rattle.term_state.specs.Sights.{SettledBy}
use Rattle.term_state.proofs.Closing.{if_none_weaker, if_some_both, if_some_weaker}
use Rattle.term_state.proofs.Judging.{with_dues}
use Rattle.term_state.proofs.Settling.{dues_stand}
use Rattle.term_state.proofs.TakingDue.{few_steps, left_but, one_left, quiet_due, settled_left}
use Rattle.term_state.proofs.cluster.Cluster.next_due.Goals as goal

pub returns-clause-stands : goal.returns-clause-stands
returns-clause-stands g c q h pods s =
    let old = c.args.self.now.dues in
    let new = c.next_due.new.self in
    if_some_weaker (λ pod. (key : Key) → due_in new key ≡ cond (key_eq pod key) Never (due_in old key)) (λ pod. ClusterBut q h no_node (λ p. pods p || key_eq pod p) (with_dues c.args.self.now new))
    c.next_due.result (λ pod taken. left_but q h pods (λ p. pods p || key_eq pod p) c.args.self.now new (one_left pod pods old new taken) s) c.next_due.ensures.taken

pub returns-clause-settled : goal.returns-clause-settled
returns-clause-settled g c doc q h pods s =
    let old = c.args.self.now.dues in
    let new = c.next_due.new.self in
    let rule = doc.settings.rules.evict_from in
    if_some_weaker (λ pod. (key : Key) → due_in new key ≡ cond (key_eq pod key) Never (due_in old key)) (λ pod. SettledBy rule doc q h (λ p. pods p || key_eq pod p) (with_dues c.args.self.now new))
    c.next_due.result
    (λ pod taken. settled_left rule doc q h pods (λ p. pods p || key_eq pod p) c.args.self.now (with_dues c.args.self.now new) (λ key. refl) (λ key. refl) (one_left pod pods old new taken) s) c.next_due.ensures.taken

pub returns-clause-first : goal.returns-clause-first
returns-clause-first g c doc q h s from settled =
    let old = c.args.self.now.dues in
    let same = λ (key : Key). dues_stand doc.settings.rules.evict_from doc q h no_node no_pod c.args.self.now from s settled key refl in
    let Due : Key → Type 0 = λ pod. (time : ℕ) × (due_in old pod ≡ At time) × (time ≤ c.from.result) in
    let First : Key → Type 0 = λ pod. (time other : ℕ) (key : Key) → due_in old pod ≡ At time → due_in old key ≡ At other → IsNotAfter (time, pod) (other, key) in
    if_some_weaker (λ pod. Due pod × First pod) (IsFirstDue doc q h c.args.now.0) c.next_due.result
    (λ pod both. record {
      at = both.0.0;
      due = sym (same pod) ∙ both.0.1;
      by_now = subst (λ n. both.0.0 ≤ n) c.from.ensures both.0.2;
      first = λ key other is. both.1 both.0.0 other key both.0.1 (same key ∙ is);
    })
    (if_some_both Due First c.next_due.result c.next_due.ensures.due c.next_due.ensures.first)

pub returns-clause-none : goal.returns-clause-none
returns-clause-none g c doc q h s from settled =
    let old = c.args.self.now.dues in
    let same = λ (key : Key). dues_stand doc.settings.rules.evict_from doc q h no_node no_pod c.args.self.now from s settled key refl in
    if_none_weaker ((time : ℕ) (key : Key) → due_in old key ≡ At time → c.from.result < time) ((key : Key) → is_by_now c.args.now.0 (term_due doc q key h) ≡ _) c.next_due.result
    (λ late key. ap (is_by_now c.args.now.0) (sym (same key)) ∙ quiet_due c.args.now.0 (due_in old key) (λ at is. subst (λ n. n < at) c.from.ensures (late at key is)))
    c.next_due.ensures.none

pub returns-clause-kept : goal.returns-clause-kept
returns-clause-kept g c doc q h pods s settled =
    let old = c.args.self.now.dues in
    let new = c.next_due.new.self in
    let rule = doc.settings.rules.evict_from in
    if_none_weaker ((key : Key) → due_in new key ≡ due_in old key) (ClusterBut q h no_node pods (with_dues c.args.self.now new) × SettledBy rule doc q h pods (with_dues c.args.self.now new)) c.next_due.result
    (λ kept. (
      left_but q h pods pods c.args.self.now new (λ p out. (out, kept p)) s,
      settled_left rule doc q h pods pods c.args.self.now (with_dues c.args.self.now new) (λ key. refl) (λ key. refl) (λ p out. (out, kept p)) settled,
    ))
    c.next_due.ensures.kept

pub returns-clause-counted : goal.returns-clause-counted
returns-clause-counted g c = few_steps c.args.self.now.dues c.args.steps.now c.next_due.new.steps (λ at key is. omega (arith, c.next_due.ensures.counted at key is)) c.next_due.ensures.quiet
