-- A write of a node that a tick tries.
use Rattle.std.proofs.Common.{◌≡◌, ◌∙◌, ℕ, ◌+◌, ◌*◌, ◌≤◌, not, Bool, true, false, cond, List, Option, Some, None, Result, Ok, Err, OnOk, refl, sym, ap, subst, arith}
use Rattle.kube_base.specs.declared.memory.NoMemory.{NoMemory}
use Rattle.kube_base.specs.declared.numbers.Version.{Version}
use Rattle.kube_objects.specs.declared.call.Answer.{Answer}
use Rattle.kube_objects.specs.declared.call.Answer.TheVariants as answer
use Rattle.kube_objects.specs.declared.node.Node.{Node}
use Rattle.kube_objects.specs.declared.object.Object.TheVariants as object
use Rattle.kube_objects.specs.Entry.{Entry, Identity, Tick, actor_of}
use Rattle.kube_objects.specs.Newest.{only_if}
use Rattle.kube_objects.specs.Stored.{next_version, node_key, node_write, try_write}
use Rattle.kube_objects.specs.Tick.{add}
use Rattle.kube_objects.specs.Tries.{try_node}
use Rattle.kube_objects.proofs.KeyOrder.{key_itself}
use Rattle.tick_laws.specs.Changes.{IsChange, IsGiven, noted, noted_by}
use Rattle.tick_laws.specs.Judged.{shown}
use Rattle.tick_laws.specs.Steps.{own_cost, pods_on, tick_cost}
use Rattle.tick_laws.specs.ToJudge.{seen_taints}
use Rattle.tick_laws.proofs.Frames.{given_node, try_change, unsynced}
use Rattle.tick_laws.proofs.Steps.{cost_own}
use Rattle.watch_cache.specs.TaintChanges.{taints_eq, taints_in}
use Rattle.watch_cache.proofs.Same.{same_taints}
use Rattle.term_state.specs.declared.writes.NodeWrite.{NodeWrite}
use Rattle.term_state.specs.declared.writes.NodeWrite.TheVariants.{Mark, Untaint, Swap, Taint}
use Rattle.term_state.specs.Writes.{IsWrite, makes_stale, stale_by}

pub both_ok : {A B : Type 0} (r : Result A B) (P Q : Type 0) → OnOk r P → OnOk r Q → OnOk r (P × Q)
both_ok (Ok x) P Q p q = (p, q)
both_ok (Err e) P Q p q = tt

pub ok_always : {A B : Type 0} (r : Result A B) (P : Type 0) → P → OnOk r P
ok_always (Ok x) P p = p
ok_always (Err e) P p = tt

-- what isn't refused makes nothing stale
pub unstale : (write : NodeWrite) (name : ℕ) → stale_by write name None ≡ None
unstale (Mark reason) name = refl
unstale Untaint name = refl
unstale (Swap wanted) name = refl
unstale (Taint wanted) name = refl

-- one that was answered, but isn't done
pub refusal_change : (q : Identity) (h g : List Entry) (name : ℕ) (written : Node) (write : NodeWrite) (a : Answer) → ((v : Version) → a ≡ answer.Done v → ⊥)
    → IsChange q h g (noted_by name written (Some a)) (stale_by write name (Some a)) → IsChange q h g None (only_if (makes_stale write) (Some (node_key name)))
refusal_change q h g name written write (answer.Done v) other d = absurd (other v refl)
refusal_change q h g name written write answer.Absent other d = d
refusal_change q h g name written write answer.Exists other d = d
refusal_change q h g name written write (answer.Conflict v) other d = d

-- an accepted write of a node has its cost: none for a pod, where the taints are as they were
pub own_counted : (q : Identity) (h g : List Entry) (name : ℕ) (v : Version) (written : Node) (r : Result (Unit {0}) NoMemory) (old new : ℕ) → IsChange q h g (noted name v written) None
    → OnOk r (new ≤ old + 2 * pods_on q name g) → (seen_taints q name h ≡ written.taints → OnOk r (new ≡ old)) → OnOk r (new ≤ old + own_cost q h g (Some (node_write name written)))
own_counted q h g name v written (Err e) old new d counted uncounted = tt
own_counted q h g name v written (Ok x) old new d counted uncounted = by_test (taints_eq (seen_taints q name h) (seen_taints q name g)) refl
  where
    seen : seen_taints q name g ≡ written.taints
    seen = ap taints_in (d.shown (node_key name) ∙ ap (λ b. cond b (Some (v, object.Node written)) (shown q (node_key name) h)) (key_itself (node_key name)))

    by_test : (b : Bool) → taints_eq (seen_taints q name h) (seen_taints q name g) ≡ b → new ≤ old + 2 * cond (not b) (pods_on q name g) 0
    by_test true same = omega (arith, uncounted (same_taints (seen_taints q name h) (seen_taints q name g) same ∙ seen))
    by_test false other = omega (arith, counted)

module _ (k : ℕ) (q : Identity) (h : List Entry) (name : ℕ) (given : Version) (written : Node) (write : NodeWrite) (t : Tick) (a : Option Answer)
    (answered : a ≡ try_node q name given h) (is : IsWrite write name written (try_node q name given h) t) where
  pub write_is : IsWrite write name written a t
  write_is = subst (λ a. IsWrite write name written a t) (sym answered) is

  pub write_change : IsChange q h (add k q t h) (noted_by name written a) (stale_by write name a)
  write_change =
      try_change q k h name written a t write_is.try (subst (IsGiven (next_version h)) (sym answered) (given_node q name given h)) (stale_by write name a) write_is.stale

  pub write_cost : own_cost q h (add k q t h) (try_write (node_write name written) a) + tick_cost q k h ≤ tick_cost q k (add k q t h)
  write_cost =
      subst (λ o. own_cost q h (add k q t h) o + tick_cost q k h ≤ tick_cost q k (add k q t h)) write_is.try.write (cost_own q k h t (unsynced q t (write_is.try.synced q (actor_of q))))
