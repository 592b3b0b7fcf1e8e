-- A try to delete a pod that is due.
use Rattle.std.proofs.Common.{◌≡◌, ◌∙◌, ℕ, ◌==◌, ◌||◌, not, Bool, true, false, cond, List, Option, Some, None, refl, sym, ap, subst}
use Rattle.kube_base.specs.declared.numbers.Version.{Version}
use Rattle.kube_objects.specs.declared.call.Answer.{Answer}
use Rattle.kube_objects.specs.declared.call.Reply.{Reply}
use Rattle.kube_objects.specs.declared.call.Reply.TheVariants as reply
use Rattle.kube_objects.specs.declared.key.Key.{Key}
use Rattle.kube_objects.specs.declared.pod.Due.{Due}
use Rattle.kube_objects.specs.declared.pod.Due.TheVariants.{Never, At}
use Rattle.kube_objects.specs.declared.rules.EvictRule.{EvictRule}
use Rattle.kube_objects.specs.declared.rules.EvictRule.TheVariants.{Added, Seen}
use Rattle.kube_objects.specs.Clocks.{wall}
use Rattle.kube_objects.specs.Deletes.{answer_delete, answer_delete_alone, delete_alone_over, delete_at_node, delete_over, no_version}
use Rattle.kube_objects.specs.Document.{Doc}
use Rattle.kube_objects.specs.Entry.{Delete, Entry, Identity}
use Rattle.kube_objects.specs.Newest.{has, only_if}
use Rattle.kube_objects.specs.Seen.{is_pod, is_stale, seen_pod}
use Rattle.kube_objects.specs.Sightings.{sighted_due}
use Rattle.kube_objects.specs.Stored.{Held, next_version, node_key, stored}
use Rattle.kube_objects.specs.Tick.{add, evict_by}
use Rattle.kube_objects.specs.Tries.{as_answer, tried}
use Rattle.kube_objects.specs.Wire.{loses_requests}
use Rattle.history_laws.proofs.Plainly.{false_is}
use Rattle.tick_laws.specs.Judged.{due_by, is_by_now, sighted_as}
use Rattle.tick_laws.proofs.Evicting.{added_adds, by_now_seen, due_adds, due_is_fresh, due_is_pod, due_of, due_seen, due_sighted, sighted_adds}
use Rattle.term_state.specs.Evictions.{IsEviction, IsEvictionBy, IsRowEviction}
use Rattle.term_state.specs.declared.eviction.Eviction.{Eviction}
use Rattle.controller_core.specs.Deleting.{answered, answered_as, named_version}

-- the entry that it adds
pub record Attempts (rule : EvictRule) (doc : Doc) (k : ℕ) (q : Identity) (pod : Key) (h : List Entry) (e : Eviction) : Type 0 where
  pub kind : is_pod pod.kind ≡ true
  pub due : due_by rule doc q pod h ≡ At (e.due.0)
  pub adds : evict_by rule doc k q pod h ≡ add k q (Delete pod e.given (named_version e.node) (e.due.0) (answered q pod e h)) h

by_time : (now : ℕ) (d : Due) → is_by_now now d ≡ true → (at : ℕ) × (d ≡ At at)
by_time now Never is = absurd (false_is is)
by_time now (At at) is = (at, refl)

module _ (doc : Doc) (k : ℕ) (q : Identity) (pod : Key) (h : List Entry) (e : Eviction) where
  added_attempts : IsEviction q h pod e → is_by_now (wall doc q.process k) (due_by Added doc q pod h) ≡ true → Attempts Added doc k q pod h e
  added_attempts x now =
      let kind = due_is_pod (wall doc q.process k) q pod h now in
      let fresh = due_is_fresh (wall doc q.process k) q pod h now in
      record {
        kind = kind;
        due = due_of q pod h (e.given, x.pod) (x.node_given, x.node) kind fresh x.sees_pod x.sees_node ∙ x.at;
        adds =
            due_adds doc k q pod h (e.given, x.pod) (x.node_given, x.node) e.due.0 now x.sees_pod x.sees_node x.at
            ∙ ap (λ o. add k q (Delete pod e.given (named_version o) (e.due.0) (answered_as q pod e.given o h)) h) (sym x.name);
      }

  row_attempts : IsRowEviction doc q h pod e → is_by_now (wall doc q.process k) (due_by Seen doc q pod h) ≡ true → Attempts Seen doc k q pod h e
  row_attempts x now =
      let found = by_time (wall doc q.process k) (due_by Seen doc q pod h) now in
      let s = due_sighted doc q pod h found.0 found.1 in
      let due : due_by Seen doc q pod h ≡ At (e.due.0) =
      ap (λ b. sighted_as (not b || is_stale q pod h) (seen_pod q pod h) (sighted_due doc q pod h)) s.kind
      ∙ ap (λ b. sighted_as b (seen_pod q pod h) (sighted_due doc q pod h)) s.fresh
      ∙ ap (λ o. sighted_as false o (sighted_due doc q pod h)) x.sees_pod
      ∙ x.at in
      record {
        kind = s.kind;
        due = due;
        adds =
            sighted_adds doc k q pod h (e.due.0) (record { kind = s.kind; fresh = s.fresh; x = (e.given, x.pod); sees = x.sees_pod; time = x.at }) (ap (is_by_now (wall doc q.process k)) (sym due) ∙ now)
            ∙ ap (λ o. add k q (Delete pod e.given (named_version o) (e.due.0) (answered_as q pod e.given o h)) h) (sym x.no_node);
      }

  pub attempts : (rule : EvictRule) → IsEvictionBy rule doc q h pod e → is_by_now (wall doc q.process k) (due_by rule doc q pod h) ≡ true → Attempts rule doc k q pod h e
  attempts Added x now = added_attempts x now
  attempts Seen x now = row_attempts x now

-- ---- how a delete is answered

-- the entry that an eviction adds, by its answer
pub record Deletes (rule : EvictRule) (doc : Doc) (k : ℕ) (q : Identity) (pod : Key) (h : List Entry) (tried : Option Answer) : Type 0 where
  pub given : Version
  pub node_given : Version
  pub at : ℕ
  pub is : evict_by rule doc k q pod h ≡ add k q (Delete pod given node_given at tried) h

delete_answers : (next given node_given : Version) (pod node : Option Held) → has (as_answer (delete_over next given node_given pod node)) ≡ true
delete_answers next given node_given None other = refl
delete_answers next given node_given (Some pod) None = refl
delete_answers next given node_given (Some pod) (Some node) = by_pod (pod.version.0 == given.0)
  where
    by_node : (b : Bool) → has (as_answer (cond b (reply.Done next) (reply.Conflict node.version))) ≡ true
    by_node true = refl
    by_node false = refl

    by_pod : (b : Bool) → has (as_answer (cond b (delete_at_node next node_given (Some node)) (reply.Conflict pod.version))) ≡ true
    by_pod true = by_node (node.version.0 == node_given.0)
    by_pod false = refl

alone_answers : (next given : Version) (pod : Option Held) → has (as_answer (delete_alone_over next given pod)) ≡ true
alone_answers next given None = refl
alone_answers next given (Some pod) = by_pod (pod.version.0 == given.0)
  where
    by_pod : (b : Bool) → has (as_answer (cond b (reply.Done next) (reply.Conflict pod.version))) ≡ true
    by_pod true = refl
    by_pod false = refl

-- the store's reply to it
pub record Replies (rule : EvictRule) (doc : Doc) (k : ℕ) (q : Identity) (pod : Key) (h : List Entry) : Type 0 where
  pub replied : Reply
  pub answers : has (as_answer replied) ≡ true
  pub deletes : Deletes rule doc k q pod h (tried q replied h)

replies : (rule : EvictRule) (doc : Doc) (k : ℕ) (q : Identity) (pod : Key) (h : List Entry) → is_by_now (wall doc q.process k) (due_by rule doc q pod h) ≡ true → Replies rule doc k q pod h
replies Added doc k q pod h now =
    let found = by_now_seen (wall doc q.process k) q pod h now in
    let s = due_seen q pod h found.0 found.1 in
    record {
      replied = answer_delete pod s.x.0 (node_key s.x.1.node) s.y.0 h;
      answers = delete_answers (next_version h) s.x.0 s.y.0 (stored pod h) (stored (node_key s.x.1.node) h);
      deletes = record { given = s.x.0; node_given = s.y.0; at = found.0; is = added_adds doc k q pod h found.0 s found.2 };
    }
replies Seen doc k q pod h now =
    let found = by_time (wall doc q.process k) (due_by Seen doc q pod h) now in
    let s = due_sighted doc q pod h found.0 found.1 in
    record {
      replied = answer_delete_alone pod s.x.0 h;
      answers = alone_answers (next_version h) s.x.0 (stored pod h);
      deletes = record { given = s.x.0; node_given = no_version; at = found.0; is = sighted_adds doc k q pod h found.0 s (ap (is_by_now (wall doc q.process k)) (sym found.1) ∙ now) };
    }

some_of : {A : Type 0} (o : Option A) → has o ≡ true → (x : A) × (o ≡ Some x)
some_of None is = absurd (false_is is)
some_of (Some x) is = (x, refl)

module _ (rule : EvictRule) (doc : Doc) (k : ℕ) (q : Identity) (pod : Key) (h : List Entry) (now : is_by_now (wall doc q.process k) (due_by rule doc q pod h) ≡ true) where
  -- where requests pass
  pub delete_answered : loses_requests q.process h ≡ false → (a : Answer) × Deletes rule doc k q pod h (Some a)
  delete_answered passes =
      let r = replies rule doc k q pod h now in
      let a = some_of (as_answer r.replied) r.answers in
      (a.0, subst (Deletes rule doc k q pod h) (ap (λ b. only_if (not b) (as_answer r.replied)) passes ∙ a.1) r.deletes)

  -- and where they are lost
  pub delete_lost : loses_requests q.process h ≡ true → Deletes rule doc k q pod h None
  delete_lost loses =
      let r = replies rule doc k q pod h now in
      subst (Deletes rule doc k q pod h) (ap (λ b. only_if (not b) (as_answer r.replied)) loses) r.deletes
