-- After a tick that reaches the store no pod is due, or no token is left of a limit.
use Rattle.std.proofs.Common.{◌≡◌, ◌∙◌, ◌⊎◌, ◌≤◌, inl, inr, ℕ, zero, suc, ◌==◌, ◌&&◌, not, nat_le, Bool, true, false, cond, List, [], ◌∷◌, Option, Some, None, refl, sym, ap, subst, arith}
use Rattle.std.specs.Prelude.{if◌then◌else◌}
use Rattle.std.proofs.lemmas.Bool.{eq-eqb, le-leb}
use Rattle.std.proofs.lemmas.Bool.Decides.{nat_tests}
use Rattle.kube_base.specs.declared.numbers.Version.{Version}
use Rattle.kube_objects.specs.declared.call.Answer.{Answer}
use Rattle.kube_objects.specs.declared.call.Answer.TheVariants as answer
use Rattle.kube_objects.specs.declared.call.Reply.TheVariants as reply
use Rattle.kube_objects.specs.declared.deed.Actor.{Actor}
use Rattle.kube_objects.specs.declared.key.Key.{Key}
use Rattle.kube_objects.specs.declared.key.Kind.{Kind}
use Rattle.kube_objects.specs.declared.key.Kind.TheVariants as kind
use Rattle.kube_objects.specs.declared.node.Node.{Node}
use Rattle.kube_objects.specs.declared.object.Object.{Object}
use Rattle.kube_objects.specs.declared.pod.Due.{Due}
use Rattle.kube_objects.specs.declared.pod.Due.TheVariants.{Never, At}
use Rattle.kube_objects.specs.declared.pod.Pod.{Pod}
use Rattle.kube_objects.specs.declared.rules.EvictRule.{EvictRule}
use Rattle.kube_objects.specs.declared.rules.EvictRule.TheVariants.{Added, Seen}
use Rattle.kube_objects.specs.Answers.{versioned, as_kind, node_in, answer_update}
use Rattle.kube_objects.specs.Clocks.{wall}
use Rattle.kube_objects.specs.Deletes.{delete_at_node, delete_over, delete_alone_over, no_version}
use Rattle.kube_objects.specs.Document.{Doc}
use Rattle.kube_objects.specs.Entry.{Entry, Identity, Fact, Ticks, Tick, Sync, Untaint, Swap, Delete, actor_of}
use Rattle.kube_objects.specs.Identities.{is_by}
use Rattle.kube_objects.specs.InForce.{watches}
use Rattle.kube_objects.specs.Keys.{key_eq}
use Rattle.kube_objects.specs.Newest.{newest, when, only_if, join, has, or_else}
use Rattle.kube_objects.specs.Seen.{pod_in, seen, seen_node, seen_pod, is_accepted, fresh_says, is_fresh, synced_says, is_synced, is_refused, stale_tick, stale_says, is_stale, is_pod, pod_keys}
use Rattle.kube_objects.specs.Sightings.{sighted_due}
use Rattle.kube_objects.specs.Stored.{Held, node_key, holds, tick_write, write_of, last_write, stored, next_version}
use Rattle.kube_objects.specs.Tick.{add, for_each, has_settled, sync, pass, cleaned, tainted, evict_due, evict_on, evict_seen, evict_sighted, evict_by, evict, evict_within, evicted, tick, add_delete, phases, due_on_seen, due_seen, due_by, dues, has_room}
use Rattle.kube_objects.specs.Tolerations.{due}
use Rattle.kube_objects.specs.Tries.{as_answer, try_delete, try_delete_alone}
use Rattle.kube_objects.specs.Wire.{loses_requests}
use Rattle.history.specs.Evictions.{stored_node, stored_pod, due_on, due_of, pod_due, due_where, stored_due, IsDue, NoneDue, NoneDueWithin}
use Rattle.kube_objects.proofs.KeyOrder.{key_itself}
use Rattle.history_laws.specs.Tails.{Among}
use Rattle.history_laws.proofs.Named.{named_pod}
use Rattle.history_laws.proofs.Plainly.{upper, none_is, false_is, true_is, same_self, same_is}
use Rattle.history_laws.proofs.Sightings.{sighted_same}
use Rattle.history_laws.proofs.Ticks.{IsTry, IsDelete, IsSightedDelete, IsDeleteBy, HasRoom, MadeTick, IsPodKey, pods_of_dues, pods_only, dues_only, Each, evict_step, walk_pass, walk_cleaned, walk_tainted}
use Rattle.history_laws.proofs.Walk.{Made}
use Rattle.eviction_laws.proofs.Cache.{Mirrors, mirrors_sync, mirrors_more, unfresh, fresh, fresh_synced}
use Rattle.eviction_laws.proofs.Early.{versioned_is}

-- ---- no try over a cache that is up to date is refused

record HeldAs (o : Option Held) (v : Version) : Type 0 where
  held : Held
  is : o ≡ Some held
  version : held.version.0 ≡ v.0

held_as : {A : Type 0} (f : Object → Option A) (o : Option Held) (v : Version) (x : A) → as_kind f o ≡ Some (v, x) → HeldAs o v
held_as f None v x is = absurd (none_is (v, x) is)
held_as f (Some y) v x is = record { held = y; is = refl; version = ap (λ (v : Version). v.0) (versioned_is y.version v x (f y.object) is) }

done_passes : (b : Bool) (v : Version) → is_refused (only_if b (Some (answer.Done v))) ≡ false
done_passes true v = refl
done_passes false v = refl

accepted_try : (q : Identity) (name : ℕ) (given : Version) (a : Option Answer) (h : List Entry) → Mirrors q h → IsTry q name given a h → is_refused a ≡ false
accepted_try q name given a h same (node, sees, is) =
    let kept = held_as node_in (seen q (node_key name) h) given node sees in
    let passing = not (loses_requests q.process h) in
    subst (λ a. is_refused a ≡ false) (sym is)
    (subst (λ o. is_refused (only_if passing (as_answer (answer_update (next_version h) given o))) ≡ false) (sym (sym (same (node_key name)) ∙ kept.is))
    (subst (λ b. is_refused (only_if passing (as_answer (cond b (reply.Done (next_version h)) (reply.Conflict kept.held.version)))) ≡ false) (sym (eq-eqb kept.held.version.0 given.0 kept.version))
    (done_passes passing (next_version h))))

accepted_delete : (doc : Doc) (k : ℕ) (q : Identity) (pod : Key) (given node_given : Version) (at : ℕ) (a : Option Answer) (h : List Entry) → Mirrors q h → IsDelete doc k q pod given node_given at a h → is_refused a ≡ false
accepted_delete doc k q pod given node_given at a h same made =
    let p = held_as pod_in (seen q pod h) given made.x made.sees in
    let n = held_as node_in (seen q (node_key made.x.node) h) node_given made.y made.sees_node in
    let next = next_version h in
    let passing = not (loses_requests q.process h) in
    subst (λ a. is_refused a ≡ false) (sym made.is)
    (subst (λ o. is_refused (only_if passing (as_answer (delete_over next given node_given o (stored (node_key made.x.node) h)))) ≡ false) (sym (sym (same pod) ∙ p.is))
    (subst (λ o. is_refused (only_if passing (as_answer (delete_over next given node_given (Some p.held) o))) ≡ false) (sym (sym (same (node_key made.x.node)) ∙ n.is))
    (subst (λ b. is_refused (only_if passing (as_answer (cond b (delete_at_node next node_given (Some n.held)) (reply.Conflict p.held.version)))) ≡ false) (sym (eq-eqb p.held.version.0 given.0 p.version))
    (subst (λ b. is_refused (only_if passing (as_answer (cond b (reply.Done next) (reply.Conflict n.held.version)))) ≡ false) (sym (eq-eqb n.held.version.0 node_given.0 n.version))
    (done_passes passing next)))))

accepted_alone : (doc : Doc) (k : ℕ) (q : Identity) (pod : Key) (given node_given : Version) (at : ℕ) (a : Option Answer) (h : List Entry) → Mirrors q h → IsSightedDelete doc k q pod given node_given at a h → is_refused a ≡ false
accepted_alone doc k q pod given node_given at a h same made =
    let p = held_as pod_in (seen q pod h) given made.x made.sees in
    let next = next_version h in
    let passing = not (loses_requests q.process h) in
    subst (λ a. is_refused a ≡ false) (sym made.is)
    (subst (λ o. is_refused (only_if passing (as_answer (delete_alone_over next given o))) ≡ false) (sym (sym (same pod) ∙ p.is))
    (subst (λ b. is_refused (only_if passing (as_answer (cond b (reply.Done next) (reply.Conflict p.held.version)))) ≡ false) (sym (eq-eqb p.held.version.0 given.0 p.version))
    (done_passes passing next)))

accepted_by : (rule : EvictRule) (doc : Doc) (k : ℕ) (q : Identity) (pod : Key) (given node_given : Version) (at : ℕ) (a : Option Answer) (h : List Entry) → Mirrors q h → IsDeleteBy rule doc k q pod given node_given at a h
    → is_refused a ≡ false
accepted_by Added doc k q pod given node_given at a h same made = accepted_delete doc k q pod given node_given at a h same made
accepted_by Seen doc k q pod given node_given at a h same made = accepted_alone doc k q pod given node_given at a h same made

-- so no entry of a tick over such a cache makes a key stale
stale_step : (doc : Doc) (k : ℕ) (q : Identity) (key : Key) (t : Tick) (h : List Entry) → MadeTick doc k q t h → Mirrors q h
    → (old : Option Bool) → or_else false old ≡ false → or_else false (upper (stale_tick key t) old) ≡ false
stale_step doc k q key t h made same old is = by_tick t made
  where
    by_answer : (a : Option Answer) (hit : Bool) → is_refused a ≡ false → or_else false (upper (when (is_refused a && hit) true) old) ≡ false
    by_answer a hit kept = subst (λ b. or_else false (upper (when (b && hit) true) old) ≡ false) (sym kept) is

    by_tick : (t : Tick) → MadeTick doc k q t h → or_else false (upper (stale_tick key t) old) ≡ false
    by_tick Sync made = refl
    by_tick (Untaint name given node a) made = by_answer a (key_eq (node_key name) key) (accepted_try q name given a h same made)
    by_tick (Swap name wanted given node a) made = by_answer a (key_eq (node_key name) key) (accepted_try q name given a h same made)
    by_tick (Delete pod given node_given at a) made = by_answer a (key_eq pod key) (accepted_by doc.settings.rules.evict_from doc k q pod given node_given at a h same made.0)
    by_tick t made = is

-- ---- where a key is stale the cache isn't up to date

abbrev pub Unstale : Identity → List Entry → Type 0
Unstale q h = is_fresh q h ≡ true → (key : Key) → is_stale q key h ≡ false

abbrev last_fresh : Identity → List Entry → Option Bool
last_fresh q = newest (λ e T. fresh_says q e.actor e.fact)

abbrev last_stale : Identity → Key → List Entry → Option Bool
last_stale q key = newest (λ e T. stale_says q key e.actor e.fact)

pub unstale_more : (doc : Doc) (q : Identity) (x : Entry) (h : List Entry) → Made doc x.beat x.actor x.fact h → Unstale q h → Unstale q (x ∷ h)
unstale_more doc q x h made old = cases x.actor x.fact made
  where
    by_sync : (b : Bool) → or_else false (upper (when b true) (last_fresh q h)) ≡ true → (key : Key) → or_else false (upper (only_if b (Some false)) (last_stale q key h)) ≡ false
    by_sync true is key = refl
    by_sync false is key = old is key

    by_own : (who : Actor) (t : Tick) (b : Bool) → is_by q who ≡ b → Made doc x.beat who (Ticks t) h → or_else false (upper (when (has (tick_write t)) false) (last_fresh q h)) ≡ true → (key : Key)
        → or_else false (upper (only_if b (stale_tick key t)) (last_stale q key h)) ≡ false
    by_own who t false own made is key = old (unfresh q h (tick_write t) is) key
    by_own who t true own (r, by, acting, made) is key =
        let mine : r ≡ q = same_is r q (ap (is_by q) (sym by) ∙ own) in
        stale_step doc x.beat q key t h (subst (λ q. MadeTick doc x.beat q t h) mine made) (fresh q h (unfresh q h (tick_write t) is)) (last_stale q key h) (old (unfresh q h (tick_write t) is) key)

    of_tick : (who : Actor) (t : Tick) → Made doc x.beat who (Ticks t) h → or_else false (upper (fresh_says q who (Ticks t)) (last_fresh q h)) ≡ true → (key : Key)
        → or_else false (upper (only_if (is_by q who) (stale_tick key t)) (last_stale q key h)) ≡ false
    of_tick who Sync made = by_sync (is_by q who)
    of_tick who t made = by_own who t (is_by q who) refl made

    cases : (who : Actor) (d : Fact) → Made doc x.beat who d h → or_else false (upper (fresh_says q who d) (last_fresh q h)) ≡ true → (key : Key)
        → or_else false (upper (stale_says q key who d) (last_stale q key h)) ≡ false
    cases who (Ticks t) made = of_tick who t made
    cases who d made = λ is key. old (unfresh q h (write_of d) is) key

-- ---- a tick that reaches the store

pub record Fine (q : Identity) (h : List Entry) : Type 0 where
  pub mirrors : Mirrors q h
  pub unstale : (key : Key) → is_stale q key h ≡ false
  pub passes : loses_requests q.process h ≡ false

fine_more : (doc : Doc) (k : ℕ) (q : Identity) (t : Tick) (h : List Entry) → MadeTick doc k q t h → Fine q h → Fine q (add k q t h)
fine_more doc k q t h made s = record {
  mirrors = mirrors_more q h k t s.mirrors;
  unstale = λ key. subst (λ b. or_else false (upper (only_if b (stale_tick key t)) (last_stale q key h)) ≡ false) (sym (same_self q)) (stale_step doc k q key t h made s.mirrors (last_stale q key h) (s.unstale key));
  passes = s.passes;
}

record FineSynced (q : Identity) (h : List Entry) : Type 0 where
  fine : Fine q h
  synced : is_synced q h ≡ true

fine_sync : (doc : Doc) (k : ℕ) (q : Identity) (h : List Entry) → has_settled doc k q h ≡ true → Unstale q h → watches doc q.process h ≡ true → loses_requests q.process h ≡ false → FineSynced q (sync doc k q h)
fine_sync doc k q h settled old watching passing =
    subst (λ b. FineSynced q (if (b && (watches doc q.process h && not (is_fresh q h))) then add k q Sync h else h)) (sym settled)
    (subst (λ b. FineSynced q (if (b && not (is_fresh q h)) then add k q Sync h else h)) (sym watching) (by_test (is_fresh q h) refl))
  where
    by_test : (b : Bool) → is_fresh q h ≡ b → FineSynced q (if (not b) then add k q Sync h else h)
    by_test true is = record { fine = record { mirrors = fresh q h is; unstale = old is; passes = passing }; synced = fresh_synced q h is }
    by_test false is = record {
      fine = record {
        mirrors = mirrors_sync q h k;
        unstale = λ key. subst (λ b. or_else false (upper (only_if b (Some false)) (last_stale q key h)) ≡ false) (sym (same_self q)) refl;
        passes = passing;
      };
      synced = subst (λ b. or_else false (upper (when b true) (newest (λ e T. synced_says q e.actor e.fact) h)) ≡ true) (sym (same_self q)) refl;
    }

-- ---- evictions

abbrev Clear : ℕ → Key → List Entry → Type 0
Clear now pod h = IsDue now (pod_due pod h) → ⊥

node_elsewhere : (kind : Kind) (space n name : ℕ) → is_pod kind ≡ true → key_eq (record { kind = kind; space = space; name = n }) (node_key name) ≡ false
node_elsewhere kind.Node space n name is = absurd (false_is is)
node_elsewhere kind.Lease space n name is = absurd (false_is is)
node_elsewhere kind.Pod space n name is = refl

-- a delete leaves the nodes
nodes_same : (name k : ℕ) (q : Identity) (pod : Key) (given node_given : Version) (at : ℕ) (a : Option Answer) (h : List Entry) → is_pod pod.kind ≡ true → stored_node name (add k q (Delete pod given node_given at a) h) ≡ stored_node name h
nodes_same name k q pod given node_given at a h is = by_answer a
  where
    by_answer : (a : Option Answer) → stored_node name (add k q (Delete pod given node_given at a) h) ≡ stored_node name h
    by_answer (Some (answer.Done v)) = ap (λ b. as_kind node_in (join (upper (holds h k (actor_of q) (when b None)) (last_write (node_key name) h)))) (node_elsewhere pod.kind pod.space pod.name name is)
    by_answer None = refl
    by_answer (Some answer.Absent) = refl
    by_answer (Some answer.Exists) = refl
    by_answer (Some (answer.Conflict v)) = refl

-- and what is due of another pod
delete_keeps : (now : ℕ) (pod : Key) (k : ℕ) (q : Identity) (other : Key) (given node_given : Version) (at : ℕ) (a : Option Answer) (h : List Entry) → is_pod other.kind ≡ true → Clear now pod h → Clear now pod (add k q (Delete other given node_given at a) h)
delete_keeps now pod k q other given node_given at a h kind old = by_answer a
  where
    as_before : (a : Option Answer) (o : Option (Version × Pod)) → (IsDue now (due_of o h) → ⊥) → IsDue now (due_of o (add k q (Delete other given node_given at a) h)) → ⊥
    as_before a None old d = d
    as_before a (Some x) old d = old (subst (λ o. IsDue now (due_on x.1 o)) (nodes_same x.1.node k q other given node_given at a h kind) d)

    by_key : (v : Version) (b : Bool) → IsDue now (due_of (as_kind pod_in (join (upper (holds h k (actor_of q) (when b None)) (last_write pod h)))) (add k q (Delete other given node_given at (Some (answer.Done v))) h)) → ⊥
    by_key v true d = d
    by_key v false d = as_before (Some (answer.Done v)) (stored_pod pod h) old d

    by_answer : (a : Option Answer) → Clear now pod (add k q (Delete other given node_given at a) h)
    by_answer (Some (answer.Done v)) = by_key v (key_eq other pod)
    by_answer None = as_before None (stored_pod pod h) old
    by_answer (Some answer.Absent) = as_before (Some answer.Absent) (stored_pod pod h) old
    by_answer (Some answer.Exists) = as_before (Some answer.Exists) (stored_pod pod h) old
    by_answer (Some (answer.Conflict v)) = as_before (Some (answer.Conflict v)) (stored_pod pod h) old

-- an accepted delete leaves no pod
delete_clears : (now : ℕ) (pod : Key) (k : ℕ) (q : Identity) (given node_given : Version) (at : ℕ) (v : Version) (h : List Entry) → Clear now pod (add k q (Delete pod given node_given at (Some (answer.Done v))) h)
delete_clears now pod k q given node_given at v h =
    subst (λ b. IsDue now (due_of (as_kind pod_in (join (upper (holds h k (actor_of q) (when b None)) (last_write pod h)))) (add k q (Delete pod given node_given at (Some (answer.Done v))) h)) → ⊥) (sym (key_itself pod)) (λ d. d)

-- ---- what the term has seen of a pod

abbrev ClearSighted : Doc → Identity → ℕ → Key → List Entry → Type 0
ClearSighted doc q now pod h = IsDue now (due_where (stored_pod pod h) (sighted_due doc q pod h)) → ⊥

sighted_keeps : (doc : Doc) (now : ℕ) (pod : Key) (k : ℕ) (q : Identity) (other : Key) (given node_given : Version) (at : ℕ) (a : Option Answer) (h : List Entry) → is_pod other.kind ≡ true → ClearSighted doc q now pod h
    → ClearSighted doc q now pod (add k q (Delete other given node_given at a) h)
sighted_keeps doc now pod k q other given node_given at a h kind old = by_answer a (sighted_same doc q pod k other given node_given at a h kind)
  where
    by_key : (v : Version) (b : Bool) (d : Due) → (b ≡ false → d ≡ sighted_due doc q pod h) → IsDue now (due_where (as_kind pod_in (join (upper (holds h k (actor_of q) (when b None)) (last_write pod h)))) d) → ⊥
    by_key v true d same is = is
    by_key v false d same is = old (subst (λ d. IsDue now (due_where (stored_pod pod h) d)) (same refl) is)

    by_answer : (a : Option Answer) → ((is_accepted a && key_eq other pod) ≡ false → sighted_due doc q pod (add k q (Delete other given node_given at a) h) ≡ sighted_due doc q pod h)
        → ClearSighted doc q now pod (add k q (Delete other given node_given at a) h)
    by_answer (Some (answer.Done v)) same = by_key v (key_eq other pod) _ same
    by_answer None same = λ is. old (subst (λ d. IsDue now (due_where (stored_pod pod h) d)) (same refl) is)
    by_answer (Some answer.Absent) same = λ is. old (subst (λ d. IsDue now (due_where (stored_pod pod h) d)) (same refl) is)
    by_answer (Some answer.Exists) same = λ is. old (subst (λ d. IsDue now (due_where (stored_pod pod h) d)) (same refl) is)
    by_answer (Some (answer.Conflict v)) same = λ is. old (subst (λ d. IsDue now (due_where (stored_pod pod h) d)) (same refl) is)

sighted_clears : (doc : Doc) (now : ℕ) (pod : Key) (k : ℕ) (q : Identity) (given node_given : Version) (at : ℕ) (v : Version) (h : List Entry) → ClearSighted doc q now pod (add k q (Delete pod given node_given at (Some (answer.Done v))) h)
sighted_clears doc now pod k q given node_given at v h =
    let g = add k q (Delete pod given node_given at (Some (answer.Done v))) h in
    subst (λ b. IsDue now (due_where (as_kind pod_in (join (upper (holds h k (actor_of q) (when b None)) (last_write pod h)))) (sighted_due doc q pod g)) → ⊥) (sym (key_itself pod)) (λ d. d)

abbrev ClearBy : EvictRule → Doc → Identity → ℕ → Key → List Entry → Type 0
ClearBy rule doc q now pod h = IsDue now (stored_due rule doc q pod h) → ⊥

keeps_by : (rule : EvictRule) (doc : Doc) (now : ℕ) (pod : Key) (k : ℕ) (q : Identity) (other : Key) (given node_given : Version) (at : ℕ) (a : Option Answer) (h : List Entry) → is_pod other.kind ≡ true → ClearBy rule doc q now pod h
    → ClearBy rule doc q now pod (add k q (Delete other given node_given at a) h)
keeps_by Added doc now pod k q other given node_given at a h kind old = delete_keeps now pod k q other given node_given at a h kind old
keeps_by Seen doc now pod k q other given node_given at a h kind old = sighted_keeps doc now pod k q other given node_given at a h kind old

not_zero : (n : ℕ) → (suc n == 0) ≡ false
not_zero n = grind (arith, nat_tests)

module _ (doc : Doc) (k : ℕ) (q : Identity) where
  abbrev Stored : Key → List Entry → Type 0
  Stored pod h = Clear (wall doc q.process k) pod h

  abbrev Sighted : Key → List Entry → Type 0
  Sighted pod h = ClearSighted doc q (wall doc q.process k) pod h

  abbrev Timely : Key → List Entry → Type 0
  Timely pod h = ClearBy doc.settings.rules.evict_from doc q (wall doc q.process k) pod h

  evict_fine : (pod : Key) (h : List Entry) → IsPodKey pod → HasRoom doc k q h → Fine q h → Fine q (evict doc k q pod h)
  evict_fine pod h kind room s = evict_step doc k q (Fine q) pod h kind s (λ given node_given at a made. fine_more doc k q (Delete pod given node_given at a) h (made, room) s)

  evict_keeps : (pod other : Key) (h : List Entry) → IsPodKey other → Timely pod h → Timely pod (evict doc k q other h)
  evict_keeps pod other h kind old = evict_step doc k q (Timely pod) other h kind old (λ given node_given at a made. keeps_by doc.settings.rules.evict_from doc (wall doc q.process k) pod k q other given node_given at a h kind old)

  -- its own pod isn't due afterwards
  added_clears : (pod : Key) (h : List Entry) → Fine q h → Stored pod (evict_by Added doc k q pod h)
  added_clears pod h s =
      subst (λ b. Stored pod (evict_seen doc k q pod b (seen_pod q pod h) h)) (sym (s.unstale pod))
      (subst (λ o. Stored pod (evict_seen doc k q pod false (as_kind pod_in o) h)) (sym (s.mirrors pod))
      (by_pod (stored pod h) refl))
    where
      now : ℕ
      now = wall doc q.process k

      accepted : (a b : Held) (name at : ℕ) → stored pod h ≡ Some a → stored (node_key name) h ≡ Some b → Stored pod (add k q (Delete pod a.version b.version at (try_delete q pod a.version name b.version h)) h)
      accepted a b name at here node =
          subst (λ answered. Stored pod (add k q (Delete pod a.version b.version at answered) h)) (sym answered) (delete_clears now pod k q a.version b.version at (next_version h) h)
        where
          next : Version
          next = next_version h

          answered : try_delete q pod a.version name b.version h ≡ Some (answer.Done (next_version h))
          answered =
              subst (λ t. only_if (not t) (as_answer (delete_over next a.version b.version (stored pod h) (stored (node_key name) h))) ≡ Some (answer.Done next)) (sym s.passes)
              (subst (λ o. as_answer (delete_over next a.version b.version o (stored (node_key name) h)) ≡ Some (answer.Done next)) (sym here)
              (subst (λ o. as_answer (delete_over next a.version b.version (Some a) o) ≡ Some (answer.Done next)) (sym node)
              (subst (λ t. as_answer (cond t (delete_at_node next b.version (Some b)) (reply.Conflict a.version)) ≡ Some (answer.Done next)) (sym (eq-eqb a.version.0 a.version.0 refl))
              (subst (λ t. as_answer (cond t (reply.Done next) (reply.Conflict b.version)) ≡ Some (answer.Done next)) (sym (eq-eqb b.version.0 b.version.0 refl)) refl))))

      by_time : (a b : Held) (name at : ℕ) → stored pod h ≡ Some a → stored (node_key name) h ≡ Some b → pod_due pod h ≡ At at → (t : Bool) → nat_le at now ≡ t → Stored pod (if t then add_delete k q pod a.version name b.version at h else h)
      by_time a b name at here node time true test = accepted a b name at here node
      by_time a b name at here node time false test = λ d. false_is (sym test ∙ le-leb at now (subst (IsDue now) time d))

      by_due : (a b : Held) (name : ℕ) → stored pod h ≡ Some a → stored (node_key name) h ≡ Some b → (o : Due) → pod_due pod h ≡ o → Stored pod (evict_due doc k q pod a.version name b.version o h)
      by_due a b name here node Never time = λ d. subst (IsDue now) time d
      by_due a b name here node (At at) time = by_time a b name at here node time (nat_le at now) refl

      by_kind : (a b : Held) (x : Pod) → stored pod h ≡ Some a → stored (node_key x.node) h ≡ Some b → pod_due pod h ≡ due_on x (as_kind node_in (Some b)) → (o : Option Node) → node_in b.object ≡ o
          → Stored pod (evict_on doc k q pod (a.version, x) (versioned b.version o) h)
      by_kind a b x here node time None is = λ d. subst (λ o. IsDue now (due_on x (versioned b.version o))) is (subst (IsDue now) time d)
      by_kind a b x here node time (Some y) is = by_due a b x.node here node (due x y) (time ∙ ap (λ o. due_on x (versioned b.version o)) is)

      by_held : (a : Held) (x : Pod) → stored pod h ≡ Some a → pod_due pod h ≡ due_on x (stored_node x.node h) → (o : Option Held) → stored (node_key x.node) h ≡ o → Stored pod (evict_on doc k q pod (a.version, x) (as_kind node_in o) h)
      by_held a x here time None node = λ d. subst (λ o. IsDue now (due_on x (as_kind node_in o))) node (subst (IsDue now) time d)
      by_held a x here time (Some b) node = by_kind a b x here node (time ∙ ap (λ o. due_on x (as_kind node_in o)) node) (node_in b.object) refl

      by_object : (a : Held) (o : Option Pod) → stored pod h ≡ Some a → pod_in a.object ≡ o → Stored pod (evict_seen doc k q pod false (versioned a.version o) h)
      by_object a None here is = λ d. subst (λ o. IsDue now (due_of (versioned a.version o) h)) is (subst (λ o. IsDue now (due_of (as_kind pod_in o) h)) here d)
      by_object a (Some x) here is =
          subst (λ o. Stored pod (evict_on doc k q pod (a.version, x) (as_kind node_in o) h)) (sym (s.mirrors (node_key x.node)))
          (by_held a x here (ap (λ o. due_of (as_kind pod_in o) h) here ∙ ap (λ o. due_of (versioned a.version o) h) is) (stored (node_key x.node) h) refl)

      by_pod : (o : Option Held) → stored pod h ≡ o → Stored pod (evict_seen doc k q pod false (as_kind pod_in o) h)
      by_pod None is = λ d. subst (λ o. IsDue now (due_of (as_kind pod_in o) h)) is d
      by_pod (Some a) is = by_object a (pod_in a.object) is refl

  sighted_clear : (pod : Key) (h : List Entry) → Fine q h → Sighted pod (evict_by Seen doc k q pod h)
  sighted_clear pod h s =
      subst (λ b. Sighted pod (evict_sighted doc k q pod b (seen_pod q pod h) (sighted_due doc q pod h) h)) (sym (s.unstale pod))
      (subst (λ o. Sighted pod (evict_sighted doc k q pod false (as_kind pod_in o) (sighted_due doc q pod h) h)) (sym (s.mirrors pod))
      (by_pod (stored pod h) refl))
    where
      now : ℕ
      now = wall doc q.process k

      next : Version
      next = next_version h

      accepted : (a : Held) (at : ℕ) → stored pod h ≡ Some a → Sighted pod (add k q (Delete pod a.version no_version at (try_delete_alone q pod a.version h)) h)
      accepted a at here =
          let answered : try_delete_alone q pod a.version h ≡ Some (answer.Done next) =
          subst (λ t. only_if (not t) (as_answer (delete_alone_over next a.version (stored pod h))) ≡ Some (answer.Done next)) (sym s.passes)
          (subst (λ o. as_answer (delete_alone_over next a.version o) ≡ Some (answer.Done next)) (sym here)
          (subst (λ t. as_answer (cond t (reply.Done next) (reply.Conflict a.version)) ≡ Some (answer.Done next)) (sym (eq-eqb a.version.0 a.version.0 refl)) refl)) in
          subst (λ answered. Sighted pod (add k q (Delete pod a.version no_version at answered) h)) (sym answered) (sighted_clears doc now pod k q a.version no_version at next h)

      at_time : (a : Held) (at : ℕ) → stored pod h ≡ Some a → (IsDue now (due_where (stored_pod pod h) (sighted_due doc q pod h)) → at ≤ now) → (t : Bool) → nat_le at now ≡ t
          → Sighted pod (if t then add k q (Delete pod a.version no_version at (try_delete_alone q pod a.version h)) h else h)
      at_time a at here le true test = accepted a at here
      at_time a at here le false test = λ d. false_is (sym test ∙ le-leb at now (le d))

      where_due : (o : Option (Version × Pod)) (d : Due) → IsDue now (due_where o d) → IsDue now d
      where_due None d is = absurd is
      where_due (Some x) d is = is

      by_due : (a : Held) (x : Pod) → stored pod h ≡ Some a → (d : Due) → sighted_due doc q pod h ≡ d → Sighted pod (evict_sighted doc k q pod false (Some (a.version, x)) d h)
      by_due a x here Never time = λ d. where_due (stored_pod pod h) Never (subst (λ d. IsDue now (due_where (stored_pod pod h) d)) time d)
      by_due a x here (At at) time = at_time a at here (λ d. where_due (stored_pod pod h) (At at) (subst (λ d. IsDue now (due_where (stored_pod pod h) d)) time d)) (nat_le at now) refl

      no_pod : (o : Option Held) (d : Due) → stored pod h ≡ o → as_kind pod_in o ≡ None → Sighted pod (evict_sighted doc k q pod false None d h)
      no_pod o d here none = λ is. subst (λ o. IsDue now (due_where o (sighted_due doc q pod h))) (ap (as_kind pod_in) here ∙ none) is

      by_object : (a : Held) (o : Option Pod) → stored pod h ≡ Some a → pod_in a.object ≡ o → Sighted pod (evict_sighted doc k q pod false (versioned a.version o) (sighted_due doc q pod h) h)
      by_object a None here is = no_pod (Some a) (sighted_due doc q pod h) here (ap (versioned a.version) is)
      by_object a (Some x) here is = by_due a x here (sighted_due doc q pod h) refl

      by_pod : (o : Option Held) → stored pod h ≡ o → Sighted pod (evict_sighted doc k q pod false (as_kind pod_in o) (sighted_due doc q pod h) h)
      by_pod None here = no_pod None (sighted_due doc q pod h) here refl
      by_pod (Some a) here = by_object a (pod_in a.object) here refl

  evict_clears : (pod : Key) (h : List Entry) → Fine q h → Timely pod (evict doc k q pod h)
  evict_clears pod h s = by_rule doc.settings.rules.evict_from
    where
      by_rule : (rule : EvictRule) → ClearBy rule doc q (wall doc q.process k) pod (evict_by rule doc k q pod h)
      by_rule Added = added_clears pod h s
      by_rule Seen = sighted_clear pod h s

  -- ---- each pod, without a limit

  evict_all_keeps : (pod : Key) (keys : List Key) (h : List Entry) → Each IsPodKey keys → Timely pod h → Timely pod (for_each (evict doc k q) keys h)
  evict_all_keeps pod [] h kinds old = old
  evict_all_keeps pod (x ∷ xs) h kinds old = evict_all_keeps pod xs (evict doc k q x h) kinds.1 (evict_keeps pod x h kinds.0 old)

  evict_all : ((g : List Entry) → HasRoom doc k q g) → (pod : Key) (keys : List Key) (h : List Entry) → Each IsPodKey keys → Fine q h → Among pod keys → Timely pod (for_each (evict doc k q) keys h)
  evict_all room pod [] h kinds s at = absurd at
  evict_all room pod (x ∷ xs) h kinds s (inl is) = evict_all_keeps pod xs (evict doc k q x h) kinds.1 (subst (λ x. Timely pod (evict doc k q x h)) is (evict_clears pod h s))
  evict_all room pod (x ∷ xs) h kinds s (inr at) = evict_all room pod xs (evict doc k q x h) kinds.1 (evict_fine x h kinds.0 (room h) s) at

  -- nothing is due of a pod that isn't stored
  none_stored : (pod : Key) (h : List Entry) → stored pod h ≡ None → Timely pod h
  none_stored pod h is = by_rule doc.settings.rules.evict_from
    where
      by_rule : (rule : EvictRule) → ClearBy rule doc q (wall doc q.process k) pod h
      by_rule Added = λ d. subst (λ o. IsDue (wall doc q.process k) (due_of (as_kind pod_in o) h)) is d
      by_rule Seen = λ d. subst (λ o. IsDue (wall doc q.process k) (due_where (as_kind pod_in o) (sighted_due doc q pod h))) is d

  all_clear : ((g : List Entry) → HasRoom doc k q g) → (pod : Key) (h : List Entry) → IsPodKey pod → Fine q h → Timely pod (for_each (evict doc k q) (pod_keys h) h)
  all_clear room pod h kind s = by_stored (stored pod h) refl
    where
      by_stored : (o : Option Held) → stored pod h ≡ o → Timely pod (for_each (evict doc k q) (pod_keys h) h)
      by_stored None is = evict_all_keeps pod (pod_keys h) h (pods_only h) (none_stored pod h is)
      by_stored (Some y) is = evict_all room pod (pod_keys h) h (pods_only h) s (named_pod pod kind h y is)

  -- ---- each that is due, while a token is left

  abbrev IsPodDue : ℕ × Key → Type 0
  IsPodDue x = IsPodKey x.1

  -- a pod that is due never as it is seen isn't due as it is stored
  never_due : (pod : Key) (h : List Entry) → Fine q h → due_by doc.settings.rules.evict_from doc q pod h ≡ Never → Timely pod h
  never_due pod h s = by_rule doc.settings.rules.evict_from
    where
      now : ℕ
      now = wall doc q.process k

      by_node : (x : Version × Pod) (o : Option (Version × Node)) → due_on_seen x.1 o ≡ due_on x.1 o
      by_node x None = refl
      by_node x (Some y) = refl

      by_pod : (o : Option (Version × Pod)) → due_seen q o h ≡ due_of o h
      by_pod None = refl
      by_pod (Some x) = by_node x (seen_node q x.1.node h) ∙ ap (λ o. due_on x.1 (as_kind node_in o)) (s.mirrors (node_key x.1.node))

      nothing : (o : Option (Version × Pod)) (d : Due) → d ≡ Never → IsDue now (due_where o d) → ⊥
      nothing None d is due = due
      nothing (Some x) d is due = subst (IsDue now) is due

      by_rule : (rule : EvictRule) → due_by rule doc q pod h ≡ Never → ClearBy rule doc q now pod h
      by_rule Added is = λ d. subst (IsDue now) (sym (ap (λ o. due_of (as_kind pod_in o) h) (s.mirrors pod)) ∙ sym (by_pod (seen_pod q pod h)) ∙ is) d
      by_rule Seen is = nothing (stored_pod pod h) (sighted_due doc q pod h) is

  within_keeps : (pod : Key) (x : ℕ × Key) (h : List Entry) → IsPodDue x → Timely pod h → Timely pod (evict_within doc k q x h)
  within_keeps pod x h kind old = by_room (has_room doc q k 0 h)
    where
      by_room : (b : Bool) → Timely pod (if b then evict doc k q x.1 h else h)
      by_room true = evict_keeps pod x.1 h kind old
      by_room false = old

  within_all_keeps : (pod : Key) (xs : List (ℕ × Key)) (h : List Entry) → Each IsPodDue xs → Timely pod h → Timely pod (for_each (evict_within doc k q) xs h)
  within_all_keeps pod [] h kinds old = old
  within_all_keeps pod (x ∷ xs) h kinds old = within_all_keeps pod xs (evict_within doc k q x h) kinds.1 (within_keeps pod x h kinds.0 old)

  within_fine : (x : ℕ × Key) (h : List Entry) → IsPodDue x → Fine q h → Fine q (evict_within doc k q x h)
  within_fine x h kind s = by_room (has_room doc q k 0 h) refl
    where
      by_room : (b : Bool) → has_room doc q k 0 h ≡ b → Fine q (if b then evict doc k q x.1 h else h)
      by_room true is = evict_fine x.1 h kind (λ limited. is) s
      by_room false is = s

  -- where a token is left there was one before
  room_was : (x : ℕ × Key) (h : List Entry) → has_room doc q k 0 (evict_within doc k q x h) ≡ true → has_room doc q k 0 h ≡ true
  room_was x h = by_room (has_room doc q k 0 h) refl
    where
      by_room : (b : Bool) → has_room doc q k 0 h ≡ b → has_room doc q k 0 (if b then evict doc k q x.1 h else h) ≡ true → has_room doc q k 0 h ≡ true
      by_room true is later = is
      by_room false is later = later

  room_before : (xs : List (ℕ × Key)) (h : List Entry) → has_room doc q k 0 (for_each (evict_within doc k q) xs h) ≡ true → has_room doc q k 0 h ≡ true
  room_before [] h later = later
  room_before (x ∷ xs) h later = room_was x h (room_before xs (evict_within doc k q x h) later)

  within_clears : (x : ℕ × Key) (h : List Entry) → Fine q h → has_room doc q k 0 h ≡ true → Timely x.1 (evict_within doc k q x h)
  within_clears x h s room = subst (λ b. Timely x.1 (if b then evict doc k q x.1 h else h)) (sym room) (evict_clears x.1 h s)

  within_all : (pod : Key) (at : ℕ) (xs : List (ℕ × Key)) (h : List Entry) → Each IsPodDue xs → Fine q h → has_room doc q k 0 (for_each (evict_within doc k q) xs h) ≡ true → Among (at, pod) xs
      → Timely pod (for_each (evict_within doc k q) xs h)
  within_all pod at [] h kinds s room mine = absurd mine
  within_all pod at (x ∷ xs) h kinds s room (inl is) =
      within_all_keeps pod xs (evict_within doc k q x h) kinds.1
      (subst (λ (y : ℕ × Key). Timely y.1 (evict_within doc k q x h)) (sym is) (within_clears x h s (room_was x h (room_before xs (evict_within doc k q x h) room))))
  within_all pod at (x ∷ xs) h kinds s room (inr mine) = within_all pod at xs (evict_within doc k q x h) kinds.1 (within_fine x h kinds.0 s) room mine

  within_clear : (pod : Key) (h : List Entry) → IsPodKey pod → Fine q h → has_room doc q k 0 (for_each (evict_within doc k q) (dues doc q (pod_keys h) h) h) ≡ true
      → Timely pod (for_each (evict_within doc k q) (dues doc q (pod_keys h) h) h)
  within_clear pod h kind s room = by_stored (stored pod h) refl
    where
      all : List (ℕ × Key)
      all = dues doc q (pod_keys h) h

      pods : Each IsPodDue all
      pods = dues_only doc q h (pod_keys h) (pods_only h)

      by_due : Among pod (pod_keys h) → (d : Due) → due_by doc.settings.rules.evict_from doc q pod h ≡ d → Timely pod (for_each (evict_within doc k q) all h)
      by_due mine Never is = within_all_keeps pod all h pods (never_due pod h s is)
      by_due mine (At at) is = within_all pod at all h pods s room (pods_of_dues doc q h (pod_keys h) pod at is mine)

      by_stored : (o : Option Held) → stored pod h ≡ o → Timely pod (for_each (evict_within doc k q) all h)
      by_stored None is = within_all_keeps pod all h pods (none_stored pod h is)
      by_stored (Some y) is = by_due (named_pod pod kind h y is) (due_by doc.settings.rules.evict_from doc q pod h) refl

  -- ---- both

  abbrev Prompted : ℕ → List Entry → Type 0
  Prompted n h = NoneDueWithin n doc q k h

  evicted_clear : (h : List Entry) → Fine q h → Prompted doc.settings.rules.evict_burst (evicted doc k q h)
  evicted_clear h s = by_burst doc.settings.rules.evict_burst refl
    where
      Evicted : Bool → List Entry
      Evicted b = elim b [ true ↦ for_each (evict doc k q) (pod_keys h) h | false ↦ for_each (evict_within doc k q) (dues doc q (pod_keys h) h) h ]

      by_room : (b : Bool) → has_room doc q k 0 (Evicted false) ≡ b → NoneDue doc q k (Evicted false) ⊎ (has_room doc q k 0 (Evicted false) ≡ false)
      by_room true room = inl (λ pod kind. within_clear pod h kind s room)
      by_room false room = inr room

      by_burst : (n : ℕ) → doc.settings.rules.evict_burst ≡ n → Prompted n (Evicted (n == 0))
      by_burst zero is = λ pod kind. all_clear (λ g limited. absurd (true_is (sym (ap (λ n. n == 0) is) ∙ limited))) pod h kind s
      by_burst (suc n) is = subst (λ b. Prompted (suc n) (Evicted b)) (sym (not_zero n)) (by_room (has_room doc q k 0 (Evicted false)) refl)

  -- after a tick of a settled term that reaches the store no pod is due, or no token is left
  pub current : (h : List Entry) → Unstale q h → has_settled doc k q h ≡ true → watches doc q.process h ≡ true → loses_requests q.process h ≡ false → Prompted doc.settings.rules.evict_burst (tick doc k q h)
  current h old settled watching passing =
      let a = sync doc k q h in
      let b = pass doc k q a in
      let c = cleaned doc k q b in
      let s = fine_sync doc k q h settled old watching passing in
      subst (λ t. Prompted doc.settings.rules.evict_burst (if t then phases doc k q a else a)) (sym s.synced)
      (evicted_clear (tainted doc k q c) (walk_tainted doc k q (Fine q) (fine_more doc k q) c (walk_cleaned doc k q (Fine q) (fine_more doc k q) b (walk_pass doc k q (Fine q) (fine_more doc k q) a s.fine))))
