-- An accepted delete takes a pod that is due.
use Rattle.std.proofs.Common.{◌≡◌, ◌∙◌, ◌≤◌, ℕ, ◌==◌, not, Bool, true, false, cond, List, [], ◌∷◌, Option, Some, None, refl, sym, ap, subst}
use Rattle.std.proofs.lemmas.Bool.{eqb-true, leb-true}
use Rattle.kube_base.specs.declared.numbers.Version.{Version}
use Rattle.kube_objects.specs.declared.call.Answer.{Answer}
use Rattle.kube_objects.specs.declared.call.Answer.TheVariants as answers
use Rattle.kube_objects.specs.declared.call.Reply.TheVariants.{Done, Conflict}
use Rattle.kube_objects.specs.declared.deed.Actor.{Actor}
use Rattle.kube_objects.specs.declared.key.Key.{Key}
use Rattle.kube_objects.specs.declared.node.Node.{Node}
use Rattle.kube_objects.specs.declared.object.Object.{Object}
use Rattle.kube_objects.specs.declared.pod.Due.TheVariants.{At}
use Rattle.kube_objects.specs.declared.pod.Pod.{Pod}
use Rattle.kube_objects.specs.declared.rules.EvictRule.{EvictRule}
use Rattle.kube_objects.specs.declared.rules.EvictRule.TheVariants.{Added, Seen}
use Rattle.kube_objects.specs.Answers.{versioned, as_kind, node_in}
use Rattle.kube_objects.specs.Clocks.{store_wall, whole_second, wall}
use Rattle.kube_objects.specs.Deletes.{delete_over}
use Rattle.kube_objects.specs.Document.{Doc}
use Rattle.kube_objects.specs.Entry.{Entry, Identity, Fact, First, Ticks, Delete, script_entry}
use Rattle.kube_objects.specs.Newest.{only_if}
use Rattle.kube_objects.specs.Seen.{pod_in, seen}
use Rattle.kube_objects.specs.Sightings.{sighted_due}
use Rattle.kube_objects.specs.Stamps.{stamped}
use Rattle.kube_objects.specs.Stored.{Held, node_key, next_version, stored}
use Rattle.kube_objects.specs.Tolerations.{due}
use Rattle.kube_objects.specs.Tries.{as_answer}
use Rattle.kube_objects.specs.Wire.{loses_requests}
use Rattle.history.specs.Evictions.{stored_node, stored_pod, due_on, due_of, pod_due, due_for, IsDue, IfDone, IfBy, NotEarlyAt, NotEarlyIn}
use Rattle.history.specs.History.{put_all, history}
use Rattle.history_laws.proofs.Plainly.{some_is, none_is}
use Rattle.history_laws.proofs.Ticks.{IsDelete, IsSightedDelete, IsDeleteBy}
use Rattle.history_laws.proofs.Walk.{Made, Keeps, KeepsRelease, all_made, made_release, walk_history}
use Rattle.eviction_laws.proofs.Cache.{same_version}

pub versioned_is : {A : Type 0} (n v : Version) (x : A) (o : Option A) → versioned n o ≡ Some (v, x) → n ≡ v
versioned_is n v x None is = absurd (none_is (v, x) is)
versioned_is n v x (Some y) is = ap (λ z. z.0) (some_is (n, y) (v, x) is)

-- what was seen with the version that is stored is what is stored
pub stored_as_seen : {A : Type 0} (f : Object → Option A) (q : Identity) (key : Key) (h : List Entry) (v : Version) (x : A)
    → as_kind f (seen q key h) ≡ Some (v, x) → (y : Held) → stored key h ≡ Some y → y.version.0 ≡ v.0 → as_kind f (stored key h) ≡ Some (v, x)
stored_as_seen f q key h v x sees y stores is = by_seen (seen q key h) refl sees
  where
    by_seen : (o : Option Held) → seen q key h ≡ o → as_kind f o ≡ Some (v, x) → as_kind f (stored key h) ≡ Some (v, x)
    by_seen None sees that = absurd (none_is (v, x) that)
    by_seen (Some s) sees that =
        let same : s ≡ y = same_version q key h s y sees stores (is ∙ ap (λ (v : Version). v.0) (sym (versioned_is s.version v x (f s.object) that))) in
        ap (as_kind f) (stores ∙ ap Some (sym same)) ∙ that

due_is : (now at : ℕ) (pod : Key) (v w : Version) (x : Pod) (y : Node) (h : List Entry) → stored_pod pod h ≡ Some (v, x) → stored_node x.node h ≡ Some (w, y) → due x y ≡ At at → at ≤ now → IsDue now (pod_due pod h)
due_is now at pod v w x y h here node time le =
    subst (λ o. IsDue now (due_of o h)) (sym here)
    (subst (λ o. IsDue now (due_on x o)) (sym node)
    (subst (IsDue now) (sym time) le))

early : (doc : Doc) (k : ℕ) (q : Identity) (pod : Key) (given node_given : Version) (at : ℕ) (answer : Option Answer) (h : List Entry) → IsDelete doc k q pod given node_given at answer h
    → IfDone answer (IsDue (wall doc q.process k) (pod_due pod h))
early doc k q pod given node_given at answer h made = subst (λ a. IfDone a Timely) (sym made.is) (by_loss (not (loses_requests q.process h)))
  where
    Timely : Type 0
    Timely = IsDue (wall doc q.process k) (pod_due pod h)

    by_versions : (a b : Held) → stored pod h ≡ Some a → stored (node_key made.x.node) h ≡ Some b → (s t : Bool) → (a.version.0 == given.0) ≡ s → (b.version.0 == node_given.0) ≡ t
        → IfDone (as_answer (cond s (cond t (Done (next_version h)) (Conflict b.version)) (Conflict a.version))) Timely
    by_versions a b here node false t is also = tt
    by_versions a b here node true false is also = tt
    by_versions a b here node true true is also =
        due_is (wall doc q.process k) at pod given node_given made.x made.y h
        (stored_as_seen pod_in q pod h given made.x made.sees a here (eqb-true _ _ is))
        (stored_as_seen node_in q (node_key made.x.node) h node_given made.y made.sees_node b node (eqb-true _ _ also)) made.time (leb-true at (wall doc q.process k) made.test)

    by_stored : (a b : Option Held) → stored pod h ≡ a → stored (node_key made.x.node) h ≡ b → IfDone (as_answer (delete_over (next_version h) given node_given a b)) Timely
    by_stored None b here node = tt
    by_stored (Some a) None here node = tt
    by_stored (Some a) (Some b) here node = by_versions a b here node (a.version.0 == given.0) (b.version.0 == node_given.0) refl refl

    by_loss : (t : Bool) → IfDone (only_if t (as_answer (delete_over (next_version h) given node_given (stored pod h) (stored (node_key made.x.node) h)))) Timely
    by_loss false = tt
    by_loss true = by_stored (stored pod h) (stored (node_key made.x.node) h) refl refl

-- what the term has seen of a pod is what its delete asks
sighted : (doc : Doc) (k : ℕ) (q : Identity) (pod : Key) (given node_given : Version) (at : ℕ) (answer : Option Answer) (h : List Entry) → IsSightedDelete doc k q pod given node_given at answer h
    → IfDone answer (IsDue (wall doc q.process k) (sighted_due doc q pod h))
sighted doc k q pod given node_given at answer h made = by_answer answer
  where
    timely : IsDue (wall doc q.process k) (sighted_due doc q pod h)
    timely = subst (IsDue (wall doc q.process k)) (sym made.time) (leb-true at (wall doc q.process k) made.test)

    by_answer : (a : Option Answer) → IfDone a (IsDue (wall doc q.process k) (sighted_due doc q pod h))
    by_answer (Some (answers.Done version)) = timely
    by_answer (Some (answers.Conflict version)) = tt
    by_answer (Some answers.Absent) = tt
    by_answer (Some answers.Exists) = tt
    by_answer None = tt

early_by : (rule : EvictRule) (doc : Doc) (k : ℕ) (q : Identity) (pod : Key) (given node_given : Version) (at : ℕ) (answer : Option Answer) (h : List Entry)
    → IsDeleteBy rule doc k q pod given node_given at answer h → IfDone answer (IsDue (wall doc q.process k) (due_for rule doc q pod h))
early_by Added doc k q pod given node_given at answer h made = early doc k q pod given node_given at answer h made
early_by Seen doc k q pod given node_given at answer h made = sighted doc k q pod given node_given at answer h made

early_at : (doc : Doc) (k : ℕ) (who : Actor) (d : Fact) (h : List Entry) → Made doc k who d h → NotEarlyAt doc k who d h
early_at doc k who (Ticks (Delete pod given node_given at answer)) h (q, is, acting, made) =
    subst (λ who. IfDone answer (IfBy who (λ q. IsDue (wall doc q.process k) (due_for doc.settings.rules.evict_from doc q pod h)))) (sym is)
    (early_by doc.settings.rules.evict_from doc k q pod given node_given at answer h made.0)
early_at doc k who d h made = tt

early_keeps : (doc : Doc) → Keeps doc (λ k step. NotEarlyIn doc)
early_keeps doc = all_made doc (λ k step. NotEarlyIn doc) (λ k step h s. s) (λ k h s. s) (λ x h made s. (early_at doc x.beat x.actor x.fact h made, s))

early_release : (doc : Doc) → KeepsRelease doc (λ k step. NotEarlyIn doc)
early_release doc = made_release doc (λ k step. NotEarlyIn doc) (λ x h made s. (early_at doc x.beat x.actor x.fact h made, s))

put_early : (doc : Doc) (xs : List (Key × Object)) (h : List Entry) → NotEarlyIn doc h → NotEarlyIn doc (put_all doc xs h)
put_early doc [] h s = s
put_early doc (x ∷ xs) h s = put_early doc xs (script_entry 0 0 (First x.0 (stamped (whole_second (store_wall doc 0)) x.1)) ∷ h) (tt, s)

pub never_early : (doc : Doc) (k : ℕ) → NotEarlyIn doc (history doc k)
never_early doc k = walk_history doc (λ k step. NotEarlyIn doc) (early_keeps doc) (early_release doc) (put_early doc doc.objects [] tt) k
