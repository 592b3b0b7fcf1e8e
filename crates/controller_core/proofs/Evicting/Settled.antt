-- Rows that are settled, and the dues by them, over entries that follow.
use Rattle.std.proofs.Common.{◌≡◌, ◌∙◌, ℕ, ◌&&◌, ◌||◌, not, Bool, true, false, cond, List, ◌∷◌, Option, Some, None, Result, Ok, Err, OnOk, refl, sym, ap, subst}
use Rattle.kube_base.specs.declared.numbers.Version.{Version}
use Rattle.kube_objects.specs.declared.call.Answer.{Answer}
use Rattle.kube_objects.specs.declared.call.Answer.TheVariants as answer
use Rattle.kube_objects.specs.declared.deed.Actor.{Actor}
use Rattle.kube_objects.specs.declared.key.Key.{Key}
use Rattle.kube_objects.specs.declared.pod.Bears.{Bears}
use Rattle.kube_objects.specs.declared.pod.Bears.TheVariants.{Untainted}
use Rattle.kube_objects.specs.declared.pod.Due.{Due}
use Rattle.kube_objects.specs.declared.pod.Due.TheVariants.{Never}
use Rattle.kube_objects.specs.declared.pod.Pod.{Pod}
use Rattle.kube_objects.specs.declared.rules.EvictRule.{EvictRule}
use Rattle.kube_objects.specs.declared.rules.EvictRule.TheVariants.{Added, Seen}
use Rattle.kube_objects.specs.Document.{Doc}
use Rattle.kube_objects.specs.Entry.{Delete, Entry, Fact, Identity, Tick, Ticks}
use Rattle.kube_objects.specs.Keys.{key_eq}
use Rattle.kube_objects.specs.Newest.{newest, when}
use Rattle.kube_objects.specs.Seen.{is_accepted, is_pod, is_refused, is_stale, seen_pod}
use Rattle.kube_objects.specs.Sightings.{bears_on, begins_row, due_in_row, is_one_row, is_own_tick, last_sight, row, row_at, sight, sighted_due, sighted_pod}
use Rattle.kube_objects.specs.Stored.{node_key}
use Rattle.kube_objects.specs.Tainting.{before_tick}
use Rattle.kube_objects.specs.Tick.{add}
use Rattle.kube_objects.proofs.KeyOrder.{key_itself, same_key}
use Rattle.evict_queue.specs.Queue.{due_in}
use Rattle.evict_queue.specs.Rows.{row_in}
use Rattle.history_laws.proofs.Plainly.{false_is, upper}
use Rattle.history_laws.proofs.Sightings.{foreign_last, row_more, row_none, row_some, sight_apart, sight_last}
use Rattle.tick_laws.specs.Changes.{IsSame, is_that}
use Rattle.tick_laws.specs.Judged.{due_by, shown, sighted_as}
use Rattle.tick_laws.proofs.Evicting.{deleted_sighted}
use Rattle.tick_laws.proofs.Foreign.{foreign_change}
use Rattle.tick_laws.proofs.Frames.{delete_change, gone_pod, same_node, same_pod}
use Rattle.tick_laws.proofs.Tried.{gone_never, pod_refused_never}
use Rattle.watch_cache.specs.Stands.{is_tick_by}
use Rattle.term_state.specs.declared.cluster.Cluster.{Cluster}
use Rattle.term_state.specs.ClusterStands.{but_pod}
use Rattle.term_state.specs.Sights.{IsRetained, SettledBy, has_touched, row_from, row_of}

-- nothing is touched
pub settled_none : (rule : EvictRule) (doc : Doc) (q : Identity) (h : List Entry) (pods : Key → Bool) (c : Cluster) → SettledBy rule doc q h pods c → (key : Key) → has_touched c key ≡ false
settled_none Added doc q h pods c s = s
settled_none Seen doc q h pods c s = s.none

-- ---- an entry that shows the same

sight_shown : (q : Identity) (key : Key) (h g : List Entry) → ((k : Key) → shown q k g ≡ shown q k h) → sight q key g ≡ sight q key h
sight_shown q key h g all = ap (λ o. sighted_pod q o g) (same_pod q key h g (all key)) ∙ by_pod (seen_pod q key h)
  where
    by_pod : (o : Option (Version × Pod)) → sighted_pod q o g ≡ sighted_pod q o h
    by_pod None = refl
    by_pod (Some x) = ap (bears_on x.1) (same_node q x.1.node h g (all (node_key x.1.node)))

-- a due by what is seen, where all that it is read from is the same
due_alike : (doc : Doc) (q : Identity) (key : Key) (h g : List Entry) → is_stale q key g ≡ is_stale q key h → seen_pod q key g ≡ seen_pod q key h → row q key g ≡ row q key h
    → due_by Seen doc q key g ≡ due_by Seen doc q key h
due_alike doc q key h g stale sees same =
    ap (λ b. sighted_as (not (is_pod key.kind) || b) (seen_pod q key g) (sighted_due doc q key g)) stale
    ∙ ap (λ o. sighted_as (not (is_pod key.kind) || is_stale q key h) o (sighted_due doc q key g)) sees
    ∙ ap (λ o. sighted_as (not (is_pod key.kind) || is_stale q key h) (seen_pod q key h) (due_in_row doc q o)) same

-- the rows and dues, where each row is the same
settled_rows : (rule : EvictRule) (doc : Doc) (q : Identity) (h g : List Entry) (pods : Key → Bool) (c : Cluster) → IsSame q h g → ((key : Key) → row q key g ≡ row q key h)
    → SettledBy rule doc q h pods c → SettledBy rule doc q g pods c
settled_rows Added doc q h g pods c same rows s = s
settled_rows Seen doc q h g pods c same rows s = record {
  sights = record {
    rows = λ key. s.sights.rows key ∙ ap (row_from doc q) (sym (rows key));
    dues = λ key out. s.sights.dues key out ∙ sym (due_alike doc q key h g (same.stale key) (same_pod q key h g (same.shown key)) (rows key));
  };
  none = s.none;
}

pub settled_same : (rule : EvictRule) (doc : Doc) (k : ℕ) (q : Identity) (t : Tick) (h : List Entry) (pods : Key → Bool) (c : Cluster) → IsSame q h (add k q t h) → SettledBy rule doc q h pods c
    → SettledBy rule doc q (add k q t h) pods c
settled_same rule doc k q t h pods c same s =
    settled_rows rule doc q h (add k q t h) pods c same (λ key. row_more q key k t h (sight_shown q key h (add k q t h) same.shown)) s

-- and in a cluster that has them too
pub settled_kept : (rule : EvictRule) (doc : Doc) (q : Identity) (h : List Entry) (pods : Key → Bool) (c d : Cluster) → c.evict_from ≡ rule → IsRetained c d → ((p : Key) → has_touched d p ≡ has_touched c p)
    → SettledBy rule doc q h pods c → SettledBy rule doc q h pods d
settled_kept Added doc q h pods c d from r touched s = λ p. touched p ∙ s p
settled_kept Seen doc q h pods c d from r touched s = record {
  sights = record { rows = λ p. r.rows p ∙ s.sights.rows p; dues = λ p out. r.dues from p ∙ s.sights.dues p out };
  none = λ p. touched p ∙ s.none p;
}

-- ---- an entry that is no own tick's

foreign_row : (q : Identity) (pod : Key) (e : Entry) (h : List Entry) → is_own_tick q e.actor e.fact ≡ false → row q pod (e ∷ h) ≡ row q pod h
foreign_row q pod e h foreign = ap (λ b. row_at q pod b (e ∷ h)) (foreign_last q pod e h foreign) ∙ by_row (is_one_row now now) refl
  where
    now : Bears
    now = last_sight q pod h

    by_row : (b : Bool) → is_one_row now now ≡ b → row_at q pod now (e ∷ h) ≡ row_at q pod now h
    by_row false out = row_none q pod now (e ∷ h) out ∙ sym (row_none q pod now h out)
    by_row true one =
        row_some q pod now (e ∷ h) one
        ∙ ap (λ b. upper (when (b && not (is_one_row now (last_sight q pod (before_tick q e.beat h)))) (e.beat, last_sight q pod (e ∷ h))) (newest (λ e T. when (begins_row q pod now e.beat e.actor e.fact T) (e.beat, last_sight q pod (e ∷ T))) h)) foreign
        ∙ sym (row_some q pod now h one)

unowned : (q : Identity) (who : Actor) (d : Fact) → is_tick_by q who d ≡ false → is_own_tick q who d ≡ false
unowned q who (Ticks t) is = is
unowned q who d is = refl

pub settled_foreign : (rule : EvictRule) (doc : Doc) (q : Identity) (h : List Entry) (e : Entry) (pods : Key → Bool) (c : Cluster) → is_tick_by q e.actor e.fact ≡ false → SettledBy rule doc q h pods c
    → SettledBy rule doc q (e ∷ h) pods c
settled_foreign rule doc q h e pods c other s =
    settled_rows rule doc q h (e ∷ h) pods c (foreign_change q h e other) (λ key. foreign_row q key e h (unowned q e.actor e.fact other)) s

-- ---- a delete

but_out : (pod p : Key) (b : Bool) → (b && not (key_eq pod p)) ≡ false → key_eq pod p ≡ false → b ≡ false
but_out pod p true out apart = absurd (false_is (sym out ∙ ap not apart))
but_out pod p false out apart = refl

no_sight : (b : Bool) (d : Due) → sighted_as b None d ≡ Never
no_sight true d = refl
no_sight false d = refl

module _ (doc : Doc) (k : ℕ) (q : Identity) (h : List Entry) (pod : Key) (given node_given : Version) (at : ℕ) (kind : is_pod pod.kind ≡ true) where
  abbrev After : Option Answer → List Entry
  After a = add k q (Delete pod given node_given at a) h

  -- other pods have their rows
  row_apart : (a : Option Answer) (p : Key) → (is_accepted a && key_eq pod p) ≡ false → row_of doc q p h ≡ row_of doc q p (After a)
  row_apart a p out = ap (row_from doc q) (sym (row_more q p k (Delete pod given node_given at a) h (sight_apart q p k pod given node_given at a h kind out)))

  -- and dues
  due_apart : (a : Option Answer) (p : Key) → key_eq pod p ≡ false → due_by Seen doc q p h ≡ due_by Seen doc q p (After a)
  due_apart a p apart = sym (deleted_sighted doc q k h pod given node_given at a kind p apart)

  -- an accepted one: the pod isn't seen any more, and its row has ended
  module _ (version : Version) where
    abbrev gone : List Entry
    gone = After (Some (answer.Done version))

    unseen : seen_pod q pod gone ≡ None
    unseen = gone_pod q h gone pod None (delete_change q k h pod given node_given at (Some (answer.Done version))) pod ∙ ap (λ b. cond b None (seen_pod q pod h)) (key_itself pod)

    row_ended : row_of doc q pod gone ≡ None
    row_ended = ap (λ b. row_from doc q (row_at q pod b gone)) (sight_last q pod gone Untainted (ap (λ o. sighted_pod q o gone) unseen))

    gone_due : due_by Seen doc q pod gone ≡ Never
    gone_due =
        ap (λ o. sighted_as (not (is_pod pod.kind) || is_stale q pod gone) o (sighted_due doc q pod gone)) unseen
        ∙ no_sight (not (is_pod pod.kind) || is_stale q pod gone) (sighted_due doc q pod gone)

  -- a refused one: the pod is stale
  module _ (a : Option Answer) (refused : is_refused a ≡ true) where
    stale_after : is_stale q pod (After a) ≡ true
    stale_after =
        (delete_change q k h pod given node_given at a).stale pod
        ∙ ap (λ b. is_that (when b pod) pod || is_stale q pod h) refused
        ∙ ap (λ b. b || is_stale q pod h) (key_itself pod)

    stale_due : due_by Seen doc q pod (After a) ≡ Never
    stale_due =
        ap (λ b. sighted_as (not b || is_stale q pod (After a)) (seen_pod q pod (After a)) (sighted_due doc q pod (After a))) kind
        ∙ ap (λ b. sighted_as b (seen_pod q pod (After a)) (sighted_due doc q pod (After a))) stale_after

  -- a pod whose delete was answered isn't due any more
  pub answered_never : (rule : EvictRule) (a : Answer) → due_by rule doc q pod (After (Some a)) ≡ Never
  answered_never Added (answer.Done v) = gone_never q h _ pod (delete_change q k h pod given node_given at (Some (answer.Done v)))
  answered_never Added answer.Absent = pod_refused_never q h _ pod (delete_change q k h pod given node_given at (Some answer.Absent))
  answered_never Added answer.Exists = pod_refused_never q h _ pod (delete_change q k h pod given node_given at (Some answer.Exists))
  answered_never Added (answer.Conflict v) = pod_refused_never q h _ pod (delete_change q k h pod given node_given at (Some (answer.Conflict v)))
  answered_never Seen (answer.Done v) = gone_due v
  answered_never Seen answer.Absent = stale_due (Some answer.Absent) refl
  answered_never Seen answer.Exists = stale_due (Some answer.Exists) refl
  answered_never Seen (answer.Conflict v) = stale_due (Some (answer.Conflict v)) refl

  -- ---- what is kept of it

  module _ (pods : Key → Bool) (c d : Cluster) (touched : (p : Key) → has_touched d p ≡ has_touched c p) where
    pub settled_gone : (version : Version) (rule : EvictRule) → ((p : Key) → row_in d.rows p ≡ cond (key_eq pod p) None (row_in c.rows p)) → ((p : Key) → due_in d.dues p ≡ cond (key_eq pod p) Never (due_in c.dues p))
        → SettledBy rule doc q h pods c → SettledBy rule doc q (gone version) (but_pod pod pods) d
    settled_gone version Added rows dues s = λ p. touched p ∙ s p
    settled_gone version Seen rows dues s = record {
      sights = record { rows = λ p. rows p ∙ row_by p (key_eq pod p) refl; dues = λ p out. dues p ∙ due_by_test p out (key_eq pod p) refl };
      none = λ p. touched p ∙ s.none p;
    }
      where
        row_by : (p : Key) (b : Bool) → key_eq pod p ≡ b → cond b None (row_in c.rows p) ≡ row_of doc q p (gone version)
        row_by p true same = subst (λ x. None ≡ row_of doc q x (gone version)) (same_key pod p same) (sym (row_ended version))
        row_by p false apart = s.sights.rows p ∙ row_apart (Some (answer.Done version)) p apart

        due_by_test : (p : Key) → but_pod pod pods p ≡ false → (b : Bool) → key_eq pod p ≡ b → cond b Never (due_in c.dues p) ≡ due_by Seen doc q p (gone version)
        due_by_test p out true same = subst (λ x. Never ≡ due_by Seen doc q x (gone version)) (same_key pod p same) (sym (gone_due version))
        due_by_test p out false apart = s.sights.dues p (but_out pod p (pods p) out apart) ∙ due_apart (Some (answer.Done version)) p apart

    -- a row goes on where the pod is stale
    pub settled_refused : (a : Option Answer) (rule : EvictRule) → is_accepted a ≡ false → is_refused a ≡ true → ((p : Key) → row_in d.rows p ≡ row_in c.rows p)
        → ((p : Key) → due_in d.dues p ≡ cond (key_eq pod p) Never (due_in c.dues p)) → SettledBy rule doc q h pods c → SettledBy rule doc q (After a) (but_pod pod pods) d
    settled_refused a Added unaccepted refused rows dues s = λ p. touched p ∙ s p
    settled_refused a Seen unaccepted refused rows dues s = record {
      sights = record {
        rows = λ p. rows p ∙ s.sights.rows p ∙ row_apart a p (ap (λ b. b && key_eq pod p) unaccepted);
        dues = λ p out. dues p ∙ due_by_test p out (key_eq pod p) refl;
      };
      none = λ p. touched p ∙ s.none p;
    }
      where
        due_by_test : (p : Key) → but_pod pod pods p ≡ false → (b : Bool) → key_eq pod p ≡ b → cond b Never (due_in c.dues p) ≡ due_by Seen doc q p (After a)
        due_by_test p out true same = subst (λ x. Never ≡ due_by Seen doc q x (After a)) (same_key pod p same) (sym (stale_due a refused))
        due_by_test p out false apart = s.sights.dues p (but_out pod p (pods p) out apart) ∙ due_apart a p apart

    -- the due is set again, at the same history
    pub settled_set : (rule : EvictRule) (due : Due) → due ≡ due_by rule doc q pod h → ((p : Key) → row_in d.rows p ≡ row_in c.rows p) → ((p : Key) → due_in d.dues p ≡ cond (key_eq pod p) due (due_in c.dues p))
        → SettledBy rule doc q h pods c → SettledBy rule doc q h (but_pod pod pods) d
    settled_set Added due is rows dues s = λ p. touched p ∙ s p
    settled_set Seen due is rows dues s = record {
      sights = record { rows = λ p. rows p ∙ s.sights.rows p; dues = λ p out. dues p ∙ due_by_test p out (key_eq pod p) refl };
      none = λ p. touched p ∙ s.none p;
    }
      where
        due_by_test : (p : Key) → but_pod pod pods p ≡ false → (b : Bool) → key_eq pod p ≡ b → cond b due (due_in c.dues p) ≡ due_by Seen doc q p h
        due_by_test p out true same = subst (λ x. due ≡ due_by Seen doc q x h) (same_key pod p same) is
        due_by_test p out false apart = s.sights.dues p (but_out pod p (pods p) out apart)

-- what follows from three facts where a call went well
pub three_ok : {A B F G H Q : Type 0} (r : Result A B) → OnOk r F → OnOk r G → OnOk r H → (F → G → H → Q) → OnOk r Q
three_ok (Ok x) f g h all = all f g h
three_ok (Err e) f g h all = tt
