-- The phase of evictions.
use Rattle.std.proofs.Common.{◌≡◌, ◌∙◌, inl, inr, ℕ, nat_le, ◌==◌, ◌&&◌, ◌||◌, not, Bool, true, false, List, [], ◌∷◌, Option, Some, None, refl, sym, ap, subst, Less}
use Rattle.std.specs.Prelude.{if◌then◌else◌}
use Rattle.kube_base.specs.declared.numbers.Version.{Version}
use Rattle.kube_objects.specs.declared.call.Answer.{Answer}
use Rattle.kube_objects.specs.declared.call.Answer.TheVariants as answer
use Rattle.kube_objects.specs.declared.key.Key.{Key}
use Rattle.kube_objects.specs.declared.node.Node.{Node}
use Rattle.kube_objects.specs.declared.pod.Due.{Due}
use Rattle.kube_objects.specs.declared.pod.Due.TheVariants.{Never, At}
use Rattle.kube_objects.specs.declared.pod.Pod.{Pod}
use Rattle.kube_objects.specs.declared.rules.EvictRule.{EvictRule}
use Rattle.kube_objects.specs.declared.rules.EvictRule.TheVariants as evictions
use Rattle.kube_objects.specs.Answers.{as_kind}
use Rattle.kube_objects.specs.Clocks.{wall}
use Rattle.kube_objects.specs.Deletes.{no_version}
use Rattle.kube_objects.specs.Document.{Doc}
use Rattle.kube_objects.specs.Entry.{Entry, Identity, Place, Delete}
use Rattle.kube_objects.specs.Keys.{key_cmp, key_eq}
use Rattle.kube_objects.specs.Seen.{seen_node, seen_pod, pod_in, is_accepted, is_stale, is_pod, pod_keys}
use Rattle.kube_objects.specs.Sightings.{sighted_due}
use Rattle.kube_objects.specs.Tainting.{waits}
use Rattle.kube_objects.specs.Tick.{add, for_each, evict_due, evict_on, evict_seen, evict_sighted, evict_by, evict, evict_within, evicted, add_delete, insert_due, and_due, dues}
use Rattle.kube_objects.specs.Tick as model
use Rattle.kube_objects.specs.Tolerations.{due}
use Rattle.kube_objects.specs.Tries.{try_delete, try_delete_alone}
use Rattle.history_laws.proofs.Plainly.{false_is}
use Rattle.history_laws.proofs.Sightings.{and_out, delete_shows, delete_stales, sighted_same}
use Rattle.history_laws.proofs.Ticks.{Each, IsPodKey, pods_only, pods_of_dues}
use Rattle.tick_laws.specs.Changes.{IsChange, gone_by, refused_by}
use Rattle.tick_laws.specs.Judged.{due_on, due_as, is_dirty, seen_due, sighted_as, due_by, term_due, is_by_now}
use Rattle.tick_laws.specs.Walks.{Among, is_after, after}
use Rattle.tick_laws.proofs.Frames.{delete_change}
use Rattle.tick_laws.proofs.Named.{pod_is_named, pod_keys_ascend}
use Rattle.tick_laws.proofs.Orders.{keys_strict}
use Rattle.tick_laws.proofs.Tried.{same_dues, same_dirties, refused_waits, gone_due, gone_dirty, gone_waits, pod_refused_others, pod_refused_dirty}
use Rattle.tick_laws.proofs.Walks.{walk_next_among, walk_end_among}

-- ---- after a try to delete a pod, whatever its answer

module _ (q : Identity) (h g : List Entry) (pod : Key) where
  pub deleted_due : (a : Option Answer) → IsChange q h g (gone_by pod a) (refused_by pod a) → is_pod pod.kind ≡ true → (key : Key) → key_eq pod key ≡ false → seen_due q key g ≡ seen_due q key h
  deleted_due None s kind key apart = same_dues q h g s key
  deleted_due (Some (answer.Done v)) s kind key apart = gone_due q h g pod s kind key apart
  deleted_due (Some answer.Absent) s kind key apart = pod_refused_others q h g pod s key apart
  deleted_due (Some answer.Exists) s kind key apart = pod_refused_others q h g pod s key apart
  deleted_due (Some (answer.Conflict v)) s kind key apart = pod_refused_others q h g pod s key apart

  pub deleted_dirty : (a : Option Answer) → IsChange q h g (gone_by pod a) (refused_by pod a) → is_pod pod.kind ≡ true → (m : ℕ) → is_dirty q m g ≡ is_dirty q m h
  deleted_dirty None s kind m = same_dirties q h g s m
  deleted_dirty (Some (answer.Done v)) s kind m = gone_dirty q h g pod s kind m
  deleted_dirty (Some answer.Absent) s kind m = pod_refused_dirty q h g pod s kind m
  deleted_dirty (Some answer.Exists) s kind m = pod_refused_dirty q h g pod s kind m
  deleted_dirty (Some (answer.Conflict v)) s kind m = pod_refused_dirty q h g pod s kind m

  pub deleted_waits : (a : Option Answer) → IsChange q h g (gone_by pod a) (refused_by pod a) → is_pod pod.kind ≡ true → (place : Place) (m : ℕ) → waits q place m g ≡ waits q place m h
  deleted_waits None s kind place m = refused_waits q h g None s place m
  deleted_waits (Some (answer.Done v)) s kind place m = gone_waits q h g pod s kind place m
  deleted_waits (Some answer.Absent) s kind place m = refused_waits q h g (Some pod) s place m
  deleted_waits (Some answer.Exists) s kind place m = refused_waits q h g (Some pod) s place m
  deleted_waits (Some (answer.Conflict v)) s kind place m = refused_waits q h g (Some pod) s place m

-- the same by what the term has seen
pub deleted_sighted : (doc : Doc) (q : Identity) (k : ℕ) (h : List Entry) (pod : Key) (given node_given : Version) (at : ℕ) (a : Option Answer) → is_pod pod.kind ≡ true → (key : Key) → key_eq pod key ≡ false
    → due_by evictions.Seen doc q key (add k q (Delete pod given node_given at a) h) ≡ due_by evictions.Seen doc q key h
deleted_sighted doc q k h pod given node_given at a kind key apart =
    let g = add k q (Delete pod given node_given at a) h in
    let out : (is_accepted a && key_eq pod key) ≡ false = and_out (is_accepted a) (key_eq pod key) apart in
    ap (λ b. sighted_as (not (is_pod key.kind) || b) (seen_pod q key g) (sighted_due doc q key g)) (delete_stales q key k pod given node_given at a h apart)
    ∙ ap (λ o. sighted_as (not (is_pod key.kind) || is_stale q key h) (as_kind pod_in o) (sighted_due doc q key g)) (delete_shows q key k pod given node_given at a h out)
    ∙ ap (sighted_as (not (is_pod key.kind) || is_stale q key h) (seen_pod q key h)) (sighted_same doc q key k pod given node_given at a h kind out)

-- the keys of pods are keys of pods
pub pod_kinds : (h : List Entry) (key : Key) → Among key (pod_keys h) → is_pod key.kind ≡ true
pod_kinds h key there = by_list (pod_keys h) (pods_only h) there
  where
    by_list : (keys : List Key) → Each IsPodKey keys → Among key keys → is_pod key.kind ≡ true
    by_list [] all there = absurd there
    by_list (k ∷ ks) all (inl is) = subst IsPodKey (sym is) all.0
    by_list (k ∷ ks) all (inr there) = by_list ks all.1 there

-- what a pod is seen as that is due at a time: not stale, on a node that is seen
pub record SeenDue (q : Identity) (pod : Key) (h : List Entry) (at : ℕ) : Type 0 where
  pub kind : is_pod pod.kind ≡ true
  pub fresh : is_stale q pod h ≡ false
  pub x : Version × Pod
  pub sees : seen_pod q pod h ≡ Some x
  pub y : Version × Node
  pub sees_node : seen_node q x.1.node h ≡ Some y
  pub time : due x.1 y.1 ≡ At at

pub due_seen : (q : Identity) (pod : Key) (h : List Entry) (at : ℕ) → seen_due q pod h ≡ At at → SeenDue q pod h at
due_seen q pod h at is = by_kind (is_pod pod.kind) refl (is_stale q pod h) refl (seen_pod q pod h) refl is
  where
    by_node : (x : Version × Pod) → is_pod pod.kind ≡ true → is_stale q pod h ≡ false → seen_pod q pod h ≡ Some x → (o : Option (Version × Node)) → seen_node q x.1.node h ≡ o → due_on x.1 o ≡ At at → SeenDue q pod h at
    by_node x kind fresh sees None sees_node time = absurd (cc)
    by_node x kind fresh sees (Some y) sees_node time = record { kind = kind; fresh = fresh; x = x; sees = sees; y = y; sees_node = sees_node; time = time }

    by_kind : (b : Bool) → is_pod pod.kind ≡ b → (c : Bool) → is_stale q pod h ≡ c → (o : Option (Version × Pod)) → seen_pod q pod h ≡ o → due_as q (not b || c) o h ≡ At at → SeenDue q pod h at
    by_kind false kind c stale o sees time = absurd (cc)
    by_kind true kind true stale o sees time = absurd (cc)
    by_kind true kind false stale None sees time = absurd (cc)
    by_kind true kind false stale (Some x) sees time = by_node x kind stale sees (seen_node q x.1.node h) refl time

-- and by now
pub by_now_seen : (now : ℕ) (q : Identity) (pod : Key) (h : List Entry) → is_by_now now (seen_due q pod h) ≡ true → (at : ℕ) × (seen_due q pod h ≡ At at) × (nat_le at now ≡ true)
by_now_seen now q pod h is = by_due (seen_due q pod h) refl is
  where
    by_due : (d : Due) → seen_due q pod h ≡ d → is_by_now now d ≡ true → (at : ℕ) × (seen_due q pod h ≡ At at) × (nat_le at now ≡ true)
    by_due Never same is = absurd (false_is is)
    by_due (At at) same is = (at, same, is)

by_now : (now : ℕ) (d : Due) → is_by_now now d ≡ true → (at : ℕ) × (d ≡ At at) × (nat_le at now ≡ true)
by_now now Never is = absurd (false_is is)
by_now now (At at) is = (at, refl, is)

-- what a pod is seen as that is due at a time by what the term has seen of it
pub record SightedDue (doc : Doc) (q : Identity) (pod : Key) (h : List Entry) (at : ℕ) : Type 0 where
  pub kind : is_pod pod.kind ≡ true
  pub fresh : is_stale q pod h ≡ false
  pub x : Version × Pod
  pub sees : seen_pod q pod h ≡ Some x
  pub time : sighted_due doc q pod h ≡ At at

pub due_sighted : (doc : Doc) (q : Identity) (pod : Key) (h : List Entry) (at : ℕ) → due_by evictions.Seen doc q pod h ≡ At at → SightedDue doc q pod h at
due_sighted doc q pod h at is = by_kind (is_pod pod.kind) refl (is_stale q pod h) refl (seen_pod q pod h) refl is
  where
    by_kind : (b : Bool) → is_pod pod.kind ≡ b → (c : Bool) → is_stale q pod h ≡ c → (o : Option (Version × Pod)) → seen_pod q pod h ≡ o → sighted_as (not b || c) o (sighted_due doc q pod h) ≡ At at → SightedDue doc q pod h at
    by_kind false kind c stale o sees time = absurd (cc)
    by_kind true kind true stale o sees time = absurd (cc)
    by_kind true kind false stale None sees time = absurd (cc)
    by_kind true kind false stale (Some x) sees time = record { kind = kind; fresh = stale; x = x; sees = sees; time = time }

pub due_is_pod : (now : ℕ) (q : Identity) (pod : Key) (h : List Entry) → is_by_now now (seen_due q pod h) ≡ true → is_pod pod.kind ≡ true
due_is_pod now q pod h is =
    let found = by_now_seen now q pod h is in
    (due_seen q pod h found.0 found.1).kind

pub due_is_fresh : (now : ℕ) (q : Identity) (pod : Key) (h : List Entry) → is_by_now now (seen_due q pod h) ≡ true → is_stale q pod h ≡ false
due_is_fresh now q pod h is =
    let found = by_now_seen now q pod h is in
    (due_seen q pod h found.0 found.1).fresh

-- the due of a pod that isn't stale
pub due_of : (q : Identity) (pod : Key) (h : List Entry) (x : Version × Pod) (y : Version × Node) → is_pod pod.kind ≡ true → is_stale q pod h ≡ false → seen_pod q pod h ≡ Some x → seen_node q x.1.node h ≡ Some y
    → seen_due q pod h ≡ due x.1 y.1
due_of q pod h x y kind fresh sees sees_node =
    ap (λ b. due_as q (not b || is_stale q pod h) (seen_pod q pod h) h) kind
    ∙ ap (λ b. due_as q b (seen_pod q pod h) h) fresh
    ∙ ap (λ o. due_as q false o h) sees
    ∙ ap (due_on x.1) sees_node

module _ (doc : Doc) (k : ℕ) (q : Identity) where
  -- a pod that isn't due by now adds nothing
  pub evict_idle : (pod : Key) (h : List Entry) → is_pod pod.kind ≡ true → is_by_now (wall doc q.process k) (term_due doc q pod h) ≡ false → evict doc k q pod h ≡ h
  evict_idle pod h kind quiet = by_rule doc.settings.rules.evict_from quiet
    where
      by_due : (given : Version) (node : ℕ) (node_given : Version) (d : Due) → is_by_now (wall doc q.process k) d ≡ false → evict_due doc k q pod given node node_given d h ≡ h
      by_due given node node_given Never quiet = refl
      by_due given node node_given (At at) quiet = ap (λ b. (if b then add_delete k q pod given node node_given at h else h)) quiet

      by_node : (x : Version × Pod) (o : Option (Version × Node)) → is_by_now (wall doc q.process k) (due_on x.1 o) ≡ false → evict_on doc k q pod x o h ≡ h
      by_node x None quiet = refl
      by_node x (Some y) quiet = by_due x.0 x.1.node y.0 (due x.1 y.1) quiet

      by_stale : (b : Bool) (o : Option (Version × Pod)) → is_by_now (wall doc q.process k) (due_as q b o h) ≡ false → evict_seen doc k q pod b o h ≡ h
      by_stale true o quiet = refl
      by_stale false None quiet = refl
      by_stale false (Some x) quiet = by_node x (seen_node q x.1.node h) quiet

      by_sight : (b : Bool) (o : Option (Version × Pod)) (d : Due) → is_by_now (wall doc q.process k) (sighted_as b o d) ≡ false → evict_sighted doc k q pod b o d h ≡ h
      by_sight true o d quiet = refl
      by_sight false None d quiet = refl
      by_sight false (Some x) Never quiet = refl
      by_sight false (Some x) (At at) quiet = ap (λ b. (if b then add k q (Delete pod x.0 no_version at (try_delete_alone q pod x.0 h)) h else h)) quiet

      by_rule : (rule : EvictRule) → is_by_now (wall doc q.process k) (due_by rule doc q pod h) ≡ false → evict_by rule doc k q pod h ≡ h
      by_rule evictions.Added quiet = by_stale (is_stale q pod h) (seen_pod q pod h) (sym (ap (λ b. is_by_now (wall doc q.process k) (due_as q (not b || is_stale q pod h) (seen_pod q pod h) h)) kind) ∙ quiet)
      by_rule evictions.Seen quiet =
          by_sight (is_stale q pod h) (seen_pod q pod h) (sighted_due doc q pod h)
          (sym (ap (λ b. is_by_now (wall doc q.process k) (sighted_as (not b || is_stale q pod h) (seen_pod q pod h) (sighted_due doc q pod h))) kind) ∙ quiet)

  -- one that is due adds a delete
  pub added_adds : (pod : Key) (h : List Entry) (at : ℕ) (s : SeenDue q pod h at) → nat_le at (wall doc q.process k) ≡ true
      → evict_by evictions.Added doc k q pod h ≡ add k q (Delete pod s.x.0 s.y.0 at (try_delete q pod s.x.0 s.x.1.node s.y.0 h)) h
  added_adds pod h at s now =
      ap (λ b. evict_seen doc k q pod b (seen_pod q pod h) h) s.fresh
      ∙ ap (λ o. evict_seen doc k q pod false o h) s.sees
      ∙ ap (λ o. evict_on doc k q pod s.x o h) s.sees_node
      ∙ ap (λ d. evict_due doc k q pod s.x.0 s.x.1.node s.y.0 d h) s.time
      ∙ ap (λ b. (if b then add_delete k q pod s.x.0 s.x.1.node s.y.0 at h else h)) now

  pub sighted_adds : (pod : Key) (h : List Entry) (at : ℕ) (s : SightedDue doc q pod h at) → nat_le at (wall doc q.process k) ≡ true
      → evict_by evictions.Seen doc k q pod h ≡ add k q (Delete pod s.x.0 no_version at (try_delete_alone q pod s.x.0 h)) h
  sighted_adds pod h at s now =
      ap (λ b. evict_sighted doc k q pod b (seen_pod q pod h) (sighted_due doc q pod h) h) s.fresh
      ∙ ap (λ o. evict_sighted doc k q pod false o (sighted_due doc q pod h) h) s.sees
      ∙ ap (λ d. evict_sighted doc k q pod false (Some s.x) d h) s.time
      ∙ ap (λ b. (if b then add k q (Delete pod s.x.0 no_version at (try_delete_alone q pod s.x.0 h)) h else h)) now

  -- some delete of it, by whichever rule
  pub record Deletes (pod : Key) (h g : List Entry) : Type 0 where
    pub given : Version
    pub node_given : Version
    pub at : ℕ
    pub tried : Option Answer
    pub is : g ≡ add k q (Delete pod given node_given at tried) h

  pub evict_adds : (pod : Key) (h : List Entry) → is_by_now (wall doc q.process k) (term_due doc q pod h) ≡ true → Deletes pod h (evict doc k q pod h)
  evict_adds pod h now = by_rule doc.settings.rules.evict_from now
    where
      by_rule : (rule : EvictRule) → is_by_now (wall doc q.process k) (due_by rule doc q pod h) ≡ true → Deletes pod h (evict_by rule doc k q pod h)
      by_rule evictions.Added now =
          let found = by_now (wall doc q.process k) (seen_due q pod h) now in
          let s = due_seen q pod h found.0 found.1 in
          record { given = s.x.0; node_given = s.y.0; at = found.0; tried = try_delete q pod s.x.0 s.x.1.node s.y.0 h; is = added_adds pod h found.0 s found.2 }
      by_rule evictions.Seen now =
          let found = by_now (wall doc q.process k) (due_by evictions.Seen doc q pod h) now in
          let s = due_sighted doc q pod h found.0 found.1 in
          record { given = s.x.0; node_given = no_version; at = found.0; tried = try_delete_alone q pod s.x.0 h; is = sighted_adds pod h found.0 s found.2 }

  -- the same from what is seen
  pub due_adds : (pod : Key) (h : List Entry) (x : Version × Pod) (y : Version × Node) (at : ℕ) → is_by_now (wall doc q.process k) (seen_due q pod h) ≡ true → seen_pod q pod h ≡ Some x → seen_node q x.1.node h ≡ Some y
      → due x.1 y.1 ≡ At at → evict_by evictions.Added doc k q pod h ≡ add k q (Delete pod x.0 y.0 at (try_delete q pod x.0 x.1.node y.0 h)) h
  due_adds pod h x y at now sees sees_node time =
      let kind = due_is_pod (wall doc q.process k) q pod h now in
      let fresh = due_is_fresh (wall doc q.process k) q pod h now in
      added_adds pod h at (record { kind = kind; fresh = fresh; x = x; sees = sees; y = y; sees_node = sees_node; time = time })
      (ap (is_by_now (wall doc q.process k)) (sym (due_of q pod h x y kind fresh sees sees_node ∙ time)) ∙ now)

  -- an eviction leaves the history, or adds one delete of the pod
  pub evict_either : (pod : Key) (h : List Entry) (P : List Entry → Type 0) → P h → ((given node_given : Version) (at : ℕ) (a : Option Answer) → P (add k q (Delete pod given node_given at a) h)) → P (evict doc k q pod h)
  evict_either pod h P same more = by_rule doc.settings.rules.evict_from
    where
      by_alone : (x : Version × Pod) (at : ℕ) (b : Bool) → P (if b then add k q (Delete pod x.0 no_version at (try_delete_alone q pod x.0 h)) h else h)
      by_alone x at true = more x.0 no_version at (try_delete_alone q pod x.0 h)
      by_alone x at false = same

      by_sight : (b : Bool) (o : Option (Version × Pod)) (d : Due) → P (evict_sighted doc k q pod b o d h)
      by_sight true o d = same
      by_sight false None d = same
      by_sight false (Some x) Never = same
      by_sight false (Some x) (At at) = by_alone x at (nat_le at (wall doc q.process k))

      by_test : (given : Version) (node : ℕ) (node_given : Version) (at : ℕ) (b : Bool) → P (if b then add_delete k q pod given node node_given at h else h)
      by_test given node node_given at true = more given node_given at (try_delete q pod given node node_given h)
      by_test given node node_given at false = same

      by_due : (given : Version) (node : ℕ) (node_given : Version) (d : Due) → P (evict_due doc k q pod given node node_given d h)
      by_due given node node_given Never = same
      by_due given node node_given (At at) = by_test given node node_given at (nat_le at (wall doc q.process k))

      by_node : (x : Version × Pod) (o : Option (Version × Node)) → P (evict_on doc k q pod x o h)
      by_node x None = same
      by_node x (Some y) = by_due x.0 x.1.node y.0 (due x.1 y.1)

      by_stale : (b : Bool) (o : Option (Version × Pod)) → P (evict_seen doc k q pod b o h)
      by_stale true o = same
      by_stale false None = same
      by_stale false (Some x) = by_node x (seen_node q x.1.node h)

      by_rule : (rule : EvictRule) → P (evict_by rule doc k q pod h)
      by_rule evictions.Added = by_stale (is_stale q pod h) (seen_pod q pod h)
      by_rule evictions.Seen = by_sight (is_stale q pod h) (seen_pod q pod h) (sighted_due doc q pod h)

  pub evict_others : (pod : Key) (h : List Entry) → is_pod pod.kind ≡ true → (key : Key) → key_eq pod key ≡ false → term_due doc q key (evict doc k q pod h) ≡ term_due doc q key h
  evict_others pod h kind key apart =
      evict_either pod h (λ g. term_due doc q key g ≡ term_due doc q key h) refl (λ given node_given at a. by_rule given node_given at a doc.settings.rules.evict_from)
    where
      by_rule : (given node_given : Version) (at : ℕ) (a : Option Answer) (rule : EvictRule) → due_by rule doc q key (add k q (Delete pod given node_given at a) h) ≡ due_by rule doc q key h
      by_rule given node_given at a evictions.Added = deleted_due q h (add k q (Delete pod given node_given at a) h) pod a (delete_change q k h pod given node_given at a) kind key apart
      by_rule given node_given at a evictions.Seen = deleted_sighted doc q k h pod given node_given at a kind key apart

  -- ---- the walk over the pods that are due; h is the history at the phase's start, and now the one that is reached

  pub evict_next : (c : Option Key) (n : Key) (h now : List Entry) → is_after key_cmp c n ≡ true → Among n (pod_keys h)
      → ((key : Key) → is_after key_cmp c key ≡ true → key_cmp key n ≡ Less → is_by_now (wall doc q.process k) (term_due doc q key now) ≡ false)
      → for_each (evict doc k q) (after key_cmp c (pod_keys h)) now ≡ for_each (evict doc k q) (after key_cmp (Some n) (pod_keys h)) (evict doc k q n now)
  evict_next c n h now later there idle =
      walk_next_among key_cmp keys_strict (evict doc k q) c n (pod_keys h) now later (pod_keys_ascend h) there
      (λ key at after_c below. evict_idle key now (pod_kinds h key at) (idle key after_c below))

  pub evict_end : (c : Option Key) (h now : List Entry) → ((key : Key) → is_after key_cmp c key ≡ true → is_by_now (wall doc q.process k) (term_due doc q key now) ≡ false)
      → for_each (evict doc k q) (after key_cmp c (pod_keys h)) now ≡ now
  evict_end c h now idle =
      walk_end_among key_cmp keys_strict (evict doc k q) c (pod_keys h) now (pod_keys_ascend h) (λ key at after_c. evict_idle key now (pod_kinds h key at) (idle key after_c))

-- ---- the dues of pods, in order

module _ (doc : Doc) (q : Identity) (h : List Entry) where
  -- a pod that the term would delete is among them
  pub due_among : (pod : Key) (now : ℕ) → is_by_now now (term_due doc q pod h) ≡ true → (at : ℕ) × Among pod (pod_keys h) × Among (at, pod) (dues doc q (pod_keys h) h)
  due_among pod now is =
      let found = by_rule doc.settings.rules.evict_from is in
      (found.0, found.1, pods_of_dues doc q h (pod_keys h) pod found.0 found.2 found.1)
    where
      by_rule : (rule : EvictRule) → is_by_now now (due_by rule doc q pod h) ≡ true → (at : ℕ) × Among pod (pod_keys h) × (model.due_by rule doc q pod h ≡ At at)
      by_rule evictions.Added is =
          let found = by_now_seen now q pod h is in
          let s = due_seen q pod h found.0 found.1 in
          (found.0, pod_is_named q pod h s.x s.kind s.sees, ap (λ o. model.due_seen q o h) s.sees ∙ ap (model.due_on_seen s.x.1) s.sees_node ∙ s.time)
      by_rule evictions.Seen is =
          let found = by_now now (due_by evictions.Seen doc q pod h) is in
          let s = due_sighted doc q pod h found.0 found.1 in
          (found.0, pod_is_named q pod h s.x s.kind s.sees, s.time)

-- without a limit each pod has its turn, in order
pub evicted_free : (doc : Doc) → doc.settings.rules.evict_burst ≡ 0 → (k : ℕ) (q : Identity) (h : List Entry) → evicted doc k q h ≡ for_each (evict doc k q) (pod_keys h) h
evicted_free doc free k q h =
    ap (λ n. elim (n == 0) [ true ↦ for_each (evict doc k q) (pod_keys h) h | false ↦ for_each (evict_within doc k q) (dues doc q (pod_keys h) h) h ]) free

-- only a pod's key is ever due, and never a stale one
pub term_is_pod : (doc : Doc) (now : ℕ) (q : Identity) (pod : Key) (h : List Entry) → is_by_now now (term_due doc q pod h) ≡ true → is_pod pod.kind ≡ true
term_is_pod doc now q pod h = by_rule doc.settings.rules.evict_from
  where
    by_rule : (rule : EvictRule) → is_by_now now (due_by rule doc q pod h) ≡ true → is_pod pod.kind ≡ true
    by_rule evictions.Added is = due_is_pod now q pod h is
    by_rule evictions.Seen is =
        let found = by_now now (due_by evictions.Seen doc q pod h) is in
        (due_sighted doc q pod h found.0 found.1).kind
