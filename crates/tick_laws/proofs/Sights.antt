-- What a term has last seen of pods, within a tick, and what a delete leaves of it.
use Rattle.std.specs.Prelude.{if◌then◌else◌}
use Rattle.std.proofs.Common.{◌≡◌, ◌∙◌, ◌⊎◌, inl, inr, ℕ, ◌&&◌, ◌||◌, not, Bool, true, false, cond, List, ◌∷◌, Option, Some, None, refl, sym, ap}
use Rattle.kube_base.specs.declared.numbers.Version.{Version}
use Rattle.kube_objects.specs.declared.call.Answer.{Answer}
use Rattle.kube_objects.specs.declared.call.Answer.TheVariants as answer
use Rattle.kube_objects.specs.declared.key.Key.{Key}
use Rattle.kube_objects.specs.declared.node.Node.{Node}
use Rattle.kube_objects.specs.declared.object.Object.{Object}
use Rattle.kube_objects.specs.declared.object.Object.TheVariants as object
use Rattle.kube_objects.specs.declared.pod.Bears.{Bears}
use Rattle.kube_objects.specs.declared.pod.Bears.TheVariants.{Untainted}
use Rattle.kube_objects.specs.declared.pod.Due.TheVariants.{Never}
use Rattle.kube_objects.specs.declared.pod.Pod.{Pod}
use Rattle.kube_objects.specs.declared.rules.EvictRule.{EvictRule}
use Rattle.kube_objects.specs.declared.rules.EvictRule.TheVariants as evictions
use Rattle.kube_objects.specs.Answers.{node_in}
use Rattle.kube_objects.specs.Document.{Doc}
use Rattle.kube_objects.specs.Entry.{Entry, Identity, Tick, Sync, Mark, Untaint, Swap, Head, Delete}
use Rattle.kube_objects.specs.InForce.{watches}
use Rattle.kube_objects.specs.Keys.{key_eq}
use Rattle.kube_objects.specs.Newest.{newest, only_if, or_else}
use Rattle.kube_objects.specs.Seen.{pod_in, seen_node, seen_pod, is_accepted, is_fresh, is_pod, is_refused, is_stale}
use Rattle.kube_objects.specs.Sightings.{bears_on, is_own_tick, last_sight, row, row_at, sight, sighted_due, sighted_pod}
use Rattle.kube_objects.specs.Stored.{Write, next_version, node_key, node_write, tick_write}
use Rattle.kube_objects.specs.Tainting.{before_tick}
use Rattle.kube_objects.specs.Tick.{add, cleaned, has_settled, pass, sync, tainted}
use Rattle.kube_objects.proofs.KeyOrder.{key_itself}
use Rattle.history_laws.proofs.Plainly.{false_is, none_is, upper}
use Rattle.history_laws.proofs.Sightings.{and_out, row_more, sight_apart, sight_last, sighted_same}
use Rattle.history_laws.proofs.Ticks.{is_cleaning, is_heading}
use Rattle.tick_laws.specs.Changes.{after_write, wrote_as}
use Rattle.tick_laws.specs.Judged.{shown, sighted_as, due_by, term_due}
use Rattle.tick_laws.specs.Sights.{AreSightsKept}
use Rattle.tick_laws.proofs.Frames.{delete_change, gone_pod, node_shown, own_shown, pod_shown, same_node, same_pod}
use Rattle.tick_laws.proofs.Phases.{is_passing, pass_keeps, cleaned_keeps, tainted_keeps}
use Rattle.tick_laws.proofs.Ticked.{own_before}
use Rattle.tick_laws.proofs.Tried.{same_dues}
use Rattle.watch_cache.specs.Kept.{of_kind}
use Rattle.watch_cache.proofs.Ticks.{is_sync, same_self}

abbrev latest_sight : Identity → Key → List Entry → Option Bears
latest_sight q pod = newest (λ e T. only_if (is_own_tick q e.actor e.fact) (sight q pod (e ∷ T)))

-- ---- an entry that writes a node, or nothing

-- neither a sync nor a delete
abbrev is_between : Tick → Bool
is_between Sync = false
is_between (Delete pod given node_given at a) = false
is_between t = true

between_unsynced : (t : Tick) → is_between t ≡ true → is_sync t ≡ false
between_unsynced Sync is = absurd (false_is is)
between_unsynced t is = refl

-- it wrote nothing, or a node
abbrev WritesNode : Option Write → Type 0
WritesNode o = (o ≡ None) ⊎ ((name : ℕ) × (node : Node) × (o ≡ Some (node_write name node)))

between_writes : (t : Tick) → is_between t ≡ true → WritesNode (tick_write t)
between_writes t is = by_tick t is
  where
    by_answer : (name : ℕ) (node : Node) (a : Option Answer) → WritesNode (tick_write (Mark name (record { 0 = 0 }) node a))
    by_answer name node None = inl refl
    by_answer name node (Some (answer.Done v)) = inr (name, node, refl)
    by_answer name node (Some answer.Absent) = inl refl
    by_answer name node (Some answer.Exists) = inl refl
    by_answer name node (Some (answer.Conflict v)) = inl refl

    by_tick : (t : Tick) → is_between t ≡ true → WritesNode (tick_write t)
    by_tick Sync is = absurd (false_is is)
    by_tick (Delete pod given node_given at a) is = absurd (false_is is)
    by_tick (Mark name given node a) is = by_answer name node a
    by_tick (Untaint name given node a) is = by_answer name node a
    by_tick (Swap name wanted given node a) is = by_answer name node a
    by_tick (Head place name wanted given node a) is = by_answer name node a
    by_tick t is = inl refl

module _ (q : Identity) (k : ℕ) (pod : Key) (h : List Entry) (t : Tick) (between : is_between t ≡ true) where
  abbrev now : List Entry
  now = add k q t h

  -- a pod whose node isn't seen
  record Unseen : Type 0 where
    x : Version × Pod
    sees : seen_pod q pod now ≡ Some x
    no_node : seen_node q x.1.node now ≡ None

  unseen : sight q pod now ≡ None → Unseen
  unseen none = by_pod (seen_pod q pod now) refl none
    where
      by_node : (x : Version × Pod) → seen_pod q pod now ≡ Some x → (o : Option (Version × Node)) → seen_node q x.1.node now ≡ o → bears_on x.1 o ≡ None → Unseen
      by_node x sees None is none = record { x = x; sees = sees; no_node = is }
      by_node x sees (Some y) is none = absurd (cc)

      by_pod : (o : Option (Version × Pod)) → seen_pod q pod now ≡ o → sighted_pod q o now ≡ None → Unseen
      by_pod None sees none = absurd (cc)
      by_pod (Some x) sees none = by_node x sees (seen_node q x.1.node now) refl none

  -- wasn't seen before the entry either
  sight_none : (x : Version × Pod) → seen_pod q pod h ≡ Some x → seen_node q x.1.node h ≡ None → sight q pod h ≡ None
  sight_none x sees no_node = ap (λ o. sighted_pod q o h) sees ∙ ap (bears_on x.1) no_node

  written_at : (o : Option Write) → tick_write t ≡ o → (key : Key) → shown q key now ≡ after_write (wrote_as h o) key (shown q key h)
  written_at o is key = own_shown q k h t (between_unsynced t between) key ∙ ap (λ o. after_write (wrote_as h o) key (shown q key h)) is

  by_nothing : tick_write t ≡ None → Unseen → sight q pod h ≡ None
  by_nothing is u =
      sight_none u.x (sym (same_pod q pod h now (written_at None is pod)) ∙ u.sees)
      (sym (same_node q u.x.1.node h now (written_at None is (node_key u.x.1.node))) ∙ u.no_node)

  module _ (name : ℕ) (node : Node) (is : tick_write t ≡ Some (node_write name node)) where
    abbrev With : Bool → Key → Option (Version × Object)
    With b key = cond b (Some (next_version h, object.Node node)) (shown q key h)

    at_key : (key : Key) → shown q key now ≡ With (key_eq (node_key name) key) key
    at_key key = written_at (Some (node_write name node)) is key

    by_pod : (u : Unseen) → seen_pod q pod h ≡ Some u.x
    by_pod u = by_test (key_eq (node_key name) pod) refl
      where
        by_test : (b : Bool) → key_eq (node_key name) pod ≡ b → seen_pod q pod h ≡ Some u.x
        by_test true same = absurd (none_is u.x (sym (ap (of_kind pod_in) (at_key pod ∙ ap (λ b. With b pod) same)) ∙ pod_shown q pod now ∙ u.sees))
        by_test false apart = sym (same_pod q pod h now (at_key pod ∙ ap (λ b. With b pod) apart)) ∙ u.sees

    by_node : (u : Unseen) → seen_node q u.x.1.node h ≡ None
    by_node u = by_test (key_eq (node_key name) (node_key u.x.1.node)) refl
      where
        m : ℕ
        m = u.x.1.node

        by_test : (b : Bool) → key_eq (node_key name) (node_key m) ≡ b → seen_node q m h ≡ None
        by_test true same =
            absurd (none_is (next_version h, node) (sym u.no_node ∙ sym (node_shown q m now) ∙ ap (of_kind node_in) (at_key (node_key m) ∙ ap (λ b. With b (node_key m)) same)))
        by_test false apart = sym (same_node q m h now (at_key (node_key m) ∙ ap (λ b. With b (node_key m)) apart)) ∙ u.no_node

    by_write : Unseen → sight q pod h ≡ None
    by_write u = sight_none u.x (by_pod u) (by_node u)

  still_unseen : sight q pod now ≡ None → sight q pod h ≡ None
  still_unseen none = by_writes (between_writes t between)
    where
      by_writes : WritesNode (tick_write t) → sight q pod h ≡ None
      by_writes (inl is) = by_nothing is (unseen none)
      by_writes (inr w) = by_write w.0 w.1 w.2 (unseen none)

-- ---- what was last seen of a pod whose node isn't seen

last_unseen : (q : Identity) (k : ℕ) (pod : Key) (h : List Entry) (t : Tick) → sight q pod (add k q t h) ≡ None → last_sight q pod (add k q t h) ≡ last_sight q pod h
last_unseen q k pod h t none =
    ap (λ b. or_else Untainted (upper (only_if b (sight q pod (add k q t h))) (latest_sight q pod h))) (same_self q) ∙ ap (λ o. or_else Untainted (upper o (latest_sight q pod h))) none

pub sights_start : (q : Identity) (k : ℕ) (h : List Entry) → before_tick q k h ≡ h → AreSightsKept q k h
sights_start q k h start pod none = ap (last_sight q pod) (sym start)

pub sights_more : (q : Identity) (k : ℕ) (h : List Entry) (t : Tick) → is_between t ≡ true → AreSightsKept q k h → AreSightsKept q k (add k q t h)
sights_more q k h t between kept pod none =
    last_unseen q k pod h t none ∙ kept pod (still_unseen q k pod h t between none) ∙ ap (last_sight q pod) (sym (own_before q k t h))

pub sights_synced : (q : Identity) (k : ℕ) (h : List Entry) → before_tick q k h ≡ h → AreSightsKept q k (add k q Sync h)
sights_synced q k h start pod none = last_unseen q k pod h Sync none ∙ ap (last_sight q pod) (sym (own_before q k Sync h ∙ start))

passing_between : (t : Tick) → is_passing t ≡ true → is_between t ≡ true
passing_between Sync is = absurd (false_is is)
passing_between (Delete pod given node_given at a) is = absurd (false_is is)
passing_between t is = refl

cleaning_between : (t : Tick) → is_cleaning t ≡ true → is_between t ≡ true
cleaning_between Sync is = absurd (false_is is)
cleaning_between (Delete pod given node_given at a) is = absurd (false_is is)
cleaning_between t is = refl

heading_between : (t : Tick) → is_heading t ≡ true → is_between t ≡ true
heading_between Sync is = absurd (false_is is)
heading_between (Delete pod given node_given at a) is = absurd (false_is is)
heading_between t is = refl

module _ (doc : Doc) (k : ℕ) (q : Identity) where
  pub sync_sights : (h : List Entry) → before_tick q k h ≡ h → AreSightsKept q k (sync doc k q h)
  sync_sights h start = by_test (has_settled doc k q h && (watches doc q.process h && not (is_fresh q h)))
    where
      by_test : (b : Bool) → AreSightsKept q k (if b then add k q Sync h else h)
      by_test true = sights_synced q k h start
      by_test false = sights_start q k h start

  pub pass_sights : (h : List Entry) → AreSightsKept q k h → AreSightsKept q k (pass doc k q h)
  pass_sights h kept = pass_keeps doc k q (AreSightsKept q k) (λ t g is s. sights_more q k g t (passing_between t is) s) h kept

  pub cleaned_sights : (h : List Entry) → AreSightsKept q k h → AreSightsKept q k (cleaned doc k q h)
  cleaned_sights h kept = cleaned_keeps doc k q (AreSightsKept q k) (λ t g is made s. sights_more q k g t (cleaning_between t is) s) h kept

  pub tainted_sights : (h : List Entry) → AreSightsKept q k h → AreSightsKept q k (tainted doc k q h)
  tainted_sights h kept = tainted_keeps doc k q (AreSightsKept q k) (λ t g is made s. sights_more q k g t (heading_between t is) s) h kept

  -- where the deletes begin
  pub sights_before_deletes : (h : List Entry) → before_tick q k h ≡ h → AreSightsKept q k (tainted doc k q (cleaned doc k q (pass doc k q (sync doc k q h))))
  sights_before_deletes h start =
      let a = sync doc k q h in
      let b = pass doc k q a in
      let c = cleaned doc k q b in
      tainted_sights c (cleaned_sights b (pass_sights a (sync_sights h start)))

-- ---- what is due by what the term has seen, and what never is

pub unseen_unsighted : (doc : Doc) (q : Identity) (key : Key) (h : List Entry) → seen_pod q key h ≡ None → due_by evictions.Seen doc q key h ≡ Never
unseen_unsighted doc q key h is = ap (λ o. sighted_as (not (is_pod key.kind) || is_stale q key h) o (sighted_due doc q key h)) is ∙ by_stale (not (is_pod key.kind) || is_stale q key h)
  where
    by_stale : (b : Bool) → sighted_as b None (sighted_due doc q key h) ≡ Never
    by_stale true = refl
    by_stale false = refl

pub stale_unsighted : (doc : Doc) (q : Identity) (key : Key) (h : List Entry) → is_stale q key h ≡ true → due_by evictions.Seen doc q key h ≡ Never
stale_unsighted doc q key h is = ap (λ b. sighted_as (not (is_pod key.kind) || b) (seen_pod q key h) (sighted_due doc q key h)) is ∙ by_kind (is_pod key.kind)
  where
    by_kind : (b : Bool) → sighted_as (not b || true) (seen_pod q key h) (sighted_due doc q key h) ≡ Never
    by_kind true = refl
    by_kind false = refl

pub no_pod_unsighted : (doc : Doc) (q : Identity) (key : Key) (h : List Entry) → is_pod key.kind ≡ false → due_by evictions.Seen doc q key h ≡ Never
no_pod_unsighted doc q key h is = ap (λ b. sighted_as (not b || is_stale q key h) (seen_pod q key h) (sighted_due doc q key h)) is

-- ---- after a try to delete a pod

module _ (q : Identity) (k : ℕ) (h : List Entry) (pod : Key) (given node_given : Version) (at : ℕ) (kind : is_pod pod.kind ≡ true) where
  -- a row stays, but for that of the pod that is gone
  pub deleted_row : (a : Option Answer) (key : Key) → (is_accepted a && key_eq pod key) ≡ false → row q key (add k q (Delete pod given node_given at a) h) ≡ row q key h
  deleted_row a key out = row_more q key k (Delete pod given node_given at a) h (sight_apart q key k pod given node_given at a h kind out)

  pub others_row : (a : Option Answer) (key : Key) → key_eq pod key ≡ false → row q key (add k q (Delete pod given node_given at a) h) ≡ row q key h
  others_row a key apart = deleted_row a key (and_out (is_accepted a) (key_eq pod key) apart)

  module _ (v : Version) where
    abbrev gone : List Entry
    gone = add k q (Delete pod given node_given at (Some (answer.Done v))) h

    pub gone_unseen : seen_pod q pod gone ≡ None
    gone_unseen =
        gone_pod q h gone pod None (delete_change q k h pod given node_given at (Some (answer.Done v))) pod
        ∙ ap (λ b. cond b None (seen_pod q pod h)) (key_itself pod)

    pub gone_row : row q pod gone ≡ None
    gone_row = ap (λ b. row_at q pod b gone) (sight_last q pod gone Untainted (ap (λ o. sighted_pod q o gone) gone_unseen))

    pub gone_unsighted : (doc : Doc) → due_by evictions.Seen doc q pod gone ≡ Never
    gone_unsighted doc = unseen_unsighted doc q pod gone gone_unseen

  -- a refused one
  pub refused_unsighted : (doc : Doc) (a : Option Answer) → is_refused a ≡ true → due_by evictions.Seen doc q pod (add k q (Delete pod given node_given at a) h) ≡ Never
  refused_unsighted doc a refused = stale_unsighted doc q pod (add k q (Delete pod given node_given at a) h) (by_answer a refused)
    where
      by_answer : (a : Option Answer) → is_refused a ≡ true → is_stale q pod (add k q (Delete pod given node_given at a) h) ≡ true
      by_answer None is = absurd (false_is is)
      by_answer (Some (answer.Done v)) is = absurd (false_is is)
      by_answer (Some answer.Absent) is = (delete_change q k h pod given node_given at (Some answer.Absent)).stale pod ∙ ap (λ b. b || is_stale q pod h) (key_itself pod)
      by_answer (Some answer.Exists) is = (delete_change q k h pod given node_given at (Some answer.Exists)).stale pod ∙ ap (λ b. b || is_stale q pod h) (key_itself pod)
      by_answer (Some (answer.Conflict v)) is = (delete_change q k h pod given node_given at (Some (answer.Conflict v))).stale pod ∙ ap (λ b. b || is_stale q pod h) (key_itself pod)

  -- a lost one changes nothing
  pub lost_due : (doc : Doc) (key : Key) → term_due doc q key (add k q (Delete pod given node_given at None) h) ≡ term_due doc q key h
  lost_due doc key = by_rule doc.settings.rules.evict_from
    where
      lost : List Entry
      lost = add k q (Delete pod given node_given at None) h

      same_sighted : due_by evictions.Seen doc q key lost ≡ due_by evictions.Seen doc q key h
      same_sighted =
          let s = delete_change q k h pod given node_given at None in
          ap (λ b. sighted_as (not (is_pod key.kind) || b) (seen_pod q key lost) (sighted_due doc q key lost)) (s.stale key)
          ∙ ap (λ o. sighted_as (not (is_pod key.kind) || is_stale q key h) o (sighted_due doc q key lost)) (same_pod q key h lost (s.shown key))
          ∙ ap (sighted_as (not (is_pod key.kind) || is_stale q key h) (seen_pod q key h)) (sighted_same doc q key k pod given node_given at None h kind refl)

      by_rule : (rule : EvictRule) → due_by rule doc q key lost ≡ due_by rule doc q key h
      by_rule evictions.Added = same_dues q h lost (delete_change q k h pod given node_given at None) key
      by_rule evictions.Seen = same_sighted
