-- What an own entry of a tick changes of the readings of a term.
use Rattle.std.proofs.Common.{◌≡◌, ◌∙◌, ℕ, ◌==◌, ◌||◌, not, Bool, true, false, cond, List, Option, Some, None, refl, sym, ap, subst, arith}
use Rattle.std.proofs.lemmas.Bool.Decides.{nat_tests}
use Rattle.kube_base.specs.declared.numbers.Version.{Version}
use Rattle.kube_objects.specs.declared.call.Answer.{Answer}
use Rattle.kube_objects.specs.declared.call.Answer.TheVariants as answer
use Rattle.kube_objects.specs.declared.call.Reply.{Reply}
use Rattle.kube_objects.specs.declared.call.Reply.TheVariants as reply
use Rattle.kube_objects.specs.declared.key.Key.{Key}
use Rattle.kube_objects.specs.declared.node.Node.{Node}
use Rattle.kube_objects.specs.declared.node.ZoneState.{ZoneState}
use Rattle.kube_objects.specs.declared.object.Object.{Object}
use Rattle.kube_objects.specs.declared.object.Object.TheVariants as object
use Rattle.kube_objects.specs.Answers.{as_kind, node_in, answer_update}
use Rattle.kube_objects.specs.Deletes.{answer_delete, delete_over, delete_at_node}
use Rattle.kube_objects.specs.Entry.{Entry, Identity, Place, Ticks, Tick, Sync, Pass, Mark, Mode, Zone, Untaint, Swap, Head, Delete, actor_of}
use Rattle.kube_objects.specs.Keys.{key_eq}
use Rattle.kube_objects.specs.Modes.{mode, mode_says}
use Rattle.kube_objects.specs.Newest.{newest, when, only_if, join, or_else, or_zero}
use Rattle.kube_objects.specs.Seen.{tick_shows, pod_in, seen, seen_node, seen_pod, synced_says, is_synced, is_stale, stale_tick, is_pod}
use Rattle.kube_objects.specs.Stored.{Held, Write, holds, at_key, tick_write, next_version, node_key, stored}
use Rattle.kube_objects.specs.Tick.{add}
use Rattle.kube_objects.specs.Tries.{as_answer, tried, try_node, try_delete}
use Rattle.kube_objects.specs.Wire.{loses_requests}
use Rattle.kube_objects.proofs.KeyOrder.{same_key}
use Rattle.history_laws.proofs.Plainly.{none_is, false_is}
use Rattle.tick_laws.specs.Judged.{shown}
use Rattle.tick_laws.specs.Changes.{after_write, is_that, IsChange, IsSame, IsModeChange, with_version, wrote_as, noted, gone, noted_by, gone_by, refused_by, IsGiven, IsTryOn, IsCleaningOn, IsMildOn}
use Rattle.watch_cache.specs.Kept.{kept, of_kind}
use Rattle.watch_cache.specs.Stands.{sync_says, synced_writes, refused_key}
use Rattle.watch_cache.proofs.Frames.{upper, last_seen, last_stale, last_synced, last_sync}
use Rattle.watch_cache.proofs.Ticks.{is_sync, marks, same_self, shows_written, stales_refused}

abbrev pub last_mode : Identity → List Entry → Option Bool
last_mode q = newest (λ e T. mode_says q e.actor e.fact)

-- ---- an own entry that is neither a sync nor a change of the mode

module _ (q : Identity) (k : ℕ) (h : List Entry) (t : Tick) where
  pub own_seen : (key : Key) → seen q key (add k q t h) ≡ join (upper (tick_shows key k (actor_of q) t h) (last_seen q key h))
  own_seen key = ap (λ b. join (upper (only_if b (tick_shows key k (actor_of q) t h)) (last_seen q key h))) (same_self q)

  pub own_stale : (key : Key) → is_stale q key (add k q t h) ≡ or_else false (upper (stale_tick key t) (last_stale q key h))
  own_stale key = ap (λ b. or_else false (upper (only_if b (stale_tick key t)) (last_stale q key h))) (same_self q)

  pub own_shown : is_sync t ≡ false → (key : Key) → shown q key (add k q t h) ≡ after_write (wrote_as h (tick_write t)) key (shown q key h)
  own_shown other key =
      ap kept (own_seen key)
      ∙ ap (λ o. kept (join (upper o (last_seen q key h)))) (shows_written key k (actor_of q) t h other)
      ∙ by_write (tick_write t)
    where
      by_test : (b : Bool) (o : Option Object) → kept (join (upper (holds h k (actor_of q) (when b o)) (last_seen q key h))) ≡ cond b (with_version (next_version h) o) (shown q key h)
      by_test true None = refl
      by_test true (Some x) = refl
      by_test false o = refl

      by_write : (o : Option Write) → kept (join (upper (holds h k (actor_of q) (at_key key o)) (last_seen q key h))) ≡ after_write (wrote_as h o) key (shown q key h)
      by_write None = refl
      by_write (Some w) = by_test (key_eq w.0 key) w.1

  pub own_refused : is_sync t ≡ false → (key : Key) → is_stale q key (add k q t h) ≡ (is_that (refused_key t) key || is_stale q key h)
  own_refused other key =
      own_stale key
      ∙ ap (λ o. or_else false (upper o (last_stale q key h))) (stales_refused key t other)
      ∙ by_key (refused_key t)
    where
      by_test : (b : Bool) → or_else false (upper (when b true) (last_stale q key h)) ≡ (b || is_stale q key h)
      by_test true = refl
      by_test false = refl

      by_key : (o : Option Key) → or_else false (upper (marks key o) (last_stale q key h)) ≡ (is_that o key || is_stale q key h)
      by_key None = refl
      by_key (Some other) = by_test (key_eq other key)

  pub own_position : is_sync t ≡ false → synced_writes q (add k q t h) ≡ synced_writes q h
  own_position other = ap (λ o. or_zero (upper o (last_sync q h))) (by_tick t other)
    where
      by_tick : (t : Tick) → is_sync t ≡ false → sync_says q (actor_of q) (Ticks t) h ≡ None
      by_tick Sync is = absurd (false_is (sym is))
      by_tick t is = refl

  pub own_synced : is_sync t ≡ false → is_synced q (add k q t h) ≡ is_synced q h
  own_synced other = ap (λ o. or_else false (upper o (last_synced q h))) (by_tick t other)
    where
      by_tick : (t : Tick) → is_sync t ≡ false → synced_says q (actor_of q) (Ticks t) ≡ None
      by_tick Sync is = absurd (false_is (sym is))
      by_tick t is = refl

  pub own_mode : mode_says q (actor_of q) (Ticks t) ≡ None → mode q (add k q t h) ≡ mode q h
  own_mode silent = ap (λ o. or_else false (upper o (last_mode q h))) silent

  pub own_change : is_sync t ≡ false → mode_says q (actor_of q) (Ticks t) ≡ None → IsChange q h (add k q t h) (wrote_as h (tick_write t)) (refused_key t)
  own_change other silent =
      record {
        shown = own_shown other;
        stale = own_refused other;
        mode = own_mode silent;
        position = own_position other;
        synced = own_synced other;
      }

-- a pass, and a zone's entry
pub pass_change : (q : Identity) (k : ℕ) (h : List Entry) → IsSame q h (add k q Pass h)
pass_change q k h = own_change q k h Pass refl refl

pub zone_change : (q : Identity) (k : ℕ) (h : List Entry) (place : Place) (state : ZoneState) (rate : ℕ) → IsSame q h (add k q (Zone place state rate) h)
zone_change q k h place state rate = own_change q k h (Zone place state rate) refl refl

pub mode_change : (q : Identity) (k : ℕ) (h : List Entry) (on : Bool) → IsModeChange q h (add k q (Mode on) h) on
mode_change q k h on =
    record {
      shown = own_shown q k h (Mode on) refl;
      stale = own_refused q k h (Mode on) refl;
      mode = ap (λ b. or_else false (upper (when b on) (last_mode q h))) (same_self q);
      position = own_position q k h (Mode on) refl;
      synced = own_synced q k h (Mode on) refl;
    }

-- ---- tries, by their answers

-- what says nothing of whether there was a sync is none
pub unsynced : (q : Identity) (t : Tick) → synced_says q (actor_of q) (Ticks t) ≡ None → is_sync t ≡ false
unsynced q Sync is = absurd (none_is true (sym is ∙ ap (λ b. when b true) (same_self q)))
unsynced q t is = refl

noted_is : (h : List Entry) (name : ℕ) (written : Node) (o : Option Write) (a : Option Answer) → IsGiven (next_version h) a → o ≡ tick_write (Mark name (next_version h) written a) → wrote_as h o ≡ noted_by name written a
noted_is h name written o None given is = ap (wrote_as h) is
noted_is h name written o (Some (answer.Done v)) given is = ap (wrote_as h) is ∙ ap (λ v. noted name v written) (sym given)
noted_is h name written o (Some answer.Absent) given is = ap (wrote_as h) is
noted_is h name written o (Some answer.Exists) given is = ap (wrote_as h) is
noted_is h name written o (Some (answer.Conflict v)) given is = ap (wrote_as h) is

module _ (q : Identity) (k : ℕ) (h : List Entry) (name : ℕ) (written : Node) (a : Option Answer) (t : Tick) where
  pub try_change : IsTryOn name written a t → IsGiven (next_version h) a → (refused : Option Key) → refused_key t ≡ refused → IsChange q h (add k q t h) (noted_by name written a) refused
  try_change is given refused stale =
      subst (λ o. IsChange q h (add k q t h) (noted_by name written a) o) stale
      (subst (λ o. IsChange q h (add k q t h) o (refused_key t)) (noted_is h name written (tick_write t) a given is.write)
      (own_change q k h t (unsynced q t (is.synced q (actor_of q))) (is.mode q (actor_of q))))

  -- an untaint or a swap
  pub cleaning_change : IsCleaningOn name written a t → IsGiven (next_version h) a → IsChange q h (add k q t h) (noted_by name written a) (refused_by (node_key name) a)
  cleaning_change is given = try_change is.try given (refused_by (node_key name) a) is.stale

  -- a mark or a queued taint
  pub mild_change : IsMildOn name written a t → IsGiven (next_version h) a → IsChange q h (add k q t h) (noted_by name written a) None
  mild_change is given = try_change is.try given None is.stale

gone_is : (h : List Entry) (pod : Key) (given node_given : Version) (at : ℕ) (a : Option Answer) → wrote_as h (tick_write (Delete pod given node_given at a)) ≡ gone_by pod a
gone_is h pod given node_given at None = refl
gone_is h pod given node_given at (Some (answer.Done v)) = refl
gone_is h pod given node_given at (Some answer.Absent) = refl
gone_is h pod given node_given at (Some answer.Exists) = refl
gone_is h pod given node_given at (Some (answer.Conflict v)) = refl

pub delete_change : (q : Identity) (k : ℕ) (h : List Entry) (pod : Key) (given node_given : Version) (at : ℕ) (a : Option Answer) → IsChange q h (add k q (Delete pod given node_given at a) h) (gone_by pod a) (refused_by pod a)
delete_change q k h pod given node_given at a =
    subst (λ o. IsChange q h (add k q (Delete pod given node_given at a) h) o (refused_by pod a)) (gone_is h pod given node_given at a)
    (own_change q k h (Delete pod given node_given at a) refl refl)

pub mark_is : (name : ℕ) (given : Version) (written : Node) (a : Option Answer) → IsMildOn name written a (Mark name given written a)
mark_is name given written a = record { try = record { write = refl; mode = λ q who. refl; synced = λ q who. refl }; stale = refl }

pub head_is : (place : Place) (name wanted : ℕ) (given : Version) (written : Node) (a : Option Answer) → IsMildOn name written a (Head place name wanted given written a)
head_is place name wanted given written a = record { try = record { write = refl; mode = λ q who. refl; synced = λ q who. refl }; stale = refl }

pub untaint_is : (name : ℕ) (given : Version) (written : Node) (a : Option Answer) → IsCleaningOn name written a (Untaint name given written a)
untaint_is name given written a = record { try = record { write = refl; mode = λ q who. refl; synced = λ q who. refl }; stale = refl }

pub swap_is : (name wanted : ℕ) (given : Version) (written : Node) (a : Option Answer) → IsCleaningOn name written a (Swap name wanted given written a)
swap_is name wanted given written a = record { try = record { write = refl; mode = λ q who. refl; synced = λ q who. refl }; stale = refl }

-- ---- the version that an accepted try was given

given_tried : (q : Identity) (next : Version) (r : Reply) (h : List Entry) → IsGiven next (as_answer r) → IsGiven next (tried q r h)
given_tried q next r h is = by_test (not (loses_requests q.process h))
  where
    by_test : (b : Bool) → IsGiven next (only_if b (as_answer r))
    by_test true = is
    by_test false = tt

pub given_node : (q : Identity) (name : ℕ) (given : Version) (h : List Entry) → IsGiven (next_version h) (try_node q name given h)
given_node q name given h = given_tried q (next_version h) (answer_update (next_version h) given (stored (node_key name) h)) h (by_held (stored (node_key name) h))
  where
    by_test : (x : Held) (b : Bool) → IsGiven (next_version h) (as_answer (cond b (reply.Done (next_version h)) (reply.Conflict x.version)))
    by_test x true = refl
    by_test x false = tt

    by_held : (o : Option Held) → IsGiven (next_version h) (as_answer (answer_update (next_version h) given o))
    by_held None = tt
    by_held (Some x) = by_test x (x.version.0 == given.0)

pub given_delete : (q : Identity) (pod : Key) (given : Version) (node : ℕ) (node_given : Version) (h : List Entry) → IsGiven (next_version h) (try_delete q pod given node node_given h)
given_delete q pod given node node_given h = given_tried q (next_version h) (answer_delete pod given (node_key node) node_given h) h (by_held (stored pod h) (stored (node_key node) h))
  where
    by_node : (y : Held) (b : Bool) → IsGiven (next_version h) (as_answer (cond b (reply.Done (next_version h)) (reply.Conflict y.version)))
    by_node y true = refl
    by_node y false = tt

    by_test : (x y : Held) (b : Bool) → IsGiven (next_version h) (as_answer (cond b (delete_at_node (next_version h) node_given (Some y)) (reply.Conflict x.version)))
    by_test x y true = by_node y (y.version.0 == node_given.0)
    by_test x y false = tt

    by_held : (o p : Option Held) → IsGiven (next_version h) (as_answer (delete_over (next_version h) given node_given o p))
    by_held None p = tt
    by_held (Some x) None = tt
    by_held (Some x) (Some y) = by_test x y (x.version.0 == given.0)

-- ---- nodes and pods, from what is shown

pub node_shown : (q : Identity) (name : ℕ) (h : List Entry) → of_kind node_in (shown q (node_key name) h) ≡ seen_node q name h
node_shown q name h = by_held (seen q (node_key name) h)
  where
    by_held : (o : Option Held) → of_kind node_in (kept o) ≡ as_kind node_in o
    by_held None = refl
    by_held (Some x) = refl

pub pod_shown : (q : Identity) (key : Key) (h : List Entry) → of_kind pod_in (shown q key h) ≡ seen_pod q key h
pod_shown q key h = by_held (seen q key h)
  where
    by_held : (o : Option Held) → of_kind pod_in (kept o) ≡ as_kind pod_in o
    by_held None = refl
    by_held (Some x) = refl

pub same_node : (q : Identity) (name : ℕ) (h g : List Entry) → shown q (node_key name) g ≡ shown q (node_key name) h → seen_node q name g ≡ seen_node q name h
same_node q name h g is = sym (node_shown q name g) ∙ ap (of_kind node_in) is ∙ node_shown q name h

pub same_pod : (q : Identity) (key : Key) (h g : List Entry) → shown q key g ≡ shown q key h → seen_pod q key g ≡ seen_pod q key h
same_pod q key h g is = sym (pod_shown q key g) ∙ ap (of_kind pod_in) is ∙ pod_shown q key h

-- ---- keys of nodes and of pods

pub node_eq : (a b : ℕ) → key_eq (node_key a) (node_key b) ≡ (a == b)
node_eq a b = grind (arith, nat_tests)

pub node_no_pod : (name : ℕ) (key : Key) → is_pod key.kind ≡ true → key_eq (node_key name) key ≡ false
node_no_pod name key is = by_test (key_eq (node_key name) key) refl
  where
    by_test : (b : Bool) → key_eq (node_key name) key ≡ b → b ≡ false
    by_test false same = refl
    by_test true same = absurd (false_is (ap (λ (k : Key). is_pod k.kind) (same_key (node_key name) key same) ∙ is))

pub pod_no_node : (key : Key) (name : ℕ) → is_pod key.kind ≡ true → key_eq key (node_key name) ≡ false
pod_no_node key name is = by_test (key_eq key (node_key name)) refl
  where
    by_test : (b : Bool) → key_eq key (node_key name) ≡ b → b ≡ false
    by_test false same = refl
    by_test true same = absurd (false_is (sym (ap (λ (k : Key). is_pod k.kind) (same_key key (node_key name) same)) ∙ is))

-- ---- how one change reads

-- a key that wasn't written
pub unwritten : (q : Identity) (h g : List Entry) (key other : Key) (x : Option (Version × Object)) (refused : Option Key) → IsChange q h g (Some (key, x)) refused → key_eq key other ≡ false → shown q other g ≡ shown q other h
unwritten q h g key other x refused s apart = s.shown other ∙ ap (λ b. cond b x (shown q other h)) apart

-- nodes after a node was noted
pub noted_node : (q : Identity) (h g : List Entry) (name : ℕ) (version : Version) (node : Node) (refused : Option Key) → IsChange q h g (noted name version node) refused
    → (m : ℕ) → seen_node q m g ≡ cond (name == m) (Some (version, node)) (seen_node q m h)
noted_node q h g name version node refused s m =
    sym (node_shown q m g)
    ∙ ap (of_kind node_in) (s.shown (node_key m))
    ∙ ap (λ b. of_kind node_in (cond b (Some (version, object.Node node)) (shown q (node_key m) h))) (node_eq name m)
    ∙ by_test (name == m)
  where
    by_test : (b : Bool) → of_kind node_in (cond b (Some (version, object.Node node)) (shown q (node_key m) h)) ≡ cond b (Some (version, node)) (seen_node q m h)
    by_test true = refl
    by_test false = node_shown q m h

pub noted_pod : (q : Identity) (h g : List Entry) (name : ℕ) (version : Version) (node : Node) (refused : Option Key) → IsChange q h g (noted name version node) refused
    → (key : Key) → is_pod key.kind ≡ true → seen_pod q key g ≡ seen_pod q key h
noted_pod q h g name version node refused s key kind = same_pod q key h g (unwritten q h g (node_key name) key (Some (version, object.Node node)) refused s (node_no_pod name key kind))

-- nodes and pods after a pod went
pub gone_node : (q : Identity) (h g : List Entry) (pod : Key) (refused : Option Key) → IsChange q h g (gone pod) refused → is_pod pod.kind ≡ true → (m : ℕ) → seen_node q m g ≡ seen_node q m h
gone_node q h g pod refused s kind m = same_node q m h g (unwritten q h g pod (node_key m) None refused s (pod_no_node pod m kind))

pub gone_pod : (q : Identity) (h g : List Entry) (pod : Key) (refused : Option Key) → IsChange q h g (gone pod) refused → (key : Key) → seen_pod q key g ≡ cond (key_eq pod key) None (seen_pod q key h)
gone_pod q h g pod refused s key = sym (pod_shown q key g) ∙ ap (of_kind pod_in) (s.shown key) ∙ by_test (key_eq pod key)
  where
    by_test : (b : Bool) → of_kind pod_in (cond b None (shown q key h)) ≡ cond b None (seen_pod q key h)
    by_test true = refl
    by_test false = pod_shown q key h

-- where nothing was written
pub kept_node : (q : Identity) (h g : List Entry) (refused : Option Key) → IsChange q h g None refused → (m : ℕ) → seen_node q m g ≡ seen_node q m h
kept_node q h g refused s m = same_node q m h g (s.shown (node_key m))

pub kept_pod : (q : Identity) (h g : List Entry) (refused : Option Key) → IsChange q h g None refused → (key : Key) → seen_pod q key g ≡ seen_pod q key h
kept_pod q h g refused s key = same_pod q key h g (s.shown key)
