-- What stays judged as before, by what a change leaves.
use Rattle.std.proofs.Common.{◌≡◌, ◌∙◌, ℕ, ◌==◌, ◌||◌, not, Bool, true, false, cond, List, Option, Some, None, refl, sym, ap}
use Rattle.std.proofs.lemmas.Bool.{eqb-true, eq-eqb}
use Rattle.kube_base.specs.declared.numbers.Version.{Version}
use Rattle.kube_objects.specs.declared.key.Key.{Key}
use Rattle.kube_objects.specs.declared.node.Node.{Node}
use Rattle.kube_objects.specs.declared.pod.Due.TheVariants.{Never}
use Rattle.kube_objects.specs.declared.pod.Pod.{Pod}
use Rattle.kube_objects.specs.Entry.{Entry, Identity, Place}
use Rattle.kube_objects.specs.Keys.{key_eq}
use Rattle.kube_objects.specs.Modes.{mode}
use Rattle.kube_objects.specs.Seen.{seen_node, seen_pod, is_stale, is_pod}
use Rattle.kube_objects.specs.Stored.{node_key}
use Rattle.kube_objects.specs.Tainting.{lacks_in, waits}
use Rattle.kube_objects.proofs.KeyOrder.{key_itself}
use Rattle.history_laws.proofs.Plainly.{false_is}
use Rattle.tick_laws.specs.Changes.{is_that, IsChange, IsSame, IsModeChange, noted, gone}
use Rattle.tick_laws.specs.Judged.{dirty_as, is_dirty, due_on, due_as, seen_due}
use Rattle.tick_laws.proofs.Frames.{node_eq, node_no_pod, pod_no_node, same_node, same_pod, noted_node, noted_pod, gone_node, gone_pod, kept_node, kept_pod}
use Rattle.watch_cache.specs.Kept.{is_on}

-- ---- each judgement by the readings that it looks at

pub same_dirty : (a b c d : Bool) (x y : Option (Version × Node)) → a ≡ b → c ≡ d → x ≡ y → dirty_as a c x ≡ dirty_as b d y
same_dirty a b c d x y p r s = ap (λ a. dirty_as a c x) p ∙ ap (λ c. dirty_as b c x) r ∙ ap (dirty_as b d) s

pub dirty_kept : (q : Identity) (h g : List Entry) (m : ℕ) → is_stale q (node_key m) g ≡ is_stale q (node_key m) h → mode q g ≡ mode q h → seen_node q m g ≡ seen_node q m h
    → is_dirty q m g ≡ is_dirty q m h
dirty_kept q h g m stale on node = same_dirty (is_stale q (node_key m) g) (is_stale q (node_key m) h) (mode q g) (mode q h) (seen_node q m g) (seen_node q m h) stale on node

pub waits_kept : (q : Identity) (h g : List Entry) (place : Place) (m : ℕ) → mode q g ≡ mode q h → seen_node q m g ≡ seen_node q m h → waits q place m g ≡ waits q place m h
waits_kept q h g place m on node = ap (λ b. lacks_in b place (seen_node q m g)) on ∙ ap (lacks_in (mode q h) place) node

-- a pod's due depends on the pod, whether it is stale, and its node alone
pub due_kept : (q : Identity) (key : Key) (h g : List Entry) → (is_pod key.kind ≡ true → seen_pod q key g ≡ seen_pod q key h) → (is_pod key.kind ≡ true → is_stale q key g ≡ is_stale q key h)
    → (is_pod key.kind ≡ true → (node : ℕ) → is_on node (seen_pod q key h) ≡ true → seen_node q node g ≡ seen_node q node h) → seen_due q key g ≡ seen_due q key h
due_kept q key h g pods stale nodes = by_kind (is_pod key.kind) pods stale nodes
  where
    by_stale : (b : Bool) (o : Option (Version × Pod)) → ((node : ℕ) → is_on node o ≡ true → seen_node q node g ≡ seen_node q node h) → due_as q b o g ≡ due_as q b o h
    by_stale true o nodes = refl
    by_stale false None nodes = refl
    by_stale false (Some x) nodes = ap (due_on x.1) (nodes x.1.node (eq-eqb x.1.node x.1.node refl))

    by_kind : (b : Bool) → (b ≡ true → seen_pod q key g ≡ seen_pod q key h) → (b ≡ true → is_stale q key g ≡ is_stale q key h)
        → (b ≡ true → (node : ℕ) → is_on node (seen_pod q key h) ≡ true → seen_node q node g ≡ seen_node q node h)
        → due_as q (not b || is_stale q key g) (seen_pod q key g) g ≡ due_as q (not b || is_stale q key h) (seen_pod q key h) h
    by_kind false pods stale nodes = refl
    by_kind true pods stale nodes =
        ap (λ b. due_as q b (seen_pod q key g) g) (stale refl)
        ∙ ap (λ o. due_as q (is_stale q key h) o g) (pods refl)
        ∙ by_stale (is_stale q key h) (seen_pod q key h) (nodes refl)

-- a stale key is neither dirty nor due
pub stale_clean : (q : Identity) (m : ℕ) (h : List Entry) → is_stale q (node_key m) h ≡ true → is_dirty q m h ≡ false
stale_clean q m h is = ap (λ b. dirty_as b (mode q h) (seen_node q m h)) is

pub stale_never : (q : Identity) (key : Key) (h : List Entry) → is_stale q key h ≡ true → seen_due q key h ≡ Never
stale_never q key h is = ap (λ b. due_as q (not (is_pod key.kind) || b) (seen_pod q key h) h) is ∙ by_kind (is_pod key.kind)
  where
    by_kind : (b : Bool) → due_as q (not b || true) (seen_pod q key h) h ≡ Never
    by_kind true = refl
    by_kind false = refl

-- nor is what isn't seen
pub unseen_clean : (q : Identity) (m : ℕ) (h : List Entry) → seen_node q m h ≡ None → is_dirty q m h ≡ false
unseen_clean q m h is = ap (dirty_as (is_stale q (node_key m) h) (mode q h)) is ∙ by_stale (is_stale q (node_key m) h)
  where
    by_stale : (b : Bool) → dirty_as b (mode q h) None ≡ false
    by_stale true = refl
    by_stale false = refl

pub unseen_never : (q : Identity) (key : Key) (h : List Entry) → seen_pod q key h ≡ None → seen_due q key h ≡ Never
unseen_never q key h is = ap (λ o. due_as q (not (is_pod key.kind) || is_stale q key h) o h) is ∙ by_stale (not (is_pod key.kind) || is_stale q key h)
  where
    by_stale : (b : Bool) → due_as q b None h ≡ Never
    by_stale true = refl
    by_stale false = refl

-- only a pod's key is due
pub no_pod_never : (q : Identity) (key : Key) (h : List Entry) → is_pod key.kind ≡ false → seen_due q key h ≡ Never
no_pod_never q key h is = ap (λ b. due_as q (not b || is_stale q key h) (seen_pod q key h) h) is

-- ---- where nothing became stale, a key is as stale as before

pub as_stale : (a b : Bool) (x : Bool) → x ≡ (a || b) → a ≡ false → x ≡ b
as_stale a b x is none = is ∙ ap (λ a. a || b) none

-- ---- a node was noted

module _ (q : Identity) (h g : List Entry) (name : ℕ) (version : Version) (node : Node) (s : IsChange q h g (noted name version node) None) where
  pub noted_sees : (m : ℕ) → (name == m) ≡ false → seen_node q m g ≡ seen_node q m h
  noted_sees m apart = noted_node q h g name version node None s m ∙ ap (λ b. cond b (Some (version, node)) (seen_node q m h)) apart

  pub noted_dirty : (m : ℕ) → (name == m) ≡ false → is_dirty q m g ≡ is_dirty q m h
  noted_dirty m apart = dirty_kept q h g m (s.stale (node_key m)) s.mode (noted_sees m apart)

  pub noted_waits : (place : Place) (m : ℕ) → (name == m) ≡ false → waits q place m g ≡ waits q place m h
  noted_waits place m apart = waits_kept q h g place m s.mode (noted_sees m apart)

  pub noted_due : (key : Key) → is_on name (seen_pod q key h) ≡ false → seen_due q key g ≡ seen_due q key h
  noted_due key off = due_kept q key h g (λ kind. noted_pod q h g name version node None s key kind) (λ kind. s.stale key) (λ kind m on. noted_sees m (by_test m (name == m) refl on))
    where
      by_test : (m : ℕ) (b : Bool) → (name == m) ≡ b → is_on m (seen_pod q key h) ≡ true → b ≡ false
      by_test m false same on = refl
      by_test m true same on = absurd (false_is (sym off ∙ ap (λ n. is_on n (seen_pod q key h)) (eqb-true name m same) ∙ on))

-- ---- nothing was written, and no key but this became stale

module _ (q : Identity) (h g : List Entry) (refused : Option Key) (s : IsChange q h g None refused) where
  pub refused_waits : (place : Place) (m : ℕ) → waits q place m g ≡ waits q place m h
  refused_waits place m = waits_kept q h g place m s.mode (kept_node q h g refused s m)

  pub refused_dirty : (m : ℕ) → is_that refused (node_key m) ≡ false → is_dirty q m g ≡ is_dirty q m h
  refused_dirty m other = dirty_kept q h g m (s.stale (node_key m) ∙ ap (λ b. b || is_stale q (node_key m) h) other) s.mode (kept_node q h g refused s m)

  pub refused_due : (key : Key) → (is_pod key.kind ≡ true → is_that refused key ≡ false) → seen_due q key g ≡ seen_due q key h
  refused_due key other =
      due_kept q key h g (λ kind. kept_pod q h g refused s key) (λ kind. s.stale key ∙ ap (λ b. b || is_stale q key h) (other kind)) (λ kind m on. kept_node q h g refused s m)

-- a refused node is to be cleaned no longer
pub refused_clean : (q : Identity) (h g : List Entry) (name : ℕ) → IsChange q h g None (Some (node_key name)) → is_dirty q name g ≡ false
refused_clean q h g name s = stale_clean q name g (s.stale (node_key name) ∙ ap (λ b. b || is_stale q (node_key name) h) (key_itself (node_key name)))

pub refused_others : (q : Identity) (h g : List Entry) (name : ℕ) → IsChange q h g None (Some (node_key name)) → (m : ℕ) → (name == m) ≡ false → is_dirty q m g ≡ is_dirty q m h
refused_others q h g name s m apart = refused_dirty q h g (Some (node_key name)) s m (node_eq name m ∙ apart)

pub refused_dues : (q : Identity) (h g : List Entry) (name : ℕ) → IsChange q h g None (Some (node_key name)) → (key : Key) → seen_due q key g ≡ seen_due q key h
refused_dues q h g name s key = refused_due q h g (Some (node_key name)) s key (λ kind. node_no_pod name key kind)

-- a refused pod is due no longer
pub pod_refused_never : (q : Identity) (h g : List Entry) (pod : Key) → IsChange q h g None (Some pod) → seen_due q pod g ≡ Never
pod_refused_never q h g pod s = stale_never q pod g (s.stale pod ∙ ap (λ b. b || is_stale q pod h) (key_itself pod))

pub pod_refused_others : (q : Identity) (h g : List Entry) (pod : Key) → IsChange q h g None (Some pod) → (key : Key) → key_eq pod key ≡ false → seen_due q key g ≡ seen_due q key h
pod_refused_others q h g pod s key apart = refused_due q h g (Some pod) s key (λ kind. apart)

pub pod_refused_dirty : (q : Identity) (h g : List Entry) (pod : Key) → IsChange q h g None (Some pod) → is_pod pod.kind ≡ true → (m : ℕ) → is_dirty q m g ≡ is_dirty q m h
pod_refused_dirty q h g pod s kind m = refused_dirty q h g (Some pod) s m (pod_no_node pod m kind)

-- ---- nothing changed

pub same_dirties : (q : Identity) (h g : List Entry) → IsSame q h g → (m : ℕ) → is_dirty q m g ≡ is_dirty q m h
same_dirties q h g s m = refused_dirty q h g None s m refl

pub same_dues : (q : Identity) (h g : List Entry) → IsSame q h g → (key : Key) → seen_due q key g ≡ seen_due q key h
same_dues q h g s key = refused_due q h g None s key (λ kind. refl)

-- ---- a pod went

module _ (q : Identity) (h g : List Entry) (pod : Key) (s : IsChange q h g (gone pod) None) where
  pub gone_never : seen_due q pod g ≡ Never
  gone_never = unseen_never q pod g (gone_pod q h g pod None s pod ∙ ap (λ b. cond b None (seen_pod q pod h)) (key_itself pod))

  module _ (is : is_pod pod.kind ≡ true) where
    pub gone_due : (key : Key) → key_eq pod key ≡ false → seen_due q key g ≡ seen_due q key h
    gone_due key apart =
        due_kept q key h g (λ kind. gone_pod q h g pod None s key ∙ ap (λ b. cond b None (seen_pod q key h)) apart) (λ kind. s.stale key) (λ kind m on. gone_node q h g pod None s is m)

    pub gone_dirty : (m : ℕ) → is_dirty q m g ≡ is_dirty q m h
    gone_dirty m = dirty_kept q h g m (s.stale (node_key m)) s.mode (gone_node q h g pod None s is m)

    pub gone_waits : (place : Place) (m : ℕ) → waits q place m g ≡ waits q place m h
    gone_waits place m = waits_kept q h g place m s.mode (gone_node q h g pod None s is m)

-- ---- the mode changed: who is to be cleaned may change at each node, and no due does

pub mode_dues : (q : Identity) (h g : List Entry) (on : Bool) → IsModeChange q h g on → (key : Key) → seen_due q key g ≡ seen_due q key h
mode_dues q h g on s key = due_kept q key h g (λ kind. same_pod q key h g (s.shown key)) (λ kind. s.stale key) (λ kind m is_on. same_node q m h g (s.shown (node_key m)))

pub mode_unseen : (q : Identity) (h g : List Entry) (on : Bool) (place : Place) (m : ℕ) → IsModeChange q h g on → seen_node q m h ≡ None → (is_dirty q m g ≡ is_dirty q m h) × (waits q place m g ≡ waits q place m h)
mode_unseen q h g on place m s none =
    let now : seen_node q m g ≡ None = same_node q m h g (s.shown (node_key m)) ∙ none in
    (unseen_clean q m g now ∙ sym (unseen_clean q m h none), ap (lacks_in (mode q g) place) now ∙ sym (ap (lacks_in (mode q h) place) none))
