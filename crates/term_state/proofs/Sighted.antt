-- What an own write of a node, or the mode, changes of what is seen of pods, and how a cluster's rows go through it.
use Rattle.std.proofs.Common.{◌≡◌, ◌∙◌, ℕ, ◌==◌, ◌&&◌, ◌||◌, not, Bool, true, false, cond, List, [], ◌∷◌, length, Option, Some, None, refl, sym, ap, subst}
use Rattle.std.proofs.lemmas.Bool.{eq-eqb, eqb-true}
use Rattle.std.specs.BTreeMap.{is_at}
use Rattle.std.specs.List.{list_any}
use Rattle.kube_base.specs.declared.numbers.Version.{Version}
use Rattle.kube_objects.specs.declared.key.Key.{Key}
use Rattle.kube_objects.specs.declared.node.Node.{Node}
use Rattle.kube_objects.specs.declared.object.Object.TheVariants as object
use Rattle.kube_objects.specs.declared.pod.Bears.{Bears}
use Rattle.kube_objects.specs.declared.pod.Pod.{Pod}
use Rattle.kube_objects.specs.declared.rules.EvictRule.{EvictRule}
use Rattle.kube_objects.specs.declared.rules.EvictRule.TheVariants as evictions
use Rattle.kube_objects.specs.Document.{Doc}
use Rattle.kube_objects.specs.Entry.{Entry, Identity}
use Rattle.kube_objects.specs.Keys.{key_cmp}
use Rattle.kube_objects.specs.Newest.{has, only_if}
use Rattle.kube_objects.specs.Seen.{is_pod, is_stale, seen_node, seen_pod}
use Rattle.kube_objects.specs.Sightings.{bears, bears_on, sight, sighted_pod}
use Rattle.kube_objects.specs.Stored.{node_key}
use Rattle.kube_objects.specs.Tainting.{before_tick}
use Rattle.kube_objects.proofs.KeyOrder.{key_itself}
use Rattle.history_laws.proofs.Plainly.{false_is}
use Rattle.tick_laws.specs.Changes.{IsChange, IsModeChange, noted}
use Rattle.tick_laws.specs.Judged.{due_by, shown}
use Rattle.tick_laws.proofs.Frames.{node_eq, node_no_pod, noted_pod, same_node, same_pod}
use Rattle.watch_cache.specs.Kept.{is_on}
use Rattle.watch_cache.specs.TaintChanges.{taints_in}
use Rattle.term_state.specs.declared.cluster.Cluster.{Cluster}
use Rattle.term_state.specs.ClusterStands.{HaveKinds, no_pod}
use Rattle.term_state.specs.Sights.{IsAlike, IsRetained, IsTouchedBy, KeepsSight, SightedBy, has_touched, is_by_sight, is_undue, row_of, touched_len}
use Rattle.term_state.proofs.Aside.{kinds_changed}
use Rattle.term_state.proofs.SameTaints.{node_shown, node_taints}
use Rattle.term_state.proofs.Widen.{first_none, second_none}

-- ---- from one history to another, and on to a third

keeps_more : (a b c : Option Bears) → KeepsSight a b → KeepsSight b c → KeepsSight a c
keeps_more a b None first then = tt
keeps_more a b (Some x) first then = subst (KeepsSight a) then first

pub alike_more : (q : Identity) (f h g : List Entry) (key : Key) → IsAlike q f h key → IsAlike q h g key → IsAlike q f g key
alike_more q f h g key a b = record {
  sees = keeps_more (sight q key f) (sight q key h) (sight q key g) a.sees b.sees;
  undue = b.undue ∙ a.undue;
  there = b.there ∙ a.there;
}

-- ---- a pod that is seen as before

-- a node that is seen was seen before, with the same taints
pub record KeepsTaints (q : Identity) (h g : List Entry) (name : ℕ) : Type 0 where
  pub taints : taints_in (shown q (node_key name) g) ≡ taints_in (shown q (node_key name) h)
  pub seen : has (seen_node q name g) ≡ true → has (seen_node q name h) ≡ true

pub taints_kept : (q : Identity) (h g : List Entry) (name : ℕ) → shown q (node_key name) g ≡ shown q (node_key name) h → KeepsTaints q h g name
taints_kept q h g name same = record { taints = ap taints_in same; seen = λ there. sym (ap has (same_node q name h g same)) ∙ there }

pub alike_as : (q : Identity) (h g : List Entry) (key : Key) → seen_pod q key g ≡ seen_pod q key h → is_undue q key g ≡ is_undue q key h
    → ((name : ℕ) → is_on name (seen_pod q key h) ≡ true → KeepsTaints q h g name) → IsAlike q h g key
alike_as q h g key pods undue nodes = record { sees = by_pod (seen_pod q key h) pods refl nodes; undue = undue; there = ap has pods }
  where
    by_nodes : (pod : Pod) (x y : Option (Version × Node)) → node_taints y ≡ node_taints x → (has y ≡ true → has x ≡ true) → KeepsSight (bears_on pod x) (bears_on pod y)
    by_nodes pod x None same there = tt
    by_nodes pod None (Some y) same there = absurd (false_is (there refl))
    by_nodes pod (Some x) (Some y) same there = ap (λ ts. Some (bears pod.tolerations ts)) (sym same)

    by_pod : (o : Option (Version × Pod)) → seen_pod q key g ≡ o → seen_pod q key h ≡ o → ((name : ℕ) → is_on name o ≡ true → KeepsTaints q h g name) → KeepsSight (sight q key h) (sight q key g)
    by_pod None now was nodes = subst (λ o. KeepsSight (sight q key h) (sighted_pod q o g)) (sym now) (ap (λ o. sighted_pod q o h) was)
    by_pod (Some x) now was nodes =
        let kept = nodes x.1.node (eq-eqb x.1.node x.1.node refl) in
        subst (λ o. KeepsSight (sighted_pod q o h) (sight q key g)) (sym was)
        (subst (λ o. KeepsSight (sighted_pod q (Some x) h) (sighted_pod q o g)) (sym now)
        (by_nodes x.1 (seen_node q x.1.node h) (seen_node q x.1.node g) (node_shown q x.1.node g ∙ kept.taints ∙ sym (node_shown q x.1.node h)) kept.seen))

-- ---- a key that is no pod's

pub no_pod_seen : (q : Identity) (key : Key) (h : List Entry) → HaveKinds q h → is_pod key.kind ≡ false → seen_pod q key h ≡ None
no_pod_seen q key h kinds kind = by_pod (seen_pod q key h) (kinds.pods key)
  where
    by_pod : (o : Option (Version × Pod)) → (has o ≡ true → is_pod key.kind ≡ true) → o ≡ None
    by_pod None is = refl
    by_pod (Some x) is = absurd (false_is (sym kind ∙ is refl))

pub alike_no_pod : (q : Identity) (h g : List Entry) (key : Key) → HaveKinds q h
    → HaveKinds q g → is_pod key.kind ≡ false → IsAlike q h g key
alike_no_pod q h g key before after kind =
    let none = no_pod_seen q key h before kind in
    alike_as q h g key (no_pod_seen q key g after kind ∙ sym none) (ap (λ b. not b || is_stale q key g) kind ∙ sym (ap (λ b. not b || is_stale q key h) kind))
    (λ name on. absurd (false_is (sym (ap (is_on name) none) ∙ on)))

-- ---- what leaves all as it is shown

pub shown_alike : (q : Identity) (h g : List Entry) → ((key : Key) → shown q key g ≡ shown q key h) → (key : Key) → is_undue q key g ≡ is_undue q key h → IsAlike q h g key
shown_alike q h g same key undue = alike_as q h g key (same_pod q key h g (same key)) undue (λ name on. taints_kept q h g name (same (node_key name)))

pub same_alike : (q : Identity) (h g : List Entry) → IsChange q h g None None → (key : Key) → IsAlike q h g key
same_alike q h g d key = shown_alike q h g d.shown key (ap (λ b. not (is_pod key.kind) || b) (d.stale key))

pub mode_alike : (q : Identity) (h g : List Entry) (on : Bool) → IsModeChange q h g on → (key : Key) → IsAlike q h g key
mode_alike q h g on d key = shown_alike q h g d.shown key (ap (λ b. not (is_pod key.kind) || b) (d.stale key))

-- a node's key is no pod's
pub refused_alike : (q : Identity) (h g : List Entry) (name : ℕ) → IsChange q h g None (Some (node_key name)) → (key : Key) → IsAlike q h g key
refused_alike q h g name d key = shown_alike q h g d.shown key (by_kind (is_pod key.kind) refl)
  where
    by_kind : (b : Bool) → is_pod key.kind ≡ b → is_undue q key g ≡ is_undue q key h
    by_kind true kind = ap (λ b. not (is_pod key.kind) || b) (d.stale key ∙ ap (λ b. b || is_stale q key h) (node_no_pod name key kind))
    by_kind false kind = ap (λ b. not b || is_stale q key g) kind ∙ sym (ap (λ b. not b || is_stale q key h) kind)

-- where a refusal makes it stale, or doesn't
pub refusal_alike : (q : Identity) (h g : List Entry) (name : ℕ) (stale : Bool) → IsChange q h g None (only_if stale (Some (node_key name))) → (key : Key) → IsAlike q h g key
refusal_alike q h g name true d = refused_alike q h g name d
refusal_alike q h g name false d = same_alike q h g d

-- ---- a node is seen as it was written

module _ (q : Identity) (h g : List Entry) (name : ℕ) (version : Version) (node : Node) (d : IsChange q h g (noted name version node) None)
    (kinds : HaveKinds q h) where
  other_kept : (n : ℕ) → (name == n) ≡ false → KeepsTaints q h g n
  other_kept n apart = taints_kept q h g n (d.shown (node_key n) ∙ ap (λ b. cond b (Some (version, object.Node node)) (shown q (node_key n) h)) (node_eq name n ∙ apart))

  by_kinds : (key : Key) → (is_pod key.kind ≡ true → (n : ℕ) → is_on n (seen_pod q key h) ≡ true → KeepsTaints q h g n) → (b : Bool) → is_pod key.kind ≡ b → IsAlike q h g key
  by_kinds key nodes true kind = alike_as q h g key (noted_pod q h g name version node None d key kind) (ap (λ b. not (is_pod key.kind) || b) (d.stale key)) (nodes kind)
  by_kinds key nodes false kind = alike_no_pod q h g key kinds (kinds_changed q h g (noted name version node) None d (refl, refl) kinds) kind

  -- a pod that isn't on it
  pub noted_alike : (key : Key) → is_on name (seen_pod q key g) ≡ false → IsAlike q h g key
  noted_alike key off = by_kinds key (λ kind n on. other_kept n (apart kind n on)) (is_pod key.kind) refl
    where
      apart : is_pod key.kind ≡ true → (n : ℕ) → is_on n (seen_pod q key h) ≡ true → (name == n) ≡ false
      apart kind n on = by_test (name == n) refl
        where
          by_test : (b : Bool) → (name == n) ≡ b → b ≡ false
          by_test false is = refl
          by_test true is =
              absurd (false_is (sym off ∙ ap (is_on name) (noted_pod q h g name version node None d key kind) ∙ subst (λ m. is_on m (seen_pod q key h) ≡ true) (sym (eqb-true name n is)) on))

  -- any pod, where the node was seen with the same taints
  pub noted_still : has (seen_node q name h) ≡ true → taints_in (shown q (node_key name) h) ≡ node.taints → (key : Key) → IsAlike q h g key
  noted_still there same key = by_kinds key (λ kind n on. by_test n (name == n) refl) (is_pod key.kind) refl
    where
      written : KeepsTaints q h g name
      written = record {
        taints = ap taints_in (d.shown (node_key name) ∙ ap (λ b. cond b (Some (version, object.Node node)) (shown q (node_key name) h)) (key_itself (node_key name))) ∙ sym same;
        seen = λ now. there;
      }

      by_test : (n : ℕ) (b : Bool) → (name == n) ≡ b → KeepsTaints q h g n
      by_test n true is = subst (KeepsTaints q h g) (eqb-true name n is) written
      by_test n false is = other_kept n is

-- ---- calls one after the other

pub retained_self : (c : Cluster) → IsRetained c c
retained_self c = record { from = refl; rows = λ key. refl; dues = λ seen key. refl }

pub retained_more : (a b c : Cluster) → IsRetained a b → IsRetained b c → IsRetained a c
retained_more a b c f g = record {
  from = g.from ∙ f.from;
  rows = λ key. g.rows key ∙ f.rows key;
  dues = λ seen key. g.dues (f.from ∙ seen) key ∙ f.dues seen key;
}

-- a call that touches none, and another
pub touched_after : (pods : Key → Bool) (a b c : Cluster) → IsRetained a b → ((key : Key) → has_touched b key ≡ has_touched a key) → IsTouchedBy pods b c → IsTouchedBy pods a c
touched_after pods a b c r same t key =
    t key ∙ ap (λ rule. (is_by_sight rule && pods key) || has_touched b key) r.from ∙ ap (λ old. (is_by_sight a.evict_from && pods key) || old) (same key)

-- one pod of a list is touched
pub touched_next : (s here later old new : Bool) → new ≡ ((s && here) || old) → ((s && later) || new) ≡ ((s && (here || later)) || old)
touched_next true here later old new is = ap (λ b. later || b) is ∙ by_tests here later
  where
    by_tests : (a b : Bool) → (b || (a || old)) ≡ ((a || b) || old)
    by_tests true true = refl
    by_tests true false = refl
    by_tests false b = refl
touched_next false here later old new is = is

pub touched_none : (s : Bool) (old : Bool) → ((s && false) || old) ≡ old
touched_none true old = refl
touched_none false old = refl

-- ---- the rows of a cluster within a tick

-- an untouched pod stays so
pub sighted_more : (rule : EvictRule) (doc : Doc) (k : ℕ) (q : Identity) (h g : List Entry) (pods : Key → Bool) (old new : Cluster) → old.evict_from ≡ rule → before_tick q k g ≡ before_tick q k h
    → IsRetained old new → IsTouchedBy pods old new → ((key : Key) → pods key ≡ false → IsAlike q h g key) → SightedBy rule doc k q h old → SightedBy rule doc k q g new
sighted_more evictions.Added doc k q h g pods old new is beneath r t alike s = λ key. t key ∙ ap (λ rule. (is_by_sight rule && pods key) || has_touched old key) is ∙ s key
sighted_more evictions.Seen doc k q h g pods old new is beneath r t alike s = record {
  before = record {
    rows = λ key. r.rows key ∙ s.before.rows key ∙ ap (row_of doc q key) (sym beneath);
    dues = λ key out. r.dues is key ∙ s.before.dues key out ∙ ap (due_by evictions.Seen doc q key) (sym beneath);
  };
  touched = λ key out.
      let both = sym (ap (λ rule. (is_by_sight rule && pods key) || has_touched old key) is) ∙ sym (t key) ∙ out in
      subst (λ f. IsAlike q f g key) (sym beneath)
      (alike_more q (before_tick q k h) h g key (s.touched key (second_none (pods key) (has_touched old key) both)) (alike key (first_none (pods key) (has_touched old key) both)));
}

-- where no pod is touched
pub none_touched : (old new : Cluster) → ((key : Key) → has_touched new key ≡ has_touched old key) → IsTouchedBy no_pod old new
none_touched old new same key = same key ∙ sym (touched_none (is_by_sight old.evict_from) (has_touched old key))

pub sighted_still : (rule : EvictRule) (doc : Doc) (k : ℕ) (q : Identity) (h g : List Entry) (old new : Cluster) → old.evict_from ≡ rule → before_tick q k g ≡ before_tick q k h → IsRetained old new
    → ((key : Key) → has_touched new key ≡ has_touched old key) → ((key : Key) → IsAlike q h g key) → SightedBy rule doc k q h old → SightedBy rule doc k q g new
sighted_still rule doc k q h g old new is beneath r same alike s = sighted_more rule doc k q h g no_pod old new is beneath r (none_touched old new same) (λ key out. alike key) s

-- the cluster is as it was
pub sighted_kept : (rule : EvictRule) (doc : Doc) (k : ℕ) (q : Identity) (h g : List Entry) (c : Cluster) → before_tick q k g ≡ before_tick q k h → ((key : Key) → IsAlike q h g key)
    → SightedBy rule doc k q h c → SightedBy rule doc k q g c
sighted_kept evictions.Added doc k q h g c beneath alike s = s
sighted_kept evictions.Seen doc k q h g c beneath alike s = record {
  before = record {
    rows = λ key. s.before.rows key ∙ ap (row_of doc q key) (sym beneath);
    dues = λ key out. s.before.dues key out ∙ ap (due_by evictions.Seen doc q key) (sym beneath);
  };
  touched = λ key out. subst (λ f. IsAlike q f g key) (sym beneath) (alike_more q (before_tick q k h) h g key (s.touched key out) (alike key));
}

pub sighted_same : (rule : EvictRule) (doc : Doc) (k : ℕ) (q : Identity) (h g : List Entry) (c : Cluster) → before_tick q k g ≡ before_tick q k h → IsChange q h g None None
    → SightedBy rule doc k q h c → SightedBy rule doc k q g c
sighted_same rule doc k q h g c beneath d s = sighted_kept rule doc k q h g c beneath (same_alike q h g d) s

-- ---- how many are touched

pub untouched_len : (c : Cluster) → ((key : Key) → has_touched c key ≡ false) → touched_len c ≡ 0
untouched_len c none = by_keys c.touched.keys none
  where
    by_keys : (keys : List Key) → ((key : Key) → list_any (is_at (key_cmp key)) keys ≡ false) → length keys ≡ 0
    by_keys [] none = refl
    by_keys (k ∷ ks) none = absurd (false_is (sym (first_none (is_at (key_cmp k) k) (list_any (is_at (key_cmp k)) ks) (none k)) ∙ key_itself k))
