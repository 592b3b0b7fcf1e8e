-- Which pods a sync has touched.
use Rattle.std.proofs.Common.{◌≡◌, ◌∙◌, ℕ, ◌&&◌, ◌||◌, Bool, true, false, List, [], ◌∷◌, Option, Some, None, Result, Ok, Err, OnOk, refl, sym, ap, subst}
use Rattle.std.specs.BTreeSet.{BTreeSet, contains}
use Rattle.std.specs.Ordering.{nat_cmp}
use Rattle.kube_objects.specs.declared.key.Key.{Key}
use Rattle.kube_objects.specs.declared.pod.Bears.{Bears}
use Rattle.kube_objects.specs.declared.rules.EvictRule.{EvictRule}
use Rattle.kube_objects.specs.declared.rules.EvictRule.TheVariants.{Added, Seen}
use Rattle.kube_objects.specs.Document.{Doc}
use Rattle.kube_objects.specs.Entry.{Entry, Identity}
use Rattle.kube_objects.specs.Keys.{key_eq}
use Rattle.kube_objects.specs.Seen.{is_pod, seen_pod}
use Rattle.kube_objects.specs.Sightings.{sight}
use Rattle.kube_objects.specs.Stored.{node_key}
use Rattle.kube_objects.specs.Tainting.{before_tick}
use Rattle.history_laws.proofs.Plainly.{false_is}
use Rattle.watch_cache.specs.Kept.{is_on}
use Rattle.term_state.specs.declared.cluster.Cluster.{Cluster}
use Rattle.term_state.specs.ClusterStands.{no_pod}
use Rattle.term_state.specs.Sights.{IsAlike, IsRetained, IsTouchedBy, KeepsSight, SettledBy, SightedBy, SightsBut, has_touched, is_by_sight}
use Rattle.term_state.specs.Taking.{is_open}
use Rattle.controller_core.specs.Left.{AreNoted}
use Rattle.controller_core.proofs.Syncing.Rest.{alone_open, node_open, none_open, other_open, pod_open}

-- what follows from what holds where a call went well
pub all_ok : {A B P N T F G Q : Type 0} (r : Result A B) → OnOk r P → (F → OnOk r N) → (G → OnOk r T) → (P → (F → N) → (G → T) → Q) → OnOk r Q
all_ok (Ok x) p n t all = all p n t
all_ok (Err e) p n t all = tt

-- ---- frames

pub retained_same : (c : Cluster) → IsRetained c c
retained_same c = record { from = refl; rows = λ key. refl; dues = λ seen key. refl }

pub retained_more : (c d e : Cluster) → IsRetained c d → IsRetained d e → IsRetained c e
retained_more c d e r s = record {
  from = s.from ∙ r.from;
  rows = λ key. s.rows key ∙ r.rows key;
  dues = λ seen key. s.dues (r.from ∙ seen) key ∙ r.dues seen key;
}

-- ---- what was touched by a test

both_out : (b on was now : Bool) → now ≡ ((b && on) || was) → b ≡ true → now ≡ false → (on ≡ false) × (was ≡ false)
both_out true true was now is by out = absurd (false_is (sym out ∙ is))
both_out true false was now is by out = (refl, sym is ∙ out)
both_out false on was now is by out = absurd (false_is by)

module _ (q : Identity) (g : List Entry) (rest : List Key) (names : BTreeSet ℕ) (old new : Cluster) where
  pub noted_node : (name : ℕ) → old.evict_from ≡ Seen → IsTouchedBy (λ p. is_on name (seen_pod q p g)) old new → AreNoted q g (node_key name ∷ rest) rest names old new
  noted_node name seen touched p none out =
      let both = both_out (is_by_sight old.evict_from) (is_on name (seen_pod q p g)) (has_touched old p) (has_touched new p) (touched p) (ap is_by_sight seen) none in
      (both.1, node_open q g name rest names p both.0 out)

  pub noted_pod : (key : Key) → is_pod key.kind ≡ true → old.evict_from ≡ Seen → IsTouchedBy (λ p. key_eq key p) old new → AreNoted q g (key ∷ rest) rest names old new
  noted_pod key kind seen touched p none out =
      let both = both_out (is_by_sight old.evict_from) (key_eq key p) (has_touched old p) (has_touched new p) (touched p) (ap is_by_sight seen) none in
      (both.1, pod_open q g key rest names kind p both.0 out)

  pub noted_alone : (name : ℕ) → contains nat_cmp names name ≡ false → ((p : Key) → has_touched new p ≡ has_touched old p) → AreNoted q g (node_key name ∷ rest) rest names old new
  noted_alone name unnamed same p none out = (sym (same p) ∙ none, alone_open q g name rest names unnamed p out)

  pub noted_other : (key : Key) → ((n : ℕ) → key_eq key (node_key n) ≡ false) → is_pod key.kind ≡ false → ((p : Key) → has_touched new p ≡ has_touched old p) → AreNoted q g (key ∷ rest) rest names old new
  noted_other key differs kind same p none out = (sym (same p) ∙ none, other_open q g key rest names differs kind p out)

-- where dues don't count from what is seen nothing is touched
pub touched_none : (test : Key → Bool) (old new : Cluster) → old.evict_from ≡ Added → IsTouchedBy test old new → (p : Key) → has_touched new p ≡ has_touched old p
touched_none test old new added touched p = touched p ∙ ap (λ r. (is_by_sight r && test p) || has_touched old p) added

-- ---- key by key

pub noted_same : (q : Identity) (g : List Entry) (keys : List Key) (names : BTreeSet ℕ) (c : Cluster) → AreNoted q g keys keys names c c
noted_same q g keys names c p none out = (none, out)

pub noted_more : (q : Identity) (g : List Entry) (keys mid rest : List Key) (names : BTreeSet ℕ) (c d e : Cluster) → AreNoted q g keys mid names c d → AreNoted q g mid rest names d e → AreNoted q g keys rest names c e
noted_more q g keys mid rest names c d e first next p none out = let one = next p none out in first p one.0 one.1

-- at the end all is touched
pub noted_all : (q : Identity) (g : List Entry) (keys : List Key) (names : BTreeSet ℕ) (old new : Cluster) → AreNoted q g keys [] names old new
    → (p : Key) → has_touched new p ≡ false → (has_touched old p ≡ false) × (is_open q g keys (contains nat_cmp names) p ≡ false)
noted_all q g keys names old new noted p none = noted p none (none_open q g names p)

-- ---- what is seen at a tick's start, and after its sync

keeps_itself : (o : Option Bears) → KeepsSight o o
keeps_itself None = tt
keeps_itself (Some b) = refl

alike_itself : (q : Identity) (h : List Entry) (key : Key) → IsAlike q h h key
alike_itself q h key = record { sees = keeps_itself (sight q key h); undue = refl; there = refl }

pub begun_sights : (rule : EvictRule) (doc : Doc) (k : ℕ) (q : Identity) (h : List Entry) (c : Cluster) → before_tick q k h ≡ h → SettledBy rule doc q h no_pod c → SightedBy rule doc k q h c
begun_sights Added doc k q h c start s = s
begun_sights Seen doc k q h c start s = record {
  before = subst (λ g. SightsBut doc q g no_pod c) (sym start) s.sights;
  touched = λ key none. subst (λ g. IsAlike q g h key) (sym start) (alike_itself q h key);
}

pub synced_sights : (rule : EvictRule) (doc : Doc) (k : ℕ) (q : Identity) (h g : List Entry) (c d : Cluster) → before_tick q k g ≡ h → IsRetained c d → c.evict_from ≡ rule
    → (rule ≡ Added → (p : Key) → has_touched d p ≡ has_touched c p) → (rule ≡ Seen → (p : Key) → has_touched d p ≡ false → IsAlike q h g p) → SettledBy rule doc q h no_pod c → SightedBy rule doc k q g d
synced_sights Added doc k q h g c d beneath r from none alike s = λ key. none refl key ∙ s key
synced_sights Seen doc k q h g c d beneath r from none alike s = record {
  before = subst (λ f. SightsBut doc q f no_pod d) (sym beneath) (record {
    rows = λ key. r.rows key ∙ s.sights.rows key;
    dues = λ key out. r.dues from key ∙ s.sights.dues key out;
  });
  touched = λ key out. subst (λ f. IsAlike q f g key) (sym beneath) (alike refl key out);
}
