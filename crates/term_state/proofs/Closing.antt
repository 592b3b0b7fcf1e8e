-- What a try or a deletion is of is exact again, and a term that begins.
use Rattle.std.proofs.Common.{◌≡◌, ◌∙◌, ℕ, ◌<◌, ◌==◌, ◌&&◌, ◌||◌, not, Bool, true, false, cond, List, [], ◌∷◌, Option, Some, None, IfSome, IfNone, refl, sym, ap, arith}
use Rattle.std.proofs.lemmas.Bool.{eqb-true}
use Rattle.std.proofs.lemmas.Bool.Decides.{nat_tests}
use Rattle.std.specs.BTreeSet.{BTreeSet, Updates, contains}
use Rattle.std.specs.Ordering.{is_eq, nat_cmp}
use Rattle.kube_base.specs.declared.numbers.Version.{Version}
use Rattle.kube_objects.specs.declared.key.Key.{Key}
use Rattle.kube_objects.specs.declared.node.Node.{Node}
use Rattle.kube_objects.specs.declared.pod.Due.{Due}
use Rattle.kube_objects.specs.declared.pod.Due.TheVariants.{Never, At}
use Rattle.kube_objects.specs.declared.pod.Pod.{Pod}
use Rattle.kube_objects.specs.Entry.{Entry, Identity, Fact, Tick, Ticks, Mode}
use Rattle.kube_objects.specs.Identities.{is_by}
use Rattle.kube_objects.specs.Keys.{key_eq}
use Rattle.kube_objects.specs.Modes.{mode, mode_says}
use Rattle.kube_objects.specs.Newest.{added, has, newest, or_else, when}
use Rattle.kube_objects.specs.Seen.{is_pod, is_stale, seen_node, seen_pod}
use Rattle.kube_objects.specs.Stored.{node_key}
use Rattle.kube_objects.specs.Tolerations.{due}
use Rattle.history_laws.proofs.Plainly.{false_is}
use Rattle.evict_queue.specs.Queue.{due_in}
use Rattle.evict_queue.specs.declared.queue.EvictQueue.{EvictQueue}
use Rattle.tick_laws.specs.Changes.{IsChange}
use Rattle.tick_laws.specs.Judged.{due_as, due_on, is_by_now, is_dirty, seen_due, shown}
use Rattle.tick_laws.proofs.Frames.{node_shown, pod_shown}
use Rattle.tick_laws.proofs.Tried.{refused_clean, unseen_clean, unseen_never}
use Rattle.watch_cache.specs.declared.cache.Cache.{Cache}
use Rattle.watch_cache.specs.Kept.{of_kind}
use Rattle.watch_cache.specs.Stands.{CacheStands, is_tick_by, kept_in, ticks}
use Rattle.watch_cache.proofs.Frames.{upper}
use Rattle.term_state.specs.declared.cluster.Cluster.{Cluster}
use Rattle.term_state.specs.ClusterStands.{ClusterBut, ClusterStands, but_pod, no_node, no_pod}
use Rattle.term_state.proofs.Judging.{due_set, with_dues}
use Rattle.term_state.proofs.Widen.{widen}
use Rattle.kube_objects.specs.Answers.{node_in}
use Rattle.kube_objects.specs.Seen.{pod_in}

pub number_eq : (a b : ℕ) → is_eq (nat_cmp a b) ≡ (a == b)
number_eq a b = grind (arith, nat_tests)

abbrev pub with_unclean : Cluster → BTreeSet ℕ → Cluster
with_unclean c unclean = record c { unclean = unclean }

-- a refused node is taken out of those to be cleaned
pub refused_judged : (q : Identity) (h g : List Entry) (name : ℕ) (c : Cluster) (unclean : BTreeSet ℕ) → IsChange q h g None (Some (node_key name)) → ClusterBut q g (λ n. name == n) no_pod c
    → Updates nat_cmp c.unclean unclean name false → ClusterStands q g (with_unclean c unclean)
refused_judged q h g name c unclean d s u = record {
  cache = s.cache;
  mode = s.mode;
  unclean = λ n out. u.0 n ∙ ap (λ b. cond b false (contains nat_cmp c.unclean n)) (number_eq name n) ∙ by_test n (name == n) refl;
  dues = s.dues;
  kinds = s.kinds;
}
  where
    by_test : (n : ℕ) (b : Bool) → (name == n) ≡ b → cond b false (contains nat_cmp c.unclean n) ≡ is_dirty q n g
    by_test n true same = sym (ap (λ m. is_dirty q m g) (sym (eqb-true name n same)) ∙ refused_clean q h g name d)
    by_test n false apart = s.unclean n apart

-- a pod is due never, and is exact again
pub closed_pod : (q : Identity) (g : List Entry) (pod : Key) (pods : Key → Bool) (c : Cluster) (dues : EvictQueue) → ClusterBut q g no_node (λ p. pods p || key_eq pod p) c → seen_due q pod g ≡ Never
    → ((key : Key) → due_in dues key ≡ cond (key_eq pod key) Never (due_in c.dues key)) → ClusterBut q g no_node (but_pod pod pods) (with_dues c dues)
closed_pod q g pod pods c dues s never set =
    widen q g no_node no_node (but_pod pod (λ p. pods p || key_eq pod p)) (but_pod pod pods) (with_dues c dues) (λ n is. is) (λ p. by_tests (pods p) (key_eq pod p))
    (due_set q g no_node (λ p. pods p || key_eq pod p) c dues pod Never s (λ added. sym never) set)
  where
    by_tests : (b e : Bool) → (b && not e) ≡ false → ((b || e) && not e) ≡ false
    by_tests true e is = is
    by_tests false true is = refl
    by_tests false false is = refl

-- ---- options

pub if_some_weaker : {A : Type 0} (P Q : A → Type 0) (o : Option A) → ((x : A) → P x → Q x) → IfSome o P → IfSome o Q
if_some_weaker P Q None f p = tt
if_some_weaker P Q (Some x) f p = f x p

pub if_some_both : {A : Type 0} (P Q : A → Type 0) (o : Option A) → IfSome o P → IfSome o Q → IfSome o (λ x. P x × Q x)
if_some_both P Q None p q = tt
if_some_both P Q (Some x) p q = (p, q)

pub if_none_weaker : {A : Type 0} (P Q : Type 0) (o : Option A) → (P → Q) → IfNone o P → IfNone o Q
if_none_weaker P Q None f p = f p
if_none_weaker P Q (Some x) f p = tt

pub if_none_always : {A : Type 0} (P : Type 0) (o : Option A) → P → IfNone o P
if_none_always P None p = p
if_none_always P (Some x) p = tt

-- ---- a pod whose node isn't seen, and one that isn't due by now

pub unplaced_never : (q : Identity) (key : Key) (h : List Entry) (x : Version × Pod) → seen_pod q key h ≡ Some x → seen_node q x.1.node h ≡ None → seen_due q key h ≡ Never
unplaced_never q key h x sees none = ap (λ o. due_as q (not (is_pod key.kind) || is_stale q key h) o h) sees ∙ by_stale (not (is_pod key.kind) || is_stale q key h)
  where
    by_stale : (b : Bool) → due_as q b (Some x) h ≡ Never
    by_stale true = refl
    by_stale false = ap (due_on x.1) none

pub quiet_pod : (now : ℕ) (q : Identity) (key : Key) (h : List Entry) (x : Version × Pod) (y : Version × Node) → seen_pod q key h ≡ Some x → seen_node q x.1.node h ≡ Some y
    → is_by_now now (due x.1 y.1) ≡ false → is_by_now now (seen_due q key h) ≡ false
quiet_pod now q key h x y sees sees_node quiet = ap (λ o. is_by_now now (due_as q (not (is_pod key.kind) || is_stale q key h) o h)) sees ∙ by_stale (not (is_pod key.kind) || is_stale q key h)
  where
    by_stale : (b : Bool) → is_by_now now (due_as q b (Some x) h) ≡ false
    by_stale true = refl
    by_stale false = ap (λ o. is_by_now now (due_on x.1 o)) sees_node ∙ quiet

pub late_due : (now at : ℕ) (d : Due) → d ≡ At at → now < at → is_by_now now d ≡ false
late_due now at d is less = ap (is_by_now now) is ∙ by_order now at less
  where
    by_order : (now at : ℕ) → now < at → is_by_now now (At at) ≡ false
    by_order now at less = grind (arith, nat_tests)

-- ---- a term that begins

mode_none : (q : Identity) (h : List Entry) → ticks q h ≡ 0 → mode q h ≡ false
mode_none q [] none = refl
mode_none q (e ∷ h) none = by_fact e.fact (by_test (is_tick_by q e.actor e.fact) none) (mode_none q h)
  where
    by_test : (b : Bool) → added b (ticks q h) ≡ 0 → (b ≡ false) × (ticks q h ≡ 0)
    by_test true n = absurd (omega (arith, n))
    by_test false n = (refl, n)

    before : Option Bool
    before = newest (λ e T. mode_says q e.actor e.fact) h

    by_tick : (t : Tick) → is_by q e.actor ≡ false → or_else false before ≡ false → or_else false (upper (mode_says q e.actor (Ticks t)) before) ≡ false
    by_tick (Mode on) other rest = ap (λ b. or_else false (upper (when b on) before)) other ∙ rest
    by_tick t other rest = rest

    by_fact : (d : Fact) → (is_tick_by q e.actor d ≡ false) × (ticks q h ≡ 0) → (ticks q h ≡ 0 → mode q h ≡ false) → or_else false (upper (mode_says q e.actor d) before) ≡ false
    by_fact (Ticks t) parts rest = by_tick t parts.0 (rest parts.1)
    by_fact d parts rest = rest parts.1

pub new_unseen : (q : Identity) (h : List Entry) (cache : Cache) → CacheStands q h cache → ((key : Key) → kept_in cache key ≡ None) → (key : Key) → seen_pod q key h ≡ None
new_unseen q h cache s kept key = sym (pod_shown q key h) ∙ ap (of_kind pod_in) (sym (s.objects key) ∙ kept key)

pub new_stands : (q : Identity) (h : List Entry) (c : Cluster) → ticks q h ≡ 0 → CacheStands q h c.cache → ((key : Key) → kept_in c.cache key ≡ None) → c.mode ≡ false
    → ((n : ℕ) → contains nat_cmp c.unclean n ≡ false) → ((key : Key) → due_in c.dues key ≡ Never) → ClusterStands q h c
new_stands q h c none cache kept off clean never = record {
  cache = cache;
  mode = off ∙ sym (mode_none q h none);
  unclean = λ n out. clean n ∙ sym (unseen_clean q n h (sym (node_shown q n h) ∙ ap (of_kind node_in) (nothing (node_key n))));
  dues = λ key out added. never key ∙ sym (unseen_never q key h (unseen key));
  kinds = record { pods = λ key there. absurd (false_is (sym (ap has (unseen key)) ∙ there)); nodes = λ n there. absurd (false_is (sym (ap has (nothing (node_key n))) ∙ there)) };
}
  where
    nothing : (key : Key) → shown q key h ≡ None
    nothing key = sym (cache.objects key) ∙ kept key

    unseen : (key : Key) → seen_pod q key h ≡ None
    unseen key = sym (pod_shown q key h) ∙ ap (of_kind pod_in) (nothing key)
