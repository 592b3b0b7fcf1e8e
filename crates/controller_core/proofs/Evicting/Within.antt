-- The walk over the pods that are due first, within a limit, is the walk over all dues.
use Rattle.std.proofs.Common.{◌≡◌, ◌∙◌, ℕ, ◌+◌, ◌≤◌, ◌==◌, not, Bool, true, false, List, [], ◌∷◌, Option, Some, None, inl, inr, refl, sym, ap, subst, Less, Equal, Greater, arith}
use Rattle.std.specs.Prelude.{if◌then◌else◌}
use Rattle.std.proofs.lemmas.Bool.{le-leb}
use Rattle.std.proofs.lemmas.Bool.Decides.{nat_tests}
use Rattle.std.specs.Ordering.{is_gt, is_lt, ordering_reverse}
use Rattle.std.specs.declared.cmp.Ordering.{Ordering}
use Rattle.kube_base.specs.declared.numbers.Version.{Version}
use Rattle.kube_objects.specs.declared.call.Answer.{Answer}
use Rattle.kube_objects.specs.declared.deed.Deed.{Deed}
use Rattle.kube_objects.specs.declared.key.Key.{Key}
use Rattle.kube_objects.specs.declared.pod.Due.{Due}
use Rattle.kube_objects.specs.declared.pod.Due.TheVariants.{Never, At}
use Rattle.kube_objects.specs.declared.rules.EvictRule.{EvictRule}
use Rattle.kube_objects.specs.declared.rules.EvictRule.TheVariants as evictions
use Rattle.kube_objects.specs.Clocks.{local, wall}
use Rattle.kube_objects.specs.Document.{Doc}
use Rattle.kube_objects.specs.Entry.{Delete, Entry, Identity, Ticks, entry}
use Rattle.kube_objects.specs.Keys.{key_eq}
use Rattle.kube_objects.specs.Seen.{is_pod, pod_keys}
use Rattle.kube_objects.specs.Tick as model
use Rattle.kube_objects.specs.Tick.{add, dues, evict, evict_within, evicted, for_each, has_room}
use Rattle.kube_objects.specs.Wire.{loses_requests}
use Rattle.kube_objects.proofs.KeyOrder.{key_itself, same_key}
use Rattle.history_laws.proofs.Plainly.{false_is, true_is}
use Rattle.history_laws.proofs.Ticks.{pods_of_dues}
use Rattle.evict_queue.specs.Order.{IsNotAfter, timed_cmp}
use Rattle.object_store.proofs.Keeps.{store-beside}
use Rattle.object_store.specs.declared.store.Store.{Store}
use Rattle.rate_bucket.specs.Allowing.{Allowed, taken}
use Rattle.tick_laws.specs.Judged.{due_by, is_by_now, term_due}
use Rattle.tick_laws.specs.Room.{AreInBeats, AreUpTo}
use Rattle.tick_laws.specs.Steps.{tick_cost}
use Rattle.tick_laws.specs.Walks.{Among, after, is_after}
use Rattle.tick_laws.proofs.Evicting.{due_among, due_seen, due_sighted, evict_idle, evict_others, pod_kinds, term_is_pod}
use Rattle.tick_laws.proofs.Frames.{delete_change}
use Rattle.tick_laws.proofs.Named.{pod_keys_ascend}
use Rattle.tick_laws.proofs.Phases.{evicted_keeps}
use Rattle.tick_laws.proofs.Room.{beats_more}
use Rattle.tick_laws.proofs.Steps.{cost_grows}
use Rattle.tick_laws.proofs.Ticked.{evict_ticked, own_before}
use Rattle.tick_laws.proofs.Walks.{after_none, walk_end_among, walk_next_among}
use Rattle.term_state.specs.declared.cluster.Cluster.{Cluster}
use Rattle.term_state.specs.declared.told.Told.{Told}
use Rattle.term_state.specs.declared.view.View.{View}
use Rattle.term_state.specs.ClusterStands.{no_node, no_pod}
use Rattle.term_state.specs.MidTick.{IsView}
use Rattle.term_state.specs.Queues.{IsFirstDue}
use Rattle.term_state.proofs.Aside.{refused_moved, same_aside}
use Rattle.term_state.proofs.Telling.{told_beside}
use Rattle.term_state.proofs.Viewing.{view_ticked}
use Rattle.controller_core.specs.Allowing.{AllowanceStands}
use Rattle.controller_core.specs.Costs.{HaveCost}
use Rattle.controller_core.specs.Deleting.{Deleting}
use Rattle.controller_core.proofs.Allowed.{allowance_lost, allowance_taken}
use Rattle.controller_core.proofs.Evicting.Attempting.{Deletes, delete_answered, delete_lost}
use Rattle.controller_core.proofs.Evicting.Dues.{dues_ascend, dues_only, timed_strict}
use Rattle.controller_core.proofs.Evicting.Settled.{answered_never, settled_same}

-- ---- by when a pod is due

-- a pod that isn't stale is due as its taints or its row say
due_names : (doc : Doc) (q : Identity) (pod : Key) (h : List Entry) (at : ℕ) → term_due doc q pod h ≡ At at → model.due_by doc.settings.rules.evict_from doc q pod h ≡ At at
due_names doc q pod h at is = by_rule doc.settings.rules.evict_from is
  where
    by_rule : (rule : EvictRule) → due_by rule doc q pod h ≡ At at → model.due_by rule doc q pod h ≡ At at
    by_rule evictions.Added is =
        let s = due_seen q pod h at is in
        ap (λ o. model.due_seen q o h) s.sees ∙ ap (model.due_on_seen s.x.1) s.sees_node ∙ s.time
    by_rule evictions.Seen is = (due_sighted doc q pod h at is).time

at_same : (a b : ℕ) → At a ≡ At b → a ≡ b
at_same a b is = cc

by_time : (now : ℕ) (d : Due) → is_by_now now d ≡ true → (at : ℕ) × (d ≡ At at)
by_time now Never is = absurd (false_is is)
by_time now (At at) is = (at, refl)

-- what comes before isn't what comes first
not_first : (n m : ℕ × Key) → timed_cmp m n ≡ Less → IsNotAfter n m → ⊥
not_first n m less first = false_is (sym first ∙ ap is_gt (timed_strict.total.antisymm n m ∙ ap ordering_reverse less))

comes_after : (o : Ordering) → is_gt o ≡ false → (o ≡ Equal → ⊥) → is_lt o ≡ true
comes_after Less first differ = refl
comes_after Equal first differ = absurd (differ refl)
comes_after Greater first differ = absurd (false_is (sym first))

-- ---- within the walk

pub record Within (doc : Doc) (k : ℕ) (q : Identity) (before : List Deed) (h now : List Entry) (c : Option (ℕ × Key)) (a : Allowed) (l : Cluster) (s : Store) (v : View) (t : Told) : Type 0 where
  pub some : 1 ≤ doc.settings.rules.evict_burst
  pub deleting : Deleting doc q k before now no_pod l s t
  pub view : IsView doc k q now v
  pub allowance : AllowanceStands doc q now a
  pub beats : AreInBeats now × AreUpTo k now
  pub follows : for_each (evict_within doc k q) (after timed_cmp c (dues doc q (pod_keys h) h)) now ≡ evicted doc k q h
  pub kept : (p : Key) (at : ℕ) → term_due doc q p now ≡ At at → (term_due doc q p h ≡ At at) × (is_after timed_cmp c (at, p) ≡ true)

-- with a limit each due has its turn, in order
evicted_limited : (doc : Doc) → 1 ≤ doc.settings.rules.evict_burst → (k : ℕ) (q : Identity) (h : List Entry) → evicted doc k q h ≡ for_each (evict_within doc k q) (dues doc q (pod_keys h) h) h
evicted_limited doc some k q h =
    ap (λ b. elim b [ true ↦ for_each (evict doc k q) (pod_keys h) h | false ↦ for_each (evict_within doc k q) (dues doc q (pod_keys h) h) h ]) limited
  where
    limited : (doc.settings.rules.evict_burst == 0) ≡ false
    limited = grind (arith, nat_tests, some)

pub begin_within : (doc : Doc) (k : ℕ) (q : Identity) (before : List Deed) (h : List Entry) (a : Allowed) (l : Cluster) (s : Store) (v : View) (t : Told) → 1 ≤ doc.settings.rules.evict_burst
    → Deleting doc q k before h no_pod l s t → IsView doc k q h v → AllowanceStands doc q h a → AreInBeats h × AreUpTo k h → Within doc k q before h h None a l s v t
begin_within doc k q before h a l s v t some d view allowance beats = record {
  some = some;
  deleting = d;
  view = view;
  allowance = allowance;
  beats = beats;
  follows = ap (λ xs. for_each (evict_within doc k q) xs h) (after_none timed_cmp timed_strict (dues doc q (pod_keys h) h)) ∙ sym (evicted_limited doc some k q h);
  kept = λ p at is. (is, refl);
}

module _ (doc : Doc) (k : ℕ) (q : Identity) where
  -- where there is no room, nothing is deleted
  full_idle : (x : ℕ × Key) (g : List Entry) → has_room doc q k 0 g ≡ false → evict_within doc k q x g ≡ g
  full_idle x g full = ap (λ b. (if b then evict doc k q x.1 g else g)) full

  full_end : (xs : List (ℕ × Key)) (g : List Entry) → has_room doc q k 0 g ≡ false → for_each (evict_within doc k q) xs g ≡ g
  full_end [] g full = refl
  full_end (x ∷ xs) g full = ap (for_each (evict_within doc k q) xs) (full_idle x g full) ∙ full_end xs g full

  -- nor where nothing is due
  quiet_idle : (x : ℕ × Key) (g : List Entry) → evict doc k q x.1 g ≡ g → evict_within doc k q x g ≡ g
  quiet_idle x g quiet = by_room (has_room doc q k 0 g)
    where
      by_room : (b : Bool) → (if b then evict doc k q x.1 g else g) ≡ g
      by_room true = quiet
      by_room false = refl

module _ (doc : Doc) (k : ℕ) (q : Identity) (before : List Deed) (h now : List Entry) (c : Option (ℕ × Key)) (a : Allowed) (l : Cluster) (s : Store) (v : View) (t : Told) (w : Within doc k q before h now c a l s v t) where
  abbrev all : List (ℕ × Key)
  all = dues doc q (pod_keys h) h

  abbrev time : ℕ
  time = wall doc q.process k

  -- a pod among the dues that isn't due by now
  idle_quiet : (m : ℕ × Key) → Among m all → is_by_now time (term_due doc q m.1 now) ≡ false → evict_within doc k q m now ≡ now
  idle_quiet m there quiet = quiet_idle doc k q m now (evict_idle doc k q m.1 now (pod_kinds h m.1 (dues_only doc q h (pod_keys h) m there).0) quiet)

  -- the time for which it stands there
  same_time : (m : ℕ × Key) → Among m all → (at : ℕ) → term_due doc q m.1 now ≡ At at → at ≡ m.0
  same_time m there at is = at_same at m.0 (sym (due_names doc q m.1 h at (w.kept m.1 at is).0) ∙ (dues_only doc q h (pod_keys h) m there).1)

  pub end_full : has_room doc q k 0 now ≡ false → now ≡ evicted doc k q h
  end_full full = sym (full_end doc k q (after timed_cmp c all) now full) ∙ w.follows

  pub end_quiet : ((p : Key) → is_by_now time (term_due doc q p now) ≡ false) → now ≡ evicted doc k q h
  end_quiet quiet =
      sym (walk_end_among timed_cmp timed_strict (evict_within doc k q) c all now (dues_ascend doc q h (pod_keys h) (pod_keys_ascend h)) (λ m there after_c. idle_quiet m there (quiet m.1))) ∙ w.follows

  -- the pod that is due first
  module _ (pod : Key) (first : IsFirstDue doc q now time pod) (room : has_room doc q k 0 now ≡ true) where
    abbrev n : ℕ × Key
    n = (first.at, pod)

    pub first_now : is_by_now time (term_due doc q pod now) ≡ true
    first_now = ap (is_by_now time) first.due ∙ le-leb first.at time first.by_now

    listed : Among n all
    listed =
        let was = (w.kept pod first.at first.due).0 in
        let there = (due_among doc q h pod time (ap (is_by_now time) (was ∙ sym first.due) ∙ first_now)).1 in
        pods_of_dues doc q h (pod_keys h) pod first.at (due_names doc q pod h first.at was) there

    -- nothing before it is due
    idle_before : (m : ℕ × Key) → Among m all → is_after timed_cmp c m ≡ true → timed_cmp m n ≡ Less → evict_within doc k q m now ≡ now
    idle_before m there after_c less = by_test (is_by_now time (term_due doc q m.1 now)) refl
      where
        by_test : (b : Bool) → is_by_now time (term_due doc q m.1 now) ≡ b → evict_within doc k q m now ≡ now
        by_test false quiet = idle_quiet m there quiet
        by_test true is =
            let found = by_time time (term_due doc q m.1 now) is in
            absurd (not_first n m less (subst (λ at. IsNotAfter n (at, m.1)) (same_time m there found.0 found.1) (first.first m.1 found.0 found.1)))

    takes : evict_within doc k q n now ≡ evict doc k q pod now
    takes = ap (λ b. (if b then evict doc k q pod now else now)) room

    next_follows : for_each (evict_within doc k q) (after timed_cmp (Some n) all) (evict doc k q pod now) ≡ evicted doc k q h
    next_follows =
        ap (for_each (evict_within doc k q) (after timed_cmp (Some n) all)) (sym takes)
        ∙ sym (walk_next_among timed_cmp timed_strict (evict_within doc k q) c n all now (w.kept pod first.at first.due).1 (dues_ascend doc q h (pod_keys h) (pod_keys_ascend h)) listed idle_before)
        ∙ w.follows

    kind : is_pod pod.kind ≡ true
    kind = term_is_pod doc time q pod now first_now

    -- what is due after it was due before, and comes later
    next_kept : term_due doc q pod (evict doc k q pod now) ≡ Never → (p : Key) (at : ℕ) → term_due doc q p (evict doc k q pod now) ≡ At at → (term_due doc q p h ≡ At at) × (is_after timed_cmp (Some n) (at, p) ≡ true)
    next_kept never p at is = by_test (key_eq pod p) refl
      where
        gone : At at ≡ Never → ⊥
        gone is = cc

        by_test : (b : Bool) → key_eq pod p ≡ b → (term_due doc q p h ≡ At at) × (is_after timed_cmp (Some n) (at, p) ≡ true)
        by_test true same = absurd (gone (sym is ∙ ap (λ x. term_due doc q x (evict doc k q pod now)) (sym (same_key pod p same)) ∙ never))
        by_test false apart =
            let due = sym (evict_others doc k q pod now kind p apart) ∙ is in (
              (w.kept p at due).0,
              comes_after (timed_cmp n (at, p)) (first.first p at due) (λ equal. true_is (sym (key_itself pod) ∙ ap (λ (y : ℕ × Key). key_eq pod y.1) (timed_strict.same n (at, p) equal) ∙ apart)),
            )

    -- ---- its delete is answered, and takes a token

    module _ (b : Allowed) (m : Cluster) (z : Store) (u : Told) (passes : loses_requests q.process now ≡ false) (d : Deleting doc q k before (evict doc k q pod now) no_pod m z u) where
      pub next_within : (reading : ℕ) → reading ≡ local doc q.process k → b ≡ taken a reading → Within doc k q before h (evict doc k q pod now) (Some n) b m z v u
      next_within reading is taken_is = by_delete (delete_answered doc.settings.rules.evict_from doc k q pod now first_now passes)
        where
          by_delete : (x : Answer) × Deletes doc.settings.rules.evict_from doc k q pod now (Some x) → Within doc k q before h (evict doc k q pod now) (Some n) b m z v u
          by_delete (x, e) = record {
            some = w.some;
            deleting = d;
            view = view_ticked doc k q now (evict doc k q pod now) v (evict_ticked doc k q pod now) w.view;
            allowance = subst (λ g. AllowanceStands doc q g b) (sym e.is) (subst (AllowanceStands doc q _) (sym taken_is) (allowance_taken doc k q now a reading is w.some w.allowance pod e.given e.node_given e.at x));
            beats = subst (λ g. AreInBeats g × AreUpTo k g) (sym e.is) (beats_more k q (Delete pod e.given e.node_given e.at (Some x)) now w.beats.1 w.beats.0);
            follows = next_follows;
            kept = next_kept (ap (term_due doc q pod) e.is ∙ answered_never doc k q now pod e.given e.node_given e.at kind doc.settings.rules.evict_from x);
          }

-- ---- where requests are lost nothing changes

record Lost (doc : Doc) (k : ℕ) (q : Identity) (before : List Deed) (g : List Entry) (a : Allowed) (l : Cluster) (s : Store) (v : View) (t : Told) : Type 0 where
  deleting : Deleting doc q k before g no_pod l s t
  view : IsView doc k q g v
  allowance : AllowanceStands doc q g a

module _ (doc : Doc) (k : ℕ) (q : Identity) (before : List Deed) (a : Allowed) (l : Cluster) (s : Store) (v : View) (t : Told) (lost : v.passes ≡ false) where
  lost_delete : (pod : Key) (given node_given : Version) (at : ℕ) (g : List Entry) → Deleting doc q k before g no_pod l s t → Deleting doc q k before (add k q (Delete pod given node_given at None) g) no_pod l s t
  lost_delete pod given node_given at g d =
      let made = Delete pod given node_given at None in
      let same = delete_change q k g pod given node_given at None in
      record {
        dues = record {
          cluster = same_aside q g (add k q made g) no_node no_pod l same d.dues.cluster;
          from = d.dues.from;
          settled = settled_same doc.settings.rules.evict_from doc k q made g no_pod l same d.dues.settled;
        };
        moved = refused_moved q g (add k q made g) None same k l l (own_before q k made g) (λ n. refl) d.moved;
        store = store-beside g (entry k 4 q (Ticks made)) s d.store refl;
        told = told_beside q k before g made t refl d.told;
        synced = same.synced ∙ d.synced;
      }

  lost_evict : (pod : Key) → is_pod pod.kind ≡ true → (g : List Entry) → Lost doc k q before g a l s v t → Lost doc k q before (evict doc k q pod g) a l s v t
  lost_evict pod kind g p = by_due (is_by_now (wall doc q.process k) (term_due doc q pod g)) refl
    where
      loses : loses_requests q.process g ≡ true
      loses = by_test (loses_requests q.process g) (sym lost ∙ p.view.passes)
        where
          by_test : (b : Bool) → false ≡ not b → b ≡ true
          by_test true is = refl
          by_test false is = absurd (false_is is)

      by_due : (b : Bool) → is_by_now (wall doc q.process k) (term_due doc q pod g) ≡ b → Lost doc k q before (evict doc k q pod g) a l s v t
      by_due false quiet = subst (λ f. Lost doc k q before f a l s v t) (sym (evict_idle doc k q pod g kind quiet)) p
      by_due true now =
          let e = delete_lost doc.settings.rules.evict_from doc k q pod g now loses in
          record {
            deleting = subst (λ f. Deleting doc q k before f no_pod l s t) (sym e.is) (lost_delete pod e.given e.node_given e.at g p.deleting);
            view = view_ticked doc k q g (evict doc k q pod g) v (evict_ticked doc k q pod g) p.view;
            allowance = subst (λ f. AllowanceStands doc q f a) (sym e.is) (allowance_lost doc k q pod e.given e.node_given e.at g a p.allowance);
          }

  lost_step : (x : ℕ × Key) → is_pod x.1.kind ≡ true → (g : List Entry) → Lost doc k q before g a l s v t → Lost doc k q before (evict_within doc k q x g) a l s v t
  lost_step x kind g p = by_room (has_room doc q k 0 g)
    where
      by_room : (b : Bool) → Lost doc k q before (if b then evict doc k q x.1 g else g) a l s v t
      by_room true = lost_evict x.1 kind g p
      by_room false = p

  lost_each : (xs : List (ℕ × Key)) → ((x : ℕ × Key) → Among x xs → is_pod x.1.kind ≡ true) → (g : List Entry) → Lost doc k q before g a l s v t → Lost doc k q before (for_each (evict_within doc k q) xs g) a l s v t
  lost_each [] kinds g p = p
  lost_each (x ∷ xs) kinds g p = lost_each xs (λ y there. kinds y (inr there)) (evict_within doc k q x g) (lost_step x (kinds x (inl refl)) g p)

  pub lost_all : (h : List Entry) → 1 ≤ doc.settings.rules.evict_burst → Deleting doc q k before h no_pod l s t → IsView doc k q h v → AllowanceStands doc q h a
      → Deleting doc q k before (evicted doc k q h) no_pod l s t × AllowanceStands doc q (evicted doc k q h) a
  lost_all h some d view allowance =
      let all = lost_each (dues doc q (pod_keys h) h) (λ x there. pod_kinds h x.1 (dues_only doc q h (pod_keys h) x there).0) h (record { deleting = d; view = view; allowance = allowance }) in
      subst (λ g. Deleting doc q k before g no_pod l s t × AllowanceStands doc q g a) (sym (evicted_limited doc some k q h)) (all.deleting, all.allowance)

-- steps that were counted before
pub evicted_costs : (doc : Doc) (k : ℕ) (q : Identity) (h : List Entry) (steps : ℕ) → HaveCost q k h (evicted doc k q h) (steps + 1) steps
evicted_costs doc k q h steps =
    let grows = evicted_keeps doc k q (λ g. tick_cost q k h ≤ tick_cost q k g) (λ pod given node_given at a g kind le. omega (arith, le, cost_grows q k g (Delete pod given node_given at a))) h (omega arith) in
    omega (arith, grows)
