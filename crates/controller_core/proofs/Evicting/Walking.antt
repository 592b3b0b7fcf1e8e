-- The walk over the due pods is the walk over all pods.
use Rattle.std.proofs.Common.{◌≡◌, ◌∙◌, ℕ, ◌+◌, ◌≤◌, ◌&&◌, not, Bool, true, false, cond, List, Option, Some, None, refl, sym, ap, subst, Less, Equal, Greater}
use Rattle.std.specs.BTreeSet.{BTreeSet, contains}
use Rattle.std.specs.Ordering.{is_eq, is_gt, is_lt, ordering_reverse}
use Rattle.std.specs.declared.cmp.Ordering.{Ordering}
use Rattle.kube_objects.specs.declared.deed.Deed.{Deed}
use Rattle.kube_objects.specs.declared.key.Key.{Key}
use Rattle.kube_objects.specs.Clocks.{wall}
use Rattle.kube_objects.specs.Document.{Doc}
use Rattle.kube_objects.specs.Entry.{Entry, Identity}
use Rattle.kube_objects.specs.Keys.{key_cmp, key_eq}
use Rattle.kube_objects.specs.Seen.{is_pod, pod_keys}
use Rattle.kube_objects.specs.Tick.{evict, evicted, for_each}
use Rattle.history_laws.proofs.Plainly.{false_is}
use Rattle.object_store.specs.declared.store.Store.{Store}
use Rattle.tick_laws.specs.Judged.{is_by_now, term_due}
use Rattle.tick_laws.specs.Steps.{tick_cost}
use Rattle.tick_laws.specs.Walks.{Among, after, is_after}
use Rattle.tick_laws.proofs.Evicting.{due_among, evict_adds, evict_end, evict_next, evict_others, evicted_free, term_is_pod}
use Rattle.tick_laws.proofs.Orders.{keys_strict}
use Rattle.tick_laws.proofs.Steps.{cost_delete}
use Rattle.tick_laws.proofs.Ticked.{evict_ticked}
use Rattle.tick_laws.proofs.Walks.{after_none}
use Rattle.term_state.specs.declared.cluster.Cluster.{Cluster}
use Rattle.term_state.specs.declared.told.Told.{Told}
use Rattle.term_state.specs.declared.view.View.{View}
use Rattle.term_state.specs.ClusterStands.{but_pod, no_node, no_pod}
use Rattle.term_state.specs.MidTick.{IsView}
use Rattle.term_state.proofs.Viewing.{view_ticked}
use Rattle.term_state.proofs.Settling.{settled_wider}
use Rattle.term_state.proofs.Widen.{widen}
use Rattle.controller_core.proofs.Cursors.{less_is}
use Rattle.controller_core.specs.Deleting.{Deleting, DuesBut}

-- ---- the order of keys

not_less : (o : Ordering) → is_lt o ≡ false → (o ≡ Equal → ⊥) → o ≡ Greater
not_less Less is differ = absurd (false_is (sym is))
not_less Equal is differ = absurd (differ refl)
not_less Greater is differ = refl

less_differs : (a b : Key) → key_cmp a b ≡ Less → key_eq a b ≡ false
less_differs a b less = ap is_eq less

-- ---- dues that are taken out

-- what stands but for some stands but for more
pub dues_wider : (doc : Doc) (q : Identity) (h : List Entry) (pods more : Key → Bool) (c : Cluster) → ((key : Key) → more key ≡ false → pods key ≡ false) → DuesBut doc q h pods c → DuesBut doc q h more c
dues_wider doc q h pods more c f s = record {
  cluster = widen q h no_node no_node pods more c (λ x is. is) f s.cluster;
  from = s.from;
  settled = settled_wider doc q h pods more c f s.settled;
}

-- ---- within the walk: of the pods after c those to do are the due ones, and of the others none is to do

pub record Evicting (doc : Doc) (k : ℕ) (q : Identity) (before : List Deed) (h now : List Entry) (c : Option Key) (todo : BTreeSet Key) (l : Cluster) (s : Store) (v : View) (t : Told) : Type 0 where
  pub free : doc.settings.rules.evict_burst ≡ 0
  pub deleting : Deleting doc q k before now (λ p. contains key_cmp todo p) l s t
  pub view : IsView doc k q now v
  pub follows : for_each (evict doc k q) (after key_cmp c (pod_keys h)) now ≡ evicted doc k q h
  pub due : (p : Key) → is_after key_cmp c p ≡ true → contains key_cmp todo p ≡ is_by_now (wall doc q.process k) (term_due doc q p now)
  pub passed : (p : Key) → is_after key_cmp c p ≡ false → contains key_cmp todo p ≡ false
  pub untouched : (p : Key) → is_after key_cmp c p ≡ true → term_due doc q p now ≡ term_due doc q p h

pub begin_evicting : (doc : Doc) (k : ℕ) (q : Identity) (before : List Deed) (h : List Entry) (todo : BTreeSet Key) (l : Cluster) (s : Store) (v : View) (t : Told)
    → doc.settings.rules.evict_burst ≡ 0 → Deleting doc q k before h (λ p. contains key_cmp todo p) l s t → IsView doc k q h v
    → ((p : Key) → contains key_cmp todo p ≡ is_by_now (wall doc q.process k) (term_due doc q p h)) → Evicting doc k q before h h None todo l s v t
begin_evicting doc k q before h todo l s v t free d view due = record {
  free = free;
  deleting = d;
  view = view;
  follows = ap (λ xs. for_each (evict doc k q) xs h) (after_none key_cmp keys_strict (pod_keys h)) ∙ sym (evicted_free doc free k q h);
  due = λ p is. due p;
  passed = λ p is. absurd (false_is (sym is));
  untouched = λ p is. refl;
}

module _ (doc : Doc) (k : ℕ) (q : Identity) (before : List Deed) (h now : List Entry) (c : Option Key) (todo : BTreeSet Key) (l : Cluster) (s : Store) (v : View) (t : Told) (w : Evicting doc k q before h now c todo l s v t) where
  pub later : (n : Key) → contains key_cmp todo n ≡ true → is_after key_cmp c n ≡ true
  later n there = by_test (is_after key_cmp c n) refl
    where
      by_test : (b : Bool) → is_after key_cmp c n ≡ b → b ≡ true
      by_test true is = refl
      by_test false out = absurd (false_is (sym (w.passed n out) ∙ there))

  pub is_due : (n : Key) → contains key_cmp todo n ≡ true → is_by_now (wall doc q.process k) (term_due doc q n now) ≡ true
  is_due n there = sym (w.due n (later n there)) ∙ there

  pub next_evicting : (n : Key) (left : BTreeSet Key) (m : Cluster) (z : Store) (u : Told) → contains key_cmp todo n ≡ true
      → ((p : Key) → contains key_cmp todo p ≡ true → is_gt (key_cmp n p) ≡ false) → ((p : Key) → contains key_cmp left p ≡ cond (key_eq n p) false (contains key_cmp todo p))
      → Deleting doc q k before (evict doc k q n now) (but_pod n (λ p. contains key_cmp todo p)) m z u
      → Evicting doc k q before h (evict doc k q n now) (Some n) left m z v u
  next_evicting n left m z u there least has d = record {
    free = w.free;
    deleting = record {
      dues = dues_wider doc q (evict doc k q n now) (but_pod n (λ p. contains key_cmp todo p)) (λ p. contains key_cmp left p) m (λ p out. closed_at (key_eq n p) (contains key_cmp todo p) (sym (has p) ∙ out)) d.dues;
      moved = d.moved;
      store = d.store;
      told = d.told;
      synced = d.synced;
    };
    view = view_ticked doc k q now (evict doc k q n now) v (evict_ticked doc k q n now) w.view;
    follows = sym (evict_next doc k q c n h now (later n there) named idle) ∙ w.follows;
    due = λ p after_n.
        let less = less_is (key_cmp n p) after_n in
        has p ∙ ap (λ b. cond b false (contains key_cmp todo p)) (less_differs n p less)
        ∙ w.due p (more p less)
        ∙ ap (is_by_now (wall doc q.process k)) (sym (evict_others doc k q n now kind p (less_differs n p less)));
    passed = λ p out. has p ∙ by_same p (key_eq n p) refl out;
    untouched = λ p after_n.
        let less = less_is (key_cmp n p) after_n in
        evict_others doc k q n now kind p (less_differs n p less) ∙ w.untouched p (more p less);
  }
    where
      kind : is_pod n.kind ≡ true
      kind = term_is_pod doc (wall doc q.process k) q n now (is_due n there)

      more : (p : Key) → key_cmp n p ≡ Less → is_after key_cmp c p ≡ true
      more p less = by_cursor c (later n there)
        where
          by_cursor : (c : Option Key) → is_after key_cmp c n ≡ true → is_after key_cmp c p ≡ true
          by_cursor None is = refl
          by_cursor (Some x) is = ap is_lt (keys_strict.total.trans x n p (less_is (key_cmp x n) is) less)

      closed_at : (b e : Bool) → cond b false e ≡ false → (e && not b) ≡ false
      closed_at true true out = refl
      closed_at true false out = refl
      closed_at false true out = out
      closed_at false false out = refl

      named : Among n (pod_keys h)
      named = (due_among doc q h n (wall doc q.process k) (ap (is_by_now (wall doc q.process k)) (sym (w.untouched n (later n there))) ∙ is_due n there)).1

      out_before : (p : Key) → is_gt (key_cmp n p) ≡ true → contains key_cmp todo p ≡ false
      out_before p greater = by_test (contains key_cmp todo p) refl
        where
          by_test : (b : Bool) → contains key_cmp todo p ≡ b → b ≡ false
          by_test true in_todo = absurd (false_is (sym (least p in_todo) ∙ greater))
          by_test false out = refl

      turned : (p : Key) → key_cmp p n ≡ Less → is_gt (key_cmp n p) ≡ true
      turned p less = ap is_gt (keys_strict.total.antisymm n p ∙ ap ordering_reverse less)

      idle : (p : Key) → is_after key_cmp c p ≡ true → key_cmp p n ≡ Less → is_by_now (wall doc q.process k) (term_due doc q p now) ≡ false
      idle p after_c less = sym (w.due p after_c) ∙ out_before p (turned p less)

      by_same : (p : Key) (b : Bool) → key_eq n p ≡ b → is_lt (key_cmp n p) ≡ false → cond b false (contains key_cmp todo p) ≡ false
      by_same p true same out = refl
      by_same p false differ out = out_before p (ap is_gt (not_less (key_cmp n p) out (λ equal. false_is (sym differ ∙ ap is_eq equal))))

  pub end_history : ((p : Key) → contains key_cmp todo p ≡ false) → now ≡ evicted doc k q h
  end_history empty = sym (evict_end doc k q c h now (λ p after_c. sym (w.due p after_c) ∙ empty p)) ∙ w.follows

  pub end_evicting : ((p : Key) → contains key_cmp todo p ≡ false) → Deleting doc q k before (evicted doc k q h) no_pod l s t
  end_evicting empty = subst (λ g. Deleting doc q k before g no_pod l s t) (end_history empty)
      (record {
        dues = dues_wider doc q now (λ p. contains key_cmp todo p) no_pod l (λ p is. empty p) w.deleting.dues;
        moved = w.deleting.moved;
        store = w.deleting.store;
        told = w.deleting.told;
        synced = w.deleting.synced;
      })

-- ---- steps

pub evict_costs : (doc : Doc) (k : ℕ) (q : Identity) (pod : Key) (h : List Entry) → is_by_now (wall doc q.process k) (term_due doc q pod h) ≡ true → 2 + tick_cost q k h ≤ tick_cost q k (evict doc k q pod h)
evict_costs doc k q pod h now =
    let d = evict_adds doc k q pod h now in
    subst (λ g. 2 + tick_cost q k h ≤ tick_cost q k g) (sym d.is) (cost_delete q k h pod d.given d.node_given d.at d.tried)
