-- A node with the opposite of its wanted taint is swapped at once, under the project's own rules.
use Rattle.std.proofs.Common.{◌≡◌, ◌∙◌, ◌⊎◌, ℕ, suc, ◌==◌, ◌&&◌, ◌||◌, not, Bool, true, false, List, [], ◌∷◌, Option, Some, None, refl, sym, ap, subst, inl, inr, if◌then◌else◌}
use Rattle.std.specs.Prelude.{if◌then◌else◌}
use Rattle.std.proofs.lemmas.Bool.{eqb-true, eq-eqb}
use Rattle.kube_base.specs.declared.numbers.Version.{Version}
use Rattle.kube_objects.specs.declared.call.Answer.{Answer}
use Rattle.kube_objects.specs.declared.call.Answer.TheVariants as answer
use Rattle.kube_objects.specs.declared.key.Key.{Key}
use Rattle.kube_objects.specs.declared.node.Node.{Node}
use Rattle.kube_objects.specs.Document.{Doc}
use Rattle.kube_objects.specs.Entry.{Entry, Identity, Ticks, Tick, Sync, Untaint, Swap, Delete, entry}
use Rattle.kube_objects.specs.InForce.{watches}
use Rattle.kube_objects.specs.Modes.{mode}
use Rattle.kube_objects.specs.Newest.{newest, only_if, or_else}
use Rattle.kube_objects.specs.Own.{ReleasesByStop, JudgesByOwn}
use Rattle.kube_objects.specs.Seen.{seen_node, is_fresh, stale_tick, stale_says, is_stale, node_names}
use Rattle.kube_objects.specs.Stored.{node_key, next_version}
use Rattle.kube_objects.specs.Tainting.{Wanted, wants}
use Rattle.kube_objects.specs.Tick.{add, for_each, is_stripped, new_taint, swapped, clean}
use Rattle.kube_objects.specs.Tries.{try_node}
use Rattle.kube_objects.proofs.Own.{cleaned-own, stripped-own}
use Rattle.history.specs.Evictions.{after_turn}
use Rattle.history.specs.History.{history, at_turn}
use Rattle.history_laws.specs.Tails.{IsTail}
use Rattle.history_laws.proofs.Plainly.{upper, same_self, true_is, false_is}
use Rattle.history_laws.proofs.Tailed.{tail_trans}
use Rattle.history_laws.proofs.Walk.{Ticking, walk_to_tick, walk_at_turn}
use Rattle.history_laws.proofs.Ticks.{every}
use Rattle.eviction_laws.proofs.Current.{Unstale}
use Rattle.eviction_laws.proofs.Turns.{unstale_keeps, unstale_release, put_unstale}
use Rattle.outage_laws.specs.Attended.{IsAttended}
use Rattle.outage_laws.specs.Passes.{synced_at}
use Rattle.outage_laws.proofs.Turns.{ready}
use Rattle.tick_laws.specs.Changes.{IsChange, noted_by, refused_by, cleaning}
use Rattle.tick_laws.specs.Judged.{dirty_as, cleans, is_dirty}
use Rattle.tick_laws.specs.Walks.{Among}
use Rattle.tick_laws.proofs.Cleaning.{tried_dirty, to_clean_kept, clean_adds, clean_either}
use Rattle.tick_laws.proofs.Frames.{cleaning_change, kept_node}
use Rattle.tick_laws.proofs.Named.{node_is_named}
use Rattle.tick_laws.proofs.Phases.{is_passing, pass_keeps}
use Rattle.tick_laws.proofs.Ticked.{ticked_keeps, clean_ticked}
use Rattle.tick_laws.proofs.Tried.{noted_sees}
use Rattle.wave_laws.specs.Waves.{judged_at, queue_at, SwapsAreAtOnce}
use Rattle.wave_laws.proofs.Queue.{begun, Current, current_more, judged_current, queue_tail, in_history}
use Rattle.wave_laws.proofs.Heads.{accepted}

-- ---- before its untaints and swaps an attended tick has no stale key

module _ (doc : Doc) (own : ReleasesByStop doc) (q : Identity) (k : ℕ) (here : IsAttended doc q k) (key : Key) where
  begun_unstale : Unstale q (begun doc q k)
  begun_unstale =
      walk_to_tick doc (Ticking doc) (λ k. Unstale q) (unstale_keeps doc q).turns (unstale_release doc q).turns k q.process here.0.0 (ready doc own q k here).awake (at_turn doc q.process k)
      (walk_at_turn doc (λ k step. Unstale q) (unstale_keeps doc q) (unstale_release doc q) (put_unstale doc q doc.objects [] (λ is key. absurd (false_is is))) q.process k)

  synced_unstale : is_stale q key (synced_at doc q k) ≡ false
  synced_unstale =
      subst (λ b. is_stale q key (if (b && (watches doc q.process (begun doc q k) && not (is_fresh q (begun doc q k)))) then add k q Sync (begun doc q k) else begun doc q k) ≡ false) (sym (ready doc own q k here).settled)
      (subst (λ b. is_stale q key (if (b && not (is_fresh q (begun doc q k))) then add k q Sync (begun doc q k) else begun doc q k) ≡ false) (sym (ready doc own q k here).watching) (by_test (is_fresh q (begun doc q k)) refl))
    where
      by_test : (b : Bool) → is_fresh q (begun doc q k) ≡ b → is_stale q key (if (not b) then add k q Sync (begun doc q k) else begun doc q k) ≡ false
      by_test true is = begun_unstale is key
      by_test false is = ap (λ b. or_else false (upper (only_if b (Some false)) (newest (λ e T. stale_says q key e.actor e.fact) (begun doc q k)))) (same_self q)

  judged_unstale : is_stale q key (judged_at doc q k) ≡ false
  judged_unstale = pass_keeps doc k q (λ g. is_stale q key g ≡ false) more (synced_at doc q k) synced_unstale
    where
      more : (t : Tick) (h : List Entry) → is_passing t ≡ true → is_stale q key h ≡ false → is_stale q key (add k q t h) ≡ false
      more t h is old = ap (λ b. or_else false (upper (only_if b (stale_tick key t)) (newest (λ e T. stale_says q key e.actor e.fact) h))) (same_self q) ∙ by_tick t is
        where
          by_tick : (t : Tick) → is_passing t ≡ true → or_else false (upper (stale_tick key t) (newest (λ e T. stale_says q key e.actor e.fact) h)) ≡ false
          by_tick Sync is = refl
          by_tick (Untaint name given written a) is = absurd (false_is is)
          by_tick (Swap name wanted given written a) is = absurd (false_is is)
          by_tick (Delete pod given node_given at a) is = absurd (false_is is)
          by_tick t is = old

-- ---- the walk over the names

module _ (doc : Doc) (judges : JudgesByOwn doc) (q : Identity) (n wanted k : ℕ) (x : Version × Node) where
  -- an accepted swap of the node stands in a history
  record Stands (h : List Entry) : Type 0 where
    given : Version
    written : Node
    version : Version
    before : List Entry
    stands : IsTail (entry k 4 q (Ticks (Swap n wanted given written (Some (answer.Done version)))) ∷ before) h

  -- before it
  record Ahead (h : List Entry) : Type 0 where
    current : Current q h
    dirty : is_dirty q n h ≡ true
    sees : seen_node q n h ≡ Some x
    wants_it : wants (mode q h) x.1 ≡ Wanted wanted

  sees_on : (h g : List Entry) (m : ℕ) (written : Node) → (m == n) ≡ false → (a : Option Answer) → IsChange q h g (noted_by m written a) (refused_by (node_key m) a) → seen_node q n g ≡ seen_node q n h
  sees_on h g m written apart None s = kept_node q h g None s n
  sees_on h g m written apart (Some (answer.Done v)) s = noted_sees q h g m v written s n apart
  sees_on h g m written apart (Some answer.Absent) s = kept_node q h g (Some (node_key m)) s n
  sees_on h g m written apart (Some answer.Exists) s = kept_node q h g (Some (node_key m)) s n
  sees_on h g m written apart (Some (answer.Conflict v)) s = kept_node q h g (Some (node_key m)) s n

  other : (m : ℕ) → (m == n) ≡ false → (h : List Entry) → Ahead h → Ahead (clean doc k q m h)
  other m apart h s =
      clean_either doc k q m h Ahead s
      (λ t written a is given.
      let change = cleaning_change q k h m written a t is given in
      record {
        current = current_more q k t h s.current;
        dirty = tried_dirty q h (add k q t h) m written a change n apart ∙ s.dirty;
        sees = sees_on h (add k q t h) m written apart a change ∙ s.sees;
        wants_it = ap (λ on. wants on x.1) change.mode ∙ s.wants_it;
      })

  swap_now : (h : List Entry) → Ahead h → Stands (clean doc k q n h)
  swap_now h s =
      subst Stands (sym (clean_adds doc k q n h x (to_clean_kept doc k q n h kept ∙ s.dirty) s.sees))
      (subst (λ w. Stands (add k q (cleaning doc k q n x.0 x.1 w (try_node q n x.0 h)) h)) (sym (ap (λ b. wants (b || mode q h) x.1) kept ∙ s.wants_it))
      (record {
        given = x.0;
        written = swapped (new_taint doc k q wanted) x.1;
        version = next_version h;
        before = h;
        stands = inl (ap (λ a. add k q (Swap n wanted x.0 (swapped (new_taint doc k q wanted) x.1) a) h) (sym (accepted q h n x s.current s.sees)));
      }))
    where
      kept : is_stripped doc.settings.rules.first_sight k q n h ≡ false
      kept = stripped-own doc judges k q n h

  stands_on : (m : ℕ) (h : List Entry) → Stands h → Stands (clean doc k q m h)
  stands_on m h s = ticked_keeps q k Stands (λ t g s. record { given = s.given; written = s.written; version = s.version; before = s.before; stands = inr s.stands }) h (clean doc k q m h) (clean_ticked doc k q m h) s

  reach : (names : List ℕ) (h : List Entry) → Among n names → Ahead h → Stands (for_each (clean doc k q) names h)
  reach [] h there s = absurd there
  reach (m ∷ ms) h there s = by_name (λ apart. reach ms (clean doc k q m h) (later apart there) (other m apart h s)) (m == n) refl
    where
      later : (m == n) ≡ false → (n ≡ m) ⊎ Among n ms → Among n ms
      later apart (inl same) = absurd (true_is (sym (eq-eqb m n (sym same)) ∙ apart))
      later apart (inr below) = below

      by_name : ((m == n) ≡ false → Stands (for_each (clean doc k q) ms (clean doc k q m h))) → (b : Bool) → (m == n) ≡ b → Stands (for_each (clean doc k q) ms (clean doc k q m h))
      by_name below false apart = below apart
      by_name below true same = every (clean doc k q) Stands stands_on ms (clean doc k q m h) (subst (λ m. Stands (clean doc k q m h)) (sym (eqb-true m n same)) (swap_now h s))

pub swaps_are_at_once : SwapsAreAtOnce
swaps_are_at_once doc own judges q n wanted k here x sees wants_it opposite =
    record {
      given = s.given;
      written = s.written;
      version = s.version;
      before = s.before;
      stands = tail_trans _ (queue_at doc q k) (history doc (suc k)) s.stands (tail_trans (queue_at doc q k) (after_turn doc q.process k) (history doc (suc k)) (queue_tail doc own q k here) (in_history doc own q k here));
    }
  where
    h : List Entry
    h = judged_at doc q k

    dirty : is_dirty q n (judged_at doc q k) ≡ true
    dirty =
        ap (λ b. dirty_as b (mode q (judged_at doc q k)) (seen_node q n (judged_at doc q k))) (judged_unstale doc own q k here (node_key n))
        ∙ ap (dirty_as false (mode q (judged_at doc q k))) sees
        ∙ ap (λ w. cleans w x.1) wants_it
        ∙ opposite

    s : Stands doc judges q n wanted k x (queue_at doc q k)
    s =
        subst (Stands doc judges q n wanted k x) (sym (cleaned-own doc judges k q h))
        (reach doc judges q n wanted k x (node_names h) h (node_is_named q n h x sees) (record { current = judged_current doc own q k here; dirty = dirty; sees = sees; wants_it = wants_it }))
