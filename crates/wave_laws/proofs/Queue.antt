-- Who waits since when, from one tick's queues to those of the next one, under the project's own rules.
use Rattle.std.proofs.Common.{◌≡◌, ◌∙◌, ◌≤◌, ◌<◌, ℕ, suc, not, ◌&&◌, Bool, true, false, List, [], ◌∷◌, Some, None, refl, sym, ap, subst, inl, inr, ⊎_elim, arith, if◌then◌else◌}
use Rattle.std.specs.Prelude.{if◌then◌else◌}
use Rattle.kube_objects.specs.declared.deed.Actor.{Actor}
use Rattle.kube_objects.specs.Document.{Doc}
use Rattle.kube_objects.specs.Entry.{Entry, Identity, Place, Fact, Ticks, Tick, Sync}
use Rattle.kube_objects.specs.InForce.{watches}
use Rattle.kube_objects.specs.Modes.{nodes, places}
use Rattle.kube_objects.specs.Newest.{newest, when, or_zero}
use Rattle.kube_objects.specs.Own.{ReleasesByStop, JudgesByOwn}
use Rattle.kube_objects.specs.Seen.{is_fresh}
use Rattle.kube_objects.specs.Tainting.{waits, before_tick, begins_row, queued}
use Rattle.kube_objects.specs.Tick.{add, pass, taint, evicted}
use Rattle.kube_objects.specs.Tokens.{is_base, base}
use Rattle.kube_objects.specs.Wire.{loses_requests}
use Rattle.kube_objects.proofs.Own.{tainted-own}
use Rattle.history.specs.Evictions.{after_turn}
use Rattle.history.specs.History.{history, at_turn}
use Rattle.history.specs.Steps.{elector_turn}
use Rattle.history_laws.specs.Tails.{In, IsTail}
use Rattle.history_laws.proofs.Order.{entries_are_earlier}
use Rattle.history_laws.proofs.Tailed.{tail_all, tail_trans, in_tail, turn_tail, before_turn, later_tail}
use Rattle.history_laws.proofs.Ticks.{every}
use Rattle.eviction_laws.proofs.Cache.{Mirrors, mirrors_sync, mirrors_more, fresh}
use Rattle.row_laws.specs.Keys.{is_ticking}
use Rattle.outage_laws.specs.Attended.{IsAttended}
use Rattle.outage_laws.specs.Passes.{synced_at}
use Rattle.outage_laws.proofs.Passes.{turn_phases}
use Rattle.outage_laws.proofs.Turns.{ready, to_tick, next_turn, below_processes}
use Rattle.watch_cache.specs.Stands.{is_tick_by}
use Rattle.tick_laws.specs.Judged.{waits_since}
use Rattle.tick_laws.specs.Rows.{no_heads, settled, IsFresh}
use Rattle.tick_laws.specs.Ticked.{IsTicked}
use Rattle.tick_laws.proofs.Foreign.{foreign_since}
use Rattle.tick_laws.proofs.Phases.{foreign_limits, sync_heads, pass_heads, cleaned_heads, evicted_limits, evicted_since}
use Rattle.tick_laws.proofs.Tainting.{taint_either, heading_fresh}
use Rattle.tick_laws.proofs.Ticked.{ticked_keeps, ticked_then, ticked_before, sync_ticked, pass_ticked, cleaned_ticked, tainted_ticked, evicted_ticked}
use Rattle.tick_laws.proofs.Waiting.{settle, fresh_settled, no_heads_start}
use Rattle.beat_laws.proofs.Unticked.{elector_unticked, at_turn_unticked}
use Rattle.wave_laws.specs.Waves.{judged_at, queue_at, served_at}

-- as a tick begins
abbrev pub begun : Doc → Identity → ℕ → List Entry
begun doc q k = elector_turn doc k q.process (at_turn doc q.process k)

-- ---- positions

module _ (doc : Doc) (own : ReleasesByStop doc) (q : Identity) (k : ℕ) where
  synced_queue : IsTicked q k (synced_at doc q k) (queue_at doc q k)
  synced_queue =
      let h = synced_at doc q k in
      ticked_then q k h (pass doc k q h) (queue_at doc q k) (pass_ticked doc k q h) (cleaned_ticked doc k q (pass doc k q h))

  begun_queue : IsTicked q k (begun doc q k) (queue_at doc q k)
  begun_queue = ticked_then q k (begun doc q k) (synced_at doc q k) (queue_at doc q k) (sync_ticked doc k q (begun doc q k)) synced_queue

  module _ (attended : IsAttended doc q k) where
    pub queue_tail : IsTail (queue_at doc q k) (after_turn doc q.process k)
    queue_tail =
        let h = queue_at doc q k in
        let a = served_at doc q k in
        subst (IsTail h) (sym (turn_phases doc own q k attended))
        (ticked_keeps q k (IsTail h) (λ t g at. inr at) a (evicted doc k q a) (evicted_ticked doc k q a)
        (ticked_keeps q k (IsTail h) (λ t g at. inr at) h a (tainted_ticked doc k q h) (tail_all h)))

    pub served_tail : IsTail (served_at doc q k) (after_turn doc q.process k)
    served_tail =
        let a = served_at doc q k in
        subst (IsTail a) (sym (turn_phases doc own q k attended)) (ticked_keeps q k (IsTail a) (λ t g at. inr at) a (evicted doc k q a) (evicted_ticked doc k q a) (tail_all a))

    pub in_history : IsTail (after_turn doc q.process k) (history doc (suc k))
    in_history = turn_tail doc (suc q.process) k (below_processes doc q k attended)

    old_begun : IsTail (history doc k) (begun doc q k)
    old_begun = to_tick doc own q (IsTail (history doc k)) (λ x h other at. inr at) k attended (before_turn doc q.process k)

    pub old_synced : IsTail (history doc k) (synced_at doc q k)
    old_synced = ticked_keeps q k (IsTail (history doc k)) (λ t g at. inr at) (begun doc q k) (synced_at doc q k) (sync_ticked doc k q (begun doc q k)) old_begun

    pub old_queue : IsTail (history doc k) (queue_at doc q k)
    old_queue = ticked_keeps q k (IsTail (history doc k)) (λ t g at. inr at) (begun doc q k) (queue_at doc q k) begun_queue old_begun

pub pass_tail : (doc : Doc) (q : Identity) (k : ℕ) → IsTail (pass doc k q (synced_at doc q k)) (queue_at doc q k)
pass_tail doc q k =
    let h = pass doc k q (synced_at doc q k) in
    ticked_keeps q k (IsTail h) (λ t g at. inr at) h (queue_at doc q k) (cleaned_ticked doc k q h) (tail_all h)

pub queue_in : (doc : Doc) → ReleasesByStop doc → (q : Identity) (k e : ℕ) → IsAttended doc q k → k ≤ e → IsTail (queue_at doc q k) (history doc (suc e))
queue_in doc own q k e attended le =
    tail_trans (queue_at doc q k) (history doc (suc k)) (history doc (suc e))
    (tail_trans (queue_at doc q k) (after_turn doc q.process k) (history doc (suc k)) (queue_tail doc own q k attended) (in_history doc own q k attended)) (later_tail doc (suc k) (suc e) (omega (arith, le)))

-- the queues of an earlier beat
pub earlier_queue : (doc : Doc) → ReleasesByStop doc → (q : Identity) (y k : ℕ) → IsAttended doc q y → y < k → IsTail (queue_at doc q y) (history doc k)
earlier_queue doc own q y k attended lt =
    tail_trans (queue_at doc q y) (history doc (suc y)) (history doc k) (queue_in doc own q y y attended (omega arith)) (later_tail doc (suc y) k (omega (arith, lt)))

-- ---- what is current

pub record Current (q : Identity) (h : List Entry) : Type 0 where
  pub mirrors : Mirrors q h
  pub passes : loses_requests q.process h ≡ false

pub current_more : (q : Identity) (k : ℕ) (t : Tick) (h : List Entry) → Current q h → Current q (add k q t h)
current_more q k t h s = record { mirrors = mirrors_more q h k t s.mirrors; passes = s.passes }

synced_current : (doc : Doc) → ReleasesByStop doc → (q : Identity) (k : ℕ) → IsAttended doc q k → Current q (synced_at doc q k)
synced_current doc own q k attended =
    subst (λ b. Current q (if (b && (watches doc q.process h && not (is_fresh q h))) then add k q Sync h else h)) (sym (ready doc own q k attended).settled)
    (subst (λ b. Current q (if (b && not (is_fresh q h)) then add k q Sync h else h)) (sym (ready doc own q k attended).watching) (by_test (is_fresh q h) refl))
  where
    h : List Entry
    h = begun doc q k

    by_test : (b : Bool) → is_fresh q h ≡ b → Current q (if (not b) then add k q Sync h else h)
    by_test true is = record { mirrors = fresh q h is; passes = (ready doc own q k attended).passing }
    by_test false is = record { mirrors = mirrors_sync q h k; passes = (ready doc own q k attended).passing }

pub judged_current : (doc : Doc) → ReleasesByStop doc → (q : Identity) (k : ℕ) → IsAttended doc q k → Current q (judged_at doc q k)
judged_current doc own q k attended =
    ticked_keeps q k (Current q) (λ t g s. current_more q k t g s) (synced_at doc q k) (judged_at doc q k) (pass_ticked doc k q (synced_at doc q k)) (synced_current doc own q k attended)

pub queue_current : (doc : Doc) → ReleasesByStop doc → (q : Identity) (k : ℕ) → IsAttended doc q k → Current q (queue_at doc q k)
queue_current doc own q k attended =
    ticked_keeps q k (Current q) (λ t g s. current_more q k t g s) (judged_at doc q k) (queue_at doc q k) (cleaned_ticked doc k q (judged_at doc q k)) (judged_current doc own q k attended)

-- ---- from the start of a tick to its queues

module _ (doc : Doc) (own : ReleasesByStop doc) (q : Identity) (k : ℕ) where
  begins : before_tick q k (begun doc q k) ≡ begun doc q k
  begins = (elector_unticked doc k q.process q.process (at_turn doc q.process k) (at_turn_unticked doc q.process k) q (omega arith)).before

  pub no_heads_yet : no_heads q k (queue_at doc q k) ≡ true
  no_heads_yet =
      let a = synced_at doc q k in
      cleaned_heads doc k q (pass doc k q a) (pass_heads doc k q a (sync_heads doc k q (begun doc q k) (no_heads_start q k (begun doc q k) begins)))

  -- who waited before the tick keeps its place, and who didn't has this beat's
  pub settles : (place : Place) (name : ℕ) → waits_since q place name (queue_at doc q k) ≡ settled (waits q place name (queue_at doc q k)) k (waits_since q place name (begun doc q k))
  settles place name =
      settle q k place name (queue_at doc q k) no_heads_yet
      ∙ ap (λ h. settled (waits q place name (queue_at doc q k)) k (waits_since q place name h)) (ticked_before q k (begun doc q k) (queue_at doc q k) (begun_queue doc own q k) ∙ begins)

-- ---- from one tick to the next one

same_test : (q : Identity) (who : Actor) (d : Fact) → is_tick_by q who d ≡ is_ticking q who d
same_test q who (Ticks t) = refl
same_test q who d = refl

-- what no foreign entry changes is as it was after the turn before
carried : {A : Type 0} (doc : Doc) → ReleasesByStop doc → (q : Identity) (k : ℕ) → IsAttended doc q k → IsAttended doc q (suc k) → (f : List Entry → A)
    → ((x : Entry) (h : List Entry) → is_tick_by q x.actor x.fact ≡ false → f (x ∷ h) ≡ f h) → f (begun doc q (suc k)) ≡ f (after_turn doc q.process k)
carried {A} doc own q k here next f same =
    to_tick doc own q P foreign (suc k) next (next_turn doc own q P foreign k (below_processes doc q k here) refl)
  where
    P : List Entry → Type 0
    P h = f h ≡ f (after_turn doc q.process k)

    foreign : (x : Entry) (h : List Entry) → is_ticking q x.actor x.fact ≡ false → f h ≡ f (after_turn doc q.process k) → f (x ∷ h) ≡ f (after_turn doc q.process k)
    foreign x h other s = same x h (same_test q x.actor x.fact ∙ other) ∙ s

module _ (doc : Doc) (own : ReleasesByStop doc) (judges : JudgesByOwn doc) (q : Identity) (k : ℕ) (here : IsAttended doc q k) where
  fresh_served : (place : Place) (name : ℕ) → IsFresh q k place name (served_at doc q k)
  fresh_served place name =
      subst (IsFresh q k place name) (sym (tainted-own doc judges k q (queue_at doc q k)))
      (every (taint doc k q) (λ h. IsFresh q k place name h)
      (λ zone h s. taint_either doc k q zone h (λ g. IsFresh q k place name g) s (λ at n wanted w token head. heading_fresh doc k q zone h n wanted w place name s))
      (places (nodes q (queue_at doc q k))) (queue_at doc q k) (fresh_settled q k place name (queue_at doc q k) (no_heads_yet doc own q k)))

  -- evictions leave who waits since when
  after_since : (place : Place) (name : ℕ) → waits_since q place name (after_turn doc q.process k) ≡ waits_since q place name (served_at doc q k)
  after_since place name = ap (waits_since q place name) (turn_phases doc own q k here) ∙ (evicted_since doc k q (served_at doc q k) fresh_served place name).0

  after_base : (place : Place) → base q place (after_turn doc q.process k) ≡ base q place (served_at doc q k)
  after_base place = ap (base q place) (turn_phases doc own q k here) ∙ (evicted_limits doc k q (served_at doc q k)).base place

  module _ (next : IsAttended doc q (suc k)) where
    pub next_since : (place : Place) (name : ℕ) → waits_since q place name (begun doc q (suc k)) ≡ waits_since q place name (served_at doc q k)
    next_since place name = carried doc own q k here next (waits_since q place name) (λ x h other. foreign_since q h x other place name) ∙ after_since place name

    pub next_base : (place : Place) → base q place (begun doc q (suc k)) ≡ base q place (served_at doc q k)
    next_base place = carried doc own q k here next (base q place) (λ x h other. (foreign_limits q h x other).base place) ∙ after_base place

-- ---- beats of the queue

newest_within : (f : Entry → List Entry → Bool) (k : ℕ) (h : List Entry) → ((e : Entry) → In e h → e.beat ≤ k) → or_zero (newest (λ e T. when (f e T) e.beat) h) ≤ k
newest_within f k [] all = omega arith
newest_within f k (e ∷ h) all = by_test (newest_within f k h (λ x at. all x (inr at))) (f e h)
  where
    by_test : or_zero (newest (λ e T. when (f e T) e.beat) h) ≤ k → (b : Bool) → or_zero (elim (when b e.beat) [ None ↦ newest (λ e T. when (f e T) e.beat) h | Some x ↦ Some x ]) ≤ k
    by_test below true = all e (inl refl)
    by_test below false = below

module _ (doc : Doc) (own : ReleasesByStop doc) (q : Identity) (k : ℕ) (attended : IsAttended doc q k) where
  within : (e : Entry) → In e (queue_at doc q k) → e.beat ≤ k
  within e at =
      ⊎_elim (λ before. omega (arith, before)) (λ first. omega (arith, first.0))
      (entries_are_earlier doc (suc k) e (in_tail e (queue_at doc q k) (history doc (suc k))
      (tail_trans (queue_at doc q k) (after_turn doc q.process k) (history doc (suc k)) (queue_tail doc own q k attended) (in_history doc own q k attended)) at))

  pub key_within : (place : Place) (name : ℕ) → queued q place name (queue_at doc q k) ≤ k
  key_within place name = newest_within (λ e T. begins_row q place name e.beat e.actor e.fact T) k (queue_at doc q k) within

  pub base_within : (place : Place) → base q place (queue_at doc q k) ≤ k
  base_within place = newest_within (λ e T. is_base q place e.actor e.fact T) k (queue_at doc q k) within
