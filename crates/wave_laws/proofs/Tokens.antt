-- A zone's base while its rate stays, and when its token is there, under the project's own rules.
use Rattle.std.proofs.Common.{◌≡◌, ◌∙◌, ◌≤◌, ◌<◌, ℕ, suc, ◌+◌, ◌-◌, ◌*◌, ◌==◌, ◌&&◌, not, nat_le, Bool, true, false, List, Option, Some, None, refl, sym, ap, subst, inr, ⊎_elim, arith}
use Rattle.std.proofs.lemmas.Bool.{eqb-true, leb-true, le-leb, cases_eq}
use Rattle.std.proofs.Math.Nat.{mul-le-mul_right}
use Rattle.kube_objects.specs.declared.node.ZoneState.{ZoneState}
use Rattle.kube_objects.specs.Clocks.{local}
use Rattle.kube_objects.specs.Document.{Doc}
use Rattle.kube_objects.specs.Entry.{Entry, Identity, Place, Tick, Zone, Head, Skip, actor_of}
use Rattle.kube_objects.specs.Identities.{is_by}
use Rattle.kube_objects.specs.Modes.{place_eq}
use Rattle.kube_objects.specs.Newest.{newest, when, join, or_zero}
use Rattle.kube_objects.specs.Own.{ReleasesByStop, JudgesByOwn, StartsEmpty}
use Rattle.kube_objects.specs.Tick.{add, pass}
use Rattle.kube_objects.specs.Tokens.{Rated, rated_says, rated, has_rate, is_base, base, token_size, is_grown, is_there, is_full_by, has_token}
use Rattle.kube_objects.proofs.Clocks.{local_up}
use Rattle.kube_objects.proofs.Own.{has_token-own}
use Rattle.kube_objects.proofs.Tokens.{empty_grown, token_is_there}
use Rattle.history.specs.History.{history}
use Rattle.history_laws.specs.Tails.{IsTail}
use Rattle.history_laws.proofs.Plainly.{upper, same_self, false_is, and_left, and_both}
use Rattle.history_laws.proofs.Tailed.{tail_all, tail_trans}
use Rattle.outage_laws.specs.Attended.{IsAttended}
use Rattle.outage_laws.specs.Passes.{synced_at}
use Rattle.span_laws.specs.Spans.{IsEnough, IsNeeded}
use Rattle.tick_laws.proofs.Phases.{is_passing, pass_keeps, sync_limits, cleaned_limits}
use Rattle.wave_laws.specs.Waves.{queue_at, served_at, KeepsRate}
use Rattle.wave_laws.proofs.Queue.{begun, base_within, next_base, earlier_queue, old_synced, old_queue, queue_in, pass_tail}

-- ---- entries of a pass

module _ (q : Identity) (place : Place) (rate k : ℕ) where
  -- a zone's entry that leaves the rate
  zone_base : (zone : Place) (state : ZoneState) (r : ℕ) (h : List Entry) → has_rate rate (rated q place h) ≡ true → has_rate rate (rated q place (add k q (Zone zone state r) h)) ≡ true
      → (place_eq zone place && (is_by q (actor_of q) && not (has_rate r (rated q place h)))) ≡ false
  zone_base zone state r h old new = by_place (place_eq zone place) refl
    where
      own : (is_by q (actor_of q) && not (has_rate r (rated q place h))) ≡ not (has_rate r (rated q place h))
      own = ap (λ b. b && not (has_rate r (rated q place h))) (same_self q)

      by_place : (b : Bool) → place_eq zone place ≡ b → (b && (is_by q (actor_of q) && not (has_rate r (rated q place h)))) ≡ false
      by_place false apart = refl
      by_place true inside =
          let says : rated q place (add k q (Zone zone state r) h) ≡ Some (state, r) =
          ap (λ b. join (upper (when (b && is_by q (actor_of q)) (Some (state, r))) (newest (λ e T. rated_says q place e.actor e.fact T) h))) inside
          ∙ ap (λ b. join (upper (when b (Some (state, r))) (newest (λ e T. rated_says q place e.actor e.fact T) h))) (same_self q) in
          let same : r ≡ rate = eqb-true r rate (sym (ap (has_rate rate) says) ∙ new) in
          own ∙ ap (λ n. not (has_rate n (rated q place h))) same ∙ ap not old

  passing_base : (t : Tick) (h : List Entry) → is_passing t ≡ true → has_rate rate (rated q place h) ≡ true → has_rate rate (rated q place (add k q t h)) ≡ true → base q place (add k q t h) ≡ base q place h
  passing_base (Zone zone state r) h is old new = ap (λ b. or_zero (upper (when b k) (newest (λ e T. when (is_base q place e.actor e.fact T) e.beat) h))) (zone_base zone state r h old new)
  passing_base (Head at name wanted given written tried) h is old new = absurd (false_is is)
  passing_base (Skip at name) h is old new = absurd (false_is is)
  passing_base t h is old new = refl

-- ---- beats in which the zone keeps its rate

module _ (doc : Doc) (own : ReleasesByStop doc) (judges : JudgesByOwn doc) (q : Identity) (place : Place) (rate y e : ℕ) (first : IsAttended doc q y) (keeps : KeepsRate doc q place rate y e) where
  pub rate_at : (k : ℕ) → y ≤ k → k ≤ e → IsAttended doc q k → has_rate rate (rated q place (queue_at doc q k)) ≡ true
  rate_at k from to here = keeps (queue_at doc q k) (⊎_elim (λ same. subst (λ k. IsTail (queue_at doc q y) (queue_at doc q k)) same (tail_all (queue_at doc q y))) later (cases_eq y k)) (queue_in doc own q k e here to)
    where
      later : (y ≡ k → ⊥) → IsTail (queue_at doc q y) (queue_at doc q k)
      later differs = tail_trans (queue_at doc q y) (history doc k) (queue_at doc q k) (earlier_queue doc own q y k first (omega (arith, from, differs))) (old_queue doc own q k here)

  pass_base : (k : ℕ) → y < k → k ≤ e → IsAttended doc q k → base q place (pass doc k q (synced_at doc q k)) ≡ base q place (synced_at doc q k)
  pass_base k lt to here = (pass_keeps doc k q P more a (tail_all a, λ at. refl)).1 (tail_trans (pass doc k q a) (queue_at doc q k) (history doc (suc e)) (pass_tail doc q k) (queue_in doc own q k e here to))
    where
      a : List Entry
      a = synced_at doc q k

      P : List Entry → Type 0
      P h = IsTail a h × (IsTail h (history doc (suc e)) → base q place h ≡ base q place a)

      start : IsTail (queue_at doc q y) a
      start = tail_trans (queue_at doc q y) (history doc k) a (earlier_queue doc own q y k first lt) (old_synced doc own q k here)

      more : (t : Tick) (h : List Entry) → is_passing t ≡ true → IsTail a h × (IsTail h (history doc (suc e)) → base q place h ≡ base q place a)
          → IsTail a (add k q t h) × (IsTail (add k q t h) (history doc (suc e)) → base q place (add k q t h) ≡ base q place a)
      more t h is (from, old) = (inr from, λ at. now (inr (tail_trans (queue_at doc q y) a h start from)) at)
        where
          now : IsTail (queue_at doc q y) (add k q t h) → IsTail (add k q t h) (history doc (suc e)) → base q place (add k q t h) ≡ base q place a
          now since at =
              let below : IsTail h (history doc (suc e)) = tail_trans h (add k q t h) (history doc (suc e)) (inr (tail_all h)) at in
              passing_base q place rate k t h is (keeps h (tail_trans (queue_at doc q y) a h start from) below) (keeps (add k q t h) since at) ∙ old below

  -- only queued taints change the base
  pub queue_base : (k : ℕ) → y ≤ k → suc k ≤ e → IsAttended doc q k → IsAttended doc q (suc k) → base q place (queue_at doc q (suc k)) ≡ base q place (served_at doc q k)
  queue_base k from to here next =
      (cleaned_limits doc (suc k) q (pass doc (suc k) q (synced_at doc q (suc k)))).base place
      ∙ pass_base (suc k) (omega (arith, from)) to next
      ∙ (sync_limits doc (suc k) q (begun doc q (suc k))).base place
      ∙ next_base doc own judges q k here next place

  -- the token is there once its interval is over since the base
  pub token_there : (interval k : ℕ) → IsEnough rate token_size interval → y ≤ k → k ≤ e → IsAttended doc q k → local doc q.process (base q place (queue_at doc q k)) + interval ≤ local doc q.process k
      → has_token doc q k place (queue_at doc q k) ≡ true
  token_there interval k enough from to here over =
      token_is_there doc q k place (queue_at doc q k) ∙ by_rated (is_full_by doc.settings.rules.bucket doc q place (queue_at doc q k)) (rated q place (queue_at doc q k)) (rate_at k from to here)
    where
      span : ℕ
      span = local doc q.process k - local doc q.process (base q place (queue_at doc q k))

      not_full : (x : Rated) → is_grown span (Some x) ≡ true → is_there false span (Some x) ≡ true
      not_full x grown = empty_grown span (Some x) ∙ grown

      -- also where the bucket is full
      by_full : (full : Bool) (x : Rated) → is_grown span (Some x) ≡ true → is_there full span (Some x) ≡ true
      by_full false x grown = not_full x grown
      by_full true x grown = and_both (not (x.1 == 0)) true (and_left (not (x.1 == 0)) (nat_le token_size (span * x.1)) (not_full x grown)) refl

      by_rated : (full : Bool) (o : Option Rated) → has_rate rate o ≡ true → is_there full span o ≡ true
      by_rated full None is = absurd (false_is is)
      by_rated full (Some x) is =
          let same : x.1 ≡ rate = eqb-true x.1 rate is in
          let long : interval * rate ≤ span * rate = mul-le-mul_right rate (omega (arith, over)) in
          let grown : token_size ≤ span * rate = omega (arith, enough, long) in
          by_full full x (subst (λ r. is_grown span (Some (x.0, r)) ≡ true) (sym same) (le-leb token_size (span * rate) grown))

  -- and not before, where buckets start empty
  pub token_over : StartsEmpty doc → (interval k : ℕ) → IsNeeded rate token_size interval → y ≤ k → k ≤ e → IsAttended doc q k → has_token doc q k place (queue_at doc q k) ≡ true
      → local doc q.process (base q place (queue_at doc q k)) + interval ≤ local doc q.process k
  token_over empty interval k needed from to here there =
      omega (arith, local_up doc q.process (base q place (queue_at doc q k)) k (base_within doc own q k here place), by_rated (rated q place (queue_at doc q k)) (rate_at k from to here) (sym (has_token-own doc empty q k place (queue_at doc q k)) ∙ there))
    where
      by_rated : (o : Option Rated) → has_rate rate o ≡ true → is_grown (local doc q.process k - local doc q.process (base q place (queue_at doc q k))) o ≡ true
          → interval ≤ local doc q.process k - local doc q.process (base q place (queue_at doc q k))
      by_rated None is grown = absurd (false_is is)
      by_rated (Some x) is grown =
          let span = local doc q.process k - local doc q.process (base q place (queue_at doc q k)) in
          let same : x.1 ≡ rate = eqb-true x.1 rate is in
          needed span (leb-true token_size (span * rate) (subst (λ r. is_grown span (Some (x.0, r)) ≡ true) same grown))
