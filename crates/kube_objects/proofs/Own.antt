-- Under the project's own rules each definition that asks for a rule is the one that doesn't.
use Rattle.std.proofs.Common.{◌≡◌, ℕ, zero, suc, ◌+◌, ◌*◌, ◌/◌, ◌%◌, ◌==◌, ◌&&◌, ◌||◌, not, nat_le, nat_lt, Bool, true, false, List, [], ◌∷◌, map, length, slice_get, None, refl, ap, ◌∙◌, arith}
use Rattle.kube_objects.specs.declared.key.Key.{Key}
use Rattle.kube_objects.specs.declared.lease.Lease.{Lease}
use Rattle.kube_objects.specs.declared.script.Proc.{Proc}
use Rattle.kube_objects.specs.Clocks.{local}
use Rattle.kube_objects.specs.Document.{Doc, of_millis, lease_seconds, retry_period, call_timeout, waits_of, waits_or, own_waits_each}
use Rattle.kube_objects.specs.Elector.{acts, leads_on, in_term, led_at, moment, respected, retry_at, leader_waits, failures}
use Rattle.kube_objects.specs.Entry.{Entry, Identity, Place, Call, CallKind, Ends, Expires, entry}
use Rattle.kube_objects.specs.Health.{heard, probe, pass_period, pass_work}
use Rattle.kube_objects.specs.Newest.{or_else}
use Rattle.kube_objects.specs.Own.{ReleasesByStop, ElectsByOwn, EvictsByOwn, JudgesByOwn, PassesTakeNoWork, ProbesByRun, SettlesAtOnce, StartsEmpty}
use Rattle.kube_objects.specs.Pauses.{is_paused}
use Rattle.kube_objects.specs.Process.{release_begun, is_release_over, is_late}
use Rattle.kube_objects.specs.Retries.{wait_after}
use Rattle.kube_objects.specs.Rules.{own_waits}
use Rattle.kube_objects.specs.Seen.{node_names, pod_keys, is_stale, seen_pod}
use Rattle.kube_objects.specs.Tick.{for_each, clean, cleaned, cleaned_by, taint, tainted, tainted_by, evict, evict_by, evict_seen, evict_within, evicted, dues, has_settled, is_stripped}
use Rattle.kube_objects.specs.Modes.{nodes, places}
use Rattle.kube_objects.specs.Tokens.{has_token, token_by, is_grown, grown, rated}
use Rattle.kube_objects.specs.Turns.{end_as, expire_as}

module _ (doc : Doc) (own : ReleasesByStop doc) where
  -- ---- calls

  pub release_begun-own : (kind : CallKind) → release_begun doc.settings.rules.release kind ≡ None
  release_begun-own kind = ap (λ r. release_begun r kind) own.release

  pub is_late-own : (q : Identity) (k : ℕ) (call : Call)
      → is_late doc q k call ≡ nat_lt (local doc q.process call.sent + call_timeout doc q.process) (local doc q.process k)
  is_late-own q k call =
      ap
      (λ o. is_release_over doc q k o || nat_lt (local doc q.process call.sent + call_timeout doc q.process) (local doc q.process k))
      (release_begun-own call.kind)

  pub expire_as-own : (k : ℕ) (q : Identity) (call : Call) (h : List Entry)
      → expire_as doc k q call (release_begun doc.settings.rules.release call.kind) h ≡ entry k 4 q (Expires call) ∷ h
  expire_as-own k q call h = ap (λ o. expire_as doc k q call o h) (release_begun-own call.kind)

  -- ---- the term

  pub acts-own : (q : Identity) (k : ℕ) (h : List Entry) → acts doc q k h ≡ (not (is_paused doc q.process k) && in_term doc q k h)
  acts-own q k h =
      ap (λ r. not (is_paused doc q.process k) && leads_on r doc q k h) own.release

  pub end_term-own : (k : ℕ) (q : Identity) (h : List Entry) → end_as doc.settings.rules.release doc k q h ≡ entry k 4 q Ends ∷ h
  end_term-own k q h = ap (λ r. end_as r doc k q h) own.release

-- ---- the tick

module _ (doc : Doc) (own : ProbesByRun doc) where
  pub heard-own : (q : Identity) (name : ℕ) (h : List Entry) → heard doc.settings.rules.probe q name h ≡ probe q name h
  heard-own q name h = ap (λ r. heard r q name h) own

module _ (doc : Doc) (own : StartsEmpty doc) where
  pub has_token-own : (q : Identity) (k : ℕ) (place : Place) (h : List Entry) → has_token doc q k place h ≡ is_grown (grown doc q k place h) (rated q place h)
  has_token-own q k place h = ap (λ r. token_by r doc q k place h) own

module _ (doc : Doc) (own : JudgesByOwn doc) where
  pub cleaned-own : (k : ℕ) (q : Identity) (h : List Entry) → cleaned doc k q h ≡ for_each (clean doc k q) (node_names h) h
  cleaned-own k q h = ap (λ r. cleaned_by r doc k q h) own.judge

  pub tainted-own : (k : ℕ) (q : Identity) (h : List Entry) → tainted doc k q h ≡ for_each (taint doc k q) (places (nodes q h)) h
  tainted-own k q h = ap (λ r. tainted_by r doc k q h) own.judge

  pub stripped-own : (k : ℕ) (q : Identity) (name : ℕ) (h : List Entry) → is_stripped doc.settings.rules.first_sight k q name h ≡ false
  stripped-own k q name h = ap (λ r. is_stripped r k q name h) own.sight

module _ (doc : Doc) (own : EvictsByOwn doc) where
  pub evict-own : (k : ℕ) (q : Identity) (pod : Key) (h : List Entry) → evict doc k q pod h ≡ evict_seen doc k q pod (is_stale q pod h) (seen_pod q pod h) h
  evict-own k q pod h = ap (λ r. evict_by r doc k q pod h) own.from

  pub evicted-own : (k : ℕ) (q : Identity) (h : List Entry) → evicted doc k q h ≡ for_each (evict doc k q) (pod_keys h) h
  evicted-own k q h =
      ap
      (λ n. elim (n == 0) [ true ↦ for_each (evict doc k q) (pod_keys h) h | false ↦ for_each (evict_within doc k q) (dues doc q (pod_keys h) h) h ])
      own.burst

module _ (doc : Doc) (own : SettlesAtOnce doc) where
  pub has_settled-own : (k : ℕ) (q : Identity) (h : List Entry) → has_settled doc k q h ≡ true
  has_settled-own k q h = ap (λ n. (n == 0) || nat_le (local doc q.process (led_at q h) + of_millis n) (local doc q.process k)) own

module _ (doc : Doc) (own : PassesTakeNoWork doc) where
  pub pass_period-own : (q : Identity) (h : List Entry) → pass_period doc q h ≡ of_millis doc.settings.monitor_period_millis
  pass_period-own q h =
      ap
      (λ n. elim (n == 0) [ true ↦ of_millis doc.settings.monitor_period_millis | false ↦ of_millis doc.settings.monitor_period_millis + pass_work doc q h ])
      own

module _ (doc : Doc) (own : ElectsByOwn doc) where
  -- ---- retries

  waits_all : (cs : List Proc) (p : ℕ) → waits_or own_waits (slice_get (own_waits_each cs) p) ≡ own_waits
  waits_all [] p = refl
  waits_all (c ∷ cs) zero = refl
  waits_all (c ∷ cs) (suc p) = waits_all cs p

  pub waits_of-own : (p : ℕ) → waits_of doc p ≡ own_waits
  waits_of-own p = ap (λ w. waits_or own_waits (slice_get w p)) own.waits ∙ waits_all doc.controllers p

  one_wait : (n : ℕ) → or_else 1000 (slice_get own_waits n) ≡ 1000
  one_wait zero = refl
  one_wait (suc n) = refl

  whole : (period : ℕ) → period * 1000 / 1000 ≡ period
  whole period = omega arith

  pub wait_after-own : (period n : ℕ) → wait_after period own_waits n ≡ period
  wait_after-own period n = ap (λ w. period * w / 1000) (one_wait (n % 1)) ∙ whole period

  pub retry_at-own : (led : Bool) (q : Identity) (e : Entry) (h : List Entry)
      → retry_at led doc q e h ≡ local doc q.process e.beat + retry_period doc q.process
  retry_at-own true q e h = ap (λ r. leader_waits r doc q e.beat (e ∷ h)) own.retries
  retry_at-own false q e h =
      let period = retry_period doc q.process in
      ap
      (λ n. local doc q.process e.beat + n)
      (ap (λ w. wait_after period w (failures doc q h)) (waits_of-own q.process) ∙ wait_after-own period (failures doc q h))

  -- ---- whose duration is respected

  pub respected-own : (q : Identity) (k : ℕ) (lease : Lease) → respected (moment doc q k).respect (moment doc q k).seconds lease ≡ lease
  respected-own q k lease = ap (λ r. respected r (lease_seconds doc q.process) lease) own.respect
