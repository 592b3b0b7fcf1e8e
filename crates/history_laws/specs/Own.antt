-- In a document whose stops send a single update and whose store never stands still, each definition of a tick that asks for a rule is the one that
-- asks for none, where its terms settle at once, nodes are silent by the run and judged at each tick, buckets start empty, its passes' writes take
-- no time and it evicts by the project's own rules; where it elects by them too, so is each of elections and of the lease premise. Source: profile.
use Rattle.std.specs.Prelude.{◌≡◌, ℕ, ◌+◌, ◌*◌, ◌&&◌, not, nat_lt, if◌then◌else◌, Bool, true, List, ◌∷◌}
use Rattle.kube_objects.specs.declared.call.Reply.{Reply}
use Rattle.kube_objects.specs.declared.key.Key.{Key}
use Rattle.kube_objects.specs.declared.lease.Lease.{Lease}
use Rattle.kube_objects.specs.Clocks.{local}
use Rattle.kube_objects.specs.Document.{Doc, of_millis, end_beat, beat_micros, lease_duration, call_timeout, retry_period, renew_deadline}
use Rattle.kube_objects.specs.Elector.{acts, in_term, moment, respected, retry_at, follow_on, leads, release}
use Rattle.kube_objects.specs.Entry.{Entry, Identity, Place, Call, Stops, Ends, Expires, entry}
use Rattle.kube_objects.specs.Health.{heard, probe, pass_period}
use Rattle.kube_objects.specs.Modes.{nodes, places}
use Rattle.kube_objects.specs.Own.{AreUnstalled, ReleasesByStop, ElectsByOwn, EvictsByOwn, JudgesByOwn, PassesTakeNoWork, ProbesByRun, SettlesAtOnce, StartsEmpty}
use Rattle.kube_objects.specs.Pauses.{is_paused}
use Rattle.kube_objects.specs.Process.{alive, is_late, release_begun}
use Rattle.kube_objects.specs.Seen.{node_names, pod_keys, is_stale, seen_pod}
use Rattle.kube_objects.specs.Tick.{for_each, tick, has_settled, clean, cleaned, taint, tainted, evict_seen, evict, evicted}
use Rattle.kube_objects.specs.Tokens.{has_token, is_grown, grown, rated}
use Rattle.kube_objects.specs.Turns.{react, expire_as, end_as}
use Rattle.kube_objects.specs.Wire.{arrival, request_arrival, request_delay, loses_requests}
use Rattle.history.specs.Premise.{least_rate, longest, is_long, lease_part, lease_premise}
use Rattle.history.specs.Steps.{released, stop_as, elector_react, if_up, ticks}

-- calls, retries, the end of a term
pub record ElectsAsBefore (doc : Doc) : Type 0 where
  pub arrives : (p k : ℕ) (h : List Entry) → request_arrival doc p k h ≡ arrival (loses_requests p h) k (request_delay p h)
  pub is_late : (q : Identity) (k : ℕ) (call : Call)
      → is_late doc q k call ≡ nat_lt (local doc q.process call.sent + call_timeout doc q.process) (local doc q.process k)
  pub expires : (k : ℕ) (q : Identity) (call : Call) (h : List Entry)
      → expire_as doc k q call (release_begun doc.settings.rules.release call.kind) h ≡ entry k 4 q (Expires call) ∷ h
  pub retries : (led : Bool) (q : Identity) (e : Entry) (h : List Entry)
      → retry_at led doc q e h ≡ local doc q.process e.beat + retry_period doc q.process
  pub respects : (q : Identity) (k : ℕ) (lease : Lease) → respected (moment doc q k).respect (moment doc q k).seconds lease ≡ lease
  pub acts : (q : Identity) (k : ℕ) (h : List Entry) → acts doc q k h ≡ (not (is_paused doc q.process k) && in_term doc q k h)
  pub ends : (k : ℕ) (q : Identity) (h : List Entry) → end_as doc.settings.rules.release doc k q h ≡ entry k 4 q Ends ∷ h
  pub stops : (k : ℕ) (q : Identity) (before h : List Entry)
      → stop_as doc.settings.rules.release doc k q before h ≡ released doc k q (release doc q k before) (entry k 1 q Stops ∷ h)
  pub reacts : (k : ℕ) (q : Identity) (call : Call) (reply : Reply) (h : List Entry)
      → elector_react doc k q call reply (release_begun doc.settings.rules.release call.kind) h
      ≡ react doc k q (leads q h) (follow_on doc q k call.kind call.request reply h) h

-- a leader's tick
pub record TicksAsBefore (doc : Doc) : Type 0 where
  pub ticks : (k p : ℕ) (h : List Entry) → ticks doc k p h ≡ if_up p (λ q T. if acts doc q k T then tick doc k q T else T) (alive p h) h
  pub settles : (k : ℕ) (q : Identity) (h : List Entry) → has_settled doc k q h ≡ true
  pub passes : (q : Identity) (h : List Entry) → pass_period doc q h ≡ of_millis doc.settings.monitor_period_millis
  pub hears : (q : Identity) (name : ℕ) (h : List Entry) → heard doc.settings.rules.probe q name h ≡ probe q name h
  pub cleans : (k : ℕ) (q : Identity) (h : List Entry) → cleaned doc k q h ≡ for_each (clean doc k q) (node_names h) h
  pub taints : (k : ℕ) (q : Identity) (h : List Entry) → tainted doc k q h ≡ for_each (taint doc k q) (places (nodes q h)) h
  pub tokens : (q : Identity) (k : ℕ) (place : Place) (h : List Entry) → has_token doc q k place h ≡ is_grown (grown doc q k place h) (rated q place h)
  pub evicts : (k : ℕ) (q : Identity) (pod : Key) (h : List Entry)
      → evict doc k q pod h ≡ evict_seen doc k q pod (is_stale q pod h) (seen_pod q pod h) h
  pub evictions : (k : ℕ) (q : Identity) (h : List Entry) → evicted doc k q h ≡ for_each (evict doc k q) (pod_keys h) h

-- the lease premise
pub record PromisesAsBefore (doc : Doc) : Type 0 where
  pub long : (high p : ℕ) → is_long doc high p ≡
      nat_lt
      (longest doc p * (beat_micros doc * high) * least_rate doc p (end_beat doc)
      + (call_timeout doc p + retry_period doc p + renew_deadline doc p) * high)
      (lease_duration doc p * least_rate doc p (end_beat doc))
  pub all : lease_premise doc ≡ lease_part doc

abbrev pub OwnRulesChangeNothing : Type 0
OwnRulesChangeNothing = (doc : Doc) → ReleasesByStop doc → AreUnstalled doc.events
    → (SettlesAtOnce doc → ProbesByRun doc → JudgesByOwn doc → StartsEmpty doc → PassesTakeNoWork doc → EvictsByOwn doc → TicksAsBefore doc)
    × (ElectsByOwn doc → ElectsAsBefore doc × PromisesAsBefore doc)
