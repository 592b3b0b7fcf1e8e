-- When a leader's passes hear of a node for the last time. Source: the node lifecycle controller of Kubernetes, its monitor of node health; the
-- profile.
use Rattle.std.specs.Prelude.{◌≡◌, ◌⊎◌, ◌≤◌, ◌<◌, ℕ, suc, ◌+◌, ◌||◌, Bool, true, false, List, ◌∷◌, Option, Some, None}
use Rattle.kube_base.specs.declared.numbers.Wall.{Wall}
use Rattle.kube_objects.specs.declared.lease.Lease.{Lease}
use Rattle.kube_objects.specs.declared.object.Object.TheVariants as object
use Rattle.kube_objects.specs.Document.{Doc}
use Rattle.kube_objects.specs.Entry.{Entry, Identity, Fact, Ticks}
use Rattle.kube_objects.specs.Health.{hears, last_pass}
use Rattle.kube_objects.specs.Newest.{has}
use Rattle.kube_objects.specs.Own.{ReleasesByStop, PassesTakeNoWork}
use Rattle.kube_objects.specs.Stored.{Write, node_key, node_lease, at_key, write_of}
use Rattle.history.specs.Evictions.{stored_node}
use Rattle.history.specs.History.{history}
use Rattle.history_laws.specs.Tails.{IsTail}
use Rattle.span_laws.specs.Spans.{RunsAtLeast, IsEnough}
use Rattle.outage_laws.specs.Attended.{Attends}
use Rattle.outage_laws.specs.Passes.{synced_at, has_pass, monitor_period}

-- ---- what tells of a node

abbrev pub is_about : ℕ → Option Write → Bool
is_about name write = has (at_key (node_key name) write) || has (at_key (node_lease name) write)

-- an accepted write of the node or of its Lease that isn't a leader's: a kubelet's, or the script's
abbrev pub tells_of : ℕ → Fact → Bool
tells_of name (Ticks tick) = false
tells_of name fact = is_about name (write_of fact)

-- the last such write up to the end of beat e is at beat v
pub record IsLastTold (doc : Doc) (name v e : ℕ) : Type 0 where
  pub x : Entry
  pub before : List Entry
  pub stands : IsTail (x ∷ before) (history doc (suc e))
  pub tells : tells_of name x.fact ≡ true
  pub beat : x.beat ≡ v
  pub last : (y : Entry) (g : List Entry) → IsTail (y ∷ g) (history doc (suc e)) → IsTail (x ∷ before) g → tells_of name y.fact ≡ false

-- an entry writes the node's Lease, as it is afterwards
abbrev pub WritesLease : ℕ → Fact → Lease → Type 0
WritesLease name fact lease = at_key (node_lease name) (write_of fact) ≡ Some (Some (object.Lease lease))

-- the write of a Lease whose renew time is later than those of all its writes before
pub record IsLatestRenewal (name : ℕ) (x : Entry) (before : List Entry) : Type 0 where
  pub lease : Lease
  pub at : Wall
  pub writes : WritesLease name x.fact lease
  pub renewed : lease.renewed ≡ Some at
  pub later : (y : Entry) (g : List Entry) (old : Lease) (time : Wall) → IsTail (y ∷ g) before → WritesLease name y.fact old → old.renewed ≡ Some time → time.0 < at.0

-- ---- passes

-- a pass that hears of a node, which is stored as it begins
pub record HearsAt (doc : Doc) (q : Identity) (name p : ℕ) : Type 0 where
  pub pass : has_pass doc q p ≡ true
  pub heard : hears q name (synced_at doc q p) ≡ true
  pub found : has (stored_node name (synced_at doc q p)) ≡ true

-- with the project's own rules, where the writes of passes take no time, of a leader that attends to the beats from a pass on: another pass that
-- hears of a node comes sooner after the last write that tells of the node than the monitor period takes on the leader's clock
abbrev pub PassesHearInTime : Type 0
PassesHearInTime =
    (doc : Doc) → ReleasesByStop doc → PassesTakeNoWork doc → (q : Identity) (name a p e v : ℕ) → Attends doc q a e → has_pass doc q a ≡ true → IsLastTold doc name v e
    → (slow far : ℕ) → RunsAtLeast doc q.process a e slow → IsEnough slow (monitor_period doc) far → 1 ≤ far
    → a ≤ p → p ≤ e → HearsAt doc q name p → (p ≡ a) ⊎ (p < v + far)

-- and where the last such write renews the node's Lease later than all writes before, at the beat of the term's first pass or later: the first pass
-- from then on hears of the node, if there is one
abbrev pub RenewalsAreHeard : Type 0
RenewalsAreHeard =
    (doc : Doc) → ReleasesByStop doc → (q : Identity) (name a e v : ℕ) → Attends doc q a e → last_pass q (synced_at doc q a) ≡ None → a ≤ v
    → (told : IsLastTold doc name v e) → IsLatestRenewal name told.x told.before
    → (k : ℕ) → v ≤ k → k ≤ e → has_pass doc q k ≡ true
    → (m : ℕ) × (v ≤ m) × (m ≤ k) × (has_pass doc q m ≡ true) × (hears q name (synced_at doc q m) ≡ true)
