-- From a node's last word to its mark, its taint and the end of its pods, by one leader or over a change of the leader. Source: the node lifecycle
-- controller of Kubernetes and its taint eviction controller; the profile.
use Rattle.std.specs.Prelude.{◌≡◌, ◌⊎◌, ◌≤◌, ◌<◌, ℕ, suc, ◌+◌, ◌-◌, ◌*◌, true, false, List, ◌∷◌, None}
use Rattle.kube_objects.specs.declared.key.Key.{Key}
use Rattle.kube_objects.specs.Clocks.{wall}
use Rattle.kube_objects.specs.Document.{Doc, of_seconds}
use Rattle.kube_objects.specs.Entry.{Entry, Identity, Place, Ticks, Mode, entry}
use Rattle.kube_objects.specs.Health.{last_pass}
use Rattle.kube_objects.specs.Newest.{has}
use Rattle.kube_objects.specs.Own.{ReleasesByStop, EvictsByOwn, JudgesByOwn, PassesTakeNoWork, ProbesByRun}
use Rattle.kube_objects.specs.Seen.{is_pod}
use Rattle.kube_objects.specs.Tokens.{token_size}
use Rattle.history.specs.Evictions.{stored_node, after_turn}
use Rattle.history.specs.History.{history}
use Rattle.history.specs.Sound.{IsSound}
use Rattle.history_laws.specs.Tails.{IsTail}
use Rattle.row_laws.specs.Keys.{is_waiting}
use Rattle.span_laws.specs.Spans.{RunsAtLeast, RunsAtMost, IsEnough, IsNeeded}
use Rattle.span_laws.specs.Looks.{IsAtMost, IsAtLeast, IsGreatest}
use Rattle.outage_laws.specs.Attended.{IsAttended, Attends}
use Rattle.outage_laws.specs.Gone.{IsDated, IsDoomed}
use Rattle.outage_laws.specs.Marked.{grace_period, StaysPosted, IsMarked, IsLastHeard}
use Rattle.outage_laws.specs.Passes.{synced_at, monitor_period}
use Rattle.heard_laws.specs.Heard.{IsLastTold, IsLatestRenewal}
use Rattle.heard_laws.specs.Kubelet.{LivesFrom, IsLeftAlone}
use Rattle.wave_laws.specs.Waves.{queue_at, ahead, KeepsRate, IsTainted}

-- a leader attends to the beats from its first pass on; the node is stored all the while, and the all-Full mode doesn't end after that pass
pub record WatchesOver (doc : Doc) (q : Identity) (name a e : ℕ) : Type 0 where
  pub attends : Attends doc q a e
  pub first : last_pass q (synced_at doc q a) ≡ None
  pub stored : (k : ℕ) → a ≤ k → k ≤ e → has (stored_node name (synced_at doc q k)) ≡ true
  pub mode : (k : ℕ) (before : List Entry) → a < k → k ≤ e → IsTail (entry k 4 q (Ticks (Mode false)) ∷ before) (history doc (suc k)) → ⊥

-- the beats of its clock: from one pass to the next, and of more than the grace period
pub record IsPaced (doc : Doc) (q : Identity) (a e slow near far enough needed most : ℕ) : Type 0 where
  pub fast : ℕ
  pub slowly : RunsAtLeast doc q.process a e slow
  pub fastly : RunsAtMost doc q.process a e fast
  pub near_needed : IsNeeded fast (monitor_period doc) near
  pub far_enough : IsEnough slow (monitor_period doc) far
  pub some : 1 ≤ far
  pub is_enough : IsEnough slow (grace_period doc + 1) enough
  pub is_needed : IsNeeded fast (grace_period doc + 1) needed
  pub greatest : IsGreatest near far enough most

-- the node is last heard of by the pass of beat p, and is marked in beat m, if it stays stored with a Ready that isn't Unknown until then
pub record MarkedAfter (doc : Doc) (q : Identity) (name a e v latest near far enough needed most : ℕ) (Renewed : Type 0) : Type 0 where
  pub p : ℕ
  pub m : ℕ
  pub heard : IsLastHeard doc q name p e
  pub from : a ≤ p
  pub upto : p ≤ latest
  pub since : Renewed → a ≤ v → v ≤ p
  pub after : p < m
  pub at_most : IsAtMost near far enough (m - p)
  pub at_least : IsAtLeast near far needed (m - p)
  pub soon : m ≤ latest + most
  pub marked : StaysPosted doc q name p m → IsMarked doc q name m

-- with the project's own rules, that of probes too, whoever watches over the node from its first pass on, as from its takeover: the last pass that
-- hears of it comes by that first pass, or a monitor period after the node's last word at the latest, and no sooner than that word, if it is the
-- latest renewal; the mark comes within the bounds of more than the grace period after it
abbrev pub DeadNodesAreMarked : Type 0
DeadNodesAreMarked =
    (doc : Doc) → ReleasesByStop doc → PassesTakeNoWork doc → ProbesByRun doc → (q : Identity) (name a e v : ℕ) → WatchesOver doc q name a e → (told : IsLastTold doc name v e)
    → (slow near far enough needed most : ℕ) → IsPaced doc q a e slow near far enough needed most
    → (latest : ℕ) → a ≤ latest → v + far ≤ suc latest → latest + most ≤ e
    → MarkedAfter doc q name a e v latest near far enough needed most (IsLatestRenewal name told.x told.before)

-- where nodes are judged at each tick, and the node's zone keeps a rate from beat y on, which is no sooner than the latest mark, and up to that never
-- more than k nodes are ahead of it: by as many of a token's intervals after y, and one more, it is tainted, or doesn't wait any more; and where
-- evictions go by the own rules too, by as many beats later as the seconds take that a pod tolerates the taint, the pod is gone, or the taint is
abbrev pub DeadNodesEnd : Type 0
DeadNodesEnd =
    (doc : Doc) → ReleasesByStop doc → PassesTakeNoWork doc → ProbesByRun doc → JudgesByOwn doc → (q : Identity) (name a e v : ℕ) → WatchesOver doc q name a e → (told : IsLastTold doc name v e)
    → (slow near far enough needed most : ℕ) → IsPaced doc q a e slow near far enough needed most
    → (latest : ℕ) → a ≤ latest → v + far ≤ suc latest → latest + most ≤ e
    → (place : Place) (y k rate interval turn last : ℕ) → latest + most ≤ y → KeepsRate doc q place rate y e → IsEnough rate token_size interval → IsEnough slow interval turn
    → ((j : ℕ) → a ≤ j → j ≤ latest + most → ahead q place name (queue_at doc q j) ≤ k) → last ≡ y + (k + 1) * turn → last ≤ e
    → (marked : MarkedAfter doc q name a e v latest near far enough needed most (IsLatestRenewal name told.x told.before))
    × (t : ℕ) × (marked.m ≤ t) × (t ≤ last) × (IsTainted doc q place name t ⊎ (is_waiting q place name (queue_at doc q t) ≡ false))
    × (EvictsByOwn doc → IsDated doc q.process → (seconds gone j : ℕ) → IsEnough slow (of_seconds seconds) gone → last + gone ≤ j → j ≤ e → (key : Key) → is_pod key.kind ≡ true
    → IsDoomed doc q t seconds key (after_turn doc q.process j) → ⊥)

-- a taint that an earlier leader added keeps its time, where the times of day of both are the same at it: after the turn of an attended beat of the later
-- one that comes so many beats after the taint as are enough for the seconds, the pod is gone
abbrev pub PodsGoAfterFailovers : Type 0
PodsGoAfterFailovers =
    (doc : Doc) → ReleasesByStop doc → EvictsByOwn doc → (r q : Identity) (t k seconds slow enough : ℕ) → wall doc r.process t ≡ wall doc q.process t → IsDated doc q.process → IsAttended doc q k → RunsAtLeast doc q.process t k slow
    → IsEnough slow (of_seconds seconds) enough → t + enough ≤ k → (key : Key) → is_pod key.kind ≡ true → IsDoomed doc r t seconds key (after_turn doc q.process k) → ⊥

-- and where the node's kubelet lives up to a last beat, and the node is left to it alone: its last word comes by one message's way after that beat, so
-- the node is last heard of less than a monitor period later, or by the leader's first pass
abbrev pub DeathsAreMarked : Type 0
DeathsAreMarked =
    (doc : Doc) → ReleasesByStop doc → PassesTakeNoWork doc → ProbesByRun doc → (q : Identity) (name a e v : ℕ) → WatchesOver doc q name a e → (told : IsLastTold doc name v e)
    → (slow near far enough needed most : ℕ) → IsPaced doc q a e slow near far enough needed most
    → (short long s last : ℕ) (kubelet : Identity) → IsSound doc → 1 ≤ short → LivesFrom doc short long s last kubelet name → s ≤ last → IsLeftAlone doc s e kubelet name → last + long ≤ e
    → (latest : ℕ) → a ≤ latest → last + long + far ≤ suc latest → latest + most ≤ e
    → MarkedAfter doc q name a e v latest near far enough needed most (IsLatestRenewal name told.x told.before)
