-- What a tick does after its pass and before its evictions.
use Rattle.std.specs.Prelude.{◌≡◌, ℕ, true, false, List, Option, Some, None}
use Rattle.kube_objects.specs.declared.deed.Deed.{Deed}
use Rattle.kube_objects.specs.declared.rules.JudgeRule.{JudgeRule}
use Rattle.kube_objects.specs.declared.rules.JudgeRule.TheVariants as judges
use Rattle.kube_objects.specs.Document.{Doc}
use Rattle.kube_objects.specs.Entry.{Entry, Identity}
use Rattle.kube_objects.specs.Health.{is_pass_tick}
use Rattle.kube_objects.specs.Tick.{cleaned, pass, tainted}
use Rattle.object_store.specs.declared.store.Store.{Store}
use Rattle.taint_zones.specs.declared.zones.Zones.{Zones}
use Rattle.taint_zones.specs.Limits.{LimitsStand}
use Rattle.term_state.specs.declared.cluster.Cluster.{Cluster}
use Rattle.term_state.specs.declared.told.Told.{Told}
use Rattle.term_state.specs.MidTick.{MidTick}
use Rattle.tick_laws.specs.Rows.{no_heads}
use Rattle.controller_core.specs.HeadsStand.{HeadsBegin}
use Rattle.controller_core.specs.Looking.{IsFoundBy}
use Rattle.controller_core.specs.Pushing.{PushesStand}
use Rattle.controller_core.specs.QueuesStand.{AreFresh, QueuesStand}
use Rattle.controller_core.specs.declared.pass.found.Found.{Found}

-- after the pass, where the tick has one; h is the history before it, at which the queues are
pub record Looked (doc : Doc) (k : ℕ) (q : Identity) (before : List Deed) (h : List Entry) (found : Option Found)
    (z : Zones) (c : Cluster) (s : Store) (t : Told) : Type 0 where
  pub running : MidTick doc q k before (pass doc k q h) c s t
  pub limits : LimitsStand doc q (pass doc k q h) z
  pub queues : HeadsBegin doc k q h z
  pub heads : no_heads q k h ≡ true
  pub passed : is_pass_tick k q h ≡ false
  pub looked : IsFoundBy doc k q h found

-- of nodes that wait it is known that those who begin to do so since this beat
abbrev pub HeadsSettledBy : JudgeRule → Doc → ℕ → Identity → List Entry → Zones → Type 0
HeadsSettledBy judges.Tick doc k q h zones = QueuesStand q h zones.queues × AreFresh q k h
HeadsSettledBy judges.Pass doc k q h zones = PushesStand doc q h zones.pushes

-- after the queued taints
pub record Headed (doc : Doc) (k : ℕ) (q : Identity) (before : List Deed) (h : List Entry)
    (z : Zones) (c : Cluster) (s : Store) (t : Told) : Type 0 where
  pub running : MidTick doc q k before h c s t
  pub limits : LimitsStand doc q h z
  pub queues : HeadsSettledBy doc.settings.rules.judge doc k q h z

-- with the pass, the untaints and swaps, and the queued taints
abbrev pub headed : Doc → ℕ → Identity → List Entry → List Entry
headed doc k q h = tainted doc k q (cleaned doc k q (pass doc k q h))

-- the nodes that are held after a tick, by what its pass found
abbrev pub held_after : List ℕ → Option Found → List ℕ
held_after held None = held
held_after held (Some found) = found.names
