-- Layer 4, the steps of a beat: a process that has changed keeps the beat of its next turn; what it did it has still done.
use Rattle.std.proofs.Common.{◌≡◌, ◌∙◌, ℕ, Bool, List, ◌∷◌, Option, Some, None, sym, subst, vec_len}
use Rattle.kube_base.specs.declared.numbers.ProcId.{ProcId}
use Rattle.kube_objects.specs.declared.call.Ask.{Ask}
use Rattle.kube_objects.specs.declared.script.What.TheVariants as what
use Rattle.kube_objects.specs.Document.{Doc}
use Rattle.kube_objects.specs.Entry.{Entry, Identity, Event, script_entry}
use Rattle.kube_objects.specs.Identities.{identity}
use Rattle.kube_objects.specs.Wire.{Back}
use Rattle.history.specs.Steps.{happens}
use Rattle.world_process.specs.declared.moves.Received.{Received}
use Rattle.world_process.specs.declared.moves.Stopped.{Stopped}
use Rattle.world_process.specs.declared.process.Process.{Process}
use Rattle.world_process.specs.Moves as moves
use Rattle.world_process.specs.Processes.{Begun, Crashed, IsKept, IsTimed, ProcessStands, Replied, SameProcess, StoppedAs, incarnation_of, waking_of}
use Rattle.world_process.proofs.Wakes.{timed-same}
use Rattle.world_core.specs.declared.world.World.{World}
use Rattle.world_core.specs.Worlds.{IsReady, Keeps}
use Rattle.world_core.proofs.MidBeat.{Moved, Noted, keeps-moved}
use Rattle.world_core.proofs.Turns.{asks_in-kept}

-- z stands for what y does
abbrev pub StandsAs : Process → Process → Type 0
StandsAs y z = (doc : Doc) (p : ℕ) (h : List Entry) → ProcessStands doc p h y → ProcessStands doc p h z

-- what kept the beat before still does, the process having changed from x to y
pub kept-after : (x y z : Process) → IsKept x → SameProcess x y → waking_of y ≡ waking_of x → (IsTimed y → IsKept z) → IsKept z
kept-after x y z kept same waking keeps = keeps (timed-same x y same.clock waking kept.timed)

-- a process has changed from x to y, and kept the beat of its next turn
pub keeps-noted : {i : ℕ} {x y z : Process} {w v : World} → SameProcess x y → waking_of y ≡ waking_of x → SameProcess y z → (IsTimed y → IsKept z)
    → Noted i z w.turn_beats v.turn_beats → IsReady w → Moved i x z w v → vec_len v.processes ≡ vec_len w.processes → Keeps w v
keeps-noted {i = i} {x = x} {y = y} {z = z} {w = w} {v = v} same waking after kept noted ready m count =
    keeps-moved i x z w v ready m count (record { me = after.me ∙ same.me; clock = after.clock ∙ same.clock })
    (kept (timed-same x y same.clock waking (ready.kept i x m.was).timed)) noted

pub crashed-kept : (doc : Doc) (k : ℕ) (id : ProcId) (h : List Entry) (y z : Process) (b : Bool) → StandsAs y z → incarnation_of z ≡ incarnation_of y → Crashed doc k id h y b → Crashed doc k id h z b
crashed-kept doc k id h y z b keeps same s =
    subst (λ i. moves.Crashed doc k id h i (λ g. ProcessStands doc id.0 g z) b) (sym same) (record { stands = keeps doc id.0 (happens doc k (what.Crash id) h) s.stands; told = s.told })

pub begun-kept : (doc : Doc) (k : ℕ) (id : ProcId) (h : List Entry) (y z : Process) (b : Bool) → StandsAs y z → incarnation_of z ≡ incarnation_of y → Begun doc k id h y b → Begun doc k id h z b
begun-kept doc k id h y z b keeps same s =
    subst (λ i. moves.Begun doc k id h i (λ g. ProcessStands doc id.0 g z) b) (sym same) (record { stands = keeps doc id.0 (happens doc k (what.Start id) h) s.stands; told = s.told })

pub stopped-kept : (doc : Doc) (k : ℕ) (id : ProcId) (h : List Entry) (y z : Process) (t : Stopped) → StandsAs y z → incarnation_of z ≡ incarnation_of y → StoppedAs doc k id h y t → StoppedAs doc k id h z t
stopped-kept doc k id h y z t keeps same s =
    subst (λ i. moves.StoppedAs doc k id h i (λ g. ProcessStands doc id.0 g z) t) (sym same)
    (record {
      told = s.told;
      asks = asks_in-kept doc k 1 (identity id.0 (incarnation_of y)) (script_entry k 1 (Event (what.Stop id) None) ∷ h) (happens doc k (what.Stop id) h) (λ g. ProcessStands doc id.0 g y) (λ g. ProcessStands doc id.0 g z) (λ g. keeps doc id.0 g) t.ask s.asks;
    })

reply-kept : (doc : Doc) (k : ℕ) (q : Identity) (b : Back) (h : List Entry) (S T : List Entry → Type 0) → ((g : List Entry) → S g → T g) → (ask : Option Ask) → moves.AsksOnReply doc k q b h S ask → moves.AsksOnReply doc k q b h T ask
reply-kept doc k q b h S T keeps None s = record { facts = s.facts; quiet = s.quiet; adds = s.adds; stands = keeps _ s.stands }
reply-kept doc k q b h S T keeps (Some ask) s =
    let a = s.asked in
    record { call = s.call; who = s.who; asked = record { kind = a.kind; sent = a.sent; number = a.number; stands = λ arrives. keeps _ (a.stands arrives) } }

pub replied-kept : (doc : Doc) (k p : ℕ) (b : Back) (h : List Entry) (y z : Process) (t : Received) → StandsAs y z → incarnation_of z ≡ incarnation_of y → Replied doc k p b h y t → Replied doc k p b h z t
replied-kept doc k p b h y z t keeps same s =
    subst (λ i. moves.Replied doc k (identity p i) b h (λ g. ProcessStands doc p g z) t) (sym same)
    (record { told = s.told; asks = reply-kept doc k (identity p (incarnation_of y)) b h (λ g. ProcessStands doc p g y) (λ g. ProcessStands doc p g z) (λ g. keeps doc p g) t.ask s.asks })
