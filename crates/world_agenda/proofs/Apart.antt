-- Of each two pauses of a process the later begins after the end of the earlier, as each process of the world knows of the document.
use Rattle.std.proofs.Common.{◌<◌, ℕ, List, ⊎_elim, arith}
use Rattle.std.proofs.lemmas.Option.{slice_get_cases}
use Rattle.kube_objects.specs.Document.{Doc, processes}
use Rattle.kube_objects.specs.Entry.{Entry}
use Rattle.history.specs.Sound.{AreApart}
use Rattle.world_core.specs.declared.world.World.{World}
use Rattle.world_core.specs.Worlds.{WorldStands, count_of}
use Rattle.world_process.specs.declared.process.Process.{Process}
use Rattle.world_process.specs.declared.process.Process.TheVariants.{Controller, Kubelet}
use Rattle.world_process.specs.Processes.{ProcessStands}

own_apart : (doc : Doc) (p : ℕ) (h : List Entry) (x : Process) → ProcessStands doc p h x → AreApart doc.events
own_apart doc p h (Controller c) s = s.pauses.apart
own_apart doc p h (Kubelet b) s = s.pauses.apart

pub world_apart : (doc : Doc) (k p : ℕ) (h : List Entry) (w : World) → WorldStands doc k h w → p < processes doc → AreApart doc.events
world_apart doc k p h w s below =
    ⊎_elim (λ there. own_apart doc p h there.0 (s.within.processes p there.0 there.2))
    (λ past. absurd (omega (arith, below, past.0, s.within.rest.document.count))) (slice_get_cases w.processes.items p).1

-- a process of the world is one of the document
pub inside : (doc : Doc) (k p : ℕ) (h : List Entry) (w : World) → WorldStands doc k h w → p < count_of w → p < processes doc
inside doc k p h w s within = let count = s.within.rest.document.count in let len = w.processes.ok.0 in omega (arith, within, count, len)
