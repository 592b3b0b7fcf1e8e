use Rattle.std.proofs.Common.{◌≤◌, ◌-◌, ℕ, List, length, vec_len}
use Rattle.kube_objects.specs.declared.deed.Deed.{Deed}
use Rattle.kube_objects.specs.Document.{Doc, processes}
use Rattle.kube_objects.specs.Entry.{Entry}
use Rattle.kube_objects.specs.Wire.{Sent, Back}
use Rattle.history.specs.Steps.{turns}
use Rattle.world_process.specs.Plain.{IsFew}
use Rattle.world_core.specs.Worlds.{Keeps, MidBeat}
use Rattle.world_core.proofs.world.World.kubelet_turns.Given as goal

abbrev pub invariant-kubelets : goal.invariant-kubelets
invariant-kubelets l =
    record {
      kept : Keeps l.fn.self l.self;
      least : l.fn.self.controllers ≤ l.next;
      most : l.next ≤ vec_len l.fn.self.processes;
      stands : (doc : Doc) (k : ℕ) (before : List Deed) (arriving : List Sent) (coming : List Back) (h : List Entry)
          → MidBeat doc k before arriving coming (turns doc k (length doc.controllers) h) l.fn.self l.fn.deeds → IsFew (turns doc k (processes doc) h) → MidBeat doc k before arriving coming (turns doc k l.next h) l.self l.deeds;
    }

abbrev pub decreases-kubelets : goal.decreases-kubelets
decreases-kubelets l = vec_len l.fn.self.processes - l.next
