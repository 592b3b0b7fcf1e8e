use Rattle.std.proofs.Common.{◌≡◌, ℕ, List, length}
use Rattle.kube_objects.specs.declared.deed.Deed.{Deed}
use Rattle.kube_objects.specs.Document.{Doc}
use Rattle.kube_objects.specs.Entry.{Entry, Identity}
use Rattle.kube_objects.specs.Judgement.{Passed}
use Rattle.term_state.specs.MidTick.{IsView, MidTick}
use Rattle.term_state.specs.Sights.{spent}
use Rattle.controller_core.specs.Looking.{IsAsMarked, LooksStand}
use Rattle.controller_core.specs.Pushing.{JudgingStand}
use Rattle.controller_core.proofs.Judgement.Walking.{Judging}
use Rattle.controller_core.proofs.judging.judge_all.Given as goal

abbrev pub decreases-loop-name : goal.decreases-loop-name
decreases-loop-name g l = length l.rest

abbrev pub invariant-loop-name : goal.invariant-loop-name
invariant-loop-name g l = record {
  judging : (doc : Doc) (k : ℕ) (q : Identity) (before : List Deed) (h : List Entry) (x : Passed) (xs : List Passed) → MidTick doc q k before h l.fn.cluster l.fn.store l.fn.told → IsView doc k q h l.view
      → LooksStand doc q x l.fn.found → ((name : ℕ) → IsAsMarked q x name h) → l.fn.rule ≡ doc.settings.rules.queue → JudgingStand doc q x xs l.fn.found.names l.fn.pushes
      → Judging doc k q before h x xs l.rest l.looks l.cluster l.store l.view l.told l.pushes (spent l.fn.cluster l.fn.steps) (spent l.cluster l.steps);
}
