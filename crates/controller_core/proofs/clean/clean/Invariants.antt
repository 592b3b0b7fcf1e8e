use Rattle.std.proofs.Common.{◌≡◌, ℕ, List, Option}
use Rattle.kube_objects.specs.declared.deed.Deed.{Deed}
use Rattle.kube_objects.specs.declared.rules.JudgeRule.TheVariants as judges
use Rattle.kube_objects.specs.Document.{Doc}
use Rattle.kube_objects.specs.Entry.{Entry, Identity}
use Rattle.tick_laws.specs.Judged.{is_dirty}
use Rattle.term_state.specs.Queues.{IsNextAfter}
use Rattle.term_state.specs.MidTick.{IsView, MidTick}
use Rattle.term_state.specs.Sights.{spent}
use Rattle.controller_core.specs.Cleaning.{AreKept}
use Rattle.controller_core.specs.Costs.{HaveCost}
use Rattle.controller_core.proofs.Cursors.{names_left}
use Rattle.controller_core.proofs.Cleaning.CleanWalk.{Walking}
use Rattle.controller_core.proofs.clean.clean.Given as goal

abbrev pub invariant-loop-next : goal.invariant-loop-next
invariant-loop-next g l =
    (doc : Doc) (k : ℕ) (q : Identity) (before : List Deed) (h : List Entry) → doc.settings.rules.judge ≡ judges.Tick → AreKept doc k q h → MidTick doc q k before h l.fn.cluster l.fn.store l.fn.told → IsView doc k q h l.view
    → (now : List Entry) × (c : Option ℕ) × Walking doc k q before h now c l.cluster l.store l.view l.told × IsNextAfter (λ n. is_dirty q n now) c l.next
    × HaveCost q k h now (spent l.fn.cluster l.fn.steps) (spent l.cluster l.steps)

abbrev pub decreases-loop-next : goal.decreases-loop-next
decreases-loop-next g l = names_left l.next
