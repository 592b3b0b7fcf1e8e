use Rattle.std.proofs.Common.{◌≡◌, ◌∷◌, [], ℕ, List, length, true, false}
use Rattle.kube_objects.specs.declared.deed.Deed.{Deed}
use Rattle.kube_objects.specs.declared.rules.JudgeRule.TheVariants as judges
use Rattle.kube_objects.specs.Document.{Doc}
use Rattle.kube_objects.specs.Entry.{Entry, Identity}
use Rattle.kube_objects.specs.Health.{is_pass_tick}
use Rattle.kube_objects.specs.Judgement.{Passed, passes}
use Rattle.kube_objects.specs.Newest.{has}
use Rattle.kube_objects.specs.Seen.{seen_node}
use Rattle.term_state.specs.MidTick.{IsView, MidTick}
use Rattle.term_state.specs.Sights.{spent}
use Rattle.controller_core.specs.Looking.{LooksStand, are_looked_ahead}
use Rattle.controller_core.proofs.Cleaning.CleanFound.{Cleaning}
use Rattle.controller_core.proofs.clean.clean_found.Given as goal

abbrev pub decreases-loop-name : goal.decreases-loop-name
decreases-loop-name g l = length l.rest

abbrev pub invariant-loop-name : goal.invariant-loop-name
invariant-loop-name g l = record {
  cleaning : (doc : Doc) (k : ℕ) (q : Identity) (before : List Deed) (h : List Entry) (x : Passed) (xs : List Passed) → doc.settings.rules.judge ≡ judges.Tick → MidTick doc q k before h l.fn.cluster l.fn.store l.fn.told
      → IsView doc k q h l.view → passes q h ≡ x ∷ xs → is_pass_tick k q h ≡ true → ((n : ℕ) → has (seen_node q n h) ≡ has (seen_node q n x.before))
      → (are_looked_ahead doc ≡ true → LooksStand doc q x l.fn.found) → (are_looked_ahead doc ≡ false → l.fn.found.looks.items ≡ [])
      → Cleaning doc k q before h x l.rest l.looks l.cluster l.store l.view l.told (spent l.fn.cluster l.fn.steps) (spent l.cluster l.steps);
}
