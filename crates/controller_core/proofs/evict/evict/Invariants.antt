use Rattle.std.proofs.Common.{◌≡◌, ◌≤◌, ◌+◌, ◌-◌, ◌*◌, ◌==◌, ℕ, false, List, Option}
use Rattle.kube_objects.specs.declared.deed.Deed.{Deed}
use Rattle.kube_objects.specs.declared.key.Key.{Key}
use Rattle.kube_objects.specs.Document.{Doc}
use Rattle.kube_objects.specs.Entry.{Entry, Identity}
use Rattle.rate_bucket.specs.Allowing.{owed_at}
use Rattle.tick_laws.specs.Room.{AreInBeats, AreUpTo}
use Rattle.tick_laws.specs.Steps.{tick_cost}
use Rattle.term_state.specs.MidTick.{IsView, MidTick}
use Rattle.term_state.specs.Sights.{IsSightKept, spent}
use Rattle.controller_core.specs.Allowing.{AllowanceStands}
use Rattle.controller_core.proofs.Evicting.Within.{Within}
use Rattle.controller_core.proofs.evict.evict.Given as goal

abbrev pub decreases-loop-cluster : goal.decreases-loop-cluster
decreases-loop-cluster g l = l.allowance.burst * 1000000000000000 - owed_at l.allowance l.view.now.0

abbrev pub invariant-loop-cluster : goal.invariant-loop-cluster
invariant-loop-cluster g l = record {
  limited : (l.allowance.burst == 0) ≡ false;
  walk : (doc : Doc) (k : ℕ) (q : Identity) (before : List Deed) (h : List Entry) → 1 ≤ doc.settings.rules.evict_burst → AreInBeats h → AreUpTo k h
      → IsSightKept q k h → MidTick doc q k before h l.fn.cluster l.fn.store l.fn.told → IsView doc k q h l.view → AllowanceStands doc q h l.fn.allowance
      → (now : List Entry) × (c : Option (ℕ × Key)) × Within doc k q before h now c l.allowance l.cluster l.store l.view l.told
      × (l.steps + tick_cost q k h ≤ spent l.fn.cluster l.fn.steps + tick_cost q k now);
}
