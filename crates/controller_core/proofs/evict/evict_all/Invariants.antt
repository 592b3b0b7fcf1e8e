use Rattle.std.proofs.Common.{◌≡◌, ◌≤◌, ◌+◌, ℕ, List, Option}
use Rattle.std.specs.BTreeSet.{btree_set_len}
use Rattle.kube_objects.specs.declared.deed.Deed.{Deed}
use Rattle.kube_objects.specs.declared.key.Key.{Key}
use Rattle.kube_objects.specs.Document.{Doc}
use Rattle.kube_objects.specs.Entry.{Entry, Identity}
use Rattle.tick_laws.specs.Steps.{tick_cost}
use Rattle.term_state.specs.ClusterStands.{no_pod}
use Rattle.term_state.specs.MidTick.{IsView}
use Rattle.controller_core.specs.Deleting.{Deleting}
use Rattle.controller_core.proofs.Evicting.Walking.{Evicting}
use Rattle.controller_core.proofs.evict.evict_all.Given as goal

abbrev pub decreases-loop-pod : goal.decreases-loop-pod
decreases-loop-pod g l = btree_set_len l.todo

abbrev pub invariant-loop-pod : goal.invariant-loop-pod
invariant-loop-pod g l = (doc : Doc) (k : ℕ) (q : Identity) (before : List Deed) (h : List Entry) → doc.settings.rules.evict_burst ≡ 0 → Deleting doc q k before h no_pod l.fn.cluster l.fn.store l.fn.told → IsView doc k q h l.view
    → (now : List Entry) × (c : Option Key) × Evicting doc k q before h now c l.todo l.cluster l.store l.view l.told
    × (l.steps + tick_cost q k h ≤ l.fn.steps + (1 + btree_set_len l.todo + tick_cost q k now))
