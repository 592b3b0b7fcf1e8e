-- The write by which a tick cleans a node, and ticks that strip none.
use Rattle.std.specs.Prelude.{◌≡◌, ℕ, true, false, List}
use Rattle.kube_objects.specs.Document.{Doc}
use Rattle.kube_objects.specs.Entry.{Entry, Identity}
use Rattle.kube_objects.specs.Newest.{has}
use Rattle.kube_objects.specs.Seen.{seen_node}
use Rattle.kube_objects.specs.Tick.{is_stripped}
use Rattle.kube_objects.specs.Tainting.{Wants, Wanted}
use Rattle.term_state.specs.declared.writes.NodeWrite.{NodeWrite}
use Rattle.term_state.specs.declared.writes.NodeWrite.TheVariants.{Untaint, Swap}

-- of a node that wants this
abbrev pub write_for : Wants → NodeWrite
write_for (Wanted wanted) = Swap wanted
write_for _ = Untaint

-- no node that is seen is stripped of its condition taints
abbrev pub AreKept : Doc → ℕ → Identity → List Entry → Type 0
AreKept doc k q h = (n : ℕ) → has (seen_node q n h) ≡ true → is_stripped doc.settings.rules.first_sight k q n h ≡ false
