-- The turn of a zone's first push.
use Rattle.std.specs.Prelude.{ℕ, Bool, true, Option, Some, None}
use Rattle.kube_base.specs.declared.numbers.Version.{Version}
use Rattle.kube_objects.specs.declared.node.Node.{Node}
use Rattle.kube_objects.specs.Document.{Doc}
use Rattle.kube_objects.specs.Entry.{Identity, Tick, Head}
use Rattle.kube_objects.specs.Seen.{is_accepted}
use Rattle.kube_objects.specs.Tainting.{Wants, Wanted, wants_ready}
use Rattle.kube_objects.specs.Tick.{new_taint, restamped}
use Rattle.controller_core.specs.declared.pushing.head.Wanting.{Wanting}

-- a node that wants a taint by its Ready, and the node with that taint stamped anew
abbrev pub wanting_by : Doc → ℕ → Identity → Version × Node → Wants → Option Wanting
wanting_by doc k q x (Wanted wanted) = Some (record { given = x.0; wanted = wanted; written = restamped (new_taint doc k q wanted) x.1 })
wanting_by doc k q x _ = None

abbrev pub wanting_of : Doc → ℕ → Identity → Option (Version × Node) → Option Wanting
wanting_of doc k q None = None
wanting_of doc k q (Some x) = wanting_by doc k q x (wants_ready x.1.ready)

-- whether the push may go by its turn: not where the try was refused or lost
abbrev pub lets_go : Tick → Bool
lets_go (Head place name wanted given written tried) = is_accepted tried
lets_go _ = true
