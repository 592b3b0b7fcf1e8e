-- A try of a queued taint.
use Rattle.std.specs.Prelude.{ℕ, cond, List, Option, Some, None}
use Rattle.std.specs.Option.{option_map}
use Rattle.kube_base.specs.declared.numbers.Version.{Version}
use Rattle.kube_objects.specs.declared.call.Answer.{Answer}
use Rattle.kube_objects.specs.declared.call.Answer.TheVariants as answer
use Rattle.kube_objects.specs.declared.node.Node.{Node}
use Rattle.kube_objects.specs.Entry as entry
use Rattle.kube_objects.specs.Entry.{Entry, Head, Identity}
use Rattle.kube_objects.specs.Tick.{add}
use Rattle.kube_objects.specs.Tries.{try_node}
use Rattle.taint_zones.specs.declared.place.Place.{Place}
use Rattle.taint_zones.specs.Places.{zone_eq}
use Rattle.controller_core.specs.declared.taint.head.Lacking.{Lacking}

abbrev pub lacking_of : Version → ℕ → Node → Lacking
lacking_of given wanted written = record { given = given; wanted = wanted; written = written }

-- the history with the try
abbrev pub headed : ℕ → Identity → entry.Place → ℕ → Lacking → List Entry → List Entry
headed k q place name x h = add k q (Head place name x.wanted x.given x.written (try_node q name x.given h)) h

-- since when the node waits in a zone after a try in this place, by the answer: not at all, or since the try's beat
abbrev pub requeued : Option Answer → Place → Place → ℕ → Option ℕ → Option ℕ
requeued (Some (answer.Done version)) place zone at old = None
requeued _ place zone at old = cond (zone_eq place zone) (option_map (λ _. at) old) old
