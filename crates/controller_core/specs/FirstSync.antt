-- From which reading on a term may sync.
use Rattle.std.specs.Prelude.{◌≡◌, true, List, Option}
use Rattle.kube_base.specs.declared.numbers.Local.{Local}
use Rattle.kube_objects.specs.Document.{Doc}
use Rattle.kube_objects.specs.Elector.{leads}
use Rattle.kube_objects.specs.Entry.{Entry, Identity}
use Rattle.kube_objects.specs.Tick.{settles_at}
use Rattle.controller_core.specs.Passing.{reading_of}

abbrev pub IsSettling : Doc → Identity → List Entry → Option Local → Type 0
IsSettling doc q h at = reading_of at ≡ settles_at doc q h

-- it is known once the term's identity leads
abbrev pub SettlesStand : Doc → Identity → List Entry → Option Local → Type 0
SettlesStand doc q h at = leads q h ≡ true → IsSettling doc q h at
