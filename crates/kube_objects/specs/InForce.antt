-- Watches and Ready statuses in force: what the last such event says, or else the document. Source: profile.
use Rattle.std.specs.Prelude.{ℕ, ◌==◌, Bool, true, List, Option, None}
use Rattle.kube_objects.specs.declared.node.ReadyStatus.{ReadyStatus}
use Rattle.kube_objects.specs.declared.node.ReadyStatus.TheVariants as ready
use Rattle.kube_objects.specs.declared.script.What.{What}
use Rattle.kube_objects.specs.declared.script.What.TheVariants.{Watch, Ready}
use Rattle.kube_objects.specs.Document.{Doc, field, process_at}
use Rattle.kube_objects.specs.Entry.{Entry}
use Rattle.kube_objects.specs.Newest.{when, or_else}
use Rattle.kube_objects.specs.Wire.{in_force}

abbrev pub watch_of : ℕ → What → Option Bool
watch_of p (Watch id on) = when (id.0 == p) on
watch_of p _ = None

abbrev pub status_of : ℕ → What → Option ReadyStatus
status_of p (Ready id status) = when (id.0 == p) status
status_of p _ = None

-- as the document has them
abbrev pub watches_first : Doc → ℕ → Bool
watches_first doc p = field (λ x. x.watch) true (process_at doc p)

abbrev pub first_status : Doc → ℕ → ReadyStatus
first_status doc p = field (λ x. x.ready) ready.True (process_at doc p)

-- whether a controller's watch is on
abbrev pub watches : Doc → ℕ → List Entry → Bool
watches doc p h = or_else (watches_first doc p) (in_force (watch_of p) h)

-- the status that a kubelet's messages carry
abbrev pub posted_status : Doc → ℕ → List Entry → ReadyStatus
posted_status doc p h = or_else (first_status doc p) (in_force (status_of p) h)
