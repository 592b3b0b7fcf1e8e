-- The reply that may come too late, as where it is lost: a leader that acts in its release may then act beside the next one, whatever the lease.
use Rattle.std.specs.Prelude.{ℕ, ◌+◌, nat_lt, List, [], ◌∷◌, ◌++◌, codes, decimal, Option, Some, None, if◌then◌else◌}
use Rattle.kube_base.specs.declared.numbers.Beat.{Beat}
use Rattle.kube_base.specs.declared.numbers.ProcId.{ProcId}
use Rattle.kube_objects.specs.declared.rules.ReleaseActing.{ReleaseActing}
use Rattle.kube_objects.specs.declared.rules.ReleaseActing.TheVariants.{Still, Acts}
use Rattle.kube_objects.specs.declared.script.Event.{Event}
use Rattle.kube_objects.specs.declared.script.What.{What}
use Rattle.kube_objects.specs.declared.script.What.TheVariants.{Loss, Delay}
use Rattle.kube_objects.specs.Document.{Doc, field, is_controller, process_at}
use Rattle.script_reader.specs.declared.document.Document.{Document}
use Rattle.script_reader.specs.Documents.{doc_of}
use Rattle.trace_writer.specs.Names.{text_of}
use Rattle.lens_room.specs.declared.late.Late.{Late}

abbrev pub late_of : Doc → ℕ → Beat → ProcId → Option Late
late_of doc place beat who = if is_controller doc who.0 then Some (record { place = place; beat = beat; who = who }) else None

-- by an event of a place among the events, a reply to a controller is lost or comes later than the three beats that a takeover takes
abbrev pub late_in : Doc → ℕ → Beat → What → Option Late
late_in doc place beat (Loss who requests replies) = if replies then late_of doc place beat who else None
late_in doc place beat (Delay who requests replies) = if nat_lt 3 replies then late_of doc place beat who else None
late_in doc place beat _ = None

abbrev pub first_late : Doc → ℕ → List Event → Option Late
first_late doc place [] = None
first_late doc place (e ∷ es) = elim (late_in doc place e.beat e.what) [ None ↦ first_late doc (place + 1) es | Some late ↦ Some late ]

abbrev pub late_by : ReleaseActing → Doc → Option Late
late_by Still doc = None
late_by Acts doc = first_late doc 0 doc.events

-- the first of a document
abbrev pub late_reply : Doc → Option Late
late_reply doc = late_by doc.settings.rules.in_release doc

-- ---- the line that says why no lease is enough

unfoldable pub place_text : Late → List ℕ
place_text late = codes "late-reply=/events/" ++ (decimal late.place ++ (codes " beat=" ++ (decimal late.beat.0 ++ codes " controller=")))

unfoldable pub why_text : List ℕ → List ℕ
why_text name = name ++ codes ": no lease is enough, since " ++ name ++ codes " acts in its release until it has the answer\n"

unfoldable pub line_text : Late → List ℕ → List ℕ
line_text late name = place_text late ++ why_text name

-- by the controller's name
abbrev pub text_by : Document → Option Late → List ℕ
text_by d None = []
text_by d (Some late) = line_text late (text_of d.names (field (λ x. x.name) 0 (process_at (doc_of d) late.who.0)))

abbrev pub late_text : Document → List ℕ
late_text d = text_by d (late_reply (doc_of d))
