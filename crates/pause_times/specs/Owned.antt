-- The pauses of a process in a script, and the stalls of the store.
use Rattle.std.specs.Prelude.{◌≡◌, ℕ, ◌+◌, ◌<◌, ◌^◌, ◌++◌, List, [], ◌∷◌, All, Option, Some, None, IfSome}
use Rattle.kube_base.specs.declared.numbers.Beat.{Beat}
use Rattle.kube_objects.specs.declared.script.Event.{Event}
use Rattle.kube_objects.specs.declared.script.What.{What}
use Rattle.kube_objects.specs.Document.{Doc}
use Rattle.kube_objects.specs.Pauses.{pause_of}
use Rattle.kube_objects.specs.Stalls.{stall_of}
use Rattle.history.specs.Sound.{AreApart}
use Rattle.pause_times.specs.declared.pauses.Pauses.{Pauses}
use Rattle.pause_times.specs.declared.spans.Pause.{Pause}
use Rattle.pause_times.specs.declared.stalls.Stalls.{Stalls}

abbrev pub beat_of : Option Beat → Option ℕ
beat_of None = None
beat_of (Some beat) = Some beat.0

-- a pause from a beat on, where it lasts some beats
abbrev pub pause_from : Beat → Option ℕ → List Pause
pause_from begins None = []
pause_from begins (Some beats) = record { begins = begins; ends = record { 0 = begins.0 + beats } } ∷ []

-- what events begin, by what each lasts, in their order
abbrev pub spans_of : (What → Option ℕ) → List Event → List Pause
spans_of lasts [] = []
spans_of lasts (e ∷ es) = pause_from e.beat (lasts e.what) ++ spans_of lasts es

-- the pause of a process that an event begins
abbrev pub pauses_in : ℕ → Event → List Pause
pauses_in p e = pause_from e.beat (pause_of p e.what)

abbrev pub pauses_of : ℕ → List Event → List Pause
pauses_of p es = spans_of (pause_of p) es

-- the stall that an event begins
abbrev pub stalls_in : Event → List Pause
stalls_in e = pause_from e.beat (stall_of e.what)

abbrev pub stalls_of : List Event → List Pause
stalls_of es = spans_of stall_of es

-- each stall is over at a beat
abbrev pub AreStallsFit : List Event → Type 0
AreStallsFit events = All (λ e. IfSome (stall_of e.what) (λ beats. e.beat.0 + beats < 2 ^ 32)) events

-- the pauses are those of a process of the document, in which it goes on for a beat at least between two of them
pub record PausesStand (doc : Doc) (p : ℕ) (x : Pauses) : Type 0 where
  pub all : x.all.items ≡ pauses_of p doc.events
  pub apart : AreApart doc.events

-- the stalls are those of the document, in which the store goes on for a beat at least between two of them
pub record StallsStand (doc : Doc) (x : Stalls) : Type 0 where
  pub all : x.all.items ≡ stalls_of doc.events
  pub apart : AreApart doc.events
