-- A lawful document is sound.
use Rattle.std.proofs.Common.{ℕ, List, [], ◌∷◌}
use Rattle.kube_objects.specs.Document.{Doc}
use Rattle.kube_objects.specs.declared.script.Event.{Event}
use Rattle.kube_objects.specs.declared.script.What.{What}
use Rattle.kube_objects.specs.declared.script.What.TheVariants as whats
use Rattle.history.specs.Sound.{IsSoundEvent, AreSound, IsSound}
use Rattle.script_reader.specs.Lawful.{IsLawfulWhat, AreLawfulFrom, IsLawfulDoc}

sound-what : (doc : Doc) (what : What) → IsLawfulWhat doc what → IsSoundEvent doc what
sound-what doc (whats.Rate id ppm) lawful = tt
sound-what doc (whats.Delay id requests replies) lawful = (lawful.1.0, lawful.2.0)
sound-what doc (whats.Loss id requests replies) lawful = tt
sound-what doc (whats.Crash id) lawful = tt
sound-what doc (whats.Start id) lawful = tt
sound-what doc (whats.Stop id) lawful = lawful
sound-what doc (whats.Watch id on) lawful = tt
sound-what doc (whats.Ready id status) lawful = tt
sound-what doc (whats.Pause id beats) lawful = tt
sound-what doc (whats.Stall beats) lawful = tt
sound-what doc (whats.Put key object) lawful = lawful.0
sound-what doc (whats.Remove key) lawful = lawful

sound-events : (doc : Doc) (from : ℕ) (events : List Event) → AreLawfulFrom doc from events → AreSound doc events
sound-events doc from [] lawful = tt
sound-events doc from (e ∷ es) lawful = (sound-what doc e.what lawful.2, sound-events doc e.beat.0 es lawful.3)

pub sound-document : (doc : Doc) → IsLawfulDoc doc → IsSound doc
sound-document doc lawful = (sound-events doc 0 doc.events lawful.events, lawful.apart)
