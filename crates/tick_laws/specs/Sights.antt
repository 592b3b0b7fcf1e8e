-- What a term has last seen of pods, within a tick.
use Rattle.std.specs.Prelude.{◌≡◌, ℕ, List, None}
use Rattle.kube_objects.specs.declared.key.Key.{Key}
use Rattle.kube_objects.specs.Entry.{Entry, Identity}
use Rattle.kube_objects.specs.Sightings.{last_sight, sight}
use Rattle.kube_objects.specs.Tainting.{before_tick}

-- of a pod whose node isn't seen it is what it was before the tick
abbrev pub AreSightsKept : Identity → ℕ → List Entry → Type 0
AreSightsKept q k h = (pod : Key) → sight q pod h ≡ None → last_sight q pod h ≡ last_sight q pod (before_tick q k h)
