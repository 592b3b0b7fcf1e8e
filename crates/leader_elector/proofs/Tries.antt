-- A candidate after the attempt of its turn.
use Rattle.std.proofs.Common.{◌≡◌, ℕ, Bool, false, List, Option, Some, None}
use Rattle.kube_objects.specs.declared.call.Ask.{Ask}
use Rattle.kube_objects.specs.Document.{Doc}
use Rattle.kube_objects.specs.Elector.{leads}
use Rattle.kube_objects.specs.Entry.{Entry, Identity}
use Rattle.kube_objects.specs.Process.{is_releasing}
use Rattle.kube_objects.specs.Turns.{try}
use Rattle.leader_elector.specs.declared.elector.Elector.{Elector}
use Rattle.leader_elector.specs.Moves.{CandidateTurns, Tried, after_turn}
use Rattle.leader_elector.specs.Stands.{IsSettled}
use Rattle.leader_elector.proofs.Own.{asked-settled}

pub turns-tried : (doc : Doc) (k : ℕ) (q : Identity) (h : List Entry) (e : Elector) (expired : Bool) (ask : Option Ask) → leads q h ≡ false → is_releasing q h ≡ false → (expired ≡ false → IsSettled q h) →
    Tried doc k q h (try doc k q h) e expired ask → CandidateTurns doc k q h (after_turn (record { elector = e }) ask)
turns-tried doc k q h e expired None led unreleased settled t = (
  t.1,
  record {
    elector = t.2;
    settled = settled t.0;
    leads = led;
    unreleased = unreleased;
  },
)
turns-tried doc k q h e expired (Some ask) led unreleased settled a =
    asked-settled a (λ call arrives stands settled. record { elector = stands; settled = settled; leads = led; unreleased = unreleased })
