-- Zones within a pass.
use Rattle.std.specs.Prelude.{◌≡◌, List, None}
use Rattle.kube_objects.specs.Document.{Doc}
use Rattle.kube_objects.specs.Entry.{Entry, Identity, Place as Zone}
use Rattle.kube_objects.specs.Modes.{nodes, size_in}
use Rattle.kube_objects.specs.Tokens.{rated}
use Rattle.taint_zones.specs.Limits.{LimitStands, limit_at}
use Rattle.taint_zones.specs.declared.zones.Zones.{Zones}

-- the zones before their new states and rates: a zone without nodes isn't a zone any more, and may still have a limit
pub record ArePassed (doc : Doc) (q : Identity) (h : List Entry) (zones : Zones) : Type 0 where
  pub there : (place : Zone) → (size_in place (nodes q h) ≡ 0 → ⊥) → LimitStands doc q h place (limit_at zones place)
  pub gone : (place : Zone) → size_in place (nodes q h) ≡ 0 → rated q place h ≡ None
