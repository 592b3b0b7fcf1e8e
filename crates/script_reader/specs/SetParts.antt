-- Sets of pods and listed objects as the code keeps them.
use Rattle.std.specs.Prelude.{◌≡◌, ◌<◌, ◌^◌, ◌++◌, codes, string_bytes}
use Rattle.manifest_json.specs.declared.list.Listed.{Listed}
use Rattle.manifest_json.specs.declared.list.Objects.{Objects}
use Rattle.script_reader.specs.declared.sets.Pattern.{Pattern}
use Rattle.script_reader.specs.declared.sets.Shares.{Shares}
use Rattle.script_reader.specs.Sets.{Alike, pods_of}

abbrev pub alike : Pattern → Alike
alike p = record { space = p.space; name = string_bytes p.name; tolerations = p.tolerations }

-- the stem is what the name of each pod begins with
abbrev pub HasStem : Pattern → Type 0
HasStem p = string_bytes p.stem ≡ string_bytes p.name ++ codes "-"

-- the sum is that of the members, and far below what its type holds
pub record AreCounted (s : Shares) : Type 0 where
  pub pods : s.pods ≡ pods_of s.list
  pub few : s.pods < 2 ^ 63

abbrev pub listed_objects : Listed → Objects
listed_objects l = record { items = l.kept.items; skipped = l.skipped }
