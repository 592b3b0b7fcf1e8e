-- Members that are added to others.
use Rattle.std.proofs.Common.{◌≡◌, List, ◌++◌, map, ap, ◌∙◌}
use Rattle.std.proofs.lemmas.List.{map-append}
use Rattle.lens_json.specs.declared.part.Part.{Part}
use Rattle.lens_json.specs.Parts.{part_of}

pub joined : (old more new : List Part) → new ≡ old ++ more → map part_of new ≡ map part_of old ++ map part_of more
joined old more new e = ap (map part_of) e ∙ map-append part_of old more
