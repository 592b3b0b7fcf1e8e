use Rattle.std.proofs.Common.{◌≡◌, false, [], ◌∷◌, ◌++◌, drop, map}
use Rattle.serde_json.specs.Written.{members_text}
use Rattle.lens_json.specs.Members.{members_of}
use Rattle.lens_json.specs.Parts.{part_of}
use Rattle.lens_json.proofs.parts.add_parts.Given as goal

-- the members so far and those of the rest
abbrev pub invariant-loop-part : goal.invariant-loop-part
invariant-loop-part l =
    l.text.items ++ members_text l.later (members_of (map part_of (drop l.part-index l.parts)))
    ≡ (l.fn.text.items ++ 123 ∷ []) ++ members_text false (members_of (map part_of l.parts))
