use Rattle.std.proofs.Common.{◌≡◌, false, [], ◌∷◌, ◌++◌, drop, map}
use Rattle.serde_json.specs.Written.{members_text}
use Rattle.lens_json.specs.Members.{members_of, named}
use Rattle.lens_json.proofs.object.add_object.Given as goal

-- the members so far and those of the rest
abbrev pub invariant-loop-member : goal.invariant-loop-member
invariant-loop-member l =
    l.text.items ++ members_text l.later (members_of (map named (drop l.member-index l.members)))
    ≡ (l.fn.text.items ++ 123 ∷ []) ++ members_text false (members_of (map named l.members))
