use Rattle.std.proofs.Common.{◌≡◌, false, [], ◌∷◌, ◌++◌, drop, map}
use Rattle.serde_json.specs.Written.{items_text}
use Rattle.lens_json.specs.Parts.{items_of, members_in}
use Rattle.lens_json.proofs.parts.add_list.Given as goal

-- the objects so far and those of the rest
abbrev pub invariant-loop-object : goal.invariant-loop-object
invariant-loop-object l =
    l.text.items ++ items_text l.later (items_of (map members_in (drop l.object-index l.objects)))
    ≡ (l.fn.text.items ++ 91 ∷ []) ++ items_text false (items_of (map members_in l.objects))
