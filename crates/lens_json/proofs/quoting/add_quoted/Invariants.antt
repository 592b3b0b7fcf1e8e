use Rattle.std.proofs.Common.{◌≡◌, [], ◌∷◌, ◌++◌, drop}
use Rattle.json.specs.Print.{escape}
use Rattle.lens_json.proofs.quoting.add_quoted.Given as goal

-- the bytes so far and those of the rest
abbrev pub invariant-loop-byte : goal.invariant-loop-byte
invariant-loop-byte l = l.text.items ++ escape (drop l.byte-index l.shown) ≡ (l.fn.text.items ++ 34 ∷ []) ++ escape l.shown
