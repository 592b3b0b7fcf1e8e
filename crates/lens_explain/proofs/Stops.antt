-- Where an input stops to be JSON.
use Rattle.std.proofs.Common.{◌≡◌, ◌<◌, ℕ, List, [], ◌∷◌, true, false, length, refl, sym, ◌∙◌, arith}
use Rattle.std.proofs.lemmas.Bool.{true≢false}
use Rattle.std.specs.Str.{chars, is_utf8}
use Rattle.script_reader.specs.Walk.{data_of}
use Rattle.serde_json.proofs.OnLiterals.{serde_json_on_literals}
use Rattle.lens_explain.specs.Fronts.{can_go_on}

-- no byte at all can be ended
pub none_goes_on : (input : List ℕ) → can_go_on input 0 ≡ true
unfolding serde_json_on_literals data_of is_utf8 chars
none_goes_on input = refl

-- so an input that can't has a byte
pub some_byte : (input : List ℕ) → can_go_on input (length input) ≡ false → 0 < length input
some_byte [] is = absurd (true≢false (sym (none_goes_on []) ∙ is))
some_byte (x ∷ xs) is = omega arith
