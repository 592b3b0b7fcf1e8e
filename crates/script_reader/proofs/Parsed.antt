-- What `from_slice` ensures, as the walk says it.
use Rattle.std.proofs.Common.{◌≡◌, ℕ, List, Bool, true, false, cond, Some, None, Ok, codes, refl, ap, ◌∙◌}
use Rattle.std.specs.Str.{IsUtf8, is_utf8}
use Rattle.std.proofs.lemmas.Str.{IsUtf8-from_is_utf8, is_utf8-from_IsUtf8}
use Rattle.serde_json.specs.Data.{Data}
use Rattle.serde_json.specs.Read.{read}
use Rattle.manifest_json.specs.declared.codes.TheConstants.{BAD_JSON}
use Rattle.manifest_json.specs.Faults.{refuse}
use Rattle.manifest_json.specs.Fields.{or_refuse}
use Rattle.script_reader.specs.Walk.{data_of}

pub data-found : (bytes : List ℕ) (d : Data) → IsUtf8 bytes → read bytes ≡ Some d → data_of bytes ≡ Ok d
unfolding data_of
data-found bytes d text is = ap (λ b. or_refuse (cond b (read bytes) None) BAD_JSON (codes "/")) (is_utf8-from_IsUtf8 bytes text) ∙ ap (λ o. or_refuse o BAD_JSON (codes "/")) is

pub data-refused : (bytes : List ℕ) → (IsUtf8 bytes → read bytes ≡ None) → data_of bytes ≡ refuse BAD_JSON (codes "/")
unfolding data_of
data-refused bytes none = by_test (is_utf8 bytes) (λ is. none (IsUtf8-from_is_utf8 bytes is))
  where
    by_test : (b : Bool) → (b ≡ true → read bytes ≡ None) → or_refuse (cond b (read bytes) None) BAD_JSON (codes "/") ≡ refuse BAD_JSON (codes "/")
    by_test true none = ap (λ o. or_refuse o BAD_JSON (codes "/")) (none refl)
    by_test false none = refl

pub never : false ≡ true → ⊥
never h = cc
