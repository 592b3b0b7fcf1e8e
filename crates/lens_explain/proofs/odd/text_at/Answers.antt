use Rattle.std.proofs.Common.{◌≡◌, List, ℕ, None, true, false, cond, option_and_then, refl, sym, ap, ◌∙◌}
use Rattle.std.proofs.lemmas.Str.{IsUtf8-from_is_utf8, is_utf8-from_IsUtf8}
use Rattle.std.specs.Str.{IsUtf8, is_utf8}
use Rattle.lens_explain.specs.Odd as spec
use Rattle.serde_json.specs.Data.{Data}
use Rattle.serde_json.specs.Find.{as_str, pointer}
use Rattle.serde_json.specs.View.{view}
use Rattle.lens_explain.proofs.odd.text_at.Goals as goal

there : (path : List ℕ) (d : Data) → IsUtf8 path → option_and_then as_str (pointer path d) ≡ spec.text_at path d
there path d is = ap (λ b. cond b (option_and_then as_str (pointer path d)) None) (sym (is_utf8-from_IsUtf8 path is))

none_there : (path : List ℕ) (d : Data) → (IsUtf8 path → ⊥) → None ≡ spec.text_at path d
none_there path d not =
    elim (is_utf8 path) as (λ b. is_utf8 path ≡ b → None ≡ cond b (option_and_then as_str (pointer path d)) None) [
      | true ↦ λ e. absurd (not (IsUtf8-from_is_utf8 path e))
      | false ↦ λ e. refl
    ] refl

pub returns-in-Ok : goal.returns-in-Ok
returns-in-Ok c =
    let d = view c.args.value.now in
    let path = c.args.path.now in
    let found = c.text_in.ensures in
    found ∙ ap (λ p. option_and_then as_str (pointer p d)) c.in-Ok.ensures.cases.0 ∙ there path d c.in-Ok.ensures.cases.1

pub returns-in-Err : goal.returns-in-Err
returns-in-Err c = none_there c.args.path.now (view c.args.value.now) c.in-Err.ensures.cases.0
