-- One taint line more is looked at.
use Rattle.std.proofs.Common.{◌≡◌, ℕ, Bool, true, false, cond, List, [], ◌∷◌, ◌++◌, slice_get, Option, Some, refl, sym, ap, ◌∙◌}
use Rattle.trace_terms.specs.declared.mark.Mark.{Mark}
use Rattle.trace_terms.specs.Findings.{earlier, least, breaking, breaks}
use Rattle.trace_terms.proofs.Least.{earlier-join}

pub breaking-step : (millis rate zones : ℕ) (start found : Option ℕ) (mark : Mark) (older : List Mark) (b : Bool)
    → breaks millis rate start (slice_get (mark ∷ older) zones) mark.beat ≡ b
    → earlier found (least (breaking millis rate zones start (mark ∷ older))) ≡ earlier (cond b (earlier found (Some mark.line)) found) (least (breaking millis rate zones start older))
breaking-step millis rate zones start found mark older b e =
    ap (λ c. earlier found (least (cond c (mark.line ∷ []) [] ++ breaking millis rate zones start older))) e ∙ by b
  where
    by : (b : Bool) → earlier found (least (cond b (mark.line ∷ []) [] ++ breaking millis rate zones start older))
        ≡ earlier (cond b (earlier found (Some mark.line)) found) (least (breaking millis rate zones start older))
    by true = sym (earlier-join found (Some mark.line) (least (breaking millis rate zones start older)))
    by false = refl
