-- What is shown of a place, and a beginning of it.
use Rattle.std.proofs.Common.{◌≡◌, ℕ, List, ◌++◌, take, drop, sym, ap, ◌∙◌, append_assoc, take-append-drop}
use Rattle.lens_explain.specs.declared.place.Shown.{Shown}
use Rattle.lens_explain.specs.Places.{IsShown, IsShownOf}

-- a beginning of what is shown is shown too
pub shortened : (input : List ℕ) (place : ℕ) (s t : Shown) (n : ℕ) → t.line ≡ s.line → t.column ≡ s.column → t.text.now ≡ take n s.text.now
    → IsShown input place s → IsShown input place t
shortened input place s t n line column text shown =
    let more = drop n s.text.now ++ shown.2.0 in
    let whole : t.text.now ++ more ≡ drop place input
    = ap (λ l. l ++ more) text ∙ sym (append_assoc (take n s.text.now) (drop n s.text.now) shown.2.0) ∙ ap (λ l. l ++ shown.2.0) (take-append-drop n s.text.now) ∙ shown.2.1 in
    (line ∙ shown.0, column ∙ shown.1, (more, whole))

-- what is shown of a refusal, in another form of the same place
pub shown-as : (input : List ℕ) (code : ℕ) (path : List ℕ) (s t : Shown) → ((place : ℕ) → IsShown input place s → IsShown input place t) → IsShownOf input code path s → IsShownOf input code path t
shown-as input code path s t same shown = (shown.0, shown.1, same shown.0 shown.2)

-- a text in two parts, behind a place
pub behind-place : (input back shown rest : List ℕ) (place n : ℕ) → back ≡ drop place input → shown ≡ take n back → rest ≡ drop n back → shown ++ rest ≡ drop place input
behind-place input back shown rest place n b s r = (λ i. s i ++ r i) ∙ take-append-drop n back ∙ b
