-- The rows of totals, one behind the other.
use Rattle.std.proofs.Common.{◌≡◌, ℕ, ◌+◌, ◌<◌, List, [], ◌∷◌, ◌++◌, length, map, drop, get_or, Bor, sym, ap, ◌∙◌, append_assoc}
use Rattle.std.proofs.lemmas.List.{length-map}
use Rattle.std.proofs.lemmas.List.Concat.{flat_map-cons}
use Rattle.std.specs.List.{flat_map}
use Rattle.trace_lines.specs.declared.line.Line.{Line}
use Rattle.lens_summary.specs.Tables.{Texts}
use Rattle.lens_summary.specs.Totals.{kind_rows, kinds, all_rows, total_heading, total_rows}
use Rattle.lens_summary.proofs.StepLaws.{drop-more}

-- what a function makes of the next one is added
pub flat-step : {X A B : Type 0} (f : A → List B) (see : X → A) (xs : List X) (i : ℕ) (d : X) (old new whole : List B) → i < length xs
    → new ≡ old ++ f (see (get_or xs i d)) → old ++ flat_map f (map see (drop i xs)) ≡ whole → new ++ flat_map f (map see (drop (i + 1) xs)) ≡ whole
flat-step f see xs i d old new whole within is so_far =
    let one = f (see (get_or xs i d)) in
    let rest = flat_map f (map see (drop (i + 1) xs)) in
    ap (λ t. t ++ rest) is
    ∙ append_assoc old one rest
    ∙ ap (λ t. old ++ t) (sym (ap (λ ys. flat_map f (map see ys)) (drop-more xs i d within) ∙ flat_map-cons f (see (get_or xs i d)) (map see (drop (i + 1) xs))))
    ∙ so_far

pub kinds-told : (words : List (Bor (List ℕ))) → map (λ word. word.now) words ≡ kinds → length words ≡ 20
unfolding kinds
kinds-told words are = sym (length-map words (λ (word : Bor (List ℕ)). word.now)) ∙ ap length are

pub totals-added : (ls : List (Line (List ℕ))) (old one two three : List Texts) → old ≡ [] → one ≡ old ++ total_heading ∷ []
    → two ≡ one ++ flat_map (kind_rows ls) kinds → three ≡ two ++ all_rows ls → three ≡ total_rows ls
unfolding total_rows
totals-added ls old one two three none p q r =
    let told = flat_map (kind_rows ls) kinds in
    r ∙ ap (λ rows. rows ++ all_rows ls) q ∙ append_assoc one told (all_rows ls)
    ∙ ap (λ rows. rows ++ (told ++ all_rows ls)) (p ∙ ap (λ rows. rows ++ total_heading ∷ []) none)
