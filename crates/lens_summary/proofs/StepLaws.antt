-- Loops over lines and terms, one more of them.
use Rattle.std.proofs.Common.{◌≡◌, ℕ, ◌+◌, ◌<◌, List, [], ◌∷◌, ◌++◌, length, map, drop, get_or, filter_map, option_to_list, Option, Some, None, Bor, refl, sym, ap, ◌∙◌, append_assoc, add-one}
use Rattle.std.proofs.Math.Seq.{drop-cons}
use Rattle.std.specs.List.{cons_option}
use Rattle.lens_terms.specs.declared.stretch.Stretch.{Stretch}
use Rattle.lens_terms.specs.Acting.{shown}
use Rattle.lens_terms.specs.Spans.{leaderless}
use Rattle.lens_trace.proofs.ShownLaws.{leaderless-shown}

pub drop-more : {A : Type 0} (xs : List A) (n : ℕ) (d : A) → n < length xs → drop n xs ≡ get_or xs n d ∷ drop (n + 1) xs
drop-more xs n d within = drop-cons xs n d within ∙ ap (λ k. get_or xs n d ∷ drop k xs) (sym (add-one n))

option-more : {A : Type 0} (o : Option A) (xs : List A) → option_to_list o ++ xs ≡ cons_option o xs
option-more (Some x) xs = refl
option-more None xs = refl

-- what a function makes of the next one, if anything, is added
pub filter-step : {X A B : Type 0} (f : A → Option B) (see : X → A) (xs : List X) (i : ℕ) (d : X) (old new whole : List B) → i < length xs
    → new ≡ old ++ option_to_list (f (see (get_or xs i d))) → old ++ filter_map f (map see (drop i xs)) ≡ whole → new ++ filter_map f (map see (drop (i + 1) xs)) ≡ whole
filter-step f see xs i d old new whole within is so_far =
    let rest = filter_map f (map see (drop (i + 1) xs)) in
    ap (λ t. t ++ rest) is
    ∙ append_assoc old (option_to_list (f (see (get_or xs i d)))) rest
    ∙ ap (λ t. old ++ t) (option-more (f (see (get_or xs i d))) rest ∙ sym (ap (λ ys. filter_map f (map see ys)) (drop-more xs i d within)))
    ∙ so_far

-- what a function makes of the next one is added
pub map-step : {X A B : Type 0} (f : A → B) (see : X → A) (xs : List X) (i : ℕ) (d : X) (old new whole : List B) → i < length xs
    → new ≡ old ++ f (see (get_or xs i d)) ∷ [] → old ++ map f (map see (drop i xs)) ≡ whole → new ++ map f (map see (drop (i + 1) xs)) ≡ whole
map-step f see xs i d old new whole within is so_far =
    let rest = map f (map see (drop (i + 1) xs)) in
    ap (λ t. t ++ rest) is
    ∙ append_assoc old (f (see (get_or xs i d)) ∷ []) rest
    ∙ ap (λ t. old ++ t) (sym (ap (λ ys. map f (map see ys)) (drop-more xs i d within)))
    ∙ so_far

pub leaderless_shown : (stop : ℕ) (all : List (Stretch (Bor (List ℕ)))) → leaderless 0 stop (map shown all) ≡ leaderless 0 stop all
leaderless_shown stop all = leaderless-shown 0 stop all
