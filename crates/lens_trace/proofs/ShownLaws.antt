-- What is told of terms is told of them with the texts themselves in the place of references to them.
use Rattle.std.proofs.Common.{◌≡◌, ℕ, Bool, true, false, cond, List, [], ◌∷◌, ◌++◌, map, max, codes, decimal, Bor, Option, Some, refl, sym, ap, ◌∙◌, append_assoc}
use Rattle.std.proofs.lemmas.List.Concat.{flat_map-cons}
use Rattle.std.specs.List.{flat_map}
use Rattle.std.specs.Option.{option_map}
use Rattle.lens_terms.specs.declared.stretch.Stretch.{Stretch}
use Rattle.lens_terms.specs.declared.term.Term.{Term}
use Rattle.lens_terms.specs.declared.span.Span.{Span}
use Rattle.lens_terms.specs.Spans.{span, leaderless}
use Rattle.lens_terms.specs.Acting.{shown as stretch_shown}
use Rattle.lens_terms.specs.Terms.{shown}
use Rattle.lens_terms.specs.Together.{first, crosses}
use Rattle.lens_trace.specs.Leaders.{term_line, span_line, told_terms, overlap_line, beside_text}

pub flat-shown : (f : Term (List ℕ) → List ℕ) (ts : List (Term (Bor (List ℕ)))) → flat_map f (map shown ts) ≡ flat_map (λ t. f (shown t)) ts
flat-shown f [] = refl
flat-shown f (t ∷ ts) =
    flat_map-cons f (shown t) (map shown ts) ∙ ap (λ rest. f (shown t) ++ rest) (flat-shown f ts) ∙ sym (flat_map-cons (λ t. f (shown t)) t ts)

pub leaderless-shown : (since stop : ℕ) (all : List (Stretch (Bor (List ℕ)))) → leaderless since stop (map stretch_shown all) ≡ leaderless since stop all
leaderless-shown since stop [] = refl
leaderless-shown since stop (s ∷ all) = ap (λ rest. span since s.from ++ rest) (leaderless-shown (max since s.until) stop all)

pub first-shown : (test : Stretch (List ℕ) → Bool) (all : List (Stretch (Bor (List ℕ)))) → first test (map stretch_shown all) ≡ option_map stretch_shown (first (λ s. test (stretch_shown s)) all)
first-shown test [] = refl
first-shown test (s ∷ all) = by (test (stretch_shown s)) (first-shown test all)
  where
    by : (b : Bool) → first test (map stretch_shown all) ≡ option_map stretch_shown (first (λ s. test (stretch_shown s)) all)
        → cond b (Some (stretch_shown s)) (first test (map stretch_shown all)) ≡ option_map stretch_shown (cond b (Some s) (first (λ s. test (stretch_shown s)) all))
    by true h = refl
    by false h = h

-- ---- texts that are added

pub added : (old one two a b : List ℕ) → one ≡ old ++ a → two ≡ one ++ b → two ≡ old ++ (a ++ b)
added old one two a b p q = q ∙ ap (λ t. t ++ b) p ∙ append_assoc old a b

-- the lines of terms and those of spans
pub terms-told : (stop : ℕ) (ts : List (Term (Bor (List ℕ)))) (all : List (Stretch (Bor (List ℕ)))) (spans : List Span) (old one two : List ℕ) → spans ≡ leaderless 0 stop all
    → one ≡ old ++ flat_map (λ t. term_line stop (shown t)) ts → two ≡ one ++ flat_map span_line spans → two ≡ old ++ told_terms stop (map shown ts) (map stretch_shown all)
unfolding told_terms
terms-told stop ts all spans old one two are terms then =
    added old one two (flat_map (term_line stop) (map shown ts)) (flat_map span_line (leaderless 0 stop (map stretch_shown all)))
    (terms ∙ ap (λ t. old ++ t) (sym (flat-shown (term_line stop) ts)))
    (then ∙ ap (λ s. one ++ flat_map span_line s) (are ∙ sym (leaderless-shown 0 stop all)))

-- the line on an overlap
pub overlap-told : (all : List (Stretch (Bor (List ℕ)))) (s : Stretch (Bor (List ℕ))) (found : Option (Stretch (Bor (List ℕ)))) (old one two three four five : List ℕ)
    → found ≡ first (λ other. crosses (stretch_shown s) (stretch_shown other)) all
    → one ≡ old ++ (codes "overlap line=" ++ decimal s.line) → two ≡ one ++ (codes " from=" ++ decimal s.from) → three ≡ two ++ codes " who=" → four ≡ three ++ s.actor.now
    → five ≡ four ++ beside_text (option_map stretch_shown found)
    → five ≡ old ++ overlap_line (map stretch_shown all) (stretch_shown s)
unfolding overlap_line
overlap-told all s found old one two three four five is line from who actor then =
    let beside = first (crosses (stretch_shown s)) (map stretch_shown all) in
    let label = codes "overlap line=" ++ decimal s.line in
    let beat = codes " from=" ++ decimal s.from in
    let last : five ≡ four ++ beside_text beside = then ∙ ap (λ o. four ++ beside_text o) (ap (λ o. option_map stretch_shown o) is ∙ sym (first-shown (crosses (stretch_shown s)) all)) in
    let to_two : two ≡ old ++ (label ++ beat) = added old one two label beat line from in
    let to_three : three ≡ old ++ ((label ++ beat) ++ codes " who=") = added old two three (label ++ beat) (codes " who=") to_two who in
    let to_four : four ≡ old ++ (((label ++ beat) ++ codes " who=") ++ s.actor.now) = added old three four ((label ++ beat) ++ codes " who=") s.actor.now to_three actor in
    let to_five : five ≡ old ++ ((((label ++ beat) ++ codes " who=") ++ s.actor.now) ++ beside_text beside)
    = added old four five (((label ++ beat) ++ codes " who=") ++ s.actor.now) (beside_text beside) to_four last in
    to_five ∙ ap (λ t. old ++ (((t ++ codes " who=") ++ s.actor.now) ++ beside_text beside)) (sym (append_assoc label (codes " from=") (decimal s.from)))

-- the line on a span
pub span-told : (s : Span) (old one two three four five : List ℕ) → one ≡ old ++ codes "nobody from=" → two ≡ one ++ decimal s.from → three ≡ two ++ codes " until="
    → four ≡ three ++ decimal s.until → five ≡ four ++ codes "\n" → five ≡ old ++ span_line s
unfolding span_line
span-told s old one two three four five label from then last end =
    let begun = codes "nobody from=" ++ decimal s.from in
    let after_from : two ≡ old ++ begun = added old one two (codes "nobody from=") (decimal s.from) label from in
    let after_then : three ≡ old ++ (begun ++ codes " until=") = added old two three begun (codes " until=") after_from then in
    let after_last : four ≡ old ++ (begun ++ codes " until=" ++ decimal s.until) = added old three four (begun ++ codes " until=") (decimal s.until) after_then last in
    added old four five (begun ++ codes " until=" ++ decimal s.until) (codes "\n") after_last end
