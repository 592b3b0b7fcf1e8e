-- The members on an overlap are told of stretches with the texts themselves in the place of references to them.
use Rattle.std.proofs.Common.{◌≡◌, ℕ, List, [], ◌∷◌, ◌++◌, codes, map, Bor, Option, sym, ap, ◌∙◌, append_assoc}
use Rattle.std.specs.Option.{option_map}
use Rattle.lens_terms.specs.declared.stretch.Stretch.{Stretch}
use Rattle.lens_terms.specs.Acting.{shown}
use Rattle.lens_terms.specs.Spans.{leaderless}
use Rattle.lens_terms.specs.Together.{first, crosses}
use Rattle.lens_json.specs.Members.{Named, nat, text}
use Rattle.lens_trace.specs.LeadersJson.{beside, overlap_members}
use Rattle.lens_trace.proofs.ShownLaws.{leaderless-shown, first-shown}

pub leaderless_shown : (stop : ℕ) (all : List (Stretch (Bor (List ℕ)))) → leaderless 0 stop (map shown all) ≡ leaderless 0 stop all
leaderless_shown stop all = leaderless-shown 0 stop all

-- the first stretch that begins while another identity acts
pub overlap-told : (all : List (Stretch (Bor (List ℕ)))) (s : Stretch (Bor (List ℕ))) (found : Option (Stretch (Bor (List ℕ)))) (old one two three four : List Named)
    → found ≡ first (λ other. crosses (shown s) (shown other)) all
    → one ≡ old ++ nat (codes "line") s.line ∷ [] → two ≡ one ++ nat (codes "from") s.from ∷ [] → three ≡ two ++ text (codes "who") s.actor.now ∷ []
    → four ≡ three ++ beside (option_map shown found) → four ≡ old ++ overlap_members (map shown all) (shown s)
overlap-told all s found old one two three four is line from who then =
    let a : Named = nat (codes "line") s.line in
    let b : Named = nat (codes "from") s.from in
    let c : Named = text (codes "who") s.actor.now in
    let crossed = beside (first (crosses (shown s)) (map shown all)) in
    let to_two : two ≡ old ++ a ∷ b ∷ [] = from ∙ ap (λ ms. ms ++ b ∷ []) line ∙ append_assoc old (a ∷ []) (b ∷ []) in
    let to_three : three ≡ old ++ a ∷ b ∷ c ∷ [] = who ∙ ap (λ ms. ms ++ c ∷ []) to_two ∙ append_assoc old (a ∷ b ∷ []) (c ∷ []) in
    then
    ∙ ap (λ o. three ++ beside o) (ap (option_map shown) is ∙ sym (first-shown (crosses (shown s)) all))
    ∙ ap (λ ms. ms ++ crossed) to_three
    ∙ append_assoc old (a ∷ b ∷ c ∷ []) crossed
