-- The objects of a trace, one behind the other.
use Rattle.std.proofs.Common.{◌≡◌, ℕ, List, [], ◌∷◌, ◌++◌, map, Bor, refl, sym, ap, ◌∙◌}
use Rattle.std.specs.List.{flat_map}
use Rattle.std.proofs.lemmas.List.Concat.{flat_map-cons}
use Rattle.run_edge.specs.Outcome.{Reply}
use Rattle.run_edge.specs.declared.status.Verdict.TheVariants.{Done}
use Rattle.trace_lines.specs.declared.header.Header.{Header}
use Rattle.trace_lines.specs.declared.line.Line.{Line}
use Rattle.trace_lines.specs.Reads.{seen}
use Rattle.lens_trace.specs.Lines.{header_json, line_json, ended, told, objects}

-- what is told of lines is told of them with the texts themselves in the place of references to them
flat-seen : (ls : List (Line (Bor (List ℕ)))) → flat_map (λ l. ended (line_json l)) (map seen ls) ≡ flat_map (λ l. ended (line_json (seen l))) ls
flat-seen [] = refl
flat-seen (l ∷ ls) =
    flat_map-cons (λ l. ended (line_json l)) (seen l) (map seen ls) ∙ ap (λ rest. ended (line_json (seen l)) ++ rest) (flat-seen ls)
    ∙ sym (flat_map-cons (λ l. ended (line_json (seen l))) l ls)

pub told-is : (header : Header) (ls : List (Line (Bor (List ℕ)))) (none one two : List ℕ) → none ≡ [] → one ≡ none ++ ended (header_json header)
    → two ≡ one ++ flat_map (λ l. ended (line_json (seen l))) ls
    → (let r : Reply = record { verdict = Done; text = two } in r) ≡ objects header (map seen ls)
unfolding told
told-is header ls none one two empty first second =
    ap (λ t. let r : Reply = record { verdict = Done; text = t } in r)
    (second ∙ ap (λ t. t ++ flat_map (λ l. ended (line_json (seen l))) ls) (first ∙ ap (λ t. t ++ ended (header_json header)) empty)
    ∙ ap (λ t. ended (header_json header) ++ t) (sym (flat-seen ls)))
