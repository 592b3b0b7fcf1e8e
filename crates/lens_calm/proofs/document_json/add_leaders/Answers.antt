use Rattle.std.proofs.Common.{◌≡◌, ◌++◌, ◌∷◌, [], OnOk, codes, map, subst}
use Rattle.lens_json.specs.Parts.{list_of, part_of}
use Rattle.lens_calm.specs.Documents.{leaders_members}
use Rattle.lens_calm.proofs.document_json.add_leaders.Goals as goal

pub returns : goal.returns
unfolding leaders_members
returns c =
    subst (λ ms. OnOk c.add_part.result (map part_of c.add_part.new.parts.items ≡ map part_of c.args.parts.now.items ++ (codes "controllers", list_of ms) ∷ []))
    c.in_ok-leaders.ensures c.add_part.ensures
