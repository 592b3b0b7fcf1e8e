-- Members that were gathered one behind the other.
use Rattle.std.proofs.Common.{◌≡◌, List, ◌++◌, ap, ◌∙◌, append_assoc}
use Rattle.lens_json.specs.Members.{Named}

pub gathered : (old one two a b : List Named) → one ≡ old ++ a → two ≡ one ++ b → two ≡ old ++ (a ++ b)
gathered old one two a b first second = second ∙ ap (λ t. t ++ b) first ∙ append_assoc old a b
