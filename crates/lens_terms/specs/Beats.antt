-- Beat by beat: whether somebody acts, whether two do, and whether a beat lies in one of some spans.
use Rattle.std.specs.Prelude.{ℕ, ◌&&◌, ◌||◌, not, nat_le, nat_lt, Bool, false, List, [], ◌∷◌}
use Rattle.std.specs.List.{list_any}
use Rattle.std.specs.Str.{bytes_eq}
use Rattle.lens_terms.specs.declared.span.Span.{Span}
use Rattle.lens_terms.specs.declared.stretch.Stretch.{Stretch}

-- whether a stretch has a beat
abbrev pub has_beat : ℕ → Stretch (List ℕ) → Bool
has_beat beat s = nat_le s.from beat && nat_lt beat s.until

-- whether somebody acts at a beat
abbrev pub is_led : ℕ → List (Stretch (List ℕ)) → Bool
is_led beat all = list_any (has_beat beat) all

-- whether a stretch of an identity has a beat
abbrev pub is_of : ℕ → List ℕ → Stretch (List ℕ) → Bool
is_of beat who s = bytes_eq s.actor who && has_beat beat s

-- whether a stretch of another identity has a beat
abbrev pub is_beside : ℕ → List ℕ → Stretch (List ℕ) → Bool
is_beside beat who s = not (bytes_eq who s.actor) && has_beat beat s

-- whether two identities act at a beat
abbrev pub two_act : ℕ → List (Stretch (List ℕ)) → Bool
two_act beat [] = false
two_act beat (s ∷ more) = (has_beat beat s && list_any (is_beside beat s.actor) more) || two_act beat more

abbrev pub covers : ℕ → Span → Bool
covers beat s = nat_le s.from beat && nat_lt beat s.until

-- whether a beat lies in one of the spans
abbrev pub lies_in : ℕ → List Span → Bool
lies_in beat spans = list_any (covers beat) spans
