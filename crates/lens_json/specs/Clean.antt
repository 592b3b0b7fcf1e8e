-- Texts of one line.
use Rattle.std.specs.Prelude.{◌≡◌, ℕ, ◌==◌, not, Bool, true, List, [], ◌∷◌}
use Rattle.std.specs.List.{list_all}
use Rattle.serde_json.specs.Written.{compact_text}
use Rattle.lens_json.specs.Members.{Named}

abbrev pub is_no_feed : ℕ → Bool
is_no_feed byte = not (byte == 10)

-- without a line feed
abbrev pub is_clean : List ℕ → Bool
is_clean text = list_all is_no_feed text

-- so is what each member has
abbrev pub AreClean : List Named → Type 0
AreClean [] = Unit {0}
AreClean (m ∷ ms) = (is_clean (compact_text m.1) ≡ true) × AreClean ms
