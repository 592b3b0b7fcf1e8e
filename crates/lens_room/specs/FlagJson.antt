-- What settings come to, as one JSON object: the numbers that the lines tell.
use Rattle.std.specs.Prelude.{ℕ, Bool, true, false, List, [], ◌∷◌, ◌++◌, codes, Option, Some, None}
use Rattle.serde_json.specs.Data.{boolean}
use Rattle.serde_json.specs.Written.{compact_text}
use Rattle.lens_json.specs.Members.{Named, nat, text, object_of}
use Rattle.lens_margin.specs.declared.margin.Margin.{Margin}
use Rattle.lens_room.specs.MarginJson.{number_if, number_members}
use Rattle.lens_room.specs.declared.by_flags.flags.Flags.{Flags}
use Rattle.lens_room.specs.Flags.{timeout_of, release_word, acting_word}
use Rattle.lens_room.specs.FlagLaws.{holds, flags_margin, greatest_skew}

-- whether a timeout is the renew deadline, as none is given
abbrev pub is_renew_deadline : Option ℕ → Bool
is_renew_deadline None = true
is_renew_deadline (Some millis) = false

-- what was taken for the call timeout, the skew and releases, the numbers of a margin, the greatest skew, and the verdict
abbrev pub members_with : Flags → Margin → Option ℕ → Bool → List Named
members_with flags m skew safe =
    nat (codes "timeoutMillis") (timeout_of flags) ∷ (codes "timeoutIsRenewDeadline", boolean (is_renew_deadline flags.timeout_millis))
    ∷ nat (codes "skewPpm") flags.skew_ppm ∷ text (codes "release") (release_word flags.release) ∷ text (codes "inRelease") (acting_word flags.in_release)
    ∷ (number_members m ++ (codes "greatestSkewPpm", number_if skew) ∷ (codes "safe", boolean safe) ∷ [])

abbrev pub settings_members : Flags → List Named
settings_members flags = members_with flags (flags_margin flags) (greatest_skew flags) (holds flags)

unfoldable pub settings_json : Flags → List ℕ
settings_json flags = compact_text (object_of (settings_members flags)) ++ codes "\n"
