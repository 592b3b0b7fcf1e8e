-- The small parts of a trace's lines: words, numbers, names and labels.
use Rattle.std.specs.Prelude.{ℕ, ◌+◌, ◌-◌, ◌*◌, ◌==◌, ◌&&◌, ◌||◌, not, nat_le, Bool, false, List, [], ◌∷◌, length, take, drop}
use Rattle.std.specs.Prelude.{position, slice_index, codes, Option, Some, None, is_some, if◌then◌else◌}
use Rattle.std.specs.Char.{is_ascii_digit, is_ascii_lowercase, is_ascii_uppercase}
use Rattle.std.specs.List.{list_all}
use Rattle.std.specs.Option.{option_map}
use Rattle.std.specs.Str.{bytes_eq}
use Rattle.kube_base.specs.Times.{◌>>=◌, time_of}

-- what stands before and behind the first byte that is this one
abbrev pub cut : ℕ → List ℕ → Option (List ℕ × List ℕ)
cut byte text = option_map (λ place. (take place text, drop (place + 1) text)) (position (λ b. b == byte) text)

-- ---- numbers

-- the number that digits make behind those of a number, where it is at most `most`
abbrev pub number_onto : ℕ → ℕ → List ℕ → Option ℕ
number_onto most number [] = Some number
number_onto most number (digit ∷ digits) =
    if is_ascii_digit digit && nat_le (10 * number + (digit - 48)) most then number_onto most (10 * number + (digit - 48)) digits else None

-- a decimal number of at most `most`, without leading zeros
abbrev pub number : ℕ → List ℕ → Option ℕ
number most [] = None
number most (digit ∷ digits) = if (digit == 48) && not (length digits == 0) then None else number_onto most 0 (digit ∷ digits)

-- `LABEL=N`
unfoldable pub labelled_number : List ℕ → ℕ → List ℕ → Option ℕ
labelled_number label most text = do
  parts ← cut 61 text
  if bytes_eq parts.0 label then number most parts.1 else None

-- ---- names

abbrev pub is_small_letter_or_digit : ℕ → Bool
is_small_letter_or_digit byte = is_ascii_lowercase byte || is_ascii_digit byte

-- one byte may stand behind another: dots stand between letters or digits
abbrev pub may_follow : ℕ → ℕ → Bool
may_follow last byte =
    (is_small_letter_or_digit byte || (byte == 45) || (byte == 46))
    && (not (byte == 46) || is_small_letter_or_digit last) && (not (last == 46) || is_small_letter_or_digit byte)

-- the rest of a name behind a byte, up to a letter or digit
abbrev pub is_name_rest : ℕ → List ℕ → Bool
is_name_rest last [] = is_small_letter_or_digit last
is_name_rest last (byte ∷ rest) = may_follow last byte && is_name_rest byte rest

-- an RFC 1123 subdomain of 1 to 253 bytes
unfoldable pub is_name : List ℕ → Bool
is_name [] = false
is_name (byte ∷ rest) = nat_le (length rest) 252 && is_small_letter_or_digit byte && is_name_rest byte rest

abbrev pub is_letter_or_digit : ℕ → Bool
is_letter_or_digit byte = is_ascii_lowercase byte || is_ascii_uppercase byte || is_ascii_digit byte

abbrev pub is_label_byte : ℕ → Bool
is_label_byte byte = is_letter_or_digit byte || (byte == 45) || (byte == 95) || (byte == 46)

-- a label's value: empty, or at most 63 bytes that begin and end with a letter or digit
unfoldable pub is_label : List ℕ → Bool
is_label text =
    (length text == 0)
    || (nat_le (length text) 63 && list_all is_label_byte text
    && is_letter_or_digit (slice_index text 0) && is_letter_or_digit (slice_index text (length text - 1)))

-- two texts with a slash between them, each of which passes
abbrev pub is_pair : (List ℕ → Bool) → Option (List ℕ × List ℕ) → Bool
is_pair test None = false
is_pair test (Some parts) = test parts.0 && test parts.1

-- `NAMESPACE/NAME`
unfoldable pub is_spaced : List ℕ → Bool
is_spaced text = is_pair is_name (cut 47 text)

-- `REGION/ZONE`
unfoldable pub is_zone : List ℕ → Bool
is_zone text = is_pair is_label (cut 47 text)

abbrev pub is_key_of : Option (List ℕ × List ℕ) → Bool
is_key_of None = false
is_key_of (Some parts) =
    if bytes_eq parts.0 (codes "node") then is_name parts.1
    else ((bytes_eq parts.0 (codes "lease") || bytes_eq parts.0 (codes "pod")) && is_spaced parts.1)

-- `node/NAME`, `lease/NAMESPACE/NAME` or `pod/NAMESPACE/NAME`
unfoldable pub is_key : List ℕ → Bool
is_key text = is_key_of (cut 47 text)

-- a time `YYYY-MM-DDTHH:MM:SSZ`
unfoldable pub is_second : List ℕ → Bool
is_second text = (length text == 20) && is_some (time_of text)
