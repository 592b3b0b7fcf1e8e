-- Fields of a manifest's objects. A null counts as a missing key (profile: what the Kubernetes API server does with it).
use Rattle.std.specs.Prelude.{◌≡◌, ℕ, ◌-◌, ◌==◌, ◌&&◌, ◌||◌, not, nat_le, nat_lt, ◌^◌, Bool, false, List, [], ◌∷◌, length, slice_get, slice_index}
use Rattle.std.specs.Prelude.{Option, Some, None, option_and_then, is_some, Result, Ok, Err, ℤ, pos, negsuc, if◌then◌else◌}
use Rattle.std.specs.Char.{is_ascii_digit, is_ascii_lowercase, is_ascii_uppercase}
use Rattle.std.specs.List.{list_all}
use Rattle.serde_json.specs.Data.{Data, Items, no_items, Members}
use Rattle.serde_json.specs.Find.{get, as_null, as_number, as_str, as_u64, as_i64, as_object, as_array}
use Rattle.kube_base.specs.Times.{time_of}
use Rattle.kube_base.specs.Names.{number_in, with_name}
use Rattle.kube_base.specs.declared.numbers.Wall.{Wall}
use Rattle.manifest_json.specs.declared.codes.TheConstants.{BAD_NAME, BAD_NUMBER, BAD_TIME, WRONG_JSON}
use Rattle.manifest_json.specs.declared.fault.Refusal.{Refusal}
use Rattle.manifest_json.specs.Faults.{refuse}

-- ---- grammars

abbrev pub is_small_letter_or_digit : ℕ → Bool
is_small_letter_or_digit byte = is_ascii_lowercase byte || is_ascii_digit byte

-- one byte may stand behind another: dots stand between letters or digits
abbrev pub may_follow : ℕ → ℕ → Bool
may_follow last byte =
    (is_small_letter_or_digit byte || (byte == 45) || (byte == 46))
    && (not (byte == 46) || is_small_letter_or_digit last) && (not (last == 46) || is_small_letter_or_digit byte)

-- the rest of a name behind a byte, up to a letter or digit
abbrev pub is_name_rest : ℕ → List ℕ → Bool
is_name_rest last [] = is_small_letter_or_digit last
is_name_rest last (byte ∷ rest) = may_follow last byte && is_name_rest byte rest

-- an RFC 1123 subdomain of 1 to 253 bytes: labels of lower-case letters, digits and `-`, joined by single dots, each of which begins and
-- ends with a letter or digit
abbrev pub is_name : List ℕ → Bool
is_name [] = false
is_name (byte ∷ rest) = nat_le (length rest) 252 && is_small_letter_or_digit byte && is_name_rest byte rest

abbrev pub is_letter_or_digit : ℕ → Bool
is_letter_or_digit byte = is_ascii_lowercase byte || is_ascii_uppercase byte || is_ascii_digit byte

abbrev pub is_label_byte : ℕ → Bool
is_label_byte byte = is_letter_or_digit byte || (byte == 45) || (byte == 95) || (byte == 46)

-- a label's value: empty, or at most 63 bytes that begin and end with a letter or digit
abbrev pub is_label : List ℕ → Bool
is_label text =
    (length text == 0)
    || (nat_le (length text) 63 && list_all is_label_byte text && is_letter_or_digit (slice_index text 0)
    && is_letter_or_digit (slice_index text (length text - 1)))

-- ---- fields

abbrev pub unless_null : Option Data → Option Data
unless_null None = None
unless_null (Some d) = if is_some (as_null d) then None else Some d

abbrev pub field : List ℕ → Data → Option Data
field key d = unless_null (get key d)

-- a field of an object that may be missing
abbrev pub field_in : List ℕ → Option Data → Option Data
field_in key parent = option_and_then (field key) parent

abbrev pub or_refuse : {A : Type 0} → Option A → ℕ → List ℕ → Result A Refusal
or_refuse None code path = refuse code path
or_refuse (Some x) code path = Ok x

abbrev pub object_or : Data → List ℕ → Option Members → Result Data Refusal
object_or d path None = refuse WRONG_JSON path
object_or d path (Some _) = Ok d

-- the value is an object
abbrev pub object_at : List ℕ → Data → Result Data Refusal
object_at path d = object_or d path (as_object d)

abbrev pub some_object : Result Data Refusal → Result (Option Data) Refusal
some_object (Ok d) = Ok (Some d)
some_object (Err e) = Err e

-- an object that counts as empty where it is missing
abbrev pub parent_at : List ℕ → Option Data → Result (Option Data) Refusal
parent_at path None = Ok None
parent_at path (Some d) = some_object (object_at path d)

-- a text that counts as empty where it is missing
abbrev pub text_at : ℕ → List ℕ → Option Data → Result (List ℕ) Refusal
text_at code path None = Ok []
text_at code path (Some d) = or_refuse (as_str d) code path

-- an array that counts as empty where it is missing
abbrev pub items_at : List ℕ → Option Data → Result Items Refusal
items_at path None = Ok no_items
items_at path (Some d) = or_refuse (as_array d) WRONG_JSON path

abbrev pub some_or_refuse : {A : Type 0} → Option A → ℕ → List ℕ → Result (Option A) Refusal
some_or_refuse None code path = refuse code path
some_or_refuse (Some x) code path = Ok (Some x)

-- a time
abbrev pub time_at : List ℕ → Option Data → Result (Option Wall) Refusal
time_at path None = Ok None
time_at path (Some d) = some_or_refuse (option_and_then time_of (as_str d)) BAD_TIME path

abbrev pub small : ℕ → Option ℕ
small n = if nat_le n 2_147_483_647 then Some n else None

-- a count of 31 bits
abbrev pub count_at : List ℕ → Option Data → Result (Option ℕ) Refusal
count_at path None = Ok None
count_at path (Some d) = some_or_refuse (option_and_then small (option_and_then as_u64 (as_number d))) BAD_NUMBER path

-- a whole number has 64 bits with its sign
abbrev pub fits : ℤ → Option ℤ
fits (pos n) = if nat_lt n (2 ^ 63) then Some (pos n) else None
fits (negsuc n) = if nat_lt n (2 ^ 63) then Some (negsuc n) else None

abbrev pub signed_at : List ℕ → Option Data → Result (Option ℤ) Refusal
signed_at path None = Ok None
signed_at path (Some d) = some_or_refuse (option_and_then fits (option_and_then as_i64 (as_number d))) BAD_NUMBER path

-- ---- numbered texts

abbrev pub Texts : Type 0
Texts = List (List ℕ)

-- each name that is held keeps its number: the names after are those before, and further ones behind
abbrev pub AreKept : Texts → Texts → Type 0
AreKept before after = (number : ℕ) (text : List ℕ) → slice_get before number ≡ Some text → slice_get after number ≡ Some text

-- a text's number, and the names that are held then
unfoldable pub numbered : Texts → List ℕ → Result (ℕ × Texts) Refusal
numbered names text = Ok (number_in names text, with_name names text)

-- a name that is numbered; another text is refused
abbrev pub named : Texts → List ℕ → List ℕ → Result (ℕ × Texts) Refusal
named names path text = if is_name text then numbered names text else refuse BAD_NAME path
