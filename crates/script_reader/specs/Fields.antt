-- Values of a document's keys: a JSON type, and a range or a grammar. A null is a value of the wrong type. Source: profile.
use Rattle.std.specs.Prelude.{ℕ, ◌&&◌, nat_le, nat_lt, Bool, List, ◌++◌, codes, Option, Some, None, option_and_then, Result, Ok}
use Rattle.std.specs.Prelude.{ℤ, int_le, if◌then◌else◌}
use Rattle.std.specs.Str.{bytes_eq}
use Rattle.serde_json.specs.Data.{Data, Items, Members, no_items, item}
use Rattle.serde_json.specs.Find.{get, as_bool, as_number, as_str, as_array, as_object, as_u64, as_i64}
use Rattle.kube_base.specs.Times.{time_of}
use Rattle.kube_base.specs.declared.numbers.Wall.{Wall}
use Rattle.kube_objects.specs.declared.node.ReadyStatus.{ReadyStatus}
use Rattle.kube_objects.specs.declared.node.ReadyStatus.TheVariants as statuses
use Rattle.kube_objects.specs.declared.settings.RatePolicy.{RatePolicy}
use Rattle.kube_objects.specs.declared.settings.RatePolicy.TheVariants as policies
use Rattle.manifest_json.specs.declared.codes.TheConstants.{MISSING_KEY, OUT_OF_RANGE, TOO_MANY, WRONG_TYPE}
use Rattle.manifest_json.specs.declared.fault.Refusal.{Refusal}
use Rattle.manifest_json.specs.Faults.{◌>>=◌, refuse}
use Rattle.manifest_json.specs.Fields.{or_refuse, is_name}
use Rattle.manifest_json.specs.Walk.{items_len}

-- the path of a key
abbrev pub under : List ℕ → List ℕ → List ℕ
under path key = (path ++ codes "/") ++ key

-- ---- keys that may be missing

abbrev pub default_of : {A : Type 0} → A → (Data → Result A Refusal) → Option Data → Result A Refusal
default_of x read None = Ok x
default_of x read (Some d) = read d

abbrev pub required : {A : Type 0} → List ℕ → (Data → Result A Refusal) → Option Data → Result A Refusal
required path read d = or_refuse d MISSING_KEY path >>= read

-- the value under a key that is required
abbrev pub needed : List ℕ → List ℕ → Data → Result Data Refusal
needed path key d = or_refuse (get key d) MISSING_KEY (under path key)

-- ---- whole numbers

-- a whole number that is no value of the range is outside of it, any other value is of the wrong type
abbrev pub unless_whole : {A B : Type 0} → List ℕ → Option B → Result A Refusal
unless_whole path None = refuse WRONG_TYPE path
unless_whole path (Some n) = refuse OUT_OF_RANGE path

abbrev pub whole_or : ℕ → ℕ → List ℕ → Option ℕ → Option ℤ → Result ℕ Refusal
whole_or least most path None signed = unless_whole path signed
whole_or least most path (Some n) signed = if nat_le least n && nat_le n most then Ok n else refuse OUT_OF_RANGE path

-- a whole number from the least to the most
abbrev pub whole_in : ℕ → ℕ → List ℕ → Data → Result ℕ Refusal
whole_in least most path d = whole_or least most path (option_and_then as_u64 (as_number d)) (option_and_then as_i64 (as_number d))

abbrev pub signed_or : ℤ → ℤ → List ℕ → Option ℤ → Option ℕ → Result ℤ Refusal
signed_or least most path None whole = unless_whole path whole
signed_or least most path (Some n) whole = if int_le least n && int_le n most then Ok n else refuse OUT_OF_RANGE path

-- the same of a number with a sign
abbrev pub signed_in : ℤ → ℤ → List ℕ → Data → Result ℤ Refusal
signed_in least most path d = signed_or least most path (option_and_then as_i64 (as_number d)) (option_and_then as_u64 (as_number d))

-- a whole number under a key, or the default
abbrev pub whole_at : ℕ → ℕ → ℕ → List ℕ → List ℕ → Data → Result ℕ Refusal
whole_at default least most path key d = default_of default (whole_in least most (under path key)) (get key d)

-- a whole number under a key that is required
abbrev pub needed_whole : ℕ → ℕ → List ℕ → List ℕ → Data → Result ℕ Refusal
needed_whole least most path key d = required (under path key) (whole_in least most (under path key)) (get key d)

abbrev pub signed_at : ℤ → ℤ → ℤ → List ℕ → List ℕ → Data → Result ℤ Refusal
signed_at default least most path key d = default_of default (signed_in least most (under path key)) (get key d)

-- ---- true or false

abbrev pub flag_in : List ℕ → Data → Result Bool Refusal
flag_in path d = or_refuse (as_bool d) WRONG_TYPE path

abbrev pub flag_at : Bool → List ℕ → List ℕ → Data → Result Bool Refusal
flag_at default path key d = default_of default (flag_in (under path key)) (get key d)

abbrev pub needed_flag : List ℕ → List ℕ → Data → Result Bool Refusal
needed_flag path key d = required (under path key) (flag_in (under path key)) (get key d)

-- ---- texts

abbrev pub text_in : List ℕ → Data → Result (List ℕ) Refusal
text_in path d = or_refuse (as_str d) WRONG_TYPE path

abbrev pub needed_text : List ℕ → List ℕ → Data → Result (List ℕ) Refusal
needed_text path key d = required (under path key) (text_in (under path key)) (get key d)

-- a text, or the default
abbrev pub text_at : List ℕ → List ℕ → List ℕ → Data → Result (List ℕ) Refusal
text_at default path key d = default_of default (text_in (under path key)) (get key d)

-- the text is an RFC 1123 subdomain
abbrev pub if_name : List ℕ → List ℕ → Result (List ℕ) Refusal
if_name path text = if is_name text then Ok text else refuse OUT_OF_RANGE path

unfoldable pub needed_name : List ℕ → List ℕ → Data → Result (List ℕ) Refusal
needed_name path key d = do
  text ← needed_text path key d
  if_name (under path key) text

unfoldable pub name_at : List ℕ → List ℕ → List ℕ → Data → Result (List ℕ) Refusal
name_at default path key d = do
  text ← text_at default path key d
  if_name (under path key) text

-- the status that a kubelet posts
abbrev pub posted_of : List ℕ → Option ReadyStatus
posted_of text =
    if bytes_eq text (codes "True") then Some statuses.True
    else (if bytes_eq text (codes "False") then Some statuses.False else None)

unfoldable pub posted_at : List ℕ → List ℕ → Data → Result ReadyStatus Refusal
posted_at path key d = do
  text ← text_at (codes "True") path key d
  or_refuse (posted_of text) OUT_OF_RANGE (under path key)

unfoldable pub needed_posted : List ℕ → List ℕ → Data → Result ReadyStatus Refusal
needed_posted path key d = do
  text ← needed_text path key d
  or_refuse (posted_of text) OUT_OF_RANGE (under path key)

abbrev pub policy_of : List ℕ → Option RatePolicy
policy_of text =
    if bytes_eq text (codes "standard") then Some policies.Standard
    else (if bytes_eq text (codes "gentle") then Some policies.Gentle
    else (if bytes_eq text (codes "halt") then Some policies.Halt else None))

unfoldable pub policy_at : List ℕ → List ℕ → Data → Result RatePolicy Refusal
policy_at path key d = do
  text ← text_at (codes "standard") path key d
  or_refuse (policy_of text) OUT_OF_RANGE (under path key)

-- ---- times

-- the instant lies in the years 2000 to 2199 of UTC
abbrev pub if_epoch : List ℕ → Option Wall → Result Wall Refusal
if_epoch path None = refuse OUT_OF_RANGE path
if_epoch path (Some w) = if nat_le 946_684_800_000_000 w.0 && nat_lt w.0 7_258_118_400_000_000 then Ok w else refuse OUT_OF_RANGE path

unfoldable pub epoch_at : List ℕ → List ℕ → Data → Result Wall Refusal
epoch_at path key d = do
  text ← text_at (codes "2024-01-01T00:00:00Z") path key d
  if_epoch (under path key) (time_of text)

-- ---- objects and arrays

abbrev pub object_or : ℕ → List ℕ → Data → Option Members → Result Data Refusal
object_or code path d None = refuse code path
object_or code path d (Some ms) = Ok d

-- the value is an object
abbrev pub object_at : ℕ → List ℕ → Data → Result Data Refusal
object_at code path d = object_or code path d (as_object d)

-- at most so many members
abbrev pub at_most : ℕ → List ℕ → Items → Result Items Refusal
at_most most path items = if nat_lt most (items_len items) then refuse TOO_MANY path else Ok items

abbrev pub items_in : List ℕ → Data → Result Items Refusal
items_in path d = or_refuse (as_array d) WRONG_TYPE path

-- an array of at most so many members
unfoldable pub array_in : ℕ → List ℕ → Data → Result Items Refusal
array_in most path d = do
  items ← items_in path d
  at_most most path items

-- at least one member
abbrev pub not_empty : List ℕ → Items → Result Items Refusal
not_empty path no_items = refuse OUT_OF_RANGE path
not_empty path (item d rest) = Ok (item d rest)
