-- Fields that are written are read back.
use Rattle.std.proofs.Common.{◌≡◌, ℕ, zero, suc, ℤ, pos, negsuc, ◌*◌, ◌/◌, ◌^◌, ◌<◌, ◌==◌, ◌&&◌, not, Bool, true, false, cond, List, [], ◌∷◌, length, slice_get, Option, Some, None, unwrap_or, option_and_then, Ok, refl, sym, ap, subst, ◌∙◌, arith, bytes_eq}
use Rattle.std.specs.Option.{option_map}
use Rattle.std.proofs.lemmas.Bool.{le-leb, lt-ltb}
use Rattle.std.proofs.lemmas.Bool.Decides.{nat_tests}
use Rattle.std.proofs.lemmas.Slice.Eq.{bytes_eq-Decides}
use Rattle.serde_json.specs.Data.{Data, object, string, number, Items, no_items, item, Members, no_members, member, put}
use Rattle.serde_json.specs.Find.{get_member, of_integer}
use Rattle.serde_json.proofs.Views.{get_member-put, get_member-put_other}
use Rattle.kube_base.specs.Names.{with_name, EachOnce}
use Rattle.kube_base.specs.declared.numbers.Wall.{Wall}
use Rattle.kube_base.proofs.NameLemmas.{number_in-found, with_name-found}
use Rattle.kube_base.proofs.TimeTexts.{time_of-seconds_text, time_of-micros_text}
use Rattle.manifest_json.specs.declared.codes.TheConstants.{BAD_NAME, BAD_NUMBER, BAD_TIME}
use Rattle.manifest_json.specs.Faults.{refuse}
use Rattle.manifest_json.specs.Fields.{Texts, unless_null, field, field_in, parent_at, text_at, items_at, time_at, count_at, fits, signed_at, some_or_refuse, numbered, named}
use Rattle.manifest_json.specs.Walk.{whole_second}
use Rattle.manifest_json.specs.Written.{Field, with_field, members_of, filled_text, filled_object, filled_array, text_of, in_seconds, in_micros, count}
use Rattle.manifest_json.specs.Readable.{IsHeld, IsNameNumber, IsTime, IsWholeSecond, IsCount, IsSigned}

-- ---- fields by their keys

get_with : (q k : List ℕ) (o : Option Data) (ms : Members) (b : Bool) → bytes_eq q k ≡ b → (b ≡ true → get_member q ms ≡ None) → get_member q (with_field k o ms) ≡ cond b o (get_member q ms)
unfolding with_field
get_with q k None ms true e none = none refl
get_with q k None ms false e none = refl
get_with q k (Some d) ms true e none =
    let same : q ≡ k = (bytes_eq-Decides q k).0 e in
    subst (λ x. get_member x (put k d ms) ≡ Some d) (sym same) (get_member-put k d ms)
get_with q k (Some d) ms false e none =
    get_member-put_other q k d ms (λ same. absurd (let no : true ≡ false = sym ((bytes_eq-Decides q k).1 same) ∙ e in cc))

abbrev pub lookup : List ℕ → List Field → Option Data
lookup q [] = None
lookup q (f ∷ rest) = cond (bytes_eq q f.0) f.1 (lookup q rest)

abbrev pub is_new : List ℕ → List Field → Bool
is_new q [] = true
is_new q (f ∷ rest) = not (bytes_eq q f.0) && is_new q rest

abbrev pub distinct : List Field → Bool
distinct [] = true
distinct (f ∷ rest) = is_new f.0 rest && distinct rest

both : (a b : Bool) → (a && b) ≡ true → (a ≡ true) × (b ≡ true)
both true b h = (refl, h)
both false b h = absurd cc

get-new : (q : List ℕ) (fs : List Field) → is_new q fs ≡ true → get_member q (members_of fs) ≡ None
unfolding members_of
get-new q [] h = refl
get-new q (f ∷ rest) h =
    let parts = both (not (bytes_eq q f.0)) (is_new q rest) h in
    get_with q f.0 f.1 (members_of rest) false (by (bytes_eq q f.0) parts.0) (λ no. absurd cc) ∙ get-new q rest parts.1
  where
    by : (b : Bool) → not b ≡ true → b ≡ false
    by true e = absurd cc
    by false e = refl

-- a field of an object whose keys differ
pub get-lookup : (q : List ℕ) (fs : List Field) → distinct fs ≡ true → get_member q (members_of fs) ≡ lookup q fs
unfolding members_of
get-lookup q [] h = refl
get-lookup q (f ∷ rest) h =
    let parts = both (is_new f.0 rest) (distinct rest) h in
    get_with q f.0 f.1 (members_of rest) (bytes_eq q f.0) refl
    (λ e. let same : q ≡ f.0 = (bytes_eq-Decides q f.0).0 e in get-new q rest (subst (λ x. is_new x rest ≡ true) (sym same) parts.0))
    ∙ ap (λ r. cond (bytes_eq q f.0) f.1 r) (get-lookup q rest parts.1)

pub field-is : (q : List ℕ) (fs : List Field) → distinct fs ≡ true → field q (object (members_of fs)) ≡ unless_null (lookup q fs)
field-is q fs h = ap unless_null (get-lookup q fs h)

pub field_in-filled : (q : List ℕ) (ms : Members) → field_in q (filled_object ms) ≡ unless_null (get_member q ms)
unfolding filled_object
field_in-filled q no_members = refl
field_in-filled q (member k d ms) = refl

pub field_in-is : (q : List ℕ) (fs : List Field) → distinct fs ≡ true → field_in q (filled_object (members_of fs)) ≡ unless_null (lookup q fs)
field_in-is q fs h = field_in-filled q (members_of fs) ∙ ap unless_null (get-lookup q fs h)

pub filled_object-there : (ms : Members) → unless_null (filled_object ms) ≡ filled_object ms
unfolding filled_object
filled_object-there no_members = refl
filled_object-there (member k d ms) = refl

pub parent-back : (path : List ℕ) (ms : Members) → parent_at path (filled_object ms) ≡ Ok (filled_object ms)
unfolding filled_object
parent-back path no_members = refl
parent-back path (member k d ms) = refl

pub items-back : (path : List ℕ) (ds : Items) → items_at path (unless_null (filled_array ds)) ≡ Ok ds
unfolding filled_array
items-back path no_items = refl
items-back path (item d ds) = refl

-- ---- texts and their numbers

pub text-there : (bytes : List ℕ) → (length bytes == 0) ≡ false → unless_null (filled_text bytes) ≡ Some (string bytes)
unfolding filled_text
text-there bytes h = ap (λ b. unless_null (cond b None (Some (string bytes)))) h

pub text-back : (code : ℕ) (path bytes : List ℕ) → text_at code path (unless_null (filled_text bytes)) ≡ Ok bytes
unfolding filled_text
text-back code path [] = refl
text-back code path (b ∷ bytes) = ap (λ e. text_at code path (unless_null (cond e None (Some (string (b ∷ bytes)))))) (by (length bytes))
  where
    by : (n : ℕ) → (suc n == 0) ≡ false
    by n = grind (arith, nat_tests)

pub there : (xs : Texts) (n : ℕ) → n < length xs → slice_get xs n ≡ Some (unwrap_or (slice_get xs n) [])
there [] n h = absurd (omega arith)
there (x ∷ xs) zero h = refl
there (x ∷ xs) (suc n) h = there xs n (omega arith)

module _ (names : Texts) (once : EachOnce names) where
  held : (n : ℕ) → IsHeld names n → slice_get names n ≡ Some (text_of names n)
  held n h = there names n h

  pub numbered-back : (n : ℕ) → IsHeld names n → numbered names (text_of names n) ≡ Ok (n, names)
  unfolding numbered
  numbered-back n h =
      let found = once n (text_of names n) (held n h) in
      ap (λ m. Ok (m, with_name names (text_of names n))) (number_in-found names (text_of names n) n found)
      ∙ ap (λ ns. Ok (n, ns)) (with_name-found names (text_of names n) n found)

  pub named-back : (path : List ℕ) (n : ℕ) → IsNameNumber names n → named names path (text_of names n) ≡ Ok (n, names)
  named-back path n h = ap (λ b. cond b (numbered names (text_of names n)) (refuse BAD_NAME path)) h.1 ∙ numbered-back n h.0

-- ---- times and numbers

pub seconds-back : (path : List ℕ) (at : Option Wall) → IsWholeSecond at → time_at path (unless_null (in_seconds at)) ≡ Ok at
seconds-back path None h = refl
seconds-back path (Some w) h =
    let whole : w.0 / 1_000_000 * 1_000_000 ≡ w.0 = omega (arith, h.1) in
    ap (λ o. some_or_refuse o BAD_TIME path) (time_of-seconds_text w h.0) ∙ ap (λ n. Ok (Some (record { 0 = n }))) whole

pub whole-back : (at : Option Wall) → IsWholeSecond at → whole_second at ≡ at
whole-back None h = refl
whole-back (Some w) h =
    let whole : w.0 / 1_000_000 * 1_000_000 ≡ w.0 = omega (arith, h.1) in
    ap (λ n. Some (record { 0 = n })) whole

pub micros-back : (path : List ℕ) (at : Option Wall) → IsTime at → time_at path (unless_null (in_micros at)) ≡ Ok at
micros-back path None h = refl
micros-back path (Some w) h = ap (λ o. some_or_refuse o BAD_TIME path) (time_of-micros_text w h)

pub count-back : (path : List ℕ) (n : Option ℕ) → IsCount n → count_at path (unless_null (count n)) ≡ Ok n
count-back path None h = refl
count-back path (Some n) h = ap (λ b. some_or_refuse (cond b (Some n) None) BAD_NUMBER path) (le-leb n 2_147_483_647 h)

pub signed-back : (path : List ℕ) (z : Option ℤ) → IsSigned z → signed_at path (unless_null (option_map (λ seconds. number (of_integer seconds)) z)) ≡ Ok z
signed-back path None h = refl
signed-back path (Some (pos n)) h =
    ap (λ b. some_or_refuse (option_and_then fits (cond b (Some (pos n)) None)) BAD_NUMBER path) (lt-ltb n (2 ^ 63) h)
    ∙ ap (λ b. some_or_refuse (cond b (Some (pos n)) None) BAD_NUMBER path) (lt-ltb n (2 ^ 63) h)
signed-back path (Some (negsuc n)) h = ap (λ b. some_or_refuse (cond b (Some (negsuc n)) None) BAD_NUMBER path) (lt-ltb n (2 ^ 63) h)
