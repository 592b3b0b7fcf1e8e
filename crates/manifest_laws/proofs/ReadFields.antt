-- What fields of a manifest give: numbers in their ranges, times that can be written, and numbers of texts that the names hold.
use Rattle.std.proofs.Common.{◌≡◌, ℕ, ℤ, pos, negsuc, ◌+◌, ◌-◌, ◌^◌, ◌≤◌, nat_le, nat_lt, Bool, true, false, cond, List, Option, Some, None, unwrap_or, option_and_then, refl, ap, ◌∙◌, arith, leb-true, ltb-true}
use Rattle.std.specs.Char.{is_ascii_digit}
use Rattle.std.specs.Prelude.{slice_index, Result}
use Rattle.std.proofs.lemmas.Bool.{and_parts}
use Rattle.serde_json.specs.Data.{Data}
use Rattle.serde_json.specs.Find.{as_str, as_number, as_u64, as_i64}
use Rattle.kube_base.specs.Times.{◌>>=◌, digit_at, fraction_digit, micros_of, wall_of, instant, day_at, second_at, fraction_digits, offset_at, zone_place, time_of, last_wall}
use Rattle.kube_base.specs.declared.numbers.Wall.{Wall}
use Rattle.manifest_json.specs.declared.codes.TheConstants.{BAD_NUMBER, BAD_TIME}
use Rattle.manifest_json.specs.declared.fault.Refusal.{Refusal}
use Rattle.manifest_json.specs.Fields.{Texts, is_name, some_or_refuse, time_at, small, count_at, fits, signed_at, numbered, named}
use Rattle.manifest_json.specs.Readable.{IsHeld, IsNameNumber, IsTime, IsWholeSecond, IsCount, IsSigned}
use Rattle.manifest_json.specs.Walk.{whole_second}
use Rattle.manifest_json.specs.Written.{text_of}
use Rattle.manifest_laws.proofs.Getting.{Gets, Has, done, refused, weaker, by_test}
use Rattle.manifest_laws.proofs.Growing.{Grows, Grows-with, number_in-held}

-- the value that is kept under an option, if the walk gives one
module _ {A : Type 0} (P : Option A → Type 0) where
  of_some : (o : Option A) (code : ℕ) (path : List ℕ) → Has (λ x. P (Some x)) o → Gets P (some_or_refuse o code path)
  of_some None code path h = refused _
  of_some (Some x) code path h = done _ h

has_then : {A B : Type 0} (P : B → Type 0) (o : Option A) (f : A → Option B) → ((x : A) → Has P (f x)) → Has P (option_and_then f o)
has_then P None f h = tt
has_then P (Some x) f h = h x

has_if : {A : Type 0} (P : A → Type 0) (b : Bool) (x : A) → (b ≡ true → P x) → Has P (cond b (Some x) None)
has_if P true x h = h refl
has_if P false x h = tt

-- ---- times

digit-small : (text : List ℕ) (place : ℕ) → Has (λ n. n ≤ 9) (digit_at text place)
digit-small text place =
    has_if _ (is_ascii_digit (slice_index text place)) (slice_index text place - 48) (λ e.
    let parts = and_parts (nat_le 48 (slice_index text place)) (nat_le (slice_index text place) 57) e in
    omega (arith, leb-true (slice_index text place) 57 parts.1))

fraction-small : (text : List ℕ) (digits place : ℕ) → fraction_digit text digits place ≤ 9
unfolding fraction_digit
fraction-small text digits place = by (nat_lt place digits) (digit_at text (20 + place)) (digit-small text (20 + place))
  where
    by : (b : Bool) (o : Option ℕ) → Has (λ n. n ≤ 9) o → cond b (unwrap_or o 0) 0 ≤ 9
    by true None h = omega arith
    by true (Some n) h = h
    by false o h = omega arith

micros-small : (text : List ℕ) (digits : ℕ) → micros_of text digits ≤ 999_999
unfolding micros_of
micros-small text digits =
    omega (arith, fraction-small text digits 0, fraction-small text digits 1, fraction-small text digits 2, fraction-small text digits 3, fraction-small text digits 4, fraction-small text digits 5)

has_bind : {A B : Type 0} (P : B → Type 0) (o : Option A) (f : A → Option B) → ((x : A) → Has P (f x)) → Has P (o >>= f)
has_bind P None f h = tt
has_bind P (Some x) f h = h x

wall-small : (second : ℤ) (micros : ℕ) → micros ≤ 999_999 → Has (λ (w : Wall). w.0 ≤ last_wall) (wall_of second micros)
wall-small (pos second) micros few = has_if _ (nat_le second 9_214_646_399) _ (λ e. omega (arith, leb-true second 9_214_646_399 e, few))
wall-small (negsuc n) micros few = tt

pub time-small : (text : List ℕ) → Has (λ (w : Wall). w.0 ≤ last_wall) (time_of text)
unfolding time_of
time-small text =
    has_bind _ (day_at text) _ (λ day. has_bind _ (second_at text) _ (λ second. has_bind _ (fraction_digits text) _ (λ digits. has_bind _ (offset_at text (zone_place digits)) _ (λ offset.
    wall-small (instant day second offset) (micros_of text digits) (micros-small text digits)))))

pub time-in : (path : List ℕ) (d : Option Data) → Gets IsTime (time_at path d)
time-in path None = done _ tt
time-in path (Some d) = of_some IsTime _ BAD_TIME path (has_then _ (as_str d) time_of time-small)

pub whole-in : (at : Option Wall) → IsTime at → IsWholeSecond (whole_second at)
whole-in None h = tt
whole-in (Some w) h = (omega (arith, h), omega arith)

-- ---- numbers

small-in : (n : ℕ) → Has (λ m. m ≤ 2_147_483_647) (small n)
small-in n = has_if _ (nat_le n 2_147_483_647) n (leb-true n 2_147_483_647)

pub count-in : (path : List ℕ) (d : Option Data) → Gets IsCount (count_at path d)
count-in path None = done _ tt
count-in path (Some d) = of_some IsCount _ BAD_NUMBER path (has_then _ (option_and_then as_u64 (as_number d)) small small-in)

fits-in : (z : ℤ) → Has (λ n. IsSigned (Some n)) (fits z)
fits-in (pos n) = has_if _ (nat_lt n (2 ^ 63)) (pos n) (ltb-true n (2 ^ 63))
fits-in (negsuc n) = has_if _ (nat_lt n (2 ^ 63)) (negsuc n) (ltb-true n (2 ^ 63))

pub signed-in : (path : List ℕ) (d : Option Data) → Gets IsSigned (signed_at path d)
signed-in path None = done _ tt
signed-in path (Some d) = of_some IsSigned _ BAD_NUMBER path (has_then _ (option_and_then as_i64 (as_number d)) fits fits-in)

-- ---- texts

-- a walk that numbers texts: its names grow, and its value has P with them
abbrev pub Reads : {A : Type 0} → Texts → (Texts → A → Type 0) → Result (A × Texts) Refusal → Type 0
Reads names P walk = Gets (λ r. Grows names r.1 × P r.1 r.0) walk

-- the number of this text
abbrev pub IsNumberOf : List ℕ → Texts → ℕ → Type 0
IsNumberOf text names n = IsHeld names n × (text_of names n ≡ text)

pub numbered-reads : (names : Texts) (text : List ℕ) → Reads names (IsNumberOf text) (numbered names text)
unfolding numbered
numbered-reads names text = done _ (Grows-with names text, number_in-held names text)

pub named-reads : (names : Texts) (path text : List ℕ) → Reads names IsNameNumber (named names path text)
named-reads names path text =
    by_test (is_name text) _ _
    (λ e. weaker (numbered-reads names text) (λ r h. (h.0, (h.1.0, ap is_name h.1.1 ∙ e))))
    (λ e. refused _)
