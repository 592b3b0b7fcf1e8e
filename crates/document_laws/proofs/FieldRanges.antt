-- Numbers of a document lie in their ranges.
use Rattle.std.proofs.Common.{◌≡◌, ℕ, ◌≤◌, nat_le, nat_lt, ◌&&◌, cond, Bool, true, false, codes, List, Option, Some, None, Result, ℤ, ◌≤ℤ◌, leb-true, ltb-false, arith}
use Rattle.std.specs.Prelude.{int_le}
use Rattle.std.specs.Str.{bytes_eq}
use Rattle.std.proofs.lemmas.Bool.{and_parts}
use Rattle.std.proofs.lemmas.Float.{T_from_true}
use Rattle.std.specs.Int.Signed.{le_z_yes}
use Rattle.serde_json.specs.Data.{Data, Items, no_items, item}
use Rattle.serde_json.specs.Find.{get, as_array}
use Rattle.manifest_json.specs.declared.codes.TheConstants.{OUT_OF_RANGE, WRONG_TYPE}
use Rattle.manifest_json.specs.declared.fault.Refusal.{Refusal}
use Rattle.manifest_json.specs.Fields.{or_refuse}
use Rattle.manifest_json.specs.Walk.{items_len}
use Rattle.kube_objects.specs.declared.node.ReadyStatus.TheVariants as statuses
use Rattle.script_reader.specs.Lawful.{IsPosted}
use Rattle.script_reader.specs.Fields.{under, default_of, required, whole_or, whole_in, whole_at, needed_whole, signed_or, signed_in, signed_at, array_in, not_empty, text_at, needed_text, posted_of, posted_at, needed_posted}
use Rattle.manifest_laws.proofs.Getting.{Gets, Has, done, refused, by_test, skip, of_option}

-- a key that may be missing
module _ {A : Type 0} {P : A → Type 0} (read : Data → Result A Refusal) where
  pub of_default : (x : A) (o : Option Data) → P x → ((d : Data) → Gets P (read d)) → Gets P (default_of x read o)
  of_default x None here there = done x here
  of_default x (Some d) here there = there d

  pub of_required : (path : List ℕ) (o : Option Data) → ((d : Data) → Gets P (read d)) → Gets P (required path read o)
  of_required path None there = refused _
  of_required path (Some d) there = there d

-- ---- whole numbers

abbrev pub IsIn : ℕ → ℕ → ℕ → Type 0
IsIn least most n = (least ≤ n) × (n ≤ most)

module _ (least most : ℕ) where
  in_tests : (n : ℕ) → (nat_le least n && nat_le n most) ≡ true → IsIn least most n
  in_tests n tests =
      let both = and_parts (nat_le least n) (nat_le n most) tests in
      (leb-true least n both.0, leb-true n most both.1)

  whole_or-in : (path : List ℕ) (whole : Option ℕ) (signed : Option ℤ) → Gets (IsIn least most) (whole_or least most path whole signed)
  whole_or-in path None None = refused _
  whole_or-in path None (Some n) = refused _
  whole_or-in path (Some n) signed = by_test (nat_le least n && nat_le n most) _ _ (λ e. done n (in_tests n e)) (λ e. refused _)

  pub whole_in-in : (path : List ℕ) (d : Data) → Gets (IsIn least most) (whole_in least most path d)
  whole_in-in path d = whole_or-in path _ _

  pub whole_at-in : (default : ℕ) (path key : List ℕ) (d : Data) → IsIn least most default → Gets (IsIn least most) (whole_at default least most path key d)
  whole_at-in default path key d h = of_default (whole_in least most (under path key)) default (get key d) h (whole_in-in (under path key))

  pub needed_whole-in : (path key : List ℕ) (d : Data) → Gets (IsIn least most) (needed_whole least most path key d)
  needed_whole-in path key d = of_required (whole_in least most (under path key)) (under path key) (get key d) (whole_in-in (under path key))

-- ---- numbers with a sign

abbrev pub IsSignedIn : ℤ → ℤ → ℤ → Type 0
IsSignedIn least most n = (least ≤ℤ n) × (n ≤ℤ most)

module _ (least most : ℤ) where
  in_signed_tests : (n : ℤ) → (int_le least n && int_le n most) ≡ true → IsSignedIn least most n
  in_signed_tests n tests =
      let both = and_parts (int_le least n) (int_le n most) tests in
      (le_z_yes (T_from_true (int_le least n) both.0), le_z_yes (T_from_true (int_le n most) both.1))

  signed_or-in : (path : List ℕ) (signed : Option ℤ) (whole : Option ℕ) → Gets (IsSignedIn least most) (signed_or least most path signed whole)
  signed_or-in path None None = refused _
  signed_or-in path None (Some n) = refused _
  signed_or-in path (Some n) whole = by_test (int_le least n && int_le n most) _ _ (λ e. done n (in_signed_tests n e)) (λ e. refused _)

  signed_in-in : (path : List ℕ) (d : Data) → Gets (IsSignedIn least most) (signed_in least most path d)
  signed_in-in path d = signed_or-in path _ _

  pub signed_at-in : (default : ℤ) (path key : List ℕ) (d : Data) → IsSignedIn least most default → Gets (IsSignedIn least most) (signed_at default least most path key d)
  signed_at-in default path key d h = of_default (signed_in least most (under path key)) default (get key d) h (signed_in-in (under path key))

-- ---- arrays

pub array-few : (most : ℕ) (path : List ℕ) (d : Data) → Gets (λ items. items_len items ≤ most) (array_in most path d)
unfolding array_in
array-few most path d =
    skip (or_refuse (as_array d) WRONG_TYPE path) (λ items. by_test (nat_lt most (items_len items)) _ _ (λ e. refused _) (λ few. done items (ltb-false most (items_len items) few)))

pub not_empty-some : (most : ℕ) (path : List ℕ) (items : Items) → items_len items ≤ most → Gets (λ some. IsIn 1 most (items_len some)) (not_empty path items)
not_empty-some most path no_items few = refused _
not_empty-some most path (item d rest) few = done (item d rest) (omega arith, few)

-- ---- statuses that a kubelet posts

has-posted : (text : List ℕ) → Has IsPosted (posted_of text)
has-posted text = by (bytes_eq text (codes "True")) (bytes_eq text (codes "False"))
  where
    by : (a b : Bool) → Has IsPosted (cond a (Some statuses.True) (cond b (Some statuses.False) None))
    by true b = tt
    by false true = tt
    by false false = tt

pub posted_at-in : (path key : List ℕ) (d : Data) → Gets IsPosted (posted_at path key d)
unfolding posted_at
posted_at-in path key d = skip (text_at (codes "True") path key d) (λ text. of_option (posted_of text) OUT_OF_RANGE (under path key) (has-posted text))

pub needed_posted-in : (path key : List ℕ) (d : Data) → Gets IsPosted (needed_posted path key d)
unfolding needed_posted
needed_posted-in path key d = skip (needed_text path key d) (λ text. of_option (posted_of text) OUT_OF_RANGE (under path key) (has-posted text))
