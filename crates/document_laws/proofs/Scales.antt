-- The limits that a document keeps are those of the version that it says.
use Rattle.std.proofs.Common.{◌≡◌, ℕ, ◌≤◌, ◌==◌, cond, true, codes, List, Option, Some, None, ℤ, refl, arith}
use Rattle.std.specs.Option.{option_and_then}
use Rattle.std.proofs.lemmas.Bool.{eqb-true}
use Rattle.serde_json.specs.Data.{Data, Members}
use Rattle.serde_json.specs.Find.{get, as_number, as_object, as_u64, as_i64}
use Rattle.manifest_json.specs.declared.codes.TheConstants.{TOP_SHAPE, WRONG_TYPE}
use Rattle.manifest_json.specs.declared.scale.Scale.{Scale}
use Rattle.manifest_json.specs.declared.scale.Scale.TheVariants as scales
use Rattle.manifest_laws.proofs.Getting.{Gets, done, refused, by_test, and_then}
use Rattle.script_reader.specs.declared.table.Table.{Table}
use Rattle.script_reader.specs.declared.table.Table.TheVariants as tables
use Rattle.script_reader.specs.Fields.{required, object_or}
use Rattle.script_reader.specs.Limits.{scale_of, kubelet_limit, event_limit}
use Rattle.script_reader.specs.Tables.{is_key_of, knows_members}
use Rattle.script_reader.specs.Walk.{object_in, version_in, version_or, is_number_four, says_four, top_in}
use Rattle.document_laws.specs.Laws.{scale_under}

pub kubelets-most : (scale : Scale) → kubelet_limit scale ≤ 15000
kubelets-most scales.Usual = omega arith
kubelets-most scales.Large = omega arith

pub events-most : (scale : Scale) → event_limit scale ≤ 1000000
events-most scales.Usual = omega arith
events-most scales.Large = omega arith

-- the value has no key that its table doesn't have
abbrev pub Knows : Table → Data → Type 0
Knows table d = knows_members (is_key_of table) (as_object d) ≡ true

-- an object is the value itself
pub object-same : (code : ℕ) (path : List ℕ) (value : Data) (ms : Option Members) → Gets (λ d. d ≡ value) (object_or code path value ms)
object-same code path value None = refused _
object-same code path value (Some ms) = done value refl

pub top-same : (value : Data) → Gets (λ d. d ≡ value) (top_in value)
unfolding top_in
top-same value =
    and_then (object-same TOP_SHAPE (codes "/") value (as_object value)) (λ d same.
    by_test (knows_members (is_key_of (tables.Top (says_four (get (codes "version") d)))) (as_object d)) _ _ (λ _. done d same) (λ _. refused _))

pub object-is : (table : Table) (path : List ℕ) (value : Data) → Gets (λ d. (d ≡ value) × Knows table d) (object_in table path value)
unfolding object_in
object-is table path value =
    and_then (object-same WRONG_TYPE path value (as_object value)) (λ d same.
    by_test (knows_members (is_key_of table) (as_object d)) _ _ (λ known. done d (same, known)) (λ _. refused _))

by_number : (whole : Option ℕ) (signed : Option ℤ) → Gets (λ version. scale_of version ≡ cond (is_number_four whole) scales.Large scales.Usual) (version_or whole signed)
by_number None None = refused _
by_number None (Some n) = refused _
by_number (Some n) signed =
    by_test (n == 1) _ _ (λ e. done _ (let is : n ≡ 1 = eqb-true n 1 e in rw is refl)) (λ _.
    by_test (n == 2) _ _ (λ e. done _ (let is : n ≡ 2 = eqb-true n 2 e in rw is refl)) (λ _.
    by_test (n == 3) _ _ (λ e. done _ (let is : n ≡ 3 = eqb-true n 3 e in rw is refl)) (λ _.
    by_test (n == 4) _ _ (λ e. done _ (rw e refl)) (λ _. refused _))))

pub scale-is : (version : Option Data) → Gets (λ v. scale_of v ≡ scale_under version) (required (codes "/version") version_in version)
scale-is None = refused _
scale-is (Some d) = by_number (option_and_then as_u64 (as_number d)) (option_and_then as_i64 (as_number d))
