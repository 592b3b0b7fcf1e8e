-- A member of `on` that has both keys and no more.
use Rattle.std.proofs.Common.{◌≡◌, ℕ, ◌-◌, ◌≤◌, true, List, [], ◌∷◌, length, slice_get, codes, Some, Result, Ok, option_and_then, refl, ap, ◌∙◌, arith, nat_le}
use Rattle.std.specs.Prelude.{String, string_bytes}
use Rattle.std.specs.Global.{Global}
use Rattle.serde_json.specs.Data.{Data, null, boolean, number, string, array, object, Members, no_members, member}
use Rattle.serde_json.specs.Find.{get, get_member, as_object, as_str, as_number, as_u64}
use Rattle.serde_json.specs.View.{view, members_view}
use Rattle.serde_json.specs.declared.value.Value.{Value}
use Rattle.manifest_json.specs.Faults.{◌>>=◌}
use Rattle.manifest_json.specs.Fields.{Texts, numbered, is_name}
use Rattle.manifest_json.specs.declared.codes.TheConstants.{WRONG_TYPE}
use Rattle.manifest_json.specs.declared.fault.Refusal.{Refusal}
use Rattle.script_reader.specs.declared.parts.Share.{Share}
use Rattle.script_reader.specs.Fields.{needed_name, needed_whole, object_at, object_or}
use Rattle.script_reader.specs.declared.table.Table.TheVariants as tables
use Rattle.script_reader.specs.Sets.{IsPlainShare, share_at}
use Rattle.script_reader.specs.Tables.{known_in}

get_of : (k : List ℕ) (d : Data) (ms : Members) → as_object d ≡ Some ms → get k d ≡ get_member k ms
get_of k null ms h = absurd cc
get_of k (boolean b) ms h = absurd cc
get_of k (number n) ms h = absurd cc
get_of k (string s) ms h = absurd cc
get_of k (array ds) ms h = absurd cc
get_of k (object ns) ms h =
    let same : ns ≡ ms = cc in
    ap (get_member k) same

-- how a member is read once its keys are known
text_read : Texts → List ℕ → Data → List ℕ → Result (Share × Texts) Refusal
text_read names path d text = numbered names text >>= λ node. needed_whole 1 100_000 path (codes "pods") d >>= λ pods. Ok (record { node = node.0; pods = pods }, node.1)

known_read : Texts → List ℕ → Data → Result (Share × Texts) Refusal
known_read names path d = needed_name path (codes "node") d >>= text_read names path d

-- what a member is that has just these two keys
pub plain-share : (d node pods : Data) (text : List ℕ) (n : ℕ)
    → as_object d ≡ Some (member (codes "node") node (member (codes "pods") pods no_members))
    → as_str node ≡ Some text → is_name text ≡ true → option_and_then as_u64 (as_number pods) ≡ Some n → 1 ≤ n → n ≤ 100000 → IsPlainShare d text n
unfolding share_at needed_name numbered text_read known_read
plain-share d node pods text n is is_text named is_whole least most names path =
    let has_node : get (codes "node") d ≡ Some node = get_of (codes "node") d (member (codes "node") node (member (codes "pods") pods no_members)) is in
    let has_pods : get (codes "pods") d ≡ Some pods = get_of (codes "pods") d (member (codes "node") node (member (codes "pods") pods no_members)) is in
    let low : nat_le 1 n ≡ true = grind (arith, least) in
    let high : nat_le n 100000 ≡ true = grind (arith, most) in
    let object : object_at WRONG_TYPE path d ≡ Ok d = ap (object_or WRONG_TYPE path d) is in
    let keys : known_in tables.Share path d ≡ Ok d = rw (is) refl in
    let name : needed_name path (codes "node") d ≡ Ok text = rw (has_node, is_text, named) refl in
    let whole : needed_whole 1 100_000 path (codes "pods") d ≡ Ok n = rw (has_pods, is_whole, low, high) refl in
    ap (λ r. r >>= λ e. known_in tables.Share path e >>= known_read names path) object ∙ ap (λ r. r >>= known_read names path) keys
    ∙ ap (λ r. r >>= text_read names path d) name ∙ ap (λ r. numbered names text >>= λ node. r >>= λ pods. Ok (record { node = node.0; pods = pods }, node.1)) whole

-- what two members are of which the first and the last have these keys
pub both-members : (ms : List (String Global × Value)) (first last : String Global × Value) → length ms ≡ 2 → slice_get ms 0 ≡ Some first → slice_get ms (length ms - 1) ≡ Some last
    → string_bytes first.0 ≡ codes "node" → string_bytes last.0 ≡ codes "pods"
    → members_view ms ≡ member (codes "node") (view first.1) (member (codes "pods") (view last.1) no_members)
both-members [] first last two at_first at_last node pods = absurd cc
both-members (a ∷ []) first last two at_first at_last node pods = absurd cc
both-members (a ∷ b ∷ []) first last two at_first at_last node pods =
    let one : a ≡ first = cc in
    let other : b ≡ last = cc in
    rw (one, other, node, pods) refl
both-members (a ∷ b ∷ c ∷ ms) first last two at_first at_last node pods = absurd (omega (arith, two))
