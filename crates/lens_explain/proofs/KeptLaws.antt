-- A map that keeps the places of keys, with one more.
use Rattle.std.proofs.Common.{◌≡◌, ◌==◌, ◌&&◌, ℕ, Bool, List, [], ◌∷◌, Option, Some, cond, refl, ap, ◌∙◌, Bor, Ordering}
use Rattle.std.specs.BTreeMap.{BTreeMap, Updates, get, is_at}
use Rattle.std.specs.Cmp.Lexicographic.{slice_cmp}
use Rattle.std.specs.Ordering.{is_eq, nat_cmp, ordering_then}
use Rattle.std.specs.declared.cmp.Ordering.TheVariants.{Less, Equal, Greater}
use Rattle.std.specs.Str.{bytes_eq}
use Rattle.std.proofs.lemmas.Map.Text.{is_eq-slice_cmp}
use Rattle.std.specs.Cmp.{unsigned_tied}
use Rattle.lens_explain.specs.Keys.{KeyAt, is_same, place_among}
use Rattle.lens_explain.specs.Kept.{Keeps, key_cmp}

both-eq : (a b : Ordering) → is_eq (ordering_then a b) ≡ is_eq a && is_eq b
both-eq Less b = refl
both-eq Equal b = refl
both-eq Greater b = refl

pub same-key : (a b : ℕ × Bor (List ℕ)) → is_eq (key_cmp a b) ≡ (a.0 == b.0 && bytes_eq a.1.now b.1.now)
same-key a b = both-eq (nat_cmp a.0 b.0) (slice_cmp nat_cmp a.1.now b.1.now) ∙ (λ i. unsigned_tied a.0 b.0 i && is_eq-slice_cmp a.1.now b.1.now i)

pub keeps-more : (old new : BTreeMap (ℕ × Bor (List ℕ)) ℕ) (key : ℕ × Bor (List ℕ)) (place : ℕ) (earlier : List KeyAt) → Keeps old earlier
    → Updates key_cmp old new key (Some place) → Keeps new (record { owner = key.0; place = place; text = key.1.now } ∷ earlier)
keeps-more old new key place earlier kept updates q = updates.0 q ∙ (λ i. cond (same-key key q i) (Some place) (kept q i))

-- where a key's own place is doesn't matter
pub place-any : (keys : List KeyAt) (owner p q : ℕ) (text : List ℕ) → place_among keys (record { owner = owner; place = p; text = text }) ≡ place_among keys (record { owner = owner; place = q; text = text })
place-any [] owner p q text = refl
place-any (k ∷ ks) owner p q text = ap (cond (k.owner == owner && bytes_eq k.text text) (Some k.place)) (place-any ks owner p q text)
