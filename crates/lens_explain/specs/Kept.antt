-- A map that keeps the places of keys.
use Rattle.std.specs.Prelude.{◌≡◌, ℕ, List}
use Rattle.std.specs.Borrow.{Bor}
use Rattle.std.specs.BTreeMap.{BTreeMap, get}
use Rattle.std.specs.Cmp.Lexicographic.{slice_cmp}
use Rattle.std.specs.Ordering.{nat_cmp, ordering_then}
use Rattle.std.specs.declared.cmp.Ordering.{Ordering}
use Rattle.lens_explain.specs.Keys.{KeyAt, place_among}

abbrev pub key_cmp : ℕ × Bor (List ℕ) → ℕ × Bor (List ℕ) → Ordering
key_cmp a b = ordering_then (nat_cmp a.0 b.0) (slice_cmp nat_cmp a.1.now b.1.now)

-- the map has for each key the place of the first of these that is the same
abbrev pub Keeps : BTreeMap (ℕ × Bor (List ℕ)) ℕ → List KeyAt → Type 0
Keeps places keys = (q : ℕ × Bor (List ℕ)) → get key_cmp places q ≡ place_among keys (record { owner = q.0; place = 0; text = q.1.now })
