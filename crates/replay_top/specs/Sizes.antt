-- The words that ask for a generated document.
use Rattle.std.specs.Prelude.{ℕ, ◌&&◌, nat_le, List, [], ◌∷◌, codes, decimal, Option, Some, None, if◌then◌else◌}
use Rattle.std.specs.Str.{bytes_eq}
use Rattle.std.specs.Str.Parse.{digits_value}
use Rattle.kube_base.specs.Times.{◌>>=◌}
use Rattle.world_gen.specs.Generated.{AreInRange}
use Rattle.replay_top.specs.declared.sizes.Sizes.{Sizes}

-- the word is what a number from least to most is in decimal: digits alone, with no leading 0 but in 0 itself
abbrev pub number : ℕ → ℕ → List ℕ → Option ℕ
number least most word =
    let n = digits_value 10 word in
    if bytes_eq (decimal n) word && nat_le least n && nat_le n most then Some n else None

-- the seed, and how many nodes, Pods and beats, each in its range
abbrev pub sizes_by : List ℕ → List ℕ → List ℕ → List ℕ → Option Sizes
sizes_by seed nodes pods beats = do
  s ← number 0 18446744073709551615 seed
  n ← number 1 1000 nodes
  p ← number 0 30000 pods
  b ← number 0 100000 beats
  Some (record { seed = s; nodes = n; pods = p; beats = b })

-- `generate` and these four words; no other list of words asks for a generated document
abbrev pub sizes_of : List (List ℕ) → Option Sizes
sizes_of (word ∷ seed ∷ nodes ∷ pods ∷ beats ∷ []) = if bytes_eq word (codes "generate") then sizes_by seed nodes pods beats else None
sizes_of _ = None

-- the ranges of sizes
abbrev pub AreWithin : Sizes → Type 0
AreWithin s = AreInRange s.nodes s.pods s.beats
