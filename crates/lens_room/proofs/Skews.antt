-- Which skews a lease bears beside what its leader acts on.
use Rattle.std.proofs.Common.{◌≡◌, ◌⊎◌, ℕ, ◌+◌, ◌-◌, ◌*◌, ◌/◌, ◌<◌, ◌≤◌, ap, inl, inr, arith}
use Rattle.std.proofs.Math.Nat.{mul-le-mul_right}
use Rattle.std.proofs.lemmas.Bool.{cases_lt}
use Rattle.std.proofs.lemmas.Nat.{div-add-mod', le-div}

-- a lease on a slow clock is longer than the acting on a fast one
abbrev pub Bears : ℕ → ℕ → ℕ → Type 0
Bears lease acts s = acts * (1000000 + s) < lease * (1000000 - s)

module _ (lease acts : ℕ) where
  -- with the rest of a million in the place of a difference
  to-rest : (s rest : ℕ) → s + rest ≡ 1000000 → acts * (1000000 + s) < lease * rest → acts * 1000000 + acts * s + lease * s < lease * 1000000
  to-rest s rest whole bears = let all : lease * (s + rest) ≡ lease * 1000000 = ap (λ x. lease * x) whole in omega (arith, all, bears)

  of-rest : (s rest : ℕ) → s + rest ≡ 1000000 → acts * 1000000 + acts * s + lease * s < lease * 1000000 → acts * (1000000 + s) < lease * rest
  of-rest s rest whole less = let all : lease * (s + rest) ≡ lease * 1000000 = ap (λ x. lease * x) whole in omega (arith, all, less)

  bears-nothing : (s rest : ℕ) → rest ≡ 0 → acts * (1000000 + s) < lease * rest → ⊥
  bears-nothing s rest none bears = let nothing : lease * rest ≡ lease * 0 = ap (λ x. lease * x) none in omega (arith, nothing, bears)

  pub bears-less : (s : ℕ) → Bears lease acts s → acts * 1000000 + acts * s + lease * s < lease * 1000000
  bears-less s bears = by_size (cases_lt s 1000000)
    where
      by_size : (s < 1000000) ⊎ (1000000 ≤ s) → acts * 1000000 + acts * s + lease * s < lease * 1000000
      by_size (inl below) = to-rest s (1000000 - s) (omega arith) bears
      by_size (inr above) = absurd (bears-nothing s (1000000 - s) (omega arith) bears)

  pub less-bears : (s : ℕ) → acts * 1000000 + acts * s + lease * s < lease * 1000000 → Bears lease acts s
  less-bears s less = by_size (cases_lt s 1000000)
    where
      by_size : (s < 1000000) ⊎ (1000000 ≤ s) → Bears lease acts s
      by_size (inl below) = of-rest s (1000000 - s) (omega arith) less
      by_size (inr above) = let more : 1000000 * lease ≤ s * lease = mul-le-mul_right lease above in absurd (omega (arith, more, less))

  abbrev pub room : ℕ
  room = ((lease - acts) * 1000000 - 1) / (lease + acts)

  pub room-bears : acts < lease → Bears lease acts room
  room-bears some =
      let within : room * (lease + acts) ≤ (lease - acts) * 1000000 - 1 = omega (arith, div-add-mod' ((lease - acts) * 1000000 - 1) (lease + acts)) in
      less-bears room (omega (arith, within, some))

  pub room-most : acts < lease → (s : ℕ) → Bears lease acts s → s ≤ room
  room-most some s bears =
      let less = bears-less s bears in
      le-div s ((lease - acts) * 1000000 - 1) (lease + acts) (omega arith) (omega (arith, less))

  pub bears-none : lease ≤ acts → (s : ℕ) → Bears lease acts s → ⊥
  bears-none long s bears = let less = bears-less s bears in omega (arith, less, long)
