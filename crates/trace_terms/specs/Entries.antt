-- The lines of a trace, and what each means for the terms.
use Rattle.std.specs.Prelude.{ℕ, List}
use denote.Ref.{Bor}
use Rattle.trace_terms.specs.declared.role.Role.{Role}
use Rattle.trace_terms.specs.declared.role.Role.TheVariants.{Leads, Ends, Zones, Taints, Acts, Idles}

-- what a line means, with the texts themselves in the place of references to them
abbrev pub played : Role (Bor (List ℕ)) → Role (List ℕ)
played Leads = Leads
played Ends = Ends
played (Zones zone rate) = Zones zone.now rate
played Taints = Taints
played Acts = Acts
played Idles = Idles

-- a line behind the first, with its number from 1
pub record Entry : Type 0 where
  pub line : ℕ
  pub beat : ℕ
  pub actor : List ℕ
  pub role : Role (List ℕ)
