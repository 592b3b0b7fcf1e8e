-- Waits that are said in two ways give the same numbers, so what flags say is what a document can say. Source: profile.
use Rattle.std.specs.Prelude.{◌≡◌, ℕ, ◌*◌, List, All}
use Rattle.kube_objects.specs.declared.script.Proc.{Proc}
use Rattle.lens_bounds.specs.declared.calm.Calm.{Calm}
use Rattle.lens_bounds.specs.declared.calm.Waits.{Waits}
use Rattle.lens_bounds.specs.declared.calm.Waits.TheVariants.{UpTo, Between}
use Rattle.lens_bounds.specs.Elections.{longest_by, shortest_by, election_of}

-- the longest wait of a controller and its shortest one are the same by both
abbrev pub AreAlike : Waits → Waits → Proc → Type 0
AreAlike v w p = (longest_by v p.retry_millis ≡ longest_by w p.retry_millis) × (shortest_by v p.retry_millis ≡ shortest_by w p.retry_millis)

-- then so are all numbers
abbrev pub AlikeTellTheSame : Type 0
AlikeTellTheSame =
    (c : Calm) (v w : Waits) (place : ℕ) (leader : Proc) (ps : List Proc) → AreAlike v w leader → All (AreAlike v w) ps
    → election_of (record c { waits = v }) place leader ps ≡ election_of (record c { waits = w }) place leader ps

-- up to so many milliseconds is from a whole retry period up to as many thousandths of it
abbrev pub UpToIsBetween : Type 0
UpToIsBetween = (millis most : ℕ) (p : Proc) → p.retry_millis * most ≡ millis * 1000 → AreAlike (UpTo millis) (Between 1000 most) p
