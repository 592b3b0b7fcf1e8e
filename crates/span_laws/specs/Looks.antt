-- Looks at a clock, with so many beats from one to the next: the first one that finds a time over since the first look of all.
-- Source: profile.
use Rattle.std.specs.Prelude.{ℕ, suc, ◌+◌, ◌-◌, ◌*◌, ◌≤◌, ◌<◌}
use Rattle.kube_objects.specs.Clocks.{local}
use Rattle.kube_objects.specs.Document.{Doc}
use Rattle.span_laws.specs.Spans.{RunsAtLeast, RunsAtMost, IsEnough, IsNeeded}

-- the looks up to number n are from near to far beats apart
abbrev pub AreLooks : ℕ → ℕ → (ℕ → ℕ) → ℕ → Type 0
AreLooks near far look n = (i : ℕ) → i < n → (look i + near ≤ look (suc i)) × (look (suc i) ≤ look i + far)

-- so many beats are no more than it takes until a look finds a time over for which these beats are enough: as many steps as go on for so long,
-- and one step after the last beat at which it may not be over
abbrev pub IsAtMost : ℕ → ℕ → ℕ → ℕ → Type 0
IsAtMost near far enough beats = ((steps : ℕ) → enough ≤ steps * near → beats ≤ steps * far) × (beats ≤ (enough - 1) + far)

-- a bound on such beats
abbrev pub IsGreatest : ℕ → ℕ → ℕ → ℕ → Type 0
IsGreatest near far enough most = (beats : ℕ) → IsAtMost near far enough beats → beats ≤ most

-- and no fewer, where these beats are needed: the beats themselves, and the steps without which they aren't reached
abbrev pub IsAtLeast : ℕ → ℕ → ℕ → ℕ → Type 0
IsAtLeast near far needed beats = (needed ≤ beats) × ((steps : ℕ) → IsNeeded far needed steps → steps * near ≤ beats)

-- look n is the first one that finds a time over since look 0
pub record IsFound (doc : Doc) (p : ℕ) (look : ℕ → ℕ) (time n : ℕ) : Type 0 where
  pub before : (i : ℕ) → i < n → local doc p (look i) < local doc p (look 0) + time
  pub over : local doc p (look 0) + time ≤ local doc p (look n)

-- the look that finds a time over comes within these bounds
abbrev pub LooksFind : Type 0
LooksFind =
    (doc : Doc) (p a e near far time n : ℕ) (look : ℕ → ℕ) → AreLooks near far look n → a ≤ look 0 → look n ≤ e → IsFound doc p look time n
    → ((slow enough : ℕ) → RunsAtLeast doc p a e slow → IsEnough slow time enough → IsAtMost near far enough (look n - look 0))
    × ((fast needed : ℕ) → RunsAtMost doc p a e fast → IsNeeded fast time needed → IsAtLeast near far needed (look n - look 0))
