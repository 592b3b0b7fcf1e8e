-- How many beats a time takes on a clock. Nothing is divided: a number of beats is rounded up where it is enough and where no less is.
-- Source: client-go's remark on clock skew in `leaderelection`; profile.
use Rattle.std.specs.Prelude.{ℕ, ◌+◌, ◌*◌, ◌≤◌, ◌<◌}
use Rattle.kube_objects.specs.Clocks.{local, rate}
use Rattle.kube_objects.specs.Document.{Doc, beat_micros}

-- in each beat from a on and before e a process's clock goes at least so far
abbrev pub RunsAtLeast : Doc → ℕ → ℕ → ℕ → ℕ → Type 0
RunsAtLeast doc p a e speed = (j : ℕ) → a ≤ j → j < e → speed ≤ beat_micros doc * rate doc p j

-- and at most so far
abbrev pub RunsAtMost : Doc → ℕ → ℕ → ℕ → ℕ → Type 0
RunsAtMost doc p a e speed = (j : ℕ) → a ≤ j → j < e → beat_micros doc * rate doc p j ≤ speed

-- so many beats are enough for a time at a speed: its quotient rounded up, or more
abbrev pub IsEnough : ℕ → ℕ → ℕ → Type 0
IsEnough speed time beats = time ≤ beats * speed

-- so many beats are needed for a time at a speed: its quotient rounded up, or less
abbrev pub IsNeeded : ℕ → ℕ → ℕ → Type 0
IsNeeded speed time beats = (n : ℕ) → time ≤ n * speed → beats ≤ n

-- what is enough for a time at the least speed of a span is enough for the clock
abbrev pub ReadingsGrow : Type 0
ReadingsGrow =
    (doc : Doc) (p a e slow time beats : ℕ) → RunsAtLeast doc p a e slow → IsEnough slow time beats
    → (j k : ℕ) → a ≤ j → j + beats ≤ k → k ≤ e → local doc p j + time ≤ local doc p k

-- what is needed for a time at the greatest speed of a span is needed by the clock
abbrev pub ReadingsLast : Type 0
ReadingsLast =
    (doc : Doc) (p a e fast time beats : ℕ) → RunsAtMost doc p a e fast → IsNeeded fast time beats
    → (j k : ℕ) → a ≤ j → j ≤ k → k ≤ e → local doc p j + time ≤ local doc p k → j + beats ≤ k
