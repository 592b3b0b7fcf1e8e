-- What the numbers of settings are: those of the lease premise of the document that they describe.
use Rattle.std.specs.Prelude.{◌≡◌, ℕ, ◌+◌, ◌-◌, ◌*◌, ◌/◌, ◌<◌, ◌≤◌, min, nat_lt, Bool, true, false, Option, Some, None, if◌then◌else◌}
use Rattle.kube_objects.specs.declared.rules.ReleaseActing.{ReleaseActing}
use Rattle.kube_objects.specs.declared.rules.ReleaseActing.TheVariants.{Still, Acts}
use Rattle.history.specs.Premise.{late_calls, lease_premise}
use Rattle.lens_margin.specs.declared.margin.Margin.{Margin}
use Rattle.lens_margin.specs.Laws.{IsLeast, IsGreatest, IsMargin}
use Rattle.lens_margin.specs.Margins.{margin_of}
use Rattle.lens_room.specs.declared.by_flags.flags.Flags.{Flags}
use Rattle.lens_room.specs.Described.{answered, described}
use Rattle.lens_room.specs.Flags.{timeout_of}
use Rattle.lens_room.specs.Ranges.{AreInRange}

-- whether two leaders are ruled out
abbrev pub holds : Flags → Bool
holds flags = lease_premise (described flags)

abbrev pub with_lease : Flags → ℕ → Flags
with_lease flags seconds = record flags { lease_seconds = seconds }

abbrev pub with_skew : Flags → ℕ → Flags
with_skew flags ppm = record flags { skew_ppm = ppm }

-- ---- the numbers

-- those of the slower of the two controllers
abbrev pub flags_margin : Flags → Margin
flags_margin flags = margin_of (described flags) 0

-- what a leader may act on after its last sent success, in milliseconds of exact clocks; in a release, for so many calls, but no longer than the
-- renew deadline
abbrev pub acting : Flags → ℕ
acting flags =
    timeout_of flags + flags.retry_millis + flags.renew_millis
    + min (timeout_of flags * late_calls flags.release flags.in_release) flags.renew_millis

-- whether no leader acts until it has an answer, which may be lost
abbrev pub are_still : ReleaseActing → Bool
are_still Still = true
are_still Acts = false

-- by how much more than this the lease is, over both together
abbrev pub skew_within : ℕ → ℕ → Option ℕ
skew_within lease acts = if nat_lt acts lease then Some (((lease - acts) * 1000000 - 1) / (lease + acts)) else None

-- there is none where somebody acts until it has an answer
abbrev pub skew_where : Bool → ℕ → ℕ → Option ℕ
skew_where still lease acts = if still then skew_within lease acts else None

abbrev pub greatest_skew : Flags → Option ℕ
greatest_skew flags = skew_where (are_still flags.in_release) (flags.lease_seconds * 1000) (acting flags)

-- ---- their laws

-- the least lease of at most a day with which the premise holds, or none where it holds with none
abbrev pub IsLeastLease : Flags → Option ℕ → Type 0
IsLeastLease flags (Some seconds) = (seconds ≤ 86400) × IsLeast (λ s. holds (with_lease flags s) ≡ true) seconds
IsLeastLease flags None = (s : ℕ) → holds (with_lease flags s) ≡ true → 86400 < s

-- the greatest skew with which the premise holds, or none where it holds with none
abbrev pub IsGreatestSkew : Flags → Option ℕ → Type 0
IsGreatestSkew flags (Some ppm) = IsGreatest (λ s. holds (with_skew flags s) ≡ true) ppm
IsGreatestSkew flags None = (s : ℕ) → ¬ (holds (with_skew flags s) ≡ true)

-- where each reply comes within three beats, a lease that is more than this is enough, also where a leader acts in its release
abbrev pub IsEnoughAnswered : Flags → ℕ → Type 0
IsEnoughAnswered flags must = (s beats : ℕ) → must < s * 1000 → beats ≤ 3 → lease_premise (answered (with_lease flags s) beats) ≡ true

pub record AreNumbers (flags : Flags) : Type 0 where
  pub margin : IsMargin (described flags) 0 (flags_margin flags)
  pub least_lease : IsLeastLease flags (flags_margin flags).least_seconds
  pub greatest_skew : IsGreatestSkew flags (greatest_skew flags)
  pub answered : IsEnoughAnswered flags (flags_margin flags).must_exceed

-- of all settings in their ranges
abbrev pub NumbersAreOfThePremise : Type 0
NumbersAreOfThePremise = (flags : Flags) → AreInRange flags → AreNumbers flags
