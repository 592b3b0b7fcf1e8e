-- The ranges of settings, which are those of a document's.
use Rattle.std.specs.Prelude.{ℕ, ◌≤◌, Option, Some, None}
use Rattle.lens_room.specs.declared.by_flags.flags.Flags.{Flags}

abbrev pub IsTimeout : Option ℕ → Type 0
IsTimeout None = Unit {0}
IsTimeout (Some millis) = (1 ≤ millis) × (millis ≤ 600000)

pub record AreInRange (flags : Flags) : Type 0 where
  pub lease_least : 1 ≤ flags.lease_seconds
  pub lease : flags.lease_seconds ≤ 86400
  pub renew_least : 1 ≤ flags.renew_millis
  pub renew : flags.renew_millis ≤ 86400000
  pub retry_least : 1 ≤ flags.retry_millis
  pub retry : flags.retry_millis ≤ 86400000
  pub timeout : IsTimeout flags.timeout_millis
  pub skew : flags.skew_ppm ≤ 500000
  pub beat_least : 1 ≤ flags.beat_millis
  pub beat : flags.beat_millis ≤ 1000
