-- Settings with a value that fits its flag keep the ranges.
use Rattle.std.proofs.Common.{ℕ}
use Rattle.lens_room.specs.declared.by_flags.flag.Flag.{Flag}
use Rattle.lens_room.specs.declared.by_flags.flag.Flag.TheVariants as flag
use Rattle.lens_room.specs.declared.by_flags.flags.Flags.{Flags}
use Rattle.lens_room.specs.Flags.{IsInRange, with_value}
use Rattle.lens_room.specs.Ranges.{AreInRange}
use Rattle.lens_calm.specs.declared.setting.Setting.{Setting}
use Rattle.lens_calm.specs.declared.setting.Setting.TheVariants.{Election, Wait, Delay, LeastDelay, Grace, Monitor, NodeLease, Rate, Ahead, Toleration}
use Rattle.lens_calm.specs.declared.settings.Settings.{Settings}
use Rattle.lens_calm.specs.Settings.{AreGiven, with_number}
use Rattle.lens_calm.specs.Words.{IsFit}

flags-in : (f : Flag) (n : ℕ) (flags : Flags) → IsInRange f n → AreInRange flags → AreInRange (with_value f n flags)
flags-in flag.Lease n flags fit r =
    record { lease_least = fit.0; lease = fit.1; renew_least = r.renew_least; renew = r.renew; retry_least = r.retry_least; retry = r.retry; timeout = r.timeout; skew = r.skew; beat_least = r.beat_least; beat = r.beat }
flags-in flag.Renew n flags fit r =
    record { lease_least = r.lease_least; lease = r.lease; renew_least = fit.0; renew = fit.1; retry_least = r.retry_least; retry = r.retry; timeout = r.timeout; skew = r.skew; beat_least = r.beat_least; beat = r.beat }
flags-in flag.Retry n flags fit r =
    record { lease_least = r.lease_least; lease = r.lease; renew_least = r.renew_least; renew = r.renew; retry_least = fit.0; retry = fit.1; timeout = r.timeout; skew = r.skew; beat_least = r.beat_least; beat = r.beat }
flags-in flag.Timeout n flags fit r =
    record { lease_least = r.lease_least; lease = r.lease; renew_least = r.renew_least; renew = r.renew; retry_least = r.retry_least; retry = r.retry; timeout = fit; skew = r.skew; beat_least = r.beat_least; beat = r.beat }
flags-in flag.Skew n flags fit r =
    record { lease_least = r.lease_least; lease = r.lease; renew_least = r.renew_least; renew = r.renew; retry_least = r.retry_least; retry = r.retry; timeout = r.timeout; skew = fit; beat_least = r.beat_least; beat = r.beat }
flags-in flag.Beat n flags fit r =
    record { lease_least = r.lease_least; lease = r.lease; renew_least = r.renew_least; renew = r.renew; retry_least = r.retry_least; retry = r.retry; timeout = r.timeout; skew = r.skew; beat_least = fit.0; beat = fit.1 }

pub number-given : (setting : Setting) (n : ℕ) (s : Settings) → IsFit setting n → AreGiven s → AreGiven (with_number setting n s)
number-given (Election f) n s fit g = record { flags = flags-in f n s.flags fit g.flags; delay_least = g.delay_least; monitor_least = g.monitor_least }
number-given Wait n s fit g = record { flags = g.flags; delay_least = g.delay_least; monitor_least = g.monitor_least }
number-given Delay n s fit g = record { flags = g.flags; delay_least = fit; monitor_least = g.monitor_least }
number-given LeastDelay n s fit g = record { flags = g.flags; delay_least = g.delay_least; monitor_least = g.monitor_least }
number-given Grace n s fit g = record { flags = g.flags; delay_least = g.delay_least; monitor_least = g.monitor_least }
number-given Monitor n s fit g = record { flags = g.flags; delay_least = g.delay_least; monitor_least = fit }
number-given NodeLease n s fit g = record { flags = g.flags; delay_least = g.delay_least; monitor_least = g.monitor_least }
number-given Rate n s fit g = record { flags = g.flags; delay_least = g.delay_least; monitor_least = g.monitor_least }
number-given Ahead n s fit g = record { flags = g.flags; delay_least = g.delay_least; monitor_least = g.monitor_least }
number-given Toleration n s fit g = record { flags = g.flags; delay_least = g.delay_least; monitor_least = g.monitor_least }
