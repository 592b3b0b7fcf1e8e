-- The settings that words behind `bounds` give: those of `margin`, and what else a calm span depends on.
use Rattle.std.specs.Int.{div_ceil}
use Rattle.std.specs.Prelude.{ℕ, ◌*◌, ◌/◌, ◌≤◌, max, true, false, List, [], ◌∷◌, Option, Some, None, unwrap_or}
use Rattle.kube_objects.specs.declared.rules.RespectRule.TheVariants.{Record}
use Rattle.kube_objects.specs.declared.script.Proc.{Proc}
use Rattle.lens_bounds.specs.declared.calm.Calm.{Calm}
use Rattle.lens_bounds.specs.declared.calm.Waits.TheVariants.{UpTo}
use Rattle.lens_bounds.specs.declared.outages.Outage.{Outage}
use Rattle.lens_room.specs.declared.by_flags.flags.Flags.{Flags}
use Rattle.lens_room.specs.Described.{slow, fast, controller}
use Rattle.lens_room.specs.Flags.{standard, timeout_of, with_value}
use Rattle.lens_room.specs.Ranges.{AreInRange}
use Rattle.lens_calm.specs.declared.setting.Setting.{Setting}
use Rattle.lens_calm.specs.declared.setting.Setting.TheVariants.{Election, Wait, Delay, LeastDelay, Grace, Monitor, NodeLease, Rate, Ahead, Toleration}
use Rattle.lens_calm.specs.declared.settings.Settings.{Settings}

-- as kube-controller-manager and the kubelet have them where no word says else, with beats of 10 ms
abbrev pub usual : Settings
usual = record {
  flags = record standard { beat_millis = 10 };
  wait_millis = None;
  delay_millis = 100;
  least_delay_millis = None;
  grace_millis = 40000;
  monitor_millis = 5000;
  node_lease_seconds = 40;
  rate = 100;
  ahead = 0;
  toleration_seconds = 300;
}

abbrev pub with_number : Setting → ℕ → Settings → Settings
with_number (Election flag) n s = record s { flags = with_value flag n s.flags }
with_number Wait n s = record s { wait_millis = Some n }
with_number Delay n s = record s { delay_millis = n }
with_number LeastDelay n s = record s { least_delay_millis = Some n }
with_number Grace n s = record s { grace_millis = n }
with_number Monitor n s = record s { monitor_millis = n }
with_number NodeLease n s = record s { node_lease_seconds = n }
with_number Rate n s = record s { rate = n }
with_number Ahead n s = record s { ahead = n }
with_number Toleration n s = record s { toleration_seconds = n }

-- ranges
pub record AreGiven (s : Settings) : Type 0 where
  pub flags : AreInRange s.flags
  pub delay_least : 1 ≤ s.delay_millis
  pub monitor_least : 1 ≤ s.monitor_millis

-- ---- the calm spans of these settings

-- the greatest delay in whole beats rounded up, and the least rounded down, which is one where none is given
abbrev pub far_of : Settings → ℕ
far_of s = div_ceil s.delay_millis s.flags.beat_millis

abbrev pub near_by : ℕ → Option ℕ → ℕ
near_by beat None = 1
near_by beat (Some millis) = max 1 (millis / beat)

abbrev pub near_of : Settings → ℕ
near_of s = near_by s.flags.beat_millis s.least_delay_millis

abbrev pub micros_of : Settings → ℕ
micros_of s = s.flags.beat_millis * 1000

-- a candidate waits for its retry period, or for up to the longest wait that is given
abbrev pub longest_wait : Settings → ℕ
longest_wait s = unwrap_or s.wait_millis s.flags.retry_millis

-- a leader renews by a Get and an Update, and gives up its Lease at a stop alone
abbrev pub calm_of : Settings → Calm
calm_of s = record {
  beat_millis = s.flags.beat_millis;
  near = near_of s;
  far = far_of s;
  slow = micros_of s * slow s.flags;
  fast = micros_of s * fast s.flags;
  waits = UpTo (longest_wait s);
  respect = Record;
  fast_renew = false;
  releases_by_stop = true;
}

-- every controller has these timings
abbrev pub leader_of : Settings → Proc
leader_of s = controller s.flags 0 (slow s.flags)

abbrev pub controllers_of : Settings → List Proc
controllers_of s = leader_of s ∷ leader_of s ∷ []

-- a kubelet has the call timeout and the clocks of the controllers
abbrev pub outage_of : Settings → Outage
outage_of s = record {
  calm = calm_of s;
  kubelets = true;
  passes_take_no_work = true;
  probes_by_run = true;
  judges_by_own = true;
  starts_empty = true;
  evicts_by_own = true;
  posts_slow = micros_of s * slow s.flags;
  posts_fast = micros_of s * fast s.flags;
  timeout_millis = timeout_of s.flags;
  monitor_millis = s.monitor_millis;
  grace_millis = s.grace_millis;
  node_lease_seconds = s.node_lease_seconds;
  rate = s.rate;
  ahead = s.ahead;
}
