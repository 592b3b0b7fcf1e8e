-- What is wished for, and the calm span, the controllers and the stalls that it speaks of, by the settings of a plan.
use Rattle.std.specs.Int.{div_ceil}
use Rattle.std.specs.Prelude.{ℕ, ◌*◌, ◌/◌, ◌≤◌, max, true, false, Some}
use Rattle.kube_objects.specs.declared.rules.ReleaseActing.TheVariants.{Still}
use Rattle.kube_objects.specs.declared.rules.ReleaseRule.TheVariants.{Stop}
use Rattle.kube_objects.specs.declared.rules.RespectRule.TheVariants.{Record}
use Rattle.kube_objects.specs.declared.script.Proc.{Proc}
use Rattle.kube_objects.specs.Document.{Doc}
use Rattle.lens_bounds.specs.declared.calm.Calm.{Calm}
use Rattle.lens_bounds.specs.declared.calm.Waits.TheVariants.{UpTo}
use Rattle.lens_margin.specs.Laws.{paused}
use Rattle.lens_room.specs.declared.by_flags.flags.Flags.{Flags}
use Rattle.lens_room.specs.Described.{slow, fast, controller, described}
use Rattle.lens_tune.specs.declared.plan.Plan.{Plan}
use Rattle.lens_tune.specs.declared.wish.Timeout.{Timeout}
use Rattle.lens_tune.specs.declared.wish.Timeout.TheVariants.{RenewDeadline, Half, Fixed}
use Rattle.lens_tune.specs.declared.wish.Wish.{Wish}

abbrev pub IsTimeout : Timeout → Type 0
IsTimeout RenewDeadline = Unit {0}
IsTimeout Half = Unit {0}
IsTimeout (Fixed millis) = millis ≤ 600000

-- the ranges of what is wished for
pub record IsWish (w : Wish) : Type 0 where
  pub failover : w.failover_millis ≤ 86400000
  pub timeout : IsTimeout w.timeout
  pub skew : w.skew_ppm ≤ 500000
  pub wait_least : 100 ≤ w.wait_percent
  pub wait : w.wait_percent ≤ 1000
  pub stall : w.stall_millis ≤ 86400000
  pub delay_least : 1 ≤ w.delay_millis
  pub delay : w.delay_millis ≤ 600000
  pub retry_least : 1 ≤ w.retry_tenths
  pub retry : w.retry_tenths ≤ 864000
  pub beat_least : 1 ≤ w.beat_millis
  pub beat : w.beat_millis ≤ 1000

-- how long a call waits for its reply: as long as is given, the renew deadline, or half of it, but at least a second. Source: client-go's
-- `NewFromKubeconfig`
abbrev pub timeout_by : Timeout → ℕ → ℕ
timeout_by RenewDeadline renew = renew
timeout_by Half renew = max 1000 (renew / 2)
timeout_by (Fixed millis) renew = millis

abbrev pub renew_millis : Plan → ℕ
renew_millis p = p.renew_tenths * 100

abbrev pub retry_millis : Plan → ℕ
retry_millis p = p.retry_tenths * 100

abbrev pub timeout_of : Wish → Plan → ℕ
timeout_of w p = timeout_by w.timeout (renew_millis p)

-- the settings that a plan comes to, as `margin` and `bounds` read them; a leader gives up its Lease at a stop alone
abbrev pub flags_of : Wish → Plan → Flags
flags_of w p = record {
  lease_seconds = p.lease_seconds;
  renew_millis = renew_millis p;
  retry_millis = retry_millis p;
  timeout_millis = Some (timeout_of w p);
  skew_ppm = w.skew_ppm;
  beat_millis = w.beat_millis;
  release = Stop;
  in_release = Still;
  as_json = false;
}

-- the longest wait of a candidate between two attempts, in milliseconds: so much of its retry period
abbrev pub wait_of : Wish → Plan → ℕ
wait_of w p = p.retry_tenths * w.wait_percent

-- the greatest delay of a message, in whole beats rounded up
abbrev pub far_of : Wish → ℕ
far_of w = div_ceil w.delay_millis w.beat_millis

-- a message takes a beat at least, and a leader renews by a Get and an Update
abbrev pub calm_of : Wish → Plan → Calm
calm_of w p = record {
  beat_millis = w.beat_millis;
  near = 1;
  far = far_of w;
  slow = w.beat_millis * 1000 * slow (flags_of w p);
  fast = w.beat_millis * 1000 * fast (flags_of w p);
  waits = UpTo (wait_of w p);
  respect = Record;
  fast_renew = false;
  releases_by_stop = true;
}

-- every controller has these timings
abbrev pub controller_of : Wish → Plan → Proc
controller_of w p = controller (flags_of w p) 0 (slow (flags_of w p))

-- a stall in whole beats, rounded up
abbrev pub stall_beats : Wish → ℕ
stall_beats w = div_ceil w.stall_millis w.beat_millis

-- two controllers with these settings, one with a clock as slow and one as fast as the skew lets it be, each of which stands still once
abbrev pub stalled : Wish → Plan → Doc
stalled w p = paused (paused (described (flags_of w p)) 0 (stall_beats w)) 1 (stall_beats w)
