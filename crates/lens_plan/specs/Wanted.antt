-- What words behind `tune` want, and what stands where they say nothing.
use Rattle.std.specs.Prelude.{ℕ, ◌≤◌, false}
use Rattle.lens_tune.specs.declared.wish.Timeout.TheVariants.{RenewDeadline, Half, Fixed}
use Rattle.lens_tune.specs.declared.wish.Wish.{Wish}
use Rattle.lens_plan.specs.declared.setting.Setting.{Setting}
use Rattle.lens_plan.specs.declared.setting.Setting.TheVariants.{Failover, Timeout, Skew, WaitFactor, Stall, Delay, LeastRetry, Beat}
use Rattle.lens_plan.specs.declared.wanted.Wanted.{Wanted}

-- exact clocks, a call timeout that is the renew deadline, and candidates that wait for up to 2.2 retry periods. Source: client-go's
-- `JitterFactor` of 1.2
abbrev pub usual_wish : Wish
usual_wish = record {
  failover_millis = 0;
  timeout = RenewDeadline;
  skew_ppm = 0;
  wait_percent = 220;
  stall_millis = 0;
  delay_millis = 100;
  retry_tenths = 1;
  beat_millis = 10;
}

abbrev pub usual : Wanted
usual = record { wish = usual_wish; as_json = false }

abbrev pub wish_with : Setting → ℕ → Wish → Wish
wish_with Failover n w = record w { failover_millis = n }
wish_with Timeout n w = record w { timeout = Fixed n }
wish_with Skew n w = record w { skew_ppm = n }
wish_with WaitFactor n w = record w { wait_percent = n }
wish_with Stall n w = record w { stall_millis = n }
wish_with Delay n w = record w { delay_millis = n }
wish_with LeastRetry n w = record w { retry_tenths = n }
wish_with Beat n w = record w { beat_millis = n }

abbrev pub with_number : Setting → ℕ → Wanted → Wanted
with_number setting n wanted = record wanted { wish = wish_with setting n wanted.wish }

abbrev pub half_wish : Wish → Wish
half_wish w = record w { timeout = Half }

abbrev pub with_half : Wanted → Wanted
with_half wanted = record wanted { wish = half_wish wanted.wish }

-- in the ranges of a wish
abbrev pub IsFit : Setting → ℕ → Type 0
IsFit Failover n = n ≤ 86400000
IsFit Timeout n = n ≤ 600000
IsFit Skew n = n ≤ 500000
IsFit WaitFactor n = (100 ≤ n) × (n ≤ 1000)
IsFit Stall n = n ≤ 86400000
IsFit Delay n = (1 ≤ n) × (n ≤ 600000)
IsFit LeastRetry n = (1 ≤ n) × (n ≤ 864000)
IsFit Beat n = (1 ≤ n) × (n ≤ 1000)
