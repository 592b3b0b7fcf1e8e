-- The words behind `tune`, and what they want.
use Rattle.std.specs.Prelude.{ℕ, ◌*◌, ◌/◌, ◌%◌, ◌==◌, ◌&&◌, ◌||◌, nat_le, Bool, true, false, List, length, codes}
use Rattle.std.specs.Prelude.{Option, Some, None, Result, Ok, Err, if◌then◌else◌}
use Rattle.kube_base.specs.Times.{◌>>=◌}
use Rattle.trace_lines.specs.Grammar.{cut}
use Rattle.lens_room.specs.declared.by_flags.flag.Flag.TheVariants as margin
use Rattle.lens_room.specs.declared.by_flags.misread.Misread.{Misread}
use Rattle.lens_room.specs.Durations.{duration}
use Rattle.lens_room.specs.Flags.{is, value_of, within}
use Rattle.lens_room.specs.Words.{Command, read_from}
use Rattle.lens_plan.specs.declared.fault.Fault.{Fault}
use Rattle.lens_plan.specs.declared.fault.Fault.TheVariants.{Words, NoFailover}
use Rattle.lens_plan.specs.declared.given.Asked.{Asked}
use Rattle.lens_plan.specs.declared.setting.Setting.{Setting}
use Rattle.lens_plan.specs.declared.setting.Setting.TheVariants.{Failover, Timeout, Skew, WaitFactor, Stall, Delay, LeastRetry, Beat}
use Rattle.lens_plan.specs.declared.wanted.Wanted.{Wanted}
use Rattle.lens_plan.specs.Decimals.{hundredths}
use Rattle.lens_plan.specs.Wanted.{usual, with_number, with_half}

-- ---- names

abbrev pub other_setting : List ℕ → Option Setting
other_setting name =
    if is name (codes "--stall") then Some Stall
    else if is name (codes "--delay") then Some Delay
    else if is name (codes "--least-retry") then Some LeastRetry
    else if is name (codes "--beat") then Some Beat
    else None

abbrev pub setting_by : List ℕ → Option Setting
setting_by name =
    if is name (codes "--failover") then Some Failover
    else if is name (codes "--timeout") then Some Timeout
    else if is name (codes "--skew") then Some Skew
    else if is name (codes "--wait-factor") then Some WaitFactor
    else other_setting name

-- ---- values

-- a percentage of at most 50 as parts per million
abbrev pub up_to_half : ℕ → Option ℕ
up_to_half percents = if nat_le percents 5000 then Some (100 * percents) else None

abbrev pub percentage : List ℕ → List ℕ → Option ℕ
percentage percent rest = if length rest == 0 then hundredths percent >>= up_to_half else None

abbrev pub by_percent : List ℕ → Option (List ℕ × List ℕ) → Option ℕ
by_percent text None = value_of margin.Skew text
by_percent text (Some parts) = percentage parts.0 parts.1

-- a percentage, or parts per million as `margin` takes them
abbrev pub skew : List ℕ → Option ℕ
skew text = by_percent text (cut 37 text)

abbrev pub from_one_to_ten : ℕ → Option ℕ
from_one_to_ten factor = if nat_le 100 factor && nat_le factor 1000 then Some factor else None

-- the hundredths of a number from 1 to 10
abbrev pub factor : List ℕ → Option ℕ
factor text = hundredths text >>= from_one_to_ten

-- a duration that may be nothing
abbrev pub stall : List ℕ → Option ℕ
stall text = if length text == 0 then None else duration text

abbrev pub tenths : ℕ → Option ℕ
tenths millis = if (millis % 100) == 0 then Some (millis / 100) else None

abbrev pub number_of : Setting → List ℕ → Option ℕ
number_of Failover text = duration text >>= within 86400000
number_of Timeout text = duration text >>= within 600000
number_of Skew text = skew text
number_of WaitFactor text = factor text
number_of Stall text = stall text
number_of Delay text = duration text >>= within 600000
number_of LeastRetry text = duration text >>= within 86400000 >>= tenths
number_of Beat text = duration text >>= within 1000

-- ---- what words want, one after the other

abbrev pub is_timeout : Setting → Bool
is_timeout Timeout = true
is_timeout Failover = false
is_timeout Skew = false
is_timeout WaitFactor = false
is_timeout Stall = false
is_timeout Delay = false
is_timeout LeastRetry = false
is_timeout Beat = false

abbrev pub is_failover : Setting → Bool
is_failover Failover = true
is_failover Timeout = false
is_failover Skew = false
is_failover WaitFactor = false
is_failover Stall = false
is_failover Delay = false
is_failover LeastRetry = false
is_failover Beat = false

abbrev pub with_number_if : Asked → Setting → Option ℕ → Option Asked
with_number_if asked setting None = None
with_number_if asked setting (Some n) =
    Some (record { wanted = with_number setting n asked.wanted; has_failover = asked.has_failover || is_failover setting })

abbrev pub halved : Asked → Asked
halved asked = record asked { wanted = with_half asked.wanted }

-- a call timeout may be half the renew deadline
abbrev pub set : Asked → Setting → List ℕ → Option Asked
set asked setting text =
    if is_timeout setting && is text (codes "half") then Some (halved asked)
    else with_number_if asked setting (number_of setting text)

abbrev pub wanted_json : Wanted → Wanted
wanted_json wanted = record wanted { as_json = true }

abbrev pub as_json : Asked → Asked
as_json asked = record asked { wanted = wanted_json asked.wanted }

abbrev pub command : Command Asked Setting
command = record { by_name = setting_by; with_text = set; in_json = as_json }

abbrev pub nothing : Asked
nothing = record { wanted = usual; has_failover = false }

-- a failover has to be given
abbrev pub closed : Result Asked (Misread Setting) → Result Wanted Fault
closed (Err misread) = Err (Words misread)
closed (Ok asked) = if asked.has_failover then Ok asked.wanted else Err NoFailover

-- what words behind the command want, or what is wrong with them
unfoldable pub wanted_of : List (List ℕ) → Result Wanted Fault
wanted_of words = closed (read_from command nothing words)
