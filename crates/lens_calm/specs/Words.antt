-- The words behind `bounds`, and the settings that they come to.
use Rattle.std.specs.Prelude.{ℕ, ◌≤◌, ◌==◌, not, nat_le, Bool, true, List, length, codes}
use Rattle.std.specs.Prelude.{Option, Some, None, unwrap_or, Result, Ok, Err, if◌then◌else◌}
use Rattle.kube_base.specs.Times.{◌>>=◌}
use Rattle.trace_lines.specs.Grammar.{number_onto}
use Rattle.lens_room.specs.declared.by_flags.flag.Flag.{Flag}
use Rattle.lens_room.specs.declared.by_flags.flags.Flags.{Flags}
use Rattle.lens_room.specs.declared.by_flags.misread.Misread.{Misread}
use Rattle.lens_room.specs.declared.by_flags.wrong.Wrong.{Wrong}
use Rattle.lens_room.specs.Durations.{duration}
use Rattle.lens_room.specs.Flags.{flag_by, value_of, IsInRange, is, within, whole_seconds, ruled}
use Rattle.lens_room.specs.Words.{Command, read_from}
use Rattle.lens_calm.specs.declared.setting.Setting.{Setting}
use Rattle.lens_calm.specs.declared.setting.Setting.TheVariants.{Election, Wait, Delay, LeastDelay, Grace, Monitor, NodeLease, Rate, Ahead, Toleration}
use Rattle.lens_calm.specs.declared.settings.Settings.{Settings}
use Rattle.lens_calm.specs.declared.fault.Fault.{Fault}
use Rattle.lens_calm.specs.declared.fault.Fault.TheVariants.{Words, Unruly, ShortWait, ShortDelay}
use Rattle.lens_calm.specs.Settings.{usual, with_number}

-- ---- names

abbrev pub node_setting : List ℕ → Option Setting
node_setting name =
    if is name (codes "--grace") then Some Grace
    else if is name (codes "--monitor") then Some Monitor
    else if is name (codes "--node-lease") then Some NodeLease
    else if is name (codes "--rate") then Some Rate
    else if is name (codes "--ahead") then Some Ahead
    else if is name (codes "--toleration") then Some Toleration
    else None

abbrev pub own_setting : List ℕ → Option Setting
own_setting name =
    if is name (codes "--wait") then Some Wait
    else if is name (codes "--delay") then Some Delay
    else if is name (codes "--least-delay") then Some LeastDelay
    else node_setting name

abbrev pub or_own : Option Flag → List ℕ → Option Setting
or_own None name = own_setting name
or_own (Some flag) name = Some (Election flag)

-- a flag of `margin`, or one of these
abbrev pub setting_by : List ℕ → Option Setting
setting_by name = or_own (flag_by name) name

-- ---- values

-- digits, of at most a million
abbrev pub count : List ℕ → Option ℕ
count text = if length text == 0 then None else number_onto 1000000 0 text

abbrev pub up_to : ℕ → ℕ → Option ℕ
up_to most number = if nat_le number most then Some number else None

-- a duration in seconds that may be nothing
abbrev pub tolerated : List ℕ → Option ℕ
tolerated text = if length text == 0 then None else duration text >>= whole_seconds >>= up_to 86400

abbrev pub number_of : Setting → List ℕ → Option ℕ
number_of (Election flag) text = value_of flag text
number_of Wait text = duration text >>= within 86400000
number_of Delay text = duration text >>= within 600000
number_of LeastDelay text = duration text >>= within 600000
number_of Grace text = duration text >>= within 86400000
number_of Monitor text = duration text >>= within 86400000
number_of NodeLease text = duration text >>= whole_seconds >>= within 86400
number_of Rate text = count text
number_of Ahead text = count text
number_of Toleration text = tolerated text

abbrev pub IsFit : Setting → ℕ → Type 0
IsFit (Election flag) n = IsInRange flag n
IsFit Delay n = 1 ≤ n
IsFit Monitor n = 1 ≤ n
IsFit _ n = Unit {0}

-- ---- settings by words

abbrev pub set_number : Settings → Setting → Option ℕ → Option Settings
set_number settings setting None = None
set_number settings setting (Some n) = Some (with_number setting n settings)

-- with a setting by its text
abbrev pub set : Settings → Setting → List ℕ → Option Settings
set settings setting text = set_number settings setting (number_of setting text)

abbrev pub as_json : Settings → Settings
as_json s = record s { flags = record s.flags { as_json = true } }

abbrev pub command : Command Settings Setting
command = record { by_name = setting_by; with_text = set; in_json = as_json }

-- ---- rules: those of `margin`; no wait is shorter than the retry period, and no delay than the least one

abbrev pub wait_rule : Settings → Bool
wait_rule s = nat_le s.flags.retry_millis (unwrap_or s.wait_millis s.flags.retry_millis)

abbrev pub delay_rule : Settings → Bool
delay_rule s = nat_le (unwrap_or s.least_delay_millis 1) s.delay_millis

abbrev pub own_rules : Settings → Result Settings Fault
own_rules s =
    if not (wait_rule s) then Err ShortWait
    else if not (delay_rule s) then Err ShortDelay
    else Ok s

abbrev pub rules : Settings → Result Flags Wrong → Result Settings Fault
rules s (Err wrong) = Err (Unruly wrong)
rules s (Ok flags) = own_rules s

abbrev pub ruled_if : Result Settings (Misread Setting) → Result Settings Fault
ruled_if (Err misread) = Err (Words misread)
ruled_if (Ok s) = rules s (ruled s.flags)

-- the settings that words behind the command give, or what is wrong with them
unfoldable pub settings_of : List (List ℕ) → Result Settings Fault
settings_of words = ruled_if (read_from command usual words)
