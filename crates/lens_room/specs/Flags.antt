-- What words give: the flags, what each takes, and the settings that they come to. Source: kube-controller-manager's flags of leader
-- election, with its defaults; and its call timeout, which is the renew deadline.
use Rattle.std.specs.Prelude.{ℕ, ◌*◌, ◌/◌, ◌%◌, ◌≤◌, ◌==◌, ◌&&◌, ◌||◌, not, nat_le, nat_lt, Bool, true, false, List, [], ◌∷◌, length, codes}
use Rattle.std.specs.Prelude.{Option, Some, None, unwrap_or, Result, Ok, Err, if◌then◌else◌}
use Rattle.std.specs.Str.{bytes_eq}
use Rattle.kube_base.specs.Times.{◌>>=◌}
use Rattle.kube_objects.specs.declared.rules.ReleaseActing.{ReleaseActing}
use Rattle.kube_objects.specs.declared.rules.ReleaseActing.TheVariants as acting
use Rattle.kube_objects.specs.declared.rules.ReleaseRule.{ReleaseRule}
use Rattle.kube_objects.specs.declared.rules.ReleaseRule.TheVariants as rule
use Rattle.script_reader.specs.Choices.{release_of, in_release_of}
use Rattle.script_reader.specs.Rules.{has_release}
use Rattle.trace_lines.specs.Grammar.{cut, number_onto}
use Rattle.lens_room.specs.declared.by_flags.flag.Flag.{Flag}
use Rattle.lens_room.specs.declared.by_flags.flag.Flag.TheVariants.{Lease, Renew, Retry, Timeout, Skew, Beat}
use Rattle.lens_room.specs.declared.by_flags.flags.Flags.{Flags}
use Rattle.lens_room.specs.declared.by_flags.misread.Misread.{Misread}
use Rattle.lens_room.specs.declared.by_flags.setting.Setting.{Setting}
use Rattle.lens_room.specs.declared.by_flags.setting.Setting.TheVariants.{Number, Release, InRelease}
use Rattle.lens_room.specs.declared.by_flags.wrong.Wrong.{Wrong}
use Rattle.lens_room.specs.declared.by_flags.wrong.Wrong.TheVariants.{Words, LongRenew, LongRetry, LongTimeout, NoRelease}
use Rattle.lens_room.specs.Durations.{duration}
use Rattle.lens_room.specs.Words.{Command, read_from}

-- ---- names

abbrev pub is : List ℕ → List ℕ → Bool
is text word = bytes_eq text word

abbrev pub other_flag_by : List ℕ → Option Flag
other_flag_by name =
    if is name (codes "--timeout") then Some Timeout
    else if is name (codes "--skew") then Some Skew
    else if is name (codes "--beat") then Some Beat
    else None

-- a flag's own name, or kube-controller-manager's
abbrev pub flag_by : List ℕ → Option Flag
flag_by name =
    if is name (codes "--lease") || is name (codes "--leader-elect-lease-duration") then Some Lease
    else if is name (codes "--renew") || is name (codes "--leader-elect-renew-deadline") then Some Renew
    else if is name (codes "--retry") || is name (codes "--leader-elect-retry-period") then Some Retry
    else other_flag_by name

abbrev pub release_setting : List ℕ → Option Setting
release_setting name =
    if is name (codes "--release") then Some Release
    else if is name (codes "--in-release") then Some InRelease
    else None

abbrev pub or_release : Option Flag → List ℕ → Option Setting
or_release None name = release_setting name
or_release (Some flag) name = Some (Number flag)

-- a flag with a number, or one on releases
abbrev pub setting_by : List ℕ → Option Setting
setting_by name = or_release (flag_by name) name

-- ---- values

-- as a document has them
abbrev pub release_word : ReleaseRule → List ℕ
release_word rule.Stop = codes "stop"
release_word rule.Own = codes "own"
release_word rule.Checked = codes "checked"
release_word rule.Reread = codes "reread"

abbrev pub acting_word : ReleaseActing → List ℕ
acting_word acting.Still = codes "still"
acting_word acting.Acts = codes "acts"

abbrev pub within : ℕ → ℕ → Option ℕ
within most number = if nat_le 1 number && nat_le number most then Some number else None

abbrev pub whole_seconds : ℕ → Option ℕ
whole_seconds millis = if (millis % 1000) == 0 then Some (millis / 1000) else None

-- digits and `ppm`, of at most 500,000
abbrev pub before_ppm : Option (List ℕ × List ℕ) → Option ℕ
before_ppm None = None
before_ppm (Some parts) = if is parts.1 (codes "pm") && not (length parts.0 == 0) then number_onto 500000 0 parts.0 else None

unfoldable pub parts_per_million : List ℕ → Option ℕ
parts_per_million text = before_ppm (cut 112 text)

-- the seconds of a lease, the parts per million of a skew, and else milliseconds; in the ranges of a document's settings
abbrev pub value_of : Flag → List ℕ → Option ℕ
value_of Lease text = duration text >>= whole_seconds >>= within 86400
value_of Renew text = duration text >>= within 86400000
value_of Retry text = duration text >>= within 86400000
value_of Timeout text = duration text >>= within 600000
value_of Skew text = parts_per_million text
value_of Beat text = duration text >>= within 1000

abbrev pub IsInRange : Flag → ℕ → Type 0
IsInRange Lease n = (1 ≤ n) × (n ≤ 86400)
IsInRange Renew n = (1 ≤ n) × (n ≤ 86400000)
IsInRange Retry n = (1 ≤ n) × (n ≤ 86400000)
IsInRange Timeout n = (1 ≤ n) × (n ≤ 600000)
IsInRange Skew n = n ≤ 500000
IsInRange Beat n = (1 ≤ n) × (n ≤ 1000)

-- ---- settings

-- as kube-controller-manager has them where no flag says else, on exact clocks, with a beat of 100 ms, told in lines; a leader gives up its Lease at a
-- stop alone
abbrev pub standard : Flags
standard = record {
  lease_seconds = 15;
  renew_millis = 10000;
  retry_millis = 2000;
  timeout_millis = None;
  skew_ppm = 0;
  beat_millis = 100;
  release = rule.Stop;
  in_release = acting.Still;
  as_json = false;
}

abbrev pub with_value : Flag → ℕ → Flags → Flags
with_value Lease n flags = record flags { lease_seconds = n }
with_value Renew n flags = record flags { renew_millis = n }
with_value Retry n flags = record flags { retry_millis = n }
with_value Timeout n flags = record flags { timeout_millis = Some n }
with_value Skew n flags = record flags { skew_ppm = n }
with_value Beat n flags = record flags { beat_millis = n }

-- the call timeout; where none is given, it is the renew deadline
abbrev pub timeout_of : Flags → ℕ
timeout_of flags = unwrap_or flags.timeout_millis flags.renew_millis

-- ---- settings by words

abbrev pub with_number : Flags → Flag → Option ℕ → Option Flags
with_number flags flag None = None
with_number flags flag (Some n) = Some (with_value flag n flags)

abbrev pub with_release : Flags → Option ReleaseRule → Option Flags
with_release flags None = None
with_release flags (Some release) = Some (record flags { release = release })

abbrev pub with_acting : Flags → Option ReleaseActing → Option Flags
with_acting flags None = None
with_acting flags (Some in_release) = Some (record flags { in_release = in_release })

-- with a setting by its text
abbrev pub set : Flags → Setting → List ℕ → Option Flags
set flags (Number flag) text = with_number flags flag (value_of flag text)
set flags Release text = with_release flags (release_of text)
set flags InRelease text = with_acting flags (in_release_of text)

abbrev pub as_json : Flags → Flags
as_json flags = record flags { as_json = true }

abbrev pub command : Command Flags Setting
command = record { by_name = setting_by; with_text = set; in_json = as_json }

-- ---- the rules of a document's timings: the lease outlasts the renew deadline, that the retry period by more than a fifth of it, a call
-- timeout is at most ten minutes, and who acts in a release has one
abbrev pub ruled : Flags → Result Flags Wrong
ruled flags =
    if nat_le (flags.lease_seconds * 1000) flags.renew_millis then Err LongRenew
    else if nat_le (5 * flags.renew_millis) (6 * flags.retry_millis) then Err LongRetry
    else if nat_lt 600000 (timeout_of flags) then Err LongTimeout
    else if not (has_release flags.in_release flags.release) then Err NoRelease
    else Ok flags

abbrev pub ruled_if : Result Flags (Misread Setting) → Result Flags Wrong
ruled_if (Err misread) = Err (Words misread)
ruled_if (Ok flags) = ruled flags

-- the settings that words behind the command give, or what is wrong with them
unfoldable pub flags_of : List (List ℕ) → Result Flags Wrong
flags_of words = ruled_if (read_from command standard words)

-- the words behind the first one
abbrev pub behind : List (List ℕ) → List (List ℕ)
behind [] = []
behind (word ∷ words) = words
