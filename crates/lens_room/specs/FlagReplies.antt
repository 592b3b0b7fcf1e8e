-- What words behind `margin` are answered.
use Rattle.std.specs.Prelude.{ℕ, List, [], ◌++◌, codes, decimal, Option, Some, None, Result, Ok, Err, if◌then◌else◌}
use Rattle.kube_objects.specs.declared.rules.ReleaseActing.{ReleaseActing}
use Rattle.kube_objects.specs.declared.rules.ReleaseActing.TheVariants as acting
use Rattle.kube_objects.specs.declared.rules.ReleaseRule.{ReleaseRule}
use Rattle.kube_objects.specs.declared.rules.ReleaseRule.TheVariants as rule
use Rattle.run_edge.specs.Outcome.{Reply}
use Rattle.lens_room.specs.Lines.{margin_line, verdict_text}
use Rattle.lens_room.specs.Replies.{verdict_of}
use Rattle.lens_room.specs.declared.by_flags.flag.Flag.{Flag}
use Rattle.lens_room.specs.declared.by_flags.flag.Flag.TheVariants.{Lease, Renew, Retry, Timeout, Skew, Beat}
use Rattle.lens_room.specs.declared.by_flags.flags.Flags.{Flags}
use Rattle.lens_room.specs.declared.by_flags.wrong.Wrong.{Wrong}
use Rattle.lens_room.specs.declared.by_flags.wrong.Wrong.TheVariants.{Words, LongRenew, LongRetry, LongTimeout, NoRelease}
use Rattle.lens_room.specs.declared.by_flags.setting.Setting.{Setting}
use Rattle.lens_room.specs.declared.by_flags.setting.Setting.TheVariants.{Number, Release, InRelease}
use Rattle.lens_room.specs.Flags.{timeout_of, acting_word, flags_of}
use Rattle.lens_room.specs.FlagJson.{settings_json}
use Rattle.lens_room.specs.FlagLaws.{holds, flags_margin, greatest_skew}
use Rattle.lens_room.specs.Words.{misread_text, misused as misused_by}

-- ---- settings

-- whether a timeout is the renew deadline, as none is given
abbrev pub origin_text : Option ℕ → List ℕ
origin_text None = codes "(renew-deadline)"
origin_text (Some millis) = []

unfoldable pub named_text : List ℕ → ReleaseActing → List ℕ
named_text word in_release = codes " release=" ++ word ++ codes " in-release=" ++ acting_word in_release

-- releases, where they aren't those of stops alone
abbrev pub release_text : ReleaseRule → ReleaseActing → List ℕ
release_text rule.Stop in_release = []
release_text rule.Own in_release = named_text (codes "own") in_release
release_text rule.Checked in_release = named_text (codes "checked") in_release
release_text rule.Reread in_release = named_text (codes "reread") in_release

unfoldable pub taken_text : Flags → List ℕ
taken_text flags =
    codes "timeout=" ++ decimal (timeout_of flags) ++ codes "ms" ++ origin_text flags.timeout_millis
    ++ codes " skew=" ++ decimal flags.skew_ppm ++ codes "ppm" ++ release_text flags.release flags.in_release

unfoldable pub ppm_text : ℕ → List ℕ
ppm_text ppm = codes "greatest-skew=" ++ decimal ppm ++ codes "ppm\n"

abbrev pub skew_text : Option ℕ → List ℕ
skew_text None = codes "greatest-skew=none\n"
skew_text (Some ppm) = ppm_text ppm

-- the line that says why no lease is enough
abbrev pub late_text : ReleaseActing → List ℕ
late_text acting.Still = []
late_text acting.Acts = codes "late-reply=any: no lease is enough, since a leader acts in its release until it has the answer; where each comes within 3 beats, one over must-exceed is\n"

-- what was taken for the call timeout, the skew and releases, the numbers, the greatest skew, and the verdict
unfoldable pub settings_text : Flags → List ℕ
settings_text flags =
    margin_line (taken_text flags) (flags_margin flags) ++ skew_text (greatest_skew flags) ++ late_text flags.in_release ++ verdict_text (holds flags)

-- in lines, or as one JSON object
abbrev pub told_text : Flags → List ℕ
told_text flags = if flags.as_json then settings_json flags else settings_text flags

abbrev pub told : Flags → Reply
told flags = record { verdict = verdict_of (holds flags); text = told_text flags }

-- ---- words that give none

abbrev pub name_text : Flag → List ℕ
name_text Lease = codes "--lease"
name_text Renew = codes "--renew"
name_text Retry = codes "--retry"
name_text Timeout = codes "--timeout"
name_text Skew = codes "--skew"
name_text Beat = codes "--beat"

abbrev pub values_text : Flag → List ℕ
values_text Lease = codes " takes whole seconds from 1s to 24h, as 15s or 1m30s, not "
values_text Renew = codes " takes a duration from 1ms to 24h, as 10s, 1m30s or 500ms, not "
values_text Retry = codes " takes a duration from 1ms to 24h, as 2s or 500ms, not "
values_text Timeout = codes " takes a duration from 1ms to 10m, as 5s or 500ms, not "
values_text Skew = codes " takes parts per million up to 500000ppm, as 20000ppm, not "
values_text Beat = codes " takes a duration from 1ms to 1s, as 100ms, not "

abbrev pub setting_text : Setting → List ℕ
setting_text (Number flag) = name_text flag
setting_text Release = codes "--release"
setting_text InRelease = codes "--in-release"

abbrev pub takes_text : Setting → List ℕ
takes_text (Number flag) = values_text flag
takes_text Release = codes " takes stop, own, checked or reread, not "
takes_text InRelease = codes " takes still or acts, not "

abbrev pub wrong_text : List (List ℕ) → Wrong → List ℕ
wrong_text words (Words misread) = misread_text setting_text takes_text words misread
wrong_text words LongRenew = codes "the renew deadline must be shorter than the lease"
wrong_text words LongRetry = codes "the retry period must be shorter than five sixths of the renew deadline"
wrong_text words LongTimeout = codes "a call timeout is at most 10m: give one by --timeout, or a shorter renew deadline"
wrong_text words NoRelease = codes "--in-release acts goes with --release own, checked or reread"

abbrev pub usage_line : List ℕ
usage_line = codes "usage: kube_lens margin [--lease 15s] [--renew 10s] [--retry 2s] [--timeout 10s] [--skew 0ppm] [--beat 100ms] [--release stop] [--in-release still] [--json]\n"

abbrev pub misused : List (List ℕ) → Wrong → Reply
misused words wrong = misused_by usage_line (wrong_text words wrong)

abbrev pub answered : List (List ℕ) → Result Flags Wrong → Reply
answered words (Ok flags) = told flags
answered words (Err wrong) = misused words wrong

-- what the words behind the command are answered
abbrev pub answer_to : List (List ℕ) → Reply
answer_to words = answered words (flags_of words)
