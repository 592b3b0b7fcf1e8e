-- What words behind `bounds` are answered.
use Rattle.serde_json.specs.Written.{compact_text}
use Rattle.std.specs.Prelude.{ℕ, Bool, List, [], ◌++◌, codes, Result, Ok, Err, if◌then◌else◌}
use Rattle.lens_bounds.specs.declared.elections.Election.{Election}
use Rattle.lens_bounds.specs.Elections.{election_of, stay}
use Rattle.lens_bounds.specs.Outages.{until_unknown, until_tainted, until_gone}
use Rattle.run_edge.specs.Outcome.{Reply}
use Rattle.lens_json.specs.Members.{Named, object_of}
use Rattle.lens_room.specs.FlagLaws.{holds}
use Rattle.lens_room.specs.FlagReplies.{name_text, values_text, wrong_text}
use Rattle.lens_room.specs.Replies.{verdict_of}
use Rattle.lens_room.specs.Words.{misread_text, misused as misused_by}
use Rattle.lens_calm.specs.declared.fault.Fault.{Fault}
use Rattle.lens_calm.specs.declared.fault.Fault.TheVariants.{Words, Unruly, ShortWait, ShortDelay}
use Rattle.lens_calm.specs.declared.setting.Setting.{Setting}
use Rattle.lens_calm.specs.declared.setting.Setting.TheVariants.{Election as ElectionFlag, Wait, Delay, LeastDelay, Grace, Monitor, NodeLease, Rate, Ahead, Toleration}
use Rattle.lens_calm.specs.declared.settings.Settings.{Settings}
use Rattle.lens_calm.specs.Lines.{taken_text, election_text, unknown_line, tainted_line, gone_line, stays_text}
use Rattle.lens_calm.specs.Objects.{taken_members, timing_members, election_members, node_members, pod_members, end_members}
use Rattle.lens_calm.specs.Settings.{calm_of, leader_of, controllers_of, outage_of}
use Rattle.lens_calm.specs.Words.{settings_of}

-- ---- settings

abbrev pub election_in : Settings → Election
election_in s = election_of (calm_of s) 0 (leader_of s) (controllers_of s)

-- whether a leader stays
abbrev pub stays_in : Settings → Bool
stays_in s = stay (calm_of s) (controllers_of s)

unfoldable pub settings_text : Settings → List ℕ
settings_text s =
    taken_text s ++ election_text [] (holds s.flags) (election_in s) ++ unknown_line (until_unknown (outage_of s))
    ++ tainted_line s.ahead (until_tainted (outage_of s)) ++ gone_line s.toleration_seconds (until_gone (outage_of s) s.toleration_seconds) ++ stays_text (stays_in s)

abbrev pub settings_members : Settings → List Named
settings_members s =
    taken_members s ++ timing_members s ++ election_members (election_in s) ++ node_members s.ahead (until_unknown (outage_of s)) (until_tainted (outage_of s))
    ++ pod_members s.toleration_seconds (until_gone (outage_of s) s.toleration_seconds) ++ end_members (stays_in s) (holds s.flags)

unfoldable pub settings_json : Settings → List ℕ
settings_json s = compact_text (object_of (settings_members s)) ++ codes "\n"

-- in lines, or as one JSON object
abbrev pub told_text : Settings → List ℕ
told_text s = if s.flags.as_json then settings_json s else settings_text s

-- it ends well exactly where a leader stays
abbrev pub told : Settings → Reply
told s = record { verdict = verdict_of (stays_in s); text = told_text s }

-- ---- words that give none

abbrev pub setting_text : Setting → List ℕ
setting_text (ElectionFlag flag) = name_text flag
setting_text Wait = codes "--wait"
setting_text Delay = codes "--delay"
setting_text LeastDelay = codes "--least-delay"
setting_text Grace = codes "--grace"
setting_text Monitor = codes "--monitor"
setting_text NodeLease = codes "--node-lease"
setting_text Rate = codes "--rate"
setting_text Ahead = codes "--ahead"
setting_text Toleration = codes "--toleration"

abbrev pub takes_text : Setting → List ℕ
takes_text (ElectionFlag flag) = values_text flag
takes_text Wait = codes " takes a duration from 1ms to 24h, as 4400ms, not "
takes_text Delay = codes " takes a duration from 1ms to 10m, as 100ms, not "
takes_text LeastDelay = codes " takes a duration from 1ms to 10m, as 10ms, not "
takes_text Grace = codes " takes a duration from 1ms to 24h, as 40s, not "
takes_text Monitor = codes " takes a duration from 1ms to 24h, as 5s, not "
takes_text NodeLease = codes " takes whole seconds from 1s to 24h, as 40s, not "
takes_text Rate = codes " takes nodes per 1,000 s up to 1000000, as 100, not "
takes_text Ahead = codes " takes a number up to 1000000, as 3, not "
takes_text Toleration = codes " takes whole seconds from 0s to 24h, as 300s, not "

abbrev pub fault_text : List (List ℕ) → Fault → List ℕ
fault_text words (Words misread) = misread_text setting_text takes_text words misread
fault_text words (Unruly wrong) = wrong_text words wrong
fault_text words ShortWait = codes "the longest wait must not be shorter than the retry period"
fault_text words ShortDelay = codes "the delay must not be shorter than the least delay"

abbrev pub usage_line : List ℕ
usage_line = codes "usage: kube_lens bounds [--lease 15s] [--renew 10s] [--retry 2s] [--timeout 10s] [--skew 0ppm] [--beat 10ms] [--wait 2s] [--delay 100ms] [--least-delay 10ms] [--grace 40s] [--monitor 5s] [--node-lease 40s] [--rate 100] [--ahead 0] [--toleration 300s] [--json]\n"

abbrev pub misused : List (List ℕ) → Fault → Reply
misused words fault = misused_by usage_line (fault_text words fault)

abbrev pub answered : List (List ℕ) → Result Settings Fault → Reply
answered words (Ok s) = told s
answered words (Err fault) = misused words fault

-- what words behind the command are answered
abbrev pub answer_to : List (List ℕ) → Reply
answer_to words = answered words (settings_of words)
