-- What words behind `tune` are answered.
use Rattle.std.specs.Prelude.{◌≡◌, ℕ, Bool, true, false, List, codes, Result, Ok, Err, if◌then◌else◌}
use Rattle.run_edge.specs.Outcome.{Outcome, Reply}
use Rattle.lens_room.specs.Replies.{verdict_of}
use Rattle.lens_room.specs.Words.{misread_text, misused as misused_by}
use Rattle.lens_plan.specs.declared.fault.Fault.{Fault}
use Rattle.lens_plan.specs.declared.fault.Fault.TheVariants.{Words, NoFailover}
use Rattle.lens_plan.specs.declared.found.Found.{Found}
use Rattle.lens_plan.specs.declared.found.Found.TheVariants.{Fitting, Later, Never}
use Rattle.lens_plan.specs.declared.setting.Setting.{Setting}
use Rattle.lens_plan.specs.declared.setting.Setting.TheVariants.{Failover, Timeout, Skew, WaitFactor, Stall, Delay, LeastRetry, Beat}
use Rattle.lens_plan.specs.declared.wanted.Wanted.{Wanted}
use Rattle.lens_plan.specs.Found.{IsFound}
use Rattle.lens_plan.specs.Lines.{found_text}
use Rattle.lens_plan.specs.Objects.{found_json}
use Rattle.lens_plan.specs.Words.{wanted_of}

-- ---- what is found

abbrev pub is_fitting : Found → Bool
is_fitting (Fitting p) = true
is_fitting (Later least) = false
is_fitting Never = false

-- in lines, or as one JSON object
abbrev pub told_text : Wanted → Found → List ℕ
told_text wanted found = if wanted.as_json then found_json wanted.wish found else found_text wanted.wish found

-- it ends well exactly where a plan fits
abbrev pub told : Wanted → Found → Reply
told wanted found = record { verdict = verdict_of (is_fitting found); text = told_text wanted found }

abbrev pub IsTold : Wanted → Reply → Type 0
IsTold wanted reply = (found : Found) × IsFound wanted.wish found × (reply ≡ told wanted found)

-- ---- words that want nothing

abbrev pub setting_text : Setting → List ℕ
setting_text Failover = codes "--failover"
setting_text Timeout = codes "--timeout"
setting_text Skew = codes "--skew"
setting_text WaitFactor = codes "--wait-factor"
setting_text Stall = codes "--stall"
setting_text Delay = codes "--delay"
setting_text LeastRetry = codes "--least-retry"
setting_text Beat = codes "--beat"

abbrev pub takes_text : Setting → List ℕ
takes_text Failover = codes " takes a duration from 1ms to 24h, as 10s, not "
takes_text Timeout = codes " takes a duration from 1ms to 10m, as 3s, or half, not "
takes_text Skew = codes " takes a percentage up to 50% or parts per million up to 500000ppm, as 1% or 500ppm, not "
takes_text WaitFactor = codes " takes a number from 1 to 10 with at most two decimals, as 2.2, not "
takes_text Stall = codes " takes a duration from 0s to 24h, as 2s, not "
takes_text Delay = codes " takes a duration from 1ms to 10m, as 100ms, not "
takes_text LeastRetry = codes " takes tenths of a second from 100ms to 24h, as 500ms or 2s, not "
takes_text Beat = codes " takes a duration from 1ms to 1s, as 10ms, not "

abbrev pub fault_text : List (List ℕ) → Fault → List ℕ
fault_text words (Words misread) = misread_text setting_text takes_text words misread
fault_text words NoFailover = codes "--failover has to be given, as --failover 10s"

abbrev pub usage_line : List ℕ
usage_line = codes "usage: kube_lens tune --failover 10s [--timeout 10s|half] [--skew 0ppm] [--wait-factor 2.2] [--stall 0s] [--delay 100ms] [--least-retry 100ms] [--beat 10ms] [--json]\n"

abbrev pub misused : List (List ℕ) → Fault → Reply
misused words fault = misused_by usage_line (fault_text words fault)

-- ---- all words

abbrev pub IsAnswerBy : List (List ℕ) → Result Wanted Fault → Reply → Type 0
IsAnswerBy words (Ok wanted) reply = IsTold wanted reply
IsAnswerBy words (Err fault) reply = reply ≡ misused words fault

-- what words behind the command are answered: there is one such answer, as one plan alone is the greatest
abbrev pub IsAnswer : List (List ℕ) → Reply → Type 0
IsAnswer words = IsAnswerBy words (wanted_of words)

-- the source isn't read
abbrev pub Answers : List (List ℕ) → List ℕ → Outcome → Type 0
Answers words bytes o = IsAnswer words o.reply × (o.left ≡ bytes)
