-- The words of rules: a text under a key, or the default. Source: profile.
use Rattle.std.specs.Prelude.{ℕ, List, codes, Option, Some, None, Result, if◌then◌else◌}
use Rattle.std.specs.Str.{bytes_eq}
use Rattle.serde_json.specs.Data.{Data}
use Rattle.serde_json.specs.Find.{get}
use Rattle.kube_objects.specs.declared.rules.BucketRule.{BucketRule}
use Rattle.kube_objects.specs.declared.rules.BucketRule.TheVariants as bucket_words
use Rattle.kube_objects.specs.declared.rules.EvictRule.{EvictRule}
use Rattle.kube_objects.specs.declared.rules.EvictRule.TheVariants as evict_from_words
use Rattle.kube_objects.specs.declared.rules.JudgeRule.{JudgeRule}
use Rattle.kube_objects.specs.declared.rules.JudgeRule.TheVariants as judge_words
use Rattle.kube_objects.specs.declared.rules.ProbeRule.{ProbeRule}
use Rattle.kube_objects.specs.declared.rules.ProbeRule.TheVariants as probe_words
use Rattle.kube_objects.specs.declared.rules.QueueRule.{QueueRule}
use Rattle.kube_objects.specs.declared.rules.QueueRule.TheVariants as queue_words
use Rattle.kube_objects.specs.declared.rules.ReleaseActing.{ReleaseActing}
use Rattle.kube_objects.specs.declared.rules.ReleaseActing.TheVariants as in_release_words
use Rattle.kube_objects.specs.declared.rules.ReleaseRule.{ReleaseRule}
use Rattle.kube_objects.specs.declared.rules.ReleaseRule.TheVariants as release_words
use Rattle.kube_objects.specs.declared.rules.RespectRule.{RespectRule}
use Rattle.kube_objects.specs.declared.rules.RespectRule.TheVariants as respect_words
use Rattle.kube_objects.specs.declared.rules.RetryRule.{RetryRule}
use Rattle.kube_objects.specs.declared.rules.RetryRule.TheVariants as retries_words
use Rattle.kube_objects.specs.declared.rules.SightRule.{SightRule}
use Rattle.kube_objects.specs.declared.rules.SightRule.TheVariants as first_sight_words
use Rattle.manifest_json.specs.declared.codes.TheConstants.{OUT_OF_RANGE}
use Rattle.manifest_json.specs.declared.fault.Refusal.{Refusal}
use Rattle.manifest_json.specs.Faults.{◌>>=◌}
use Rattle.manifest_json.specs.Fields.{or_refuse}
use Rattle.script_reader.specs.declared.choice.Preset.{Preset}
use Rattle.script_reader.specs.declared.choice.Preset.TheVariants as preset_words
use Rattle.script_reader.specs.Fields.{under, default_of, text_in}

-- the value of a word
abbrev pub choice_in : {A : Type 0} → (List ℕ → Option A) → List ℕ → Data → Result A Refusal
choice_in of path d = text_in path d >>= λ text. or_refuse (of text) OUT_OF_RANGE path

-- the value of the word under a key, or the default
abbrev pub choice_at : {A : Type 0} → (List ℕ → Option A) → A → List ℕ → List ℕ → Data → Result A Refusal
choice_at of default path key d = default_of default (choice_in of (under path key)) (get key d)

abbrev pub preset_of : List ℕ → Option Preset
preset_of text =
    if bytes_eq text (codes "own") then Some preset_words.Own
    else (if bytes_eq text (codes "1.20") then Some preset_words.Upstream120
    else (if bytes_eq text (codes "1.36") then Some preset_words.Upstream136 else None))

abbrev pub preset_at : List ℕ → Data → Result Preset Refusal
preset_at path d = choice_at preset_of preset_words.Own path (codes "rules") d

abbrev pub retries_of : List ℕ → Option RetryRule
retries_of text =
    if bytes_eq text (codes "after") then Some retries_words.After
    else (if bytes_eq text (codes "grid") then Some retries_words.Grid
    else (if bytes_eq text (codes "ticks") then Some retries_words.Ticks else None))

abbrev pub respect_of : List ℕ → Option RespectRule
respect_of text =
    if bytes_eq text (codes "record") then Some respect_words.Record
    else (if bytes_eq text (codes "own") then Some respect_words.Own else None)

abbrev pub probe_of : List ℕ → Option ProbeRule
probe_of text =
    if bytes_eq text (codes "run") then Some probe_words.Run
    else (if bytes_eq text (codes "record") then Some probe_words.Record else None)

abbrev pub judge_of : List ℕ → Option JudgeRule
judge_of text =
    if bytes_eq text (codes "tick") then Some judge_words.Tick
    else (if bytes_eq text (codes "pass") then Some judge_words.Pass else None)

abbrev pub first_sight_of : List ℕ → Option SightRule
first_sight_of text =
    if bytes_eq text (codes "keep") then Some first_sight_words.Keep
    else (if bytes_eq text (codes "strip") then Some first_sight_words.Strip else None)

abbrev pub queue_of : List ℕ → Option QueueRule
queue_of text =
    if bytes_eq text (codes "once") then Some queue_words.Once
    else (if bytes_eq text (codes "again") then Some queue_words.Again else None)

abbrev pub bucket_of : List ℕ → Option BucketRule
bucket_of text =
    if bytes_eq text (codes "empty") then Some bucket_words.Empty
    else (if bytes_eq text (codes "full") then Some bucket_words.Full else None)

abbrev pub evict_from_of : List ℕ → Option EvictRule
evict_from_of text =
    if bytes_eq text (codes "added") then Some evict_from_words.Added
    else (if bytes_eq text (codes "seen") then Some evict_from_words.Seen else None)

abbrev pub release_of : List ℕ → Option ReleaseRule
release_of text =
    if bytes_eq text (codes "stop") then Some release_words.Stop
    else (if bytes_eq text (codes "own") then Some release_words.Own
    else (if bytes_eq text (codes "checked") then Some release_words.Checked
    else (if bytes_eq text (codes "reread") then Some release_words.Reread else None)))

abbrev pub in_release_of : List ℕ → Option ReleaseActing
in_release_of text =
    if bytes_eq text (codes "still") then Some in_release_words.Still
    else (if bytes_eq text (codes "acts") then Some in_release_words.Acts else None)
