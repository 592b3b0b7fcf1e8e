-- The keys of each object of a document. Source: profile.
use Rattle.std.specs.Prelude.{ℕ, ◌&&◌, ◌||◌, Bool, true, false, List, codes, Option, Some, None, Result, Ok, if◌then◌else◌}
use Rattle.std.specs.Str.{bytes_eq}
use Rattle.serde_json.specs.Data.{Data, Members, no_members, member}
use Rattle.serde_json.specs.Find.{as_object}
use Rattle.manifest_json.specs.declared.codes.TheConstants.{UNKNOWN_KEY}
use Rattle.manifest_json.specs.declared.fault.Refusal.{Refusal}
use Rattle.manifest_json.specs.Faults.{refuse}
use Rattle.script_reader.specs.declared.table.EventType.{EventType}
use Rattle.script_reader.specs.declared.table.EventType.TheVariants as types
use Rattle.script_reader.specs.declared.table.Table.{Table}
use Rattle.script_reader.specs.declared.table.Table.TheVariants as tables
use Rattle.script_reader.specs.declared.table.Version.{Version}
use Rattle.script_reader.specs.declared.table.Version.TheVariants as versions

-- version 2 or a later one
abbrev pub is_from_two : Version → Bool
is_from_two versions.One = false
is_from_two versions.Two = true
is_from_two versions.Three = true
is_from_two versions.Four = true

-- version 3 or a later one
abbrev pub is_from_three : Version → Bool
is_from_three versions.One = false
is_from_three versions.Two = false
is_from_three versions.Three = true
is_from_three versions.Four = true

abbrev pub is_four : Version → Bool
is_four versions.One = false
is_four versions.Two = false
is_four versions.Three = false
is_four versions.Four = true

-- the top, which has sets of pods or not
abbrev pub is_top_key : Bool → List ℕ → Bool
is_top_key sets key =
    bytes_eq key (codes "version") || bytes_eq key (codes "settings") || bytes_eq key (codes "controllers")
    || bytes_eq key (codes "kubelets") || bytes_eq key (codes "objects") || bytes_eq key (codes "events")
    || (sets && bytes_eq key (codes "podSets"))

abbrev pub is_beats_key : List ℕ → Bool
is_beats_key key = bytes_eq key (codes "beatMillis") || bytes_eq key (codes "endBeat") || bytes_eq key (codes "epoch")

abbrev pub is_timings_key : List ℕ → Bool
is_timings_key key =
    bytes_eq key (codes "leaseDurationSeconds") || bytes_eq key (codes "renewDeadlineMillis")
    || bytes_eq key (codes "retryPeriodMillis") || bytes_eq key (codes "callTimeoutMillis")

abbrev pub is_periods_key : List ℕ → Bool
is_periods_key key =
    bytes_eq key (codes "restartMillis") || bytes_eq key (codes "monitorPeriodMillis") || bytes_eq key (codes "gracePeriodMillis")
    || bytes_eq key (codes "startupGraceMillis") || bytes_eq key (codes "nodeLeaseDurationSeconds")

abbrev pub is_rates_key : List ℕ → Bool
is_rates_key key =
    bytes_eq key (codes "primaryRate") || bytes_eq key (codes "secondaryRate") || bytes_eq key (codes "largeZone")
    || bytes_eq key (codes "unhealthyPercent")

abbrev pub is_judging_key : List ℕ → Bool
is_judging_key key =
    bytes_eq key (codes "rules") || bytes_eq key (codes "retries") || bytes_eq key (codes "respect")
    || bytes_eq key (codes "firstSyncMillis") || bytes_eq key (codes "probe") || bytes_eq key (codes "judge")
    || bytes_eq key (codes "firstSight")

abbrev pub is_tainting_key : List ℕ → Bool
is_tainting_key key =
    bytes_eq key (codes "queue") || bytes_eq key (codes "bucket") || bytes_eq key (codes "evictFrom")
    || bytes_eq key (codes "evictBurst") || bytes_eq key (codes "evictRate")

abbrev pub is_ending_key : List ℕ → Bool
is_ending_key key =
    bytes_eq key (codes "release") || bytes_eq key (codes "inRelease") || bytes_eq key (codes "readyMillis")
    || bytes_eq key (codes "readyBurst")

-- where upstream Kubernetes does otherwise
abbrev pub is_rules_key : List ℕ → Bool
is_rules_key key = is_judging_key key || is_tainting_key key || is_ending_key key

abbrev pub is_settings_key : Version → List ℕ → Bool
is_settings_key version key =
    is_beats_key key || is_timings_key key || is_periods_key key || is_rates_key key || bytes_eq key (codes "fastRenew")
    || (is_from_two version && bytes_eq key (codes "ratePolicy")) || (is_four version && is_rules_key key)

abbrev pub is_clock_key : List ℕ → Bool
is_clock_key key = bytes_eq key (codes "ratePpm") || bytes_eq key (codes "offsetMillis") || bytes_eq key (codes "up")

abbrev pub is_controller_key : Version → List ℕ → Bool
is_controller_key version key =
    bytes_eq key (codes "name") || is_clock_key key || bytes_eq key (codes "watch") || (is_from_two version && is_timings_key key)
    || (is_four version && bytes_eq key (codes "waits"))

abbrev pub is_kubelet_key : List ℕ → Bool
is_kubelet_key key = bytes_eq key (codes "node") || is_clock_key key || bytes_eq key (codes "ready")

abbrev pub is_set_key : List ℕ → Bool
is_set_key key =
    bytes_eq key (codes "namespace") || bytes_eq key (codes "name") || bytes_eq key (codes "tolerations") || bytes_eq key (codes "on")

abbrev pub is_share_key : List ℕ → Bool
is_share_key key = bytes_eq key (codes "node") || bytes_eq key (codes "pods")

-- a key of an event of this type, beside its beat and type
abbrev pub is_type_key : EventType → List ℕ → Bool
is_type_key types.Rate key = bytes_eq key (codes "process") || bytes_eq key (codes "ratePpm")
is_type_key types.Delay key = bytes_eq key (codes "process") || bytes_eq key (codes "requestBeats") || bytes_eq key (codes "replyBeats")
is_type_key types.Loss key = bytes_eq key (codes "process") || bytes_eq key (codes "requests") || bytes_eq key (codes "replies")
is_type_key types.Crash key = bytes_eq key (codes "process")
is_type_key types.Start key = bytes_eq key (codes "process")
is_type_key types.Stop key = bytes_eq key (codes "process")
is_type_key types.Watch key = bytes_eq key (codes "process") || bytes_eq key (codes "on")
is_type_key types.Ready key = bytes_eq key (codes "process") || bytes_eq key (codes "status")
is_type_key types.Pause key = bytes_eq key (codes "process") || bytes_eq key (codes "beats")
is_type_key types.Stall key = bytes_eq key (codes "beats")
is_type_key types.Put key = bytes_eq key (codes "object")
is_type_key types.Remove key = bytes_eq key (codes "kind") || bytes_eq key (codes "namespace") || bytes_eq key (codes "name")

abbrev pub is_key_of : Table → List ℕ → Bool
is_key_of (tables.Top sets) key = is_top_key sets key
is_key_of (tables.Settings version) key = is_settings_key version key
is_key_of (tables.Controller version) key = is_controller_key version key
is_key_of tables.Kubelet key = is_kubelet_key key
is_key_of tables.PodSet key = is_set_key key
is_key_of tables.Share key = is_share_key key
is_key_of (tables.Event kind) key = bytes_eq key (codes "beat") || bytes_eq key (codes "type") || is_type_key kind key

-- the keys of these members are among a table's
abbrev pub all_known : (List ℕ → Bool) → Members → Bool
all_known is_key no_members = true
all_known is_key (member key d ms) = is_key key && all_known is_key ms

abbrev pub knows_members : (List ℕ → Bool) → Option Members → Bool
knows_members is_key None = true
knows_members is_key (Some ms) = all_known is_key ms

-- the value has no key but a table's
abbrev pub known_by : (List ℕ → Bool) → List ℕ → Data → Result Data Refusal
known_by is_key path d = if knows_members is_key (as_object d) then Ok d else refuse UNKNOWN_KEY path

abbrev pub known_in : Table → List ℕ → Data → Result Data Refusal
known_in table = known_by (is_key_of table)
