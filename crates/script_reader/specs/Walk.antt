-- The walk of a document: the document with its defaults, or the first refusal. An object's keys are looked at in this order: first
-- whether one is unknown, then each in the order of its table, then the object's own rule. Source: profile.
use Rattle.std.specs.Prelude.{ℕ, ◌+◌, ◌*◌, ◌==◌, ◌&&◌, ◌||◌, nat_le, nat_lt, Bool, true, false, List, [], ◌∷◌, ◌++◌, map, length}
use Rattle.std.specs.Prelude.{take, drop, codes, Option, Some, None, option_and_then, Result, Ok, ℤ, pos, negsuc, if◌then◌else◌}
use Rattle.std.specs.List.{list_any}
use Rattle.std.specs.Option.{option_map}
use Rattle.std.specs.Str.{bytes_eq, is_utf8}
use Rattle.serde_json.specs.Data.{Data, Items, no_items, item}
use Rattle.serde_json.specs.Find.{get, as_number, as_u64, as_i64}
use Rattle.serde_json.specs.Read.{read}
use Rattle.kube_base.specs.Names.{fixed_names}
use Rattle.kube_base.specs.declared.numbers.Beat.{Beat}
use Rattle.kube_base.specs.declared.numbers.ProcId.{ProcId}
use Rattle.kube_objects.specs.Keys.{key_eq}
use Rattle.kube_objects.specs.Pauses.{pause_of}
use Rattle.kube_objects.specs.Stalls.{stall_of}
use Rattle.kube_objects.specs.Stored.{election}
use Rattle.kube_objects.specs.declared.key.Key.{Key}
use Rattle.kube_objects.specs.declared.key.Kind.{Kind}
use Rattle.kube_objects.specs.declared.key.Kind.TheVariants as kinds
use Rattle.kube_objects.specs.declared.node.ReadyStatus.{ReadyStatus}
use Rattle.kube_objects.specs.declared.node.ReadyStatus.TheVariants as statuses
use Rattle.kube_objects.specs.declared.object.Object.{Object}
use Rattle.kube_objects.specs.declared.script.Event.{Event}
use Rattle.kube_objects.specs.declared.script.Proc.{Proc}
use Rattle.kube_objects.specs.declared.script.What.{What}
use Rattle.kube_objects.specs.declared.script.What.TheVariants as whats
use Rattle.kube_objects.specs.declared.settings.RatePolicy.{RatePolicy}
use Rattle.kube_objects.specs.declared.rules.Rules.{Rules}
use Rattle.kube_objects.specs.declared.settings.Settings.{Settings}
use Rattle.manifest_json.specs.declared.codes.TheConstants.{BAD_JSON, BAD_SETTINGS, DUPLICATE, ELECTION_LEASE_EDIT, EVENT_ORDER}
use Rattle.manifest_json.specs.declared.codes.TheConstants.{OUT_OF_RANGE, TOP_SHAPE, UNKNOWN_PROCESS, WRONG_TYPE}
use Rattle.manifest_json.specs.declared.fault.Refusal.{Refusal}
use Rattle.manifest_json.specs.declared.list.Objects.{Objects}
use Rattle.manifest_json.specs.Faults.{◌>>=◌, refuse}
use Rattle.manifest_json.specs.Fields.{Texts, or_refuse, numbered}
use Rattle.manifest_json.specs.Walk.{list_walk, object_walk, member_path, process_of}
use Rattle.script_reader.specs.declared.choice.Preset.{Preset}
use Rattle.script_reader.specs.declared.choice.Preset.TheVariants as presets
use Rattle.script_reader.specs.declared.document.Document.{Document}
use Rattle.script_reader.specs.declared.parts.Beats.{Beats}
use Rattle.script_reader.specs.declared.parts.Clock.{Clock}
use Rattle.script_reader.specs.declared.parts.Periods.{Periods}
use Rattle.script_reader.specs.declared.parts.Rates.{Rates}
use Rattle.script_reader.specs.declared.parts.Scope.{Scope}
use Rattle.script_reader.specs.declared.parts.Timings.{Timings}
use Rattle.script_reader.specs.declared.table.EventType.{EventType}
use Rattle.script_reader.specs.declared.table.EventType.TheVariants as types
use Rattle.script_reader.specs.declared.table.Table.{Table}
use Rattle.script_reader.specs.declared.table.Table.TheVariants as tables
use Rattle.script_reader.specs.declared.table.Version.{Version}
use Rattle.script_reader.specs.declared.table.Version.TheVariants as versions
use Rattle.script_reader.specs.declared.cast.Sort.{Sort}
use Rattle.script_reader.specs.declared.cast.Sort.TheVariants as sorts
use Rattle.script_reader.specs.Fields.{under, default_of, required, whole_at, needed_whole, signed_at, flag_at, needed_flag}
use Rattle.script_reader.specs.Fields.{needed_text, needed_name, name_at, posted_at, needed_posted, policy_at, epoch_at}
use Rattle.script_reader.specs.Choices.{preset_at}
use Rattle.script_reader.specs.Fields.{object_at, array_in, not_empty}
use Rattle.script_reader.specs.Limits.{scale_of, kubelet_limit, event_limit}
use Rattle.script_reader.specs.Rules.{rules_at, agree}
use Rattle.script_reader.specs.Sets.{sets_in}
use Rattle.script_reader.specs.Tables.{known_in, is_from_three, is_four}
use Rattle.script_reader.specs.Waits.{waits_at}

-- an object with no key that its table doesn't have
unfoldable pub object_in : Table → List ℕ → Data → Result Data Refusal
object_in table path value = do
  d ← object_at WRONG_TYPE path value
  known_in table path d

-- ---- settings

-- the last beat, which is at most a week after the first
abbrev pub if_end : List ℕ → ℕ → ℕ → Result Beat Refusal
if_end path millis end = if nat_lt 604_800_000 (end * millis) then refuse OUT_OF_RANGE path else Ok (record { 0 = end })

unfoldable pub beats_at : List ℕ → Data → Result Beats Refusal
beats_at path d = do
  millis ← whole_at 100 1 1_000 path (codes "beatMillis") d
  number ← needed_whole 0 604_800_000 path (codes "endBeat") d
  end ← if_end (under path (codes "endBeat")) millis number
  epoch ← epoch_at path (codes "epoch") d
  Ok (record { millis = millis; end = end; epoch = epoch })

-- the timings of leader election, each with its default
unfoldable pub timings_at : Timings → List ℕ → Data → Result Timings Refusal
timings_at default path d = do
  lease ← whole_at default.lease_seconds 1 86_400 path (codes "leaseDurationSeconds") d
  renew ← whole_at default.renew_millis 1 86_400_000 path (codes "renewDeadlineMillis") d
  retry ← whole_at default.retry_millis 1 86_400_000 path (codes "retryPeriodMillis") d
  timeout ← whole_at default.timeout_millis 1 600_000 path (codes "callTimeoutMillis") d
  Ok (record { lease_seconds = lease; renew_millis = renew; retry_millis = retry; timeout_millis = timeout })

-- the defaults of kube-controller-manager's leader election
abbrev pub standard : Timings
standard = record { lease_seconds = 15; renew_millis = 10_000; retry_millis = 2_000; timeout_millis = 2_000 }

unfoldable pub periods_at : List ℕ → Data → Result Periods Refusal
periods_at path d = do
  restart ← whole_at 1_000 1 86_400_000 path (codes "restartMillis") d
  monitor ← whole_at 5_000 1 604_800_000 path (codes "monitorPeriodMillis") d
  grace ← whole_at 40_000 1 604_800_000 path (codes "gracePeriodMillis") d
  startup ← whole_at 60_000 1 604_800_000 path (codes "startupGraceMillis") d
  lease ← whole_at 40 1 86_400 path (codes "nodeLeaseDurationSeconds") d
  Ok (record {
    restart_millis = restart;
    monitor_millis = monitor;
    grace_millis = grace;
    startup_millis = startup;
    node_lease_seconds = lease;
  })

unfoldable pub rates_at : List ℕ → Data → Result Rates Refusal
rates_at path d = do
  primary ← whole_at 100 0 1_000_000 path (codes "primaryRate") d
  secondary ← whole_at 10 0 1_000_000 path (codes "secondaryRate") d
  large ← whole_at 50 0 1_000_000 path (codes "largeZone") d
  percent ← whole_at 55 0 100 path (codes "unhealthyPercent") d
  Ok (record { primary = primary; secondary = secondary; large_zone = large; unhealthy_percent = percent })

-- the lease outlasts the renew deadline, and that outlasts the retry period by more than a fifth of it
abbrev pub is_sound : Timings → Bool
is_sound t = nat_lt t.renew_millis (t.lease_seconds * 1_000) && nat_lt (6 * t.retry_millis) (5 * t.renew_millis)

abbrev pub settings_of : Beats → Timings → Periods → Rates → Bool → RatePolicy → Rules → Settings
settings_of b t p r fast policy rules = record {
  beat_millis = b.millis;
  end_beat = b.end;
  epoch = b.epoch;
  lease_duration_seconds = t.lease_seconds;
  renew_deadline_millis = t.renew_millis;
  retry_period_millis = t.retry_millis;
  call_timeout_millis = t.timeout_millis;
  restart_millis = p.restart_millis;
  monitor_period_millis = p.monitor_millis;
  grace_period_millis = p.grace_millis;
  startup_grace_millis = p.startup_millis;
  node_lease_duration_seconds = p.node_lease_seconds;
  primary_rate = r.primary;
  secondary_rate = r.secondary;
  large_zone = r.large_zone;
  unhealthy_percent = r.unhealthy_percent;
  fast_renew = fast;
  rate_policy = policy;
  rules = rules;
}

-- the own rule of settings
abbrev pub if_sound : List ℕ → Timings → Rates → Settings → Result Settings Refusal
if_sound path t r settings =
    if is_sound t && nat_le r.secondary r.primary && agree settings.rules then Ok settings else refuse BAD_SETTINGS path

-- whether leaders renew without a Get where no key says so: those of Kubernetes 1.36 do
abbrev pub renews_fast : Preset → Bool
renews_fast presets.Upstream136 = true
renews_fast _ = false

-- given is what the key says, where it is there
abbrev pub fast_renew_of : Bool → Preset → Option Data → Bool
fast_renew_of given preset None = renews_fast preset
fast_renew_of given preset (Some found) = given

-- settings, and their preset; in version 1 `ratePolicy` is an unknown key, so it has its default there, and up to version 3 the rules are
unfoldable pub settings_at : Version → List ℕ → Data → Result (Settings × Preset) Refusal
settings_at version path value = do
  d ← object_in (tables.Settings version) path value
  beats ← beats_at path d
  timings ← timings_at standard path d
  periods ← periods_at path d
  rates ← rates_at path d
  given ← flag_at false path (codes "fastRenew") d
  policy ← policy_at path (codes "ratePolicy") d
  preset ← preset_at path d
  rules ← rules_at preset path d
  settings ← if_sound path timings rates (settings_of beats timings periods rates (fast_renew_of given preset (get (codes "fastRenew") d)) policy rules)
  Ok (settings, preset)

-- ---- processes

-- the number of a process's name, which is required
unfoldable pub named_at : Texts → List ℕ → List ℕ → Data → Result (ℕ × Texts) Refusal
named_at names path key d = do
  text ← needed_name path key d
  numbered names text

unfoldable pub clock_at : List ℕ → Data → Result Clock Refusal
clock_at path d = do
  rate ← whole_at 1_000_000 500_000 2_000_000 path (codes "ratePpm") d
  offset ← signed_at (pos 0) (negsuc 31_535_999_999) (pos 31_536_000_000) path (codes "offsetMillis") d
  up ← flag_at true path (codes "up") d
  Ok (record { rate_ppm = rate; offset_millis = offset; up = up })

-- the timings of the settings
abbrev pub timings_of : Settings → Timings
timings_of s = record {
  lease_seconds = s.lease_duration_seconds;
  renew_millis = s.renew_deadline_millis;
  retry_millis = s.retry_period_millis;
  timeout_millis = s.call_timeout_millis;
}

abbrev pub proc_of : ℕ → Clock → Bool → ReadyStatus → Timings → Proc
proc_of name c watch ready t = record {
  name = name;
  rate_ppm = c.rate_ppm;
  offset_millis = c.offset_millis;
  up = c.up;
  watch = watch;
  ready = ready;
  lease_seconds = t.lease_seconds;
  renew_millis = t.renew_millis;
  retry_millis = t.retry_millis;
  timeout_millis = t.timeout_millis;
}

abbrev pub controller_of : ℕ → Clock → Bool → Timings → Proc
controller_of name c watch t = proc_of name c watch statuses.True t

-- one of these processes has this name
abbrev pub has_name : ℕ → List Proc → Bool
has_name name earlier = list_any (λ p. name == p.name) earlier

-- the own rules of a controller
abbrev pub if_controller : List ℕ → List Proc → ℕ → Timings → Proc → Texts → Result (Proc × Texts) Refusal
if_controller path earlier name t controller names =
    if has_name name earlier then refuse DUPLICATE (under path (codes "name"))
    else (if is_sound t then Ok (controller, names) else refuse BAD_SETTINGS path)

-- a controller with its waits; in version 1 the keys of its timings are unknown, so they are those of the settings
unfoldable pub controller_at : Version → Settings → Preset → Texts → List ℕ → List Proc → Data → Result ((Proc × List ℕ) × Texts) Refusal
controller_at version settings preset names path earlier value = do
  d ← object_in (tables.Controller version) path value
  name ← named_at names path (codes "name") d
  clock ← clock_at path d
  watch ← flag_at true path (codes "watch") d
  timings ← timings_at (timings_of settings) path d
  waits ← waits_at preset path d
  controller ← if_controller path earlier name.0 timings (controller_of name.0 clock watch timings) name.1
  Ok ((controller.0, waits), controller.1)

-- controllers, and the waits of each
abbrev pub Team : Type 0
Team = List Proc × List (List ℕ)

-- the controllers from a place on, behind earlier ones
unfoldable pub controllers_from : Version → Settings → Preset → Texts → ℕ → List Proc → List (List ℕ) → Items → Result (Team × Texts) Refusal
controllers_from version settings preset names place earlier waits no_items = Ok ((earlier, waits), names)
controllers_from version settings preset names place earlier waits (item d rest) = do
  next ← controller_at version settings preset names (member_path [] (codes "/controllers/") place) earlier d
  controllers_from version settings preset next.1 (place + 1) (earlier ++ next.0.0 ∷ []) (waits ++ next.0.1 ∷ []) rest

unfoldable pub controllers_in : Version → Settings → Preset → Texts → Data → Result (Team × Texts) Refusal
controllers_in version settings preset names d = do
  all ← array_in 16 (codes "/controllers") d
  some ← not_empty (codes "/controllers") all
  controllers_from version settings preset names 0 [] [] some

abbrev pub kubelet_of : ℕ → Clock → ReadyStatus → Timings → Proc
kubelet_of name c ready t = proc_of name c true ready t

-- the own rule of a kubelet
abbrev pub if_kubelet : List ℕ → List Proc → ℕ → Proc → Texts → Result (Proc × Texts) Refusal
if_kubelet path earlier name kubelet names =
    if has_name name earlier then refuse DUPLICATE (under path (codes "node")) else Ok (kubelet, names)

unfoldable pub kubelet_at : Settings → Texts → List ℕ → List Proc → Data → Result (Proc × Texts) Refusal
kubelet_at settings names path earlier value = do
  d ← object_in tables.Kubelet path value
  name ← named_at names path (codes "node") d
  clock ← clock_at path d
  ready ← posted_at path (codes "ready") d
  if_kubelet path earlier name.0 (kubelet_of name.0 clock ready (timings_of settings)) name.1

-- the kubelets from a place on, behind earlier ones
unfoldable pub kubelets_from : Settings → Texts → ℕ → List Proc → Items → Result (List Proc × Texts) Refusal
kubelets_from settings names place earlier no_items = Ok (earlier, names)
kubelets_from settings names place earlier (item d rest) = do
  next ← kubelet_at settings names (member_path [] (codes "/kubelets/") place) earlier d
  kubelets_from settings next.1 (place + 1) (earlier ++ next.0 ∷ []) rest

unfoldable pub kubelets_in : Version → Settings → Texts → Data → Result (List Proc × Texts) Refusal
kubelets_in version settings names d = do
  all ← array_in (kubelet_limit (scale_of version)) (codes "/kubelets") d
  kubelets_from settings names 0 [] all

-- ---- objects

abbrev pub objects_of : (List (Key × Object) × ℕ) × Texts → Objects × Texts
objects_of found = (record { items = found.0.0; skipped = found.0.1 }, found.1)

unfoldable pub objects_in : Version → Texts → List ℕ → Data → Result (Objects × Texts) Refusal
objects_in version names known d = do
  found ← list_walk (scale_of version) names known (codes "/objects") d
  Ok (objects_of found)

-- ---- events

-- the processes that events may name: the numbers of the controllers' names and of the kubelets' nodes
pub record Cast : Type 0 where
  pub controllers : List ℕ
  pub kubelets : List ℕ

abbrev pub proc_id : ℕ → ProcId
proc_id place = record { 0 = place }

-- a controller by its name
abbrev pub controller_named : Cast → Texts → List ℕ → Option ProcId
controller_named cast names text = option_map proc_id (process_of names cast.controllers text)

abbrev pub behind : ℕ → ℕ → ProcId
behind before place = record { 0 = before + place }

-- a kubelet by `kubelet/` and its node; kubelets stand behind the controllers
abbrev pub kubelet_named : Cast → Texts → List ℕ → Option ProcId
kubelet_named cast names text =
    if bytes_eq (take 8 text) (codes "kubelet/")
    then option_map (behind (length cast.controllers)) (process_of names cast.kubelets (drop 8 text)) else None

abbrev pub or_else : {A : Type 0} → Option A → Option A → Option A
or_else None other = other
or_else (Some x) other = Some x

abbrev pub process_named : Cast → Texts → List ℕ → Option ProcId
process_named cast names text = or_else (controller_named cast names text) (kubelet_named cast names text)

-- a process of this sort by a text
abbrev pub named_by : Sort → Cast → Texts → List ℕ → Option ProcId
named_by sorts.Any cast names text = process_named cast names text
named_by sorts.Controller cast names text = controller_named cast names text
named_by sorts.Kubelet cast names text = kubelet_named cast names text

-- the process of an event, among those that it may name
unfoldable pub process_at : (List ℕ → Option ProcId) → List ℕ → Data → Result ProcId Refusal
process_at named path d = do
  text ← needed_text path (codes "process") d
  or_refuse (named text) UNKNOWN_PROCESS (under path (codes "process"))

abbrev pub rate_at : Cast → Texts → List ℕ → Data → Result What Refusal
rate_at cast names path d = do
  who ← process_at (process_named cast names) path d
  ppm ← needed_whole 500_000 2_000_000 path (codes "ratePpm") d
  Ok (whats.Rate who ppm)

unfoldable pub delay_at : Cast → Texts → List ℕ → Data → Result What Refusal
delay_at cast names path d = do
  who ← process_at (process_named cast names) path d
  requests ← needed_whole 1 6_000 path (codes "requestBeats") d
  replies ← needed_whole 1 6_000 path (codes "replyBeats") d
  Ok (whats.Delay who requests replies)

unfoldable pub loss_at : Cast → Texts → List ℕ → Data → Result What Refusal
loss_at cast names path d = do
  who ← process_at (process_named cast names) path d
  requests ← needed_flag path (codes "requests") d
  replies ← needed_flag path (codes "replies") d
  Ok (whats.Loss who requests replies)

abbrev pub crash_at : Cast → Texts → List ℕ → Data → Result What Refusal
crash_at cast names path d = do
  who ← process_at (process_named cast names) path d
  Ok (whats.Crash who)

abbrev pub start_at : Cast → Texts → List ℕ → Data → Result What Refusal
start_at cast names path d = do
  who ← process_at (process_named cast names) path d
  Ok (whats.Start who)

abbrev pub stop_at : Cast → Texts → List ℕ → Data → Result What Refusal
stop_at cast names path d = do
  who ← process_at (controller_named cast names) path d
  Ok (whats.Stop who)

abbrev pub watch_at : Cast → Texts → List ℕ → Data → Result What Refusal
watch_at cast names path d = do
  who ← process_at (controller_named cast names) path d
  on ← needed_flag path (codes "on") d
  Ok (whats.Watch who on)

abbrev pub ready_at : Cast → Texts → List ℕ → Data → Result What Refusal
ready_at cast names path d = do
  who ← process_at (kubelet_named cast names) path d
  status ← needed_posted path (codes "status") d
  Ok (whats.Ready who status)

abbrev pub object_under : Cast → Texts → List ℕ → Data → Result ((Key × Object) × Texts) Refusal
object_under cast names path d =
    required (under path (codes "object")) (object_walk names cast.controllers (under path (codes "object"))) (get (codes "object") d)

unfoldable pub pause_at : Cast → Texts → List ℕ → Data → Result What Refusal
pause_at cast names path d = do
  who ← process_at (process_named cast names) path d
  beats ← needed_whole 1 604_800_000 path (codes "beats") d
  Ok (whats.Pause who beats)

unfoldable pub stall_at : List ℕ → Data → Result What Refusal
stall_at path d = do
  beats ← needed_whole 1 604_800_000 path (codes "beats") d
  Ok (whats.Stall beats)

unfoldable pub put_at : Cast → Texts → List ℕ → Data → Result (What × Texts) Refusal
put_at cast names path d = do
  found ← object_under cast names path d
  Ok (whats.Put found.0.0 found.0.1, found.1)

abbrev pub kind_of : List ℕ → Option Kind
kind_of text =
    if bytes_eq text (codes "Node") then Some kinds.Node
    else (if bytes_eq text (codes "Lease") then Some kinds.Lease
    else (if bytes_eq text (codes "Pod") then Some kinds.Pod else None))

unfoldable pub kind_at : List ℕ → Data → Result Kind Refusal
kind_at path d = do
  text ← needed_text path (codes "kind") d
  or_refuse (kind_of text) OUT_OF_RANGE (under path (codes "kind"))

-- the number of a namespace; a Node has none
abbrev pub space_of : Texts → Kind → List ℕ → Result (ℕ × Texts) Refusal
space_of names kinds.Node text = Ok (0, names)
space_of names kinds.Lease text = numbered names text
space_of names kinds.Pod text = numbered names text

unfoldable pub remove_at : Texts → List ℕ → Data → Result (What × Texts) Refusal
remove_at names path d = do
  kind ← kind_at path d
  text ← name_at (codes "default") path (codes "namespace") d
  space ← space_of names kind text
  name ← named_at space.1 path (codes "name") d
  Ok (whats.Remove (record { kind = kind; space = space.0; name = name.0 }), name.1)

abbrev pub beside : Texts → Result What Refusal → Result (What × Texts) Refusal
beside names walk = walk >>= λ what. Ok (what, names)

-- what an event does, by the keys of its type
unfoldable pub what_at : Cast → Texts → List ℕ → EventType → Data → Result (What × Texts) Refusal
what_at cast names path types.Rate d = beside names (rate_at cast names path d)
what_at cast names path types.Delay d = beside names (delay_at cast names path d)
what_at cast names path types.Loss d = beside names (loss_at cast names path d)
what_at cast names path types.Crash d = beside names (crash_at cast names path d)
what_at cast names path types.Start d = beside names (start_at cast names path d)
what_at cast names path types.Stop d = beside names (stop_at cast names path d)
what_at cast names path types.Watch d = beside names (watch_at cast names path d)
what_at cast names path types.Ready d = beside names (ready_at cast names path d)
what_at cast names path types.Pause d = beside names (pause_at cast names path d)
what_at cast names path types.Stall d = beside names (stall_at path d)
what_at cast names path types.Put d = put_at cast names path d
what_at cast names path types.Remove d = remove_at names path d

-- a type of events; a pause is one from version 3 on, a stall of the store from version 4 on
abbrev pub type_of : Version → List ℕ → Option EventType
type_of version text =
    if bytes_eq text (codes "rate") then Some types.Rate
    else (if bytes_eq text (codes "delay") then Some types.Delay
    else (if bytes_eq text (codes "loss") then Some types.Loss
    else (if bytes_eq text (codes "crash") then Some types.Crash
    else (if bytes_eq text (codes "start") then Some types.Start
    else (if bytes_eq text (codes "stop") then Some types.Stop
    else (if bytes_eq text (codes "watch") then Some types.Watch
    else (if bytes_eq text (codes "ready") then Some types.Ready
    else (if bytes_eq text (codes "pause") && is_from_three version then Some types.Pause
    else (if bytes_eq text (codes "stall") && is_four version then Some types.Stall
    else (if bytes_eq text (codes "put") then Some types.Put
    else (if bytes_eq text (codes "remove") then Some types.Remove else None)))))))))))

unfoldable pub type_at : Version → List ℕ → Data → Result EventType Refusal
type_at version path d = do
  text ← needed_text path (codes "type") d
  or_refuse (type_of version text) OUT_OF_RANGE (under path (codes "type"))

abbrev pub is_election : Key → Bool
is_election key = key_eq key election

-- an event puts or removes the election Lease
abbrev pub edits_election : What → Bool
edits_election (whats.Rate who ppm) = false
edits_election (whats.Delay who requests replies) = false
edits_election (whats.Loss who requests replies) = false
edits_election (whats.Crash who) = false
edits_election (whats.Start who) = false
edits_election (whats.Stop who) = false
edits_election (whats.Watch who on) = false
edits_election (whats.Ready who status) = false
edits_election (whats.Pause who beats) = false
edits_election (whats.Stall beats) = false
edits_election (whats.Put key object) = is_election key
edits_election (whats.Remove key) = is_election key

-- a pause or stall that begins at a beat `from` ends at beat k or later
abbrev pub reaches : ℕ → ℕ → Option ℕ → Bool
reaches k from None = false
reaches k from (Some beats) = nat_le k (from + beats)

-- an event pauses the process up to beat k or longer
abbrev pub pauses_up_to : ℕ → ℕ → Event → Bool
pauses_up_to p k e = reaches k e.beat.0 (pause_of p e.what)

abbrev pub is_paused_up_to : ℕ → ℕ → List Event → Bool
is_paused_up_to p k events = list_any (pauses_up_to p k) events

-- an event stops the store up to beat k or longer
abbrev pub stalls_up_to : ℕ → Event → Bool
stalls_up_to k e = reaches k e.beat.0 (stall_of e.what)

abbrev pub is_stalled_up_to : ℕ → List Event → Bool
is_stalled_up_to k events = list_any (stalls_up_to k) events

-- a pause at beat k of a process that an earlier event pauses up to that beat or longer, so that it wouldn't go on between both; or so a
-- stall of the store
abbrev pub is_too_soon : List Event → ℕ → What → Bool
is_too_soon earlier k (whats.Pause who beats) = is_paused_up_to who.0 k earlier
is_too_soon earlier k (whats.Stall beats) = is_stalled_up_to k earlier
is_too_soon earlier k _ = false

-- the own rules of an event: it isn't before an earlier event nor after the end, pauses no process too soon after an earlier pause of it
-- nor stops the store too soon after an earlier stall, and leaves the election Lease alone
abbrev pub if_event : ℕ → ℕ → List Event → List ℕ → ℕ → What → Texts → Result (Event × Texts) Refusal
if_event end last earlier path beat what names =
    if nat_lt beat last || nat_lt end beat then refuse EVENT_ORDER path
    else (if is_too_soon earlier beat what then refuse BAD_SETTINGS path
    else (if edits_election what then refuse ELECTION_LEASE_EDIT path else Ok (record { beat = record { 0 = beat }; what = what }, names)))

-- an event behind these earlier ones, which are at most at the beat `last`
unfoldable pub event_at : Scope → Cast → Texts → ℕ → List Event → List ℕ → Data → Result (Event × Texts) Refusal
event_at scope cast names last earlier path value = do
  d ← object_at WRONG_TYPE path value
  beat ← needed_whole 0 604_800_000 path (codes "beat") d
  kind ← type_at scope.version path d
  known ← known_in (tables.Event kind) path d
  what ← what_at cast names path kind known
  if_event scope.end.0 last earlier path beat what.0 what.1

-- the events from a place on, behind earlier ones
unfoldable pub events_from : Scope → Cast → Texts → ℕ → ℕ → List Event → Items → Result (List Event × Texts) Refusal
events_from scope cast names place last earlier no_items = Ok ([], names)
events_from scope cast names place last earlier (item d rest) = do
  next ← event_at scope cast names last earlier (member_path [] (codes "/events/") place) d
  more ← events_from scope cast next.1 (place + 1) next.0.beat.0 (earlier ++ next.0 ∷ []) rest
  Ok (next.0 ∷ more.0, more.1)

unfoldable pub events_in : Scope → Cast → Texts → Data → Result (List Event × Texts) Refusal
events_in scope cast names d = do
  all ← array_in (event_limit (scale_of scope.version)) (codes "/events") d
  events_from scope cast names 0 0 [] all

-- ---- the document

abbrev pub version_of : ℕ → Result Version Refusal
version_of n =
    if n == 1 then Ok versions.One
    else (if n == 2 then Ok versions.Two
    else (if n == 3 then Ok versions.Three
    else (if n == 4 then Ok versions.Four else refuse TOP_SHAPE (codes "/version"))))

abbrev pub version_unless : Option ℤ → Result Version Refusal
version_unless None = refuse WRONG_TYPE (codes "/version")
version_unless (Some n) = refuse TOP_SHAPE (codes "/version")

abbrev pub version_or : Option ℕ → Option ℤ → Result Version Refusal
version_or None signed = version_unless signed
version_or (Some n) signed = version_of n

-- a whole number from 1 to 4
abbrev pub version_in : Data → Result Version Refusal
version_in d = version_or (option_and_then as_u64 (as_number d)) (option_and_then as_i64 (as_number d))

-- the numbers of the processes' names
abbrev pub numbers_of : List Proc → List ℕ
numbers_of procs = map (λ p. p.name) procs

abbrev pub cast_of : List Proc → List Proc → Cast
cast_of controllers kubelets = record { controllers = numbers_of controllers; kubelets = numbers_of kubelets }

abbrev pub scope_of : Version → Settings → Scope
scope_of version s = record { version = version; end = s.end_beat }

abbrev pub no_objects : Objects
no_objects = record { items = []; skipped = 0 }

-- the version is the whole number 4
abbrev pub is_number_four : Option ℕ → Bool
is_number_four None = false
is_number_four (Some n) = n == 4

abbrev pub says_four : Option Data → Bool
says_four None = false
says_four (Some d) = is_number_four (option_and_then as_u64 (as_number d))

-- the value is an object with no unknown key; sets of pods are known where the version is 4
unfoldable pub top_in : Data → Result Data Refusal
top_in value = do
  d ← object_at TOP_SHAPE (codes "/") value
  known_in (tables.Top (says_four (get (codes "version") d))) (codes "/") d

-- the objects, with the Pods of the sets behind them
unfoldable pub objects_at : Version → Texts → List ℕ → Data → Result (Objects × Texts) Refusal
objects_at version names known d = do
  listed ← default_of (no_objects, names) (objects_in version names known) (get (codes "objects") d)
  all ← default_of (listed.0.items, listed.1) (sets_in (scale_of version) listed.1 listed.0.items) (get (codes "podSets") d)
  Ok (record { items = all.0; skipped = listed.0.skipped }, all.1)

abbrev pub events_at : Scope → Cast → Texts → Data → Result (List Event × Texts) Refusal
events_at scope cast names d = default_of ([], names) (events_in scope cast names) (get (codes "events") d)

unfoldable pub document_at : Data → Result Document Refusal
document_at value = do
  d ← top_in value
  version ← required (codes "/version") version_in (get (codes "version") d)
  settings ← required (codes "/settings") (settings_at version (codes "/settings")) (get (codes "settings") d)
  controllers ← required (codes "/controllers") (controllers_in version settings.0 settings.1 fixed_names) (get (codes "controllers") d)
  kubelets ← default_of ([], controllers.1) (kubelets_in version settings.0 controllers.1) (get (codes "kubelets") d)
  objects ← objects_at version kubelets.1 (numbers_of controllers.0.0) d
  events ← events_at (scope_of version settings.0) (cast_of controllers.0.0 kubelets.0) objects.1 d
  Ok (record {
    settings = settings.0;
    controllers = controllers.0.0;
    kubelets = kubelets.0;
    waits = controllers.0.1;
    objects = objects.0;
    events = events.0;
    names = events.1;
  })

-- JSON as serde_json reads it (RFC 8259): UTF-8, one value with nothing behind it, nested at most 127 deep
abbrev pub json_of : List ℕ → Option Data
json_of bytes = if is_utf8 bytes then read bytes else None

unfoldable pub data_of : List ℕ → Result Data Refusal
data_of bytes = or_refuse (json_of bytes) BAD_JSON (codes "/")

-- the document of these bytes, or the first refusal
unfoldable pub document_walk : List ℕ → Result Document Refusal
document_walk bytes = do
  d ← data_of bytes
  document_at d
