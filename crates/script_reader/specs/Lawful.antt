-- What every document keeps that was read: the ranges of its numbers, its own rules, its limits, the order of its events, what they name,
-- and that its names hold its numbers. Source: profile.
use Rattle.std.specs.Prelude.{◌≡◌, ℕ, pos, negsuc, ◌*◌, ◌<◌, ◌≤◌, ◌==◌, ◌≤ℤ◌, true, false, List, [], ◌∷◌, length, All}
use Rattle.std.specs.List.{IsDistinct}
use Rattle.kube_objects.specs.declared.key.Kind.{Kind}
use Rattle.kube_objects.specs.declared.key.Kind.TheVariants as kind
use Rattle.kube_objects.specs.declared.key.Key.{Key}
use Rattle.kube_objects.specs.declared.node.ReadyStatus.{ReadyStatus}
use Rattle.kube_objects.specs.declared.node.ReadyStatus.TheVariants as status
use Rattle.kube_objects.specs.declared.script.Event.{Event}
use Rattle.kube_objects.specs.declared.script.Proc.{Proc}
use Rattle.kube_objects.specs.declared.script.What.{What}
use Rattle.kube_objects.specs.declared.script.What.TheVariants.{Rate, Delay, Loss, Crash, Start, Stop, Watch, Ready, Pause, Stall, Put, Remove}
use Rattle.kube_objects.specs.declared.settings.Settings.{Settings}
use Rattle.kube_objects.specs.Document.{Doc, is_controller, processes, end_beat}
use Rattle.kube_objects.specs.Keys.{key_eq}
use Rattle.kube_objects.specs.Kinds.{IsOfKind}
use Rattle.kube_objects.specs.Stored.{election}
use Rattle.history.specs.Sound.{AreApart}
use Rattle.manifest_json.specs.declared.scale.Scale.TheVariants as scales
use Rattle.manifest_json.specs.Fields.{Texts}
use Rattle.manifest_json.specs.Readable.{IsNameNumber, IsReadableItem, AreKeyedApart, IsReadable}
use Rattle.manifest_json.specs.Walk.{kind_count, kind_limit}
use Rattle.script_reader.specs.Rules.{agree}
use Rattle.script_reader.specs.Walk.{numbers_of}

-- the ranges of settings, and their own rules
pub record AreLawful (s : Settings) : Type 0 where
  pub beat_least : 1 ≤ s.beat_millis
  pub beat_most : s.beat_millis ≤ 1000
  pub end : s.end_beat.0 * s.beat_millis ≤ 604800000
  pub epoch_least : 946684800000000 ≤ s.epoch.0
  pub epoch_most : s.epoch.0 < 7258118400000000
  pub lease_least : 1 ≤ s.lease_duration_seconds
  pub lease : s.lease_duration_seconds ≤ 86400
  pub renew_least : 1 ≤ s.renew_deadline_millis
  pub renew : s.renew_deadline_millis ≤ 86400000
  pub retry_least : 1 ≤ s.retry_period_millis
  pub retry : s.retry_period_millis ≤ 86400000
  pub timeout_least : 1 ≤ s.call_timeout_millis
  pub timeout : s.call_timeout_millis ≤ 600000
  pub restart_least : 1 ≤ s.restart_millis
  pub restart : s.restart_millis ≤ 86400000
  pub monitor_least : 1 ≤ s.monitor_period_millis
  pub monitor : s.monitor_period_millis ≤ 604800000
  pub grace_least : 1 ≤ s.grace_period_millis
  pub grace : s.grace_period_millis ≤ 604800000
  pub startup_least : 1 ≤ s.startup_grace_millis
  pub startup : s.startup_grace_millis ≤ 604800000
  pub node_lease_least : 1 ≤ s.node_lease_duration_seconds
  pub node_lease : s.node_lease_duration_seconds ≤ 86400
  pub primary : s.primary_rate ≤ 1000000
  pub secondary : s.secondary_rate ≤ s.primary_rate
  pub large_zone : s.large_zone ≤ 1000000
  pub percent : s.unhealthy_percent ≤ 100
  -- a queue that holds a node again and again is filled at passes alone, and who acts in a release has one
  pub rules : agree s.rules ≡ true
  pub renew_within_lease : s.renew_deadline_millis < s.lease_duration_seconds * 1000
  pub retry_within_renew : 6 * s.retry_period_millis < 5 * s.renew_deadline_millis

-- a status that a kubelet posts
abbrev pub IsPosted : ReadyStatus → Type 0
IsPosted status.True = Unit {0}
IsPosted status.False = Unit {0}
IsPosted status.Unknown = ⊥

-- the ranges of a controller or kubelet, and the rules of its timings
pub record IsLawful (p : Proc) : Type 0 where
  pub rate_least : 500000 ≤ p.rate_ppm
  pub rate_most : p.rate_ppm ≤ 2000000
  pub offset_least : negsuc 31535999999 ≤ℤ p.offset_millis
  pub offset_most : p.offset_millis ≤ℤ pos 31536000000
  pub ready : IsPosted p.ready
  pub lease_least : 1 ≤ p.lease_seconds
  pub lease : p.lease_seconds ≤ 86400
  pub renew_least : 1 ≤ p.renew_millis
  pub renew : p.renew_millis ≤ 86400000
  pub retry_least : 1 ≤ p.retry_millis
  pub retry : p.retry_millis ≤ 86400000
  pub timeout_least : 1 ≤ p.timeout_millis
  pub timeout : p.timeout_millis ≤ 600000
  pub renew_within_lease : p.renew_millis < p.lease_seconds * 1000
  pub retry_within_renew : 6 * p.retry_millis < 5 * p.renew_millis

-- a controller's waits after failed attempts, in thousandths of its retry period
pub record AreWaits (waits : List ℕ) : Type 0 where
  pub some : 1 ≤ length waits
  pub few : length waits ≤ 1000
  pub each : All (λ w. (1000 ≤ w) × (w ≤ 2200)) waits

-- no two of these processes have the same name
abbrev pub AreNamedApart : List Proc → Type 0
AreNamedApart procs = IsDistinct (λ a b. a == b) (numbers_of procs)

-- an event names processes of the document of the right sort, has its ranges, and leaves the election Lease alone
abbrev pub IsLawfulWhat : Doc → What → Type 0
IsLawfulWhat doc (Rate id ppm) = (id.0 < processes doc) × (500000 ≤ ppm) × (ppm ≤ 2000000)
IsLawfulWhat doc (Delay id requests replies) =
    (id.0 < processes doc) × ((1 ≤ requests) × (requests ≤ 6000)) × ((1 ≤ replies) × (replies ≤ 6000))
IsLawfulWhat doc (Loss id requests replies) = id.0 < processes doc
IsLawfulWhat doc (Crash id) = id.0 < processes doc
IsLawfulWhat doc (Start id) = id.0 < processes doc
IsLawfulWhat doc (Stop id) = is_controller doc id.0 ≡ true
IsLawfulWhat doc (Watch id on) = is_controller doc id.0 ≡ true
IsLawfulWhat doc (Ready id status) = (is_controller doc id.0 ≡ false) × (id.0 < processes doc) × IsPosted status
IsLawfulWhat doc (Pause id beats) = (id.0 < processes doc) × (1 ≤ beats) × (beats ≤ 604800000)
IsLawfulWhat doc (Stall beats) = (1 ≤ beats) × (beats ≤ 604800000)
IsLawfulWhat doc (Put key object) = (key_eq key election ≡ false) × IsOfKind key object
IsLawfulWhat doc (Remove key) = key_eq key election ≡ false

-- the events stand in the order of their beats, none before this beat and none after the end
abbrev pub AreLawfulFrom : Doc → ℕ → List Event → Type 0
AreLawfulFrom doc from [] = Unit {0}
AreLawfulFrom doc from (e ∷ es) = (from ≤ e.beat.0) × (e.beat.0 ≤ end_beat doc) × IsLawfulWhat doc e.what × AreLawfulFrom doc e.beat.0 es

-- a document that was read
pub record IsLawfulDoc (doc : Doc) : Type 0 where
  pub settings : AreLawful doc.settings
  pub controllers : All IsLawful doc.controllers
  pub some : 1 ≤ length doc.controllers
  pub few : length doc.controllers ≤ 16
  pub controllers_apart : AreNamedApart doc.controllers
  -- the waits are those of the controllers, in order
  pub waits : All AreWaits doc.waits
  pub waits_each : length doc.waits ≡ length doc.controllers
  pub kubelets : All IsLawful doc.kubelets
  pub few_kubelets : length doc.kubelets ≤ 15000
  pub kubelets_apart : AreNamedApart doc.kubelets
  pub objects : All (λ item. IsOfKind item.0 item.1) doc.objects
  pub objects_apart : AreKeyedApart doc.objects
  pub few_objects : (kind : Kind) → kind_count kind doc.objects ≤ kind_limit scales.Large kind
  pub events : AreLawfulFrom doc 0 doc.events
  pub few_events : length doc.events ≤ 1000000
  pub apart : AreApart doc.events

-- ---- names

-- the number of a namespace; a Node has none
abbrev pub IsSpaceNumber : Texts → Kind → ℕ → Type 0
IsSpaceNumber names kind.Node space = space ≡ 0
IsSpaceNumber names kind.Lease space = IsNameNumber names space
IsSpaceNumber names kind.Pod space = IsNameNumber names space

-- a key whose numbers are those of a name and, but for a Node, a namespace
abbrev pub IsNamedKey : Texts → Key → Type 0
IsNamedKey names key = IsNameNumber names key.name × IsSpaceNumber names key.kind key.space

-- an event puts an object that a manifest can give, and removes a key of names
abbrev pub IsReadableWhat : Texts → List ℕ → What → Type 0
IsReadableWhat names known (Put key object) = IsReadableItem names known (key, object)
IsReadableWhat names known (Remove key) = IsNamedKey names key
IsReadableWhat names known _ = Unit {0}

-- the names hold each number of a document that was read: those of its processes, keys, objects and events. Each object is one that a
-- manifest can give with the controllers' names, so it is of its key's kind, a holder is one of the controllers, and no time is after 2261
pub record IsWellNamed (names : Texts) (doc : Doc) : Type 0 where
  pub controllers : All (λ p. IsNameNumber names p.name) doc.controllers
  pub kubelets : All (λ p. IsNameNumber names p.name) doc.kubelets
  pub objects : IsReadable scales.Large names (numbers_of doc.controllers) doc.objects
  pub events : All (λ e. IsReadableWhat names (numbers_of doc.controllers) e.what) doc.events
