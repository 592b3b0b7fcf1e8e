-- A document whose version isn't 4 has the project's own rules of releases, of elections, of when nodes are judged and of evictions, its terms sync at
-- once, its passes take no time, and its script never stops the store: the keys and the type of event that say otherwise are unknown there.
use Rattle.std.proofs.Common.{◌≡◌, ℕ, ◌+◌, ◌==◌, ◌&&◌, ◌||◌, nat_lt, ◌++◌, Bool, true, false, List, [], ◌∷◌, codes, Option, Some, None, Result, Ok, refl, sym, ap, subst, ◌∙◌, Ordering, Less, Equal, Greater}
use Rattle.std.specs.Prelude.{option_and_then, ℤ, if◌then◌else◌}
use Rattle.std.specs.Cmp.Lexicographic.{slice_cmp}
use Rattle.std.specs.Ordering.{is_eq, nat_cmp, match_ordering}
use Rattle.std.specs.Str.{bytes_eq}
use Rattle.std.proofs.lemmas.Bool.{and_parts}
use Rattle.std.proofs.lemmas.List.{map-append}
use Rattle.std.proofs.lemmas.Map.Text.{is_eq-slice_cmp}
use Rattle.std.proofs.lemmas.Slice.Eq.{bytes_eq-Decides}
use Rattle.serde_json.specs.Data.{Data, null, boolean, number, string, array, object, Items, no_items, item, Members, no_members, member}
use Rattle.serde_json.specs.Find.{get, get_member, as_number, as_u64, as_i64}
use Rattle.kube_base.specs.Names.{fixed_names}
use Rattle.kube_objects.specs.Document.{own_waits_each}
use Rattle.kube_objects.specs.Own.{ReleasesByStop, ElectsByOwn, EvictsByOwn, JudgesByOwn, SettlesAtOnce, PassesTakeNoWork, ProbesByRun, StartsEmpty, AreUnstalled}
use Rattle.kube_objects.specs.Rules.{own_rules, own_waits}
use Rattle.kube_objects.specs.declared.rules.Rules.{Rules}
use Rattle.kube_objects.specs.declared.rules.RetryRule.TheVariants as retries
use Rattle.kube_objects.specs.declared.rules.RespectRule.TheVariants as respects
use Rattle.kube_objects.specs.declared.rules.JudgeRule.TheVariants as judges
use Rattle.kube_objects.specs.declared.rules.SightRule.TheVariants as sights
use Rattle.kube_objects.specs.declared.rules.BucketRule.TheVariants as buckets
use Rattle.kube_objects.specs.declared.rules.EvictRule.TheVariants as evictions
use Rattle.kube_objects.specs.declared.rules.ProbeRule.TheVariants as probes
use Rattle.kube_objects.specs.declared.rules.ReleaseRule.TheVariants as releases
use Rattle.kube_objects.specs.declared.rules.ReleaseActing.TheVariants as acting
use Rattle.kube_objects.specs.declared.script.Event.{Event}
use Rattle.kube_objects.specs.declared.script.Proc.{Proc}
use Rattle.kube_objects.specs.declared.script.What.{What}
use Rattle.kube_objects.specs.declared.settings.Settings.{Settings}
use Rattle.kube_objects.specs.Stalls.{stall_of}
use Rattle.manifest_json.specs.declared.codes.TheConstants.{OUT_OF_RANGE, WRONG_TYPE}
use Rattle.manifest_json.specs.declared.fault.Refusal.{Refusal}
use Rattle.manifest_json.specs.Faults.{◌>>=◌}
use Rattle.manifest_json.specs.Fields.{Texts}
use Rattle.manifest_json.specs.Walk.{member_path}
use Rattle.manifest_laws.proofs.Getting.{Gets, Has, done, refused, by_test, and_then, skip, of_option, weaker}
use Rattle.script_reader.specs.declared.choice.Preset.{Preset}
use Rattle.script_reader.specs.declared.choice.Preset.TheVariants as presets
use Rattle.script_reader.specs.declared.document.Document.{Document}
use Rattle.script_reader.specs.declared.parts.Scope.{Scope}
use Rattle.script_reader.specs.declared.table.EventType.{EventType}
use Rattle.script_reader.specs.declared.table.EventType.TheVariants as types
use Rattle.script_reader.specs.declared.table.Table.{Table}
use Rattle.script_reader.specs.declared.table.Table.TheVariants as tables
use Rattle.script_reader.specs.declared.table.Version.{Version}
use Rattle.script_reader.specs.declared.table.Version.TheVariants as versions
use Rattle.script_reader.specs.Choices.{preset_at}
use Rattle.script_reader.specs.Documents.{doc_of}
use Rattle.script_reader.specs.Fields.{under, default_of, required, flag_at, name_at, needed_flag, needed_posted, needed_text, needed_whole, object_at, array_in, not_empty}
use Rattle.script_reader.specs.Limits.{scale_of, event_limit}
use Rattle.script_reader.specs.Rules.{judging_at, rules_at}
use Rattle.script_reader.specs.Tables.{is_four, is_from_three, is_key_of, all_known, known_in}
use Rattle.script_reader.specs.Walk.{timings_at, settings_at, named_at, clock_at, timings_of, controller_of, if_controller, controller_at, controllers_from, controllers_in, kubelets_in, objects_at, numbers_of, cast_of, scope_of, version_of, version_or, version_in, is_number_four, says_four, document_at, document_walk}
use Rattle.script_reader.specs.Walk.{Cast, controller_named, kubelet_named, process_named, process_at, rate_at, delay_at, loss_at, crash_at, start_at, stop_at, watch_at, ready_at, pause_at, object_under, put_at, kind_at, space_of, remove_at, beside, what_at, type_of, type_at, is_too_soon, edits_election, if_event, event_at, events_from, events_in, events_at}
use Rattle.document_laws.proofs.FieldRanges.{of_default, of_required}
use Rattle.document_laws.proofs.OwnRules.{tainting-default, ending-default, settings-by}
use Rattle.document_laws.proofs.Scales.{Knows, object-is, top-same}
use Rattle.document_laws.specs.Laws.{EarlierGoByOwn}

-- ---- unknown keys

-- a key that a table doesn't have: no value whose keys are all known has it
module _ (table : Table) (key : List ℕ) (unknown : is_key_of table key ≡ false) where
  member-unknown : (ms : Members) → all_known (is_key_of table) ms ≡ true → get_member key ms ≡ None
  member-unknown no_members known = refl
  member-unknown (member l e ms) known =
      let parts = and_parts (is_key_of table l) (all_known (is_key_of table) ms) known in
      by (slice_cmp nat_cmp key l) (is_eq-slice_cmp key l) parts.0 (member-unknown ms parts.1)
    where
      by : (o : Ordering) → is_eq o ≡ bytes_eq key l → is_key_of table l ≡ true → get_member key ms ≡ None
          → match_ordering o (get_member key ms) (Some e) (get_member key ms) ≡ None
      by Less same has rest = rest
      by Greater same has rest = rest
      by Equal same has rest =
          let equal : key ≡ l = (bytes_eq-Decides key l).0 (sym same) in
          absurd (let none : ⊥ = cc in none)

  get-unknown : (d : Data) → Knows table d → get key d ≡ None
  get-unknown null known = refl
  get-unknown (boolean b) known = refl
  get-unknown (number n) known = refl
  get-unknown (string s) known = refl
  get-unknown (array ds) known = refl
  get-unknown (object ms) known = member-unknown ms known

-- ---- the version

not-four : (n : ℕ) → (n == 4) ≡ false → Gets (λ v. is_four v ≡ false) (version_of n)
not-four n other =
    by_test (n == 1) _ _ (λ e. done versions.One refl) (λ e.
    by_test (n == 2) _ _ (λ e. done versions.Two refl) (λ e.
    by_test (n == 3) _ _ (λ e. done versions.Three refl) (λ e.
    by_test (n == 4) _ _ (λ e. absurd (let none : ⊥ = cc in none)) (λ e. refused _))))

earlier-version : (d : Data) → says_four (Some d) ≡ false → Gets (λ v. is_four v ≡ false) (version_in d)
earlier-version d = by (option_and_then as_u64 (as_number d)) (option_and_then as_i64 (as_number d))
  where
    by : (whole : Option ℕ) (signed : Option ℤ) → is_number_four whole ≡ false → Gets (λ v. is_four v ≡ false) (version_or whole signed)
    by None None other = refused _
    by None (Some n) other = refused _
    by (Some n) signed other = not-four n other

required-version : (o : Option Data) → says_four o ≡ false → Gets (λ v. is_four v ≡ false) (required (codes "/version") version_in o)
required-version None other = refused _
required-version (Some d) other = earlier-version d other

-- ---- settings

-- the rules of releases, of elections, of when nodes are judged and of evictions are the project's own, a term syncs at once, nodes are silent by the run,
-- buckets start empty, and a pass takes no time
record GoByOwn (rules : Rules) : Type 0 where
  pub retries : rules.retries ≡ retries.After
  pub respect : rules.respect ≡ respects.Record
  pub at_once : rules.first_sync_millis ≡ 0
  pub probe : rules.probe ≡ probes.Run
  pub judge : rules.judge ≡ judges.Tick
  pub sight : rules.first_sight ≡ sights.Keep
  pub bucket : rules.bucket ≡ buckets.Empty
  pub from : rules.evict_from ≡ evictions.Added
  pub burst : rules.evict_burst ≡ 0
  pub release : rules.release ≡ releases.Stop
  pub still : rules.in_release ≡ acting.Still
  pub no_work : rules.ready_millis ≡ 0

-- settings without the keys of these
record HaveNone (d : Data) : Type 0 where
  pub rules : get (codes "rules") d ≡ None
  pub retries : get (codes "retries") d ≡ None
  pub respect : get (codes "respect") d ≡ None
  pub first_sync : get (codes "firstSyncMillis") d ≡ None
  pub probe : get (codes "probe") d ≡ None
  pub judge : get (codes "judge") d ≡ None
  pub first_sight : get (codes "firstSight") d ≡ None
  pub queue : get (codes "queue") d ≡ None
  pub bucket : get (codes "bucket") d ≡ None
  pub evict_from : get (codes "evictFrom") d ≡ None
  pub evict_burst : get (codes "evictBurst") d ≡ None
  pub evict_rate : get (codes "evictRate") d ≡ None
  pub release : get (codes "release") d ≡ None
  pub in_release : get (codes "inRelease") d ≡ None
  pub ready_millis : get (codes "readyMillis") d ≡ None
  pub ready_burst : get (codes "readyBurst") d ≡ None

judging-own : (path : List ℕ) (d : Data) → HaveNone d → Gets GoByOwn (judging_at own_rules path d)
unfolding judging_at
judging-own path d none =
    rw (none.retries, none.respect, none.first_sync, none.probe, none.judge, none.first_sight)
    (done _ (record {
      retries = refl;
      respect = refl;
      at_once = refl;
      probe = refl;
      judge = refl;
      sight = refl;
      bucket = refl;
      from = refl;
      burst = refl;
      release = refl;
      still = refl;
      no_work = refl;
    }))

rules-own : (path : List ℕ) (d : Data) → HaveNone d → Gets GoByOwn (rules_at presets.Own path d)
unfolding rules_at
rules-own path d none =
    and_then (judging-own path d none) (λ judging goes.
    rw (tainting-default judging path d none.queue none.bucket none.evict_from none.evict_burst none.evict_rate)
    (rw (ending-default judging path d none.release none.in_release none.ready_millis none.ready_burst) (done judging goes)))

preset-own : (path : List ℕ) (d : Data) → HaveNone d → preset_at path d ≡ Ok presets.Own
preset-own path d none = rw none.rules refl

-- these keys, which settings and controllers have from version 4 on
rules-unknown : (version : Version) → is_four version ≡ false → is_key_of (tables.Settings version) (codes "rules") ≡ false
rules-unknown versions.One earlier = refl
rules-unknown versions.Two earlier = refl
rules-unknown versions.Three earlier = refl
rules-unknown versions.Four earlier = absurd (let none : ⊥ = cc in none)

retries-unknown : (version : Version) → is_four version ≡ false → is_key_of (tables.Settings version) (codes "retries") ≡ false
retries-unknown versions.One earlier = refl
retries-unknown versions.Two earlier = refl
retries-unknown versions.Three earlier = refl
retries-unknown versions.Four earlier = absurd (let none : ⊥ = cc in none)

respect-unknown : (version : Version) → is_four version ≡ false → is_key_of (tables.Settings version) (codes "respect") ≡ false
respect-unknown versions.One earlier = refl
respect-unknown versions.Two earlier = refl
respect-unknown versions.Three earlier = refl
respect-unknown versions.Four earlier = absurd (let none : ⊥ = cc in none)

first_sync-unknown : (version : Version) → is_four version ≡ false → is_key_of (tables.Settings version) (codes "firstSyncMillis") ≡ false
first_sync-unknown versions.One earlier = refl
first_sync-unknown versions.Two earlier = refl
first_sync-unknown versions.Three earlier = refl
first_sync-unknown versions.Four earlier = absurd (let none : ⊥ = cc in none)

probe-unknown : (version : Version) → is_four version ≡ false → is_key_of (tables.Settings version) (codes "probe") ≡ false
probe-unknown versions.One earlier = refl
probe-unknown versions.Two earlier = refl
probe-unknown versions.Three earlier = refl
probe-unknown versions.Four earlier = absurd (let none : ⊥ = cc in none)

bucket-unknown : (version : Version) → is_four version ≡ false → is_key_of (tables.Settings version) (codes "bucket") ≡ false
bucket-unknown versions.One earlier = refl
bucket-unknown versions.Two earlier = refl
bucket-unknown versions.Three earlier = refl
bucket-unknown versions.Four earlier = absurd (let none : ⊥ = cc in none)

judge-unknown : (version : Version) → is_four version ≡ false → is_key_of (tables.Settings version) (codes "judge") ≡ false
judge-unknown versions.One earlier = refl
judge-unknown versions.Two earlier = refl
judge-unknown versions.Three earlier = refl
judge-unknown versions.Four earlier = absurd (let none : ⊥ = cc in none)

first_sight-unknown : (version : Version) → is_four version ≡ false → is_key_of (tables.Settings version) (codes "firstSight") ≡ false
first_sight-unknown versions.One earlier = refl
first_sight-unknown versions.Two earlier = refl
first_sight-unknown versions.Three earlier = refl
first_sight-unknown versions.Four earlier = absurd (let none : ⊥ = cc in none)

queue-unknown : (version : Version) → is_four version ≡ false → is_key_of (tables.Settings version) (codes "queue") ≡ false
queue-unknown versions.One earlier = refl
queue-unknown versions.Two earlier = refl
queue-unknown versions.Three earlier = refl
queue-unknown versions.Four earlier = absurd (let none : ⊥ = cc in none)

evict_from-unknown : (version : Version) → is_four version ≡ false → is_key_of (tables.Settings version) (codes "evictFrom") ≡ false
evict_from-unknown versions.One earlier = refl
evict_from-unknown versions.Two earlier = refl
evict_from-unknown versions.Three earlier = refl
evict_from-unknown versions.Four earlier = absurd (let none : ⊥ = cc in none)

evict_burst-unknown : (version : Version) → is_four version ≡ false → is_key_of (tables.Settings version) (codes "evictBurst") ≡ false
evict_burst-unknown versions.One earlier = refl
evict_burst-unknown versions.Two earlier = refl
evict_burst-unknown versions.Three earlier = refl
evict_burst-unknown versions.Four earlier = absurd (let none : ⊥ = cc in none)

evict_rate-unknown : (version : Version) → is_four version ≡ false → is_key_of (tables.Settings version) (codes "evictRate") ≡ false
evict_rate-unknown versions.One earlier = refl
evict_rate-unknown versions.Two earlier = refl
evict_rate-unknown versions.Three earlier = refl
evict_rate-unknown versions.Four earlier = absurd (let none : ⊥ = cc in none)

release-unknown : (version : Version) → is_four version ≡ false → is_key_of (tables.Settings version) (codes "release") ≡ false
release-unknown versions.One earlier = refl
release-unknown versions.Two earlier = refl
release-unknown versions.Three earlier = refl
release-unknown versions.Four earlier = absurd (let none : ⊥ = cc in none)

in_release-unknown : (version : Version) → is_four version ≡ false → is_key_of (tables.Settings version) (codes "inRelease") ≡ false
in_release-unknown versions.One earlier = refl
in_release-unknown versions.Two earlier = refl
in_release-unknown versions.Three earlier = refl
in_release-unknown versions.Four earlier = absurd (let none : ⊥ = cc in none)

ready_millis-unknown : (version : Version) → is_four version ≡ false → is_key_of (tables.Settings version) (codes "readyMillis") ≡ false
ready_millis-unknown versions.One earlier = refl
ready_millis-unknown versions.Two earlier = refl
ready_millis-unknown versions.Three earlier = refl
ready_millis-unknown versions.Four earlier = absurd (let none : ⊥ = cc in none)

ready_burst-unknown : (version : Version) → is_four version ≡ false → is_key_of (tables.Settings version) (codes "readyBurst") ≡ false
ready_burst-unknown versions.One earlier = refl
ready_burst-unknown versions.Two earlier = refl
ready_burst-unknown versions.Three earlier = refl
ready_burst-unknown versions.Four earlier = absurd (let none : ⊥ = cc in none)

waits-unknown : (version : Version) → is_four version ≡ false → is_key_of (tables.Controller version) (codes "waits") ≡ false
waits-unknown versions.One earlier = refl
waits-unknown versions.Two earlier = refl
waits-unknown versions.Three earlier = refl
waits-unknown versions.Four earlier = absurd (let none : ⊥ = cc in none)

-- no stall of the store
abbrev IsUsual : EventType → Type 0
IsUsual types.Stall = ⊥
IsUsual _ = Unit {0}

usual : (b : Bool) (kind : EventType) (o : Option EventType) → IsUsual kind → Has IsUsual o → Has IsUsual (if b then Some kind else o)
usual true kind o h k = h
usual false kind o h k = k

never : (b four : Bool) (kind : EventType) (o : Option EventType) → four ≡ false → Has IsUsual o → Has IsUsual (if b && four then Some kind else o)
never true true kind o e k = absurd (let none : ⊥ = cc in none)
never true false kind o e k = k
never false four kind o e k = k

-- a version before 4
module _ (version : Version) (earlier : is_four version ≡ false) where
  settings-own : (path : List ℕ) (value : Data) → Gets (λ r. GoByOwn r.0.rules × (r.1 ≡ presets.Own)) (settings_at version path value)
  settings-own path value = settings-by (λ rules preset. GoByOwn rules × (preset ≡ presets.Own)) version path value (λ known.
      let absent : HaveNone value = record {
        rules = get-unknown (tables.Settings version) (codes "rules") (rules-unknown version earlier) value known;
        retries = get-unknown (tables.Settings version) (codes "retries") (retries-unknown version earlier) value known;
        respect = get-unknown (tables.Settings version) (codes "respect") (respect-unknown version earlier) value known;
        first_sync = get-unknown (tables.Settings version) (codes "firstSyncMillis") (first_sync-unknown version earlier) value known;
        probe = get-unknown (tables.Settings version) (codes "probe") (probe-unknown version earlier) value known;
        judge = get-unknown (tables.Settings version) (codes "judge") (judge-unknown version earlier) value known;
        first_sight = get-unknown (tables.Settings version) (codes "firstSight") (first_sight-unknown version earlier) value known;
        queue = get-unknown (tables.Settings version) (codes "queue") (queue-unknown version earlier) value known;
        bucket = get-unknown (tables.Settings version) (codes "bucket") (bucket-unknown version earlier) value known;
        evict_from = get-unknown (tables.Settings version) (codes "evictFrom") (evict_from-unknown version earlier) value known;
        evict_burst = get-unknown (tables.Settings version) (codes "evictBurst") (evict_burst-unknown version earlier) value known;
        evict_rate = get-unknown (tables.Settings version) (codes "evictRate") (evict_rate-unknown version earlier) value known;
        release = get-unknown (tables.Settings version) (codes "release") (release-unknown version earlier) value known;
        in_release = get-unknown (tables.Settings version) (codes "inRelease") (in_release-unknown version earlier) value known;
        ready_millis = get-unknown (tables.Settings version) (codes "readyMillis") (ready_millis-unknown version earlier) value known;
        ready_burst = get-unknown (tables.Settings version) (codes "readyBurst") (ready_burst-unknown version earlier) value known;
      } in
      rw (preset-own path value absent) (done presets.Own (weaker (rules-own path value absent) (λ rules goes. (goes, refl)))))

  -- ---- controllers

  controller-own : (settings : Settings) (names : Texts) (path : List ℕ) (before : List Proc) (value : Data)
      → Gets (λ r. r.0.1 ≡ own_waits) (controller_at version settings presets.Own names path before value)
  unfolding controller_at
  controller-own settings names path before value =
      and_then (object-is (tables.Controller version) path value) (λ d known.
      let none = get-unknown (tables.Controller version) (codes "waits") (waits-unknown version earlier) d known.1 in
      skip (named_at names path (codes "name") d) (λ name.
      skip (clock_at path d) (λ clock.
      skip (flag_at true path (codes "watch") d) (λ watch.
      skip (timings_at (timings_of settings) path d) (λ ts.
      rw none (skip (if_controller path before name.0 ts (controller_of name.0 clock watch ts) name.1) (λ controller. done _ refl)))))))

  -- each of these controllers has the own waits
  abbrev WaitByOwn : List Proc → List (List ℕ) → Type 0
  WaitByOwn controllers waits = waits ≡ own_waits_each controllers

  waits-push : (before : List Proc) (waits : List (List ℕ)) (p : Proc) (own : List ℕ) → WaitByOwn before waits → own ≡ own_waits
      → WaitByOwn (before ++ p ∷ []) (waits ++ own ∷ [])
  waits-push before waits p own all one = ap (λ w. w ++ own ∷ []) all ∙ ap (λ w. own_waits_each before ++ w ∷ []) one ∙ sym (map-append (λ c. own_waits) before (p ∷ []))

  controllers_from-own : (settings : Settings) (names : Texts) (place : ℕ) (before : List Proc) (waits : List (List ℕ)) (rest : Items) → WaitByOwn before waits
      → Gets (λ r. WaitByOwn r.0.0 r.0.1) (controllers_from version settings presets.Own names place before waits rest)
  unfolding controllers_from
  controllers_from-own settings names place before waits no_items all = done _ all
  controllers_from-own settings names place before waits (item d rest) all =
      and_then (controller-own settings names (member_path [] (codes "/controllers/") place) before d) (λ next one.
      controllers_from-own settings next.1 (place + 1) (before ++ next.0.0 ∷ []) (waits ++ next.0.1 ∷ []) rest (waits-push before waits next.0.0 next.0.1 all one))

  controllers-own : (settings : Settings) (names : Texts) (d : Data) → Gets (λ r. WaitByOwn r.0.0 r.0.1) (controllers_in version settings presets.Own names d)
  unfolding controllers_in
  controllers-own settings names d =
      skip (array_in 16 (codes "/controllers") d) (λ all.
      skip (not_empty (codes "/controllers") all) (λ some.
      controllers_from-own settings names 0 [] [] some refl))

  controllers-by : (settings : Settings) (preset : Preset) → preset ≡ presets.Own → (names : Texts) (d : Data)
      → Gets (λ r. WaitByOwn r.0.0 r.0.1) (controllers_in version settings preset names d)
  controllers-by settings preset own names d = subst (λ p. Gets (λ r. WaitByOwn r.0.0 r.0.1) (controllers_in version settings p names d)) (sym own) (controllers-own settings names d)

  -- ---- the types of events

  types-usual : (text : List ℕ) → Has IsUsual (type_of version text)
  types-usual text =
      usual (bytes_eq text (codes "rate")) types.Rate _ tt
      (usual (bytes_eq text (codes "delay")) types.Delay _ tt
      (usual (bytes_eq text (codes "loss")) types.Loss _ tt
      (usual (bytes_eq text (codes "crash")) types.Crash _ tt
      (usual (bytes_eq text (codes "start")) types.Start _ tt
      (usual (bytes_eq text (codes "stop")) types.Stop _ tt
      (usual (bytes_eq text (codes "watch")) types.Watch _ tt
      (usual (bytes_eq text (codes "ready")) types.Ready _ tt
      (usual (bytes_eq text (codes "pause") && is_from_three version) types.Pause _ tt
      (never (bytes_eq text (codes "stall")) (is_four version) types.Stall _ earlier
      (usual (bytes_eq text (codes "put")) types.Put _ tt
      (usual (bytes_eq text (codes "remove")) types.Remove _ tt tt)))))))))))

  type-usual : (path : List ℕ) (d : Data) → Gets IsUsual (type_at version path d)
  unfolding type_at
  type-usual path d =
      skip (needed_text path (codes "type") d) (λ text. of_option (type_of version text) OUT_OF_RANGE (under path (codes "type")) (types-usual text))

-- ---- what events do

-- it doesn't stop the store
abbrev Goes : What → Type 0
Goes what = stall_of what ≡ None

module _ (cast : Cast) (names : Texts) (path : List ℕ) (d : Data) where
  rate-goes : Gets Goes (rate_at cast names path d)
  rate-goes = skip (process_at (process_named cast names) path d) (λ who. skip (needed_whole 500000 2000000 path (codes "ratePpm") d) (λ ppm. done _ refl))

  delay-goes : Gets Goes (delay_at cast names path d)
  unfolding delay_at
  delay-goes =
      skip (process_at (process_named cast names) path d) (λ who.
      skip (needed_whole 1 6000 path (codes "requestBeats") d) (λ requests.
      skip (needed_whole 1 6000 path (codes "replyBeats") d) (λ replies. done _ refl)))

  loss-goes : Gets Goes (loss_at cast names path d)
  unfolding loss_at
  loss-goes =
      skip (process_at (process_named cast names) path d) (λ who.
      skip (needed_flag path (codes "requests") d) (λ requests.
      skip (needed_flag path (codes "replies") d) (λ replies. done _ refl)))

  crash-goes : Gets Goes (crash_at cast names path d)
  crash-goes = skip (process_at (process_named cast names) path d) (λ who. done _ refl)

  start-goes : Gets Goes (start_at cast names path d)
  start-goes = skip (process_at (process_named cast names) path d) (λ who. done _ refl)

  stop-goes : Gets Goes (stop_at cast names path d)
  stop-goes = skip (process_at (controller_named cast names) path d) (λ who. done _ refl)

  watch-goes : Gets Goes (watch_at cast names path d)
  watch-goes = skip (process_at (controller_named cast names) path d) (λ who. skip (needed_flag path (codes "on") d) (λ on. done _ refl))

  ready-goes : Gets Goes (ready_at cast names path d)
  ready-goes = skip (process_at (kubelet_named cast names) path d) (λ who. skip (needed_posted path (codes "status") d) (λ status. done _ refl))

  pause-goes : Gets Goes (pause_at cast names path d)
  unfolding pause_at
  pause-goes = skip (process_at (process_named cast names) path d) (λ who. skip (needed_whole 1 604800000 path (codes "beats") d) (λ beats. done _ refl))

  put-goes : Gets (λ r. Goes r.0) (put_at cast names path d)
  unfolding put_at
  put-goes = skip (object_under cast names path d) (λ found. done _ refl)

  remove-goes : Gets (λ r. Goes r.0) (remove_at names path d)
  unfolding remove_at
  remove-goes =
      skip (kind_at path d) (λ kind.
      skip (name_at (codes "default") path (codes "namespace") d) (λ text.
      skip (space_of names kind text) (λ space.
      skip (named_at space.1 path (codes "name") d) (λ name. done _ refl))))

  beside-goes : (walk : Result What Refusal) → Gets Goes walk → Gets (λ r. Goes r.0) (beside names walk)
  beside-goes walk h = and_then h (λ what goes. done _ goes)

  what-goes : (kind : EventType) → IsUsual kind → Gets (λ r. Goes r.0) (what_at cast names path kind d)
  unfolding what_at
  what-goes types.Rate is = beside-goes _ rate-goes
  what-goes types.Delay is = beside-goes _ delay-goes
  what-goes types.Loss is = beside-goes _ loss-goes
  what-goes types.Crash is = beside-goes _ crash-goes
  what-goes types.Start is = beside-goes _ start-goes
  what-goes types.Stop is = beside-goes _ stop-goes
  what-goes types.Watch is = beside-goes _ watch-goes
  what-goes types.Ready is = beside-goes _ ready-goes
  what-goes types.Pause is = beside-goes _ pause-goes
  what-goes types.Stall is = absurd is
  what-goes types.Put is = put-goes
  what-goes types.Remove is = remove-goes

if_event-goes : (end last : ℕ) (before : List Event) (path : List ℕ) (beat : ℕ) (what : What) (names : Texts) → Goes what
    → Gets (λ r. Goes r.0.what) (if_event end last before path beat what names)
if_event-goes end last before path beat what names goes =
    by_test (nat_lt beat last || nat_lt end beat) _ _ (λ _. refused _) (λ _.
    by_test (is_too_soon before beat what) _ _ (λ _. refused _) (λ _.
    by_test (edits_election what) _ _ (λ _. refused _) (λ _. done _ goes)))

-- the events of a version before 4
module _ (scope : Scope) (cast : Cast) (earlier : is_four scope.version ≡ false) where
  event-goes : (names : Texts) (last : ℕ) (before : List Event) (path : List ℕ) (value : Data) → Gets (λ r. Goes r.0.what) (event_at scope cast names last before path value)
  unfolding event_at
  event-goes names last before path value =
      skip (object_at WRONG_TYPE path value) (λ d.
      skip (needed_whole 0 604800000 path (codes "beat") d) (λ beat.
      and_then (type-usual scope.version earlier path d) (λ kind is.
      skip (known_in (tables.Event kind) path d) (λ known.
      and_then (what-goes cast names path known kind is) (λ what goes.
      if_event-goes scope.end.0 last before path beat what.0 what.1 goes)))))

  events_from-go : (names : Texts) (place last : ℕ) (before : List Event) (rest : Items) → Gets (λ r. AreUnstalled r.0) (events_from scope cast names place last before rest)
  unfolding events_from
  events_from-go names place last before no_items = done _ tt
  events_from-go names place last before (item d rest) =
      and_then (event-goes names last before (member_path [] (codes "/events/") place) d) (λ next one.
      and_then (events_from-go next.1 (place + 1) next.0.beat.0 (before ++ next.0 ∷ []) rest) (λ more all.
      done _ (one, all)))

  events-go : (names : Texts) (d : Data) → Gets (λ r. AreUnstalled r.0) (events_at scope cast names d)
  unfolding events_in
  events-go names d =
      of_default {P = λ r. AreUnstalled r.0} (events_in scope cast names) ([], names) (get (codes "events") d) tt (λ found.
      skip (array_in (event_limit (scale_of scope.version)) (codes "/events") found) (λ all. events_from-go names 0 0 [] all))

-- ---- the document

-- the rules that run are the project's own
abbrev IsByOwn : Document → Type 0
IsByOwn d = ReleasesByStop (doc_of d) × ElectsByOwn (doc_of d) × SettlesAtOnce (doc_of d) × ProbesByRun (doc_of d) × JudgesByOwn (doc_of d)
    × StartsEmpty (doc_of d) × EvictsByOwn (doc_of d) × PassesTakeNoWork (doc_of d) × AreUnstalled (doc_of d).events

document-own : (value : Data) → says_four (get (codes "version") value) ≡ false → Gets IsByOwn (document_at value)
unfolding document_at
document-own value other =
    and_then (top-same value) (λ d same.
    and_then (required-version (get (codes "version") d) (ap (λ v. says_four (get (codes "version") v)) same ∙ other)) (λ version earlier.
    and_then (of_required (settings_at version (codes "/settings")) (codes "/settings") (get (codes "settings") d) (settings-own version earlier (codes "/settings"))) (λ settings own.
    and_then (of_required (controllers_in version settings.0 settings.1 fixed_names) (codes "/controllers") (get (codes "controllers") d) (controllers-by version earlier settings.0 settings.1 own.1 fixed_names)) (λ controllers waits.
    skip (default_of ([], controllers.1) (kubelets_in version settings.0 controllers.1) (get (codes "kubelets") d)) (λ kubelets.
    skip (objects_at version kubelets.1 (numbers_of controllers.0.0) d) (λ objects.
    and_then (events-go (scope_of version settings.0) (cast_of controllers.0.0 kubelets.0) earlier objects.1 d) (λ events unstalled.
    done _ (
      record { release = own.0.release; still = own.0.still },
      record { retries = own.0.retries; waits = waits; respect = own.0.respect },
      own.0.at_once,
      own.0.probe,
      record { judge = own.0.judge; sight = own.0.sight },
      own.0.bucket,
      record { from = own.0.from; burst = own.0.burst },
      own.0.no_work,
      unstalled,
    ))))))))

pub earlier-own : EarlierGoByOwn
unfolding document_walk
earlier-own bytes value d reads other gives = (document-own value other).at d (sym (ap (λ r. r >>= document_at) reads) ∙ gives)
