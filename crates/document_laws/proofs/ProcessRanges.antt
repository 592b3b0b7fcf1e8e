-- The settings, the controllers and the kubelets of a document are lawful, and the names hold those of the processes.
use Rattle.std.proofs.Common.{◌≡◌, ℕ, ◌+◌, ◌*◌, ◌<◌, ◌≤◌, nat_le, nat_lt, ◌==◌, ◌&&◌, ◌||◌, ◌++◌, Bool, true, false, List, [], ◌∷◌, length, codes, Option, Some, None, Ok, pos, negsuc, refl, sym, ap, subst, ◌∙◌, leb-true, ltb-true, ltb-false, arith, length-append}
use Rattle.std.specs.Prelude.{All}
use Rattle.std.specs.Int.Signed.{le_z_yes}
use Rattle.std.specs.List.{AllByRecursion, IsDistinct, list_any}
use Rattle.std.proofs.lemmas.Bool.{and_parts}
use Rattle.std.proofs.lemmas.Bool.Decides.{nat_tests}
use Rattle.std.proofs.lemmas.List.Elements.{All-push, All-nil, All-weaker}
use Rattle.serde_json.specs.Data.{Data, Items, no_items, item}
use Rattle.serde_json.specs.Find.{get}
use Rattle.kube_base.specs.Times.{time_of}
use Rattle.kube_base.specs.declared.numbers.Wall.{Wall}
use Rattle.kube_objects.specs.declared.script.Proc.{Proc}
use Rattle.kube_objects.specs.declared.settings.Settings.{Settings}
use Rattle.manifest_laws.proofs.Getting.{Gets, done, refused, weaker, by_test, and_then, skip}
use Rattle.manifest_laws.proofs.Growing.{Grows, Grows-none, Grows-then}
use Rattle.manifest_laws.proofs.ReadFields.{Reads, numbered-reads}
use Rattle.manifest_laws.proofs.ReadableGrows.{all-push, IsNameNumber-grows}
use Rattle.manifest_json.specs.Fields.{Texts, is_name, numbered}
use Rattle.manifest_json.specs.Readable.{IsNameNumber}
use Rattle.manifest_json.specs.Walk.{items_len, member_path}
use Rattle.script_reader.specs.declared.choice.Preset.{Preset}
use Rattle.script_reader.specs.declared.parts.Beats.{Beats}
use Rattle.script_reader.specs.declared.parts.Clock.{Clock}
use Rattle.script_reader.specs.declared.parts.Periods.{Periods}
use Rattle.script_reader.specs.declared.parts.Rates.{Rates}
use Rattle.script_reader.specs.declared.parts.Timings.{Timings}
use Rattle.script_reader.specs.declared.table.Table.TheVariants as tables
use Rattle.script_reader.specs.declared.table.Version.{Version}
use Rattle.script_reader.specs.Fields.{under, text_at, needed_text, if_name, needed_name, name_at, needed_whole, whole_at, flag_at, policy_at, if_epoch, epoch_at}
use Rattle.script_reader.specs.Choices.{preset_at}
use Rattle.script_reader.specs.Rules.{rules_at, agree}
use Rattle.script_reader.specs.Limits.{scale_of, kubelet_limit}
use Rattle.script_reader.specs.Lawful.{AreLawful, IsPosted, IsLawful, AreNamedApart, AreWaits}
use Rattle.script_reader.specs.Walk.{Team, if_sound, if_controller, object_in, if_end, beats_at, timings_at, standard, periods_at, rates_at, is_sound, fast_renew_of, settings_of, settings_at, named_at, clock_at, timings_of, has_name, numbers_of, controller_of, controller_at, controllers_from, controllers_in, kubelet_of, kubelet_at, kubelets_from, kubelets_in}
use Rattle.document_laws.proofs.WaitRanges.{waits_at-in}
use Rattle.document_laws.proofs.FieldRanges.{IsIn, whole_at-in, IsSignedIn, signed_at-in, posted_at-in, array-few, not_empty-some}
use Rattle.script_reader.proofs.Named.{any_map, numbers-push}

-- ---- settings

epoch-in : (path : List ℕ) (w : Option Wall) → Gets (λ at. (946684800000000 ≤ at.0) × (at.0 < 7258118400000000)) (if_epoch path w)
epoch-in path None = refused _
epoch-in path (Some w) =
    by_test (nat_le 946684800000000 w.0 && nat_lt w.0 7258118400000000) _ _
    (λ e. let both = and_parts (nat_le 946684800000000 w.0) (nat_lt w.0 7258118400000000) e in done w (leb-true 946684800000000 w.0 both.0, ltb-true w.0 7258118400000000 both.1))
    (λ e. refused _)

epoch_at-in : (path key : List ℕ) (d : Data) → Gets (λ at. (946684800000000 ≤ at.0) × (at.0 < 7258118400000000)) (epoch_at path key d)
unfolding epoch_at
epoch_at-in path key d = skip (text_at (codes "2024-01-01T00:00:00Z") path key d) (λ text. epoch-in (under path key) (time_of text))

end-in : (path : List ℕ) (millis end : ℕ) → Gets (λ beat. beat.0 * millis ≤ 604800000) (if_end path millis end)
end-in path millis end = by_test (nat_lt 604800000 (end * millis)) _ _ (λ e. refused _) (λ e. done _ (ltb-false 604800000 (end * millis) e))

record AreBeats (b : Beats) : Type 0 where
  pub least : 1 ≤ b.millis
  pub most : b.millis ≤ 1000
  pub end : b.end.0 * b.millis ≤ 604800000
  pub epoch_least : 946684800000000 ≤ b.epoch.0
  pub epoch_most : b.epoch.0 < 7258118400000000

beats-in : (path : List ℕ) (d : Data) → Gets AreBeats (beats_at path d)
unfolding beats_at
beats-in path d =
    and_then (whole_at-in 1 1000 100 path (codes "beatMillis") d (omega arith, omega arith)) (λ millis m.
    skip (needed_whole 0 604800000 path (codes "endBeat") d) (λ number.
    and_then (end-in (under path (codes "endBeat")) millis number) (λ end e.
    and_then (epoch_at-in path (codes "epoch") d) (λ epoch p.
    done _ (record { least = m.0; most = m.1; end = e; epoch_least = p.0; epoch_most = p.1 })))))

pub record AreTimings (t : Timings) : Type 0 where
  pub lease : IsIn 1 86400 t.lease_seconds
  pub renew : IsIn 1 86400000 t.renew_millis
  pub retry : IsIn 1 86400000 t.retry_millis
  pub timeout : IsIn 1 600000 t.timeout_millis

timings-in : (default : Timings) (path : List ℕ) (d : Data) → AreTimings default → Gets AreTimings (timings_at default path d)
unfolding timings_at
timings-in default path d h =
    and_then (whole_at-in 1 86400 default.lease_seconds path (codes "leaseDurationSeconds") d h.lease) (λ lease a.
    and_then (whole_at-in 1 86400000 default.renew_millis path (codes "renewDeadlineMillis") d h.renew) (λ renew b.
    and_then (whole_at-in 1 86400000 default.retry_millis path (codes "retryPeriodMillis") d h.retry) (λ retry c.
    and_then (whole_at-in 1 600000 default.timeout_millis path (codes "callTimeoutMillis") d h.timeout) (λ timeout e.
    done _ (record { lease = a; renew = b; retry = c; timeout = e })))))

standard-in : AreTimings standard
standard-in = record { lease = (omega arith, omega arith); renew = (omega arith, omega arith); retry = (omega arith, omega arith); timeout = (omega arith, omega arith) }

-- the lease outlasts the renew deadline, and that the retry period by more than a fifth of it
pub record Outlast (t : Timings) : Type 0 where
  pub lease : t.renew_millis < t.lease_seconds * 1_000
  pub renew : 6 * t.retry_millis < 5 * t.renew_millis

outlast : (t : Timings) → is_sound t ≡ true → Outlast t
outlast t e =
    let parts = and_parts (nat_lt t.renew_millis (t.lease_seconds * 1_000)) (nat_lt (6 * t.retry_millis) (5 * t.renew_millis)) e in
    record { lease = ltb-true t.renew_millis (t.lease_seconds * 1_000) parts.0; renew = ltb-true (6 * t.retry_millis) (5 * t.renew_millis) parts.1 }

record ArePeriods (p : Periods) : Type 0 where
  pub restart : IsIn 1 86400000 p.restart_millis
  pub monitor : IsIn 1 604800000 p.monitor_millis
  pub grace : IsIn 1 604800000 p.grace_millis
  pub startup : IsIn 1 604800000 p.startup_millis
  pub lease : IsIn 1 86400 p.node_lease_seconds

periods-in : (path : List ℕ) (d : Data) → Gets ArePeriods (periods_at path d)
unfolding periods_at
periods-in path d =
    and_then (whole_at-in 1 86400000 1000 path (codes "restartMillis") d (omega arith, omega arith)) (λ restart r.
    and_then (whole_at-in 1 604800000 5000 path (codes "monitorPeriodMillis") d (omega arith, omega arith)) (λ monitor m.
    and_then (whole_at-in 1 604800000 40000 path (codes "gracePeriodMillis") d (omega arith, omega arith)) (λ grace g.
    and_then (whole_at-in 1 604800000 60000 path (codes "startupGraceMillis") d (omega arith, omega arith)) (λ startup s.
    and_then (whole_at-in 1 86400 40 path (codes "nodeLeaseDurationSeconds") d (omega arith, omega arith)) (λ lease l.
    done _ (record { restart = r; monitor = m; grace = g; startup = s; lease = l }))))))

record AreRates (r : Rates) : Type 0 where
  pub primary : r.primary ≤ 1000000
  pub large_zone : r.large_zone ≤ 1000000
  pub percent : r.unhealthy_percent ≤ 100

rates-in : (path : List ℕ) (d : Data) → Gets AreRates (rates_at path d)
unfolding rates_at
rates-in path d =
    and_then (whole_at-in 0 1000000 100 path (codes "primaryRate") d (omega arith, omega arith)) (λ primary p.
    skip (whole_at 10 0 1_000_000 path (codes "secondaryRate") d) (λ secondary.
    and_then (whole_at-in 0 1000000 50 path (codes "largeZone") d (omega arith, omega arith)) (λ large l.
    and_then (whole_at-in 0 100 55 path (codes "unhealthyPercent") d (omega arith, omega arith)) (λ percent u.
    done _ (record { primary = p.1; large_zone = l.1; percent = u.1 })))))

-- settings that were read
pub record AreRead (s : Settings) : Type 0 where
  pub lawful : AreLawful s
  pub timings : AreTimings (timings_of s)
  pub outlast : Outlast (timings_of s)

-- the own rule of settings
pub sound-in : (path : List ℕ) (t : Timings) (r : Rates) (settings : Settings)
    → Gets (λ s. (is_sound t ≡ true) × (r.secondary ≤ r.primary) × (agree settings.rules ≡ true) × (s ≡ settings)) (if_sound path t r settings)
sound-in path t r settings =
    by_test (is_sound t && nat_le r.secondary r.primary && agree settings.rules) _ _
    (λ e.
    let parts = and_parts (is_sound t && nat_le r.secondary r.primary) (agree settings.rules) e in
    let both = and_parts (is_sound t) (nat_le r.secondary r.primary) parts.0 in
    done settings (both.0, leb-true r.secondary r.primary both.1, parts.1, refl))
    (λ e. refused _)

pub settings-in : (version : Version) (path : List ℕ) (value : Data) → Gets (λ r. AreRead r.0) (settings_at version path value)
unfolding settings_at
settings-in version path value =
    skip (object_in (tables.Settings version) path value) (λ d.
    and_then (beats-in path d) (λ beats b.
    and_then (timings-in standard path d standard-in) (λ timings t.
    and_then (periods-in path d) (λ periods p.
    and_then (rates-in path d) (λ rates r.
    skip (flag_at false path (codes "fastRenew") d) (λ fast.
    skip (policy_at path (codes "ratePolicy") d) (λ policy.
    skip (preset_at path d) (λ preset.
    skip (rules_at preset path d) (λ rules.
    let settings = settings_of beats timings periods rates (fast_renew_of fast preset (get (codes "fastRenew") d)) policy rules in
    and_then (sound-in path timings rates settings) (λ s parts.
    let own = outlast timings parts.0 in
    done (s, preset) (subst AreRead (sym parts.3) (record {
      lawful = record {
        beat_least = b.least;
        beat_most = b.most;
        end = b.end;
        epoch_least = b.epoch_least;
        epoch_most = b.epoch_most;
        lease_least = t.lease.0;
        lease = t.lease.1;
        renew_least = t.renew.0;
        renew = t.renew.1;
        retry_least = t.retry.0;
        retry = t.retry.1;
        timeout_least = t.timeout.0;
        timeout = t.timeout.1;
        restart_least = p.restart.0;
        restart = p.restart.1;
        monitor_least = p.monitor.0;
        monitor = p.monitor.1;
        grace_least = p.grace.0;
        grace = p.grace.1;
        startup_least = p.startup.0;
        startup = p.startup.1;
        node_lease_least = p.lease.0;
        node_lease = p.lease.1;
        primary = r.primary;
        secondary = parts.1;
        large_zone = r.large_zone;
        percent = r.percent;
        rules = parts.2;
        renew_within_lease = own.lease;
        retry_within_renew = own.renew;
      };
      timings = record { lease = t.lease; renew = t.renew; retry = t.retry; timeout = t.timeout };
      outlast = record { lease = own.lease; renew = own.renew };
    }))))))))))))

-- ---- controllers

record IsClock (c : Clock) : Type 0 where
  pub rate : IsIn 500000 2000000 c.rate_ppm
  pub offset : IsSignedIn (negsuc 31535999999) (pos 31536000000) c.offset_millis

clock-in : (path : List ℕ) (d : Data) → Gets IsClock (clock_at path d)
unfolding clock_at
clock-in path d =
    and_then (whole_at-in 500000 2000000 1000000 path (codes "ratePpm") d (omega arith, omega arith)) (λ rate r.
    and_then (signed_at-in (negsuc 31535999999) (pos 31536000000) (pos 0) path (codes "offsetMillis") d (le_z_yes tt, le_z_yes tt)) (λ offset o.
    skip (flag_at true path (codes "up") d) (λ up. done _ (record { rate = r; offset = o }))))

lawful-from : (c : Clock) (t : Timings) (p : Proc) → IsClock c → AreTimings t → Outlast t → IsPosted p.ready → p.rate_ppm ≡ c.rate_ppm → p.offset_millis ≡ c.offset_millis → p.lease_seconds ≡ t.lease_seconds → p.renew_millis ≡ t.renew_millis → p.retry_millis ≡ t.retry_millis → p.timeout_millis ≡ t.timeout_millis → IsLawful p
lawful-from c t p clock timings own posted rate offset lease renew retry timeout =
    record {
      rate_least = rw rate clock.rate.0;
      rate_most = rw rate clock.rate.1;
      offset_least = rw offset clock.offset.0;
      offset_most = rw offset clock.offset.1;
      ready = posted;
      lease_least = rw lease timings.lease.0;
      lease = rw lease timings.lease.1;
      renew_least = rw renew timings.renew.0;
      renew = rw renew timings.renew.1;
      retry_least = rw retry timings.retry.0;
      retry = rw retry timings.retry.1;
      timeout_least = rw timeout timings.timeout.0;
      timeout = rw timeout timings.timeout.1;
      renew_within_lease = rw (renew, lease) own.lease;
      retry_within_renew = rw (renew, retry) own.renew;
    }

-- ---- names

if_name-in : (path text : List ℕ) → Gets (λ t. is_name t ≡ true) (if_name path text)
if_name-in path text = by_test (is_name text) _ _ (λ e. done text e) (λ e. refused _)

pub needed_name-in : (path key : List ℕ) (d : Data) → Gets (λ t. is_name t ≡ true) (needed_name path key d)
unfolding needed_name
needed_name-in path key d = skip (needed_text path key d) (λ text. if_name-in (under path key) text)

pub name_at-in : (default path key : List ℕ) (d : Data) → Gets (λ t. is_name t ≡ true) (name_at default path key d)
unfolding name_at
name_at-in default path key d = skip (text_at default path key d) (λ text. if_name-in (under path key) text)

-- a name that is numbered
pub named-number : (names : Texts) (text : List ℕ) → is_name text ≡ true → Reads names IsNameNumber (numbered names text)
named-number names text e = weaker (numbered-reads names text) (λ r h. (h.0, (h.1.0, ap is_name h.1.1 ∙ e)))

pub named_at-reads : (names : Texts) (path key : List ℕ) (d : Data) → Reads names IsNameNumber (named_at names path key d)
unfolding named_at
named_at-reads names path key d = and_then (needed_name-in path key d) (λ text e. named-number names text e)

distinct-push : (ns : List ℕ) (n : ℕ) → IsDistinct (λ a b. a == b) ns → list_any (λ m. n == m) ns ≡ false → IsDistinct (λ a b. a == b) (ns ++ n ∷ [])
unfolding IsDistinct
distinct-push [] n distinct new = (tt, tt)
distinct-push (m ∷ ns) n distinct new =
    let both = neither (n == m) (list_any (λ m. n == m) ns) new in
    (push ns distinct.0 (other n m both.0), distinct-push ns n distinct.1 both.1)
  where
    neither : (a b : Bool) → (a || b) ≡ false → (a ≡ false) × (b ≡ false)
    neither false b e = (refl, e)
    neither true b e = absurd (let none : ⊥ = cc in none)

    other : (n m : ℕ) → (n == m) ≡ false → (m == n) ≡ false
    other n m e = grind (arith, nat_tests)

    push : (ns : List ℕ) → AllByRecursion (λ k. (m == k) ≡ false) ns → (m == n) ≡ false → AllByRecursion (λ k. (m == k) ≡ false) (ns ++ n ∷ [])
    push ns all one = all-push (λ k. (m == k) ≡ false) ns n all one

-- processes that were read: lawful, with names that differ and are held
pub record AreProcs (names : Texts) (ps : List Proc) : Type 0 where
  pub lawful : All IsLawful ps
  pub apart : AreNamedApart ps
  pub named : All (λ p. IsNameNumber names p.name) ps

record IsProc (earlier : List Proc) (names : Texts) (p : Proc) : Type 0 where
  pub lawful : IsLawful p
  pub named : IsNameNumber names p.name
  pub new : has_name p.name earlier ≡ false

pub AreProcs-none : (names : Texts) → AreProcs names []
unfolding IsDistinct
AreProcs-none names = record { lawful = All-nil IsLawful; apart = tt; named = All-nil (λ p. IsNameNumber names p.name) }

pub named-grow : {a b : Texts} (g : Grows a b) (ps : List Proc) → All (λ p. IsNameNumber a p.name) ps → All (λ p. IsNameNumber b p.name) ps
named-grow {a} {b} g ps all = All-weaker (λ p. IsNameNumber a p.name) (λ p. IsNameNumber b p.name) (λ p h. IsNameNumber-grows g p.name h) ps all

AreProcs-push : {a b : Texts} (g : Grows a b) (ps : List Proc) (p : Proc) → AreProcs a ps → IsProc ps b p → AreProcs b (ps ++ p ∷ [])
AreProcs-push {a} {b} g ps p all one =
    record {
      lawful = All-push IsLawful ps p all.lawful one.lawful;
      apart = subst (IsDistinct (λ a b. a == b)) (sym (numbers-push ps p)) (distinct-push (numbers_of ps) p.name all.apart (any_map p.name ps ∙ one.new));
      named = All-push (λ p. IsNameNumber b p.name) ps p (named-grow g ps all.named) one.named;
    }

-- processes behind earlier ones, of which there are so many
abbrev AreMany : ℕ → Texts → List Proc → Type 0
AreMany many names ps = AreProcs names ps × (length ps ≡ many)

-- a controller with its waits, behind earlier ones
abbrev IsController : List Proc → Texts → Proc × List ℕ → Type 0
IsController earlier names c = IsProc earlier names c.0 × AreWaits c.1

-- the waits of each of these controllers
pub record AreWaitsEach (ps : List Proc) (waits : List (List ℕ)) : Type 0 where
  pub lawful : All AreWaits waits
  pub each : length waits ≡ length ps

AreWaitsEach-none : AreWaitsEach [] []
AreWaitsEach-none = record { lawful = All-nil AreWaits; each = refl }

AreWaitsEach-push : (ps : List Proc) (p : Proc) (all : List (List ℕ)) (waits : List ℕ) → AreWaitsEach ps all → AreWaits waits
    → AreWaitsEach (ps ++ p ∷ []) (all ++ waits ∷ [])
AreWaitsEach-push ps p all waits h one =
    record {
      lawful = All-push AreWaits all waits h.lawful one;
      each = omega (arith, h.each, length-append all (waits ∷ []), length-append ps (p ∷ []));
    }

-- controllers and the waits of each, of which there are so many
abbrev IsTeam : ℕ → Texts → Team → Type 0
IsTeam many names team = AreMany many names team.0 × AreWaitsEach team.0 team.1

if_controller-in : (names : Texts) (path : List ℕ) (earlier : List Proc) (name : ℕ × Texts) (clock : Clock) (watch : Bool) (ts : Timings)
    → Grows names name.1 × IsNameNumber name.1 name.0 → IsClock clock → AreTimings ts
    → Reads names (IsProc earlier) (if_controller path earlier name.0 ts (controller_of name.0 clock watch ts) name.1)
if_controller-in names path earlier name clock watch ts n c t =
    by_test (has_name name.0 earlier) _ _
    (λ e. refused _)
    (λ e. by_test (is_sound ts) (Ok (controller_of name.0 clock watch ts, name.1)) _
    (λ f. done _ (n.0, record { lawful = lawful-from clock ts _ c t (outlast ts f) tt refl refl refl refl refl refl; named = n.1; new = e }))
    (λ f. refused _))

-- the timings of settings that were read are those of a process without its own
module _ (settings : Settings) (timings : AreTimings (timings_of settings)) (own : Outlast (timings_of settings)) where
  controller-in : (version : Version) (preset : Preset) (names : Texts) (path : List ℕ) (earlier : List Proc) (value : Data) → Reads names (IsController earlier) (controller_at version settings preset names path earlier value)
  unfolding controller_at
  controller-in version preset names path earlier value =
      skip (object_in (tables.Controller version) path value) (λ d.
      and_then (named_at-reads names path (codes "name") d) (λ name n.
      and_then (clock-in path d) (λ clock c.
      skip (flag_at true path (codes "watch") d) (λ watch.
      and_then (timings-in (timings_of settings) path d timings) (λ ts t.
      and_then (waits_at-in preset path d) (λ waits w.
      and_then (if_controller-in names path earlier name clock watch ts n c t) (λ controller r.
      done ((controller.0, waits), controller.1) (r.0, (r.1, w)))))))))

  controllers_from-in : (version : Version) (preset : Preset) (names : Texts) (place : ℕ) (earlier : List Proc) (waits : List (List ℕ)) (rest : Items) → AreProcs names earlier
      → AreWaitsEach earlier waits → Reads names (IsTeam (length earlier + items_len rest)) (controllers_from version settings preset names place earlier waits rest)
  unfolding controllers_from
  controllers_from-in version preset names place earlier waits no_items all each = done _ (Grows-none names, ((all, omega arith), each))
  controllers_from-in version preset names place earlier waits (item d rest) all each =
      and_then (controller-in version preset names (member_path [] (codes "/controllers/") place) earlier d) (λ next n.
      weaker (controllers_from-in version preset next.1 (place + 1) (earlier ++ next.0.0 ∷ []) (waits ++ next.0.1 ∷ []) rest (AreProcs-push n.0 earlier next.0.0 all n.1.0) (AreWaitsEach-push earlier next.0.0 waits next.0.1 each n.1.1))
      (λ r h. (Grows-then n.0 h.0, ((h.1.0.0, omega (arith, h.1.0.1, length-append earlier (next.0.0 ∷ []))), h.1.1))))

  -- 1 to 16 controllers
  pub controllers-in : (version : Version) (preset : Preset) (names : Texts) (d : Data) → Reads names (λ ns team. (AreProcs ns team.0 × (1 ≤ length team.0) × (length team.0 ≤ 16)) × AreWaitsEach team.0 team.1) (controllers_in version settings preset names d)
  unfolding controllers_in
  controllers-in version preset names d =
      and_then (array-few 16 (codes "/controllers") d) (λ all few.
      and_then (not_empty-some 16 (codes "/controllers") all few) (λ some h.
      weaker (controllers_from-in version preset names 0 [] [] some (AreProcs-none names) AreWaitsEach-none)
      (λ r k. (k.0, ((k.1.0.0, omega (arith, k.1.0.1, h.0), omega (arith, k.1.0.1, h.1)), k.1.1)))))

  -- ---- kubelets

  kubelet-in : (names : Texts) (path : List ℕ) (earlier : List Proc) (value : Data) → Reads names (IsProc earlier) (kubelet_at settings names path earlier value)
  unfolding kubelet_at
  kubelet-in names path earlier value =
      skip (object_in tables.Kubelet path value) (λ d.
      and_then (named_at-reads names path (codes "node") d) (λ name n.
      and_then (clock-in path d) (λ clock c.
      and_then (posted_at-in path (codes "ready") d) (λ ready r.
      by_test (has_name name.0 earlier) _ (Ok (kubelet_of name.0 clock ready (timings_of settings), name.1))
      (λ e. refused _)
      (λ e. done _ (n.0, record { lawful = lawful-from clock (timings_of settings) _ c timings own r refl refl refl refl refl refl; named = n.1; new = e }))))))

  kubelets_from-in : (names : Texts) (place : ℕ) (earlier : List Proc) (rest : Items) → AreProcs names earlier
      → Reads names (AreMany (length earlier + items_len rest)) (kubelets_from settings names place earlier rest)
  unfolding kubelets_from
  kubelets_from-in names place earlier no_items all = done _ (Grows-none names, (all, omega arith))
  kubelets_from-in names place earlier (item d rest) all =
      and_then (kubelet-in names (member_path [] (codes "/kubelets/") place) earlier d) (λ next n.
      weaker (kubelets_from-in next.1 (place + 1) (earlier ++ next.0 ∷ []) rest (AreProcs-push n.0 earlier next.0 all n.1))
      (λ r h. (Grows-then n.0 h.0, (h.1.0, omega (arith, h.1.1, length-append earlier (next.0 ∷ []))))))

  -- no more kubelets than the version allows
  pub kubelets-in : (version : Version) (names : Texts) (d : Data) → Reads names (λ ns ps. AreProcs ns ps × (length ps ≤ kubelet_limit (scale_of version))) (kubelets_in version settings names d)
  unfolding kubelets_in
  kubelets-in version names d =
      and_then (array-few (kubelet_limit (scale_of version)) (codes "/kubelets") d) (λ all few.
      weaker (kubelets_from-in names 0 [] all (AreProcs-none names)) (λ r k. (k.0, (k.1.0, omega (arith, k.1.1, few)))))
