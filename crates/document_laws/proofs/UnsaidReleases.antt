-- A document whose settings say nothing of releases, and whose rules aren't those of 1.36, has releases at stops alone: of a key that is missing the
-- choice is the preset's.
use Rattle.std.proofs.Common.{◌≡◌, ℕ, codes, List, [], Option, Some, None, Ok, refl, sym, ap, subst, ◌∙◌}
use Rattle.serde_json.specs.Data.{Data}
use Rattle.serde_json.specs.Find.{get}
use Rattle.kube_base.specs.Names.{fixed_names}
use Rattle.kube_objects.specs.Own.{ReleasesByStop}
use Rattle.kube_objects.specs.declared.rules.ReleaseActing.TheVariants.{Still}
use Rattle.kube_objects.specs.declared.rules.ReleaseRule.TheVariants.{Stop}
use Rattle.kube_objects.specs.declared.rules.Rules.{Rules}
use Rattle.manifest_json.specs.Faults.{◌>>=◌}
use Rattle.manifest_laws.proofs.Getting.{Gets, done, and_then, skip}
use Rattle.script_reader.specs.declared.choice.Preset.{Preset}
use Rattle.script_reader.specs.declared.choice.Preset.TheVariants as presets
use Rattle.script_reader.specs.declared.table.Version.{Version}
use Rattle.script_reader.specs.Choices.{choice_at, preset_at, retries_of, respect_of, probe_of, judge_of, first_sight_of, queue_of, bucket_of, evict_from_of}
use Rattle.script_reader.specs.Documents.{doc_of}
use Rattle.script_reader.specs.Fields.{default_of, required, whole_at}
use Rattle.script_reader.specs.Rules.{rules_of, judging_at, tainting_at, ending_at, rules_at}
use Rattle.script_reader.specs.Walk.{settings_at, controllers_in, kubelets_in, objects_at, numbers_of, cast_of, scope_of, version_in, document_at, document_walk, events_at}
use Rattle.document_laws.proofs.OwnRules.{settings-by}
use Rattle.document_laws.proofs.Scales.{top-same}
use Rattle.document_laws.specs.Laws.{UnsaidReleasesAreByStop}

-- ---- rules

abbrev AreByStop : Rules → Type 0
AreByStop rules = (rules.release ≡ Stop) × (rules.in_release ≡ Still)

judging-keeps : (rules : Rules) (path : List ℕ) (d : Data) → AreByStop rules → Gets AreByStop (judging_at rules path d)
unfolding judging_at
judging-keeps rules path d stops =
    skip (choice_at retries_of rules.retries path (codes "retries") d) (λ retries.
    skip (choice_at respect_of rules.respect path (codes "respect") d) (λ respect.
    skip (whole_at rules.first_sync_millis 0 604800000 path (codes "firstSyncMillis") d) (λ wait.
    skip (choice_at probe_of rules.probe path (codes "probe") d) (λ probe.
    skip (choice_at judge_of rules.judge path (codes "judge") d) (λ judge.
    skip (choice_at first_sight_of rules.first_sight path (codes "firstSight") d) (λ sight. done _ stops))))))

tainting-keeps : (rules : Rules) (path : List ℕ) (d : Data) → AreByStop rules → Gets AreByStop (tainting_at rules path d)
unfolding tainting_at
tainting-keeps rules path d stops =
    skip (choice_at queue_of rules.queue path (codes "queue") d) (λ queue.
    skip (choice_at bucket_of rules.bucket path (codes "bucket") d) (λ bucket.
    skip (choice_at evict_from_of rules.evict_from path (codes "evictFrom") d) (λ from.
    skip (whole_at rules.evict_burst 0 30000 path (codes "evictBurst") d) (λ burst.
    skip (whole_at rules.evict_rate 0 1000000000 path (codes "evictRate") d) (λ rate. done _ stops)))))

-- settings that say nothing of releases
record AreSilent (d : Data) : Type 0 where
  pub release : get (codes "release") d ≡ None
  pub in_release : get (codes "inRelease") d ≡ None

ending-keeps : (rules : Rules) (path : List ℕ) (d : Data) → AreSilent d → AreByStop rules → Gets AreByStop (ending_at rules path d)
unfolding ending_at
ending-keeps rules path d silent stops =
    rw (silent.release, silent.in_release)
    (skip (whole_at rules.ready_millis 0 60000 path (codes "readyMillis") d) (λ millis.
    skip (whole_at rules.ready_burst 0 30000 path (codes "readyBurst") d) (λ burst. done _ stops)))

preset-stops : (preset : Preset) → ¬ (preset ≡ presets.Upstream136) → AreByStop (rules_of preset)
preset-stops presets.Own other = (refl, refl)
preset-stops presets.Upstream120 other = (refl, refl)
preset-stops presets.Upstream136 other = absurd (other refl)

rules-stop : (preset : Preset) (path : List ℕ) (d : Data) → AreSilent d → ¬ (preset ≡ presets.Upstream136) → Gets AreByStop (rules_at preset path d)
unfolding rules_at
rules-stop preset path d silent other =
    and_then (judging-keeps (rules_of preset) path d (preset-stops preset other)) (λ judging stops.
    and_then (tainting-keeps judging path d stops) (λ tainting stops. ending-keeps tainting path d silent stops))

-- ---- settings

settings-stop : (version : Version) (path : List ℕ) (value : Data) → AreSilent value → ¬ (preset_at path value ≡ Ok presets.Upstream136)
    → Gets (λ r. AreByStop r.0.rules) (settings_at version path value)
settings-stop version path value silent other = settings-by (λ rules preset. AreByStop rules) version path value (λ known. record {
  at = λ preset given. rules-stop preset path value silent (λ is. other (given ∙ ap Ok is));
})

-- ---- the document

document-stops : (value settings : Data) → get (codes "settings") value ≡ Some settings → AreSilent settings → ¬ (preset_at (codes "/settings") settings ≡ Ok presets.Upstream136)
    → Gets (λ d. ReleasesByStop (doc_of d)) (document_at value)
unfolding document_at
document-stops value settings has silent other =
    and_then (top-same value) (λ d same.
    skip (required (codes "/version") version_in (get (codes "version") d)) (λ version.
    let walk = λ (o : Option Data). required (codes "/settings") (settings_at version (codes "/settings")) o in
    let here = sym (ap (get (codes "settings")) same ∙ has) in
    and_then (subst (λ o. Gets (λ r. AreByStop r.0.rules) (walk o)) here (settings-stop version (codes "/settings") settings silent other)) (λ found stops.
    skip (required (codes "/controllers") (controllers_in version found.0 found.1 fixed_names) (get (codes "controllers") d)) (λ controllers.
    skip (default_of ([], controllers.1) (kubelets_in version found.0 controllers.1) (get (codes "kubelets") d)) (λ kubelets.
    skip (objects_at version kubelets.1 (numbers_of controllers.0.0) d) (λ objects.
    skip (events_at (scope_of version found.0) (cast_of controllers.0.0 kubelets.0) objects.1 d) (λ events.
    done _ (record { release = stops.0; still = stops.1 }))))))))

pub unsaid-stops : UnsaidReleasesAreByStop
unfolding document_walk
unsaid-stops bytes value settings d reads has release in_release other gives =
    (document-stops value settings has (record { release = release; in_release = in_release }) other).at d (sym (ap (λ r. r >>= document_at) reads) ∙ gives)
