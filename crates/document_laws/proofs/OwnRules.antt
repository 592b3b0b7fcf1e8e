-- What settings come to by their preset and rules. Where a key of rules is missing, the rules stay those of the preset.
use Rattle.std.proofs.Common.{◌≡◌, ℕ, false, codes, List, None, Result, Ok, refl, sym, subst}
use Rattle.serde_json.specs.Data.{Data}
use Rattle.serde_json.specs.Find.{get}
use Rattle.kube_objects.specs.declared.rules.Rules.{Rules}
use Rattle.manifest_json.specs.declared.fault.Refusal.{Refusal}
use Rattle.manifest_laws.proofs.Getting.{Gets, done, and_then, skip}
use Rattle.script_reader.specs.declared.choice.Preset.{Preset}
use Rattle.script_reader.specs.declared.table.Table.TheVariants as tables
use Rattle.script_reader.specs.declared.table.Version.{Version}
use Rattle.script_reader.specs.Choices.{preset_at}
use Rattle.script_reader.specs.Fields.{flag_at, policy_at}
use Rattle.script_reader.specs.Rules.{tainting_at, ending_at, rules_at}
use Rattle.script_reader.specs.Walk.{beats_at, timings_at, standard, periods_at, rates_at, fast_renew_of, settings_of, settings_at}
use Rattle.document_laws.proofs.ProcessRanges.{sound-in}
use Rattle.document_laws.proofs.Scales.{Knows, object-is}

-- a walk's value is what it gives
pub itself : {A : Type 0} (walk : Result A Refusal) → Gets (λ x. walk ≡ Ok x) walk
itself walk = record { at = λ x e. e }

pub tainting-default : (rules : Rules) (path : List ℕ) (d : Data) → get (codes "queue") d ≡ None → get (codes "bucket") d ≡ None → get (codes "evictFrom") d ≡ None
    → get (codes "evictBurst") d ≡ None → get (codes "evictRate") d ≡ None → tainting_at rules path d ≡ Ok rules
unfolding tainting_at
tainting-default rules path d queue bucket from burst rate = rw (queue, bucket, from, burst, rate) refl

pub ending-default : (rules : Rules) (path : List ℕ) (d : Data) → get (codes "release") d ≡ None → get (codes "inRelease") d ≡ None → get (codes "readyMillis") d ≡ None
    → get (codes "readyBurst") d ≡ None → ending_at rules path d ≡ Ok rules
unfolding ending_at
ending-default rules path d release acting millis burst = rw (release, acting, millis, burst) refl

-- of settings with no unknown key: their preset, and the rules under it
abbrev Rule : (Rules → Preset → Type 0) → Version → List ℕ → Data → Type 0
Rule P version path d = Knows (tables.Settings version) d → Gets (λ preset. Gets (λ rules. P rules preset) (rules_at preset path d)) (preset_at path d)

-- whatever else the settings say
pub settings-by : (P : Rules → Preset → Type 0) (version : Version) (path : List ℕ) (value : Data) → Rule P version path value
    → Gets (λ r. P r.0.rules r.1) (settings_at version path value)
unfolding settings_at
settings-by P version path value rule =
    and_then (object-is (tables.Settings version) path value) (λ d known.
    skip (beats_at path d) (λ beats.
    skip (timings_at standard path d) (λ timings.
    skip (periods_at path d) (λ periods.
    skip (rates_at path d) (λ rates.
    skip (flag_at false path (codes "fastRenew") d) (λ fast.
    skip (policy_at path (codes "ratePolicy") d) (λ policy.
    and_then (subst (Rule P version path) (sym known.0) rule known.1) (λ preset under.
    and_then under (λ rules holds.
    and_then (sound-in path timings rates (settings_of beats timings periods rates (fast_renew_of fast preset (get (codes "fastRenew") d)) policy rules)) (λ s parts.
    done (s, preset) (rw parts.3 holds)))))))))))
