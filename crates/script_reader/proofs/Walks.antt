-- The walk of a document up to its events: where these fail, so does the walk.
use Rattle.std.proofs.Common.{◌≡◌, ℕ, [], codes, List, Result, Ok, Err, sym, subst}
use Rattle.std.specs.Prelude.{IsErr, IsErrAnd}
use Rattle.serde_json.specs.Data.{Data}
use Rattle.serde_json.specs.Find.{get}
use Rattle.kube_base.specs.Names.{fixed_names}
use Rattle.kube_objects.specs.declared.script.Proc.{Proc}
use Rattle.kube_objects.specs.declared.settings.Settings.{Settings}
use Rattle.manifest_json.proofs.Loops.{Fails-then}
use Rattle.manifest_json.specs.declared.fault.ReadFault.{ReadFault}
use Rattle.manifest_json.specs.declared.fault.Refusal.{Refusal}
use Rattle.manifest_json.specs.declared.list.Objects.{Objects}
use Rattle.manifest_json.specs.Faults.{◌>>=◌, Fails, Gives}
use Rattle.manifest_json.specs.Fields.{Texts}
use Rattle.script_reader.specs.declared.choice.Preset.{Preset}
use Rattle.script_reader.specs.declared.table.Version.{Version}
use Rattle.script_reader.specs.Fields.{default_of, required}
use Rattle.script_reader.specs.Walk.{Team, settings_at, controllers_in, kubelets_in, objects_at, numbers_of, cast_of, scope_of, version_in, top_in, events_at, document_at}

then-fails : {A B : Type 0} (e : ReadFault) (walk : Result A Refusal) (x : A) (f : A → Result B Refusal) → walk ≡ Ok x → Fails e (f x) → Fails e (walk >>= f)
then-fails e walk x f is h = subst (λ r. Fails e (r >>= f)) (sym is) h

-- what a `?` hands on
pub failed : {X : Type 0} (e : ReadFault) (r : Result X ReadFault) (walk : Result X Refusal) → IsErr r → IsErrAnd r (λ f. f ≡ e) → Fails e walk → Gives (λ x. x) r walk
failed e (Ok x) walk none is h = absurd is
failed e (Err f) walk none is h = subst (λ g. Fails g walk) (sym is) h

module _ (e : ReadFault) (d : Data) (version : Version) (settings : Settings × Preset) (c : Team × Texts) (k : List Proc × Texts) (o : Objects × Texts) where
  pub events-fail : (names : Texts) (known : List ℕ) → names ≡ fixed_names → known ≡ numbers_of c.0.0 → top_in d ≡ Ok d → required (codes "/version") version_in (get (codes "version") d) ≡ Ok version
      → required (codes "/settings") (settings_at version (codes "/settings")) (get (codes "settings") d) ≡ Ok settings
      → required (codes "/controllers") (controllers_in version settings.0 settings.1 names) (get (codes "controllers") d) ≡ Ok c
      → default_of ([], c.1) (kubelets_in version settings.0 c.1) (get (codes "kubelets") d) ≡ Ok k
      → objects_at version k.1 known d ≡ Ok o
      → Fails e (events_at (scope_of version settings.0) (cast_of c.0.0 k.0) o.1 d) → Fails e (document_at d)
  unfolding document_at
  events-fail names known fixed numbers top of_version of_settings of_controllers of_kubelets of_objects h =
      then-fails e _ d _ top
      (then-fails e _ version _ of_version
      (then-fails e _ settings _ of_settings
      (then-fails e _ c _ (subst (λ names. required (codes "/controllers") (controllers_in version settings.0 settings.1 names) (get (codes "controllers") d) ≡ Ok c) fixed of_controllers)
      (then-fails e _ k _ of_kubelets
      (then-fails e _ o _ (subst (λ known. objects_at version k.1 known d ≡ Ok o) numbers of_objects)
      (Fails-then e _ _ h))))))
