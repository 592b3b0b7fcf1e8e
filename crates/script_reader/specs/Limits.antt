-- How large a cluster a document may say, by its version. Source: profile.
use Rattle.std.specs.Prelude.{ℕ, ◌≤◌, length}
use Rattle.kube_objects.specs.declared.key.Kind.{Kind}
use Rattle.kube_objects.specs.Document.{Doc}
use Rattle.manifest_json.specs.declared.scale.Scale.{Scale}
use Rattle.manifest_json.specs.declared.scale.Scale.TheVariants as scales
use Rattle.manifest_json.specs.Walk.{kind_count, kind_limit}
use Rattle.script_reader.specs.declared.table.Version.{Version}
use Rattle.script_reader.specs.declared.table.Version.TheVariants as versions

abbrev pub scale_of : Version → Scale
scale_of versions.One = scales.Usual
scale_of versions.Two = scales.Usual
scale_of versions.Three = scales.Usual
scale_of versions.Four = scales.Large

abbrev pub kubelet_limit : Scale → ℕ
kubelet_limit scales.Usual = 1_000
kubelet_limit scales.Large = 15_000

abbrev pub event_limit : Scale → ℕ
event_limit scales.Usual = 100_000
event_limit scales.Large = 1_000_000

-- a document passes no limit of this scale
pub record IsWithin (scale : Scale) (doc : Doc) : Type 0 where
  pub kubelets : length doc.kubelets ≤ kubelet_limit scale
  pub objects : (kind : Kind) → kind_count kind doc.objects ≤ kind_limit scale kind
  pub events : length doc.events ≤ event_limit scale
