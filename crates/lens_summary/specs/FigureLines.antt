-- The objects of lines: what became of zones and nodes, and the pods that were evicted, as `summary` tells them.
use Rattle.std.specs.Prelude.{ℕ, List, [], ◌∷◌, codes, filter_map, Option, if◌then◌else◌}
use Rattle.std.specs.Option.{option_map}
use Rattle.std.specs.Str.{bytes_eq}
use Rattle.serde_json.specs.Data.{Data, null, string}
use Rattle.lens_json.specs.Members.{Named, nat, text}
use Rattle.lens_summary.specs.declared.subject.Subject.{Subject}
use Rattle.lens_summary.specs.declared.subject.Subject.TheVariants.{Zones, Nodes, Pods}
use Rattle.lens_summary.specs.Nodes.{change_in}
use Rattle.lens_summary.specs.Pods.{eviction_in}
use Rattle.lens_summary.specs.Zones.{zone_in}
use Rattle.trace_lines.specs.declared.line.Line.{Line}

-- ---- zones

-- the zone, since when it is so, its state, the rate of its taints in 1,000 s, and who leads
abbrev pub zone_members : Line (List ℕ) → List ℕ × List ℕ × ℕ → List Named
zone_members l z =
    text (codes "zone") z.0 ∷ nat (codes "since") l.beat ∷ text (codes "state") z.1 ∷ nat (codes "rate") z.2 ∷ text (codes "by") l.actor ∷ []

abbrev pub zone_by : Line (List ℕ) → Option (List Named)
zone_by l = option_map (zone_members l) (zone_in l.says)

-- ---- nodes

-- a `-` stands for no reason
abbrev pub reason : List ℕ → Data
reason t = if bytes_eq t (codes "-") then null else string t

-- the node, since when it is so, how it is changed, to which taint or for which reason, and who leads
abbrev pub node_members : Line (List ℕ) → List ℕ × List ℕ × List ℕ → List Named
node_members l n =
    text (codes "node") n.0 ∷ nat (codes "since") l.beat ∷ text (codes "change") n.1 ∷ (codes "reason", reason n.2) ∷ text (codes "by") l.actor ∷ []

abbrev pub node_by : Line (List ℕ) → Option (List Named)
node_by l = option_map (node_members l) (change_in l.says)

-- ---- pods

-- the pod, when it was due, when it was evicted, and who leads
abbrev pub pod_members : Line (List ℕ) → List ℕ × List ℕ → List Named
pod_members l e = text (codes "pod") e.0 ∷ text (codes "due") e.1 ∷ nat (codes "evicted") l.beat ∷ text (codes "by") l.actor ∷ []

abbrev pub pod_by : Line (List ℕ) → Option (List Named)
pod_by l = option_map (pod_members l) (eviction_in l.says)

-- ---- all three

-- the object of a line that tells of a subject
abbrev pub told_by : Subject → Line (List ℕ) → Option (List Named)
told_by Zones = zone_by
told_by Nodes = node_by
told_by Pods = pod_by

abbrev pub told : Subject → List (Line (List ℕ)) → List (List Named)
told subject ls = filter_map (told_by subject) ls
