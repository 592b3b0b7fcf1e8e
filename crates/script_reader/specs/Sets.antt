-- Sets of pods that are alike. A set says these Pods: for each member of `on` in order so many on its node. The J-th of them, from 0
-- through all members, has the set's name, `-` and J as its name, and the set's namespace and tolerations. They stand behind all objects,
-- set by set. Source: profile.
use Rattle.std.specs.Prelude.{◌≡◌, ℕ, ◌+◌, nat_le, List, [], ◌∷◌, ◌++◌, length, replicate, sum_by, codes, Result, Ok}
use Rattle.std.specs.Prelude.{if◌then◌else◌}
use Rattle.std.specs.Fmt.{decimal}
use Rattle.serde_json.specs.Data.{Data, Items, no_items, item}
use Rattle.serde_json.specs.Find.{get}
use Rattle.kube_objects.specs.declared.key.Key.{Key}
use Rattle.kube_objects.specs.declared.key.Kind.TheVariants as kinds
use Rattle.kube_objects.specs.declared.object.Object.{Object}
use Rattle.kube_objects.specs.declared.object.Object.TheVariants as objects
use Rattle.kube_objects.specs.declared.pod.Toleration.{Toleration}
use Rattle.manifest_json.specs.declared.codes.TheConstants.{OUT_OF_RANGE, TOO_MANY, WRONG_TYPE}
use Rattle.manifest_json.specs.declared.fault.Refusal.{Refusal}
use Rattle.manifest_json.specs.declared.scale.Scale.{Scale}
use Rattle.manifest_json.specs.Faults.{◌>>=◌, refuse}
use Rattle.manifest_json.specs.Fields.{Texts, numbered}
use Rattle.manifest_json.specs.Walk.{kind_count, kind_limit, member_path, tolerations_under, with_found}
use Rattle.script_reader.specs.declared.parts.Share.{Share}
use Rattle.script_reader.specs.declared.table.Table.TheVariants as tables
use Rattle.script_reader.specs.Fields.{under, required, object_at, needed_name, needed_whole, name_at, array_in, not_empty}
use Rattle.script_reader.specs.Tables.{known_in}

-- ---- the keys of a set

-- a member of `on`: a node, and how many of the pods are on it
unfoldable pub share_at : Texts → List ℕ → Data → Result (Share × Texts) Refusal
share_at names path value = do
  d ← object_at WRONG_TYPE path value
  known ← known_in tables.Share path d
  text ← needed_name path (codes "node") known
  node ← numbered names text
  pods ← needed_whole 1 100_000 path (codes "pods") known
  Ok (record { node = node.0; pods = pods }, node.1)

-- a member that has no fault: wherever it stands it says so many pods on the node of this name
abbrev pub IsPlainShare : Data → List ℕ → ℕ → Type 0
IsPlainShare value text pods =
    (names : Texts) (path : List ℕ)
    → share_at names path value ≡ (numbered names text >>= λ node. Ok (record { node = node.0; pods = pods }, node.1))

-- the members from a place on, behind earlier ones
unfoldable pub shares_from : Texts → List ℕ → ℕ → List Share → Items → Result (List Share × Texts) Refusal
shares_from names path place earlier no_items = Ok (earlier, names)
shares_from names path place earlier (item d rest) = do
  next ← share_at names (member_path path (codes "/") place) d
  shares_from next.1 path (place + 1) (earlier ++ next.0 ∷ []) rest

-- one to 15,000 members
unfoldable pub shares_in : Texts → List ℕ → Data → Result (List Share × Texts) Refusal
shares_in names path d = do
  all ← array_in 15_000 path d
  some ← not_empty path all
  shares_from names path 0 [] some

abbrev pub shares_at : Texts → List ℕ → Data → Result (List Share × Texts) Refusal
shares_at names path d = required (under path (codes "on")) (shares_in names (under path (codes "on"))) (get (codes "on") d)

-- short enough for a number behind it
abbrev pub if_short : List ℕ → List ℕ → Result (List ℕ) Refusal
if_short path text = if nat_le (length text) 242 then Ok text else refuse OUT_OF_RANGE path

unfoldable pub set_name_at : List ℕ → Data → Result (List ℕ) Refusal
set_name_at path d = do
  text ← needed_name path (codes "name") d
  if_short (under path (codes "name")) text

-- ---- the pods of a set

-- the node of each pod, in order
abbrev pub nodes_of : List Share → List ℕ
nodes_of [] = []
nodes_of (share ∷ rest) = replicate share.pods share.node ++ nodes_of rest

-- how many pods there are
abbrev pub pods_of : List Share → ℕ
pods_of shares = sum_by (λ (s : Share). s.pods) shares

-- the name of the J-th pod
abbrev pub pod_name : List ℕ → ℕ → List ℕ
pod_name name j = (name ++ codes "-") ++ decimal j

-- what the pods of a set share
pub record Alike : Type 0 where
  pub space : ℕ
  pub name : List ℕ
  pub tolerations : List Toleration

abbrev pub pod_of : Alike → ℕ → ℕ → Key × Object
pod_of alike name node =
    (record { kind = kinds.Pod; space = alike.space; name = name }, objects.Pod (record { node = node; tolerations = alike.tolerations }))

-- the J-th pod, behind other objects, whose key is new
unfoldable pub pod_onto : Scale → Texts → List ℕ → Alike → ℕ → List (Key × Object) → ℕ → Result (List (Key × Object) × Texts) Refusal
pod_onto scale names path alike j items node = do
  name ← numbered names (pod_name alike.name j)
  more ← with_found scale path items (pod_of alike name.0 node)
  Ok (more, name.1)

-- the pods on these nodes, from the J-th on
unfoldable pub pods_onto : Scale → Texts → List ℕ → Alike → ℕ → List (Key × Object) → List ℕ
    → Result (List (Key × Object) × Texts) Refusal
pods_onto scale names path alike j items [] = Ok (items, names)
pods_onto scale names path alike j items (node ∷ rest) = do
  next ← pod_onto scale names path alike j items node
  pods_onto scale next.1 path alike (j + 1) next.0 rest

-- there is room for so many more Pods
abbrev pub if_room : Scale → List ℕ → List (Key × Object) → ℕ → Result (List (Key × Object)) Refusal
if_room scale path items pods =
    if nat_le (kind_count kinds.Pod items + pods) (kind_limit scale kinds.Pod) then Ok items else refuse TOO_MANY path

-- ---- sets

-- the objects with those of a set behind them: first its keys are walked, then its pods are counted, then each key has to be new
unfoldable pub set_at : Scale → Texts → List ℕ → List (Key × Object) → Data → Result (List (Key × Object) × Texts) Refusal
set_at scale names path items value = do
  d ← object_at WRONG_TYPE path value
  known ← known_in tables.PodSet path d
  text ← name_at (codes "default") path (codes "namespace") known
  space ← numbered names text
  name ← set_name_at path known
  tolerations ← tolerations_under space.1 path known
  on ← shares_at tolerations.1 path known
  few ← if_room scale path items (pods_of on.0)
  pods_onto scale on.1 path (record { space = space.0; name = name; tolerations = tolerations.0 }) 0 few (nodes_of on.0)

-- the sets from a place on
unfoldable pub sets_from : Scale → Texts → ℕ → List (Key × Object) → Items → Result (List (Key × Object) × Texts) Refusal
sets_from scale names place items no_items = Ok (items, names)
sets_from scale names place items (item d rest) = do
  next ← set_at scale names (member_path [] (codes "/podSets/") place) items d
  sets_from scale next.1 (place + 1) next.0 rest

-- at most 100,000 sets
unfoldable pub sets_in : Scale → Texts → List (Key × Object) → Data → Result (List (Key × Object) × Texts) Refusal
sets_in scale names items d = do
  all ← array_in 100_000 (codes "/podSets") d
  sets_from scale names 0 items all
