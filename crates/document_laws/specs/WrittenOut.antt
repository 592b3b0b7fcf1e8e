-- A document with sets of pods reads as the one whose `objects` have the Pods of its sets behind all else: which Pods these are, in texts.
-- Source: profile.
use Rattle.std.specs.Prelude.{◌≡◌, ℕ, ◌+◌, List, [], ◌∷◌, ◌++◌, replicate, codes, Option, Some, None, option_and_then, unwrap_or, Ok}
use Rattle.serde_json.specs.Data.{Data, Items, no_items, item}
use Rattle.serde_json.specs.Find.{get, as_array, as_number, as_str, as_u64}
use Rattle.kube_objects.specs.declared.key.Key.{Key}
use Rattle.kube_objects.specs.declared.key.Kind.TheVariants as kinds
use Rattle.kube_objects.specs.declared.object.Object.{Object}
use Rattle.kube_objects.specs.declared.object.Object.TheVariants as objects
use Rattle.kube_objects.specs.declared.pod.Pod.{Pod}
use Rattle.kube_objects.specs.declared.pod.Toleration.{Toleration}
use Rattle.manifest_json.specs.declared.list.Objects.{Objects}
use Rattle.manifest_json.specs.Fields.{Texts}
use Rattle.manifest_json.specs.Readable.{IsHeld}
use Rattle.manifest_json.specs.Walk.{tolerations_under}
use Rattle.manifest_json.specs.Written.{text_of}
use Rattle.script_reader.specs.declared.document.Document.{Document}
use Rattle.script_reader.specs.declared.table.Version.{Version}
use Rattle.script_reader.specs.Fields.{default_of}
use Rattle.script_reader.specs.Sets.{pod_name}
use Rattle.script_reader.specs.Walk.{data_of, document_walk, no_objects, numbers_of, objects_in}

-- ---- what a document says

abbrev pub some_text : List ℕ → Option Data → List ℕ
some_text default None = default
some_text default (Some d) = unwrap_or (as_str d) []

abbrev pub some_number : Option Data → ℕ
some_number o = unwrap_or (option_and_then as_u64 (option_and_then as_number o)) 0

abbrev pub some_items : Option Data → Items
some_items o = unwrap_or (option_and_then as_array o) no_items

-- what a set says of one of its pods, and the set
pub record Said : Type 0 where
  pub set : Data
  pub space : List ℕ
  pub name : List ℕ
  pub node : List ℕ

-- the node of each pod, by the members of `on`
abbrev pub nodes_said : Items → List (List ℕ)
nodes_said no_items = []
nodes_said (item d rest) = replicate (some_number (get (codes "pods") d)) (some_text [] (get (codes "node") d)) ++ nodes_said rest

-- the pods of a set on these nodes, from the J-th on
abbrev pub pods_said : Data → List ℕ → List ℕ → ℕ → List (List ℕ) → List Said
pods_said set space name j [] = []
pods_said set space name j (node ∷ rest) =
    record { set = set; space = space; name = pod_name name j; node = node } ∷ pods_said set space name (j + 1) rest

abbrev pub set_said : Data → List Said
set_said d =
    pods_said d (some_text (codes "default") (get (codes "namespace") d)) (some_text [] (get (codes "name") d)) 0
    (nodes_said (some_items (get (codes "on") d)))

abbrev pub sets_said : Items → List Said
sets_said no_items = []
sets_said (item d rest) = set_said d ++ sets_said rest

-- ---- these Pods

-- the number is that of the text
abbrev pub IsText : Texts → List ℕ → ℕ → Type 0
IsText names text n = IsHeld names n × (text_of names n ≡ text)

-- the tolerations are those of the set, walked as a Pod's are; a text that had a number then keeps it
pub record AreBorne (set : Data) (found : List Toleration) : Type 0 where
  pub names : Texts
  pub path : List ℕ
  pub after : Texts
  pub walked : tolerations_under names path set ≡ Ok (found, after)

-- a Pod with these texts and tolerations
pub record IsPod (names : Texts) (s : Said) (found : Key × Object) : Type 0 where
  pub kind : found.0.kind ≡ kinds.Pod
  pub space : IsText names s.space found.0.space
  pub name : IsText names s.name found.0.name
  pub pod : Pod
  pub object : found.1 ≡ objects.Pod pod
  pub node : IsText names s.node pod.node
  pub tolerations : AreBorne s.set pod.tolerations

-- these Pods are those that are said, in order
abbrev pub ArePods : Texts → List Said → List (Key × Object) → Type 0
ArePods names [] [] = Unit {0}
ArePods names [] (pod ∷ pods) = ⊥
ArePods names (s ∷ said) [] = ⊥
ArePods names (s ∷ said) (pod ∷ pods) = IsPod names s pod × ArePods names said pods

-- the document's objects are those of `objects`, as they are read without any set, and behind them the Pods that its sets say
pub record IsWrittenOut (value : Data) (d : Document) : Type 0 where
  pub version : Version
  pub names : Texts
  pub listed : Objects × Texts
  pub alone : default_of (no_objects, names) (objects_in version names (numbers_of d.controllers)) (get (codes "objects") value) ≡ Ok listed
  pub pods : List (Key × Object)
  pub behind : d.objects.items ≡ listed.0.items ++ pods
  pub said : ArePods d.names (sets_said (some_items (get (codes "podSets") value))) pods

abbrev pub SetsAreWrittenOut : Type 0
SetsAreWrittenOut =
    (bytes : List ℕ) (value : Data) (d : Document) → data_of bytes ≡ Ok value → document_walk bytes ≡ Ok d → IsWrittenOut value d
