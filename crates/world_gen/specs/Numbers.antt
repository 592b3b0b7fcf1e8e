-- The names of a generated document and their numbers: the fixed names, the controllers, the kubelets' nodes in order, and then the texts
-- of the objects that are new, in the order of the objects. A Node's new texts are its region and its zone, a Pod's its namespace and its
-- name. There are five zones, or as many as nodes. Source: profile.
use Rattle.std.specs.Prelude.{ℕ, zero, suc, ◌+◌, ◌%◌, min, List, [], ◌∷◌, ◌++◌, map, codes, decimal}
use Rattle.std.specs.List.{range_with_len}
use Rattle.kube_base.specs.Names.{fixed_names}

-- a letter and then the number in decimal
abbrev pub short_name : ℕ → ℕ → List ℕ
short_name letter i = letter ∷ decimal i

-- so many texts, from 0 on
abbrev pub short_names : ℕ → ℕ → List (List ℕ)
short_names letter n = map (short_name letter) (range_with_len 0 n)

-- n0, n1 and so on
abbrev pub node_names : ℕ → List (List ℕ)
node_names nodes = short_names 110 nodes

-- z0 to z4
abbrev pub zones : ℕ → ℕ
zones nodes = min nodes 5

abbrev pub zone_names : ℕ → List (List ℕ)
zone_names nodes = short_names 122 (zones nodes)

-- p0, p1 and so on, behind their namespace
abbrev pub pod_names : ℕ → List (List ℕ)
pod_names zero = []
pod_names (suc n) = codes "default" ∷ short_names 112 (suc n)

-- the fixed names and then the controllers
abbrev pub controller_names : List (List ℕ)
controller_names = fixed_names ++ (codes "c0" ∷ codes "c1" ∷ codes "c2" ∷ [])

unfoldable pub generated_names : ℕ → ℕ → List (List ℕ)
generated_names nodes pods = controller_names ++ node_names nodes ++ (codes "r1" ∷ []) ++ zone_names nodes ++ pod_names pods

-- ---- numbers: there are ten fixed names and three controllers

abbrev pub controller_number : ℕ → ℕ
controller_number p = 10 + p

abbrev pub node_number : ℕ → ℕ
node_number i = 13 + i

abbrev pub region_number : ℕ → ℕ
region_number nodes = 13 + nodes

-- node i is in zone i modulo 5
abbrev pub zone_number : ℕ → ℕ → ℕ
zone_number nodes i = 14 + nodes + i % 5

abbrev pub space_number : ℕ → ℕ
space_number nodes = 14 + nodes + zones nodes

abbrev pub pod_number : ℕ → ℕ → ℕ
pod_number nodes j = 15 + nodes + zones nodes + j
