-- The lines of the two answers.
use Rattle.std.specs.Prelude.{ℕ, ◌==◌, List, [], ◌∷◌, ◌++◌, length, flat_map, not, Bool, codes, decimal, slice_get}
use Rattle.std.specs.Prelude.{Option, Some, None, unwrap_or}
use Rattle.std.specs.List.{filter}
use Rattle.pod_tools.specs.declared.collecting.Cause.{Cause}
use Rattle.pod_tools.specs.declared.collecting.Cause.TheVariants as causes
use Rattle.pod_tools.specs.declared.collecting.Pick.{Pick}
use Rattle.pod_tools.specs.declared.placing.Placement.{Placement}
use Rattle.pod_tools.specs.declared.rows.CollectInput.{CollectInput}
use Rattle.pod_tools.specs.declared.rows.NodeRow.{NodeRow}
use Rattle.pod_tools.specs.declared.rows.PlaceInput.{PlaceInput}
use Rattle.pod_tools.specs.declared.rows.PodRow.{PodRow}
use Rattle.pod_tools.specs.Collected.{collected}
use Rattle.pod_tools.specs.Feasible.{placed}

-- the text of a number
abbrev pub text_of : List (List ℕ) → ℕ → List ℕ
text_of names number = unwrap_or (slice_get names number) []

-- `NAMESPACE/NAME`
abbrev pub pod_name : List (List ℕ) → PodRow → List ℕ
pod_name names row = text_of names row.key.space ++ codes "/" ++ text_of names row.key.name

-- the same of the pod at a place
abbrev pub pod_text_of : List (List ℕ) → Option PodRow → List ℕ
pod_text_of names None = []
pod_text_of names (Some row) = pod_name names row

abbrev pub pod_text : List (List ℕ) → List PodRow → ℕ → List ℕ
pod_text names pods place = pod_text_of names (slice_get pods place)

-- ---- collected pods

abbrev pub cause_text : Cause → List ℕ
cause_text causes.Terminated = codes "terminated"
cause_text causes.OutOfService = codes "out-of-service"
cause_text causes.Orphaned = codes "orphaned"
cause_text causes.Unscheduled = codes "unscheduled"

unfoldable pub pick_line : List (List ℕ) → List PodRow → Pick → List ℕ
pick_line names pods pick = codes "collect " ++ pod_text names pods pick.pod ++ codes " " ++ cause_text pick.cause ++ codes "\n"

unfoldable pub picks_line : ℕ → List ℕ
picks_line count = codes "collected pods=" ++ decimal count ++ codes "\n"

-- the answer of `collect`
unfoldable pub collect_text : CollectInput → List ℕ
collect_text input = flat_map (pick_line input.names input.pods) (collected input) ++ picks_line (length (collected input))

-- ---- feasible nodes

abbrev pub node_text_of : List (List ℕ) → Option NodeRow → List ℕ
node_text_of names None = []
node_text_of names (Some row) = text_of names row.name

abbrev pub node_text : List (List ℕ) → List NodeRow → ℕ → List ℕ
node_text names nodes place = node_text_of names (slice_get nodes place)

-- the names of the nodes at these places, joined by commas, or `-` where there is none
abbrev pub joined : List (List ℕ) → List NodeRow → List ℕ → List ℕ
joined names nodes [] = codes "-"
joined names nodes (place ∷ rest) = node_text names nodes place ++ flat_map (λ other. codes "," ++ node_text names nodes other) rest

unfoldable pub placement_line : List (List ℕ) → List NodeRow → List PodRow → Placement → List ℕ
placement_line names nodes pods p =
    codes "place " ++ pod_text names pods p.pod ++ codes " tolerations=" ++ decimal p.tolerations
    ++ codes " nodes=" ++ joined names nodes p.nodes ++ codes "\n"

abbrev pub has_node : Placement → Bool
has_node p = not (length p.nodes == 0)

-- how many of the pods have a node
abbrev pub count_feasible : List Placement → ℕ
count_feasible placements = length (filter has_node placements)

unfoldable pub placements_line : List Placement → List ℕ
placements_line placements =
    codes "placed pods=" ++ decimal (length placements) ++ codes " feasible=" ++ decimal (count_feasible placements) ++ codes "\n"

-- the answer of `place`
unfoldable pub place_text : PlaceInput → List ℕ
place_text input =
    flat_map (placement_line input.names input.nodes input.pods) (placed input.nodes input.pods)
    ++ placements_line (placed input.nodes input.pods)
