-- Answers that are remembered.
use Rattle.std.specs.Prelude.{◌≡◌, List, Option, IfSome, length}
use Rattle.std.specs.List.{All}
use Rattle.pod_tools.specs.Feasible.{defaulted, feasible_from}
use Rattle.pod_tools.specs.declared.judged.Judged.{Judged}
use Rattle.pod_tools.specs.declared.judged.Judgements.{Judgements}
use Rattle.pod_tools.specs.declared.rows.NodeRow.{NodeRow}

-- what was found for these tolerations is what the definition gives
pub record IsRight (all_nodes : List NodeRow) (j : Judged) : Type 0 where
  pub tolerations : j.tolerations ≡ length (defaulted j.given)
  pub nodes : j.nodes ≡ feasible_from (defaulted j.given) 0 all_nodes

abbrev pub IsRightIfAny : List NodeRow → Option Judged → Type 0
IsRightIfAny nodes slot = IfSome slot (IsRight nodes)

abbrev pub AreRight : List NodeRow → Judgements → Type 0
AreRight nodes judgements = All (IsRightIfAny nodes) judgements.slots.items
