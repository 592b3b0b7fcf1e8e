-- What became of nodes: each accepted `unknown`, `taint`, `swap` and `untaint` line.
use Rattle.std.specs.Prelude.{ℕ, List, [], ◌∷◌, codes, Option, Some, None}
use Rattle.std.specs.Option.{option_map}
use Rattle.trace_lines.specs.declared.line.Answer.TheVariants as answer
use Rattle.trace_lines.specs.declared.line.Line.{Line}
use Rattle.trace_lines.specs.declared.line.Says.{Says}
use Rattle.trace_lines.specs.declared.line.Says.TheVariants as says
use Rattle.lens_summary.specs.Cells.{beat_text}
use Rattle.lens_summary.specs.Tables.{Texts}

-- the node, how it is changed, and to which taint or for which reason
abbrev pub change_in : Says (List ℕ) → Option (List ℕ × List ℕ × List ℕ)
change_in (says.Unknown node reason (answer.Done version)) = Some (node, codes "unknown", reason)
change_in (says.Taint node taint (answer.Done version)) = Some (node, codes "taint", taint)
change_in (says.Swap node taint (answer.Done version)) = Some (node, codes "swap", taint)
change_in (says.Untaint node (answer.Done version)) = Some (node, codes "untaint", codes "-")
change_in _ = None

abbrev pub changed_by : ℕ → Line (List ℕ) → Option Texts
changed_by millis l = option_map (λ n. n.0 ∷ beat_text l.beat millis ∷ n.1 ∷ n.2 ∷ l.actor ∷ []) (change_in l.says)
