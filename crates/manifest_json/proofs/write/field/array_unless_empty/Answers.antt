use Rattle.std.proofs.Common.{◌∙◌, sym, ap, Some, arith}
use Rattle.serde_json.proofs.Views.{view-Array}
use Rattle.manifest_json.proofs.WriteLoops.{filled_array-some}
use Rattle.manifest_json.proofs.write.field.array_unless_empty.Goals as goal

pub returns-else-len-eq0 : goal.returns-else-len-eq0
returns-else-len-eq0 c = ap (λ d. Some d) (view-Array c.args.values) ∙ sym (filled_array-some c.args.values.items (λ e. absurd (omega arith)))
