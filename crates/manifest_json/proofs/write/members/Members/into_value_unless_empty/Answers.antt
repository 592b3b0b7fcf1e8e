use Rattle.std.proofs.Common.{◌∙◌, sym, ap, Some, arith}
use Rattle.manifest_json.proofs.WriteLoops.{filled_object-some}
use Rattle.manifest_json.proofs.write.members.Members.into_value_unless_empty.Goals as goal

pub returns-else-len-eq0 : goal.returns-else-len-eq0
returns-else-len-eq0 c = ap (λ d. Some d) c.into_value.ensures ∙ sym (filled_object-some c.args.self.map.entries (λ e. absurd (omega arith)))
