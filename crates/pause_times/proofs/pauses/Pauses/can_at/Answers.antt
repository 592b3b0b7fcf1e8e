use Rattle.std.proofs.Common.{◌≡◌, length, vec_len, sym, ◌∙◌, arith}
use Rattle.std.proofs.lemmas.Bool.{eqb-true}
use Rattle.pause_times.proofs.Ends.{can-idle}
use Rattle.pause_times.proofs.pauses.Pauses.can_at.Goals as goal

pub returns-then-is_empty-clause-value : goal.returns-then-is_empty-clause-value
returns-then-is_empty-clause-value c doc p s clocked =
    let x = c.args.self.now in
    let none : length x.all.items ≡ 0 = omega (arith, x.all.ok.0, eqb-true (vec_len x.all) 0 (sym c.is_empty.ensures ∙ c.if-is_empty.true)) in
    sym (can-idle doc p c.args.at.0 x s none)
