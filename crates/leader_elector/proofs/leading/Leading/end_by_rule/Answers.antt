use Rattle.std.proofs.Common.{◌+◌, ◌<◌, ◌^◌, true, sym, subst}
use Rattle.leader_elector.specs.Moves.{Asked, stepped_down, with_begin}
use Rattle.leader_elector.specs.Stands.{ReleasingStands}
use Rattle.leader_elector.proofs.Endings.{tested-begins}
use Rattle.leader_elector.proofs.Frames.{begun-stepped, elector-stepped}
use Rattle.leader_elector.proofs.leading.Leading.end_by_rule.Goals as goal

pub returns-in-Some-clause-turns : goal.returns-in-Some-clause-turns
returns-in-Some-clause-turns c doc q h k s at unreleased now late wall room =
    let g = stepped_down doc k q h in
    let b = c.in-Some.ensures.begins doc q g k 4 (elector-stepped doc k q h c.args.self.elector s) now wall (subst (λ n. n + 1 < 2 ^ 64) (sym (begun-stepped doc k q h)) room) in
    subst (λ x. Asked doc k 4 q (with_begin k 4 q true g) x (λ y. ReleasingStands doc q y c.in-Some.releasing) c.in-Some.ask)
    (sym (tested-begins doc k q h unreleased c.args.self.deadline.0 c.args.now.0 at now late b.0 b.1)) b.2
