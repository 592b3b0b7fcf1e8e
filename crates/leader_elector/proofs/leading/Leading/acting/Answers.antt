use Rattle.std.proofs.Common.{◌∙◌, sym}
use Rattle.leader_elector.proofs.Beginning.{before, reached}
use Rattle.leader_elector.proofs.Endings.{leads-before}
use Rattle.leader_elector.proofs.leading.Leading.acting.Goals as goal

pub returns-then-now-self-clause-acts : goal.returns-then-now-self-clause-acts
returns-then-now-self-clause-acts c doc q h k s now up =
    sym (before c.args.now.0 c.args.self.now.deadline.0 c.if-now-self.true) ∙ leads-before doc q k c.args.now.0 c.args.self.now.deadline.0 h s.unreleased up now s.deadline

pub returns-else-now-self-clause-acts : goal.returns-else-now-self-clause-acts
returns-else-now-self-clause-acts c doc q h k s now up =
    sym (reached c.args.now.0 c.args.self.now.deadline.0 c.if-now-self.false) ∙ leads-before doc q k c.args.now.0 c.args.self.now.deadline.0 h s.unreleased up now s.deadline
