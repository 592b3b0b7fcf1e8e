use Rattle.std.proofs.lemmas.List.{take_rest}
use Rattle.trace_audit.proofs.LineLaws.{line-last}
use Rattle.trace_audit.proofs.audit_of.last_line.Goals as goal

pub returns-then-text-at-eq10-clause-lines : goal.returns-then-text-at-eq10-clause-lines
returns-then-text-at-eq10-clause-lines c =
    rw take_rest (line-last c.args.text.now c.loop-at.at c.loop-at-test.true c.loop-at.invariant.within c.if-text-at-eq10.true c.loop-at.invariant.one)
