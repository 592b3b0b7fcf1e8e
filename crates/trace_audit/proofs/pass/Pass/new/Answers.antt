use Rattle.std.proofs.Common.{◌<◌, ◌≤◌, length, refl, sym, subst, arith}
use Rattle.trace_audit.proofs.PassLaws.{stands-ended, stands-unended, all-sit-even}
use Rattle.trace_audit.proofs.pass.Pass.new.Goals as goal
use Rattle.trace_audit.proofs.pass.Pass.new.Goals.{then-unended-eq0, else-unended-eq0}

pub returns-clause-stands : goal.returns-clause-stands
returns-clause-stands c = elim c.if-unended-eq0.branch [
  | then-unended-eq0 w ↦ stands-ended c.args.header c.args.number c.args.unended.now _ w.if-unended-eq0.true refl w.wrong-is refl c.new.ensures
  | else-unended-eq0 w ↦
      let some : 0 < length c.args.unended.now = omega (arith, w.if-unended-eq0.false) in
      stands-unended c.args.header c.args.number c.args.unended.now _ some refl w.wrong-is refl
]

pub returns-clause-ready : goal.returns-clause-ready
returns-clause-ready c = record {
  end = subst (λ n. n ≤ 604800000) (sym c.new.ensures.end_is) c.requires;
  even = all-sit-even _ c.new.result.actors c.new.result.seats.items c.new.ensures.seats;
}

pub returns-clause-leads : goal.returns-clause-leads
returns-clause-leads c = c.new.ensures.leads_is

pub returns-clause-taints : goal.returns-clause-taints
returns-clause-taints c = c.new.ensures.taints_is
