use Rattle.std.proofs.Common.{refl}
use Rattle.trace_audit.proofs.PassLaws.{stands-formless}
use Rattle.trace_audit.proofs.pass.Pass.take.Goals as goal

pub returns-in-None-clause-stands : goal.returns-in-None-clause-stands
returns-in-None-clause-stands c header line lines h =
    stands-formless header c.args.number c.args.text.now line lines _ c.in-None.ensures.line h.header_is refl refl
