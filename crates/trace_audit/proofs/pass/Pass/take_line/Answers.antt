use Rattle.std.proofs.Common.{◌∷◌, ◌+◌, refl, sym, ap, ◌∙◌}
use Rattle.std.proofs.lemmas.Result.{on_ok_weaker}
use Rattle.trace_lines.specs.Reads.{seen}
use Rattle.trace_terms.specs.Entries.{played}
use Rattle.trace_audit.specs.Entries.{entries_of}
use Rattle.trace_audit.proofs.PassLaws.{stands-line-wrong, right-before, stands-line}
use Rattle.trace_audit.proofs.pass.Pass.take_line.Goals as goal

pub returns-in-Some-clause-stands : goal.returns-in-Some-clause-stands
returns-in-Some-clause-stands c header text before lines is h =
    stands-line-wrong header c.args.number c.in-Some.field-0 text before lines (seen c.args.line.now) c.args.self.now _ is h refl c.wrong_with-self.ensures refl c.in-Some.is

pub returns-in-None-clause-stands : goal.returns-in-None-clause-stands
returns-in-None-clause-stands c header text before lines is h =
    let right = right-before header c.args.number text before lines (seen c.args.line.now) c.args.self.now is h (sym c.wrong_with-self.ensures ∙ c.in-None.is) in
    on_ok_weaker c.take.result
    (λ r. stands-line header c.args.number text before lines (seen c.args.line.now) c.args.self.now _
    (record { line = c.args.number; beat = c.args.line.now.beat; actor = c.args.line.now.actor.now; role = played c.role_of.result })
    is h refl c.wrong_with-self.ensures refl
    (ap (λ x. record { line = c.args.number; beat = c.args.line.now.beat; actor = c.args.line.now.actor.now; role = x }) c.role_of.ensures) r)
    (c.take.ensures.stands header.beat_millis header.end (entries_of (c.args.number + 1) (before ∷ lines)) right.0 right.1)
