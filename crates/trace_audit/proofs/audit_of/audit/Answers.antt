use Rattle.std.proofs.Common.{◌+◌, sym, ap, subst, ◌∙◌}
use Rattle.trace_audit.specs.Entries.{lines_of}
use Rattle.trace_audit.specs.Passes.{Tells}
use Rattle.trace_audit.proofs.AloneLaws.{told-alone}
use Rattle.trace_audit.proofs.LineLaws.{length-lines}
use Rattle.trace_audit.proofs.VerdictLaws.{verdict-endless, verdict-headless, verdict-judged}
use Rattle.trace_audit.proofs.audit_of.audit.Goals as goal

pub returns-in_default-clause-told : goal.returns-in_default-clause-told
returns-in_default-clause-told c = verdict-endless c.args.bytes.now c.in_default.ensures

pub returns-in_default-read_header-clause-told : goal.returns-in_default-read_header-clause-told
returns-in_default-read_header-clause-told c =
    verdict-headless c.args.bytes.now c.in-Some.first.now c.in-Some.rest.now c.in-Some.ensures (sym c.in_default-read_header.ensures.header)

pub pass_over-requires-clause-lines : goal.pass_over-requires-clause-lines
pass_over-requires-clause-lines c = ap (λ n. 1 + n) c.feeds-lines.ensures ∙ sym (length-lines c.in-Some.rest.now)

pub returns-clause-told : goal.returns-clause-told
returns-clause-told c =
    subst (λ v. Tells c.verdict.result v)
    (sym (verdict-judged c.args.bytes.now c.in-Some.first.now c.in-Some.rest.now c.in-Some-read_header.header c.in-Some.ensures (sym c.in-Some-read_header.ensures.header)))
    (c.verdict.ensures c.in-Some-read_header.header (lines_of c.in-Some.rest.now) c.in_ok-pass.ensures (ap (λ n. 1 + n) c.feeds-lines.ensures ∙ sym (length-lines c.in-Some.rest.now)))

pub returns-clause-alone : goal.returns-clause-alone
returns-clause-alone c = told-alone c.args.bytes.now c.verdict.result (returns-clause-told c)
