use Rattle.std.proofs.Common.{◌≡◌, ◌+◌, ◌-◌, ◌∷◌, [], ◌++◌, length, MatchOption, ap, sym, subst, ◌∙◌, arith, length-append}
use Rattle.trace_audit.specs.Entries.{lines_of}
use Rattle.trace_audit.specs.Passes.{PassStands}
use Rattle.trace_audit.proofs.LineLaws.{few-lines, passed-more}
use Rattle.trace_audit.proofs.audit_of.pass_over.Goals as goal

pub overflow_add-number : goal.overflow_add-number
overflow_add-number c = omega (arith, few-lines c.args.text.now, c.requires.lines)

pub lines-init : goal.lines-init
lines-init c = (
  c.last_line.result.1.now,
  [],
  c.last_line.ensures.lines,
  c.new-pass.ensures.stands,
  omega arith,
  c.new-pass.ensures.ready,
  omega (arith, c.new-pass.ensures.leads),
  omega (arith, c.new-pass.ensures.taints),
)

pub lines-preserved : goal.lines-preserved
lines-preserved c =
    let i = c.lines.invariant in
    let all : lines_of c.args.text.now ≡ lines_of c.in-Some.text.now ++ i.0 ∷ i.1 =
    subst (λ o. MatchOption o (lines_of c.args.text.now ≡ i.0 ∷ i.1) (λ before. lines_of c.args.text.now ≡ lines_of before.now ++ i.0 ∷ i.1)) c.in-Some.is i.2 in
    let many : length (lines_of c.args.text.now) ≡ length (lines_of c.in-Some.text.now) + length (i.0 ∷ i.1) =
    ap (λ l. length l) all ∙ length-append (lines_of c.in-Some.text.now) (i.0 ∷ i.1) in
    let number : c.lines.number - 1 + 1 ≡ c.lines.number = omega (arith, i.4, many, c.requires.lines) in (
      c.last_line-in-Some.result.1.now,
      i.0 ∷ i.1,
      passed-more c.last_line-in-Some.result.0 (lines_of c.args.text.now) (lines_of c.in-Some.text.now) c.last_line-in-Some.result.1.now i.0 i.1 all c.last_line-in-Some.ensures.lines,
      c.in_ok-take.ensures.stands c.args.header i.0 i.1 (subst (λ n. PassStands c.args.header n (i.0 ∷ i.1) c.lines.pass) (sym number) i.3),
      omega (arith, i.4, number),
      c.in_ok-take.ensures.ready,
      omega (arith, i.6, c.in_ok-take.ensures.leads),
      omega (arith, i.7, c.in_ok-take.ensures.taints),
    )

pub returns : goal.returns
returns c =
    let i = c.lines.invariant in
    let all : lines_of c.args.text.now ≡ i.0 ∷ i.1 =
    subst (λ o. MatchOption o (lines_of c.args.text.now ≡ i.0 ∷ i.1) (λ before. lines_of c.args.text.now ≡ lines_of before.now ++ i.0 ∷ i.1)) c.in_default.is i.2 in
    let number : c.lines.number ≡ 2 = omega (arith, i.4, c.requires.lines, ap (λ l. length l) all) in
    subst (λ n. PassStands c.args.header n (lines_of c.args.text.now) c.lines.pass) number (subst (λ ls. PassStands c.args.header c.lines.number ls c.lines.pass) (sym all) i.3)
