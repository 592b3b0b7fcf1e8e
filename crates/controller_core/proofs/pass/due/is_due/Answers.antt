use Rattle.std.proofs.Common.{◌∙◌, ◌+◌, nat_le, arith, sym, subst, ap}
use Rattle.std.proofs.lemmas.Bool.Decides.{nat_tests}
use Rattle.kube_objects.specs.Health.{is_after_pass, pass_period}
use Rattle.controller_core.specs.Passing.{LastStands}
use Rattle.controller_core.proofs.Waking.{due_from, kept_due, none_last}
use Rattle.controller_core.proofs.pass.due.is_due.Goals as goal

pub returns-in-None : goal.returns-in-None
returns-in-None c doc k q h stands now =
    sym (ap (is_after_pass doc k q (pass_period doc q h)) (none_last doc q h (subst (LastStands doc q h) c.in-None.is stands)))

pub returns-then-now-last : goal.returns-then-now-last
returns-then-now-last c doc k q h stands now =
    let last = c.in-Some.last in
    let s = subst (LastStands doc q h) c.in-Some.is stands in
    let due = due_from doc k q h last s ∙ ap (nat_le (last.at.0 + pass_period doc q h)) (sym now) ∙ kept_due last.at.0 (pass_period doc q h) last.period c.args.now.0 s.period c.requires in
    grind (arith, nat_tests) ∙ sym due

pub returns-else-now-last : goal.returns-else-now-last
returns-else-now-last c doc k q h stands now =
    let last = c.in-Some.last in
    let s = subst (LastStands doc q h) c.in-Some.is stands in
    let due = due_from doc k q h last s ∙ ap (nat_le (last.at.0 + pass_period doc q h)) (sym now) ∙ kept_due last.at.0 (pass_period doc q h) last.period c.args.now.0 s.period c.requires in
    grind (arith, nat_tests) ∙ sym due
