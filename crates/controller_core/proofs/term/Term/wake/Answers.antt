use Rattle.std.proofs.Common.{◌≡◌, ◌∙◌, inl, inr, ◌+◌, ◌<◌, ◌≤◌, Some, None, ap, sym, subst, arith}
use Rattle.kube_objects.specs.Clocks.{local}
use Rattle.kube_objects.specs.Health.{last_pass, pass_period}
use Rattle.term_state.proofs.Closing.{if_none_always}
use Rattle.controller_core.specs.Passing.{LastStands}
use Rattle.controller_core.specs.Wakes.{pass_reading}
use Rattle.controller_core.proofs.Readying.{either, head_reading, le_true, reading_head}
use Rattle.controller_core.proofs.Waking.{due_from, kept_due, kept_least, kept_sum, none_last, not_none, not_yet, pass_is, some_number}
use Rattle.controller_core.proofs.term.Term.wake.Goals as goal

pub returns-in_err-last-clause-none : goal.returns-in_err-last-clause-none
returns-in_err-last-clause-none c doc q h s =
    if_none_always (last_pass q h ≡ None) c.from_residual.result (none_last doc q h (subst (LastStands doc q h) c.in_err-last.was s.parts.last))

pub returns-clause-some : goal.returns-clause-some
returns-clause-some c doc q h s none = not_none doc q h c.in_ok-last.last (subst (LastStands doc q h) c.in_ok-last.was s.parts.last) none

pub returns-clause-early : goal.returns-clause-early
returns-clause-early c doc k q h s fits early =
    let last = c.in_ok-last.last in
    let stands = subst (LastStands doc q h) c.in_ok-last.was s.parts.last in
    let later : local doc q.process k < last.at.0 + last.period = omega (arith, early, fits, c.first_ready.ensures.least, c.saturating_add.ensures) in (
      due_from doc k q h last stands ∙ kept_due last.at.0 (pass_period doc q h) last.period (local doc q.process k) stands.period fits
          ∙ not_yet (last.at.0 + last.period) (local doc q.process k) later,
      λ place due.
          let r = head_reading doc k q h place due in
          let le = c.first_ready.ensures.all doc q h place r.0 s r.2 in
          omega (arith, le, r.1, early),
    )

pub returns-clause-there : goal.returns-clause-there
returns-clause-there c doc k q h s fits le =
    let last = c.in_ok-last.last in
    let stands = subst (LastStands doc q h) c.in_ok-last.was s.parts.last in
    either (c.first_ready.ensures.there doc q h s)
    (λ given. inl (due_from doc k q h last stands ∙ kept_due last.at.0 (pass_period doc q h) last.period (local doc q.process k) stands.period fits
    ∙ le_true (last.at.0 + last.period) (local doc q.process k) (omega (arith, ap (λ at. at.0) given, le, fits, c.saturating_add.ensures))))
    (λ head. inr (head.0, reading_head doc k q h head.0 c.first_ready.result.0 head.1 le))

pub returns-clause-reading : goal.returns-clause-reading
returns-clause-reading c doc q h s =
    let last = c.in_ok-last.last in
    let stands = subst (LastStands doc q h) c.in_ok-last.was s.parts.last in
    let exact = pass_period doc q h in
    let pass : pass_reading doc q h ≡ Some (last.at.0 + exact) = pass_is doc q h last stands in
    let given = kept_sum last.at.0 exact last.period c.saturating_add.result stands.period (omega (arith, c.saturating_add.ensures)) in
    let no_more : c.saturating_add.result ≤ last.at.0 + exact = kept_least last.at.0 exact last.period c.saturating_add.result stands.period (omega (arith, c.saturating_add.ensures)) in
    record {
      there = either (c.first_ready.ensures.there doc q h s)
          (λ same. either given
          (λ sum. inl (inl (pass ∙ ap (λ n. Some n) (sym (ap (λ at. at.0) same ∙ sum)))))
          (λ greatest. inr (ap (λ at. at.0) same ∙ greatest)))
          (λ head. inl (inr head));
      fits = omega (arith, c.first_ready.ensures.least, c.saturating_add.ensures);
      least = λ other awaited. either awaited
          (λ at. let last_at = some_number (last.at.0 + exact) other (sym pass ∙ at) in omega (arith, c.first_ready.ensures.least, no_more, last_at))
          (λ head. c.first_ready.ensures.all doc q h head.0 other s head.1);
    }
