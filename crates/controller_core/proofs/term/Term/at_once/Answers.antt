use Rattle.std.proofs.Common.{◌∙◌, inr, ap, sym}
use Rattle.controller_core.specs.Wakes.{is_cleaned_by}
use Rattle.controller_core.proofs.term.Term.at_once.Goals as goal

pub returns-in-Tick-clause-quiet : goal.returns-in-Tick-clause-quiet
returns-in-Tick-clause-quiet c doc q h s store watch quiet = (
  sym (c.syncs_at_once.ensures doc q h s.parts.settings.first_sync s.cluster store watch) ∙ c.if-syncs_at_once.false,
  λ n. ap (λ rule. is_cleaned_by rule q n h) (sym s.parts.settings.judge ∙ c.in-Tick.is) ∙ c.is_unclean.ensures.none q h s.cluster quiet n,
)

pub returns-in-Tick-clause-busy : goal.returns-in-Tick-clause-busy
returns-in-Tick-clause-busy c doc q h s store watch busy =
    let some = c.is_unclean.ensures.some q h s.cluster busy in
    inr (some.0, ap (λ rule. is_cleaned_by rule q some.0 h) (sym s.parts.settings.judge ∙ c.in-Tick.is) ∙ some.1)

pub returns-in-Pass-clause-quiet : goal.returns-in-Pass-clause-quiet
returns-in-Pass-clause-quiet c doc q h s store watch quiet = (
  sym (c.syncs_at_once.ensures doc q h s.parts.settings.first_sync s.cluster store watch) ∙ c.if-syncs_at_once.false,
  λ n. ap (λ rule. is_cleaned_by rule q n h) (sym s.parts.settings.judge ∙ c.in-Pass.is),
)
