use Rattle.std.specs.Option.{option_map}
use Rattle.trace_lines.specs.Reads.{seen}
use Rattle.lens_summary.specs.Totals.{outcome_in, outcomes}
use Rattle.lens_summary.proofs.StepLaws.{filter-step}
use Rattle.lens_summary.proofs.totals.outcomes.Goals as goal

pub loop-line-preserved : goal.loop-line-preserved
unfolding outcomes
loop-line-preserved c =
    filter-step (outcome_in (option_map (λ word. word.now) c.args.kind)) seen c.args.lines.now c.loop-line.line-index _ c.loop-line.outcomes.items c.add_outcome.new.outcomes.items _
    c.loop-line-test.true c.in_ok-add_outcome.ensures c.loop-line.invariant
