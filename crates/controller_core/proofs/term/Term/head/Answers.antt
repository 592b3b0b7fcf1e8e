use Rattle.std.proofs.Common.{◌∙◌, sym}
use Rattle.taint_zones.specs.Places.{entry_place}
use Rattle.controller_core.proofs.Readying.{no_pushed_heads, no_waiting_heads, pushed_heads, waiting_heads}
use Rattle.controller_core.proofs.term.Term.head.Goals as goal

pub returns-in-Tick-clause-some : goal.returns-in-Tick-clause-some
returns-in-Tick-clause-some c doc q h s =
    waiting_heads doc q h c.args.self.now.zones (entry_place c.args.place) c.head.result (sym c.in-Tick.is ∙ s.parts.settings.judge) s.parts.queues c.head.ensures.first

pub returns-in-Tick-clause-none : goal.returns-in-Tick-clause-none
returns-in-Tick-clause-none c doc q h s =
    no_waiting_heads doc q h c.args.self.now.zones (entry_place c.args.place) c.head.result (sym c.in-Tick.is ∙ s.parts.settings.judge) s.parts.queues c.head.ensures.none

pub returns-in-Pass-clause-some : goal.returns-in-Pass-clause-some
returns-in-Pass-clause-some c doc q h s =
    pushed_heads doc q h c.args.self.now.zones (entry_place c.args.place) c.head-in-Pass.result (sym c.in-Pass.is ∙ s.parts.settings.judge) s.parts.queues c.head-in-Pass.ensures

pub returns-in-Pass-clause-none : goal.returns-in-Pass-clause-none
returns-in-Pass-clause-none c doc q h s =
    no_pushed_heads doc q h c.args.self.now.zones (entry_place c.args.place) c.head-in-Pass.result (sym c.in-Pass.is ∙ s.parts.settings.judge) s.parts.queues c.head-in-Pass.ensures
