use Rattle.std.proofs.Common.{◌∙◌, sym}
use Rattle.controller_core.proofs.Readying.{next_pushed, next_waiting, pushed_later, waiting_later}
use Rattle.controller_core.proofs.term.Term.next_zone.Goals as goal

pub returns-in-Tick-clause-later : goal.returns-in-Tick-clause-later
returns-in-Tick-clause-later c = waiting_later c.args.self.now.zones.queues c.args.after c.next_zone.result c.next_zone.ensures

pub returns-in-Pass-clause-later : goal.returns-in-Pass-clause-later
returns-in-Pass-clause-later c = pushed_later c.args.self.now.zones.pushes c.args.after c.next_zone-in-Pass.result c.next_zone-in-Pass.ensures

pub returns-in-Tick-clause-next : goal.returns-in-Tick-clause-next
returns-in-Tick-clause-next c doc q h s =
    next_waiting doc q h c.args.self.now.zones c.args.after c.next_zone.result (sym c.in-Tick.is ∙ s.parts.settings.judge) s.parts.queues c.next_zone.ensures

pub returns-in-Pass-clause-next : goal.returns-in-Pass-clause-next
returns-in-Pass-clause-next c doc q h s =
    next_pushed doc q h c.args.self.now.zones c.args.after c.next_zone-in-Pass.result (sym c.in-Pass.is ∙ s.parts.settings.judge) s.parts.queues c.next_zone-in-Pass.ensures
