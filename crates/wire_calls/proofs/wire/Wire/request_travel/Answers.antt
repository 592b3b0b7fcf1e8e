use Rattle.wire_calls.proofs.Sends.{told-request}
use Rattle.wire_calls.proofs.wire.Wire.request_travel.Goals as goal

pub returns : goal.returns
returns c processes k arriving coming h s = told-request processes k arriving coming h c.args.self.now c.args.who.0 c.args.now.0 c.link-link.result _ s c.link-link.ensures c.travel.ensures
