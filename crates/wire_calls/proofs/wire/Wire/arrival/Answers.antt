use Rattle.wire_calls.specs.Messages.{request_keeps_kind}
use Rattle.wire_calls.proofs.wire.Wire.arrival.Goals as goal

pub returns-clause-kind : goal.returns-clause-kind
returns-clause-kind c = c.take.ensures.each request_keeps_kind c.args.self.now.kinds
