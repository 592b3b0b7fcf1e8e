use Rattle.std.proofs.Common.{sym, subst}
use Rattle.wire_calls.specs.WireStands.{NextIs}
use Rattle.wire_calls.proofs.Nexts.{next-is}
use Rattle.wire_calls.proofs.wire.Wire.next.Goals as goal

pub returns : goal.returns
returns c processes k arriving coming h s =
    subst (NextIs k arriving coming h) (sym c.earlier.ensures)
    (next-is processes k arriving coming h c.args.self.now c.least.result c.least-2.result s (c.least.ensures s.live_requests) (c.least-2.ensures s.live_replies))
