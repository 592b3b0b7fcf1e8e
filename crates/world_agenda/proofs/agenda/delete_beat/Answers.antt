use Rattle.std.proofs.Common.{sym, subst, arith}
use Rattle.world_agenda.specs.Woken.{IsDeleteBeat, IsTimeBeat}
use Rattle.world_agenda.proofs.Waking.{allowed-first, allowed-from, allowed-late, never-allowed, never-timed}
use Rattle.world_agenda.proofs.agenda.delete_beat.Goals as goal

pub returns-in_err-time : goal.returns-in_err-time
returns-in_err-time c =
    let clock = c.args.clock.now in
    let w = c.args.wakes.now in
    subst (IsDeleteBeat clock w) (sym c.from_residual.ensures) (never-timed clock w (subst (IsTimeBeat clock w.wall) c.in_err-time.was c.at_time.ensures))

pub returns-in_err-room : goal.returns-in_err-room
returns-in_err-room c =
    let clock = c.args.clock.now in
    let w = c.args.wakes.now in
    subst (IsDeleteBeat clock w) (sym c.from_residual-in_err-room.ensures) (never-allowed clock w c.in_err-room.was)

pub returns-then-room-eq0 : goal.returns-then-room-eq0
returns-then-room-eq0 c = allowed-first c.args.clock.now c.args.wakes.now c.in_ok-time.time c.in_ok-room.room c.in_ok-time.ensures c.in_ok-room.was c.if-room-eq0.true

pub returns-in_err-there : goal.returns-in_err-there
returns-in_err-there c =
    let clock = c.args.clock.now in
    let w = c.args.wakes.now in
    subst (IsDeleteBeat clock w) (sym c.from_residual-in_err-there.ensures) (allowed-late clock w c.in_ok-room.room c.in_ok-room.was c.in_err-there.ensures.none)

pub returns-then-time-there : goal.returns-then-time-there
returns-then-time-there c =
    allowed-from c.args.clock.now c.args.wakes.now c.in_ok-time.time c.in_ok-there.there c.in_ok-there.there c.in_ok-room.room c.in_ok-time.ensures c.in_ok-room.was c.in_ok-there.ensures.first
    (omega (arith, c.if-time-there.true))

pub returns-else-time-there : goal.returns-else-time-there
returns-else-time-there c =
    allowed-from c.args.clock.now c.args.wakes.now c.in_ok-time.time c.in_ok-there.there c.in_ok-time.time c.in_ok-room.room c.in_ok-time.ensures c.in_ok-room.was c.in_ok-there.ensures.first
    (omega (arith, c.if-time-there.false))
