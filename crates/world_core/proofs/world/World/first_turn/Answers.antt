use Rattle.std.proofs.Common.{Some, None, sym, subst}
use Rattle.kube_base.specs.declared.numbers.ProcId.{ProcId}
use Rattle.beat_tree.specs.Leaves.{IsFirst}
use Rattle.world_core.specs.Waits.{IsFirstTurn, beat_of}
use Rattle.world_core.proofs.Leaves.{first-none, first-some}
use Rattle.world_core.proofs.world.World.first_turn.Goals as goal

pub returns-in_err-i-clause-first : goal.returns-in_err-i-clause-first
returns-in_err-i-clause-first c doc k h s ends =
    let w = c.args.self.now in
    let first : IsFirst w.turn_beats c.args.from c.args.before None = subst (IsFirst w.turn_beats c.args.from c.args.before) c.in_err-i.was c.first_before.ensures in
    subst (IsFirstTurn doc c.args.from (beat_of c.args.before) h) (sym c.from_residual.ensures) (first-none doc k h w c.requires s ends c.args.from c.args.before first)

pub returns-clause-first : goal.returns-clause-first
returns-clause-first c doc k h s ends =
    let w = c.args.self.now in
    let who : ProcId = record { 0 = c.in_ok-i.i } in
    let first : IsFirst w.turn_beats c.args.from c.args.before (Some who.0) = subst (IsFirst w.turn_beats c.args.from c.args.before) c.in_ok-i.was c.first_before.ensures in
    first-some doc k h w c.requires s ends c.args.from c.args.before who first
