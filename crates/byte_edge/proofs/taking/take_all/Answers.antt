use Rattle.std.proofs.Common.{sym, subst, arith, length, take, ◌≤◌, ◌+◌, []}
use Rattle.std.proofs.lemmas.List.{length-take}
use Rattle.byte_edge.specs.Bytes.{Took, TakesPiece}
use Rattle.byte_edge.proofs.Fronts.{took-nothing, took-all, took-piece, took-at-most, rose-earlier, piece-within}
use Rattle.byte_edge.proofs.taking.take_all.Goals as goal

pub taking-init : goal.taking-init
taking-init g c =
    let left = g.S.Source.left c.args.source.now in
    record {
      took = subst (Took left left) (sym c.new-bytes.ensures.items) (took-nothing left);
      within = omega (arith, c.new-bytes.ensures.len);
      piece = c.in-Ok.ensures.len;
      counted = omega arith;
    }

pub returns-in-Ok-eq0-clause-all : goal.returns-in-Ok-eq0-clause-all
returns-in-Ok-eq0-clause-all g c =
    let left = g.S.Source.left in
    let old = c.taking.bytes.items in
    let new = c.take_piece.new.bytes.items in
    let piece = subst (TakesPiece (left c.taking.source) (left c.take_piece.new.source) old new) c.in-Ok-eq0.field-0-test c.in-Ok-eq0.ensures.piece in
    let held : length old ≤ c.args.limit = omega (arith, c.taking-test.true, c.len.ensures, c.taking.bytes.ok.0) in (
      took-all (left c.args.source.now) (left c.taking.source) (left c.take_piece.new.source) old new c.taking.invariant.took piece,
      piece-within c.args.limit 0 0 old new [] (left c.taking.source) (left c.take_piece.new.source) piece (omega arith) (omega (arith, held)),
    )

pub taking-preserved : goal.taking-preserved
taking-preserved g c =
    let left = g.S.Source.left in
    let old = c.taking.bytes.items in
    let new = c.take_piece.new.bytes.items in
    let piece = c.in-Ok-take_piece.ensures.piece in
    let room : length old + c.min-size.result ≤ c.args.limit + 1 = omega (arith, c.taking.invariant.within, c.taking.bytes.ok.0, c.min-size.ensures, c.len-in-taking.ensures) in
    let within = piece-within (c.args.limit + 1) c.min-size.result c.in-Ok-take_piece.field-0 old new c.deref_mut.result.now (left c.taking.source) (left c.take_piece.new.source) piece c.in-Ok-take_piece.ensures.size room in
    record {
      took = took-piece (left c.args.source.now) (left c.taking.source) (left c.take_piece.new.source) old new c.in-Ok-take_piece.field-0 c.taking.invariant.took piece;
      within = omega (arith, within, c.take_piece.new.bytes.ok.0);
      piece = c.taking.invariant.piece;
      counted = omega (arith, c.take_piece.ensures.counted, c.taking.invariant.counted);
    }

pub returns-in-Err-clause-lost : goal.returns-in-Err-clause-lost
returns-in-Err-clause-lost g c =
    let left = g.S.Source.left in
    let old = c.taking.bytes.items in
    let cut : length (take c.min-size.result c.deref_mut.result.now) ≤ c.min-size.result = omega (arith, length-take c.min-size.result c.deref_mut.result.now) in
    let room : length old + length (take c.min-size.result c.deref_mut.result.now) ≤ c.args.limit + 1 = omega (arith, cut, c.taking.invariant.within, c.taking.bytes.ok.0, c.min-size.ensures, c.len-in-taking.ensures) in
    took-at-most (c.args.limit + 1) (length (take c.min-size.result c.deref_mut.result.now)) (left c.args.source.now) (left c.taking.source) (left c.take_piece.new.source) old room c.taking.invariant.took c.in-Err.ensures.lost

pub returns-in-Err-clause-failed : goal.returns-in-Err-clause-failed
returns-in-Err-clause-failed g c fault =
    rose-earlier (g.S.Source.faults c.args.source.now) (g.S.Source.faults c.taking.source) (g.S.Source.faults c.take_piece.new.source) c.taking.invariant.counted (c.in-Err.ensures.failed fault)
