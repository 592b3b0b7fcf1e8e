use Rattle.std.proofs.Common.{◌≡◌, ◌≤◌, ◌+◌, ◌-◌, vec_len}
use Rattle.byte_edge.specs.Bytes.{Took}
use Rattle.byte_edge.proofs.taking.take_all.Given as goal

abbrev pub invariant-taking : goal.invariant-taking
invariant-taking g l =
    let source = g.S.Source in
    record {
      took : Took (source.left l.fn.source) (source.left l.source) l.bytes.items;
      within : vec_len l.bytes ≤ l.limit + 1;
      piece : vec_len l.piece ≡ 65536;
      counted : source.faults l.fn.source ≤ source.faults l.source;
    }

abbrev pub decreases-taking : goal.decreases-taking
decreases-taking g l = l.limit + 1 - vec_len l.bytes
