use Rattle.std.proofs.Common.{◌≡◌, ℕ, List, length, map, Bor, arith}
use Rattle.lens_summary.specs.Tables.{shown}
use Rattle.trace_lines.specs.Reads.{seen}
use Rattle.lens_summary.specs.Totals.{kind_rows}
use Rattle.lens_summary.proofs.TotalLaws.{flat-step, kinds-told}
use Rattle.lens_summary.proofs.totals.add_kinds.Goals as goal

pub loop-word-preserved : goal.loop-word-preserved
loop-word-preserved c =
    let all : length c.kinds-kinds.result ≡ 20 = kinds-told c.kinds-kinds.result c.kinds-kinds.ensures in
    flat-step (kind_rows (map seen c.args.lines.now)) (λ (word : Bor (List ℕ)). word.now) c.kinds-kinds.result c.loop-word.word-index _
    (shown c.loop-word.rows.items) (shown c.add_kind.new.rows.items) _
    (omega (arith, c.loop-word-test.true, all)) c.in_ok-add_kind.ensures c.loop-word.invariant
