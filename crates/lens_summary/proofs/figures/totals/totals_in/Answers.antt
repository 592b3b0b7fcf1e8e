use Rattle.std.proofs.Common.{◌≡◌, ℕ, List, length, map, Bor, arith}
use Rattle.lens_json.specs.Parts.{members_in}
use Rattle.trace_lines.specs.Reads.{seen}
use Rattle.lens_summary.specs.FigureTotals.{kind_objects}
use Rattle.lens_summary.proofs.TotalLaws.{flat-step, kinds-told}
use Rattle.lens_summary.proofs.figures.totals.totals_in.Goals as goal

pub loop-word-preserved : goal.loop-word-preserved
loop-word-preserved c =
    let all : length c.kinds-kinds.result ≡ 20 = kinds-told c.kinds-kinds.result c.kinds-kinds.ensures in
    flat-step (kind_objects (map seen c.args.lines.now)) (λ (word : Bor (List ℕ)). word.now) c.kinds-kinds.result c.loop-word.word-index _
    (map members_in c.loop-word.objects.items) (map members_in c.add_kind.new.objects.items) _
    (omega (arith, c.loop-word-test.true, all)) c.in_ok-add_kind.ensures c.loop-word.invariant
