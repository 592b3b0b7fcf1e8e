use Rattle.std.proofs.Common.{map, set, codes, ap, ◌∙◌}
use Rattle.std.proofs.lemmas.List.{map-set}
use Rattle.lens_json.specs.Parts.{list_of, members_in, part_of}
use Rattle.lens_summary.specs.Figures.{members_on}
use Rattle.trace_lines.specs.Reads.{seen}
use Rattle.lens_lateness.proofs.figures.answering.late_parts.Goals as goal

pub returns : goal.returns
returns c =
    let given = members_on c.args.trace.now.header (map seen c.args.trace.now.lines.now) in
    map-set part_of c.in_ok-members.members 5 _
    ∙ ap (λ ms. set ms 5 (codes "evictions", list_of (map members_in c.in_ok-evictions.evictions.items))) c.in_ok-members.ensures
    ∙ ap (λ objects. set given 5 (codes "evictions", list_of objects)) c.in_ok-evictions.ensures
