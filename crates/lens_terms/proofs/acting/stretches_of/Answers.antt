use Rattle.std.proofs.Common.{map, sym, subst}
use Rattle.trace_lines.specs.Reads.{seen}
use Rattle.lens_terms.specs.Acting.{nothing_known}
use Rattle.lens_terms.specs.Gathered.{AreBelow}
use Rattle.lens_terms.proofs.StretchLaws.{stretches-below}
use Rattle.lens_terms.proofs.acting.stretches_of.Goals as goal

pub sort-requires : goal.sort-requires
sort-requires c = subst (λ ss. AreBelow c.args.stop ss) (sym c.in_ok-found.ensures) (stretches-below c.args.stop 2 nothing_known (map seen c.args.lines.now))
