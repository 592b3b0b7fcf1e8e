use Rattle.std.proofs.Common.{subst, sym}
use Rattle.kube_objects.specs.Tick.{add_crossed}
use Rattle.node_taints.specs.Wanting.{wants_of}
use Rattle.term_state.specs.declared.writes.NodeWrite.TheVariants as write
use Rattle.controller_core.specs.Trying.{AddsTry}
use Rattle.controller_core.proofs.Judgement.Trying.{swap_try}
use Rattle.controller_core.proofs.judging.attempt.swap_of.Goals as goal

pub returns : goal.returns
returns c doc k q h time seen =
    let node = c.args.node.now in
    let written = c.in_ok-written.written in
    let wanted = c.in-Wanted.wanted in
    subst (λ w. AddsTry k q h (add_crossed doc k q c.args.name c.args.given node c.args.fresh (wants_of w) h) (record { name = c.args.name; given = c.args.given; written = written; write = write.Swap wanted })) (sym c.in-Wanted.is)
    (swap_try k q c.args.name h c.args.given node written seen doc wanted c.args.fresh (c.in_ok-written.ensures doc k q time))
