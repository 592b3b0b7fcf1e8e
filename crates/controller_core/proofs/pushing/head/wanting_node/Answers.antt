use Rattle.std.proofs.Common.{◌∙◌, ap, sym}
use Rattle.watch_cache.specs.Told.{found_pair}
use Rattle.term_state.specs.ClusterStands.{no_node, no_pod}
use Rattle.controller_core.specs.Restamping.{wanting_of}
use Rattle.controller_core.proofs.Pushed.Wants.{wants_it, wants_nothing}
use Rattle.controller_core.proofs.pushing.head.wanting_node.Goals as goal

pub returns-in_default : goal.returns-in_default
returns-in_default c doc k q h s synced time = ap (wanting_of doc k q) (ap found_pair (sym c.in_default.is) ∙ c.node.ensures q h no_node no_pod s synced)

pub returns-in_default-ready_wants : goal.returns-in_default-ready_wants
returns-in_default-ready_wants c doc k q h s synced time =
    sym (wants_nothing doc k q (c.in-Some.given, c.in-Some.node.now) c.ready_wants.result c.ready_wants.ensures c.in_default-ready_wants.not-Wanted)
    ∙ ap (wanting_of doc k q) (c.in-Some.ensures q h no_node no_pod s synced)

pub returns : goal.returns
returns c doc k q h s synced time =
    wants_it doc k q c.in-Wanted.wanted c.whole_second.result.0 c.args.now.0 (c.in-Some.given, c.in-Some.node.now) c.ready_wants.result c.in_ok-written.written c.new_taint.result c.ready_wants.ensures
    c.in-Wanted.is c.new_taint.ensures c.whole_second.ensures time c.in_ok-written.ensures
    ∙ ap (wanting_of doc k q) (c.in-Some.ensures q h no_node no_pod s synced)
