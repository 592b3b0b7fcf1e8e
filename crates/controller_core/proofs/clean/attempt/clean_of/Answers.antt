use Rattle.std.proofs.Common.{◌∙◌, ap, sym}
use Rattle.watch_cache.specs.Told.{found_pair}
use Rattle.term_state.specs.ClusterStands.{no_node, no_pod}
use Rattle.controller_core.proofs.Cleaning.Cleans.{cleans_by, unseen}
use Rattle.controller_core.proofs.clean.attempt.clean_of.Goals as goal

pub returns-in_default : goal.returns-in_default
returns-in_default c doc k q h stands synced time dirty kept =
    absurd (unseen q c.args.name h dirty (ap found_pair (sym c.in_default.is) ∙ c.node.ensures q h no_node no_pod stands synced))

pub returns : goal.returns
returns c doc k q h stands synced time dirty kept =
    cleans_by doc k q c.args.name h c.in-Some.given c.in-Some.node.now c.in_ok-written.written c.mode.result _ c.write_for.result dirty kept (c.in-Some.ensures q h no_node no_pod stands synced)
    (c.mode.ensures q h no_node no_pod stands) c.want_of-wants.ensures (c.in_ok-written.ensures doc k q time) c.write_for.ensures
