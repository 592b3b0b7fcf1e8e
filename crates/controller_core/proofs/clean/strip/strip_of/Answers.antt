use Rattle.std.proofs.Common.{◌∙◌, IfOk, ap, subst, sym}
use Rattle.kube_objects.specs.Newest.{has}
use Rattle.watch_cache.specs.Told.{found_pair}
use Rattle.term_state.specs.ClusterStands.{no_node, no_pod}
use Rattle.controller_core.specs.Trying.{IsTryOf}
use Rattle.controller_core.proofs.Cleaning.Cleans.{stale_is, strips_by, unseen_is}
use Rattle.controller_core.proofs.clean.strip.strip_of.Goals as goal

pub returns-then-is_stale : goal.returns-then-is_stale
returns-then-is_stale c doc k q h stands synced strips = stale_is doc k q c.args.name h (sym (c.is_stale.ensures q h no_node no_pod stands) ∙ c.if-is_stale.true)

pub returns-in_default : goal.returns-in_default
returns-in_default c doc k q h stands synced strips = unseen_is doc k q c.args.name h (ap found_pair (sym c.in_default.is) ∙ c.node.ensures q h no_node no_pod stands synced)

pub returns : goal.returns
returns c doc k q h stands synced strips =
    let sees = c.in-Some.ensures q h no_node no_pod stands synced in
    subst (λ g. IfOk c.untaint_of.result (λ tried. IsTryOf k q h g tried))
    (sym (strips_by doc k q c.args.name h (c.in-Some.given, c.in-Some.node.now) strips (sym (c.is_stale.ensures q h no_node no_pod stands) ∙ c.if-is_stale.false) (sym sees)))
    (c.untaint_of.ensures k q h (ap has (sym sees)))
