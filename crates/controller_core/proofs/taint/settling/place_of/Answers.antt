use Rattle.std.proofs.Common.{◌∙◌, ap, sym}
use Rattle.kube_objects.specs.Tainting.{lacks}
use Rattle.watch_cache.specs.Told.{found_pair}
use Rattle.term_state.specs.ClusterStands.{no_node, no_pod}
use Rattle.controller_core.proofs.Tainting.Settles.{lacking_in, not_lacking, not_seen}
use Rattle.controller_core.proofs.taint.settling.place_of.Goals as goal

pub returns-in_default : goal.returns-in_default
returns-in_default c q h s synced = not_seen q h c.args.name (sym (ap found_pair (sym c.in_default.is) ∙ c.node.ensures q h no_node no_pod s synced))

pub returns-in-None : goal.returns-in-None
returns-in-None c q h s synced =
    not_lacking q h c.args.name (c.in-Some.field-0-0, c.in-Some.node.now) (sym (c.in-Some.ensures q h no_node no_pod s synced))
    (ap (λ b. lacks b c.in-Some.node.now) (sym (c.mode.ensures q h no_node no_pod s)) ∙ sym c.lacks.ensures ∙ c.in-None.is)

pub returns-in-Some-lacks : goal.returns-in-Some-lacks
returns-in-Some-lacks c q h s synced =
    lacking_in q h c.args.name c.in-Some-lacks.field-0 (c.in-Some.field-0-0, c.in-Some.node.now) (sym (c.in-Some.ensures q h no_node no_pod s synced))
    (ap (λ b. lacks b c.in-Some.node.now) (sym (c.mode.ensures q h no_node no_pod s)) ∙ sym c.lacks.ensures ∙ c.in-Some-lacks.is)
