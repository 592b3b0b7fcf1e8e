use Rattle.std.proofs.Common.{◌≡◌, ◌∙◌, Some, ap, sym}
use Rattle.kube_objects.specs.Modes.{mode}
use Rattle.kube_objects.specs.Tainting.{lacks}
use Rattle.history_laws.proofs.Plainly.{none_is, some_is}
use Rattle.watch_cache.specs.Told.{found_pair}
use Rattle.term_state.specs.ClusterStands.{no_node, no_pod}
use Rattle.controller_core.proofs.Tainting.Lacks.{lack_is, lacks_it}
use Rattle.controller_core.proofs.taint.head.lack_of.Goals as goal

pub returns-in_default : goal.returns-in_default
returns-in_default c doc k q h place wanted x s synced time is sees =
    absurd (none_is x (ap found_pair (sym c.in_default.is) ∙ c.node.ensures q h no_node no_pod s synced ∙ sees))

pub returns-in_default-lacks : goal.returns-in_default-lacks
returns-in_default-lacks c doc k q h place wanted x s synced time is sees =
    let node = c.in-Some.node.now in
    let seen : Some (c.in-Some.given, node) ≡ Some x = c.in-Some.ensures q h no_node no_pod s synced ∙ sees in
    let pair = some_is (c.in-Some.given, node) x seen in
    absurd (none_is wanted
    (sym c.in_default-lacks.is ∙ c.lacks.ensures ∙ ap (λ b. lacks b node) (c.mode.ensures q h no_node no_pod s) ∙ ap (λ y. lacks (mode q h) y.1) pair ∙ lacks_it q h place c.args.name wanted x is sees))

pub returns : goal.returns
returns c doc k q h place wanted x s synced time is sees =
    let node = c.in-Some.node.now in
    let seen : Some (c.in-Some.given, node) ≡ Some x = c.in-Some.ensures q h no_node no_pod s synced ∙ sees in
    let pair = some_is (c.in-Some.given, node) x seen in
    let same = some_is c.in-Some-lacks.wanted wanted
    (sym c.in-Some-lacks.is ∙ c.lacks.ensures ∙ ap (λ b. lacks b node) (c.mode.ensures q h no_node no_pod s) ∙ ap (λ y. lacks (mode q h) y.1) pair ∙ lacks_it q h place c.args.name wanted x is sees) in
    ap (λ l. Some l)
    (lack_is doc k q wanted c.in-Some-lacks.wanted c.whole_second.result.0 c.args.now.0 x c.in-Some.given node c.in_ok-written.written c.new_taint.result seen same c.new_taint.ensures c.whole_second.ensures time
    c.in_ok-written.ensures)
