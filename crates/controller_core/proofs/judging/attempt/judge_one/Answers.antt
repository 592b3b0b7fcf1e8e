use Rattle.std.proofs.Common.{◌≡◌, ◌∙◌, IfOk, ap, false, subst, sym, true}
use Rattle.kube_objects.specs.Newest.{has}
use Rattle.kube_objects.specs.Seen.{is_stale}
use Rattle.kube_objects.specs.Stored.{node_key}
use Rattle.kube_objects.specs.Tick.{judge_as}
use Rattle.node_taints.specs.Wanting.{wants_of}
use Rattle.watch_cache.specs.Told.{found_pair}
use Rattle.term_state.specs.ClusterStands.{no_node, no_pod}
use Rattle.term_state.proofs.Lasting.{if_ok_weaker}
use Rattle.controller_core.specs.Pushing.{JudgingStand}
use Rattle.controller_core.specs.Trying.{IsTryOf}
use Rattle.controller_core.proofs.Judgement.One.{not_missing, one_seen, pushed_is, stale_is, tried_is}
use Rattle.controller_core.proofs.judging.attempt.judge_one.Goals as goal

pub returns-in_default : goal.returns-in_default
returns-in_default c doc k q h x xs rest stands synced time there look marked turned rule last stand =
    absurd (not_missing q x c.args.name h there marked (ap found_pair (sym c.in_default.is) ∙ c.node.ensures q h no_node no_pod stands synced))

pub returns-then-is_stale : goal.returns-then-is_stale
returns-then-is_stale c doc k q h x xs rest stands synced time there look marked turned rule last stand =
    let one = one_seen q x c.args.name h there marked c.in-Some.given c.in-Some.node.now (c.in-Some.ensures q h no_node no_pod stands synced) in (
      stale_is doc k q x c.args.name h (sym (c.is_stale.ensures q h no_node no_pod stands) ∙ c.if-is_stale.true),
      pushed_is doc q x c.args.name h c.args.look c.args.rule c.in-Some.given c.in-Some.node.now c.verdict_of-verdict.result one look rule c.verdict_of-verdict.ensures xs rest c.args.turned c.args.pushes.now c.queue.new.pushes turned stand last
          (record { names = c.in_ok-queue.ensures.names; counts = c.in_ok-queue.ensures.counts }),
    )

pub returns : goal.returns
returns c doc k q h x xs rest stands synced time there look marked turned rule last stand =
    let name = c.args.name in
    let given = c.in-Some.given in
    let node = c.in-Some.node.now in
    let sees = c.in-Some.ensures q h no_node no_pod stands synced in
    let said = c.verdict_of-verdict in
    let one = one_seen q x name h there marked given node sees in
    let fresh : is_stale q (node_key name) h ≡ false = sym (c.is_stale.ensures q h no_node no_pod stands) ∙ c.if-is_stale.false in
    let pushed = pushed_is doc q x name h c.args.look c.args.rule given node said.result one look rule said.ensures xs rest c.args.turned c.args.pushes.now c.queue.new.pushes turned stand last
    (record { names = c.in_ok-queue.ensures.names; counts = c.in_ok-queue.ensures.counts }) in
    subst (λ g. IfOk c.write_of.result (λ tried. IsTryOf k q h g tried × JudgingStand doc q x xs rest c.queue.new.pushes))
    (tried_is doc q x name h c.args.look c.args.rule given node said.result one look rule said.ensures k fresh sees)
    (if_ok_weaker (IsTryOf k q h (judge_as doc k q name x given node (wants_of said.result.wants) h)) _ c.write_of.result (λ tried adds. (adds, pushed))
    (c.write_of.ensures doc k q x h time (ap has (sym sees)) look.fresh turned said.ensures.crossed said.ensures.cleared))
