use Rattle.std.proofs.Common.{◌≡◌, ◌∙◌, ◌<◌, ℕ, ◌+◌, ◌==◌, ◌&&◌, not, true, Some, ap, arith, length, option_map, subst, sym}
use Rattle.kube_objects.specs.Clocks.{local}
use Rattle.kube_objects.specs.Document.{of_millis}
use Rattle.kube_objects.specs.Entry.{Pass}
use Rattle.kube_objects.specs.Health.{is_found, is_pass_due, is_pass_tick, pass_period, work_of}
use Rattle.kube_objects.specs.Modes.{mode}
use Rattle.kube_objects.specs.Tick.{add, marks, set_zones}
use Rattle.node_health.specs.Kept.{is_listed}
use Rattle.node_health.specs.Stands.{HealthStands}
use Rattle.taint_zones.specs.Limits.{LimitsStand}
use Rattle.controller_core.specs.Costs.{HaveCost}
use Rattle.controller_core.specs.Looking.{FoundStands}
use Rattle.controller_core.specs.Passing.{LastStands}
use Rattle.controller_core.specs.Working.{kept, pods_counted, pods_passed}
use Rattle.controller_core.proofs.Passing.Found.{found_stands}
use Rattle.controller_core.proofs.Passing.Marks.{view_more}
use Rattle.controller_core.proofs.Passing.Passed.{are_passed, found_named, marks_many, marks_named, marks_view, moded, moded_nodes, pass_is, pass_last, pass_tick, passed_pods, period_is, rest_cost, run_pass, zones_leave}
use Rattle.controller_core.proofs.Passing.Working.{begin_writes, begun_none}
use Rattle.term_state.specs.ClusterStands.{no_node, no_pod}
use Rattle.term_state.specs.MidTick.{MidTick}
use Rattle.term_state.specs.Sights.{spent}
use Rattle.tick_laws.proofs.Steps.{cost_grows}
use Rattle.zone_counts.specs.Counted.{zone_counts}
use Rattle.controller_core.proofs.pass.pass.Goals as goal

pub returns-clause-stands : goal.returns-clause-stands
returns-clause-stands g c doc k q before h r health limits last view s few =
    let due : is_pass_due doc k q h ≡ true =
    sym (c.is_due.ensures doc k q h last view.reading) ∙ c.if-not-is_due.false in
    let p = add k q Pass h in
    let m = marks doc k q p in
    let z = set_zones doc k q (moded doc k q h) in
    let names = c.in_ok-names.names in
    let are = c.in_ok-names.ensures.named q h no_node no_pod r.cluster r.synced in
    let all = c.in_ok-look_all.ensures doc k q before h (run_pass doc q k before h c.args.cluster.now c.args.store.now c.args.told.now r) health view
    (record { grace = c.picoseconds.ensures.value ∙ ap of_millis s.grace; startup = c.picoseconds-2.ensures.value ∙ ap of_millis s.startup }) are
    (begin_writes doc k q h c.new-writes.result (c.new-writes.ensures.takes ∙ ap (λ n. not (n == 0)) s.ready_millis) c.new-writes.ensures.count) in
    let pods = passed_pods doc k q h due in
    let whole : HaveCost q k h z (spent c.args.cluster.now c.args.steps.now + pods_passed doc k q h) (spent c.set_mode.new.cluster c.look_all.new.steps) =
    omega (arith, all.2, cost_grows q k h Pass, rest_cost doc k q m, pods, begun_none doc k q h, c.in_ok-set_mode.ensures.touched) in
    let period : c.period_after.result ≡ kept (pass_period doc q z) =
    c.period_after.ensures (pods_counted doc q h m) all.1.count
    ∙ ap (λ n. kept (of_millis n + work_of c.args.settings.now.ready_millis c.args.settings.now.ready_burst (pods_counted doc q h m))) s.monitor
    ∙ ap (λ n. kept (of_millis doc.settings.monitor_period_millis + work_of n c.args.settings.now.ready_burst (pods_counted doc q h m))) s.ready_millis
    ∙ ap (λ n. kept (of_millis doc.settings.monitor_period_millis + work_of doc.settings.rules.ready_millis n (pods_counted doc q h m))) s.ready_burst
    ∙ sym (ap kept (period_is doc k q h)) in
    let found : (n : ℕ) → is_found q n m ≡ is_listed names n = found_named q m names (marks_named doc k q h names are) in
    let heard = c.forget_others.ensures.stands doc k q h m all.0.health (found_named q h names are) all.0.alike in
    let counted = c.in_ok-counts.ensures q m all.0.running.cluster all.0.running.synced (marks_named doc k q h names are) (subst (λ (n : ℕ). n < 4294967296) (sym (marks_many doc k q h)) few) in
    let both = c.in_ok-set_mode.ensures.stands doc k q before m c.look_all.new.store all.0.running heard (marks_view doc k q p c.args.view.now (view_more doc k q h Pass c.args.view.now view)) found (c.deref.ensures.value ∙ counted) s.percent in
    let left = zones_leave doc k q (moded doc k q h) c.set_mode.new.cluster c.look_all.new.store c.set_mode.new.health (record { cluster = both.0.cluster; from = both.0.from; sights = both.0.sights; moved = both.0.moved; store = both.0.store; synced = both.0.synced; health = both.1 }) in
    let done = c.in_ok-set_zones.ensures.stands doc k q before (moded doc k q h) both.0.told (are_passed doc k q h c.args.zones.now limits)
    (c.deref-2.ensures.value ∙ counted ∙ ap zone_counts (sym (moded_nodes doc k q h)))
    (subst (λ (n : ℕ). n < 4294967296) (sym (ap length (moded_nodes doc k q h) ∙ marks_many doc k q h)) few)
    (c.mode-on.ensures q (moded doc k q h) no_node no_pod both.0.cluster) s view.reading in
    subst (λ f. MidTick doc q k before f c.set_mode.new.cluster c.look_all.new.store c.set_zones.new.told × HealthStands doc q f c.set_mode.new.health × LimitsStand doc q f c.set_zones.new.zones × LastStands doc q f (Some (record { at = c.args.view.now.now; period = c.period_after.result }))
    × HaveCost q k h f (spent c.args.cluster.now c.args.steps.now + pods_passed doc k q h) (spent c.set_mode.new.cluster c.look_all.new.steps))
    (sym (pass_is doc k q h due)) (
      record { cluster = left.cluster; from = left.from; sights = left.sights; moved = left.moved; store = left.store; told = done.0; synced = left.synced },
      left.health,
      done.1,
      record { reading = ap Some view.reading ∙ sym (ap (option_map (local doc q.process)) (pass_last doc k q h)); period = period },
      whole,
    )

pub returns-clause-found : goal.returns-clause-found
returns-clause-found g c doc k q before h r health last view s few held =
    let due : is_pass_due doc k q h ≡ true =
    sym (c.is_due.ensures doc k q h last view.reading) ∙ c.if-not-is_due.false in
    let p = add k q Pass h in
    let m = marks doc k q p in
    let names = c.in_ok-names.names in
    let are = c.in_ok-names.ensures.named q h no_node no_pod r.cluster r.synced in
    let all = c.in_ok-look_all.ensures doc k q before h (run_pass doc q k before h c.args.cluster.now c.args.store.now c.args.told.now r) health view
    (record { grace = c.picoseconds.ensures.value ∙ ap of_millis s.grace; startup = c.picoseconds-2.ensures.value ∙ ap of_millis s.startup }) are
    (begin_writes doc k q h c.new-writes.result (c.new-writes.ensures.takes ∙ ap (λ n. not (n == 0)) s.ready_millis) c.new-writes.ensures.count) in
    let there : (n : ℕ) → is_found q n m ≡ is_listed names n = found_named q m names (marks_named doc k q h names are) in
    let heard = c.forget_others.ensures.stands doc k q h m all.0.health (found_named q h names are) all.0.alike in
    let counted = c.in_ok-counts.ensures q m all.0.running.cluster all.0.running.synced (marks_named doc k q h names are) (subst (λ (n : ℕ). n < 4294967296) (sym (marks_many doc k q h)) few) in
    let both = c.in_ok-set_mode.ensures.stands doc k q before m c.look_all.new.store all.0.running heard (marks_view doc k q p c.args.view.now (view_more doc k q h Pass c.args.view.now view)) there (c.deref.ensures.value ∙ counted) s.percent in
    let turned : c.turns_on.result ≡ (not (mode q h) && mode q (moded doc k q h)) =
    c.turns_on.ensures ∙ (λ i. not (c.mode-was.ensures q h no_node no_pod r.cluster i) && c.mode-on.ensures q (moded doc k q h) no_node no_pod both.0.cluster i) in (
      due,
      (
        ap (is_pass_tick k q) (pass_is doc k q h due) ∙ pass_tick doc k q h,
        subst (λ f. FoundStands doc q h f (record { names = names; looks = c.in_ok-looks.looks; turned = c.turns_on.result })) (sym (pass_is doc k q h due))
            (found_stands doc k q h (record { names = names; looks = c.in_ok-looks.looks; turned = c.turns_on.result }) are turned (c.in_ok-looks.ensures.looks doc q h r.cluster r.synced s held) (c.in_ok-looks.ensures.unasked doc s)),
      ),
    )
