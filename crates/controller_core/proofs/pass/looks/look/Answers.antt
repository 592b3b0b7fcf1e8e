use Rattle.std.proofs.Common.{◌≡◌, ◌∙◌, ◌≤◌, ◌+◌, ◌==◌, ◌&&◌, cond, None, Some, ap, arith, subst, sym}
use Rattle.kube_objects.specs.declared.rules.ProbeRule.TheVariants as probes
use Rattle.node_health.specs.declared.verdict.Verdict.TheVariants.{Keep, MarkUnknown}
use Rattle.node_health.specs.Kept.{verdict_of}
use Rattle.node_health.specs.Kept.{kept as kept_of, rule_of}
use Rattle.node_health.specs.Stands.{IsNoted, PassStands, and_looked}
use Rattle.history_laws.proofs.Plainly.{or_left, or_right}
use Rattle.node_health.proofs.Frames.{alike-mark-other, alike-then}
use Rattle.kube_objects.specs.Entry.{Mark, Pass}
use Rattle.kube_objects.specs.Health.{is_ready_node, lease_of, mark_of}
use Rattle.kube_objects.specs.Newest.{has}
use Rattle.kube_objects.specs.Seen.{is_accepted, seen_lease, seen_node}
use Rattle.kube_objects.specs.Tick.{add, mark}
use Rattle.kube_objects.specs.Tries.{try_node}
use Rattle.term_state.specs.ClusterStands.{no_node, no_pod}
use Rattle.term_state.specs.Sights.{spent}
use Rattle.controller_core.specs.Passing.{IsPassing}
use Rattle.controller_core.specs.Working.{HavePassCost, WritesStand, kept}
use Rattle.controller_core.proofs.Passing.Looking.{keep_none, look_is, looked_itself, mark_is, marks_by, noted_by, unseen}
use Rattle.controller_core.proofs.Passing.Working.{note_cost, note_writes, on_ok_both, pods_with_mark}
use Rattle.tick_laws.specs.Steps.{pods_on}
use Rattle.tick_laws.proofs.Marking.{mark_keeps}
use Rattle.watch_cache.specs.Told.{found_pair}
use Rattle.controller_core.proofs.pass.looks.look.Goals as goal

pub returns-in_default : goal.returns-in_default
returns-in_default g c doc k q before h now looked p view graces writes new there same =
    absurd (unseen q c.args.name h now there same (ap found_pair (sym c.in_default.is) ∙ c.node.ensures q now no_node no_pod p.running.cluster p.running.synced))

pub returns-in-Keep : goal.returns-in-Keep
returns-in-Keep g c doc k q before h now looked p view graces writes new there same =
    let name = c.args.name in
    let node = c.in-Some.node.now in
    let sees : Some (c.in-Some.given, node) ≡ seen_node q name now = c.in-Some.ensures q now no_node no_pod p.running.cluster p.running.synced in
    let seen = look_is doc k q before h now looked c.args.cluster.now c.args.health.now c.args.store.now c.args.told.now name c.in-Some.given node c.lease_of-lease.result c.args.view.now.now.0 c.args.grace.now p new sees same
    (c.lease_of-lease.ensures q now p.running.cluster p.running.synced) view.reading graces in
    let keeps : Keep ≡ verdict_of (mark_of doc q k name node now) = sym c.in-Keep.is ∙ c.in_ok-look.ensures.marks doc k q h now looked p.health new seen in
    let idle : mark doc k q name now ≡ now = mark_is doc k q name now (c.in-Some.given, node) None (sym sees) (keep_none doc k q name node now keeps) in
    subst (λ g. IsPassing doc k q before h g (and_looked name looked) c.args.cluster.now c.look.new.self c.args.store.now c.args.told.now × WritesStand doc q h g c.args.writes.now
    × HavePassCost doc q k h now g (spent c.args.cluster.now c.args.steps.now) (spent c.args.cluster.now c.args.steps.now)) (sym idle) (
      record { running = p.running; health = c.in_ok-look.ensures.stands doc k q h now looked p.health new seen; leases = p.leases; pods = p.pods; alike = λ n out. p.alike n (or_right (name == n) (looked n) out) },
      writes,
      omega arith,
    )

pub returns-in_ok-answer-in-MarkUnknown : goal.returns-in_ok-answer-in-MarkUnknown
returns-in_ok-answer-in-MarkUnknown g c doc k q before h now looked p view graces writes new there same =
    let name = c.args.name in
    let given = c.in-Some.given in
    let node = c.in-Some.node.now in
    let at = c.args.view.now.now.0 in
    let sees : Some (given, node) ≡ seen_node q name now = c.in-Some.ensures q now no_node no_pod p.running.cluster p.running.synced in
    let seen = look_is doc k q before h now looked c.args.cluster.now c.args.health.now c.args.store.now c.args.told.now name given node c.lease_of-lease.result at c.args.grace.now p new sees same
    (c.lease_of-lease.ensures q now p.running.cluster p.running.synced) view.reading graces in
    let says : MarkUnknown c.in-MarkUnknown.reason ≡ verdict_of (mark_of doc q k name node now) = sym c.in-MarkUnknown.is ∙ c.in_ok-look.ensures.marks doc k q h now looked p.health new seen in
    let x = marks_by doc k q before h now looked c.args.cluster.now c.args.health.now c.args.store.now c.args.told.now name given node c.in_ok-written-in-MarkUnknown.written c.in-MarkUnknown.reason
    c.whole_second.result.0 c.args.view.now.wall.0 p sees says view.time c.whole_second.ensures c.in_ok-written-in-MarkUnknown.ensures in
    let written = c.in_ok-written-in-MarkUnknown.written in
    let tried = try_node q name given now in
    let tick = Mark name given written tried in
    let more = add k q tick now in
    let ran = c.in_ok-answer-in-MarkUnknown.ensures.stands doc k q before now tick p.running view x.is (ap has (sym sees)) in
    let cost = c.in_ok-answer-in-MarkUnknown.ensures.counted doc k q before now tick p.running view x.is in
    let answered : c.in_ok-answer-in-MarkUnknown.answer ≡ tried = c.in_ok-answer-in-MarkUnknown.ensures.answer q now p.running.store view.passes in
    let ready : c.is_ready-ready.result ≡ is_ready_node (seen_node q name h) = c.is_ready-ready.ensures ∙ ap is_ready_node (sees ∙ same) in
    let on : pods_on q name more ≡ pods_on q name now = pods_with_mark k q name given written now name in
    let noted : rule_of c.look.new.self ≡ probes.Record → IsNoted q now name written c.lease_of-lease.result (kept_of c.look.new.self name) =
    λ by_record. noted_by q name now node written c.lease_of-lease.result c.args.health.now.rule (kept_of c.args.health.now name) (kept_of c.look.new.self name) at c.whole_second.result.0
    (c.in_ok-look.ensures.kept name) c.in_ok-written-in-MarkUnknown.ensures (sym (c.lease_of-lease.ensures q now p.running.cluster p.running.synced)) (sym c.look.ensures.rule ∙ by_record) in
    on_ok_both c.note_mark.result
    (λ count counted.
    let writes2 = note_writes doc k q h now name given written tried (p.pods name) c.args.writes.now c.note_mark.new.self c.is_ready-ready.result writes c.note_mark.ensures.takes ready
    (count ∙ ap (λ a. cond (c.args.writes.now.takes && (c.is_ready-ready.result && is_accepted a)) (kept (c.args.writes.now.count + pods_on q name more)) c.args.writes.now.count) answered
    ∙ ap (λ n. cond (c.args.writes.now.takes && (c.is_ready-ready.result && is_accepted tried)) (kept (c.args.writes.now.count + n)) c.args.writes.now.count) on) in
    let pods = note_cost doc k q h now name given written tried (p.pods name) c.args.writes.now c.is_ready-ready.result writes ready c.try_write.new.steps c.note_mark.new.steps
    (subst (λ n. c.note_mark.new.steps ≤ c.try_write.new.steps + n)
    (ap (λ a. cond (c.args.writes.now.takes && (c.is_ready-ready.result && is_accepted a)) (pods_on q name more) 0) answered
    ∙ ap (λ n. cond (c.args.writes.now.takes && (c.is_ready-ready.result && is_accepted tried)) n 0) on) counted) in
    subst (λ g. IsPassing doc k q before h g (and_looked name looked) c.try_write.new.cluster c.note_accepted.new.health c.try_write.new.store c.try_write.new.told × WritesStand doc q h g c.note_mark.new.self
    × HavePassCost doc q k h now g (spent c.args.cluster.now c.args.steps.now) (spent c.try_write.new.cluster c.note_mark.new.steps)) x.adds (
      record {
        running = ran;
        health = subst (λ a. PassStands doc q h (add k q (Mark name given written a) now) (and_looked name looked) c.note_accepted.new.health) answered
            (c.note_accepted.ensures doc k q h now (and_looked name looked) given written (c.in_ok-look.ensures.stands doc k q h now looked p.health new seen) (looked_itself name looked) noted);
        leases = λ n. ap (λ g. lease_of (seen_lease q n g)) x.adds ∙ ap lease_of ((mark_keeps doc k q name now).leases n) ∙ p.leases n;
        pods = λ n. pods_with_mark k q name given written now n ∙ p.pods n;
        alike = λ n out. alike-then q n (add k q Pass h) now more (p.alike n (or_right (name == n) (looked n) out))
            (alike-mark-other q k now name n given written tried (or_left (name == n) (looked n) out));
      },
      writes2,
      omega (arith, cost, pods),
    ))
    (c.note_mark.ensures.count q more ran.cluster ran.synced)
    (c.note_mark.ensures.counted q more ran.cluster ran.synced)
