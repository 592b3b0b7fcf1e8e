use Rattle.std.proofs.Common.{◌≡◌, ◌∙◌, ◌==◌, ℕ, cond, ap, sym, subst, arith}
use Rattle.kube_objects.specs.Entry.{Head}
use Rattle.kube_objects.specs.Newest.{has}
use Rattle.kube_objects.specs.Tries.{try_node}
use Rattle.history_laws.proofs.Plainly.{none_is}
use Rattle.taint_zones.specs.declared.place.Place.{Place}
use Rattle.taint_zones.specs.declared.zones.Zones.{Zones}
use Rattle.taint_zones.specs.Places.{entry_place, of_place}
use Rattle.taint_zones.specs.Waiting.{since}
use Rattle.tick_laws.proofs.Tainting.{heading_fresh}
use Rattle.term_state.specs.MidTick.{MidTick}
use Rattle.term_state.specs.Sights.{spent}
use Rattle.controller_core.specs.Attempts.{headed, requeued}
use Rattle.controller_core.specs.Costs.{HaveCost}
use Rattle.controller_core.specs.Heading.{Heading}
use Rattle.controller_core.specs.QueuesStand.{QueuesStand}
use Rattle.controller_core.proofs.Tainting.Attempting.{head_write}
use Rattle.controller_core.proofs.Tainting.Firsts.{first_is, limits_reached, queues_reached, tries_first}
use Rattle.controller_core.proofs.Tainting.ZoneWalk.{zone_idle}
use Rattle.controller_core.proofs.taint.head.taint_first.Goals as goal

pub returns-in_default : goal.returns-in_default
returns-in_default g c doc q k before h s v =
    subst (λ more. Heading doc q k before more c.args.zones.now c.args.cluster.now c.args.store.now c.args.told.now × HaveCost q k h more (spent c.args.cluster.now c.args.steps.now) (spent c.args.cluster.now c.args.steps.now))
    (sym (zone_idle doc k q h c.args.zones.now.queues (entry_place c.args.place) s.queues c.in_default.ensures.none)) (s, omega arith)

pub returns-in_default-2 : goal.returns-in_default-2
returns-in_default-2 g c doc q k before h s v =
    let f = first_is q h c.args.zones.now.queues c.args.place c.in-Some.name s.queues c.in-Some.ensures.first in
    absurd (none_is _
    (sym c.in_default-2.is ∙ c.in_ok-lacking.ensures doc k q h (entry_place c.args.place) f.wanted f.waiting.x s.running.cluster s.running.synced v.time f.waits f.waiting.sees))

pub returns : goal.returns
returns g c doc q k before h s v =
    let p = c.args.place in
    let name = c.in-Some.name in
    let f = first_is q h c.args.zones.now.queues p name s.queues c.in-Some.ensures.first in
    let w = f.waiting in
    let t = tries_first doc k q h (entry_place p) name f c.in-Some-2.lacking
    (sym c.in-Some-2.is ∙ c.in_ok-lacking.ensures doc k q h (entry_place p) f.wanted w.x s.running.cluster s.running.synced v.time f.waits w.sees)
    (sym (c.try_take.ensures.there doc q k h s.limits v.reading) ∙ c.if-not-try_take.false) in
    let queues : QueuesStand q h c.try_take.new.self.queues = λ zone n. c.try_take.ensures.queues (of_place zone) n ∙ s.queues zone n in
    let x = c.in-Some-2.lacking in
    let a = try_node q name x.given h in
    let write = head_write (entry_place p) name x.wanted x.given x.written a in
    let old = c.try_take.new.self.queues in
    let z : Zones = record { limits = c.try_take.new.self.limits; queues = c.requeue.new.queues; pushes = c.try_take.new.self.pushes } in
    let all = subst
    (λ l. MidTick doc q k before (headed k q (entry_place p) name l h) c.try_write.new.cluster c.try_write.new.store c.try_write.new.told
    × HaveCost q k h (headed k q (entry_place p) name l h) (spent c.args.cluster.now c.args.steps.now) (spent c.try_write.new.cluster c.try_write.new.steps)
    × ((zone : Place) (other : ℕ) → since z.queues zone other ≡ cond (name == other) (requeued (try_node q name l.given h) p zone k (since old zone name)) (since old zone other)))
    t.is (
      c.in_ok-answer.ensures.stands doc k q before h (Head (entry_place p) name x.wanted x.given x.written a) s.running v write (ap has w.sees),
      c.in_ok-answer.ensures.counted doc k q before h (Head (entry_place p) name x.wanted x.given x.written a) s.running v write,
      λ zone other.
          c.requeue.ensures zone other
          ∙ ap (λ at. cond (name == other) (requeued c.in_ok-answer.answer p zone at (since old zone name)) (since old zone other)) v.beat
          ∙ ap (λ a. cond (name == other) (requeued a p zone k (since old zone name)) (since old zone other)) (c.in_ok-answer.ensures.answer q h s.running.store v.passes),
    ) in
    subst (λ more. Heading doc q k before more z c.try_write.new.cluster c.try_write.new.store c.try_write.new.told
    × HaveCost q k h more (spent c.args.cluster.now c.args.steps.now) (spent c.try_write.new.cluster c.try_write.new.steps)) t.adds (
      record {
        running = all.0;
        limits = limits_reached doc k q h p name f.wanted w c.args.zones.now z c.args.view.now.now.0 v.reading s.limits (c.try_take.ensures.taken c.if-not-try_take.false);
        queues = queues_reached doc k q h p name f.wanted w old z.queues queues all.2;
        fresh = λ place n. heading_fresh doc k q (entry_place p) h name f.wanted w place n (s.fresh place n);
      },
      all.1,
    )
