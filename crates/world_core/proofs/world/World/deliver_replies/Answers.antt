use Rattle.std.proofs.Common.{refl, sym, ◌∙◌}
use Rattle.kube_objects.specs.Document.{processes}
use Rattle.wire_calls.specs.InFlight.{rest_of}
use Rattle.world_core.proofs.Loops.{same-on, delivering-more, delivering-done, rewired}
use Rattle.world_core.proofs.MidBeat.{unmoved}
use Rattle.world_core.proofs.world.World.deliver_replies.Goals as goal

pub coming-preserved : goal.coming-preserved
coming-preserved c =
    let kept = c.coming.invariant.kept in
    let next = c.in_ok-deliver.ensures.kept in
    record {
      kept = record { ready = next.ready; same = same-on c.args.self.now c.coming.self _ kept.same (record { beat = next.same.beat; end = next.same.end; restart = next.same.restart; epoch = next.same.epoch; micros = next.same.micros; events = next.same.events; names = next.same.names; controllers = next.same.controllers; stalls = next.same.stalls }); place = next.place ∙ kept.place; count = next.count ∙ kept.count };
      stands = λ doc k before arriving coming h r known few.
          let a = c.coming.invariant.stands doc k before arriving coming h r known few in
          let rest = a.running.world.rest in
          let at = rest.document.at in
          let first = c.delivery.ensures.answer (processes doc) k arriving a.left a.now rest.wire at in
          let wire = c.delivery.ensures.stands (processes doc) k arriving a.left a.now rest.wire at in
          delivering-more doc k before c.coming.deeds c.deliver.new.deeds arriving coming h c.coming.self c.deliver.new.self c.in-Some.back a (sym first ∙ c.in-Some.is) few
          (λ b is known_b few_b. c.in_ok-deliver.ensures.stands doc k before arriving (rest_of a.left) a.now b (rewired doc k before c.coming.deeds arriving arriving a.left (rest_of a.left) a.now c.coming.self _ unmoved refl refl wire a.running) is known_b few_b);
    }

pub returns-clause-stands : goal.returns-clause-stands
returns-clause-stands c doc k before arriving coming h r known few =
    let a = c.coming.invariant.stands doc k before arriving coming h r known few in
    let rest = a.running.world.rest in
    let at = rest.document.at in
    let first = c.delivery.ensures.answer (processes doc) k arriving a.left a.now rest.wire at in
    delivering-done doc k before c.coming.deeds arriving coming h c.coming.self _ a (sym first ∙ c.in_default.is)
    (λ run. rewired doc k before c.coming.deeds arriving arriving a.left (rest_of a.left) a.now c.coming.self _ unmoved refl refl (c.delivery.ensures.stands (processes doc) k arriving a.left a.now rest.wire at) run)
