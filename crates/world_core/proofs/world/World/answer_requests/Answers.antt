use Rattle.std.proofs.Common.{◌<◌, ◌++◌, length, refl, sym, ap, ◌∙◌, subst}
use Rattle.kube_objects.specs.declared.deed.Actor.TheVariants as actor
use Rattle.kube_objects.specs.Document.{processes}
use Rattle.history.specs.Printed.{answer_act, deeds_of}
use Rattle.wire_calls.specs.InFlight.{rest_of}
use Rattle.world_core.specs.Worlds.{EachStands}
use Rattle.world_core.proofs.Loops.{answering-more, answering-done, rewired}
use Rattle.world_core.proofs.MidBeat.{unmoved}
use Rattle.world_core.proofs.world.World.answer_requests.Goals as goal

pub arriving-preserved : goal.arriving-preserved
arriving-preserved c =
    let kept = c.arriving.invariant.kept in
    record {
      kept = record {
        ready = record { end = kept.ready.end; restart = kept.ready.restart; epoch = kept.ready.epoch; micros = kept.ready.micros; events = kept.ready.events; few = kept.ready.few; clocks = kept.ready.clocks; controllers = kept.ready.controllers; kept = kept.ready.kept; noted = kept.ready.noted };
        same = record { beat = kept.same.beat; end = kept.same.end; restart = kept.same.restart; epoch = kept.same.epoch; micros = kept.same.micros; events = kept.same.events; names = kept.same.names; controllers = kept.same.controllers; stalls = kept.same.stalls };
        place = kept.place;
        count = kept.count;
      };
      stands = λ doc k before arriving coming h r known.
          let a = c.arriving.invariant.stands doc k before arriving coming h r known in
          let rest = a.running.world.rest in
          let at = rest.document.at in
          let first = c.arrival.ensures.answer (processes doc) k a.left coming a.now rest.wire at in
          answering-more doc k before c.arriving.deeds c.tell.new.deeds arriving coming h c.arriving.self _ c.in_ok-reply.reply c.in-Some.arrived a (sym first ∙ c.in-Some.is) unmoved refl
          (record {
            answers = c.in_ok-reply.ensures.answer a.now rest.store;
            store = λ e is. c.in_ok-reply.ensures.ok a.now e rest.store is;
            wire = λ q call wrote who number within. c.in_ok-send_back.ensures.ok doc (processes doc) k 2 (rest_of a.left) coming a.now q call wrote (c.arrival.ensures.stands (processes doc) k a.left coming a.now rest.wire at) at who number (subst (EachStands doc a.now) (sym c.as_slice-processes.ensures.value) a.running.world.processes)
                (subst (λ xs. q.process < length xs) (sym c.as_slice-processes.ensures.value) (subst (λ n. q.process < n) (sym rest.document.count) within));
            told = c.in_ok-tell.ensures
                ∙ ap (λ x. c.arriving.deeds ++ deeds_of c.arriving.self.beat.0 (actor.Proc c.in-Some.arrived.who c.in-Some.arrived.incarnation) x) c.answer_act.ensures
                ∙ ap (λ n. c.arriving.deeds ++ deeds_of n (actor.Proc c.in-Some.arrived.who c.in-Some.arrived.incarnation) (answer_act c.in-Some.arrived.request c.in_ok-reply.reply)) at;
          });
    }

pub returns-clause-stands : goal.returns-clause-stands
returns-clause-stands c doc k before arriving coming h r known =
    let a = c.arriving.invariant.stands doc k before arriving coming h r known in
    let rest = a.running.world.rest in
    let at = rest.document.at in
    let first = c.arrival.ensures.answer (processes doc) k a.left coming a.now rest.wire at in
    answering-done doc k before c.arriving.deeds arriving coming h c.arriving.self _ a (sym first ∙ c.in_default.is)
    (λ run. rewired doc k before c.arriving.deeds a.left (rest_of a.left) coming coming a.now c.arriving.self _ unmoved refl refl (c.arrival.ensures.stands (processes doc) k a.left coming a.now rest.wire at) run)
