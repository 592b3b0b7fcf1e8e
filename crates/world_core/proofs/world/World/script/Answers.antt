use Rattle.std.proofs.Common.{◌≡◌, ◌≤◌, length, refl, sym, ap, ◌∙◌, subst, arith}
use Rattle.history.specs.Steps.{happens}
use Rattle.script_reader.specs.Lawful.{IsLawfulWhat}
use Rattle.world_process.specs.Plain.{IsFew}
use Rattle.world_core.specs.Worlds.{MidBeat}
use Rattle.world_core.proofs.Happening.{event-at, happening-first, happening-more, happening-before, happening-done}
use Rattle.world_core.proofs.Loops.{same-on, rewired}
use Rattle.world_core.proofs.MidBeat.{same_document, unmoved}
use Rattle.world_core.proofs.world.World.script.Goals as goal

pub script-init : goal.script-init
script-init c = record { ready = c.requires.running.ready; same = same_document; stands = λ doc k before arriving coming h r placed few. happening-first doc k before c.args.deeds.now arriving coming h c.args.self.now r placed }

pub returns-then-event-self-clause-stands : goal.returns-then-event-self-clause-stands
returns-then-event-self-clause-stands c doc k before arriving coming h r placed few =
    let a = c.script.invariant.stands doc k before arriving coming h r placed few in
    let e = c.index-as_slice-self.result in
    let at = a.running.world.rest.document.at in
    let here = event-at doc k c.script.self c.as_slice.result.now c.as_slice-all.result.now e a.running.world.rest.document c.as_slice.ensures (c.as_slice-all.ensures ∙ sym c.script.invariant.same.events) c.script-test.true c.index-as_slice-self.is in
    happening-before doc k before c.script.deeds arriving coming h c.script.self e a here (λ now. c.if-event-self.true (now ∙ sym at))

pub script-preserved : goal.script-preserved
script-preserved c =
    let next = c.in_ok-happen.ensures.kept in
    record {
      ready = next.ready;
      same = same-on c.args.self.now c.script.self c.happen.new.self c.script.invariant.same (record { beat = next.same.beat; end = next.same.end; restart = next.same.restart; epoch = next.same.epoch; micros = next.same.micros; events = next.same.events; names = next.same.names; controllers = next.same.controllers; stalls = next.same.stalls });
      stands = λ doc k before arriving coming h r placed few.
          let a = c.script.invariant.stands doc k before arriving coming h r placed few in
          let e = c.index-as_slice-self.result in
          let here = event-at doc k c.script.self c.as_slice.result.now c.as_slice-all.result.now e a.running.world.rest.document c.as_slice.ensures (c.as_slice-all.ensures ∙ sym c.script.invariant.same.events) c.script-test.true c.index-as_slice-self.is in
          let copied : c.in_ok-what.what ≡ e.what = c.in_ok-what.ensures in
          happening-more doc k before c.script.deeds c.happen.new.deeds arriving coming h c.script.self c.happen.new.self e a here (c.if-event-self.false ∙ a.running.world.rest.document.at) next.place few
          (λ lawful few_next.
          subst (λ x. MidBeat doc k before arriving coming (happens doc k x a.now) c.happen.new.self c.happen.new.deeds) copied
          (c.in_ok-happen.ensures.stands doc k before arriving coming a.now (rewired doc k before c.script.deeds arriving arriving coming coming a.now c.script.self _ unmoved refl refl a.running.world.rest.wire a.running)
          (subst (IsLawfulWhat doc) (sym copied) lawful) (subst (λ x. IsFew (happens doc k x a.now)) (sym copied) few_next)));
    }

pub returns-clause-stands : goal.returns-clause-stands
returns-clause-stands c doc k before arriving coming h r placed few =
    let a = c.script.invariant.stands doc k before arriving coming h r placed few in
    let d = a.running.world.rest.document in
    let many : length c.as_slice-all.result.now ≡ length doc.events = ap (λ es. length es) (c.as_slice-all.ensures ∙ sym c.script.invariant.same.events ∙ d.events) in
    let past : length doc.events ≤ c.script.self.place = omega (arith, c.script-test.false, many) in
    happening-done doc k before c.script.deeds arriving coming h c.script.self a past
