use Rattle.std.proofs.Common.{◌≡◌, ◌<◌, length, sym, subst, arith, add-one}
use Rattle.kube_objects.specs.Document.{processes}
use Rattle.history.specs.Steps.{turns}
use Rattle.beat_laws.proofs.Unticked.{turns_unticked}
use Rattle.world_core.specs.Waits.{awake_turn}
use Rattle.world_process.specs.Plain.{IsFew}
use Rattle.world_core.specs.Worlds.{MidBeat}
use Rattle.world_core.proofs.InTime.{own-in-time, turns-in-time}
use Rattle.world_core.proofs.Loops.{keeps-on, few-own, few-turns}
use Rattle.world_core.proofs.Moving.{on-ok}
use Rattle.world_core.proofs.Ticking.{own-unticked, turn-is}
use Rattle.world_core.proofs.world.World.turns.Goals as goal

pub loop-i-preserved : goal.loop-i-preserved
loop-i-preserved g c =
    let i = c.loop-i.i in
    record {
      kept = keeps-on c.args.self.now c.turn.new.self c.tick.new.self (keeps-on c.args.self.now c.loop-i.self c.turn.new.self c.loop-i.invariant.kept c.in_ok-turn.ensures.kept) c.in_ok-tick.ensures.kept;
      stands = λ doc k before arriving coming h r unticked timely few.
          let before_it = turns doc k i h in
          let done = c.loop-i.invariant.stands doc k before arriving coming h r unticked timely few in
          let count = r.world.rest.document.count in
          let len = c.args.self.now.processes.ok.0 in
          let all = c.requires.running.ready.controllers in
          let less : i < processes doc = omega (arith, c.loop-i-test.true, all, count, len) in
          let few_turn = few-turns doc k i (processes doc) h less few in
          let owned = c.in_ok-turn.ensures.stands doc k before arriving coming before_it done (few-own doc k i before_it few_turn) in
          let ticked = c.in_ok-tick.ensures.stands doc k before arriving coming (awake_turn doc k i before_it) owned (λ sort. own-unticked doc k i before_it sort (turns_unticked doc k i h unticked)) (own-in-time doc k i before_it (turns-in-time doc k i h timely)) (subst IsFew (turn-is doc k i before_it) few_turn) in
          subst (λ n. MidBeat doc k before arriving coming (turns doc k n h) c.tick.new.self c.tick.new.deeds) (sym (add-one i))
          (subst (λ f. MidBeat doc k before arriving coming f c.tick.new.self c.tick.new.deeds) (sym (turn-is doc k i before_it)) ticked);
    }

pub returns-clause-kept : goal.returns-clause-kept
returns-clause-kept g c = on-ok c.kubelet_turns.result _ _ (λ kept. keeps-on c.args.self.now c.loop-i.self c.kubelet_turns.new.self c.loop-i.invariant.kept kept) c.kubelet_turns.ensures.kept

pub returns-clause-stands : goal.returns-clause-stands
returns-clause-stands g c doc k before arriving coming h r unticked timely few =
    let all = r.world.rest.document.controllers in
    let last : c.loop-i.i ≡ length doc.controllers = omega (arith, c.loop-i-test.false, c.loop-i.auto.i-end, all) in
    c.kubelet_turns.ensures.stands doc k before arriving coming h
    (subst (λ n. MidBeat doc k before arriving coming (turns doc k n h) c.loop-i.self c.loop-i.deeds) last (c.loop-i.invariant.stands doc k before arriving coming h r unticked timely few)) few
