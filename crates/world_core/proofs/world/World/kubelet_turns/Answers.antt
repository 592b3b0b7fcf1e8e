use Rattle.std.proofs.Common.{◌≡◌, ◌+◌, ◌<◌, ◌≤◌, Some, None, length, vec_len, sym, ap, subst, arith, add-one}
use Rattle.kube_base.specs.declared.numbers.Beat.{Beat}
use Rattle.kube_objects.specs.Document.{processes}
use Rattle.history.specs.Steps.{turns}
use Rattle.beat_tree.specs.Leaves.{IsFirst}
use Rattle.world_core.specs.Worlds.{MidBeat}
use Rattle.world_core.proofs.Loops.{keeps-on, few-own, few-turns, keeps-same}
use Rattle.world_core.proofs.Moving.{within-processes}
use Rattle.world_core.proofs.Passing.{has-process, kubelet-turn, passed-to}
use Rattle.world_core.proofs.world.World.kubelet_turns.Goals as goal

pub kubelets-init : goal.kubelets-init
kubelets-init c =
    let w = c.args.self.now in
    record {
      kept = keeps-same w c.requires.running.ready;
      least = omega arith;
      most = c.requires.running.ready.controllers;
      stands = λ doc k before arriving coming h r few. subst (λ n. MidBeat doc k before arriving coming (turns doc k n h) w c.args.deeds.now) (sym r.world.rest.document.controllers) r;
    }

pub take_turn-requires-clause-index : goal.take_turn-requires-clause-index
take_turn-requires-clause-index c =
    let w = c.args.self.now in
    let u = c.kubelets.self in
    let after : Beat = record { 0 = w.beat.0 + 1 } in
    let first : IsFirst u.turn_beats c.kubelets.next (Some after) (Some c.in-Some.i) = subst (IsFirst u.turn_beats c.kubelets.next (Some after)) c.in-Some.is c.first_before.ensures in
    has-process u c.in-Some.i (Some after) c.kubelets.invariant.kept.ready first.there.1

pub kubelets-preserved : goal.kubelets-preserved
kubelets-preserved c =
    let w = c.args.self.now in
    let u = c.kubelets.self in
    let v = c.take_turn.new.self in
    let inv = c.kubelets.invariant in
    let next = c.kubelets.next in
    let i = c.in-Some.i in
    let after : Beat = record { 0 = w.beat.0 + 1 } in
    let first : IsFirst u.turn_beats next (Some after) (Some i) = subst (IsFirst u.turn_beats next (Some after)) c.in-Some.is c.first_before.ensures in
    let from = first.there.0 in
    let index : i < vec_len u.processes = has-process u i (Some after) inv.kept.ready first.there.1 in
    let count = inv.kept.count in
    let beat : u.beat.0 ≡ w.beat.0 = ap (λ b. b.0) inv.kept.same.beat in
    let end : u.end.0 ≡ w.end.0 = ap (λ b. b.0) inv.kept.same.end in
    record {
      kept = keeps-on w u v inv.kept c.in_ok-take_turn.ensures.kept;
      least = omega (arith, inv.least, from);
      most = omega (arith, index, count);
      stands = λ doc k before arriving coming h r few.
          let done = inv.stands doc k before arriving coming h r few in
          let d = done.world.rest.document in
          let inside = within-processes doc k u i d index in
          let more : length doc.controllers ≤ next = omega (arith, inv.least, d.controllers, inv.kept.same.controllers) in
          let to = passed-to doc k next i before arriving coming h u c.kubelets.deeds after inv.kept.ready (omega (arith, c.requires.running.within, beat, end)) (omega (arith, beat)) done from (omega (arith, inside)) more (λ p up less. first.passed p up less) in
          let here = subst (λ g. MidBeat doc k before arriving coming g u c.kubelets.deeds) (sym to) done in
          let few_turn = few-turns doc k i (processes doc) h inside few in
          let taken = c.in_ok-take_turn.ensures.stands doc k before arriving coming (turns doc k i h) here (few-own doc k i (turns doc k i h) few_turn) in
          subst (λ n. MidBeat doc k before arriving coming (turns doc k n h) v c.take_turn.new.deeds) (sym (add-one i))
          (subst (λ g. MidBeat doc k before arriving coming g v c.take_turn.new.deeds) (sym (kubelet-turn doc k i (turns doc k i h) (omega (arith, more, from)))) taken);
    }

pub returns-clause-stands : goal.returns-clause-stands
returns-clause-stands c doc k before arriving coming h r few =
    let w = c.args.self.now in
    let u = c.kubelets.self in
    let inv = c.kubelets.invariant in
    let next = c.kubelets.next in
    let after : Beat = record { 0 = w.beat.0 + 1 } in
    let first : IsFirst u.turn_beats next (Some after) None = subst (IsFirst u.turn_beats next (Some after)) c.in_default.is c.first_before.ensures in
    let beat : u.beat.0 ≡ w.beat.0 = ap (λ b. b.0) inv.kept.same.beat in
    let end : u.end.0 ≡ w.end.0 = ap (λ b. b.0) inv.kept.same.end in
    let done = inv.stands doc k before arriving coming h r few in
    let d = done.world.rest.document in
    let more : length doc.controllers ≤ next = omega (arith, inv.least, d.controllers, inv.kept.same.controllers) in
    let last : next ≤ processes doc = (let most = inv.most in let count = d.count in let len = u.processes.ok.0 in let as_many = inv.kept.count in omega (arith, most, count, len, as_many)) in
    let to = passed-to doc k next (processes doc) before arriving coming h u c.kubelets.deeds after inv.kept.ready (omega (arith, c.requires.running.within, beat, end)) (omega (arith, beat)) done last (omega arith) more (λ p up less. first.passed p up tt) in
    subst (λ g. MidBeat doc k before arriving coming g u c.kubelets.deeds) (sym to) done
