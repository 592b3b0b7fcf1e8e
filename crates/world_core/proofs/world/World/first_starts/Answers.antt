use Rattle.std.proofs.Common.{◌≡◌, ◌<◌, sym, ◌∙◌, subst, arith, add-one}
use Rattle.kube_objects.specs.Document.{processes}
use Rattle.history.specs.Steps.{first_starts, starts_below}
use Rattle.world_process.specs.Plain.{IsFew}
use Rattle.world_core.specs.Worlds.{MidBeat}
use Rattle.world_core.proofs.Loops.{keeps-on, few-starts}
use Rattle.world_core.proofs.world.World.first_starts.Goals as goal

pub loop-i-preserved : goal.loop-i-preserved
loop-i-preserved c =
    let i = c.loop-i.i in
    record {
      kept = keeps-on c.args.self.now c.loop-i.self c.first_start.new.self c.loop-i.invariant.kept c.in_ok-first_start.ensures.kept;
      stands = λ doc before arriving coming h r few.
          let done = c.loop-i.invariant.stands doc before arriving coming h r few in
          let count = r.world.rest.document.count in
          let len = c.args.self.now.processes.ok.0 in
          let less : i < processes doc = omega (arith, c.loop-i-test.true, c.len-i-end.ensures, count, len) in
          subst (λ n. MidBeat doc 0 before arriving coming (starts_below doc n h) c.first_start.new.self c.first_start.new.deeds) (sym (add-one i))
          (c.in_ok-first_start.ensures.stands doc before arriving coming (starts_below doc i h) done (few-starts doc i (processes doc) h less few));
    }

pub returns-clause-stands : goal.returns-clause-stands
returns-clause-stands c doc k before arriving coming h r few =
    let zero_is : 0 ≡ k = sym (sym r.world.rest.document.at ∙ c.if-self-ne0.false) in
    let count = r.world.rest.document.count in
    let len = c.args.self.now.processes.ok.0 in
    let last : c.loop-i.i ≡ processes doc = omega (arith, c.loop-i-test.false, c.loop-i.auto.i-end, c.len-i-end.ensures, count, len) in
    subst (λ n. MidBeat doc n before arriving coming h c.args.self.now c.args.deeds.now → IsFew (first_starts doc n h) → MidBeat doc n before arriving coming (first_starts doc n h) c.loop-i.self c.loop-i.deeds) zero_is
    (λ r0 few0. subst (λ n. MidBeat doc 0 before arriving coming (starts_below doc n h) c.loop-i.self c.loop-i.deeds) last (c.loop-i.invariant.stands doc before arriving coming h r0 few0)) r few
