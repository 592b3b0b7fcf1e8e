use Rattle.std.proofs.Common.{◌≡◌, ◌∷◌, [], subst, sym}
use Rattle.kube_objects.specs.Tick.{judge}
use Rattle.term_state.specs.Sights.{spent}
use Rattle.controller_core.specs.Pushing.{JudgingStand}
use Rattle.controller_core.proofs.Judgement.Folds.{no_items}
use Rattle.controller_core.proofs.Judgement.Walking.{Judging, begin_walk, end_walk, first_is, looks_left, next_walk}
use Rattle.controller_core.proofs.judging.judge_all.Goals as goal

pub loop-name-init : goal.loop-name-init
loop-name-init g c = record {
  judging = λ doc k q before h x xs r v looks marked ruled stand.
      let old = spent c.args.cluster.now c.args.steps.now in
      subst (λ ns. Judging doc k q before h x xs ns c.as_slice-looks.result.now c.args.cluster.now c.args.store.now c.args.view.now c.args.told.now c.args.pushes.now old old) (sym c.as_slice-rest.ensures)
      (subst (λ ls. Judging doc k q before h x xs c.args.found.now.names ls c.args.cluster.now c.args.store.now c.args.view.now c.args.told.now c.args.pushes.now old old) (sym c.as_slice-looks.ensures.value)
      (begin_walk doc k q before h x xs c.args.found.now c.args.cluster.now c.args.store.now c.args.view.now c.args.told.now c.args.pushes.now old r v looks marked stand));
}

pub loop-name-preserved : goal.loop-name-preserved
loop-name-preserved g c =
    let name = c.in-Some.name.now in
    let others = c.in-Some.others.now in
    let look = c.in-Some-split_first.look.now in
    let more = c.in-Some-split_first.more.now in
    let split : c.loop-name.rest.now ≡ name ∷ others = c.in-Some.ensures.cases.0 in
    let parted : c.loop-name.looks.now ≡ look ∷ more = c.in-Some-split_first.ensures.cases.0 in
    let old = spent c.args.cluster.now c.args.steps.now in
    let mid = spent c.loop-name.cluster c.loop-name.steps in
    let new = spent c.write_if.new.cluster c.write_if.new.steps in
    record {
      judging = λ doc k q before h x xs r v looks marked ruled stand.
          let j = c.loop-name.invariant.judging doc k q before h x xs r v looks marked ruled stand in
          let first = first_is doc k q before h x xs c.loop-name.rest.now others c.loop-name.looks.now more name look c.loop-name.cluster c.write_if.new.cluster c.loop-name.store c.write_if.new.store c.args.view.now
          c.loop-name.told c.write_if.new.told c.loop-name.pushes c.judge_one.new.pushes old mid new split parted j in
          let one = c.in_ok-tried.ensures doc k q j.now x xs others j.running.cluster j.running.synced j.view.time first.seen first.is_look first.marked looks.turned ruled first.last
          (subst (λ ns. JudgingStand doc q x xs ns c.loop-name.pushes) split j.stand) in
          let two = c.in_ok-write_if.ensures doc k q before j.now (judge doc k q x name j.now) j.running j.view one.0 in
          next_walk doc k q before h x xs c.loop-name.rest.now others c.loop-name.looks.now more name look c.loop-name.cluster c.write_if.new.cluster c.loop-name.store c.write_if.new.store c.args.view.now
          c.loop-name.told c.write_if.new.told c.loop-name.pushes c.judge_one.new.pushes old mid new split j first two.0 one.1 two.1;
    }

pub returns : goal.returns
returns g c doc k q before h x xs r v is looks marked turns ruled stand =
    let empty : c.loop-name.rest.now ≡ [] = no_items c.loop-name.rest.now c.in_default.ensures.cases in
    end_walk doc k q before h x xs c.loop-name.rest.now c.loop-name.looks.now c.loop-name.cluster c.loop-name.store c.args.view.now c.loop-name.told c.loop-name.pushes (spent c.args.cluster.now c.args.steps.now)
    (spent c.loop-name.cluster c.loop-name.steps) empty is turns (c.loop-name.invariant.judging doc k q before h x xs r v looks marked ruled stand)

pub returns-in_default-split_first : goal.returns-in_default-split_first
returns-in_default-split_first g c doc k q before h x xs r v is looks marked turns ruled stand =
    let name = c.in-Some.name.now in
    let others = c.in-Some.others.now in
    let split : c.loop-name.rest.now ≡ name ∷ others = c.in-Some.ensures.cases.0 in
    let none : c.loop-name.looks.now ≡ [] = no_items c.loop-name.looks.now c.in_default-split_first.ensures.cases in
    absurd (looks_left doc q x c.loop-name.rest.now others c.loop-name.looks.now name split none (c.loop-name.invariant.judging doc k q before h x xs r v looks marked ruled stand).looked)
