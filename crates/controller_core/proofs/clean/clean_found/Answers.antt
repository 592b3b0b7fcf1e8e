use Rattle.std.proofs.Common.{◌≡◌, ◌∙◌, ◌∷◌, [], ap, arith, length, subst, sym, vec_len}
use Rattle.std.proofs.lemmas.Bool.{eqb-true}
use Rattle.kube_objects.specs.Tick.{clean}
use Rattle.term_state.specs.Sights.{spent}
use Rattle.controller_core.proofs.Cleaning.CleanFound.{Cleaning, begin_found, end_found, fresh_first, looked, next_found, unlooked}
use Rattle.controller_core.proofs.Judgement.Folds.{no_items, some_items}
use Rattle.controller_core.proofs.Judgement.Walking.{looks_left}
use Rattle.controller_core.proofs.clean.clean_found.Goals as goal

pub loop-name-init : goal.loop-name-init
loop-name-init g c = record {
  cleaning = λ doc k q before h x xs at_ticks r v is passing same looks unasked.
      let old = spent c.args.cluster.now c.args.steps.now in
      let all = c.args.found.now.looks in
      let some : all.items ≡ [] → ⊥ = λ none. some_items (vec_len all) (length all.items) (omega (arith, all.ok.0)) (sym c.is_empty.ensures ∙ c.if-is_empty.false) (ap length none) in
      let stand = looked doc q x c.args.found.now at_ticks looks unasked some in
      subst (λ ns. Cleaning doc k q before h x ns c.as_slice-looks.result.now c.args.cluster.now c.args.store.now c.args.view.now c.args.told.now old old) (sym c.as_slice-rest.ensures)
      (subst (λ ls. Cleaning doc k q before h x c.args.found.now.names ls c.args.cluster.now c.args.store.now c.args.view.now c.args.told.now old old) (sym c.as_slice-looks.ensures.value)
      (begin_found doc k q before h x xs c.args.found.now c.args.cluster.now c.args.store.now c.args.view.now c.args.told.now old r v is passing same stand));
}

pub loop-name-preserved : goal.loop-name-preserved
loop-name-preserved g c =
    let name = c.in-Some.name.now in
    let split : c.loop-name.rest.now ≡ name ∷ c.in-Some.others.now = c.in-Some.ensures.cases.0 in
    let parted : c.loop-name.looks.now ≡ c.in-Some-split_first.look.now ∷ c.in-Some-split_first.more.now = c.in-Some-split_first.ensures.cases.0 in
    let old = spent c.args.cluster.now c.args.steps.now in
    let mid = spent c.loop-name.cluster c.loop-name.steps in
    let new = spent c.write_if.new.cluster c.write_if.new.steps in
    record {
      cleaning = λ doc k q before h x xs at_ticks r v is passing same looks unasked.
          let j = c.loop-name.invariant.cleaning doc k q before h x xs at_ticks r v is passing same looks unasked in
          let one = c.in_ok-tried.ensures doc k q j.now j.running.cluster j.running.synced j.view.time
          (fresh_first doc k q before h x _ _ _ _ name _ c.loop-name.cluster c.write_if.new.cluster c.loop-name.store c.write_if.new.store c.args.view.now c.loop-name.told c.write_if.new.told old mid new split parted j) in
          let two = c.in_ok-write_if.ensures doc k q before j.now (clean doc k q name j.now) j.running j.view one in
          next_found doc k q before h x _ _ _ _ name _ c.loop-name.cluster c.write_if.new.cluster c.loop-name.store c.write_if.new.store c.args.view.now c.loop-name.told c.write_if.new.told old mid new split parted j two.0 two.1;
    }

pub returns : goal.returns
returns g c doc k q before h x xs at_ticks r v is passing same looks unasked =
    let empty : c.loop-name.rest.now ≡ [] = no_items c.loop-name.rest.now c.in_default.ensures.cases in
    end_found doc k q before h x c.loop-name.rest.now c.loop-name.looks.now c.loop-name.cluster c.loop-name.store c.args.view.now c.loop-name.told (spent c.args.cluster.now c.args.steps.now)
    (spent c.loop-name.cluster c.loop-name.steps) empty at_ticks (c.loop-name.invariant.cleaning doc k q before h x xs at_ticks r v is passing same looks unasked)

pub returns-then-is_empty : goal.returns-then-is_empty
returns-then-is_empty g c doc k q before h x xs at_ticks r v is passing same looks unasked =
    let all = c.args.found.now.looks in
    let none : all.items ≡ [] = no_items all.items (omega (arith, all.ok.0, eqb-true (vec_len all) 0 (sym c.is_empty.ensures ∙ c.if-is_empty.true))) in
    c.clean.ensures doc k q before h at_ticks (unlooked doc k q h x xs c.args.found.now at_ticks is passing same looks none) r v

pub returns-in_default-split_first : goal.returns-in_default-split_first
returns-in_default-split_first g c doc k q before h x xs at_ticks r v is passing same looks unasked =
    let name = c.in-Some.name.now in
    let others = c.in-Some.others.now in
    let split : c.loop-name.rest.now ≡ name ∷ others = c.in-Some.ensures.cases.0 in
    let none : c.loop-name.looks.now ≡ [] = no_items c.loop-name.looks.now c.in_default-split_first.ensures.cases in
    absurd (looks_left doc q x c.loop-name.rest.now others c.loop-name.looks.now name split none (c.loop-name.invariant.cleaning doc k q before h x xs at_ticks r v is passing same looks unasked).looked)
