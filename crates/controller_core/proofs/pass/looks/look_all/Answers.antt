use Rattle.std.proofs.Common.{◌≡◌, ◌∙◌, ◌∷◌, [], false, true, ap, arith, rules, subst, sym}
use Rattle.std.proofs.lemmas.Grind.{common_steps}
use Rattle.kube_objects.specs.Entry.{Pass}
use Rattle.node_health.specs.Kept.{is_listed}
use Rattle.controller_core.proofs.Passing.Listed.{listed_first}
use Rattle.term_state.specs.Sights.{spent}
use Rattle.controller_core.proofs.Passing.Looking.{Looking, begin_looking, end_looking, first_new, looked_of, next_looking}
use Rattle.controller_core.proofs.Passing.Marks.{view_more}
use Rattle.controller_core.proofs.pass.looks.look_all.Goals as goal

pub loop-name-init : goal.loop-name-init
loop-name-init g c = record {
  looking = λ doc k q before h r health view graces are writes.
      subst (λ rest. Looking doc k q before h c.args.names.now rest c.args.view.now c.args.cluster.now c.args.health.now c.args.store.now c.args.told.now c.args.writes.now (spent c.args.cluster.now c.args.steps.now) (spent c.args.cluster.now c.args.steps.now)) (sym c.as_slice-rest.ensures)
      (begin_looking doc k q before h c.args.names.now c.args.view.now c.args.cluster.now c.args.health.now c.args.store.now c.args.told.now c.args.writes.now (spent c.args.cluster.now c.args.steps.now) r health (view_more doc k q h Pass c.args.view.now view) are writes);
}

pub loop-name-preserved : goal.loop-name-preserved
loop-name-preserved g c =
    let n = c.in-Some.name.now in
    let others = c.in-Some.others.now in
    let names = c.args.names.now in
    let split : c.loop-name.rest.now ≡ n ∷ others = search rules in
    record {
      looking = λ doc k q before h r health view graces are writes.
          let l = c.loop-name.invariant.looking doc k q before h r health view graces are writes in
          let new : looked_of names c.loop-name.rest.now n ≡ false = ap (λ xs. looked_of names xs n) split ∙ first_new names n others in
          let listed : is_listed c.loop-name.rest.now n ≡ true = ap (λ xs. is_listed xs n) split ∙ listed_first n others in
          let one = c.in_ok-look.ensures doc k q before h l.now (looked_of names c.loop-name.rest.now) l.passing l.view graces l.writes new (l.seen n listed) (l.untouched n listed) in
          next_looking doc k q before h names c.loop-name.rest.now others n c.args.view.now c.loop-name.cluster c.look.new.cluster c.loop-name.health c.look.new.health c.loop-name.store c.look.new.store
          c.loop-name.told c.look.new.told c.loop-name.writes c.look.new.writes (spent c.args.cluster.now c.args.steps.now) (spent c.loop-name.cluster c.loop-name.steps) (spent c.look.new.cluster c.look.new.steps) split l one.0 one.1 one.2;
    }

pub returns : goal.returns
returns g c doc k q before h r health view graces are writes =
    let empty : c.loop-name.rest.now ≡ [] = grind (arith, common_steps) in
    end_looking doc k q before h c.args.names.now c.loop-name.rest.now c.args.view.now c.loop-name.cluster c.loop-name.health c.loop-name.store c.loop-name.told c.loop-name.writes (spent c.args.cluster.now c.args.steps.now) (spent c.loop-name.cluster c.loop-name.steps) empty
    (c.loop-name.invariant.looking doc k q before h r health view graces are writes)
