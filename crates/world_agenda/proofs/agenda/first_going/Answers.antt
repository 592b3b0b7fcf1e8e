use Rattle.std.proofs.Common.{◌≡◌, ◌≤◌, true, ⊎_elim, subst, arith}
use Rattle.std.proofs.lemmas.Bool.{cases_lt, ltb-true}
use Rattle.kube_objects.specs.Document.{end_beat}
use Rattle.history_laws.proofs.Plainly.{some_is}
use Rattle.world_agenda.specs.Woken.{is_going}
use Rattle.world_agenda.proofs.Going.{going-found, none_some, still-held}
use Rattle.world_agenda.proofs.agenda.first_going.Goals as goal

pub held-init : goal.held-init
held-init c = record { least = omega arith; held = λ doc k h stands end j from less. absurd (omega (arith, from, less)) }

pub held-preserved : goal.held-preserved
held-preserved c =
    let at = c.held.beat.0 in
    let until = c.held_until-until.result.0 in
    record {
      least = omega (arith, c.held.invariant.least, c.if-until-beat.false);
      held = λ doc k h stands end j from less.
          ⊎_elim
          (λ before. c.held.invariant.held doc k h stands end j from before)
          (λ after. still-held doc c.args.who.0 at until j (c.held_until-until.ensures doc k h stands end) after less)
          (cases_lt j at);
    }

pub returns-then-until-beat : goal.returns-then-until-beat
returns-then-until-beat c doc k h stands end =
    let at = c.held.beat.0 in
    let within : at ≤ end_beat doc = omega (arith, c.held-test.true, c.end-end.ensures, c.clock.ensures.end c.requires.ready, end) in
    record {
      held = λ j from most early. c.held.invariant.held doc k h stands end j from (ltb-true j at early);
      goes = λ n is.
          let same = some_is at n is in
          let least = c.held.invariant.least in (
            omega (arith, least, same),
            omega (arith, within, same),
            subst (λ m. is_going doc m c.args.who.0 ≡ true) same (going-found doc c.args.who.0 at c.held_until-until.result.0 within (c.held_until-until.ensures doc k h stands end) c.if-until-beat.true),
          );
    }

pub returns : goal.returns
returns c doc k h stands end =
    record {
      held = λ j from most early. c.held.invariant.held doc k h stands end j from (omega (arith, most, c.held-test.false, c.end-end.ensures, c.clock.ensures.end c.requires.ready, end));
      goes = λ n is. absurd (none_some n is);
    }
