use Rattle.std.proofs.Common.{◌≡◌, ◌∙◌, ◌∷◌, [], arith, rules, subst, sym}
use Rattle.std.proofs.lemmas.Grind.{common_steps}
use Rattle.history_laws.proofs.Plainly.{true_is}
use Rattle.controller_core.proofs.Passing.Ahead.{LookingAhead, ahead_is, begin_ahead, end_ahead, next_ahead}
use Rattle.controller_core.proofs.pass.found.looks_before.Goals as goal

pub loop-name-init : goal.loop-name-init
loop-name-init c = record {
  looking = λ doc q h s synced settings held.
      subst (λ rest. LookingAhead doc q h c.args.names.now rest c.new-looks.result.items) (sym c.as_slice-rest.ensures)
      (subst (LookingAhead doc q h c.args.names.now c.args.names.now) (sym c.new-looks.ensures.items) (begin_ahead doc q h c.args.names.now));
}

pub loop-name-preserved : goal.loop-name-preserved
loop-name-preserved c =
    let split : c.loop-name.rest.now ≡ c.in-Some.name.now ∷ c.in-Some.others.now = search rules in
    record {
      looking = λ doc q h s synced settings held.
          subst (LookingAhead doc q h c.args.names.now c.in-Some.others.now) (sym c.in_ok-push.ensures.items)
          (next_ahead doc q h c.args.names.now c.loop-name.rest.now c.in-Some.others.now c.in-Some.name.now c.loop-name.looks.items c.look_of.result split
          (c.loop-name.invariant.looking doc q h s synced settings held) (c.look_of.ensures doc q h s synced settings held));
    }

pub returns-clause-looks : goal.returns-clause-looks
returns-clause-looks c doc q h s synced settings held ahead =
    let empty : c.loop-name.rest.now ≡ [] = grind (arith, common_steps) in
    end_ahead doc q h c.args.names.now c.loop-name.rest.now c.loop-name.looks.items empty (c.loop-name.invariant.looking doc q h s synced settings held)

pub returns-then-not-looks_ahead-clause-looks : goal.returns-then-not-looks_ahead-clause-looks
returns-then-not-looks_ahead-clause-looks c doc q h s synced settings held ahead =
    absurd (true_is (sym ahead ∙ sym (ahead_is doc c.args.settings.now settings) ∙ sym c.looks_ahead.ensures ∙ c.if-not-looks_ahead.true))

pub returns-clause-unasked : goal.returns-clause-unasked
returns-clause-unasked c doc settings unasked = absurd (true_is (sym c.if-not-looks_ahead.false ∙ c.looks_ahead.ensures ∙ ahead_is doc c.args.settings.now settings ∙ unasked))
