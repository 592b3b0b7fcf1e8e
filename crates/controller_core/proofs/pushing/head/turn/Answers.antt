use Rattle.std.proofs.Common.{◌≡◌, ◌∙◌, None, Some, ap, sym, subst, arith}
use Rattle.kube_objects.specs.Entry.{Head}
use Rattle.kube_objects.specs.Seen.{is_accepted, seen_node}
use Rattle.kube_objects.specs.Tick.{add}
use Rattle.kube_objects.specs.Tries.{try_node}
use Rattle.term_state.specs.MidTick.{MidTick}
use Rattle.term_state.specs.Sights.{spent}
use Rattle.tick_laws.specs.Changes.{turn_of}
use Rattle.tick_laws.proofs.Steps.{cost_grows}
use Rattle.controller_core.specs.Costs.{HaveCost}
use Rattle.controller_core.specs.Restamping.{lets_go, wanting_of}
use Rattle.controller_core.proofs.Pushed.Turns.{run_skip}
use Rattle.controller_core.proofs.Pushed.Wants.{it_is_seen, its_turn, no_turn}
use Rattle.controller_core.proofs.Tainting.Attempting.{head_write}
use Rattle.controller_core.proofs.pushing.head.turn.Goals as goal

pub returns-in_default-clause-stands : goal.returns-in_default-clause-stands
returns-in_default-clause-stands g c doc q k before h place r v =
    let o = seen_node q c.args.name h in
    let none : None ≡ wanting_of doc k q o = sym c.in_default.is ∙ c.in_ok-wanting.ensures doc k q h r.cluster r.synced v.time in
    subst (λ t. MidTick doc q k before (add k q t h) c.args.cluster.now c.args.store.now c.args.told.now) (sym (no_turn doc k q place c.args.name o h none))
    (run_skip doc q k before h place c.args.name c.args.cluster.now c.args.store.now c.args.told.now r)

pub returns-in_default-clause-counted : goal.returns-in_default-clause-counted
returns-in_default-clause-counted g c doc q k before h place r v = omega (arith, cost_grows q k h (turn_of doc k q place c.args.name (seen_node q c.args.name h) h))

pub returns-in_default-clause-goes : goal.returns-in_default-clause-goes
returns-in_default-clause-goes g c doc q k before h place r v =
    let o = seen_node q c.args.name h in
    let none : None ≡ wanting_of doc k q o = sym c.in_default.is ∙ c.in_ok-wanting.ensures doc k q h r.cluster r.synced v.time in
    sym (ap lets_go (no_turn doc k q place c.args.name o h none))

pub returns-clause-stands : goal.returns-clause-stands
returns-clause-stands g c doc q k before h place r v =
    let o = seen_node q c.args.name h in
    let w = c.in-Some.wanting in
    let found : Some w ≡ wanting_of doc k q o = sym c.in-Some.is ∙ c.in_ok-wanting.ensures doc k q h r.cluster r.synced v.time in
    let a = try_node q c.args.name w.given h in
    subst (λ t. MidTick doc q k before (add k q t h) c.try_write.new.cluster c.try_write.new.store c.try_write.new.told) (sym (its_turn doc k q place c.args.name o h w found))
    (c.in_ok-answer.ensures.stands doc k q before h (Head place c.args.name w.wanted w.given w.written a) r v (head_write place c.args.name w.wanted w.given w.written a) (it_is_seen doc k q o w found))

pub returns-clause-counted : goal.returns-clause-counted
returns-clause-counted g c doc q k before h place r v =
    let o = seen_node q c.args.name h in
    let w = c.in-Some.wanting in
    let found : Some w ≡ wanting_of doc k q o = sym c.in-Some.is ∙ c.in_ok-wanting.ensures doc k q h r.cluster r.synced v.time in
    let a = try_node q c.args.name w.given h in
    subst (λ t. HaveCost q k h (add k q t h) (spent c.args.cluster.now c.args.steps.now) (spent c.try_write.new.cluster c.try_write.new.steps)) (sym (its_turn doc k q place c.args.name o h w found))
    (c.in_ok-answer.ensures.counted doc k q before h (Head place c.args.name w.wanted w.given w.written a) r v (head_write place c.args.name w.wanted w.given w.written a))

pub returns-clause-goes : goal.returns-clause-goes
returns-clause-goes g c doc q k before h place r v =
    let o = seen_node q c.args.name h in
    let w = c.in-Some.wanting in
    let found : Some w ≡ wanting_of doc k q o = sym c.in-Some.is ∙ c.in_ok-wanting.ensures doc k q h r.cluster r.synced v.time in
    c.is_written.ensures ∙ ap is_accepted (c.in_ok-answer.ensures.answer q h r.store v.passes) ∙ sym (ap lets_go (its_turn doc k q place c.args.name o h w found))
