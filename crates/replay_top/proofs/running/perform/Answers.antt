use Rattle.std.proofs.Common.{◌≡◌, ◌≤◌, ◌+◌, Some, [], refl, sym, ap, ◌∙◌, subst}
use Rattle.replay_top.specs.declared.command.Run.TheVariants.{Replay, State}
use Rattle.replay_top.specs.Bounds.{most_for}
use Rattle.replay_top.specs.Outcome.{unread}
use Rattle.replay_top.specs.Replies.{answer_to, done, state_answer}
use Rattle.replay_top.specs.State.{ReadsBack}
use Rattle.replay_top.specs.Traces.{trace}
use Rattle.replay_top.proofs.Endings.{ends-moved, run-end, run-undone}
use Rattle.replay_top.proofs.running.perform.Goals as goal

pub returns-in-Replay-clause-text : goal.returns-in-Replay-clause-text
returns-in-Replay-clause-text g c =
    let d = c.args.document in
    let taken = g.K.Sink.taken in
    ends-moved (unread (done (trace d)) []) (unread (answer_to c.args.run d) []) (Some []) (Some []) (taken c.args.sink.now) (taken c.replay.new.sink) c.replay.result
    (ap (λ r. unread (answer_to r d) []) c.in-Replay.is) refl c.replay.ensures.text

pub returns-in-Replay-clause-silent : goal.returns-in-Replay-clause-silent
returns-in-Replay-clause-silent g c fault = run-end c.replay.result c.replay.ensures.ended fault

pub returns-in-Replay-clause-undone : goal.returns-in-Replay-clause-undone
returns-in-Replay-clause-undone g c undone = absurd (run-undone c.replay.result c.replay.ensures.ended undone)

pub returns-in-Replay-clause-reads_back : goal.returns-in-Replay-clause-reads_back
returns-in-Replay-clause-reads_back g c beat is done = absurd (let never : Replay ≡ State beat = sym c.in-Replay.is ∙ is in cc)

pub returns-in-State-clause-text : goal.returns-in-State-clause-text
returns-in-State-clause-text g c =
    let d = c.args.document in
    let last = c.in-State.last in
    let taken = g.K.Sink.taken in
    ends-moved (unread (state_answer d last.0) []) (unread (answer_to c.args.run d) []) (Some []) (Some []) (taken c.args.sink.now) (taken c.write_state.new.sink)
    c.write_state.result (ap (λ r. unread (answer_to r d) []) c.in-State.is) refl c.write_state.ensures.text

pub returns-in-State-clause-reads_back : goal.returns-in-State-clause-reads_back
returns-in-State-clause-reads_back g c beat is done =
    let found : State c.in-State.last ≡ State beat = sym c.in-State.is ∙ is in
    let same : c.in-State.last ≡ beat = cc in
    subst (λ b. ReadsBack c.args.document b.0) same (c.write_state.ensures.reads_back done)

-- ---- the beats

pub returns-in-Replay-clause-counted : goal.returns-in-Replay-clause-counted
returns-in-Replay-clause-counted g c =
    subst (λ run. c.replay.new.steps ≤ c.args.steps.now + most_for run c.args.document) (sym c.in-Replay.is) c.replay.ensures.counted

pub returns-in-State-clause-counted : goal.returns-in-State-clause-counted
returns-in-State-clause-counted g c =
    subst (λ run. c.write_state.new.steps ≤ c.args.steps.now + most_for run c.args.document) (sym c.in-State.is) c.write_state.ensures.counted
