use Rattle.std.proofs.Common.{List, ℕ, [], Some, None, IfSome, ◌≤◌, ◌+◌, map, string_bytes, refl, sym, subst, ap, ◌∙◌, ◌≡◌, arith}
use Rattle.run_edge.specs.Outcome.{read_by}
use Rattle.replay_top.specs.declared.asked.Asked.TheVariants.{Audit}
use Rattle.replay_top.specs.declared.command.Command.TheVariants.{Asks, Runs, Generates}
use Rattle.replay_top.specs.declared.command.Run.TheVariants.{State}
use Rattle.replay_top.specs.declared.sizes.Sizes.{Sizes}
use Rattle.replay_top.specs.Bounds.{IsIdle, most_steps}
use Rattle.replay_top.specs.Claims.{IsSafe}
use Rattle.replay_top.specs.Commands.{command_of}
use Rattle.replay_top.specs.Generated.{document_of, generated_line}
use Rattle.replay_top.specs.Outcome.{Ends, outcome, unread, usage}
use Rattle.replay_top.specs.Replies.{done, reply_to, run_reply}
use Rattle.replay_top.specs.Timely.{IsTimely}
use Rattle.replay_top.proofs.Claimed.{claims-hold, either}
use Rattle.replay_top.proofs.Endings.{audited-alone, ends-asked, ends-moved, ends-unread, ends-whole, not-done, not-source, outcome-of, run-end, run-undone}
use Rattle.replay_top.proofs.running.run.Goals as goal

-- ---- a question

pub returns-in-Some-Asks-clause-text : goal.returns-in-Some-Asks-clause-text
returns-in-Some-Asks-clause-text g c bytes told =
    let words : List (List ℕ) = map string_bytes c.args.words.now.items in
    let asked = c.in-Some-Asks.asked in
    let left = g.S.Source.left c.ask.new.source in
    let before = g.K.Sink.taken c.args.sink.now in
    let after = g.K.Sink.taken c.ask.new.sink in
    let found : Some (Asks asked) ≡ command_of words = ap Some (sym c.in-Some-Asks.field-0-is) ∙ sym c.in-Some-Asks.is ∙ c.command_in.ensures.command in
    ends-moved (read_by (reply_to asked) bytes) (outcome words bytes) left left before after c.ask.result (outcome-of words bytes (Some (Asks asked)) found) refl
    (ends-asked asked bytes left before after c.ask.result (c.ask.ensures.text bytes told))

pub returns-in-Some-Asks-clause-complete : goal.returns-in-Some-Asks-clause-complete
returns-in-Some-Asks-clause-complete g c bytes told calm open_sink =
    let words : List (List ℕ) = map string_bytes c.args.words.now.items in
    ends-whole (outcome words bytes) (g.S.Source.left c.ask.new.source) (g.K.Sink.taken c.args.sink.now) (g.K.Sink.taken c.ask.new.sink) c.ask.result
    (λ fault. calm (c.ask.ensures.source_fault fault)) (λ fault. open_sink (c.ask.ensures.sink_fault fault)) (returns-in-Some-Asks-clause-text g c bytes told)

pub returns-in-Some-Asks-clause-usage : goal.returns-in-Some-Asks-clause-usage
returns-in-Some-Asks-clause-usage g c none =
    absurd (let never : Some (Asks c.in-Some-Asks.asked) ≡ None = ap Some (sym c.in-Some-Asks.field-0-is) ∙ sym c.in-Some-Asks.is ∙ c.command_in.ensures.command ∙ none in cc)

pub returns-in-Some-Asks-clause-generated : goal.returns-in-Some-Asks-clause-generated
returns-in-Some-Asks-clause-generated g c sizes is =
    absurd (let never : Some (Asks c.in-Some-Asks.asked) ≡ Some (Generates sizes) = ap Some (sym c.in-Some-Asks.field-0-is) ∙ sym c.in-Some-Asks.is ∙ c.command_in.ensures.command ∙ is in cc)

pub returns-in-Some-Asks-clause-source_fault : goal.returns-in-Some-Asks-clause-source_fault
returns-in-Some-Asks-clause-source_fault g c fault = (c.ask.ensures.source_fault fault, c.ask.ensures.source_silent fault)

pub returns-in-Some-Asks-clause-claims : goal.returns-in-Some-Asks-clause-claims
returns-in-Some-Asks-clause-claims g c =
    claims-hold (map string_bytes c.args.words.now.items) (g.S.Source.left c.args.source.now) c.documents_are_safe.ensures
    (λ sizes is. absurd (let never : Some (Asks c.in-Some-Asks.asked) ≡ Some (Generates sizes) = ap Some (sym c.in-Some-Asks.field-0-is) ∙ sym c.in-Some-Asks.is ∙ c.command_in.ensures.command ∙ is in cc))
    (λ sizes is. absurd (let never : Some (Asks c.in-Some-Asks.asked) ≡ Some (Generates sizes) = ap Some (sym c.in-Some-Asks.field-0-is) ∙ sym c.in-Some-Asks.is ∙ c.command_in.ensures.command ∙ is in cc))

pub returns-in-Some-Asks-clause-well : goal.returns-in-Some-Asks-clause-well
returns-in-Some-Asks-clause-well g c done =
    let words : List (List ℕ) = map string_bytes c.args.words.now.items in
    let asked = c.in-Some-Asks.asked in
    let left = g.S.Source.left c.ask.new.source in
    let before = g.K.Sink.taken c.args.sink.now in
    let after = g.K.Sink.taken c.ask.new.sink in
    let found : Some (Asks asked) ≡ command_of words = ap Some (sym c.in-Some-Asks.field-0-is) ∙ sym c.in-Some-Asks.is ∙ c.command_in.ensures.command in
    record {
      reads_back = λ d beat shows. absurd (let never : Some (Asks asked) ≡ Some (Runs (State beat)) = found ∙ shows.command in cc);
      alone = λ bytes told is.
          let same : Some (Asks asked) ≡ Some (Asks Audit) = found ∙ is in
          let audits : asked ≡ Audit = cc in
          let ends : Ends (read_by (reply_to asked) bytes) left before after c.ask.result = ends-asked asked bytes left before after c.ask.result (c.ask.ensures.text bytes told) in
          let whole = subst (Ends (read_by (reply_to Audit) bytes) left before after) done (subst (λ a. Ends (read_by (reply_to a) bytes) left before after c.ask.result) audits ends) in
          audited-alone bytes whole.verdict;
    }

pub returns-in-Some-Asks-clause-counted : goal.returns-in-Some-Asks-clause-counted
returns-in-Some-Asks-clause-counted g c =
    let words : List (List ℕ) = map string_bytes c.args.words.now.items in
    let found : Some (Asks c.in-Some-Asks.asked) ≡ command_of words = ap Some (sym c.in-Some-Asks.field-0-is) ∙ sym c.in-Some-Asks.is ∙ c.command_in.ensures.command in
    subst (λ t. IfSome (most_steps t (g.S.Source.left c.args.source.now)) (λ n. c.args.steps.now ≤ c.args.steps.now + n)) found (omega arith)

-- ---- a document that is run

pub returns-in-Some-Runs-clause-text : goal.returns-in-Some-Runs-clause-text
returns-in-Some-Runs-clause-text g c bytes told =
    let words : List (List ℕ) = map string_bytes c.args.words.now.items in
    let run = c.in-Some-Runs.run' in
    let left = g.S.Source.left c.run_document.new.source in
    let found : Some (Runs run) ≡ command_of words = ap Some (sym c.in-Some-Runs.field-0-is) ∙ sym c.in-Some-Runs.is ∙ c.command_in.ensures.command in
    ends-moved (read_by (run_reply run) bytes) (outcome words bytes) left left (g.K.Sink.taken c.args.sink.now) (g.K.Sink.taken c.run_document.new.sink) c.run_document.result
    (outcome-of words bytes (Some (Runs run)) found) refl (c.run_document.ensures.text bytes told)

pub returns-in-Some-Runs-clause-complete : goal.returns-in-Some-Runs-clause-complete
returns-in-Some-Runs-clause-complete g c bytes told calm open_sink =
    let words : List (List ℕ) = map string_bytes c.args.words.now.items in
    ends-whole (outcome words bytes) (g.S.Source.left c.run_document.new.source) (g.K.Sink.taken c.args.sink.now) (g.K.Sink.taken c.run_document.new.sink) c.run_document.result
    (λ fault. calm (c.run_document.ensures.source_fault fault)) (λ fault. open_sink (c.run_document.ensures.sink_fault fault)) (returns-in-Some-Runs-clause-text g c bytes told)

pub returns-in-Some-Runs-clause-usage : goal.returns-in-Some-Runs-clause-usage
returns-in-Some-Runs-clause-usage g c none =
    absurd (let never : Some (Runs c.in-Some-Runs.run') ≡ None = ap Some (sym c.in-Some-Runs.field-0-is) ∙ sym c.in-Some-Runs.is ∙ c.command_in.ensures.command ∙ none in cc)

pub returns-in-Some-Runs-clause-generated : goal.returns-in-Some-Runs-clause-generated
returns-in-Some-Runs-clause-generated g c sizes is =
    absurd (let never : Some (Runs c.in-Some-Runs.run') ≡ Some (Generates sizes) = ap Some (sym c.in-Some-Runs.field-0-is) ∙ sym c.in-Some-Runs.is ∙ c.command_in.ensures.command ∙ is in cc)

pub returns-in-Some-Runs-clause-source_fault : goal.returns-in-Some-Runs-clause-source_fault
returns-in-Some-Runs-clause-source_fault g c fault = (c.run_document.ensures.source_fault fault, c.run_document.ensures.source_silent fault)

pub returns-in-Some-Runs-clause-claims : goal.returns-in-Some-Runs-clause-claims
returns-in-Some-Runs-clause-claims g c =
    claims-hold (map string_bytes c.args.words.now.items) (g.S.Source.left c.args.source.now) c.documents_are_safe.ensures
    (λ sizes is. absurd (let never : Some (Runs c.in-Some-Runs.run') ≡ Some (Generates sizes) = ap Some (sym c.in-Some-Runs.field-0-is) ∙ sym c.in-Some-Runs.is ∙ c.command_in.ensures.command ∙ is in cc))
    (λ sizes is. absurd (let never : Some (Runs c.in-Some-Runs.run') ≡ Some (Generates sizes) = ap Some (sym c.in-Some-Runs.field-0-is) ∙ sym c.in-Some-Runs.is ∙ c.command_in.ensures.command ∙ is in cc))

pub returns-in-Some-Runs-clause-well : goal.returns-in-Some-Runs-clause-well
returns-in-Some-Runs-clause-well g c done =
    let words : List (List ℕ) = map string_bytes c.args.words.now.items in
    let run = c.in-Some-Runs.run' in
    let found : Some (Runs run) ≡ command_of words = ap Some (sym c.in-Some-Runs.field-0-is) ∙ sym c.in-Some-Runs.is ∙ c.command_in.ensures.command in
    record {
      reads_back = λ d beat shows.
          let same : Some (Runs run) ≡ Some (Runs (State beat)) = found ∙ shows.command in
          c.run_document.ensures.reads_back shows.bytes d beat shows.told shows.read (cc) done;
      alone = λ bytes told is. absurd (let never : Some (Runs run) ≡ Some (Asks Audit) = found ∙ is in cc);
    }

pub returns-in-Some-Runs-clause-counted : goal.returns-in-Some-Runs-clause-counted
returns-in-Some-Runs-clause-counted g c =
    let words : List (List ℕ) = map string_bytes c.args.words.now.items in
    let found : Some (Runs c.in-Some-Runs.run') ≡ command_of words = ap Some (sym c.in-Some-Runs.field-0-is) ∙ sym c.in-Some-Runs.is ∙ c.command_in.ensures.command in
    subst (λ t. IfSome (most_steps t (g.S.Source.left c.args.source.now)) (λ n. c.run_document.new.steps ≤ c.args.steps.now + n)) found c.run_document.ensures.counted

pub returns-in-Some-Runs-clause-idle : goal.returns-in-Some-Runs-clause-idle
returns-in-Some-Runs-clause-idle g c reason =
    let words : List (List ℕ) = map string_bytes c.args.words.now.items in
    let found : Some (Runs c.in-Some-Runs.run') ≡ command_of words = ap Some (sym c.in-Some-Runs.field-0-is) ∙ sym c.in-Some-Runs.is ∙ c.command_in.ensures.command in
    either c.run_document.ensures.undone (λ idle. c.run_document.ensures.idle (subst (λ t. IsIdle t (g.S.Source.left c.args.source.now)) (sym found) idle)) reason

-- ---- a document that is generated

pub returns-in-Some-Generates-clause-text : goal.returns-in-Some-Generates-clause-text
returns-in-Some-Generates-clause-text g c bytes told =
    let words : List (List ℕ) = map string_bytes c.args.words.now.items in
    let sizes = c.in-Some-Generates.sizes in
    let found : Some (Generates sizes) ≡ command_of words = ap Some (sym c.in-Some-Generates.field-0-is) ∙ sym c.in-Some-Generates.is ∙ c.command_in.ensures.command in
    ends-moved (unread (done (generated_line sizes)) bytes) (outcome words bytes) (Some bytes) (g.S.Source.left c.args.source.now) (g.K.Sink.taken c.args.sink.now) (g.K.Sink.taken c.write_generated.new.sink)
    c.write_generated.result (outcome-of words bytes (Some (Generates sizes)) found) told (c.write_generated.ensures.text bytes)

pub returns-in-Some-Generates-clause-complete : goal.returns-in-Some-Generates-clause-complete
returns-in-Some-Generates-clause-complete g c bytes told calm open_sink =
    let words : List (List ℕ) = map string_bytes c.args.words.now.items in
    ends-whole (outcome words bytes) (g.S.Source.left c.args.source.now) (g.K.Sink.taken c.args.sink.now) (g.K.Sink.taken c.write_generated.new.sink) c.write_generated.result
    (run-end c.write_generated.result c.write_generated.ensures.ended) (λ fault. open_sink (c.write_generated.ensures.sink_fault fault)) (returns-in-Some-Generates-clause-text g c bytes told)

pub returns-in-Some-Generates-clause-usage : goal.returns-in-Some-Generates-clause-usage
returns-in-Some-Generates-clause-usage g c none =
    absurd (let never : Some (Generates c.in-Some-Generates.sizes) ≡ None = ap Some (sym c.in-Some-Generates.field-0-is) ∙ sym c.in-Some-Generates.is ∙ c.command_in.ensures.command ∙ none in cc)

-- the sizes are those of the command, and the source is as it was
pub returns-in-Some-Generates-clause-generated : goal.returns-in-Some-Generates-clause-generated
returns-in-Some-Generates-clause-generated g c sizes is =
    let found : Some (Generates c.in-Some-Generates.sizes) ≡ Some (Generates sizes) = ap Some (sym c.in-Some-Generates.field-0-is) ∙ sym c.in-Some-Generates.is ∙ c.command_in.ensures.command ∙ is in
    let same : c.in-Some-Generates.sizes ≡ sizes = cc in
    let taken = g.K.Sink.taken in
    let P : Sizes → Type 0 = λ s. Ends (unread (done (generated_line s)) []) (Some []) (taken c.args.sink.now) (taken c.write_generated.new.sink) c.write_generated.result in
    (refl, refl, c.write_generated.ensures.ended, subst P same (c.write_generated.ensures.text []))

pub returns-in-Some-Generates-clause-source_fault : goal.returns-in-Some-Generates-clause-source_fault
returns-in-Some-Generates-clause-source_fault g c fault = absurd (run-end c.write_generated.result c.write_generated.ensures.ended fault)

pub returns-in-Some-Generates-clause-claims : goal.returns-in-Some-Generates-clause-claims
returns-in-Some-Generates-clause-claims g c =
    claims-hold (map string_bytes c.args.words.now.items) (g.S.Source.left c.args.source.now) c.documents_are_safe.ensures
    (λ sizes is.
    let found : Some (Generates c.in-Some-Generates.sizes) ≡ Some (Generates sizes) = ap Some (sym c.in-Some-Generates.field-0-is) ∙ sym c.in-Some-Generates.is ∙ c.command_in.ensures.command ∙ is in
    let same : c.in-Some-Generates.sizes ≡ sizes = cc in
    subst (λ s. IsSafe (document_of s)) same c.write_generated.ensures.safe)
    (λ sizes is.
    let found : Some (Generates c.in-Some-Generates.sizes) ≡ Some (Generates sizes) = ap Some (sym c.in-Some-Generates.field-0-is) ∙ sym c.in-Some-Generates.is ∙ c.command_in.ensures.command ∙ is in
    let same : c.in-Some-Generates.sizes ≡ sizes = cc in
    subst (λ s. IsTimely (document_of s)) same c.write_generated.ensures.timely)

pub returns-in-Some-Generates-clause-well : goal.returns-in-Some-Generates-clause-well
returns-in-Some-Generates-clause-well g c done =
    let words : List (List ℕ) = map string_bytes c.args.words.now.items in
    let found : Some (Generates c.in-Some-Generates.sizes) ≡ command_of words = ap Some (sym c.in-Some-Generates.field-0-is) ∙ sym c.in-Some-Generates.is ∙ c.command_in.ensures.command in
    record {
      reads_back = λ d beat shows. absurd (let never : Some (Generates c.in-Some-Generates.sizes) ≡ Some (Runs (State beat)) = found ∙ shows.command in cc);
      alone = λ bytes told is. absurd (let never : Some (Generates c.in-Some-Generates.sizes) ≡ Some (Asks Audit) = found ∙ is in cc);
    }

pub returns-in-Some-Generates-clause-counted : goal.returns-in-Some-Generates-clause-counted
returns-in-Some-Generates-clause-counted g c =
    let words : List (List ℕ) = map string_bytes c.args.words.now.items in
    let found : Some (Generates c.in-Some-Generates.sizes) ≡ command_of words = ap Some (sym c.in-Some-Generates.field-0-is) ∙ sym c.in-Some-Generates.is ∙ c.command_in.ensures.command in
    subst (λ t. IfSome (most_steps t (g.S.Source.left c.args.source.now)) (λ n. c.write_generated.new.steps ≤ c.args.steps.now + n)) found c.write_generated.ensures.counted

pub returns-in-Some-Generates-clause-idle : goal.returns-in-Some-Generates-clause-idle
returns-in-Some-Generates-clause-idle g c reason =
    let words : List (List ℕ) = map string_bytes c.args.words.now.items in
    let found : Some (Generates c.in-Some-Generates.sizes) ≡ command_of words = ap Some (sym c.in-Some-Generates.field-0-is) ∙ sym c.in-Some-Generates.is ∙ c.command_in.ensures.command in
    absurd (either (run-undone c.write_generated.result c.write_generated.ensures.ended) (λ idle. subst (λ t. IsIdle t (g.S.Source.left c.args.source.now)) (sym found) idle) reason)

-- ---- no command

pub returns-in-None-clause-text : goal.returns-in-None-clause-text
returns-in-None-clause-text g c bytes told =
    let words : List (List ℕ) = map string_bytes c.args.words.now.items in
    let left = g.S.Source.left c.args.source.now in
    let before = g.K.Sink.taken c.args.sink.now in
    let after = g.K.Sink.taken c.tell_usage.new.sink in
    ends-moved (unread usage bytes) (outcome words bytes) left left before after c.tell_usage.result (outcome-of words bytes None (sym c.in-None.is ∙ c.command_in.ensures.command)) refl
    (ends-unread usage bytes left before after c.tell_usage.result told (c.tell_usage.ensures.text bytes))

pub returns-in-None-clause-complete : goal.returns-in-None-clause-complete
returns-in-None-clause-complete g c bytes told calm open_sink =
    let words : List (List ℕ) = map string_bytes c.args.words.now.items in
    ends-whole (outcome words bytes) (g.S.Source.left c.args.source.now) (g.K.Sink.taken c.args.sink.now) (g.K.Sink.taken c.tell_usage.new.sink) c.tell_usage.result
    (not-source c.tell_usage.result c.tell_usage.ensures.status) (λ fault. open_sink (c.tell_usage.ensures.sink_fault fault)) (returns-in-None-clause-text g c bytes told)

pub returns-in-None-clause-source_fault : goal.returns-in-None-clause-source_fault
returns-in-None-clause-source_fault g c fault = absurd (not-source c.tell_usage.result c.tell_usage.ensures.status fault)

pub returns-in-None-clause-generated : goal.returns-in-None-clause-generated
returns-in-None-clause-generated g c sizes is = absurd (let never : None ≡ Some (Generates sizes) = sym c.in-None.is ∙ c.command_in.ensures.command ∙ is in cc)

pub returns-in-None-clause-usage : goal.returns-in-None-clause-usage
returns-in-None-clause-usage g c other =
    (refl, refl, c.tell_usage.ensures.status, ends-unread usage [] (Some []) (g.K.Sink.taken c.args.sink.now) (g.K.Sink.taken c.tell_usage.new.sink) c.tell_usage.result refl (c.tell_usage.ensures.text []))

pub returns-in-None-clause-claims : goal.returns-in-None-clause-claims
returns-in-None-clause-claims g c =
    claims-hold (map string_bytes c.args.words.now.items) (g.S.Source.left c.args.source.now) c.documents_are_safe.ensures
    (λ sizes is. absurd (let never : None ≡ Some (Generates sizes) = sym c.in-None.is ∙ c.command_in.ensures.command ∙ is in cc))
    (λ sizes is. absurd (let never : None ≡ Some (Generates sizes) = sym c.in-None.is ∙ c.command_in.ensures.command ∙ is in cc))

pub returns-in-None-clause-well : goal.returns-in-None-clause-well
returns-in-None-clause-well g c done = absurd (not-done c.tell_usage.result c.tell_usage.ensures.status done)

pub returns-in-None-clause-counted : goal.returns-in-None-clause-counted
returns-in-None-clause-counted g c =
    let words : List (List ℕ) = map string_bytes c.args.words.now.items in
    subst (λ t. IfSome (most_steps t (g.S.Source.left c.args.source.now)) (λ n. c.args.steps.now ≤ c.args.steps.now + n)) (sym c.in-None.is ∙ c.command_in.ensures.command) (omega arith)
