use Rattle.std.proofs.Common.{◌≡◌, ◌≤◌, ◌+◌, ℕ, List, [], Some, Ok, codes, drop, refl, sym, ap, ◌∙◌, subst}
use Rattle.byte_edge.proofs.Fronts.{gave-nothing}
use Rattle.run_edge.specs.Outcome.{read_by, refusal}
use Rattle.run_edge.proofs.Endings.{read-short, read-long}
use Rattle.script_reader.specs.Walk.{document_walk}
use Rattle.replay_top.specs.Bounds.{most_read}
use Rattle.replay_top.specs.Outcome.{Ends, unread}
use Rattle.replay_top.specs.Replies.{answered, answer_to, refused, run_reply}
use Rattle.replay_top.specs.State.{ReadsBack}
use Rattle.replay_top.proofs.Bounded.{most-told, never-idle}
use Rattle.replay_top.proofs.Endings.{ends-moved, ends-unread, read-unread, same-read}
use Rattle.replay_top.proofs.running.run_document.Goals as goal

pub returns-in-Ok-document_in-clause-text : goal.returns-in-Ok-document_in-clause-text
returns-in-Ok-document_in-clause-text g c bytes told =
    let run = c.args.run in
    let d = c.in-Ok-document_in.document in
    let left = g.S.Source.left c.take_input.new.source in
    let input = c.in-Ok.ensures.whole bytes told in
    ends-moved (unread (answer_to run d) []) (read_by (run_reply run) bytes) (Some []) left (g.K.Sink.taken c.args.sink.now) (g.K.Sink.taken c.perform.new.sink) c.perform.result
    (read-short (run_reply run) bytes c.in-Ok.input.items left input ∙ ap (λ r. unread (answered run r) []) c.in-Ok-document_in.ensures.exact) input.rest c.perform.ensures.text

pub returns-in-Ok-document_in-clause-reads_back : goal.returns-in-Ok-document_in-clause-reads_back
returns-in-Ok-document_in-clause-reads_back g c bytes d beat told read is done =
    let input = c.in-Ok.ensures.whole bytes told in
    subst (λ x. ReadsBack x beat.0)
    (same-read bytes c.in-Ok-document_in.document d (ap document_walk (sym input.is) ∙ c.in-Ok-document_in.ensures.exact) read) (c.perform.ensures.reads_back beat is done)

pub returns-in-Err-Refused-clause-text : goal.returns-in-Err-Refused-clause-text
returns-in-Err-Refused-clause-text g c bytes told =
    let run = c.args.run in
    let r = c.in-Err-Refused.refusal in
    let left = g.S.Source.left c.take_input.new.source in
    let before = g.K.Sink.taken c.args.sink.now in
    let after = g.K.Sink.taken c.tell_refusal.new.sink in
    let input = c.in-Ok.ensures.whole bytes told in
    let exact = rw c.in-Err-Refused.field-0-is at c.in-Err-Refused.ensures.exact in
    let path = rw c.in-Err-Refused.field-0-is at c.as_slice.ensures in
    let told_it = rw c.in-Err-Refused.field-0-is at (c.tell_refusal.ensures.text []) in
    let ends : Ends (unread (refused r) []) (Some []) before after c.tell_refusal.result
    = subst (λ path. Ends (unread (refusal r.code path) []) (Some []) before after c.tell_refusal.result) path
    (ends-unread (refusal r.code c.as_slice.result.now) [] (Some []) before after c.tell_refusal.result refl told_it) in
    ends-moved (unread (refused r) []) (read_by (run_reply run) bytes) (Some []) left before after c.tell_refusal.result
    (read-short (run_reply run) bytes c.in-Ok.input.items left input ∙ ap (λ x. unread (answered run x) []) exact) input.rest ends

pub returns-in-Err-TooLarge-clause-text : goal.returns-in-Err-TooLarge-clause-text
returns-in-Err-TooLarge-clause-text g c bytes told =
    let run = c.args.run in
    let rest : List ℕ = drop 16777217 bytes in
    let left = g.S.Source.left c.take_input.new.source in
    let before = g.K.Sink.taken c.args.sink.now in
    let after = g.K.Sink.taken c.tell_too_large.new.sink in
    let much = c.in-Err-TooLarge.ensures.long bytes told c.in-Err-TooLarge.field-0-is in
    ends-moved (unread (refusal 33 (codes "/")) rest) (read_by (run_reply run) bytes) (Some rest) left before after c.tell_too_large.result
    (read-long (run_reply run) bytes left much) much.rest
    (ends-unread (refusal 33 (codes "/")) rest (Some rest) before after c.tell_too_large.result refl (c.tell_too_large.ensures.text rest))

pub returns-in-Err-NoMemory-clause-text : goal.returns-in-Err-NoMemory-clause-text
returns-in-Err-NoMemory-clause-text g c bytes told = gave-nothing (g.K.Sink.taken c.args.sink.now) (read_by (run_reply c.args.run) bytes).reply.text

pub returns-in-Err-NoMemory-document_in-clause-text : goal.returns-in-Err-NoMemory-document_in-clause-text
returns-in-Err-NoMemory-document_in-clause-text g c bytes told = gave-nothing (g.K.Sink.taken c.args.sink.now) (read_by (run_reply c.args.run) bytes).reply.text

-- ---- the beats

pub returns-in-Ok-document_in-clause-counted : goal.returns-in-Ok-document_in-clause-counted
returns-in-Ok-document_in-clause-counted g c =
    let run = c.args.run in
    most-told (λ n. c.perform.new.steps ≤ c.args.steps.now + n) run (g.S.Source.left c.args.source.now)
    (λ bytes told.
    let input = c.in-Ok.ensures.whole bytes told in
    let read : document_walk bytes ≡ Ok c.in-Ok-document_in.document = ap document_walk (sym input.is) ∙ c.in-Ok-document_in.ensures.exact in
    subst (λ found. c.perform.new.steps ≤ c.args.steps.now + most_read run found) (sym read) c.perform.ensures.counted)

pub returns-in-Ok-document_in-clause-idle : goal.returns-in-Ok-document_in-clause-idle
returns-in-Ok-document_in-clause-idle g c idle =
    absurd
    (never-idle c.args.run (g.S.Source.left c.args.source.now)
    (λ bytes told unread.
    let input = c.in-Ok.ensures.whole bytes told in
    read-unread bytes c.in-Ok-document_in.document input.short (ap document_walk (sym input.is) ∙ c.in-Ok-document_in.ensures.exact) unread) idle)
