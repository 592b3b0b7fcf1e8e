use Rattle.std.proofs.Common.{◌≡◌, ℕ, List, Option, Some, map, string_bytes, refl, sym, ap, ◌∙◌, subst, inl, inr, arith}
use Rattle.byte_edge.specs.Bytes.{Rose, Taken}
use Rattle.replay_top.specs.Outcome.{Ends, outcome}
use Rattle.kube_replay_c.proofs.Buffers.{ends-in}
use Rattle.run_edge.specs.declared.status.Status.{Status}
use Rattle.run_edge.specs.declared.status.Status.TheVariants.{Answered, SourceFault, SinkFault, OutOfMemory}
use Rattle.run_edge.specs.declared.status.Verdict.{Verdict}
use Rattle.run_edge.specs.declared.status.Verdict.TheVariants.{Done, Safe, Unsafe, Refused, Usage}
use Rattle.replay_top.proofs.Outcomes.{never-safe}
use Rattle.replay_top.specs.Claims.{Claims, IsWell}
use Rattle.kube_replay_c.specs.Exits.{exit_status_of}
use Rattle.kube_replay_c.proofs.answer.run_in_memory.Goals as goal

-- only a run that is done ends with 0, as none is told to be safe
done : (words : List (List ℕ)) (bytes : List ℕ) (left : Option (List ℕ)) (before after : Taken) (s : Status) → Ends (outcome words bytes) left before after s → exit_status_of s ≡ 0 → s ≡ Answered Done
done words bytes left before after (Answered Done) ends is = refl
done words bytes left before after (Answered Safe) ends is = absurd (never-safe words bytes (sym ends.verdict))
done words bytes left before after (Answered Unsafe) ends is = absurd cc
done words bytes left before after (Answered Refused) ends is = absurd cc
done words bytes left before after (Answered Usage) ends is = absurd cc
done words bytes left before after SourceFault ends is = absurd cc
done words bytes left before after SinkFault ends is = absurd cc
done words bytes left before after OutOfMemory ends is = absurd cc

no_fault : Rose 0 0 → ⊥
no_fault (inl less) = omega (arith, less)
no_fault (inr last) = omega (arith, last)

pub returns-clause-text : goal.returns-clause-text
returns-clause-text c =
    let o = outcome (map string_bytes c.args.words.now.items) c.args.input.now in
    let sink = c.run-status.new.sink in
    ends-in o _ c.new-sink.result.buffer.ghost_name sink.buffer.ghost_name c.args.buffer.now c.new-sink.result.buffer.now sink.buffer.now _ c.new-sink.result.given sink.given c.put.result c.given.result c.exit_status.result (Some c.run-status.new.source.left.now) c.run-status.result
    c.new-sink.ensures.borrow c.new-sink.ensures.buffer c.new-sink.ensures.given
    (c.run-status.ensures.text c.args.input.now (ap (λ bytes. Some bytes) c.new-source.ensures))
    (λ fault. no_fault (c.run-status.ensures.source_fault fault).0)
    (assumption c) c.put.ensures c.given.ensures c.exit_status.ensures

pub returns-clause-claims : goal.returns-clause-claims
returns-clause-claims c =
    subst (λ left. Claims (map string_bytes c.args.words.now.items) left) (ap (λ bytes. Some bytes) c.new-source.ensures) c.run-status.ensures.claims

pub returns-clause-well : goal.returns-clause-well
returns-clause-well c zero =
    subst (λ left. IsWell (map string_bytes c.args.words.now.items) left) (ap (λ bytes. Some bytes) c.new-source.ensures)
    (c.run-status.ensures.well
    (done (map string_bytes c.args.words.now.items) c.args.input.now (Some c.run-status.new.source.left.now) _ _ c.run-status.result
    (c.run-status.ensures.text c.args.input.now (ap (λ bytes. Some bytes) c.new-source.ensures)) (sym c.exit_status.ensures ∙ zero)))
