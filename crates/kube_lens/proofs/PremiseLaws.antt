-- How a run on a document's margins ends, and its lease premise.
use Rattle.std.proofs.Common.{◌≡◌, ℕ, nat_le, Bool, true, false, List, length, Option, Ok, ap, ◌∙◌, subst}
use Rattle.byte_edge.specs.Bytes.{Taken}
use Rattle.history.specs.Premise.{lease_premise}
use Rattle.run_edge.specs.declared.status.Status.{Status}
use Rattle.run_edge.specs.declared.status.Status.TheVariants.{Answered}
use Rattle.run_edge.specs.declared.status.Verdict.{Verdict}
use Rattle.run_edge.specs.declared.status.Verdict.TheVariants.{Safe, Unsafe, Refused}
use Rattle.run_edge.specs.Outcome.{Outcome, Read, ReadBy, Ends}
use Rattle.lens_room.specs.Replies.{found, verdict_of}
use Rattle.lens_room.proofs.VerdictLaws.{verdict-safe, verdict-unsafe}
use Rattle.script_reader.specs.declared.document.Document.{Document}
use Rattle.script_reader.specs.Documents.{doc_of}
use Rattle.script_reader.specs.Walk.{document_walk}
use Rattle.kube_lens.specs.declared.asked.Asked.{Asked}
use Rattle.kube_lens.specs.declared.asked.Asked.TheVariants.{Margin}
use Rattle.kube_lens.specs.Outcome.{IsReply}

module _ (bytes : List ℕ) (d : Document) (read : document_walk bytes ≡ Ok d) where
  read-by : (v : Verdict) (b : Bool) (o : Outcome) → ¬ (v ≡ Refused) → v ≡ o.reply.verdict → ReadBy b (IsReply Margin bytes) bytes o → v ≡ verdict_of (lease_premise (doc_of d))
  read-by v true o other same is = same ∙ ap (λ x. x.verdict) is.0 ∙ ap (λ r. (found r).verdict) read
  read-by v false o other same is = absurd (other (same ∙ ap (λ x. x.reply.verdict) is))

  measured-by : (left : Option (List ℕ)) (before after : Taken) (v : Verdict) (s : Status) → ¬ (v ≡ Refused) → s ≡ Answered v → Ends (Read (IsReply Margin) bytes) left before after s
      → v ≡ verdict_of (lease_premise (doc_of d))
  unfolding Read
  measured-by left before after v s other is ends =
      let whole = subst (Ends (Read (IsReply Margin) bytes) left before after) is ends in
      read-by v (nat_le (length bytes) 16777216) whole.0 other whole.2.verdict whole.1

  pub safe-premise : (asked : Asked) (left : Option (List ℕ)) (before after : Taken) (s : Status) → asked ≡ Margin → Ends (Read (IsReply asked) bytes) left before after s → s ≡ Answered Safe
      → lease_premise (doc_of d) ≡ true
  safe-premise asked left before after s margin ends is =
      verdict-safe _ (measured-by left before after Safe s (λ same. let never : Safe ≡ Refused = same in cc) is (subst (λ a. Ends (Read (IsReply a) bytes) left before after s) margin ends))

  pub unsafe-premise : (asked : Asked) (left : Option (List ℕ)) (before after : Taken) (s : Status) → asked ≡ Margin → Ends (Read (IsReply asked) bytes) left before after s → s ≡ Answered Unsafe
      → lease_premise (doc_of d) ≡ false
  unsafe-premise asked left before after s margin ends is =
      verdict-unsafe _ (measured-by left before after Unsafe s (λ same. let never : Unsafe ≡ Refused = same in cc) is (subst (λ a. Ends (Read (IsReply a) bytes) left before after s) margin ends))
