-- How a run ends, by the words behind the first one.
use Rattle.std.proofs.Common.{◌≡◌, ℕ, true, false, List, Some, Ok, ap, ◌∙◌, subst}
use Rattle.byte_edge.specs.Bytes.{Taken}
use Rattle.history.specs.Premise.{lease_premise}
use Rattle.run_edge.specs.Outcome.{Ends, Unread}
use Rattle.run_edge.specs.declared.status.Status.{Status}
use Rattle.run_edge.specs.declared.status.Status.TheVariants.{Answered}
use Rattle.run_edge.specs.declared.status.Verdict.{Verdict}
use Rattle.run_edge.specs.declared.status.Verdict.TheVariants.{Safe, Unsafe}
use Rattle.lens_room.specs.Replies.{verdict_of}
use Rattle.lens_room.specs.declared.by_flags.flags.Flags.{Flags}
use Rattle.lens_room.specs.Described.{described}
use Rattle.lens_room.specs.Flags.{flags_of}
use Rattle.lens_room.specs.FlagLaws.{holds}
use Rattle.lens_room.specs.FlagReplies.{answer_to, answered}
use Rattle.lens_room.proofs.VerdictLaws.{verdict-safe, verdict-unsafe}

module _ (words : List (List ℕ)) (flags : Flags) (read : flags_of words ≡ Ok flags) (left : List ℕ) (before after : Taken) (s : Status)
    (ends : Ends (Unread (answer_to words) left) (Some left) before after s) where
  verdict-is : (v : Verdict) → s ≡ Answered v → v ≡ verdict_of (holds flags)
  verdict-is v is =
      let whole = subst (Ends (Unread (answer_to words) left) (Some left) before after) is ends in
      whole.2.verdict ∙ ap (λ o. o.reply.verdict) whole.1 ∙ ap (λ r. (answered words r).verdict) read

  pub safe-premise : s ≡ Answered Safe → lease_premise (described flags) ≡ true
  safe-premise is = verdict-safe _ (verdict-is Safe is)

  pub unsafe-premise : s ≡ Answered Unsafe → lease_premise (described flags) ≡ false
  unsafe-premise is = verdict-unsafe _ (verdict-is Unsafe is)
