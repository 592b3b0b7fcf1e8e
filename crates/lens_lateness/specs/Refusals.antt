-- What is refused: the same with `--json` as without.
use Rattle.std.specs.Prelude.{◌≡◌, ℕ, List}
use Rattle.run_edge.specs.Outcome.{Reply}
use Rattle.run_edge.specs.declared.status.Verdict.TheVariants.{Refused}
use Rattle.lens_lateness.specs.FigureReplies.{figures_reply}
use Rattle.lens_lateness.specs.Replies.{lateness_reply}

-- two answers that come to the same, and are the same where the one is a refusal
abbrev pub AreRefusedAlike : Reply → Reply → Type 0
AreRefusedAlike one other = (one.verdict ≡ other.verdict) × (one.verdict ≡ Refused → one ≡ other)

-- `summary --document` answers every input so, without `--json` and with it
abbrev pub RefusalsAreTheSame : Type 0
RefusalsAreTheSame = (input : List ℕ) → AreRefusedAlike (lateness_reply input) (figures_reply input)
