-- How many beats are done at most, by what the source tells.
use Rattle.std.proofs.Common.{◌≡◌, ℕ, List, Option, Some, None, IfSome, refl}
use Rattle.script_reader.specs.Walk.{document_walk}
use Rattle.replay_top.specs.declared.command.Command.TheVariants.{Runs}
use Rattle.replay_top.specs.declared.command.Run.{Run}
use Rattle.replay_top.specs.Bounds.{IsIdle, most_read, most_steps}
use Rattle.replay_top.specs.Replays.{IsUnread}

-- a bound for whatever bytes the source tells
pub most-told : (P : ℕ → Type 0) (run : Run) (left : Option (List ℕ))
    → ((bytes : List ℕ) → left ≡ Some bytes → P (most_read run (document_walk bytes))) → IfSome (most_steps (Some (Runs run)) left) P
most-told P run None told = tt
most-told P run (Some bytes) told = told bytes refl

-- a source that tells that there is no document is no other one
pub never-idle : (run : Run) (left : Option (List ℕ)) → ((bytes : List ℕ) → left ≡ Some bytes → IsUnread bytes → ⊥) → IsIdle (Some (Runs run)) left → ⊥
never-idle run None never idle = absurd idle
never-idle run (Some bytes) never idle = never bytes refl idle
