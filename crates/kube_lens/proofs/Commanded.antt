-- How a run ends, by the command of its words.
use Rattle.std.proofs.Common.{◌≡◌, ℕ, List, [], Option, Some, None, sym, ap, subst, ◌∙◌}
use Rattle.byte_edge.specs.Bytes.{Taken}
use Rattle.run_edge.specs.declared.status.Status.{Status}
use Rattle.run_edge.specs.Outcome.{Ends, Outcome, Reply, Unread}
use Rattle.kube_lens.specs.declared.command.Command.{Command}
use Rattle.kube_lens.specs.Commands.{command_of}
use Rattle.kube_lens.specs.Outcome.{IsOutcome, IsOutcomeOf, unread_reply}

-- a run that ends as this command ends as by its words
pub ends-commanded : (words : List (List ℕ)) (bytes : List ℕ) (command : Option Command) (left : Option (List ℕ)) (before after : Taken) (s : Status) → command ≡ command_of words
    → Ends (IsOutcomeOf command words bytes) left before after s → Ends (IsOutcome words bytes) left before after s
ends-commanded words bytes command left before after s is ends = subst (λ c. Ends (IsOutcomeOf c words bytes) left before after s) is ends

-- what is left of the source is all that it had
pub ends-left : (IsOne : Outcome → Type 0) (bytes : List ℕ) (left : Option (List ℕ)) (before after : Taken) (s : Status) → left ≡ Some bytes
    → Ends IsOne (Some bytes) before after s → Ends IsOne left before after s
ends-left IsOne bytes left before after s told ends = subst (λ l. Ends IsOne l before after s) (sym told) ends

-- the source isn't read
pub ends-unread : (reply : Reply) (bytes : List ℕ) (left : Option (List ℕ)) (before after : Taken) (s : Status) → left ≡ Some bytes
    → Ends (Unread reply bytes) (Some bytes) before after s → Ends (Unread reply bytes) left before after s
ends-unread reply bytes = ends-left (Unread reply bytes) bytes

-- what this command is answered without the source is what the words are
pub ends-said : (words : List (List ℕ)) (command : Option Command) (said reply : Reply) (before after : Taken) (s : Status) → command ≡ command_of words
    → unread_reply command words ≡ Some said → unread_reply (command_of words) words ≡ Some reply
    → Ends (Unread said []) (Some []) before after s → Ends (Unread reply []) (Some []) before after s
ends-said words command said reply before after s is here there ends =
    let whole : Some reply ≡ unread_reply command words = sym there ∙ ap (λ c. unread_reply c words) (sym is) in
    let same : said ≡ reply = cc (here, whole) in
    subst (λ r. Ends (Unread r []) (Some []) before after s) same ends

-- what is asked of an input has no such answer
pub never-said : (words : List (List ℕ)) (command : Option Command) (reply : Reply) → command ≡ command_of words → unread_reply command words ≡ None → unread_reply (command_of words) words ≡ Some reply → ⊥
never-said words command reply is here there =
    let whole : Some reply ≡ unread_reply command words = sym there ∙ ap (λ c. unread_reply c words) (sym is) in
    let never : Some reply ≡ None = whole ∙ here in
    cc
