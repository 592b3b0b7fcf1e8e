-- How a run ends, by the words behind the first one.
use Rattle.std.proofs.Common.{◌≡◌, ℕ, List, Some, Result, Ok, Err, IfOk, refl, sym, ap, subst}
use Rattle.byte_edge.specs.Bytes.{Taken}
use Rattle.kube_base.specs.declared.memory.NoMemory.{NoMemory}
use Rattle.run_edge.proofs.Endings.{ends-wider}
use Rattle.run_edge.specs.Outcome.{Ends, Outcome, Reply, Unread, reply_of}
use Rattle.run_edge.specs.declared.answer.Answer.{Answer}
use Rattle.run_edge.specs.declared.status.Status.{Status}
use Rattle.lens_room.specs.Words.{Told}

-- an answer that is there, of which a slice shows the text
pub ends-shown : (r : Result Answer NoMemory) (a : Answer) (text left : List ℕ) (before after : Taken) (s : Status) → r ≡ Ok a → text ≡ a.text.items
    → Ends (Unread (record { verdict = a.verdict; text = text }) left) (Some left) before after s → Ends (Told r left) (Some left) before after s
ends-shown r a text left before after s is value ends =
    subst (λ x. Ends (Told x left) (Some left) before after s) (sym is)
    (subst (λ shown. Ends (Unread (let reply : Reply = record { verdict = a.verdict; text = shown } in reply) left) (Some left) before after s) value ends)

-- an answer that is told
module _ (IsReply : Reply → Type 0) (left : List ℕ) where
  told : (r : Result Answer NoMemory) → IfOk r (λ a. IsReply (reply_of a)) → (o : Outcome) → Told r left o → IsReply o.reply × (o.left ≡ left)
  told (Ok a) is o same = (subst IsReply (sym (ap (λ x. x.reply) same)) is, ap (λ x. x.left) same)
  told (Err e) is o never = absurd never

-- an answer to these words, of which a slice shows the text, so one of those that there may be
pub ends-told : (IsReply : List (List ℕ) → Reply → Type 0) (shown words : List (List ℕ)) (r : Result Answer NoMemory) (left : List ℕ) (before after : Taken) (s : Status)
    → shown ≡ words → IfOk r (λ a. IsReply shown (reply_of a)) → Ends (Told r left) (Some left) before after s
    → Ends (λ o. IsReply words o.reply × (o.left ≡ left)) (Some left) before after s
ends-told IsReply shown words r left before after s same is ends =
    ends-wider (Told r left) (λ o. IsReply words o.reply × (o.left ≡ left)) (Some left) (Some left) before after s
    (told (IsReply words) left r (subst (λ ws. IfOk r (λ a. IsReply ws (reply_of a))) same is)) refl ends

-- and where there may be one alone
pub ends-answered : (answer_to : List (List ℕ) → Reply) (shown words : List (List ℕ)) (r : Result Answer NoMemory) (left : List ℕ) (before after : Taken) (s : Status)
    → shown ≡ words → IfOk r (λ a. reply_of a ≡ answer_to shown) → Ends (Told r left) (Some left) before after s
    → Ends (Unread (answer_to words) left) (Some left) before after s
ends-answered answer_to shown words r left before after s same is ends =
    ends-wider (λ o. (o.reply ≡ answer_to words) × (o.left ≡ left)) (Unread (answer_to words) left) (Some left) (Some left) before after s
    (λ o both. λ i. record { reply = both.0 i; left = both.1 i }) refl
    (ends-told (λ ws reply. reply ≡ answer_to ws) shown words r left before after s same is ends)
