-- How a run ends, by the outcome of its words and bytes.
use Rattle.std.proofs.Common.{◌≡◌, ℕ, nat_le, Bool, true, false, cond, List, [], length, drop, codes, Option, Some, Result, Ok, Err, IfOk, IsErr, refl, sym, ap, ◌∙◌, subst}
use Rattle.std.proofs.lemmas.Bool.{le-leb, lt-leb}
use Rattle.byte_edge.specs.Bytes.{Taken}
use Rattle.kube_base.specs.declared.memory.NoMemory.{NoMemory}
use Rattle.run_edge.specs.declared.answer.Answer.{Answer}
use Rattle.run_edge.specs.declared.status.Status.{Status}
use Rattle.run_edge.specs.declared.status.Status.TheVariants.{Answered, SourceFault, SinkFault, OutOfMemory}
use Rattle.run_edge.specs.Inputs.{IsInput, IsTooLong}
use Rattle.run_edge.specs.Outcome.{Outcome, Reply, reply_of, Unread, ReadBy, Read, read_by, refusal, Ends}

-- a run that ends with one outcome ends with one of those among which it is
pub ends-wider : (IsOne IsOther : Outcome → Type 0) (now left : Option (List ℕ)) (before after : Taken) (s : Status) → ((o : Outcome) → IsOne o → IsOther o) → left ≡ now → Ends IsOne now before after s → Ends IsOther left before after s
ends-wider IsOne IsOther now left before after s wider rest ends = subst (λ l. Ends IsOther l before after s) (sym rest) (by_status s ends)
  where
    by_status : (s : Status) → Ends IsOne now before after s → Ends IsOther now before after s
    by_status (Answered verdict) (o, is, whole) = (o, wider o is, whole)
    by_status SourceFault silent = silent
    by_status SinkFault (o, is, gave) = (o, wider o is, gave)
    by_status OutOfMemory silent = silent

-- ---- an input that was taken

-- an answer that was given, or for which memory was missing
ends-given : (r : Result Answer NoMemory) (IsReply : Reply → Type 0) (left : List ℕ) (before after : Taken) (s : Status)
    → IfOk r (λ a. IsReply (reply_of a)) → IfOk r (λ a. Ends (Unread (reply_of a) left) (Some left) before after s) → (IsErr r → (s ≡ OutOfMemory) × (after ≡ before))
    → Ends (λ o. IsReply o.reply × (o.left ≡ left)) (Some left) before after s
ends-given (Ok a) IsReply left before after s is ends none =
    ends-wider (Unread (reply_of a) left) (λ o. IsReply o.reply × (o.left ≡ left)) (Some left) (Some left) before after s
    (λ o same. (subst (λ x. IsReply x) (sym (ap (λ x. x.reply) same)) is, ap (λ x. x.left) same)) refl ends
ends-given (Err e) IsReply left before after s is ends none =
    let out = none refl in
    subst (λ x. Ends (λ o. IsReply o.reply × (o.left ≡ left)) (Some left) before after x) (sym out.0) out.1

-- all bytes that the source told were taken, and a slice shows them
pub ends-read : (IsReply : List ℕ → Reply → Type 0) (left : Option (List ℕ)) (bytes items shown : List ℕ) (r : Result Answer NoMemory) (before after : Taken) (s : Status)
    → shown ≡ items → IsInput bytes left items
    → IfOk r (λ a. IsReply shown (reply_of a)) → IfOk r (λ a. Ends (Unread (reply_of a) []) (Some []) before after s) → (IsErr r → (s ≡ OutOfMemory) × (after ≡ before))
    → Ends (Read IsReply bytes) left before after s
unfolding Read
ends-read IsReply left bytes items shown r before after s value input is ends none =
    let answered : IfOk r (λ a. IsReply bytes (reply_of a)) = subst (λ l. IfOk r (λ a. IsReply l (reply_of a))) (value ∙ input.is) is in
    ends-wider (λ o. IsReply bytes o.reply × (o.left ≡ [])) (Read IsReply bytes) (Some []) left before after s
    (λ o both. subst (λ b. ReadBy b (IsReply bytes) bytes o) (sym (le-leb (length bytes) 16777216 input.short)) both) input.rest
    (ends-given r (IsReply bytes) [] before after s answered ends none)

-- more bytes are there than an input may have
pub ends-long : (IsReply : List ℕ → Reply → Type 0) (left : Option (List ℕ)) (bytes : List ℕ) (before after : Taken) (s : Status) → IsTooLong bytes left
    → ((rest : List ℕ) → Ends (Unread (refusal 33 (codes "/")) rest) (Some rest) before after s) → Ends (Read IsReply bytes) left before after s
unfolding Read
ends-long IsReply left bytes before after s much ends =
    ends-wider (Unread (refusal 33 (codes "/")) (drop 16777217 bytes)) (Read IsReply bytes) (Some (drop 16777217 bytes)) left before after s
    (λ o is. subst (λ b. ReadBy b (IsReply bytes) bytes o) (sym (lt-leb (length bytes) 16777216 much.long)) is) much.rest (ends (drop 16777217 bytes))

-- ---- one answer to each input

pub read-short : (answer : List ℕ → Reply) (bytes taken : List ℕ) (left : Option (List ℕ)) → IsInput bytes left taken → read_by answer bytes ≡ record { reply = answer taken; left = [] }
unfolding read_by
read-short answer bytes taken left input =
    ap (λ b. cond b (one (answer bytes) []) (one (refusal 33 (codes "/")) (drop 16777217 bytes))) (le-leb (length bytes) 16777216 input.short) ∙ ap (λ l. one (answer l) []) (sym input.is)
  where
    one : Reply → List ℕ → Outcome
    one reply left = record { reply = reply; left = left }

pub read-long : (answer : List ℕ → Reply) (bytes : List ℕ) (left : Option (List ℕ)) → IsTooLong bytes left → read_by answer bytes ≡ record { reply = refusal 33 (codes "/"); left = drop 16777217 bytes }
unfolding read_by
read-long answer bytes left much =
    ap (λ b. cond b (one (answer bytes) []) (one (refusal 33 (codes "/")) (drop 16777217 bytes))) (lt-leb (length bytes) 16777216 much.long)
  where
    one : Reply → List ℕ → Outcome
    one reply left = record { reply = reply; left = left }

-- where each input has one answer, so has each outcome
pub read-one : (answer : List ℕ → Reply) (bytes : List ℕ) (o : Outcome) → Read (λ bytes reply. reply ≡ answer bytes) bytes o → o ≡ read_by answer bytes
unfolding Read read_by
read-one answer bytes o is = by_size (nat_le (length bytes) 16777216) is
  where
    by_size : (b : Bool) → ReadBy b (λ reply. reply ≡ answer bytes) bytes o
        → o ≡ cond b (record { reply = answer bytes; left = [] }) (record { reply = refusal 33 (codes "/"); left = drop 16777217 bytes })
    by_size true both = λ i. record { reply = both.0 i; left = both.1 i }
    by_size false is = is
