-- What a candidate that never leads asks for, and what a counted reply is followed by.
use Rattle.std.proofs.Common.{◌≡◌, ◌⊎◌, ◌≤◌, ℕ, Bool, true, false, cond, List, ◌∷◌, Option, Some, refl, sym, ap, subst, inl, inr, arith}
use Rattle.kube_objects.specs.declared.call.Reply.{Reply}
use Rattle.kube_objects.specs.declared.call.Reply.TheVariants.{Found, Done, Absent}
use Rattle.kube_objects.specs.declared.call.Request.{Request}
use Rattle.kube_objects.specs.declared.call.Request.TheVariants.{Get, Create, Update, PostStatus}
use Rattle.kube_objects.specs.declared.key.Key.{Key}
use Rattle.kube_objects.specs.Document.{Doc, is_controller}
use Rattle.kube_objects.specs.Elector.{Moment, Follow, Fails, Asks, Succeeds, is_blocked, updated, follow_get, not_done, follow_write, follow, leads, respected}
use Rattle.kube_objects.specs.Entry.{Entry, Identity, Call, CallKind, Fast, Sends, actor_of}
use Rattle.kube_objects.specs.Process.{open_as}
use Rattle.kube_objects.specs.Stored.{election, key_of}
use Rattle.kube_objects.specs.Own.{ReleasesByStop}
use Rattle.history.specs.History.{history}
use Rattle.history_laws.specs.Tails.{IsTail}
use Rattle.call_laws.proofs.Making.{Replied}
use Rattle.call_laws.proofs.Sending.{MadeFor, made_for, is_free}
use Rattle.calm_laws.proofs.Requests.{asks_in_turn}

-- ---- what follows a reply

abbrev pub IsWrite : Request → Type 0
IsWrite (Create key lease) = Unit {0}
IsWrite (Update key version lease) = Unit {0}
IsWrite _ = ⊥

abbrev asked_of : Follow → Request → Request
asked_of (Asks r) other = r
asked_of _ other = other

pub asks_same : (r s : Request) → Asks r ≡ Asks s → r ≡ s
asks_same r s is = ap (λ f. asked_of f r) is

pub fails_not : (r : Request) → Fails ≡ Asks r → ⊥
fails_not r is = cc

succeeds_not : (version : _) (r : Request) → Succeeds version ≡ Asks r → ⊥
succeeds_not version r is = cc

-- what is asked for after a reply is the election Lease, and a write is asked for after a Get only
pub record IsNext (request r : Request) : Type 0 where
  pub key : key_of r ≡ election
  pub written : IsWrite r → (key : Key) × (request ≡ Get key)

not_done_asks : (kind : CallKind) (request r : Request) → not_done kind ≡ Asks r → IsNext request r
not_done_asks Fast request r is =
    let same : Get election ≡ r = asks_same (Get election) r is in
    record { key = sym (ap key_of same); written = λ w. absurd (subst IsWrite (sym same) w) }
not_done_asks kind request r is = absurd (fails_not r is)

write_asks : (kind : CallKind) (request : Request) (reply : Reply) (r : Request) → follow_write kind reply ≡ Asks r → IsNext request r
write_asks kind request (Done version) r is = absurd (succeeds_not version r is)
write_asks kind request reply r is = not_done_asks kind request r is

get_asks : (q : Identity) (m : Moment) (seen : ℕ) (key : Key) (reply : Reply) (r : Request) → follow_get q m seen reply ≡ Asks r → IsNext (Get key) r
get_asks q m seen key Absent r is = record { key = sym (ap key_of (asks_same (Create election _) r is)); written = λ w. (key, refl) }
get_asks q m seen key (Found version lease) r is = by_test (is_blocked q m.now seen (respected m.respect m.seconds lease)) is
  where
    by_test : (b : Bool) → cond b Fails (Asks (Update election version (updated q m lease))) ≡ Asks r → IsNext (Get key) r
    by_test true is = absurd (fails_not r is)
    by_test false is = record { key = sym (ap key_of (asks_same (Update election version (updated q m lease)) r is)); written = λ w. (key, refl) }
get_asks q m seen key reply r is = absurd (fails_not r is)

pub next_is : (q : Identity) (m : Moment) (seen : ℕ) (kind : CallKind) (request : Request) (reply : Reply) (r : Request) → follow q m seen kind request reply ≡ Asks r → IsNext request r
next_is q m seen kind (Get key) reply r is = get_asks q m seen key reply r is
next_is q m seen kind (Create key lease) reply r is = write_asks kind (Create key lease) reply r is
next_is q m seen kind (Update key version lease) reply r is = write_asks kind (Update key version lease) reply r is
next_is q m seen kind (PostStatus name status at) reply r is = absurd (fails_not r is)

-- ---- where its request is from

-- its turn, or a counted reply
pub data Reason (doc : Doc) (k : ℕ) (q : Identity) (request : Request) (h : List Entry) : Type 0 where
  InTurn : (is : request ≡ Get election) → Reason doc k q request h
  AfterReply : (f : Replied doc k q request h) → Reason doc k q request h

pub reason_key : (doc : Doc) (k : ℕ) (q : Identity) (request : Request) (h : List Entry) → Reason doc k q request h → key_of request ≡ election
reason_key doc k q request h (InTurn is) = ap key_of is
reason_key doc k q request h (AfterReply f) = (next_is q _ _ f.waiting.kind f.waiting.request f.reply request f.follows).key

pub reason_of : (doc : Doc) → ReleasesByStop doc → (m : ℕ) (q : Identity) → is_controller doc q.process ≡ true → (x : Entry) (T : List Entry) (call : Call) (arrives : Option ℕ) → IsTail (x ∷ T) (history doc m) → x.actor ≡ actor_of q → x.fact ≡ Sends call arrives
    → leads q T ≡ false → open_as call.kind call ≡ Some call → Reason doc x.beat q call.request T × (3 ≤ x.step)
reason_of doc rules m q role x T call arrives at actor fact unled opens = by_step made.step_is
  where
    made : MadeFor doc q x.beat x.step call arrives T
    made = made_for doc rules m q x T call arrives at actor fact

    by_step : (x.step ≡ 1) ⊎ ((x.step ≡ 3) ⊎ (x.step ≡ 4)) → Reason doc x.beat q call.request T × (3 ≤ x.step)
    by_step (inr (inr four)) = (InTurn (asks_in_turn doc rules m x T q call arrives at actor fact four role unled), omega (arith, four))
    by_step (inr (inl three)) = (AfterReply (made.replied role three), omega (arith, three))
    by_step (inl one) = let free = is_free doc rules m q role x T call arrives at actor fact opens in absurd (omega (arith, free.step, one))
