-- What a kubelet's call answers, beside what the history says.
use Rattle.std.specs.Prelude.{◌≡◌, ℕ, ◌+◌, ◌||◌, nat_lt, Bool, true, false, List, ◌∷◌, Option, Some, None}
use Rattle.kube_objects.specs.declared.call.Ask.{Ask}
use Rattle.kube_objects.specs.declared.call.Reply.{Reply}
use Rattle.kube_objects.specs.Clocks.{local}
use Rattle.kube_objects.specs.Document.{Doc, call_timeout}
use Rattle.kube_objects.specs.Entry.{Entry, Identity, Call, Plain, Fact, ReleaseBegins, Starts, Sends, Delivers, Expires, entry}
use Rattle.kube_objects.specs.Kubelet.{has_round, is_post_call, next_request, round, round_timer, send_next}
use Rattle.kube_objects.specs.Newest.{has}
use Rattle.kube_objects.specs.Process.{begun, call_in}
use Rattle.kube_objects.specs.Turns.{expired, just_expired, with_reply}
use Rattle.kube_objects.specs.Wire.{next_call, send}
use Rattle.kubelet_node.specs.declared.kubelet.Kubelet.{Kubelet}
use Rattle.kubelet_node.specs.Stands.{CallStands, IsSettled}

-- next is h with the request sent, whose arrival the kubelet doesn't look at
pub record Asked (doc : Doc) (k step : ℕ) (q : Identity) (h next : List Entry) (Stands : List Entry → Type 0) (ask : Ask) : Type 0 where
  pub sent : next ≡ send doc k step q Plain ask.request h
  pub number : ask.number ≡ begun q h + 1
  pub stands : (arrives : Option ℕ) → Stands (entry k step q (Sends (next_call q k Plain ask.request h) arrives) ∷ h)

-- a request is sent, or next is h
abbrev pub Moved : Doc → (k step : ℕ) → Identity → (h next : List Entry) → (List Entry → Type 0) → Option Ask → Type 0
Moved doc k step q h next Stands None = (next ≡ h) × Stands h
Moved doc k step q h next Stands (Some ask) = Asked doc k step q h next Stands ask

-- ---- a turn

-- a whole turn
abbrev pub turned : Doc → ℕ → Identity → List Entry → List Entry
turned doc k q h = round doc k q (expired doc k q h)

-- a kubelet after the expiry of its turn; posted says whether a post has expired, whose round goes on
pub record Expired (doc : Doc) (k : ℕ) (q : Identity) (h : List Entry) (x : Kubelet) (posted : Bool) : Type 0 where
  pub call : CallStands doc q h x
  pub timer : x.timer.0 ≡ round_timer doc q h
  pub runs : has_round q h ≡ (posted || has (call_in q h))
  pub posts : is_post_call (just_expired q k h) ≡ posted
  pub settled : posted ≡ false → IsSettled q h

-- ---- a reply

-- the history with a counted reply and what the kubelet sends at once; h is that before the reply
abbrev pub followed : Doc → ℕ → Identity → Call → Reply → List Entry → List Entry
followed doc k q call reply h = send_next doc k q (next_request doc q k call.request reply) (with_reply k q call reply h)

-- ---- when a turn does anything

-- the least reading at which a call that waits has expired, or else at which the next round may begin
abbrev pub wake_from : Doc → Identity → ℕ → Option Call → ℕ
wake_from doc q timer None = timer
wake_from doc q timer (Some call) = local doc q.process call.sent + call_timeout doc q.process + 1

-- before this reading a turn adds nothing to the history, and from it on something
abbrev pub IsLeast : ℕ → ℕ → List Entry → List Entry → Type 0
IsLeast wake now h next = (nat_lt now wake ≡ true → next ≡ h) × (nat_lt now wake ≡ false → next ≡ h → ⊥)

-- ---- entries that a kubelet looks at, where they are its own

abbrev pub is_of_kubelet : Fact → Bool
is_of_kubelet Starts = true
is_of_kubelet (Sends call arrives) = true
is_of_kubelet (Delivers call reply counted) = true
is_of_kubelet (Expires call) = true
is_of_kubelet (ReleaseBegins at_deadline) = true
is_of_kubelet _ = false
