-- The wire stands for a history within a beat.
use Rattle.std.specs.Prelude.{◌≡◌, ℕ, ◌<◌, ◌≤◌, ◌==◌, nat_lt, Bool, true, false, cond, List, [], length, map, Option, Some, None, slice_get}
use Rattle.kube_base.specs.declared.numbers.Beat.{Beat}
use Rattle.kube_objects.specs.declared.script.What.TheVariants.{Delay, Loss}
use Rattle.kube_objects.specs.Entry.{Entry, Fact, Event, Sends, Answers}
use Rattle.kube_objects.specs.InFlight.{requests_due, replies_due}
use Rattle.kube_objects.specs.Newest.{count}
use Rattle.kube_objects.specs.Wire.{Sent, Back, request_delay, reply_delay, loses_requests, loses_replies}
use Rattle.wire_calls.specs.InFlight.{pending, IsLive}
use Rattle.wire_calls.specs.declared.link.Link.{Link}
use Rattle.wire_calls.specs.declared.message.Sent as code_sent
use Rattle.wire_calls.specs.declared.message.Back as code_back
use Rattle.wire_calls.specs.declared.wire.Wire.{Wire}

-- ---- messages as the code keeps them

abbrev pub as_sent : Sent → code_sent.Sent
as_sent s =
    record { who = record { 0 = s.who.process }; incarnation = s.who.incarnation; number = s.call.number; request = s.call.request }

abbrev pub as_back : Back → code_back.Back
as_back b = record { who = record { 0 = b.who.process }; incarnation = b.who.incarnation; number = b.call.number; reply = b.reply }

abbrev pub next_sent : Option Sent → Option code_sent.Sent
next_sent None = None
next_sent (Some s) = Some (as_sent s)

abbrev pub next_back : Option Back → Option code_back.Back
next_back None = None
next_back (Some b) = Some (as_back b)

-- ---- delays and losses

abbrev pub first_link : Link
first_link = record { request_delay = 1; reply_delay = 1; loses_requests = false; loses_replies = false }

-- a process beyond those of the wire has the first ones
abbrev pub or_first : Option Link → Link
or_first None = first_link
or_first (Some link) = link

abbrev pub link_at : List Link → ℕ → Link
link_at links p = or_first (slice_get links p)

-- the delays and losses in force
abbrev pub link_in : ℕ → List Entry → Link
link_in p h =
    record {
      request_delay = request_delay p h;
      reply_delay = reply_delay p h;
      loses_requests = loses_requests p h;
      loses_replies = loses_replies p h;
    }

-- ---- the relation

-- a delay is 1 to 6,000 beats
abbrev pub IsDelay : ℕ → Type 0
IsDelay n = (1 ≤ n) × (n ≤ 6000)

-- one way: what is in flight, as messages, at beat k and after it
pub record InOrder {S T : Type 0} (as_kept : S → T) (k : ℕ) (due : List S) (later : ℕ → List S) (kept : ℕ → List T) : Type 0 where
  pub before : (j : ℕ) → j < k → kept j ≡ []
  pub present : kept k ≡ map as_kept due
  pub after : (j : ℕ) → k < j → kept j ≡ map as_kept (later j)

-- arriving and coming are what is still to arrive at beat k
pub record WireStands (processes k : ℕ) (arriving : List Sent) (coming : List Back) (h : List Entry) (w : Wire) : Type 0 where
  pub count : length w.links.items ≡ processes
  pub links : (p : ℕ) → link_at w.links.items p ≡ link_in p h
  pub requests : InOrder as_sent k arriving (λ j. requests_due j h) (pending w.requests)
  pub replies : InOrder as_back k coming (λ j. replies_due j h) (pending w.replies)
  pub live_requests : IsLive w.requests
  pub live_replies : IsLive w.replies
  pub delays : (p : ℕ) → IsDelay (request_delay p h) × IsDelay (reply_delay p h)

-- ---- the next beat

-- what arrives at a beat, as it is seen within beat k
abbrev pub at_beat : {S : Type 0} → ℕ → List S → (ℕ → List S) → ℕ → List S
at_beat k due later j = cond (j == k) due (cond (nat_lt k j) (later j) [])

-- nothing is in flight that arrives at a beat
abbrev pub IsQuiet : ℕ → List Sent → List Back → List Entry → ℕ → Type 0
IsQuiet k arriving coming h j = (at_beat k arriving (λ i. requests_due i h) j ≡ []) × (at_beat k coming (λ i. replies_due i h) j ≡ [])

-- the least beat at which something in flight arrives
abbrev pub NextIs : ℕ → List Sent → List Back → List Entry → Option Beat → Type 0
NextIs k arriving coming h None = (j : ℕ) → IsQuiet k arriving coming h j
NextIs k arriving coming h (Some beat) = (IsQuiet k arriving coming h beat.0 → ⊥) × ((j : ℕ) → j < beat.0 → IsQuiet k arriving coming h j)

-- ---- what the wire doesn't look at

-- whether a fact sends a message, or changes how messages travel
abbrev pub is_of_wire : Fact → Bool
is_of_wire (Event (Delay id requests replies) version) = true
is_of_wire (Event (Loss id requests replies) version) = true
is_of_wire (Sends call arrives) = true
is_of_wire (Answers call reply comes written) = true
is_of_wire _ = false

-- how many entries are of that kind
abbrev pub wire_entries : List Entry → ℕ
wire_entries = count (λ e. is_of_wire e.fact)

-- ---- measures

-- how many requests are in flight that arrive at a beat
abbrev pub requests_at : Wire → ℕ → ℕ
requests_at w j = length (pending w.requests j)

-- how many replies
abbrev pub replies_at : Wire → ℕ → ℕ
replies_at w j = length (pending w.replies j)
