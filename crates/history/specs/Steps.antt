-- The four steps of a beat. Each adds its entries to the history before it. Source: profile.
use Rattle.std.specs.Prelude.{ℕ, zero, suc, ◌+◌, ◌==◌, if◌then◌else◌, not, Bool, true, false, List, [], ◌∷◌, Option, Some, None}
use Rattle.kube_base.specs.declared.numbers.Version.{Version}
use Rattle.kube_objects.specs.declared.call.Reply.{Reply}
use Rattle.kube_objects.specs.declared.call.Request.{Request}
use Rattle.kube_objects.specs.declared.rules.ReleaseRule.{ReleaseRule}
use Rattle.kube_objects.specs.declared.rules.ReleaseRule.TheVariants as releases
use Rattle.kube_objects.specs.declared.script.Event.{Event}
use Rattle.kube_objects.specs.declared.script.What.{What}
use Rattle.kube_objects.specs.declared.script.What.TheVariants as what
use Rattle.kube_objects.specs.Answers.{answer, written}
use Rattle.kube_objects.specs.Clocks.{store_wall, whole_second}
use Rattle.kube_objects.specs.Document.{Doc, processes, is_controller, is_up_first}
use Rattle.kube_objects.specs.Elector.{follow_on, leads, deadline, release, acts}
use Rattle.kube_objects.specs.Entry.{Entry, Identity, Call, Release, Event as Happens, Starts, Crashes, Stops, ReleaseStops, Stalls}
use Rattle.kube_objects.specs.Entry.{Answers, Delivers, entry, script_entry}
use Rattle.kube_objects.specs.Identities.{identity}
use Rattle.kube_objects.specs.InFlight.{requests_due, replies_due}
use Rattle.kube_objects.specs.Kubelet.{next_request, send_next, round}
use Rattle.kube_objects.specs.Newest.{when, only_if, has}
use Rattle.kube_objects.specs.Pauses.{is_paused}
use Rattle.kube_objects.specs.Process.{alive, starts, is_releasing, counted, release_begun, ended, is_restart_due}
use Rattle.kube_objects.specs.Releases.{begin_release, react_in_release}
use Rattle.kube_objects.specs.Stalls.{is_stalled}
use Rattle.kube_objects.specs.Stamps.{stamped}
use Rattle.kube_objects.specs.Stored.{stored, next_version}
use Rattle.kube_objects.specs.Tick.{tick}
use Rattle.kube_objects.specs.Turns.{react, end_term, expired, try, with_reply}
use Rattle.kube_objects.specs.Wire.{reply_arrival, send, Sent, Back}

-- ---- step 1: starts at beat 0, and the script's events

abbrev pub start : ℕ → ℕ → ℕ → List Entry → List Entry
start k step p h = entry k step (identity p (starts p h + 1)) Starts ∷ h

abbrev pub start_first : ℕ → Bool → List Entry → List Entry
start_first p false h = h
start_first p true h = start 0 1 p h

-- the processes below n that are up at first start
abbrev pub starts_below : Doc → ℕ → List Entry → List Entry
starts_below doc zero h = h
starts_below doc (suc p) h = start_first p (is_up_first doc p) (starts_below doc p h)

abbrev pub first_starts : Doc → ℕ → List Entry → List Entry
first_starts doc zero h = starts_below doc (processes doc) h
first_starts doc (suc k) h = h

-- up says in which incarnation the process is up before
abbrev pub start_if_down : ℕ → ℕ → ℕ → Option ℕ → List Entry → List Entry
start_if_down k step p None h = start k step p h
start_if_down k step p (Some i) h = h

abbrev pub crash : ℕ → ℕ → Option ℕ → List Entry → List Entry
crash k p None h = h
crash k p (Some i) h = entry k 1 (identity p i) Crashes ∷ h

abbrev pub released : Doc → ℕ → Identity → Option Request → List Entry → List Entry
released doc k q None h = h
released doc k q (Some request) h = send doc k 1 q Release request h

-- led says whether the controller leads before
abbrev pub stop_at_once : Doc → ℕ → Identity → Bool → List Entry → List Entry
stop_at_once doc k q true h = begin_release doc k 1 q false (entry k 1 q ReleaseStops ∷ h)
stop_at_once doc k q false h = entry k 1 q Stops ∷ h

-- a release goes on that runs already
abbrev pub stop_releasing : Doc → ℕ → Identity → (releasing led : Bool) → List Entry → List Entry
stop_releasing doc k q true led h = entry k 1 q ReleaseStops ∷ h
stop_releasing doc k q false led h = stop_at_once doc k q led h

-- a leader that is stopped sends one update, or begins a release; before is the history before the event
abbrev pub stop_as : ReleaseRule → Doc → ℕ → Identity → List Entry → List Entry → List Entry
stop_as releases.Stop doc k q before h = released doc k q (release doc q k before) (entry k 1 q Stops ∷ h)
stop_as _ doc k q before h = stop_releasing doc k q (is_releasing q before) (leads q before) h

abbrev pub stop : Doc → ℕ → ℕ → Option ℕ → List Entry → List Entry → List Entry
stop doc k p None before h = h
stop doc k p (Some i) before h = stop_as doc.settings.rules.release doc k (identity p i) before h

abbrev pub stall : ℕ → ℕ → ℕ → Option ℕ → List Entry → List Entry
stall k p beats None h = h
stall k p beats (Some i) h = entry k 1 (identity p i) (Stalls beats) ∷ h

-- what an event causes; before is the history before it. A process that is paused can't be stopped
abbrev pub effect : Doc → ℕ → What → List Entry → List Entry → List Entry
effect doc k (what.Crash id) before h = crash k id.0 (alive id.0 before) h
effect doc k (what.Start id) before h = start_if_down k 1 id.0 (alive id.0 before) h
effect doc k (what.Stop id) before h = stop doc k id.0 (only_if (not (is_paused doc id.0 k)) (alive id.0 before)) before h
effect doc k (what.Pause id beats) before h = stall k id.0 beats (alive id.0 before) h
effect doc k _ before h = h

-- a put as it is stored at a beat
abbrev pub stamp : Doc → ℕ → What → What
stamp doc k (what.Put key object) = what.Put key (stamped (whole_second (store_wall doc k)) object)
stamp doc k event = event

-- the version that an event writes: a put writes, and a remove where the key is stored
abbrev pub event_version : What → List Entry → Option Version
event_version (what.Put key object) h = Some (next_version h)
event_version (what.Remove key) h = when (has (stored key h)) (next_version h)
event_version _ h = None

abbrev pub happens : Doc → ℕ → What → List Entry → List Entry
happens doc k event h = effect doc k event h (script_entry k 1 (Happens (stamp doc k event) (event_version event h)) ∷ h)

-- the events of a beat, in order
abbrev pub happen_all : Doc → ℕ → List Event → List Entry → List Entry
happen_all doc k [] h = h
happen_all doc k (e ∷ es) h = happen_all doc k es (if e.beat.0 == k then happens doc k e.what h else h)

abbrev pub step_one : Doc → ℕ → List Entry → List Entry
step_one doc k h = happen_all doc k doc.events (first_starts doc k h)

-- ---- step 2: requests that arrive are answered, in the order of their sending; none arrives in a stall

abbrev pub answered : Doc → ℕ → Sent → List Entry → List Entry
answered doc k s h = entry k 2 s.who (Answers s.call (answer s.call.request h) (reply_arrival doc s.who.process k h) (written s.call.request h)) ∷ h

-- one after the other
abbrev pub answer_all : Doc → ℕ → List Sent → List Entry → List Entry
answer_all doc k [] h = h
answer_all doc k (s ∷ ss) h = answer_all doc k ss (answered doc k s h)

abbrev pub step_two : Doc → ℕ → List Entry → List Entry
step_two doc k h = answer_all doc k (requests_due k h) h

-- ---- step 3: replies that arrive are delivered, in the order of their answering; none arrives in a pause

-- what a kubelet sends next
abbrev pub kubelet_react : Doc → ℕ → Identity → Call → Reply → List Entry → List Entry
kubelet_react doc k q call reply h = send_next doc k q (next_request doc q k call.request reply) h

-- what one to a controller causes, by whether the call is of a release
abbrev pub elector_react : Doc → ℕ → Identity → Call → Reply → Option ℕ → List Entry → List Entry
elector_react doc k q call reply None h = react doc k q (leads q h) (follow_on doc q k call.kind call.request reply h) h
elector_react doc k q call reply (Some begun) h = react_in_release doc k q call.kind reply h

-- what a counted reply causes; h has it on top
abbrev pub react_as : Doc → ℕ → Identity → Call → Reply → Bool → List Entry → List Entry
react_as doc k q call reply true h = elector_react doc k q call reply (release_begun doc.settings.rules.release call.kind) h
react_as doc k q call reply false h = kubelet_react doc k q call reply h

-- a reply counts for the call that waits
abbrev pub deliver_as : Doc → ℕ → Identity → Call → Reply → Option Call → List Entry → List Entry
deliver_as doc k q call reply None h = entry k 3 q (Delivers call reply false) ∷ h
deliver_as doc k q call reply (Some waiting) h = react_as doc k q waiting reply (is_controller doc q.process) (with_reply k q waiting reply h)

abbrev pub delivered : Doc → ℕ → Back → List Entry → List Entry
delivered doc k b h = deliver_as doc k b.who b.call b.reply (counted doc b.who k b.call.number h) h

abbrev pub deliver_all : Doc → ℕ → List Back → List Entry → List Entry
deliver_all doc k [] h = h
deliver_all doc k (b ∷ bs) h = deliver_all doc k bs (delivered doc k b h)

abbrev pub step_three : Doc → ℕ → List Entry → List Entry
step_three doc k h = deliver_all doc k (replies_due k h) h

-- ---- step 4: each process has its turn, in order

-- where the process is up
abbrev pub if_up : ℕ → (Identity → List Entry → List Entry) → Option ℕ → List Entry → List Entry
if_up p f None h = h
if_up p f (Some i) h = f (identity p i) h

abbrev pub restart_if : Doc → ℕ → ℕ → Option ℕ → List Entry → List Entry
restart_if doc k p (Some i) h = h
restart_if doc k p None h = if is_restart_due doc p k (ended doc p h) then start k 4 p h else h

-- a controller that is down starts again once its clock has reached its restart
abbrev pub restart : Doc → ℕ → ℕ → List Entry → List Entry
restart doc k p h = restart_if doc k p (alive p h) h

-- a call expires whose timeout is over, or the release ends that it is of
abbrev pub expire : Doc → ℕ → ℕ → List Entry → List Entry
expire doc k p h = if_up p (λ q T. expired doc k q T) (alive p h) h

-- a leader ends, or begins to release its Lease, that has reached its deadline
abbrev pub finish : Doc → ℕ → ℕ → List Entry → List Entry
finish doc k p h = if_up p (λ q T. end_term doc k q (deadline doc q T) T) (alive p h) h

abbrev pub attempts : Doc → ℕ → ℕ → List Entry → List Entry
attempts doc k p h = if_up p (try doc k) (alive p h) h

-- the tick of who acts as the leader
abbrev pub ticks_while : Bool → Doc → ℕ → ℕ → List Entry → List Entry
ticks_while true doc k p h = h
ticks_while false doc k p h = if_up p (λ q T. if acts doc q k T then tick doc k q T else T) (alive p h) h

-- there is none while the store stands still
abbrev pub ticks : Doc → ℕ → ℕ → List Entry → List Entry
ticks doc k p h = ticks_while (is_stalled doc k) doc k p h

-- a controller's turn but for its tick
abbrev pub elector_turn : Doc → ℕ → ℕ → List Entry → List Entry
elector_turn doc k p h = attempts doc k p (finish doc k p (expire doc k p (restart doc k p h)))

abbrev pub controller_turn : Doc → ℕ → ℕ → List Entry → List Entry
controller_turn doc k p h = ticks doc k p (elector_turn doc k p h)

-- a round begins where it is time
abbrev pub rounds : Doc → ℕ → ℕ → List Entry → List Entry
rounds doc k p h = if_up p (round doc k) (alive p h) h

abbrev pub kubelet_turn : Doc → ℕ → ℕ → List Entry → List Entry
kubelet_turn doc k p h = rounds doc k p (expire doc k p h)

abbrev pub unpaused_turn : Doc → ℕ → ℕ → List Entry → List Entry
unpaused_turn doc k p h = if is_controller doc p then controller_turn doc k p h else kubelet_turn doc k p h

-- a process that is paused has no turn
abbrev pub turn : Doc → ℕ → ℕ → List Entry → List Entry
turn doc k p h = if is_paused doc p k then h else unpaused_turn doc k p h

-- the turns of the processes below p
abbrev pub turns : Doc → ℕ → ℕ → List Entry → List Entry
turns doc k zero h = h
turns doc k (suc p) h = turn doc k p (turns doc k p h)
