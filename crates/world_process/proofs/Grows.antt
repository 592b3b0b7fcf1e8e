-- The steps of a beat only add entries.
use Rattle.std.proofs.Common.{◌≡◌, ℕ, zero, suc, ◌+◌, ◌≤◌, ◌==◌, ◌&&◌, not, Bool, true, false, List, [], ◌∷◌, length, Option, Some, None, inl, inr, sym, subst, arith}
use Rattle.kube_objects.specs.InFlight.{is_due}
use Rattle.history.proofs.Due.{step_two-walks, step_three-walks, each, answer_due, deliver_due}
use Rattle.std.specs.Prelude.{if◌then◌else◌}
use Rattle.std.specs.Ordering.{nat_cmp}
use Rattle.std.specs.declared.cmp.Ordering.{Ordering}
use Rattle.std.specs.declared.cmp.Ordering.TheVariants.{Less, Equal, Greater}
use Rattle.kube_objects.specs.declared.call.Reply.{Reply}
use Rattle.kube_objects.specs.declared.script.Event as script
use Rattle.kube_objects.specs.declared.script.What.{What}
use Rattle.kube_objects.specs.declared.script.What.TheVariants as what
use Rattle.kube_objects.specs.Document.{Doc, is_controller, is_up_first, processes}
use Rattle.kube_objects.specs.Elector.{deadline, acts}
use Rattle.kube_objects.specs.Entry.{Entry, Identity, Call, Event, Delivers, entry, script_entry}
use Rattle.kube_objects.specs.Identities.{identity, is_by}
use Rattle.kube_objects.specs.Kubelet.{round_if, round}
use Rattle.kube_objects.specs.Newest.{only_if}
use Rattle.kube_objects.specs.Pauses.{is_paused}
use Rattle.kube_objects.specs.Process.{alive, begun, starts, is_send, call_in, counted, ended, is_late, release_begun, is_restart_due}
use Rattle.kube_objects.specs.Seen.{insert_once, insert_named, named, node_name, node_names}
use Rattle.kube_objects.specs.Stalls.{is_stalled}
use Rattle.kube_objects.specs.Stored.{write_of}
use Rattle.kube_objects.specs.Tick.{add, tick}
use Rattle.kube_objects.specs.Turns.{expire_as, expire_call, end_as, end_term, attempt_if, try}
use Rattle.kube_objects.specs.Wire.{Sent, Back, sent_of, back_of}
use Rattle.history.specs.Steps.{start_if_down, crash, stall, stop, effect, stamp, event_version, happens, happen_all, start_first, starts_below, first_starts, step_two, react_as, deliver_as, delivered, step_three, if_up, restart_if, restart, expire, finish, attempts, ticks_while, ticks, elector_turn, controller_turn, kubelet_turn, turn, turns}
use Rattle.history_laws.specs.Tails.{IsTail}
use Rattle.history_laws.proofs.Tailed.{tail_all, stop_as_adds, react_as_adds, expire_as_adds, end_as_adds}
use Rattle.history_laws.proofs.Ticks.{walk_tick}
use Rattle.world_process.specs.Plain.{IsFew}
use Rattle.world_process.proofs.Plainly.{added-more, starts-more}

pub record Grows (h g : List Entry) : Type 0 where
  pub calls : (q : Identity) → begun q h ≤ begun q g
  pub starts : (p : ℕ) → starts p h ≤ starts p g
  pub nodes : length (node_names h) ≤ length (node_names g)

-- one name more or none
inserted-by : {A : Type 0} (compare : A → A → Ordering) (x y : A) (ys : List A) (o : Ordering) → length ys ≤ length (insert_once compare x ys) → length (y ∷ ys) ≤ length (elim o as (λ o. List A) [ Less ↦ x ∷ y ∷ ys | Equal ↦ y ∷ ys | Greater ↦ y ∷ insert_once compare x ys ])
inserted-by compare x y ys Less more = omega arith
inserted-by compare x y ys Equal more = omega arith
inserted-by compare x y ys Greater more = omega (arith, more)

inserted-more : {A : Type 0} (compare : A → A → Ordering) (x : A) (ys : List A) → length ys ≤ length (insert_once compare x ys)
inserted-more compare x [] = omega arith
inserted-more compare x (y ∷ ys) = inserted-by compare x y ys (compare x y) (inserted-more compare x ys)

named-more : (o : Option ℕ) (ys : List ℕ) → length ys ≤ length (insert_named nat_cmp o ys)
named-more None ys = omega arith
named-more (Some x) ys = inserted-more nat_cmp x ys

pub nodes-more : (e : Entry) (h : List Entry) → length (node_names h) ≤ length (node_names (e ∷ h))
nodes-more e h = named-more (named node_name (write_of e.fact)) (node_names h)

pub grows-same : (h : List Entry) → Grows h h
grows-same h = record { calls = λ q. omega arith; starts = λ p. omega arith; nodes = omega arith }

pub grows-entry : (e : Entry) (h : List Entry) → Grows h (e ∷ h)
grows-entry e h = record { calls = λ q. added-more (is_send e.fact && is_by q e.actor) (begun q h); starts = λ p. starts-more p e h; nodes = nodes-more e h }

pub grows-on : (f g h : List Entry) → Grows f g → Grows g h → Grows f h
grows-on f g h a b = record { calls = λ q. omega (arith, a.calls q, b.calls q); starts = λ p. omega (arith, a.starts p, b.starts p); nodes = omega (arith, a.nodes, b.nodes) }

-- where the one is the beginning of the other
grows-tail : (h g : List Entry) → IsTail h g → Grows h g
grows-tail h [] at = subst (Grows h) at (grows-same h)
grows-tail h (e ∷ g) (inl is) = subst (Grows h) is (grows-same h)
grows-tail h (e ∷ g) (inr at) = grows-on h g (e ∷ g) (grows-tail h g at) (grows-entry e g)

pub few-before : (h g : List Entry) → Grows h g → IsFew g → IsFew h
few-before h g a few = record { calls = λ q. omega (arith, a.calls q, few.calls q); starts = λ p. omega (arith, a.starts p, few.starts p); nodes = omega (arith, a.nodes, few.nodes) }

grows-where : (b : Bool) (h g : List Entry) → Grows h g → Grows h (if b then g else h)
grows-where true h g more = more
grows-where false h g more = grows-same h

grows-unless : (b : Bool) (h g : List Entry) → Grows h g → Grows h (if b then h else g)
grows-unless true h g more = grows-same h
grows-unless false h g more = more

-- ---- step 1

grows-start_first : (p : ℕ) (b : Bool) (h : List Entry) → Grows h (start_first p b h)
grows-start_first p false h = grows-same h
grows-start_first p true h = grows-entry _ h

pub grows-starts_below : (doc : Doc) (n : ℕ) (h : List Entry) → Grows h (starts_below doc n h)
grows-starts_below doc zero h = grows-same h
grows-starts_below doc (suc p) h = grows-on h (starts_below doc p h) (starts_below doc (suc p) h) (grows-starts_below doc p h) (grows-start_first p (is_up_first doc p) (starts_below doc p h))

-- the starts below m are a part of those below n
pub grows-more_starts : (doc : Doc) (m n : ℕ) (h : List Entry) → Grows (starts_below doc m h) (starts_below doc (m + n) h)
grows-more_starts doc m zero h = subst (λ x. Grows (starts_below doc m h) (starts_below doc x h)) (sym (let e : m + 0 ≡ m = omega arith in e)) (grows-same (starts_below doc m h))
grows-more_starts doc m (suc n) h =
    subst (λ x. Grows (starts_below doc m h) (starts_below doc x h)) (let e : suc (m + n) ≡ m + suc n = omega arith in e)
    (grows-on (starts_below doc m h) (starts_below doc (m + n) h) (starts_below doc (suc (m + n)) h) (grows-more_starts doc m n h) (grows-start_first (m + n) (is_up_first doc (m + n)) (starts_below doc (m + n) h)))

pub grows-first_starts : (doc : Doc) (k : ℕ) (h : List Entry) → Grows h (first_starts doc k h)
grows-first_starts doc zero h = grows-starts_below doc (processes doc) h
grows-first_starts doc (suc k) h = grows-same h

grows-start_if_down : (k step p : ℕ) (up : Option ℕ) (h : List Entry) → Grows h (start_if_down k step p up h)
grows-start_if_down k step p None h = grows-entry _ h
grows-start_if_down k step p (Some i) h = grows-same h

grows-crash : (k p : ℕ) (up : Option ℕ) (h : List Entry) → Grows h (crash k p up h)
grows-crash k p None h = grows-same h
grows-crash k p (Some i) h = grows-entry _ h

grows-stop : (doc : Doc) (k p : ℕ) (up : Option ℕ) (before h : List Entry) → Grows h (stop doc k p up before h)
grows-stop doc k p None before h = grows-same h
grows-stop doc k p (Some i) before h = grows-tail h (stop doc k p (Some i) before h) (stop_as_adds doc.settings.rules.release doc k (identity p i) before h h (tail_all h))

grows-stall : (k p beats : ℕ) (up : Option ℕ) (h : List Entry) → Grows h (stall k p beats up h)
grows-stall k p beats None h = grows-same h
grows-stall k p beats (Some i) h = grows-entry _ h

grows-effect : (doc : Doc) (k : ℕ) (event : What) (before h : List Entry) → Grows h (effect doc k event before h)
grows-effect doc k (what.Rate id ppm) before h = grows-same h
grows-effect doc k (what.Delay id requests replies) before h = grows-same h
grows-effect doc k (what.Loss id requests replies) before h = grows-same h
grows-effect doc k (what.Crash id) before h = grows-crash k id.0 (alive id.0 before) h
grows-effect doc k (what.Start id) before h = grows-start_if_down k 1 id.0 (alive id.0 before) h
grows-effect doc k (what.Stop id) before h = grows-stop doc k id.0 (only_if (not (is_paused doc id.0 k)) (alive id.0 before)) before h
grows-effect doc k (what.Pause id beats) before h = grows-stall k id.0 beats (alive id.0 before) h
grows-effect doc k (what.Watch id on) before h = grows-same h
grows-effect doc k (what.Ready id status) before h = grows-same h
grows-effect doc k (what.Stall beats) before h = grows-same h
grows-effect doc k (what.Put key object) before h = grows-same h
grows-effect doc k (what.Remove key) before h = grows-same h

pub grows-happens : (doc : Doc) (k : ℕ) (event : What) (h : List Entry) → Grows h (happens doc k event h)
grows-happens doc k event h =
    let g = script_entry k 1 (Event (stamp doc k event) (event_version event h)) ∷ h in
    grows-on h g (happens doc k event h) (grows-entry _ h) (grows-effect doc k event h g)

pub grows-happen_all : (doc : Doc) (k : ℕ) (events : List script.Event) (h : List Entry) → Grows h (happen_all doc k events h)
grows-happen_all doc k [] h = grows-same h
grows-happen_all doc k (e ∷ es) h =
    let g = (if (e.beat.0 == k) then happens doc k e.what h else h) in
    grows-on h g (happen_all doc k es g) (grows-where (e.beat.0 == k) h _ (grows-happens doc k e.what h)) (grows-happen_all doc k es g)

-- ---- steps 2 and 3

pub grows-each : (f : Entry → List Entry → List Entry) → ((e : Entry) (h : List Entry) → Grows h (f e h)) → (l h : List Entry) → Grows h (each f l h)
grows-each f more [] h = grows-same h
grows-each f more (e ∷ l) h = grows-on h (each f l h) (f e (each f l h)) (grows-each f more l h) (more e (each f l h))

grows-answer_due : (doc : Doc) (k : ℕ) (s : Option Sent) (h : List Entry) → Grows h (answer_due doc k s h)
grows-answer_due doc k None h = grows-same h
grows-answer_due doc k (Some s) h = grows-where (is_due k s.arrives) h _ (grows-entry _ h)

pub grows-step_two : (doc : Doc) (k : ℕ) (h : List Entry) → Grows h (step_two doc k h)
grows-step_two doc k h = subst (Grows h) (sym (step_two-walks doc k h)) (grows-each (λ e. answer_due doc k (sent_of e.actor e.fact)) (λ e h. grows-answer_due doc k (sent_of e.actor e.fact) h) h h)

grows-react_as : (doc : Doc) (k : ℕ) (q : Identity) (call : Call) (reply : Reply) (b : Bool) (h : List Entry) → Grows h (react_as doc k q call reply b h)
grows-react_as doc k q call reply b h = grows-tail h (react_as doc k q call reply b h) (react_as_adds doc k q call reply b h h (tail_all h))

grows-deliver_as : (doc : Doc) (k : ℕ) (q : Identity) (call : Call) (reply : Reply) (waiting : Option Call) (h : List Entry) → Grows h (deliver_as doc k q call reply waiting h)
grows-deliver_as doc k q call reply None h = grows-entry _ h
grows-deliver_as doc k q call reply (Some waiting) h =
    let g = entry k 3 q (Delivers waiting reply true) ∷ h in
    grows-on h g (react_as doc k q waiting reply (is_controller doc q.process) g) (grows-entry _ h) (grows-react_as doc k q waiting reply (is_controller doc q.process) g)

pub grows-delivered : (doc : Doc) (k : ℕ) (b : Back) (h : List Entry) → Grows h (delivered doc k b h)
grows-delivered doc k b h = grows-deliver_as doc k b.who b.call b.reply (counted doc b.who k b.call.number h) h

grows-deliver_due : (doc : Doc) (k : ℕ) (b : Option Back) (h : List Entry) → Grows h (deliver_due doc k b h)
grows-deliver_due doc k None h = grows-same h
grows-deliver_due doc k (Some b) h = grows-where (is_due k b.comes) h _ (grows-delivered doc k b h)

pub grows-step_three : (doc : Doc) (k : ℕ) (h : List Entry) → Grows h (step_three doc k h)
grows-step_three doc k h = subst (Grows h) (sym (step_three-walks doc k h)) (grows-each (λ e. deliver_due doc k (back_of e.actor e.fact)) (λ e h. grows-deliver_due doc k (back_of e.actor e.fact) h) h h)

-- ---- step 4

grows-restart_if : (doc : Doc) (k p : ℕ) (up : Option ℕ) (h : List Entry) → Grows h (restart_if doc k p up h)
grows-restart_if doc k p None h = grows-where (is_restart_due doc p k (ended doc p h)) h _ (grows-entry _ h)
grows-restart_if doc k p (Some i) h = grows-same h

pub grows-expire_call : (doc : Doc) (k : ℕ) (q : Identity) (call : Option Call) (h : List Entry) → Grows h (expire_call doc k q call h)
grows-expire_call doc k q None h = grows-same h
grows-expire_call doc k q (Some call) h =
    let g = expire_as doc k q call (release_begun doc.settings.rules.release call.kind) h in
    grows-where (is_late doc q k call) h g (grows-tail h g (expire_as_adds doc k q call (release_begun doc.settings.rules.release call.kind) h h (tail_all h)))

grows-end_term : (doc : Doc) (k : ℕ) (q : Identity) (at : Option ℕ) (h : List Entry) → Grows h (end_term doc k q at h)
grows-end_term doc k q None h = grows-same h
grows-end_term doc k q (Some at) h =
    let g = end_as doc.settings.rules.release doc k q h in
    grows-unless _ h g (grows-tail h g (end_as_adds doc.settings.rules.release doc k q h h (tail_all h)))

grows-attempt_if : (doc : Doc) (k : ℕ) (q : Identity) (a b : Bool) (h : List Entry) → Grows h (attempt_if doc k q a b h)
grows-attempt_if doc k q true b h = grows-entry _ h
grows-attempt_if doc k q false true h = grows-entry _ h
grows-attempt_if doc k q false false h = grows-same h

grows-tick : (doc : Doc) (k : ℕ) (q : Identity) (h : List Entry) → Grows h (tick doc k q h)
grows-tick doc k q h = walk_tick doc k q (Grows h) (λ t g made grown. grows-on h g (add k q t g) grown (grows-entry _ g)) h (grows-same h)

grows-if_up : (p : ℕ) (f : Identity → List Entry → List Entry) → ((q : Identity) (h : List Entry) → Grows h (f q h)) → (up : Option ℕ) (h : List Entry) → Grows h (if_up p f up h)
grows-if_up p f more None h = grows-same h
grows-if_up p f more (Some i) h = more (identity p i) h

pub grows-restart : (doc : Doc) (k p : ℕ) (h : List Entry) → Grows h (restart doc k p h)
grows-restart doc k p h = grows-restart_if doc k p (alive p h) h

pub grows-expire : (doc : Doc) (k p : ℕ) (h : List Entry) → Grows h (expire doc k p h)
grows-expire doc k p h = grows-if_up p (λ q T. expire_call doc k q (call_in q T) T) (λ q T. grows-expire_call doc k q (call_in q T) T) (alive p h) h

pub grows-finish : (doc : Doc) (k p : ℕ) (h : List Entry) → Grows h (finish doc k p h)
grows-finish doc k p h = grows-if_up p (λ q T. end_term doc k q (deadline doc q T) T) (λ q T. grows-end_term doc k q (deadline doc q T) T) (alive p h) h

pub grows-try : (doc : Doc) (k : ℕ) (q : Identity) (h : List Entry) → Grows h (try doc k q h)
grows-try doc k q h = grows-attempt_if doc k q _ _ h

grows-attempts : (doc : Doc) (k p : ℕ) (h : List Entry) → Grows h (attempts doc k p h)
grows-attempts doc k p h = grows-if_up p (try doc k) (grows-try doc k) (alive p h) h

grows-ticks_while : (b : Bool) (doc : Doc) (k p : ℕ) (h : List Entry) → Grows h (ticks_while b doc k p h)
grows-ticks_while true doc k p h = grows-same h
grows-ticks_while false doc k p h = grows-if_up p (λ q T. (if (acts doc q k T) then tick doc k q T else T)) (λ q T. grows-where (acts doc q k T) T _ (grows-tick doc k q T)) (alive p h) h

pub grows-ticks : (doc : Doc) (k p : ℕ) (h : List Entry) → Grows h (ticks doc k p h)
grows-ticks doc k p h = grows-ticks_while (is_stalled doc k) doc k p h

pub grows-elector_turn : (doc : Doc) (k p : ℕ) (h : List Entry) → Grows h (elector_turn doc k p h)
grows-elector_turn doc k p h =
    let r = restart doc k p h in
    let e = expire doc k p r in
    let f = finish doc k p e in
    grows-on h r _ (grows-restart doc k p h) (grows-on r e _ (grows-expire doc k p r) (grows-on e f _ (grows-finish doc k p e) (grows-attempts doc k p f)))

pub grows-controller_turn : (doc : Doc) (k p : ℕ) (h : List Entry) → Grows h (controller_turn doc k p h)
grows-controller_turn doc k p h = grows-on h (elector_turn doc k p h) _ (grows-elector_turn doc k p h) (grows-ticks doc k p (elector_turn doc k p h))

grows-round_if : (doc : Doc) (k : ℕ) (q : Identity) (posted due : Bool) (h : List Entry) → Grows h (round_if doc k q posted due h)
grows-round_if doc k q true due h = grows-entry _ h
grows-round_if doc k q false true h = grows-entry _ h
grows-round_if doc k q false false h = grows-same h

grows-round : (doc : Doc) (k : ℕ) (q : Identity) (h : List Entry) → Grows h (round doc k q h)
grows-round doc k q h = grows-round_if doc k q _ _ h

pub grows-kubelet_turn : (doc : Doc) (k p : ℕ) (h : List Entry) → Grows h (kubelet_turn doc k p h)
grows-kubelet_turn doc k p h =
    let e = expire doc k p h in
    grows-on h e _ (grows-expire doc k p h) (grows-if_up p (round doc k) (grows-round doc k) (alive p e) e)

grows-turn_as : (doc : Doc) (k p : ℕ) (b : Bool) (h : List Entry) → Grows h (if b then controller_turn doc k p h else kubelet_turn doc k p h)
grows-turn_as doc k p true h = grows-controller_turn doc k p h
grows-turn_as doc k p false h = grows-kubelet_turn doc k p h

pub grows-turn : (doc : Doc) (k p : ℕ) (h : List Entry) → Grows h (turn doc k p h)
grows-turn doc k p h = grows-unless (is_paused doc p k) h _ (grows-turn_as doc k p (is_controller doc p) h)

pub grows-turns : (doc : Doc) (k n : ℕ) (h : List Entry) → Grows h (turns doc k n h)
grows-turns doc k zero h = grows-same h
grows-turns doc k (suc p) h = grows-on h (turns doc k p h) _ (grows-turns doc k p h) (grows-turn doc k p (turns doc k p h))

-- the turns below m are a part of those below n
pub grows-more_turns : (doc : Doc) (k m n : ℕ) (h : List Entry) → Grows (turns doc k m h) (turns doc k (m + n) h)
grows-more_turns doc k m zero h = subst (λ x. Grows (turns doc k m h) (turns doc k x h)) (sym (let e : m + 0 ≡ m = omega arith in e)) (grows-same (turns doc k m h))
grows-more_turns doc k m (suc n) h =
    subst (λ x. Grows (turns doc k m h) (turns doc k x h)) (let e : suc (m + n) ≡ m + suc n = omega arith in e)
    (grows-on (turns doc k m h) (turns doc k (m + n) h) (turns doc k (suc (m + n)) h) (grows-more_turns doc k m n h) (grows-turn doc k (m + n) (turns doc k (m + n) h)))

-- what a turn adds after the restart
pub grows-after_restart : (doc : Doc) (k p : ℕ) (h : List Entry) → Grows (restart doc k p h) (elector_turn doc k p h)
grows-after_restart doc k p h =
    let r = restart doc k p h in
    let e = expire doc k p r in
    let f = finish doc k p e in
    grows-on r e _ (grows-expire doc k p r) (grows-on e f _ (grows-finish doc k p e) (grows-attempts doc k p f))
