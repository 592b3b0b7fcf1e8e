-- Every process that starts is one of the document's.
use Rattle.std.proofs.Common.{ℕ, zero, suc, ◌<◌, ◌≤◌, ◌==◌, ◌&&◌, not, nat_lt, Bool, true, false, List, [], ◌∷◌, Option, Some, None, sym, subst, arith}
use Rattle.kube_objects.specs.InFlight.{is_due}
use Rattle.history.proofs.Due.{step_two-walks, step_three-walks, each, answer_due, deliver_due}
use Rattle.std.specs.Prelude.{if◌then◌else◌}
use Rattle.kube_objects.specs.Tick.{tick}
use Rattle.kube_objects.specs.declared.call.Reply.{Reply}
use Rattle.kube_objects.specs.declared.call.Request.{Request}
use Rattle.kube_objects.specs.declared.deed.Actor.{Actor}
use Rattle.kube_objects.specs.declared.key.Key.{Key}
use Rattle.kube_objects.specs.declared.object.Object.{Object}
use Rattle.kube_objects.specs.declared.rules.ReleaseRule.{ReleaseRule}
use Rattle.kube_objects.specs.declared.rules.ReleaseRule.TheVariants as rules
use Rattle.kube_objects.specs.declared.script.Event.{Event}
use Rattle.kube_objects.specs.declared.script.What.{What}
use Rattle.kube_objects.specs.declared.script.What.TheVariants as what
use Rattle.kube_objects.specs.Clocks.{local, wall, store_wall, whole_second}
use Rattle.kube_objects.specs.Document.{Doc, processes, is_controller, is_up_first}
use Rattle.kube_objects.specs.Elector.{Follow, Fails, Asks, Succeeds, follow_on, leads, deadline, timer, shown, release_from, release, acts, acts_by, acts_on}
use Rattle.kube_objects.specs.Entry.{Entry, Identity, Call, CallKind, Plain, Fast, Release, Look, Emptying, Fact, First, Event as Happens, Starts, Stops, ReleaseBegins, ReleaseStops, Delivers, entry, script_entry}
use Rattle.kube_objects.specs.Identities.{identity}
use Rattle.kube_objects.specs.Kubelet.{next_request, send_next, is_post_call, round_if, is_round_due, round}
use Rattle.kube_objects.specs.Newest.{only_if, has}
use Rattle.history.proofs.Ticks.{ticks_keep}
use Rattle.kube_objects.specs.Pauses.{is_paused}
use Rattle.kube_objects.specs.Process.{alive, call_in, counted, ended, is_late, is_releasing, is_restart_due, release_begun}
use Rattle.kube_objects.specs.Releases.{and_end, end_release, first_call, send_first, begin_release, is_mine, after_look, empty_or_end, react_in_release}
use Rattle.kube_objects.specs.Stamps.{stamped}
use Rattle.kube_objects.specs.Turns.{react, expire_as, expire_call, end_released, end_as, end_term, just_expired, is_fast_call, attempt_if, try}
use Rattle.kube_objects.specs.Wire.{Sent, Back, sent_of, back_of}
use Rattle.kube_objects.specs.Writable.{IsOneOf}
use Rattle.history.specs.History.{put_all, three_steps, history}
use Rattle.history.specs.Steps.{start_first, starts_below, first_starts, start_if_down, crash, stall, released, stop_releasing, stop_as, stop, effect, stamp, event_version, happen_all, step_one, step_two, elector_react, react_as, deliver_as, if_up, restart_if, restart, expire, finish, attempts, turns, happens, answered, delivered, start, controller_turn, kubelet_turn, unpaused_turn}
use Rattle.history_laws.proofs.Ticks.{walk_tick}
use Rattle.script_reader.specs.Lawful.{IsLawfulWhat, AreLawfulFrom, IsLawfulDoc}

abbrev pub IsStartOfOne : ℕ → Actor → Fact → Type 0
IsStartOfOne n who Starts = IsOneOf n who
IsStartOfOne n who _ = Unit {0}

abbrev pub StartsAreOfOne : ℕ → List Entry → Type 0
StartsAreOfOne n [] = Unit {0}
StartsAreOfOne n (e ∷ h) = IsStartOfOne n e.actor e.fact × StartsAreOfOne n h

module _ (doc : Doc) (lawful : IsLawfulDoc doc) where
  abbrev Good : List Entry → Type 0
  Good h = StartsAreOfOne (processes doc) h

  -- ---- releases

  good_and_end : (k step : ℕ) (q : Identity) (b : Bool) (h : List Entry) → Good h → Good (and_end k step q b h)
  good_and_end k step q true h s = (tt, s)
  good_and_end k step q false h s = s

  good_release_end : (k step : ℕ) (q : Identity) (h : List Entry) → Good h → Good (end_release doc k step q h)
  good_release_end k step q h s = (tt, good_and_end k step q (acts_on doc q h) h s)

  good_call : (k step : ℕ) (q : Identity) (o : Option (CallKind × Request)) (h : List Entry) → Good h → Good (send_first doc k step q o h)
  good_call k step q None h s = good_release_end k step q h s
  good_call k step q (Some call) h s = (tt, s)

  good_begin : (k step : ℕ) (q : Identity) (at_deadline : Bool) (h : List Entry) → Good h → Good (begin_release doc k step q at_deadline h)
  good_begin k step q at_deadline h s =
      good_call k step q (first_call doc.settings.rules.release k (release_from q (wall doc q.process k) (shown q h))) (entry k step q (ReleaseBegins at_deadline) ∷ h) (tt, s)

  good_empty : (k : ℕ) (q : Identity) (begun : ℕ) (o : Option Request) (h : List Entry) → Good h → Good (empty_or_end doc k q begun o h)
  good_empty k q begun None h s = good_release_end k 3 q h s
  good_empty k q begun (Some request) h s = (tt, s)

  good_in_release : (k : ℕ) (q : Identity) (kind : CallKind) (reply : Reply) (h : List Entry) → Good h → Good (react_in_release doc k q kind reply h)
  good_in_release k q (Look begun) reply h s = good_empty k q begun (after_look doc.settings.rules.release q (wall doc q.process k) (is_mine q h) reply) h s
  good_in_release k q Plain reply h s = good_release_end k 3 q h s
  good_in_release k q Fast reply h s = good_release_end k 3 q h s
  good_in_release k q Release reply h s = good_release_end k 3 q h s
  good_in_release k q (Emptying begun) reply h s = good_release_end k 3 q h s

  -- ---- step 1

  good_first : (p : ℕ) (b : Bool) (h : List Entry) → p < processes doc → Good h → Good (start_first p b h)
  good_first p true h below s = (below, s)
  good_first p false h below s = s

  good_below : (n : ℕ) (h : List Entry) → n ≤ processes doc → Good h → Good (starts_below doc n h)
  good_below zero h le s = s
  good_below (suc p) h le s = good_first p (is_up_first doc p) (starts_below doc p h) (omega (arith, le)) (good_below p h (omega (arith, le)) s)

  good_starts : (k : ℕ) (h : List Entry) → Good h → Good (first_starts doc k h)
  good_starts zero h s = good_below (processes doc) h (omega arith) s
  good_starts (suc k) h s = s

  good_released : (k : ℕ) (q : Identity) (o : Option Request) (h : List Entry) → Good h → Good (released doc k q o h)
  good_released k q None h s = s
  good_released k q (Some request) h s = (tt, s)

  good_halted : (k : ℕ) (q : Identity) (releasing led : Bool) (h : List Entry) → Good h → Good (stop_releasing doc k q releasing led h)
  good_halted k q true led h s = (tt, s)
  good_halted k q false true h s = good_begin k 1 q false (entry k 1 q ReleaseStops ∷ h) (tt, s)
  good_halted k q false false h s = (tt, s)

  good_stopped : (rule : ReleaseRule) (k : ℕ) (q : Identity) (before h : List Entry) → Good h → Good (stop_as rule doc k q before h)
  good_stopped rules.Stop k q before h s = good_released k q (release doc q k before) (entry k 1 q Stops ∷ h) (tt, s)
  good_stopped rules.Own k q before h s = good_halted k q (is_releasing q before) (leads q before) h s
  good_stopped rules.Checked k q before h s = good_halted k q (is_releasing q before) (leads q before) h s
  good_stopped rules.Reread k q before h s = good_halted k q (is_releasing q before) (leads q before) h s

  good_effect : (k : ℕ) (w : What) → IsLawfulWhat doc w → (before h : List Entry) → Good h → Good (effect doc k w before h)
  good_effect k (what.Crash id) ok before h s = by (alive id.0 before)
    where
      by : (o : Option ℕ) → Good (crash k id.0 o h)
      by None = s
      by (Some i) = (tt, s)
  good_effect k (what.Start id) ok before h s = by (alive id.0 before)
    where
      by : (o : Option ℕ) → Good (start_if_down k 1 id.0 o h)
      by None = (ok, s)
      by (Some i) = s
  good_effect k (what.Stop id) ok before h s = by (only_if (not (is_paused doc id.0 k)) (alive id.0 before))
    where
      by : (o : Option ℕ) → Good (stop doc k id.0 o before h)
      by None = s
      by (Some i) = good_stopped doc.settings.rules.release k (identity id.0 i) before h s
  good_effect k (what.Pause id beats) ok before h s = by (alive id.0 before)
    where
      by : (o : Option ℕ) → Good (stall k id.0 beats o h)
      by None = s
      by (Some i) = (tt, s)
  good_effect k (what.Stall beats) ok before h s = s
  good_effect k (what.Rate id ppm) ok before h s = s
  good_effect k (what.Delay id requests replies) ok before h s = s
  good_effect k (what.Loss id requests replies) ok before h s = s
  good_effect k (what.Watch id on) ok before h s = s
  good_effect k (what.Ready id status) ok before h s = s
  good_effect k (what.Put key object) ok before h s = s
  good_effect k (what.Remove key) ok before h s = s

  good_happens : (k : ℕ) (w : What) → IsLawfulWhat doc w → (b : Bool) (h : List Entry) → Good h → Good (if b then happens doc k w h else h)
  good_happens k w ok false h s = s
  good_happens k w ok true h s = good_effect k w ok h (script_entry k 1 (Happens (stamp doc k w) (event_version w h)) ∷ h) (tt, s)

  good_all : (k from : ℕ) (es : List Event) → AreLawfulFrom doc from es → (h : List Entry) → Good h → Good (happen_all doc k es h)
  good_all k from [] ok h s = s
  good_all k from (e ∷ es) ok h s = good_all k e.beat.0 es ok.3 (if (e.beat.0 == k) then happens doc k e.what h else h) (good_happens k e.what ok.2 (e.beat.0 == k) h s)

  -- ---- steps 2 and 3

  good_each : (f : Entry → List Entry → List Entry) → ((e : Entry) (h : List Entry) → Good h → Good (f e h)) → (l h : List Entry) → Good h → Good (each f l h)
  good_each f one [] h s = s
  good_each f one (e ∷ l) h s = one e (each f l h) (good_each f one l h s)

  good_answer : (k : ℕ) (o : Option Sent) (h : List Entry) → Good h → Good (answer_due doc k o h)
  good_answer k None h s = s
  good_answer k (Some x) h s = by (is_due k x.arrives)
    where
      by : (b : Bool) → Good (if b then answered doc k x h else h)
      by true = (tt, s)
      by false = s

  good_react : (k : ℕ) (q : Identity) (led : Bool) (f : Follow) (h : List Entry) → Good h → Good (react doc k q led f h)
  good_react k q led Fails h s = s
  good_react k q led (Asks request) h s = (tt, s)
  good_react k q true (Succeeds version) h s = s
  good_react k q false (Succeeds version) h s = (tt, s)

  good_next : (k : ℕ) (q : Identity) (o : Option Request) (h : List Entry) → Good h → Good (send_next doc k q o h)
  good_next k q None h s = s
  good_next k q (Some request) h s = (tt, s)

  good_elector : (k : ℕ) (q : Identity) (x : Call) (reply : Reply) (o : Option ℕ) (h : List Entry) → Good h → Good (elector_react doc k q x reply o h)
  good_elector k q x reply None h s = good_react k q (leads q h) (follow_on doc q k x.kind x.request reply h) h s
  good_elector k q x reply (Some begun) h s = good_in_release k q x.kind reply h s

  good_react_as : (k : ℕ) (q : Identity) (x : Call) (reply : Reply) (b : Bool) (h : List Entry) → Good h → Good (react_as doc k q x reply b h)
  good_react_as k q x reply true h s = good_elector k q x reply (release_begun doc.settings.rules.release x.kind) h s
  good_react_as k q x reply false h s = good_next k q (next_request doc q k x.request reply) h s

  good_deliver_as : (k : ℕ) (q : Identity) (x : Call) (reply : Reply) (o : Option Call) (h : List Entry) → Good h → Good (deliver_as doc k q x reply o h)
  good_deliver_as k q x reply None h s = (tt, s)
  good_deliver_as k q x reply (Some w) h s = good_react_as k q w reply (is_controller doc q.process) (entry k 3 q (Delivers w reply true) ∷ h) (tt, s)

  good_deliver : (k : ℕ) (o : Option Back) (h : List Entry) → Good h → Good (deliver_due doc k o h)
  good_deliver k None h s = s
  good_deliver k (Some b) h s = by (is_due k b.comes)
    where
      by : (t : Bool) → Good (if t then delivered doc k b h else h)
      by true = good_deliver_as k b.who b.call b.reply (counted doc b.who k b.call.number h) h s
      by false = s

  -- ---- step 4

  good_up : (p : ℕ) (f : Identity → List Entry → List Entry) → ((q : Identity) (h : List Entry) → Good h → Good (f q h)) → (up : Option ℕ) (h : List Entry) → Good h → Good (if_up p f up h)
  good_up p f one None h s = s
  good_up p f one (Some i) h s = one (identity p i) h s

  good_restart : (k p : ℕ) → p < processes doc → (up : Option ℕ) (h : List Entry) → Good h → Good (restart_if doc k p up h)
  good_restart k p below (Some i) h s = s
  good_restart k p below None h s = by (is_restart_due doc p k (ended doc p h))
    where
      by : (b : Bool) → Good (if b then start k 4 p h else h)
      by true = (below, s)
      by false = s

  good_expired : (k : ℕ) (q : Identity) (x : Call) (o : Option ℕ) (h : List Entry) → Good h → Good (expire_as doc k q x o h)
  good_expired k q x None h s = (tt, s)
  good_expired k q x (Some begun) h s = good_release_end k 4 q h s

  good_expire : (k : ℕ) (q : Identity) (o : Option Call) (h : List Entry) → Good h → Good (expire_call doc k q o h)
  good_expire k q None h s = s
  good_expire k q (Some x) h s = by (is_late doc q k x)
    where
      by : (b : Bool) → Good (if b then expire_as doc k q x (release_begun doc.settings.rules.release x.kind) h else h)
      by true = good_expired k q x (release_begun doc.settings.rules.release x.kind) h s
      by false = s

  good_late : (k : ℕ) (q : Identity) (releasing : Bool) (h : List Entry) → Good h → Good (end_released doc k q releasing h)
  good_late k q true h s = s
  good_late k q false h s =
      let early = not (acts_by doc.settings.rules.in_release true) in
      good_begin k 4 q true (and_end k 4 q early h) (good_and_end k 4 q early h s)

  good_ended : (rule : ReleaseRule) (k : ℕ) (q : Identity) (h : List Entry) → Good h → Good (end_as rule doc k q h)
  good_ended rules.Stop k q h s = (tt, s)
  good_ended rules.Own k q h s = good_late k q (is_releasing q h) h s
  good_ended rules.Checked k q h s = good_late k q (is_releasing q h) h s
  good_ended rules.Reread k q h s = good_late k q (is_releasing q h) h s

  good_end : (k : ℕ) (q : Identity) (o : Option ℕ) (h : List Entry) → Good h → Good (end_term doc k q o h)
  good_end k q None h s = s
  good_end k q (Some at) h s = by (nat_lt (local doc q.process k) at)
    where
      by : (b : Bool) → Good (if b then h else end_as doc.settings.rules.release doc k q h)
      by true = s
      by false = good_ended doc.settings.rules.release k q h s

  good_try : (k : ℕ) (q : Identity) (h : List Entry) → Good h → Good (try doc k q h)
  good_try k q h s = by (is_fast_call (just_expired q k h)) (not (has (call_in q h)) && not (nat_lt (local doc q.process k) (timer doc q h)))
    where
      by : (fast due : Bool) → Good (attempt_if doc k q fast due h)
      by true due = (tt, s)
      by false true = (tt, s)
      by false false = s

  good_tick : (k : ℕ) (q : Identity) (b : Bool) (h : List Entry) → Good h → Good (if b then tick doc k q h else h)
  good_tick k q true h s = walk_tick doc k q (StartsAreOfOne (processes doc)) (λ t g made s. (tt, s)) h s
  good_tick k q false h s = s

  good_round : (k : ℕ) (q : Identity) (h : List Entry) → Good h → Good (round doc k q h)
  good_round k q h s = by (is_post_call (just_expired q k h)) (is_round_due doc k q h)
    where
      by : (late due : Bool) → Good (round_if doc k q late due h)
      by true due = (tt, s)
      by false true = (tt, s)
      by false false = s

  good_expiry : (k p : ℕ) (h : List Entry) → Good h → Good (expire doc k p h)
  good_expiry k p h s = good_up p (λ q T. expire_call doc k q (call_in q T) T) (λ q T s. good_expire k q (call_in q T) T s) (alive p h) h s

  good_turn : (k p : ℕ) → p < processes doc → (b : Bool) (h : List Entry) → Good h → Good (if b then controller_turn doc k p h else kubelet_turn doc k p h)
  good_turn k p below true h s =
      let h1 = restart doc k p h in
      let h2 = expire doc k p h1 in
      let h3 = finish doc k p h2 in
      let h4 = attempts doc k p h3 in
      let s2 : Good h2 = good_expiry k p h1 (good_restart k p below (alive p h) h s) in
      let s3 : Good h3 = good_up p (λ q T. end_term doc k q (deadline doc q T) T) (λ q T s. good_end k q (deadline doc q T) T s) (alive p h2) h2 s2 in
      let s4 : Good h4 = good_up p (try doc k) (good_try k) (alive p h3) h3 s3 in
      ticks_keep doc k p h4 Good s4 (good_up p (λ q T. (if (acts doc q k T) then tick doc k q T else T)) (λ q T s. good_tick k q (acts doc q k T) T s) (alive p h4) h4 s4)
  good_turn k p below false h s =
      let h1 = expire doc k p h in
      good_up p (round doc k) (good_round k) (alive p h1) h1 (good_expiry k p h s)

  good_unless : (k p : ℕ) → p < processes doc → (b : Bool) (h : List Entry) → Good h → Good (if b then h else unpaused_turn doc k p h)
  good_unless k p below true h s = s
  good_unless k p below false h s = good_turn k p below (is_controller doc p) h s

  good_turns : (k n : ℕ) (h : List Entry) → n ≤ processes doc → Good h → Good (turns doc k n h)
  good_turns k zero h le s = s
  good_turns k (suc p) h le s = good_unless k p (omega (arith, le)) (is_paused doc p k) (turns doc k p h) (good_turns k p h (omega (arith, le)) s)

  good_put : (xs : List (Key × Object)) (h : List Entry) → Good h → Good (put_all doc xs h)
  good_put [] h s = s
  good_put (x ∷ xs) h s = good_put xs (script_entry 0 0 (First x.0 (stamped (whole_second (store_wall doc 0)) x.1)) ∷ h) (tt, s)

  good_three : (k : ℕ) (h : List Entry) → Good h → Good (three_steps doc k h)
  good_three k h s =
      let h1 = step_one doc k h in
      let h2 = step_two doc k h1 in
      let s1 : Good h1 = good_all k 0 doc.events lawful.events (first_starts doc k h) (good_starts k h s) in
      let s2 : Good h2 = subst Good (sym (step_two-walks doc k h1)) (good_each (λ e. answer_due doc k (sent_of e.actor e.fact)) (λ e g s. good_answer k (sent_of e.actor e.fact) g s) h1 h1 s1) in
      subst Good (sym (step_three-walks doc k h2)) (good_each (λ e. deliver_due doc k (back_of e.actor e.fact)) (λ e g s. good_deliver k (back_of e.actor e.fact) g s) h2 h2 s2)

  pub starts_are_of_one : (k : ℕ) → Good (history doc k)
  starts_are_of_one zero = good_put doc.objects [] tt
  starts_are_of_one (suc k) = good_turns k (processes doc) (three_steps doc k (history doc k)) (omega arith) (good_three k (history doc k) (starts_are_of_one k))
