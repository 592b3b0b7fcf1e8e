-- Layer 4, the steps of a beat: the events of a beat, one after the other.
use Rattle.std.proofs.Common.{◌≡◌, ℕ, ◌+◌, ◌<◌, ◌≤◌, not, Bool, true, false, cond, List, [], ◌∷◌, ◌++◌, Option, Some, None, slice_get, get_or, length, drop, refl, sym, ap, ◌∙◌, subst, arith}
use Rattle.std.proofs.lemmas.Option.{slice_get_read}
use Rattle.kube_objects.specs.declared.call.Request.{Request}
use Rattle.kube_objects.specs.declared.deed.Deed.{Deed}
use Rattle.kube_objects.specs.declared.rules.ReleaseRule.{ReleaseRule}
use Rattle.kube_objects.specs.declared.rules.ReleaseRule.TheVariants as rules
use Rattle.kube_objects.specs.declared.script.Event.{Event}
use Rattle.kube_objects.specs.declared.script.What.{What}
use Rattle.kube_objects.specs.declared.script.What.TheVariants as what
use Rattle.kube_objects.specs.Clocks.{wall}
use Rattle.kube_objects.specs.Document.{Doc}
use Rattle.kube_objects.specs.Elector.{acts_on, leads, release, release_from, shown}
use Rattle.kube_objects.specs.Entry.{Entry, Identity, CallKind, Release, ReleaseBegins, ReleaseStops, Stops, Event as Happened, entry, script_entry}
use Rattle.kube_objects.specs.Identities.{identity}
use Rattle.kube_objects.specs.InFlight.{requests_due, replies_due}
use Rattle.kube_objects.specs.Newest.{only_if}
use Rattle.kube_objects.specs.Pauses.{is_paused}
use Rattle.kube_objects.specs.Process.{alive, is_releasing}
use Rattle.kube_objects.specs.Releases.{and_end, begin_release, first_call, send_first}
use Rattle.kube_objects.specs.Wire.{Sent, Back, request_arrival, request_delay, loses_requests, next_call, send}
use Rattle.history.specs.Steps.{start_if_down, crash, stall, released, stop_releasing, stop_as, stop, happens, happen_all}
use Rattle.script_reader.specs.Lawful.{IsLawfulWhat, AreLawfulFrom}
use Rattle.world_core.specs.declared.world.World.{World}
use Rattle.world_process.specs.Plain.{IsFew}
use Rattle.world_core.specs.Worlds.{DocStands, IsPlaced, MidBeat, Scripted}
use Rattle.world_core.proofs.Beats.{stalled_later}
use Rattle.world_core.proofs.Events.{drop-at, drop-past, happens-now, happen-earlier, happen-later, lawful-later, lawful-rest, lawful-what, earlier-more}
use Rattle.world_process.proofs.Grows.{grows-happen_all, few-before}

-- ---- what an event sends arrives later

requests-start : (j k p : ℕ) (up : Option ℕ) (h : List Entry) → requests_due j (start_if_down k 1 p up h) ≡ requests_due j h
requests-start j k p None h = refl
requests-start j k p (Some i) h = refl

requests-crash : (j k p : ℕ) (up : Option ℕ) (h : List Entry) → requests_due j (crash k p up h) ≡ requests_due j h
requests-crash j k p None h = refl
requests-crash j k p (Some i) h = refl

requests-stall : (j k p beats : ℕ) (up : Option ℕ) (h : List Entry) → requests_due j (stall k p beats up h) ≡ requests_due j h
requests-stall j k p beats None h = refl
requests-stall j k p beats (Some i) h = refl

requests-sent : (doc : Doc) (k : ℕ) (q : Identity) (kind : CallKind) (request : Request) (h : List Entry) → 1 ≤ request_delay q.process h → requests_due k (send doc k 1 q kind request h) ≡ requests_due k h
requests-sent doc k q kind request h later =
    ap (λ b. cond b (requests_due k h ++ record { who = q; call = next_call q k kind request h; arrives = request_arrival doc q.process k h } ∷ []) (requests_due k h)) (stalled_later doc k (loses_requests q.process h) (request_delay q.process h) later)

requests-released : (doc : Doc) (k : ℕ) (q : Identity) (request : Option Request) (h : List Entry) → 1 ≤ request_delay q.process h → requests_due k (released doc k q request h) ≡ requests_due k h
requests-released doc k q None h later = refl
requests-released doc k q (Some request) h later = requests-sent doc k q Release request h later

requests-ended : (j k : ℕ) (q : Identity) (b : Bool) (h : List Entry) → requests_due j (and_end k 1 q b h) ≡ requests_due j h
requests-ended j k q true h = refl
requests-ended j k q false h = refl

requests-first : (doc : Doc) (k : ℕ) (q : Identity) (o : Option (CallKind × Request)) (h : List Entry) → 1 ≤ request_delay q.process h → requests_due k (send_first doc k 1 q o h) ≡ requests_due k h
requests-first doc k q None h later = requests-ended k k q (acts_on doc q h) h
requests-first doc k q (Some call) h later = requests-sent doc k q call.0 call.1 h later

requests-begun : (doc : Doc) (k : ℕ) (q : Identity) (h : List Entry) → 1 ≤ request_delay q.process h → requests_due k (begin_release doc k 1 q false h) ≡ requests_due k h
requests-begun doc k q h later =
    requests-first doc k q (first_call doc.settings.rules.release k (release_from q (wall doc q.process k) (shown q h))) (entry k 1 q (ReleaseBegins false) ∷ h) later

requests-halted : (doc : Doc) (k : ℕ) (q : Identity) (runs led : Bool) (h : List Entry) → 1 ≤ request_delay q.process h → requests_due k (stop_releasing doc k q runs led h) ≡ requests_due k h
requests-halted doc k q true led h later = refl
requests-halted doc k q false true h later = requests-begun doc k q (entry k 1 q ReleaseStops ∷ h) later
requests-halted doc k q false false h later = refl

requests-stop_as : (rule : ReleaseRule) (doc : Doc) (k : ℕ) (q : Identity) (before h : List Entry) → 1 ≤ request_delay q.process h → requests_due k (stop_as rule doc k q before h) ≡ requests_due k h
requests-stop_as rules.Stop doc k q before h later = requests-released doc k q (release doc q k before) (entry k 1 q Stops ∷ h) later
requests-stop_as rules.Own doc k q before h later = requests-halted doc k q (is_releasing q before) (leads q before) h later
requests-stop_as rules.Checked doc k q before h later = requests-halted doc k q (is_releasing q before) (leads q before) h later
requests-stop_as rules.Reread doc k q before h later = requests-halted doc k q (is_releasing q before) (leads q before) h later

requests-stop : (doc : Doc) (k p : ℕ) (up : Option ℕ) (before h : List Entry) → 1 ≤ request_delay p h → requests_due k (stop doc k p up before h) ≡ requests_due k h
requests-stop doc k p None before h later = refl
requests-stop doc k p (Some i) before h later = requests-stop_as doc.settings.rules.release doc k (identity p i) before h later

requests-happens : (doc : Doc) (k : ℕ) (event : What) (h : List Entry) → ((p : ℕ) → 1 ≤ request_delay p h) → requests_due k (happens doc k event h) ≡ requests_due k h
requests-happens doc k (what.Rate id ppm) h later = refl
requests-happens doc k (what.Delay id requests replies) h later = refl
requests-happens doc k (what.Loss id requests replies) h later = refl
requests-happens doc k (what.Crash id) h later = requests-crash k k id.0 (alive id.0 h) (script_entry k 1 (Happened (what.Crash id) None) ∷ h)
requests-happens doc k (what.Start id) h later = requests-start k k id.0 (alive id.0 h) (script_entry k 1 (Happened (what.Start id) None) ∷ h)
requests-happens doc k (what.Stop id) h later = requests-stop doc k id.0 (only_if (not (is_paused doc id.0 k)) (alive id.0 h)) h (script_entry k 1 (Happened (what.Stop id) None) ∷ h) (later id.0)
requests-happens doc k (what.Watch id on) h later = refl
requests-happens doc k (what.Ready id status) h later = refl
requests-happens doc k (what.Pause id beats) h later = requests-stall k k id.0 beats (alive id.0 h) (script_entry k 1 (Happened (what.Pause id beats) None) ∷ h)
requests-happens doc k (what.Stall beats) h later = refl
requests-happens doc k (what.Put key object) h later = refl
requests-happens doc k (what.Remove key) h later = refl

replies-start : (j k p : ℕ) (up : Option ℕ) (h : List Entry) → replies_due j (start_if_down k 1 p up h) ≡ replies_due j h
replies-start j k p None h = refl
replies-start j k p (Some i) h = refl

replies-crash : (j k p : ℕ) (up : Option ℕ) (h : List Entry) → replies_due j (crash k p up h) ≡ replies_due j h
replies-crash j k p None h = refl
replies-crash j k p (Some i) h = refl

replies-stall : (j k p beats : ℕ) (up : Option ℕ) (h : List Entry) → replies_due j (stall k p beats up h) ≡ replies_due j h
replies-stall j k p beats None h = refl
replies-stall j k p beats (Some i) h = refl

replies-released : (doc : Doc) (j k : ℕ) (q : Identity) (request : Option Request) (h : List Entry) → replies_due j (released doc k q request h) ≡ replies_due j h
replies-released doc j k q None h = refl
replies-released doc j k q (Some request) h = refl

replies-ended : (j k : ℕ) (q : Identity) (b : Bool) (h : List Entry) → replies_due j (and_end k 1 q b h) ≡ replies_due j h
replies-ended j k q true h = refl
replies-ended j k q false h = refl

replies-first : (doc : Doc) (j k : ℕ) (q : Identity) (o : Option (CallKind × Request)) (h : List Entry) → replies_due j (send_first doc k 1 q o h) ≡ replies_due j h
replies-first doc j k q None h = replies-ended j k q (acts_on doc q h) h
replies-first doc j k q (Some call) h = refl

replies-begun : (doc : Doc) (j k : ℕ) (q : Identity) (h : List Entry) → replies_due j (begin_release doc k 1 q false h) ≡ replies_due j h
replies-begun doc j k q h =
    replies-first doc j k q (first_call doc.settings.rules.release k (release_from q (wall doc q.process k) (shown q h))) (entry k 1 q (ReleaseBegins false) ∷ h)

replies-halted : (doc : Doc) (j k : ℕ) (q : Identity) (runs led : Bool) (h : List Entry) → replies_due j (stop_releasing doc k q runs led h) ≡ replies_due j h
replies-halted doc j k q true led h = refl
replies-halted doc j k q false true h = replies-begun doc j k q (entry k 1 q ReleaseStops ∷ h)
replies-halted doc j k q false false h = refl

replies-stop_as : (rule : ReleaseRule) (doc : Doc) (j k : ℕ) (q : Identity) (before h : List Entry) → replies_due j (stop_as rule doc k q before h) ≡ replies_due j h
replies-stop_as rules.Stop doc j k q before h = replies-released doc j k q (release doc q k before) (entry k 1 q Stops ∷ h)
replies-stop_as rules.Own doc j k q before h = replies-halted doc j k q (is_releasing q before) (leads q before) h
replies-stop_as rules.Checked doc j k q before h = replies-halted doc j k q (is_releasing q before) (leads q before) h
replies-stop_as rules.Reread doc j k q before h = replies-halted doc j k q (is_releasing q before) (leads q before) h

replies-stop : (doc : Doc) (j k p : ℕ) (up : Option ℕ) (before h : List Entry) → replies_due j (stop doc k p up before h) ≡ replies_due j h
replies-stop doc j k p None before h = refl
replies-stop doc j k p (Some i) before h = replies-stop_as doc.settings.rules.release doc j k (identity p i) before h

replies-happens : (doc : Doc) (k : ℕ) (event : What) (h : List Entry) → replies_due k (happens doc k event h) ≡ replies_due k h
replies-happens doc k (what.Rate id ppm) h = refl
replies-happens doc k (what.Delay id requests replies) h = refl
replies-happens doc k (what.Loss id requests replies) h = refl
replies-happens doc k (what.Crash id) h = replies-crash k k id.0 (alive id.0 h) (script_entry k 1 (Happened (what.Crash id) None) ∷ h)
replies-happens doc k (what.Start id) h = replies-start k k id.0 (alive id.0 h) (script_entry k 1 (Happened (what.Start id) None) ∷ h)
replies-happens doc k (what.Stop id) h = replies-stop doc k k id.0 (only_if (not (is_paused doc id.0 k)) (alive id.0 h)) h (script_entry k 1 (Happened (what.Stop id) None) ∷ h)
replies-happens doc k (what.Watch id on) h = refl
replies-happens doc k (what.Ready id status) h = refl
replies-happens doc k (what.Pause id beats) h = replies-stall k k id.0 beats (alive id.0 h) (script_entry k 1 (Happened (what.Pause id beats) None) ∷ h)
replies-happens doc k (what.Stall beats) h = refl
replies-happens doc k (what.Put key object) h = refl
replies-happens doc k (what.Remove key) h = refl

-- ---- the loop over the events

-- the event at the place
pub event-at : (doc : Doc) (k : ℕ) (w : World) (xs ys : List Event) (e : Event) → DocStands doc k w → xs ≡ w.events → ys ≡ w.events → w.place < length ys → e ≡ get_or xs w.place e → slice_get doc.events w.place ≡ Some e
event-at doc k w xs ys e s xs_are ys_are less is =
    ap (λ es. slice_get es w.place) (sym (xs_are ∙ s.events)) ∙ slice_get_read xs (length ys) w.place e (ap (λ es. length es) (ys_are ∙ sym xs_are)) less is

-- some events of beat k have happened
pub record Happening (doc : Doc) (k : ℕ) (before : List Deed) (arriving : List Sent) (coming : List Back) (h : List Entry) (w : World) (deeds : List Deed) : Type 0 where
  pub now : List Entry
  pub running : MidBeat doc k before arriving coming now w deeds
  pub earlier : (i : ℕ) (e : Event) → i < w.place → slice_get doc.events i ≡ Some e → e.beat.0 < k + 1
  pub later : AreLawfulFrom doc k (drop w.place doc.events)
  pub same : happen_all doc k (drop w.place doc.events) now ≡ happen_all doc k doc.events h
  pub requests : requests_due k now ≡ requests_due k h
  pub replies : replies_due k now ≡ replies_due k h

pub happening-first : (doc : Doc) (k : ℕ) (before deeds : List Deed) (arriving : List Sent) (coming : List Back) (h : List Entry) (w : World) → MidBeat doc k before arriving coming h w deeds → IsPlaced doc k w.place → Happening doc k before arriving coming h w deeds
happening-first doc k before deeds arriving coming h w r placed =
    record {
      now = h;
      running = r;
      earlier = λ i e less is. (let sooner = placed.earlier i e less is in omega (arith, sooner));
      later = placed.later;
      same = happen-earlier doc k doc.events w.place h placed.earlier;
      requests = refl;
      replies = refl;
    }

pub happening-more : (doc : Doc) (k : ℕ) (before deeds new : List Deed) (arriving : List Sent) (coming : List Back) (h : List Entry) (w v : World) (e : Event) → (a : Happening doc k before arriving coming h w deeds) → slice_get doc.events w.place ≡ Some e → e.beat.0 ≡ k → v.place ≡ w.place + 1 →
    IsFew (happen_all doc k doc.events h) → (IsLawfulWhat doc e.what → IsFew (happens doc k e.what a.now) → MidBeat doc k before arriving coming (happens doc k e.what a.now) v new) → Happening doc k before arriving coming h v new
happening-more doc k before deeds new arriving coming h w v e a here beat place few happened =
    let rest = drop (w.place + 1) doc.events in
    let is : drop w.place doc.events ≡ e ∷ rest = drop-at doc.events w.place e here in
    let lawful : AreLawfulFrom doc k (e ∷ rest) = subst (AreLawfulFrom doc k) is a.later in
    let next = happens doc k e.what a.now in
    let on : happen_all doc k rest next ≡ happen_all doc k doc.events h = ap (λ g. happen_all doc k rest g) (sym (happens-now doc k e a.now beat)) ∙ ap (λ es. happen_all doc k es a.now) (sym is) ∙ a.same in
    let few_next : IsFew next = few-before next (happen_all doc k rest next) (grows-happen_all doc k rest next) (subst IsFew (sym on) few) in
    record {
      now = next;
      running = happened (lawful-what doc k e rest lawful) few_next;
      earlier = subst (λ n. (i : ℕ) (x : Event) → i < n → slice_get doc.events i ≡ Some x → x.beat.0 < k + 1) (sym place) (earlier-more (k + 1) w.place doc.events e here (omega (arith, beat)) a.earlier);
      later = subst (λ n. AreLawfulFrom doc k (drop n doc.events)) (sym place) (lawful-rest doc k e rest beat lawful);
      same = ap (λ n. happen_all doc k (drop n doc.events) next) place ∙ on;
      requests = requests-happens doc k e.what a.now (λ p. (a.running.world.rest.wire.delays p).0.0) ∙ a.requests;
      replies = replies-happens doc k e.what a.now ∙ a.replies;
    }

scripted-all : (doc : Doc) (k : ℕ) (before deeds : List Deed) (arriving : List Sent) (coming : List Back) (h : List Entry) (w : World) → (a : Happening doc k before arriving coming h w deeds) → a.now ≡ happen_all doc k doc.events h → AreLawfulFrom doc (k + 1) (drop w.place doc.events) → Scripted doc k before arriving coming h w deeds
scripted-all doc k before deeds arriving coming h w a all later =
    record {
      running = subst (λ g. MidBeat doc k before arriving coming g w deeds) all a.running;
      placed = record { earlier = a.earlier; later = later };
      requests = ap (requests_due k) (sym all) ∙ a.requests;
      replies = ap (replies_due k) (sym all) ∙ a.replies;
    }

-- the next event is of a later beat
pub happening-before : (doc : Doc) (k : ℕ) (before deeds : List Deed) (arriving : List Sent) (coming : List Back) (h : List Entry) (w : World) (e : Event) → Happening doc k before arriving coming h w deeds → slice_get doc.events w.place ≡ Some e → ¬ (e.beat.0 ≡ k) → Scripted doc k before arriving coming h w deeds
happening-before doc k before deeds arriving coming h w e a here other =
    let rest = drop (w.place + 1) doc.events in
    let is : drop w.place doc.events ≡ e ∷ rest = drop-at doc.events w.place e here in
    let lawful : AreLawfulFrom doc (k + 1) (e ∷ rest) = lawful-later doc k e rest other (subst (AreLawfulFrom doc k) is a.later) in
    let later : AreLawfulFrom doc (k + 1) (drop w.place doc.events) = subst (AreLawfulFrom doc (k + 1)) (sym is) lawful in
    scripted-all doc k before deeds arriving coming h w a (sym (happen-later doc k (k + 1) (drop w.place doc.events) a.now (omega arith) later) ∙ a.same) later

-- no event is left
pub happening-done : (doc : Doc) (k : ℕ) (before deeds : List Deed) (arriving : List Sent) (coming : List Back) (h : List Entry) (w : World) → Happening doc k before arriving coming h w deeds → length doc.events ≤ w.place → Scripted doc k before arriving coming h w deeds
happening-done doc k before deeds arriving coming h w a past =
    let is : drop w.place doc.events ≡ [] = drop-past doc.events w.place past in
    scripted-all doc k before deeds arriving coming h w a (ap (λ es. happen_all doc k es a.now) (sym is) ∙ a.same) (subst (AreLawfulFrom doc (k + 1)) (sym is) tt)
