-- How each entry of a history came about.
use Rattle.std.proofs.Common.{◌≡◌, ◌⊎◌, ℕ, true, false, List, [], ◌∷◌, Option, Some, None, refl, sym, ap, ◌∙◌, subst, inl, inr, arith, ◌≤◌, ◌+◌, nat_lt, cond, ◌&&◌, Bool}
use Rattle.kube_objects.specs.declared.call.Reply.{Reply}
use Rattle.kube_objects.specs.declared.call.Request.{Request}
use Rattle.kube_objects.specs.declared.call.Request.TheVariants.{Get, Update}
use Rattle.kube_objects.specs.declared.deed.Actor.{Actor}
use Rattle.kube_objects.specs.declared.key.Key.{Key}
use Rattle.kube_objects.specs.declared.object.Object.{Object}
use Rattle.kube_objects.specs.declared.script.What.{What}
use Rattle.kube_objects.specs.Answers.{answer, written}
use Rattle.kube_objects.specs.Clocks.{local, store_wall, whole_second}
use Rattle.kube_objects.specs.Document.{Doc, is_controller}
use Rattle.kube_objects.specs.Elector.{attempt, deadline, attempt_from, Shown, shown, observed_at, moment, renewed, is_valid, leads, follow_on, Asks}
use Rattle.kube_objects.specs.Entry.{Entry, Identity, Call, CallKind, Plain, Release, Fact, First, Event as Happens, Starts, Stops, Sends, Answers, Delivers, Expires, Leads, Ends, Crashes, Stalls, Ticks, actor_of, entry, script_entry, Fast, StepsDown, ReleaseBegins, ReleaseEnds, ReleaseStops}
use Rattle.kube_objects.specs.Identities.{identity, is_own}
use Rattle.kube_objects.specs.Kubelet.{post, node_of}
use Rattle.kube_objects.specs.Newest.{when, join}
use Rattle.kube_objects.specs.Process.{alive, starts, call_in, last_call, counted, is_late, open_as}
use Rattle.kube_objects.specs.Stamps.{stamped}
use Rattle.kube_objects.specs.Stored.{election, node_lease}
use Rattle.kube_objects.specs.Wire.{Sent, Back, next_call, request_arrival, reply_arrival, send}
use Rattle.kube_objects.specs.Own.{ReleasesByStop}
use Rattle.history.specs.History.{put_all, history}
use Rattle.history.specs.Steps.{stamp, event_version}
use Rattle.history_laws.specs.Tails.{IsTail}
use Rattle.history_laws.proofs.Counting.{counted_is}
use Rattle.history_laws.proofs.Plainly.{upper, same_self}
use Rattle.history_laws.proofs.Tailed.{tail_of_empty, same_head, same_rest}
use Rattle.history_laws.proofs.Ticks.{MadeTick, walk_tick}
use Rattle.history_laws.proofs.Walk.{Scripted, Arriving, Coming, stopped_at, after_reply, Keeps, no_release, walk_history}

-- a controller has no call as it sends one, but for the release of who was just stopped
pub record HasStopped (k : ℕ) (q : Identity) (kind : CallKind) (h : List Entry) : Type 0 where
  pub kind_is : kind ≡ Release
  pub before : List Entry
  pub is : h ≡ entry k 1 q Stops ∷ before

-- a call that waits for a reply
abbrev pub IsOpen : CallKind → Type 0
IsOpen kind = (call : Call) → open_as kind call ≡ Some call

abbrev pub IsFreeToSend : Doc → ℕ → ℕ → Identity → CallKind → List Entry → Type 0
IsFreeToSend doc k step q kind h = is_controller doc q.process ≡ true → HasStopped k q kind h ⊎ ((alive q.process h ≡ Some q.incarnation) × (call_in q h ≡ None) × (3 ≤ step) × IsOpen kind)

-- a request of step 3 follows a counted reply
pub record Replied (doc : Doc) (k : ℕ) (q : Identity) (request : Request) (h : List Entry) : Type 0 where
  pub waiting : Call
  pub reply : Reply
  pub before : List Entry
  pub is : h ≡ entry k 3 q (Delivers waiting reply true) ∷ before
  pub follows : follow_on doc q k waiting.kind waiting.request reply h ≡ Asks request

abbrev pub IsReplied : Doc → ℕ → ℕ → Identity → Request → List Entry → Type 0
IsReplied doc k step q request h = is_controller doc q.process ≡ true → step ≡ 3 → Replied doc k q request h

pub record MadeSend (doc : Doc) (k step : ℕ) (who : Actor) (call : Call) (arrives : Option ℕ) (h : List Entry) : Type 0 where
  pub step_is : (step ≡ 1) ⊎ ((step ≡ 3) ⊎ (step ≡ 4))
  pub q : Identity
  pub kind : CallKind
  pub request : Request
  pub by : who ≡ actor_of q
  pub call_is : call ≡ next_call q k kind request h
  pub arrives_is : arrives ≡ request_arrival doc q.process k h
  pub free : IsFreeToSend doc k step q kind h
  pub replied : IsReplied doc k step q request h

pub record MadeAnswer (doc : Doc) (k step : ℕ) (who : Actor) (call : Call) (reply : Reply) (comes : Option ℕ) (wrote : Option Object) (h : List Entry) : Type 0 where
  pub step_is : step ≡ 2
  pub s : Sent
  pub by : who ≡ actor_of s.who
  pub arriving : Arriving k h s
  pub call_is : call ≡ s.call
  pub reply_is : reply ≡ answer s.call.request h
  pub comes_is : comes ≡ reply_arrival doc s.who.process k h
  pub written_is : wrote ≡ written s.call.request h

pub record MadeDelivery (doc : Doc) (k step : ℕ) (who : Actor) (call : Call) (reply : Reply) (h : List Entry) : Type 0 where
  pub step_is : step ≡ 3
  pub b : Back
  pub by : who ≡ actor_of b.who
  pub coming : Coming k h b
  pub reply_is : reply ≡ b.reply
  pub counted_is : counted doc b.who k b.call.number h ≡ Some call

pub record MadeEnd (doc : Doc) (k step : ℕ) (who : Actor) (h : List Entry) : Type 0 where
  pub step_is : step ≡ 4
  pub q : Identity
  pub by : who ≡ actor_of q
  pub up : alive q.process h ≡ Some q.incarnation
  pub at : ℕ
  pub deadline_is : deadline doc q h ≡ Some at
  pub late : nat_lt (local doc q.process k) at ≡ false

pub record MadeExpiry (doc : Doc) (k : ℕ) (who : Actor) (call : Call) (h : List Entry) : Type 0 where
  pub q : Identity
  pub by : who ≡ actor_of q
  pub up : alive q.process h ≡ Some q.incarnation
  pub waits : call_in q h ≡ Some call
  pub late : is_late doc q k call ≡ true

-- what an entry of this beat shows of the history before it, under the project's own rules
abbrev pub MadeAs : Doc → ℕ → ℕ → Actor → Fact → List Entry → Type 0
MadeAs doc k step who (First key object) h = k ≡ 0
MadeAs doc k step who (Happens w version) h = (step ≡ 1) × (u : What) × Scripted doc k u × (w ≡ stamp doc k u) × (version ≡ event_version u h)
MadeAs doc k step who (Sends call arrives) h = MadeSend doc k step who call arrives h
MadeAs doc k step who (Answers call reply comes wrote) h = MadeAnswer doc k step who call reply comes wrote h
MadeAs doc k step who (Delivers call reply true) h = MadeDelivery doc k step who call reply h
MadeAs doc k step who (Delivers call reply false) h = Unit {0}
MadeAs doc k step who (Expires call) h = MadeExpiry doc k who call h
MadeAs doc k step who (Ticks t) h = (q : Identity) × (who ≡ actor_of q) × MadeTick doc k q t h
MadeAs doc k step who Starts h = (p : ℕ) × (who ≡ actor_of (identity p (starts p h + 1)))
MadeAs doc k step who Crashes h = step ≡ 1
MadeAs doc k step who Stops h = step ≡ 1
MadeAs doc k step who (Stalls beats) h = Unit {0}
MadeAs doc k step who Ends h = MadeEnd doc k step who h
MadeAs doc k step who (Leads version) h = Unit {0}
MadeAs doc k step who StepsDown h = ⊥
MadeAs doc k step who (ReleaseBegins at_deadline) h = ⊥
MadeAs doc k step who ReleaseEnds h = ⊥
MadeAs doc k step who ReleaseStops h = ⊥

abbrev pub IsMade : Doc → Entry → List Entry → Type 0
IsMade doc x h = MadeAs doc x.beat x.step x.actor x.fact h

-- each entry of a history was made so
abbrev AreMade : Doc → List Entry → Type 0
AreMade doc h = (x : Entry) (before : List Entry) → IsTail (x ∷ before) h → IsMade doc x before

made_more : (doc : Doc) (x : Entry) (h : List Entry) → IsMade doc x h → AreMade doc h → AreMade doc (x ∷ h)
made_more doc x h new s e before (inl is) =
    subst (λ (e : Entry). IsMade doc e before) (sym (same_head e x before h is)) (subst (λ g. IsMade doc x g) (sym (same_rest e x before h is)) new)
made_more doc x h new s e before (inr at) = s e before at

-- ---- requests

sends : (doc : Doc) (k step : ℕ) (q : Identity) (kind : CallKind) (request : Request) (h : List Entry) → (step ≡ 1) ⊎ ((step ≡ 3) ⊎ (step ≡ 4)) → IsFreeToSend doc k step q kind h → IsReplied doc k step q request h → AreMade doc h → AreMade doc (send doc k step q kind request h)
sends doc k step q kind request h at free replied s =
    made_more doc (entry k step q (Sends (next_call q k kind request h) (request_arrival doc q.process k h))) h
    (record { step_is = at; q = q; kind = kind; request = request; by = refl; call_is = refl; arrives_is = refl; free = free; replied = replied }) s

-- after a counted reply no call waits
replied : (k : ℕ) (b : Back) (waiting : Call) (h : List Entry) → call_in b.who (after_reply k b waiting h) ≡ None
replied k b waiting h = ap (λ t. join (upper (when t None) (last_call b.who h))) (same_self b.who)

-- an attempt waits for its reply
attempt_opens : (doc : Doc) (q : Identity) (k : ℕ) (h : List Entry) → IsOpen (attempt doc q k h).0
attempt_opens doc q k h c = by_test (doc.settings.fast_renew && leads q h)
  where
    by_own : (b : Bool) (x : Shown) → open_as (cond {A = CallKind × Request} b (Fast, Update election x.0 (renewed q (moment doc q k) x.1)) (Plain, Get election)).0 c ≡ Some c
    by_own true x = refl
    by_own false x = refl

    by_shown : (o : Option Shown) → open_as (attempt_from q (moment doc q k) (observed_at doc q h) o).0 c ≡ Some c
    by_shown None = refl
    by_shown (Some x) = by_own (is_own q x.1.holder && is_valid (local doc q.process k) (observed_at doc q h) x.1) x

    by_test : (b : Bool) → open_as (cond {A = CallKind × Request} b (attempt_from q (moment doc q k) (observed_at doc q h) (shown q h)) (Plain, Get election)).0 c ≡ Some c
    by_test true = by_shown (shown q h)
    by_test false = refl

other_role : (doc : Doc) (p : ℕ) (A : Type 0) → is_controller doc p ≡ false → is_controller doc p ≡ true → A
other_role doc p A other role = absurd (never (sym other ∙ role))
  where
    never : false ≡ true → ⊥
    never h = cc

made_keeps : (doc : Doc) → Keeps doc (λ k step h. AreMade doc h)
made_keeps doc = record {
  on = λ k step h s. s;
  next = λ k s. s;
  event = λ k w h scripted s. made_more doc _ h (refl, w, scripted, refl, refl) s;
  starts = λ k step p h s. made_more doc _ h (p, refl) s;
  crashes = λ k p i h up s. made_more doc _ h refl s;
  stalls = λ k id beats i h scripted up s. made_more doc _ h tt s;
  stops = λ k id i h scripted up free s. made_more doc _ h refl s;
  releases = λ k id i before request scripted up awake is stop was s.
      sends doc k 1 (record { process = id.0; incarnation = i }) Release request (stopped_at k id i before) (inl refl) (λ role. inl (record { kind_is = refl; before = _; is = refl })) (λ role three. absurd (omega (arith, three))) s;
  answers = λ k x h at s. made_more doc _ h (record { step_is = refl; s = x; by = refl; arriving = at; call_is = refl; reply_is = refl; comes_is = refl; written_is = refl }) s;
  ignores = λ k b h coming is s. made_more doc _ h tt s;
  counts = λ k b waiting h coming is of s. made_more doc _ h (record { step_is = refl; b = b; by = refl; coming = coming; reply_is = refl; counted_is = is }) s;
  follows = λ k b waiting h request coming is role of follows was s.
      sends doc k 3 b.who Plain request (after_reply k b waiting h) (inr (inl refl)) (λ role. inr ((counted_is doc b.who k b.call.number h waiting is).up, replied k b waiting h, omega arith, λ call. refl)) (λ role three. record { waiting = waiting; reply = b.reply; before = h; is = refl; follows = follows }) s;
  leads = λ k b waiting h version coming is role of follows was s. made_more doc _ (after_reply k b waiting h) tt s;
  asks = λ k b waiting h request coming is role asked was s.
      sends doc k 3 b.who Plain request (after_reply k b waiting h) (inr (inl refl)) (λ role. inr ((counted_is doc b.who k b.call.number h waiting is).up, replied k b waiting h, omega arith, λ call. refl)) (other_role doc b.who.process (3 ≡ 3 → Replied doc k b.who request (after_reply k b waiting h)) role) s;
  turns = record {
    restarts = λ k p h s. made_more doc _ h (p, refl) s;
    expires = λ k p i call h up waits late of s. made_more doc _ h (record { q = record { process = p; incarnation = i }; by = refl; up = up; waits = waits; late = late }) s;
    ends = λ k p i at h role up is before stop s. made_more doc _ h (record { step_is = refl; q = record { process = p; incarnation = i }; by = refl; up = up; at = at; deadline_is = is; late = before }) s;
    polls = λ k p i h role up awake waits s. sends doc k 4 (record { process = p; incarnation = i }) Plain (Get election) h (inr (inr refl)) (λ role. inr (up, waits, omega arith, λ call. refl)) (λ role three. absurd (omega (arith, three))) s;
    attempts = λ k p i h role up awake waits s.
        let q : Identity = record { process = p; incarnation = i } in
        sends doc k 4 q (attempt doc q k h).0 (attempt doc q k h).1 h (inr (inr refl)) (λ role. inr (up, waits, omega arith, attempt_opens doc q k h)) (λ role three. absurd (omega (arith, three))) s;
    seeks = λ k p i call h role up awake expired late s.
        sends doc k 4 (record { process = p; incarnation = i }) Plain (Get (node_lease (node_of doc p))) h (inr (inr refl)) (other_role doc p (HasStopped k (record { process = p; incarnation = i }) Plain h ⊎ _) role) (λ role three. absurd (omega (arith, three))) s;
    posts = λ k p i h role up awake none s.
        let q : Identity = record { process = p; incarnation = i } in
        sends doc k 4 q Plain (post doc q k h) h (inr (inr refl)) (other_role doc p (HasStopped k q Plain h ⊎ _) role) (λ role three. absurd (omega (arith, three))) s;
    ticks = λ k q h acting s. walk_tick doc k q (AreMade doc) (λ t g made s. made_more doc _ g (q, refl, made) s) h s;
  };
}

puts_made : (doc : Doc) (xs : List (Key × Object)) (h : List Entry) → AreMade doc h → AreMade doc (put_all doc xs h)
puts_made doc [] h s = s
puts_made doc (x ∷ xs) h s =
    let e = script_entry 0 0 (First x.0 (stamped (whole_second (store_wall doc 0)) x.1)) in
    puts_made doc xs (e ∷ h) (made_more doc e h refl s)

pub are_made : (doc : Doc) → ReleasesByStop doc → (k : ℕ) (x : Entry) (before : List Entry) → IsTail (x ∷ before) (history doc k) → IsMade doc x before
are_made doc own k =
    walk_history doc (λ k step h. AreMade doc h) (made_keeps doc) (no_release doc (λ k step h. AreMade doc h) own.release) (puts_made doc doc.objects [] (λ x before at. absurd (tail_of_empty x before at))) k
