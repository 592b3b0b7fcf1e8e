-- One walk through the steps of every beat: what each kind of entry keeps holds of every history.
use Rattle.std.proofs.Common.{◌≡◌, ◌⊎◌, ℕ, zero, suc, ◌+◌, ◌==◌, ◌&&◌, not, nat_lt, Bool, true, false, List, [], ◌∷◌, Option, Some, None, IfSome, refl, sym, ap, ◌∙◌, subst, inl, inr}
use Rattle.kube_objects.specs.InFlight.{is_due}
use Rattle.history.proofs.Due.{step_two-walks, step_three-walks, each, answer_due, deliver_due}
use Rattle.std.specs.Prelude.{if◌then◌else◌}
use Rattle.kube_base.specs.declared.numbers.ProcId.{ProcId}
use Rattle.kube_base.specs.declared.numbers.Version.{Version}
use Rattle.kube_objects.specs.declared.call.Request.{Request}
use Rattle.kube_objects.specs.declared.call.Request.TheVariants.{Get}
use Rattle.kube_objects.specs.declared.deed.Actor.{Actor}
use Rattle.kube_objects.specs.declared.call.Reply.{Reply}
use Rattle.kube_objects.specs.declared.rules.ReleaseRule.{ReleaseRule}
use Rattle.kube_objects.specs.declared.rules.ReleaseRule.TheVariants as rules
use Rattle.kube_objects.specs.declared.script.Event.{Event}
use Rattle.kube_objects.specs.declared.script.What.{What}
use Rattle.kube_objects.specs.declared.script.What.TheVariants as what
use Rattle.kube_objects.specs.Clocks.{local, wall}
use Rattle.kube_objects.specs.Document.{Doc, processes, is_controller, is_up_first}
use Rattle.kube_objects.specs.Elector.{Follow, Fails, Asks, Succeeds, follow_on, leads, deadline, timer, attempt, release as releases_of, acts, acts_by, acts_on, shown, release_from}
use Rattle.kube_objects.specs.Entry.{Entry, Identity, Call, CallKind, Plain, Fast, Release, Look, Emptying, Fact, Event as Happens, Starts, Crashes, Stops, Stalls, Ends, ReleaseBegins, ReleaseStops, Delivers, Expires, Sends, Leads, Ticks, actor_of, entry, script_entry}
use Rattle.kube_objects.specs.Identities.{identity}
use Rattle.kube_objects.specs.Kubelet.{node_of, is_post, has_round, next_request, post, send_next, is_post_call, round_if, is_round_due, round_timer, round}
use Rattle.kube_objects.specs.Newest.{has, only_if}
use Rattle.kube_objects.specs.Pauses.{is_paused}
use Rattle.kube_objects.specs.Process.{alive, starts, begun, is_releasing, call_in, counted, is_late, begun_by, release_begun, ended, is_restart_due}
use Rattle.kube_objects.specs.Releases.{and_end, end_release, first_call, send_first, begin_release, is_mine, after_look, empty_or_end, react_in_release}
use Rattle.kube_objects.specs.Stalls.{is_stalled}
use Rattle.kube_objects.specs.Stored.{election, node_lease}
use Rattle.kube_objects.specs.Tick.{tick}
use Rattle.kube_objects.specs.Turns.{react, expire_as, expire_call, end_released, end_as, end_term, just_expired, is_fast_call, attempt_if, try}
use Rattle.kube_objects.specs.Wire.{send, Sent, Back, sent_of, back_of}
use Rattle.history.specs.History.{three_steps, history, at_turn}
use Rattle.history.specs.Steps.{start, start_first, starts_below, first_starts, start_if_down, crash, stall, released, stop_at_once, stop_releasing, stop_as, stop, effect, stamp, event_version, happen_all, step_one, answered, step_two, elector_react, react_as, deliver_as, step_three, if_up, restart_if, restart, expire, finish, attempts, ticks_while, ticks, controller_turn, kubelet_turn, turn, turns, elector_turn, happens, delivered, unpaused_turn}
use Rattle.history_laws.specs.Tails.{In}
use Rattle.history_laws.proofs.Counting.{counted_is, only_test, only_value}
use Rattle.history_laws.proofs.Expired.{expired_none}
use Rattle.history_laws.proofs.Plainly.{true_is, and_left, not_true}
use Rattle.history_laws.proofs.Ticks.{MadeTick, walk_tick}

abbrev pub InScript : Event → List Event → Type 0
InScript e [] = ⊥
InScript e (x ∷ xs) = (e ≡ x) ⊎ InScript e xs

-- an event of the script at this beat does this
abbrev pub Scripted : Doc → ℕ → What → Type 0
Scripted doc k w = (e : Event) × InScript e doc.events × (e.what ≡ w) × ((e.beat.0 == k) ≡ true)

-- a request of the history arrives at this beat
pub record Arriving (k : ℕ) (h : List Entry) (s : Sent) : Type 0 where
  pub e : Entry
  pub stands : In e h
  pub is : sent_of e.actor e.fact ≡ Some s
  pub now : is_due k s.arrives ≡ true

-- a reply of the history comes at this beat
pub record Coming (k : ℕ) (h : List Entry) (b : Back) : Type 0 where
  pub e : Entry
  pub stands : In e h
  pub is : back_of e.actor e.fact ≡ Some b
  pub now : is_due k b.comes ≡ true

-- the entries of a stop at beat k, on the history before it
abbrev pub stopped_at : ℕ → ProcId → ℕ → List Entry → List Entry
stopped_at k id i before = entry k 1 (identity id.0 i) Stops ∷ script_entry k 1 (Happens (what.Stop id) None) ∷ before

-- and of one that begins a release
abbrev pub halted_at : ℕ → ProcId → ℕ → List Entry → List Entry
halted_at k id i before = entry k 1 (identity id.0 i) ReleaseStops ∷ script_entry k 1 (Happens (what.Stop id) None) ∷ before

-- the history after a counted reply
abbrev pub after_reply : ℕ → Back → Call → List Entry → List Entry
after_reply k b waiting h = entry k 3 b.who (Delivers waiting b.reply true) ∷ h

-- an identity acts as its tick begins in its turn of beat k
pub record Ticking (doc : Doc) (q : Identity) (k : ℕ) : Type 0 where
  pub role : is_controller doc q.process ≡ true
  pub up : alive q.process (elector_turn doc k q.process (at_turn doc q.process k)) ≡ Some q.incarnation
  pub acting : acts doc q k (elector_turn doc k q.process (at_turn doc q.process k)) ≡ true

-- somebody, of whom nothing is known
abbrev pub Anyone : Identity → ℕ → Type 0
Anyone q k = Unit {0}

-- whoever acts as the tick begins of a turn on this history is one of these
abbrev pub Begins : Doc → (Identity → ℕ → Type 0) → ℕ → ℕ → List Entry → Type 0
Begins doc A k p h = (i : ℕ) → is_controller doc p ≡ true → alive p (elector_turn doc k p h) ≡ Some i → acts doc (identity p i) k (elector_turn doc k p h) ≡ true → A (identity p i) k

-- releases have one update, which a stop sends
abbrev pub IsStop : Doc → Type 0
IsStop doc = doc.settings.rules.release ≡ rules.Stop

-- a property at a beat that each kind of entry of a turn keeps; A says who ticks
pub record KeepsTurn (doc : Doc) (A : Identity → ℕ → Type 0) (P : ℕ → List Entry → Type 0) : Type 0 where
  pub restarts : (k p : ℕ) (h : List Entry) → P k h → P k (start k 4 p h)
  pub expires : (k p i : ℕ) (call : Call) (h : List Entry) → alive p h ≡ Some i → call_in (identity p i) h ≡ Some call → is_late doc (identity p i) k call ≡ true
      → release_begun doc.settings.rules.release call.kind ≡ None → P k h → P k (entry k 4 (identity p i) (Expires call) ∷ h)
  pub ends : (k p i at : ℕ) (h : List Entry) → is_controller doc p ≡ true → alive p h ≡ Some i → deadline doc (identity p i) h ≡ Some at → nat_lt (local doc p k) at ≡ false
      → IsStop doc → P k h → P k (entry k 4 (identity p i) Ends ∷ h)
  pub polls : (k p i : ℕ) (h : List Entry) → is_controller doc p ≡ true → alive p h ≡ Some i → is_paused doc p k ≡ false → call_in (identity p i) h ≡ None
      → P k h → P k (send doc k 4 (identity p i) Plain (Get election) h)
  pub attempts : (k p i : ℕ) (h : List Entry) → is_controller doc p ≡ true → alive p h ≡ Some i → is_paused doc p k ≡ false → call_in (identity p i) h ≡ None
      → P k h → P k (send doc k 4 (identity p i) (attempt doc (identity p i) k h).0 (attempt doc (identity p i) k h).1 h)
  pub seeks : (k p i : ℕ) (call : Call) (h : List Entry) → is_controller doc p ≡ false → alive p h ≡ Some i → is_paused doc p k ≡ false → just_expired (identity p i) k h ≡ Some call → is_post call.request ≡ true
      → P k h → P k (send doc k 4 (identity p i) Plain (Get (node_lease (node_of doc p))) h)
  pub posts : (k p i : ℕ) (h : List Entry) → is_controller doc p ≡ false → alive p h ≡ Some i → is_paused doc p k ≡ false → has_round (identity p i) h ≡ false
      → P k h → P k (send doc k 4 (identity p i) Plain (post doc (identity p i) k h) h)
  pub ticks : (k : ℕ) (q : Identity) (h : List Entry) → A q k → P k h → P k (tick doc k q h)

-- ---- releases, which a document knows whose rule isn't that of a stop's single update

-- a property at a beat that what a release adds in a turn keeps: its end by time, and its begin at the deadline
pub record KeepsReleaseTurn (doc : Doc) (P : ℕ → List Entry → Type 0) : Type 0 where
  pub closes : (k p i begun : ℕ) (call : Call) (h : List Entry) → alive p h ≡ Some i → call_in (identity p i) h ≡ Some call → is_late doc (identity p i) k call ≡ true
      → release_begun doc.settings.rules.release call.kind ≡ Some begun → P k h → P k (end_release doc k 4 (identity p i) h)
  pub begins : (k p i at : ℕ) (h : List Entry) → is_controller doc p ≡ true → alive p h ≡ Some i → is_paused doc p k ≡ false → deadline doc (identity p i) h ≡ Some at → nat_lt (local doc p k) at ≡ false
      → (IsStop doc → ⊥) → is_releasing (identity p i) h ≡ false → P k h
      → P k (begin_release doc k 4 (identity p i) true (and_end k 4 (identity p i) (not (acts_by doc.settings.rules.in_release true)) h))

-- and at a beat and a step: a stop while it runs, its begin at a stop, and the two things that a reply in it causes, an emptying and its end
pub record KeepsRelease (doc : Doc) (P : ℕ → ℕ → List Entry → Type 0) : Type 0 where
  pub halts : (k : ℕ) (id : ProcId) (i : ℕ) (h : List Entry) → Scripted doc k (what.Stop id) → alive id.0 h ≡ Some i → (IsStop doc → ⊥) → is_releasing (identity id.0 i) h ≡ true
      → P k 1 h → P k 1 (entry k 1 (identity id.0 i) ReleaseStops ∷ h)
  pub begins : (k : ℕ) (id : ProcId) (i : ℕ) (before : List Entry) → Scripted doc k (what.Stop id) → alive id.0 before ≡ Some i → is_paused doc id.0 k ≡ false → (IsStop doc → ⊥)
      → is_releasing (identity id.0 i) before ≡ false → leads (identity id.0 i) before ≡ true → P k 1 (script_entry k 1 (Happens (what.Stop id) None) ∷ before)
      → P k 1 (begin_release doc k 1 (identity id.0 i) false (halted_at k id i before))
  pub empties : (k begun : ℕ) (b : Back) (waiting : Call) (h : List Entry) (request : Request) → Coming k h b → counted doc b.who k b.call.number h ≡ Some waiting → is_controller doc b.who.process ≡ true
      → release_begun doc.settings.rules.release waiting.kind ≡ Some begun → waiting.kind ≡ Look begun
      → after_look doc.settings.rules.release b.who (wall doc b.who.process k) (is_mine b.who (after_reply k b waiting h)) b.reply ≡ Some request
      → P k 3 h → P k 3 (send doc k 3 b.who (Emptying begun) request (after_reply k b waiting h))
  pub closes : (k begun : ℕ) (b : Back) (waiting : Call) (h : List Entry) → Coming k h b → counted doc b.who k b.call.number h ≡ Some waiting → is_controller doc b.who.process ≡ true
      → release_begun doc.settings.rules.release waiting.kind ≡ Some begun → P k 3 h → P k 3 (end_release doc k 3 b.who (after_reply k b waiting h))
  pub turns : KeepsReleaseTurn doc (λ k h. P k 4 h)

-- under the rule of a stop's single update there is nothing to keep
none_begun : (rule : ReleaseRule) (kind : CallKind) (begun : ℕ) → rule ≡ rules.Stop → release_begun rule kind ≡ Some begun → ⊥
none_begun rules.Stop kind begun stop is = cc
none_begun rules.Own kind begun stop is = cc
none_begun rules.Checked kind begun stop is = cc
none_begun rules.Reread kind begun stop is = cc

-- and under another one a call is of the release that its kind says
as_begun : (rule : ReleaseRule) (kind : CallKind) (begun : ℕ) → release_begun rule kind ≡ Some begun → release_begun rule kind ≡ begun_by kind
as_begun rules.Stop kind begun is = cc
as_begun rules.Own kind begun is = refl
as_begun rules.Checked kind begun is = refl
as_begun rules.Reread kind begun is = refl

pub no_release_turn : (doc : Doc) (P : ℕ → List Entry → Type 0) → IsStop doc → KeepsReleaseTurn doc P
no_release_turn doc P stop = record {
  closes = λ k p i begun call h up waits late is s. absurd (none_begun doc.settings.rules.release call.kind begun stop is);
  begins = λ k p i at h role up awake is before other fresh s. absurd (other stop);
}

pub no_release : (doc : Doc) (P : ℕ → ℕ → List Entry → Type 0) → IsStop doc → KeepsRelease doc P
no_release doc P stop = record {
  halts = λ k id i h scripted up other runs s. absurd (other stop);
  begins = λ k id i before scripted up awake other fresh led s. absurd (other stop);
  empties = λ k begun b waiting h request coming is role of look asked s. absurd (none_begun doc.settings.rules.release waiting.kind begun stop of);
  closes = λ k begun b waiting h coming is role of s. absurd (none_begun doc.settings.rules.release waiting.kind begun stop of);
  turns = no_release_turn doc (λ k h. P k 4 h) stop;
}

-- a property, at a beat and a step, that each kind of entry keeps
pub record Keeps (doc : Doc) (P : ℕ → ℕ → List Entry → Type 0) : Type 0 where
  pub on : (k step : ℕ) (h : List Entry) → P k step h → P k (suc step) h
  pub next : (k : ℕ) → P k 4 (history doc (suc k)) → P (suc k) 1 (history doc (suc k))
  pub event : (k : ℕ) (w : What) (h : List Entry) → Scripted doc k w → P k 1 h → P k 1 (script_entry k 1 (Happens (stamp doc k w) (event_version w h)) ∷ h)
  pub starts : (k step p : ℕ) (h : List Entry) → P k step h → P k step (start k step p h)
  pub crashes : (k p i : ℕ) (h : List Entry) → alive p h ≡ Some i → P k 1 h → P k 1 (entry k 1 (identity p i) Crashes ∷ h)
  pub stalls : (k : ℕ) (id : ProcId) (beats i : ℕ) (h : List Entry) → Scripted doc k (what.Pause id beats) → alive id.0 h ≡ Some i → P k 1 h → P k 1 (entry k 1 (identity id.0 i) (Stalls beats) ∷ h)
  pub stops : (k : ℕ) (id : ProcId) (i : ℕ) (h : List Entry) → Scripted doc k (what.Stop id) → alive id.0 h ≡ Some i → ((IsStop doc → ⊥) → is_releasing (identity id.0 i) h ≡ false)
      → P k 1 h → P k 1 (entry k 1 (identity id.0 i) Stops ∷ h)
  pub releases : (k : ℕ) (id : ProcId) (i : ℕ) (before : List Entry) (request : Request) → Scripted doc k (what.Stop id) → alive id.0 before ≡ Some i → is_paused doc id.0 k ≡ false
      → releases_of doc (identity id.0 i) k before ≡ Some request → IsStop doc → P k 1 (script_entry k 1 (Happens (what.Stop id) None) ∷ before) → P k 1 (stopped_at k id i before) → P k 1 (send doc k 1 (identity id.0 i) Release request (stopped_at k id i before))
  pub answers : (k : ℕ) (s : Sent) (h : List Entry) → Arriving k h s → P k 2 h → P k 2 (answered doc k s h)
  pub ignores : (k : ℕ) (b : Back) (h : List Entry) → Coming k h b → counted doc b.who k b.call.number h ≡ None → P k 3 h → P k 3 (entry k 3 b.who (Delivers b.call b.reply false) ∷ h)
  pub counts : (k : ℕ) (b : Back) (waiting : Call) (h : List Entry) → Coming k h b → counted doc b.who k b.call.number h ≡ Some waiting
      → (is_controller doc b.who.process ≡ true → release_begun doc.settings.rules.release waiting.kind ≡ None) → P k 3 h → P k 3 (after_reply k b waiting h)
  pub follows : (k : ℕ) (b : Back) (waiting : Call) (h : List Entry) (request : Request) → Coming k h b → counted doc b.who k b.call.number h ≡ Some waiting
      → is_controller doc b.who.process ≡ true → release_begun doc.settings.rules.release waiting.kind ≡ None
      → follow_on doc b.who k waiting.kind waiting.request b.reply (after_reply k b waiting h) ≡ Asks request
      → P k 3 h → P k 3 (after_reply k b waiting h) → P k 3 (send doc k 3 b.who Plain request (after_reply k b waiting h))
  pub leads : (k : ℕ) (b : Back) (waiting : Call) (h : List Entry) (version : Version) → Coming k h b → counted doc b.who k b.call.number h ≡ Some waiting
      → is_controller doc b.who.process ≡ true → release_begun doc.settings.rules.release waiting.kind ≡ None
      → follow_on doc b.who k waiting.kind waiting.request b.reply (after_reply k b waiting h) ≡ Succeeds version
      → P k 3 h → P k 3 (after_reply k b waiting h) → P k 3 (entry k 3 b.who (Leads version) ∷ after_reply k b waiting h)
  pub asks : (k : ℕ) (b : Back) (waiting : Call) (h : List Entry) (request : Request) → Coming k h b → counted doc b.who k b.call.number h ≡ Some waiting
      → is_controller doc b.who.process ≡ false → next_request doc b.who k waiting.request b.reply ≡ Some request
      → P k 3 h → P k 3 (after_reply k b waiting h) → P k 3 (send doc k 3 b.who Plain request (after_reply k b waiting h))
  pub turns : KeepsTurn doc (Ticking doc) (λ k h. P k 4 h)

-- what every new entry has: a call's number is the next one, and so is a start's incarnation
abbrev pub StartIsNext : Actor → Fact → List Entry → Type 0
StartIsNext who Starts h = (p : ℕ) × (who ≡ actor_of (identity p (starts p h + 1)))
StartIsNext who _ h = Unit {0}

abbrev pub CallIsNext : List Entry → Sent → Type 0
CallIsNext h s = s.call.number ≡ begun s.who h + 1

-- and whoever comes to lead is up
abbrev pub LeadIsUp : Actor → Fact → List Entry → Type 0
LeadIsUp who (Leads version) h = (q : Identity) × (who ≡ actor_of q) × (alive q.process h ≡ Some q.incarnation)
LeadIsUp who _ h = Unit {0}

abbrev pub IsNext : Entry → List Entry → Type 0
IsNext x h = StartIsNext x.actor x.fact h × IfSome (sent_of x.actor x.fact) (CallIsNext h) × LeadIsUp x.actor x.fact h

-- an entry of a tick is by one who ticks, and is as a tick makes it
abbrev pub Made : Doc → ℕ → Actor → Fact → List Entry → Type 0
Made doc k who (Ticks t) h = (q : Identity) × (who ≡ actor_of q) × Ticking doc q k × MadeTick doc k q t h
Made doc k who _ h = Unit {0}

-- an entry that is of no tick
abbrev pub IsPlain : Fact → Type 0
IsPlain (Ticks t) = ⊥
IsPlain _ = Unit {0}

plain_made : (doc : Doc) (k : ℕ) (who : Actor) (d : Fact) (h : List Entry) → IsPlain d → Made doc k who d h
plain_made doc k who (Ticks t) h plain = absurd plain
plain_made doc k who d h plain = tt

-- what a release adds, for a property that every new entry keeps
module _ (doc : Doc) (P : List Entry → Type 0) (k step : ℕ) (more : (x : Entry) (h : List Entry) → x.beat ≡ k → x.step ≡ step → IsNext x h → IsPlain x.fact → P h → P (x ∷ h)) where
  pub keeps_and_end : (q : Identity) (b : Bool) (h : List Entry) → P h → P (and_end k step q b h)
  keeps_and_end q true h s = more _ h refl refl (tt, tt, tt) tt s
  keeps_and_end q false h s = s

  pub keeps_end_release : (q : Identity) (h : List Entry) → P h → P (end_release doc k step q h)
  keeps_end_release q h s = more _ (and_end k step q (acts_on doc q h) h) refl refl (tt, tt, tt) tt (keeps_and_end q (acts_on doc q h) h s)

  pub keeps_send : (q : Identity) (kind : CallKind) (request : Request) (h : List Entry) → P h → P (send doc k step q kind request h)
  keeps_send q kind request h s = more _ h refl refl (tt, refl, tt) tt s

  keeps_first : (q : Identity) (o : Option (CallKind × Request)) (h : List Entry) → P h → P (send_first doc k step q o h)
  keeps_first q None h s = keeps_end_release q h s
  keeps_first q (Some call) h s = keeps_send q call.0 call.1 h s

  pub keeps_begin_release : (q : Identity) (at_deadline : Bool) (h : List Entry) → P h → P (begin_release doc k step q at_deadline h)
  keeps_begin_release q at_deadline h s =
      keeps_first q (first_call doc.settings.rules.release k (release_from q (wall doc q.process k) (shown q h))) (entry k step q (ReleaseBegins at_deadline) ∷ h)
      (more _ h refl refl (tt, tt, tt) tt s)

  -- at the deadline
  pub keeps_late : (q : Identity) (h : List Entry) → step ≡ 4 → P h → P (begin_release doc k 4 q true (and_end k 4 q (not (acts_by doc.settings.rules.in_release true)) h))
  keeps_late q h is s = subst (λ n. P (begin_release doc k n q true (and_end k n q (not (acts_by doc.settings.rules.in_release true)) h))) is
      (keeps_begin_release q true (and_end k step q (not (acts_by doc.settings.rules.in_release true)) h) (keeps_and_end q (not (acts_by doc.settings.rules.in_release true)) h s))

  pub keeps_end_as : (rule : ReleaseRule) (q : Identity) (h : List Entry) → step ≡ 4 → P h → P (end_as rule doc k q h)
  keeps_end_as rule q h is s = by_rule rule
    where
      by_running : (b : Bool) → P (end_released doc k q b h)
      by_running true = s
      by_running false = keeps_late q h is s

      by_rule : (rule : ReleaseRule) → P (end_as rule doc k q h)
      by_rule rules.Stop = more _ h refl (sym is) (tt, tt, tt) tt s
      by_rule rules.Own = by_running (is_releasing q h)
      by_rule rules.Checked = by_running (is_releasing q h)
      by_rule rules.Reread = by_running (is_releasing q h)

-- a property of turns that every new entry keeps, what a release adds
pub all_release_turns : (doc : Doc) (P : ℕ → List Entry → Type 0)
    → ((k : ℕ) (x : Entry) (h : List Entry) → x.beat ≡ k → x.step ≡ 4 → IsNext x h → P k h → P k (x ∷ h)) → KeepsReleaseTurn doc P
all_release_turns doc P more = record {
  closes = λ k p i begun call h up waits late is s. keeps_end_release doc (P k) k 4 (λ x h beat is next plain. more k x h beat is next) (identity p i) h s;
  begins = λ k p i at h role up awake is before other fresh s. keeps_late doc (P k) k 4 (λ x h beat is next plain. more k x h beat is next) (identity p i) h refl s;
}

-- a property of turns that every new entry keeps, whatever its kind
pub all_turns : (doc : Doc) (A : Identity → ℕ → Type 0) (P : ℕ → List Entry → Type 0)
    → ((k : ℕ) (x : Entry) (h : List Entry) → x.beat ≡ k → x.step ≡ 4 → IsNext x h → P k h → P k (x ∷ h)) → KeepsTurn doc A P
all_turns doc A P more = record {
  restarts = λ k p h s. more k _ h refl refl ((p, refl), tt, tt) s;
  expires = λ k p i call h up waits late of s. more k _ h refl refl (tt, tt, tt) s;
  ends = λ k p i at h role up is before stop s. more k _ h refl refl (tt, tt, tt) s;
  polls = λ k p i h role up awake waits s. more k _ h refl refl (tt, refl, tt) s;
  attempts = λ k p i h role up awake waits s. more k _ h refl refl (tt, refl, tt) s;
  seeks = λ k p i call h role up awake expired late s. more k _ h refl refl (tt, refl, tt) s;
  posts = λ k p i h role up awake none s. more k _ h refl refl (tt, refl, tt) s;
  ticks = λ k q h acting s. walk_tick doc k q (P k) (λ t g made s. more k _ g refl refl (tt, tt, tt) s) h s;
}

-- a property that only a tick may touch
pub ticked_turns : (doc : Doc) (A : Identity → ℕ → Type 0) (P : List Entry → Type 0)
    → ((k p : ℕ) (h : List Entry) → P h → P (start k 4 p h)) → ((k : ℕ) (q : Identity) (call : Call) (h : List Entry) → P h → P (entry k 4 q (Expires call) ∷ h))
    → ((k : ℕ) (q : Identity) (h : List Entry) → P h → P (entry k 4 q Ends ∷ h)) → ((k : ℕ) (q : Identity) (call : Call) (arrives : Option ℕ) (h : List Entry) → P h → P (entry k 4 q (Sends call arrives) ∷ h))
    → ((k : ℕ) (q : Identity) (h : List Entry) → A q k → P h → P (tick doc k q h)) → KeepsTurn doc A (λ k h. P h)
ticked_turns doc A P starts expires ends sends ticks = record {
  restarts = starts;
  expires = λ k p i call h up waits late of s. expires k (identity p i) call h s;
  ends = λ k p i at h role up is before stop s. ends k (identity p i) h s;
  polls = λ k p i h role up awake waits s. sends k (identity p i) _ _ h s;
  attempts = λ k p i h role up awake waits s. sends k (identity p i) _ _ h s;
  seeks = λ k p i call h role up awake expired late s. sends k (identity p i) _ _ h s;
  posts = λ k p i h role up awake none s. sends k (identity p i) _ _ h s;
  ticks = ticks;
}

-- a property that every new entry keeps, whatever its kind
pub all_kinds : (doc : Doc) (P : ℕ → ℕ → List Entry → Type 0)
    → ((k step : ℕ) (h : List Entry) → P k step h → P k (suc step) h)
    → ((k : ℕ) (h : List Entry) → P k 4 h → P (suc k) 1 h)
    → ((x : Entry) (h : List Entry) → IsNext x h → P x.beat x.step h → P x.beat x.step (x ∷ h))
    → Keeps doc P
all_kinds doc P on next more = record {
  on = on;
  next = λ k s. next k (history doc (suc k)) s;
  event = λ k w h scripted s. more _ h (tt, tt, tt) s;
  starts = λ k step p h s. more _ h ((p, refl), tt, tt) s;
  crashes = λ k p i h up s. more _ h (tt, tt, tt) s;
  stalls = λ k id beats i h scripted up s. more _ h (tt, tt, tt) s;
  stops = λ k id i h scripted up free s. more _ h (tt, tt, tt) s;
  releases = λ k id i before request scripted up awake is stop was s. more _ (stopped_at k id i before) (tt, refl, tt) s;
  answers = λ k s h at t. more _ h (tt, tt, tt) t;
  ignores = λ k b h coming is s. more _ h (tt, tt, tt) s;
  counts = λ k b waiting h coming is of s. more _ h (tt, tt, tt) s;
  follows = λ k b waiting h request coming is role of follows was s. more _ (after_reply k b waiting h) (tt, refl, tt) s;
  leads = λ k b waiting h version coming is role of follows was s. more _ (after_reply k b waiting h) (tt, tt, (b.who, refl, (counted_is doc b.who k b.call.number h waiting is).up)) s;
  asks = λ k b waiting h request coming is role follows was s. more _ (after_reply k b waiting h) (tt, refl, tt) s;
  turns = all_turns doc (Ticking doc) (λ k h. P k 4 h) (λ k x h beat step next s.
      subst (λ step. P k step (x ∷ h)) step (subst (λ k. P k x.step (x ∷ h)) beat (more x h next (subst (λ k. P k x.step h) (sym beat) (subst (λ step. P k step h) (sym step) s)))));
}

-- one that every new entry keeps, what a release adds
pub all_release : (doc : Doc) (P : ℕ → ℕ → List Entry → Type 0)
    → ((x : Entry) (h : List Entry) → IsNext x h → P x.beat x.step h → P x.beat x.step (x ∷ h))
    → KeepsRelease doc P
all_release doc P more = record {
  halts = λ k id i h scripted up other runs s. more _ h (tt, tt, tt) s;
  begins = λ k id i before scripted up awake other fresh led s.
      keeps_begin_release doc (P k 1) k 1 (λ x h beat is next plain. at k 1 x h beat is next) (identity id.0 i) false (halted_at k id i before)
      (more _ (script_entry k 1 (Happens (what.Stop id) None) ∷ before) (tt, tt, tt) s);
  empties = λ k begun b waiting h request coming is role of look asked s. more _ (after_reply k b waiting h) (tt, refl, tt) (more _ h (tt, tt, tt) s);
  closes = λ k begun b waiting h coming is role of s.
      keeps_end_release doc (P k 3) k 3 (λ x h beat is next plain. at k 3 x h beat is next) b.who (after_reply k b waiting h) (more _ h (tt, tt, tt) s);
  turns = all_release_turns doc (λ k h. P k 4 h) (λ k x h beat step next s. at k 4 x h beat step next s);
}
  where
    at : (k step : ℕ) (x : Entry) (h : List Entry) → x.beat ≡ k → x.step ≡ step → IsNext x h → P k step h → P k step (x ∷ h)
    at k step x h beat is next s =
        subst (λ step. P k step (x ∷ h)) is (subst (λ k. P k x.step (x ∷ h)) beat (more x h next (subst (λ k. P k x.step h) (sym beat) (subst (λ step. P k step h) (sym is) s))))

-- a property that every new entry keeps, of whom only a tick's is known how it was made
pub all_made : (doc : Doc) (P : ℕ → ℕ → List Entry → Type 0)
    → ((k step : ℕ) (h : List Entry) → P k step h → P k (suc step) h)
    → ((k : ℕ) (h : List Entry) → P k 4 h → P (suc k) 1 h)
    → ((x : Entry) (h : List Entry) → Made doc x.beat x.actor x.fact h → P x.beat x.step h → P x.beat x.step (x ∷ h))
    → Keeps doc P
all_made doc P on next more = record {
  on = on;
  next = λ k s. next k (history doc (suc k)) s;
  event = λ k w h scripted s. more _ h tt s;
  starts = λ k step p h s. more _ h tt s;
  crashes = λ k p i h up s. more _ h tt s;
  stalls = λ k id beats i h scripted up s. more _ h tt s;
  stops = λ k id i h scripted up free s. more _ h tt s;
  releases = λ k id i before request scripted up awake is stop was s. more _ (stopped_at k id i before) tt s;
  answers = λ k s h at t. more _ h tt t;
  ignores = λ k b h coming is s. more _ h tt s;
  counts = λ k b waiting h coming is of s. more _ h tt s;
  follows = λ k b waiting h request coming is role of follows was s. more _ (after_reply k b waiting h) tt s;
  leads = λ k b waiting h version coming is role of follows was s. more _ (after_reply k b waiting h) tt s;
  asks = λ k b waiting h request coming is role follows was s. more _ (after_reply k b waiting h) tt s;
  turns = record {
    restarts = λ k p h s. more _ h tt s;
    expires = λ k p i call h up waits late of s. more _ h tt s;
    ends = λ k p i at h role up is before stop s. more _ h tt s;
    polls = λ k p i h role up awake waits s. more _ h tt s;
    attempts = λ k p i h role up awake waits s. more _ h tt s;
    seeks = λ k p i call h role up awake expired late s. more _ h tt s;
    posts = λ k p i h role up awake none s. more _ h tt s;
    ticks = λ k q h acting s. walk_tick doc k q (P k 4) (λ t g made s. more _ g (q, refl, acting, made) s) h s;
  };
}

-- one that every new entry of no tick keeps, what a release adds
pub plain_release : (doc : Doc) (P : ℕ → ℕ → List Entry → Type 0)
    → ((x : Entry) (h : List Entry) → IsPlain x.fact → P x.beat x.step h → P x.beat x.step (x ∷ h))
    → KeepsRelease doc P
plain_release doc P more = record {
  halts = λ k id i h scripted up other runs s. more _ h tt s;
  begins = λ k id i before scripted up awake other fresh led s.
      keeps_begin_release doc (P k 1) k 1 (at k 1) (identity id.0 i) false (halted_at k id i before) (more _ (script_entry k 1 (Happens (what.Stop id) None) ∷ before) tt s);
  empties = λ k begun b waiting h request coming is role of look asked s. more _ (after_reply k b waiting h) tt (more _ h tt s);
  closes = λ k begun b waiting h coming is role of s. keeps_end_release doc (P k 3) k 3 (at k 3) b.who (after_reply k b waiting h) (more _ h tt s);
  turns = record {
    closes = λ k p i begun call h up waits late is s. keeps_end_release doc (P k 4) k 4 (at k 4) (identity p i) h s;
    begins = λ k p i reading h role up awake is before other fresh s. keeps_late doc (P k 4) k 4 (at k 4) (identity p i) h refl s;
  };
}
  where
    at : (k step : ℕ) (x : Entry) (h : List Entry) → x.beat ≡ k → x.step ≡ step → IsNext x h → IsPlain x.fact → P k step h → P k step (x ∷ h)
    at k step x h beat is next plain s =
        subst (λ step. P k step (x ∷ h)) is (subst (λ k. P k x.step (x ∷ h)) beat (more x h plain (subst (λ k. P k x.step h) (sym beat) (subst (λ step. P k step h) (sym is) s))))

pub made_release : (doc : Doc) (P : ℕ → ℕ → List Entry → Type 0)
    → ((x : Entry) (h : List Entry) → Made doc x.beat x.actor x.fact h → P x.beat x.step h → P x.beat x.step (x ∷ h))
    → KeepsRelease doc P
made_release doc P more = plain_release doc P (λ x h plain s. more x h (plain_made doc x.beat x.actor x.fact h plain) s)

-- ---- step 4

module _ (doc : Doc) (A : Identity → ℕ → Type 0) (P : ℕ → List Entry → Type 0) (keeps : KeepsTurn doc A P) (release : KeepsReleaseTurn doc P) where
  walk_if_up : (k p : ℕ) (f : Identity → List Entry → List Entry) → ((i : ℕ) (h : List Entry) → alive p h ≡ Some i → P k h → P k (f (identity p i) h)) → (up : Option ℕ) (h : List Entry) → alive p h ≡ up → P k h → P k (if_up p f up h)
  walk_if_up k p f one None h is s = s
  walk_if_up k p f one (Some i) h is s = one i h is s

  walk_restart_as : (k p : ℕ) (b : Bool) (h : List Entry) → P k h → P k (if b then start k 4 p h else h)
  walk_restart_as k p false h s = s
  walk_restart_as k p true h s = keeps.restarts k p h s

  walk_restart : (k p : ℕ) (up : Option ℕ) (h : List Entry) → P k h → P k (restart_if doc k p up h)
  walk_restart k p (Some i) h s = s
  walk_restart k p None h s = walk_restart_as k p (is_restart_due doc p k (ended doc p h)) h s

  walk_expired : (k p i : ℕ) (call : Call) (h : List Entry) → alive p h ≡ Some i → call_in (identity p i) h ≡ Some call → is_late doc (identity p i) k call ≡ true
      → (o : Option ℕ) → release_begun doc.settings.rules.release call.kind ≡ o → P k h → P k (expire_as doc k (identity p i) call o h)
  walk_expired k p i call h up waits late None of s = keeps.expires k p i call h up waits late of s
  walk_expired k p i call h up waits late (Some begun) of s = release.closes k p i begun call h up waits late of s

  walk_expire_as : (k p i : ℕ) (call : Call) (h : List Entry) → alive p h ≡ Some i → call_in (identity p i) h ≡ Some call → (b : Bool) → is_late doc (identity p i) k call ≡ b
      → P k h → P k (if b then expire_as doc k (identity p i) call (release_begun doc.settings.rules.release call.kind) h else h)
  walk_expire_as k p i call h up waits false late s = s
  walk_expire_as k p i call h up waits true late s = walk_expired k p i call h up waits late (release_begun doc.settings.rules.release call.kind) refl s

  walk_expire : (k p i : ℕ) (h : List Entry) → alive p h ≡ Some i → (o : Option Call) → call_in (identity p i) h ≡ o → P k h → P k (expire_call doc k (identity p i) o h)
  walk_expire k p i h up None waits s = s
  walk_expire k p i h up (Some call) waits s = walk_expire_as k p i call h up waits (is_late doc (identity p i) k call) refl s

  walk_deadline : (k p i at : ℕ) → is_controller doc p ≡ true → (h : List Entry) → alive p h ≡ Some i → is_paused doc p k ≡ false → deadline doc (identity p i) h ≡ Some at → nat_lt (local doc p k) at ≡ false
      → (rule : ReleaseRule) → doc.settings.rules.release ≡ rule → P k h → P k (end_as rule doc k (identity p i) h)
  walk_deadline k p i at role h up awake is before rule by s = by_rule rule by
    where
      by_running : (IsStop doc → ⊥) → (b : Bool) → is_releasing (identity p i) h ≡ b → P k (end_released doc k (identity p i) b h)
      by_running other true runs = s
      by_running other false fresh = release.begins k p i at h role up awake is before other fresh s

      by_rule : (rule : ReleaseRule) → doc.settings.rules.release ≡ rule → P k (end_as rule doc k (identity p i) h)
      by_rule rules.Stop by = keeps.ends k p i at h role up is before by s
      by_rule rules.Own by = by_running (λ stop. cc) (is_releasing (identity p i) h) refl
      by_rule rules.Checked by = by_running (λ stop. cc) (is_releasing (identity p i) h) refl
      by_rule rules.Reread by = by_running (λ stop. cc) (is_releasing (identity p i) h) refl

  walk_end_as : (k p i at : ℕ) → is_controller doc p ≡ true → (h : List Entry) → alive p h ≡ Some i → is_paused doc p k ≡ false → deadline doc (identity p i) h ≡ Some at → (b : Bool) → nat_lt (local doc p k) at ≡ b
      → P k h → P k (if b then h else end_as doc.settings.rules.release doc k (identity p i) h)
  walk_end_as k p i at role h up awake is true before s = s
  walk_end_as k p i at role h up awake is false before s = walk_deadline k p i at role h up awake is before doc.settings.rules.release refl s

  walk_end : (k p i : ℕ) → is_controller doc p ≡ true → (h : List Entry) → alive p h ≡ Some i → is_paused doc p k ≡ false → (o : Option ℕ) → deadline doc (identity p i) h ≡ o → P k h → P k (end_term doc k (identity p i) o h)
  walk_end k p i role h up awake None is s = s
  walk_end k p i role h up awake (Some at) is s = walk_end_as k p i at role h up awake is (nat_lt (local doc p k) at) refl s

  walk_attempt : (k p i : ℕ) → is_controller doc p ≡ true → (h : List Entry) → alive p h ≡ Some i → is_paused doc p k ≡ false → (fast due : Bool)
      → (fast ≡ true → call_in (identity p i) h ≡ None) → (due ≡ true → call_in (identity p i) h ≡ None) → P k h → P k (attempt_if doc k (identity p i) fast due h)
  walk_attempt k p i role h up awake true due a b s = keeps.polls k p i h role up awake (a refl) s
  walk_attempt k p i role h up awake false true a b s = keeps.attempts k p i h role up awake (b refl) s
  walk_attempt k p i role h up awake false false a b s = s

  walk_try : (k p i : ℕ) → is_controller doc p ≡ true → (h : List Entry) → alive p h ≡ Some i → is_paused doc p k ≡ false → P k h → P k (try doc k (identity p i) h)
  walk_try k p i role h up awake s =
      walk_attempt k p i role h up awake (is_fast_call (just_expired (identity p i) k h)) (not (has (call_in (identity p i) h)) && not (nat_lt (local doc p k) (timer doc (identity p i) h)))
      (by_expiry (just_expired (identity p i) k h) refl) (by_call (call_in (identity p i) h)) s
    where
      by_expiry : (o : Option Call) → just_expired (identity p i) k h ≡ o → is_fast_call o ≡ true → call_in (identity p i) h ≡ None
      by_expiry None is fast = absurd (true_is (sym fast))
      by_expiry (Some c) is fast = expired_none (identity p i) k h c is

      by_call : (o : Option Call) → (not (has o) && not (nat_lt (local doc p k) (timer doc (identity p i) h))) ≡ true → o ≡ None
      by_call None due = refl
      by_call (Some c) due = absurd (true_is (sym due))

  walk_tick_as : (k : ℕ) (q : Identity) (b : Bool) → (b ≡ true → A q k) → (h : List Entry) → P k h → P k (if b then tick doc k q h else h)
  walk_tick_as k q false acting h s = s
  walk_tick_as k q true acting h s = keeps.ticks k q h (acting refl) s

  pub walk_expiry : (k p : ℕ) (h : List Entry) → P k h → P k (expire doc k p h)
  walk_expiry k p h s = walk_if_up k p (λ q T. expire_call doc k q (call_in q T) T) (λ i T up s. walk_expire k p i T up (call_in (identity p i) T) refl s) (alive p h) h refl s

  walk_finish : (k p : ℕ) → is_controller doc p ≡ true → is_paused doc p k ≡ false → (h : List Entry) → P k h → P k (finish doc k p h)
  walk_finish k p role awake h s = walk_if_up k p (λ q T. end_term doc k q (deadline doc q T) T) (λ i T up s. walk_end k p i role T up awake (deadline doc (identity p i) T) refl s) (alive p h) h refl s

  pub walk_attempts : (k p : ℕ) → is_controller doc p ≡ true → is_paused doc p k ≡ false → (h : List Entry) → P k h → P k (attempts doc k p h)
  walk_attempts k p role awake h s = walk_if_up k p (try doc k) (λ i T up s. walk_try k p i role T up awake s) (alive p h) h refl s

  -- up to the tick
  pub walk_to_tick : (k p : ℕ) → is_controller doc p ≡ true → is_paused doc p k ≡ false → (h : List Entry) → P k h → P k (elector_turn doc k p h)
  walk_to_tick k p role awake h s =
      let h1 = restart doc k p h in
      let s1 : P k h1 = walk_restart k p (alive p h) h s in
      let h2 = expire doc k p h1 in
      let s2 : P k h2 = walk_expiry k p h1 s1 in
      walk_attempts k p role awake (finish doc k p h2) (walk_finish k p role awake h2 s2)

  pub walk_ticks : (k p : ℕ) (h : List Entry) → ((i : ℕ) → alive p h ≡ Some i → acts doc (identity p i) k h ≡ true → A (identity p i) k) → P k h → P k (ticks doc k p h)
  walk_ticks k p h acting s = by_stall (is_stalled doc k)
    where
      by_up : (o : Option ℕ) → alive p h ≡ o → P k (if_up p (λ q T. (if (acts doc q k T) then tick doc k q T else T)) o h)
      by_up None up = s
      by_up (Some i) up = walk_tick_as k (identity p i) (acts doc (identity p i) k h) (acting i up) h s

      by_stall : (b : Bool) → P k (ticks_while b doc k p h)
      by_stall true = s
      by_stall false = by_up (alive p h) refl

  walk_controller : (k p : ℕ) → is_controller doc p ≡ true → is_paused doc p k ≡ false → (h : List Entry) → Begins doc A k p h → P k h → P k (controller_turn doc k p h)
  walk_controller k p role awake h begins s = walk_ticks k p (elector_turn doc k p h) (λ i up acting. begins i role up acting) (walk_to_tick k p role awake h s)

  walk_round_if : (k p i : ℕ) → is_controller doc p ≡ false → (h : List Entry) → alive p h ≡ Some i → is_paused doc p k ≡ false → (o : Option Call) → just_expired (identity p i) k h ≡ o → (late due : Bool) → is_post_call o ≡ late → (due ≡ true → has_round (identity p i) h ≡ false)
      → P k h → P k (round_if doc k (identity p i) late due h)
  walk_round_if k p i role h up awake None expired true due is none s = absurd (true_is (sym is))
  walk_round_if k p i role h up awake (Some call) expired true due is none s = keeps.seeks k p i call h role up awake expired is s
  walk_round_if k p i role h up awake o expired false true is none s = keeps.posts k p i h role up awake (none refl) s
  walk_round_if k p i role h up awake o expired false false is none s = s

  walk_round : (k p i : ℕ) → is_controller doc p ≡ false → (h : List Entry) → alive p h ≡ Some i → is_paused doc p k ≡ false → P k h → P k (round doc k (identity p i) h)
  walk_round k p i role h up awake s =
      let q = identity p i in
      walk_round_if k p i role h up awake (just_expired q k h) refl (is_post_call (just_expired q k h)) (is_round_due doc k q h) refl
      (λ due. not_true (has_round q h) (and_left (not (has_round q h)) (not (nat_lt (local doc p k) (round_timer doc q h))) due)) s

  walk_kubelet : (k p : ℕ) → is_controller doc p ≡ false → is_paused doc p k ≡ false → (h : List Entry) → P k h → P k (kubelet_turn doc k p h)
  walk_kubelet k p role awake h s =
      let h1 = expire doc k p h in
      walk_if_up k p (round doc k) (λ i T up s. walk_round k p i role T up awake s) (alive p h1) h1 refl (walk_expiry k p h s)

  walk_turn_as : (k p : ℕ) (b : Bool) → is_controller doc p ≡ b → is_paused doc p k ≡ false → (h : List Entry) → Begins doc A k p h → P k h → P k (if b then controller_turn doc k p h else kubelet_turn doc k p h)
  walk_turn_as k p true role awake h begins s = walk_controller k p role awake h begins s
  walk_turn_as k p false role awake h begins s = walk_kubelet k p role awake h s

  walk_turn_unless : (k p : ℕ) (b : Bool) → is_paused doc p k ≡ b → (h : List Entry) → Begins doc A k p h → P k h → P k (if b then h else unpaused_turn doc k p h)
  walk_turn_unless k p true rests h begins s = s
  walk_turn_unless k p false awake h begins s = walk_turn_as k p (is_controller doc p) refl awake h begins s

  pub walk_turn : (k p : ℕ) (h : List Entry) → Begins doc A k p h → P k h → P k (turn doc k p h)
  walk_turn k p h begins s = walk_turn_unless k p (is_paused doc p k) refl h begins s

  pub walk_turns : (k n : ℕ) (h : List Entry) → ((p : ℕ) → Begins doc A k p (turns doc k p h)) → P k h → P k (turns doc k n h)
  walk_turns k zero h begins s = s
  walk_turns k (suc p) h begins s = walk_turn k p (turns doc k p h) (begins p) (walk_turns k p h begins s)

-- who acts in the turns of a history's beat ticks
pub ticking_begins : (doc : Doc) (k p : ℕ) → Begins doc (Ticking doc) k p (at_turn doc p k)
ticking_begins doc k p i role up acting = record { role = role; up = up; acting = acting }

-- where nothing is to be known of who ticks
module _ (doc : Doc) (P : ℕ → List Entry → Type 0) (keeps : KeepsTurn doc Anyone P) (release : KeepsReleaseTurn doc P) where
  pub walk_any_turn : (k p : ℕ) (h : List Entry) → P k h → P k (turn doc k p h)
  walk_any_turn k p h s = walk_turn doc Anyone P keeps release k p h (λ i role up acting. tt) s

  -- from the end of a term on
  pub walk_any_after_end : (k p : ℕ) → is_controller doc p ≡ true → is_paused doc p k ≡ false → (h : List Entry) → P k h → P k (ticks doc k p (attempts doc k p h))
  walk_any_after_end k p role awake h s = walk_ticks doc Anyone P keeps release k p (attempts doc k p h) (λ i up acting. tt) (walk_attempts doc Anyone P keeps release k p role awake h s)

  pub walk_any_turns : (k n : ℕ) (h : List Entry) → P k h → P k (turns doc k n h)
  walk_any_turns k n h s = walk_turns doc Anyone P keeps release k n h (λ p i role up acting. tt) s

-- ---- steps 1 to 3, and histories

module _ (doc : Doc) (P : ℕ → ℕ → List Entry → Type 0) (keeps : Keeps doc P) (release : KeepsRelease doc P) where
  -- ---- step 1

  walk_start_first : (p : ℕ) (b : Bool) (h : List Entry) → P 0 1 h → P 0 1 (start_first p b h)
  walk_start_first p false h s = s
  walk_start_first p true h s = keeps.starts 0 1 p h s

  walk_below : (n : ℕ) (h : List Entry) → P 0 1 h → P 0 1 (starts_below doc n h)
  walk_below zero h s = s
  walk_below (suc p) h s = walk_start_first p (is_up_first doc p) (starts_below doc p h) (walk_below p h s)

  pub walk_first : (k : ℕ) (h : List Entry) → P k 1 h → P k 1 (first_starts doc k h)
  walk_first zero h s = walk_below (processes doc) h s
  walk_first (suc k) h s = s

  walk_start : (k p : ℕ) (up : Option ℕ) (h : List Entry) → P k 1 h → P k 1 (start_if_down k 1 p up h)
  walk_start k p None h s = keeps.starts k 1 p h s
  walk_start k p (Some i) h s = s

  walk_crash : (k p : ℕ) (up : Option ℕ) (h : List Entry) → alive p h ≡ up → P k 1 h → P k 1 (crash k p up h)
  walk_crash k p None h is s = s
  walk_crash k p (Some i) h is s = keeps.crashes k p i h is s

  walk_stall : (k : ℕ) (id : ProcId) (beats : ℕ) (up : Option ℕ) (h : List Entry) → Scripted doc k (what.Pause id beats) → alive id.0 h ≡ up → P k 1 h → P k 1 (stall k id.0 beats up h)
  walk_stall k id beats None h scripted is s = s
  walk_stall k id beats (Some i) h scripted is s = keeps.stalls k id beats i h scripted is s

  walk_released : (k : ℕ) (id : ProcId) (i : ℕ) (before : List Entry) → Scripted doc k (what.Stop id) → alive id.0 before ≡ Some i → is_paused doc id.0 k ≡ false → (o : Option Request) → releases_of doc (identity id.0 i) k before ≡ o
      → IsStop doc → P k 1 (script_entry k 1 (Happens (what.Stop id) None) ∷ before) → P k 1 (stopped_at k id i before) → P k 1 (released doc k (identity id.0 i) o (stopped_at k id i before))
  walk_released k id i before scripted up awake None is stop was s = s
  walk_released k id i before scripted up awake (Some request) is stop was s = keeps.releases k id i before request scripted up awake is stop was s

  walk_stop : (k : ℕ) (id : ProcId) (up : Option ℕ) (before : List Entry) → Scripted doc k (what.Stop id) → ((i : ℕ) → up ≡ Some i → (alive id.0 before ≡ Some i) × (is_paused doc id.0 k ≡ false))
      → P k 1 (script_entry k 1 (Happens (what.Stop id) None) ∷ before) → P k 1 (stop doc k id.0 up before (script_entry k 1 (Happens (what.Stop id) None) ∷ before))
  walk_stop k id None before scripted is s = s
  walk_stop k id (Some i) before scripted is s = by_rule doc.settings.rules.release refl
    where
      up : alive id.0 before ≡ Some i
      up = (is i refl).0

      stopped : ((IsStop doc → ⊥) → is_releasing (identity id.0 i) before ≡ false) → P k 1 (stopped_at k id i before)
      stopped free = keeps.stops k id i (script_entry k 1 (Happens (what.Stop id) None) ∷ before) scripted up free s

      by_led : (IsStop doc → ⊥) → is_releasing (identity id.0 i) before ≡ false → (b : Bool) → leads (identity id.0 i) before ≡ b
          → P k 1 (stop_at_once doc k (identity id.0 i) b (script_entry k 1 (Happens (what.Stop id) None) ∷ before))
      by_led other fresh true led = release.begins k id i before scripted up (is i refl).1 other fresh led s
      by_led other fresh false led = stopped (λ o. fresh)

      by_running : (IsStop doc → ⊥) → (b : Bool) → is_releasing (identity id.0 i) before ≡ b
          → P k 1 (stop_releasing doc k (identity id.0 i) b (leads (identity id.0 i) before) (script_entry k 1 (Happens (what.Stop id) None) ∷ before))
      by_running other true runs = release.halts k id i (script_entry k 1 (Happens (what.Stop id) None) ∷ before) scripted up other runs s
      by_running other false fresh = by_led other fresh (leads (identity id.0 i) before) refl

      by_rule : (rule : ReleaseRule) → doc.settings.rules.release ≡ rule → P k 1 (stop_as rule doc k (identity id.0 i) before (script_entry k 1 (Happens (what.Stop id) None) ∷ before))
      by_rule rules.Stop by = walk_released k id i before scripted up (is i refl).1 (releases_of doc (identity id.0 i) k before) refl by s (stopped (λ other. absurd (other by)))
      by_rule rules.Own by = by_running (λ stop. cc) (is_releasing (identity id.0 i) before) refl
      by_rule rules.Checked by = by_running (λ stop. cc) (is_releasing (identity id.0 i) before) refl
      by_rule rules.Reread by = by_running (λ stop. cc) (is_releasing (identity id.0 i) before) refl

  walk_effect : (k : ℕ) (w : What) (before : List Entry) → Scripted doc k w → P k 1 (script_entry k 1 (Happens (stamp doc k w) (event_version w before)) ∷ before)
      → P k 1 (effect doc k w before (script_entry k 1 (Happens (stamp doc k w) (event_version w before)) ∷ before))
  walk_effect k (what.Crash id) before scripted s = walk_crash k id.0 (alive id.0 before) (script_entry k 1 (Happens (what.Crash id) None) ∷ before) refl s
  walk_effect k (what.Start id) before scripted s = walk_start k id.0 (alive id.0 before) (script_entry k 1 (Happens (what.Start id) None) ∷ before) s
  walk_effect k (what.Stop id) before scripted s = walk_stop k id (only_if (not (is_paused doc id.0 k)) (alive id.0 before)) before scripted (λ i up. (only_value (not (is_paused doc id.0 k)) (alive id.0 before) i up, not_true (is_paused doc id.0 k) (only_test (not (is_paused doc id.0 k)) (alive id.0 before) i up))) s
  walk_effect k (what.Rate id ppm) before scripted s = s
  walk_effect k (what.Delay id requests replies) before scripted s = s
  walk_effect k (what.Loss id requests replies) before scripted s = s
  walk_effect k (what.Watch id on) before scripted s = s
  walk_effect k (what.Ready id status) before scripted s = s
  walk_effect k (what.Pause id beats) before scripted s = walk_stall k id beats (alive id.0 before) (script_entry k 1 (Happens (what.Pause id beats) None) ∷ before) scripted refl s
  walk_effect k (what.Stall beats) before scripted s = s
  walk_effect k (what.Put key object) before scripted s = s
  walk_effect k (what.Remove key) before scripted s = s

  walk_happens : (k : ℕ) (e : Event) → InScript e doc.events → (b : Bool) → (e.beat.0 == k) ≡ b → (h : List Entry) → P k 1 h → P k 1 (if b then happens doc k e.what h else h)
  walk_happens k e scripted false is h s = s
  walk_happens k e scripted true is h s = walk_effect k e.what h (e, scripted, refl, is) (keeps.event k e.what h (e, scripted, refl, is) s)

  pub walk_events : (k : ℕ) (es : List Event) → ((e : Event) → InScript e es → InScript e doc.events) → (h : List Entry) → P k 1 h → P k 1 (happen_all doc k es h)
  walk_events k [] among h s = s
  walk_events k (e ∷ es) among h s =
      walk_events k es (λ x at. among x (inr at)) (if (e.beat.0 == k) then happens doc k e.what h else h) (walk_happens k e (among e (inl refl)) (e.beat.0 == k) refl h s)

  pub walk_one : (k : ℕ) (h : List Entry) → P k 1 h → P k 1 (step_one doc k h)
  walk_one k h s = walk_events k doc.events (λ e at. at) (first_starts doc k h) (walk_first k h s)

  -- ---- steps 2 and 3

  -- the entries that a step goes over stay in the history
  abbrev Over : List Entry → ℕ → ℕ → List Entry → Type 0
  Over g k step h = P k step h × ((e : Entry) → In e g → In e h)

  walk_each : (k step : ℕ) (f : Entry → List Entry → List Entry) (g : List Entry) → ((e : Entry) → In e g → (h : List Entry) → Over g k step h → Over g k step (f e h))
      → (l : List Entry) → ((e : Entry) → In e l → In e g) → (h : List Entry) → Over g k step h → Over g k step (each f l h)
  walk_each k step f g one [] among h s = s
  walk_each k step f g one (e ∷ l) among h s = one e (among e (inl refl)) (each f l h) (walk_each k step f g one l (λ x at. among x (inr at)) h s)

  more_over : (g : List Entry) (k step : ℕ) (x : Entry) (h : List Entry) → Over g k step h → P k step (x ∷ h) → Over g k step (x ∷ h)
  more_over g k step x h s new = (new, λ e at. inr (s.1 e at))

  walk_answer_if : (k : ℕ) (g : List Entry) (e : Entry) (x : Sent) (b : Bool) → In e g → sent_of e.actor e.fact ≡ Some x → is_due k x.arrives ≡ b → (h : List Entry) → Over g k 2 h → Over g k 2 (if b then answered doc k x h else h)
  walk_answer_if k g e x false stands is now h s = s
  walk_answer_if k g e x true stands is now h s = more_over g k 2 _ h s (keeps.answers k x h (record { e = e; stands = s.1 e stands; is = is; now = now }) s.0)

  walk_answer : (k : ℕ) (g : List Entry) (e : Entry) (o : Option Sent) → In e g → sent_of e.actor e.fact ≡ o → (h : List Entry) → Over g k 2 h → Over g k 2 (answer_due doc k o h)
  walk_answer k g e None stands is h s = s
  walk_answer k g e (Some x) stands is h s = walk_answer_if k g e x (is_due k x.arrives) stands is refl h s

  pub walk_two : (k : ℕ) (h : List Entry) → P k 2 h → P k 2 (step_two doc k h)
  walk_two k h s = subst (P k 2) (sym (step_two-walks doc k h))
      (walk_each k 2 (λ e. answer_due doc k (sent_of e.actor e.fact)) h (λ e stands g t. walk_answer k h e (sent_of e.actor e.fact) stands refl g t) h (λ e at. at) h (s, λ e at. at)).0

  walk_lead : (k : ℕ) (g : List Entry) (b : Back) (waiting : Call) (h : List Entry) (led : Bool) (version : Version)
      → Over g k 3 (after_reply k b waiting h) → (P k 3 (after_reply k b waiting h) → P k 3 (entry k 3 b.who (Leads version) ∷ after_reply k b waiting h))
      → Over g k 3 (if led then (after_reply k b waiting h) else entry k 3 b.who (Leads version) ∷ (after_reply k b waiting h))
  walk_lead k g b waiting h true version s new = s
  walk_lead k g b waiting h false version s new = more_over g k 3 _ (after_reply k b waiting h) s (new s.0)

  walk_react : (k : ℕ) (g : List Entry) (b : Back) (waiting : Call) (h : List Entry) → Coming k h b → counted doc b.who k b.call.number h ≡ Some waiting → is_controller doc b.who.process ≡ true
      → release_begun doc.settings.rules.release waiting.kind ≡ None → (led : Bool) (f : Follow) → follow_on doc b.who k waiting.kind waiting.request b.reply (after_reply k b waiting h) ≡ f → P k 3 h → Over g k 3 (after_reply k b waiting h) → Over g k 3 (react doc k b.who led f (after_reply k b waiting h))
  walk_react k g b waiting h coming is role of led Fails follows was s = s
  walk_react k g b waiting h coming is role of led (Asks request) follows was s = more_over g k 3 _ (after_reply k b waiting h) s (keeps.follows k b waiting h request coming is role of follows was s.0)
  walk_react k g b waiting h coming is role of led (Succeeds version) follows was s = walk_lead k g b waiting h led version s (keeps.leads k b waiting h version coming is role of follows was)

  walk_ask : (k : ℕ) (g : List Entry) (b : Back) (waiting : Call) (h : List Entry) → Coming k h b → counted doc b.who k b.call.number h ≡ Some waiting → is_controller doc b.who.process ≡ false
      → (o : Option Request) → next_request doc b.who k waiting.request b.reply ≡ o → P k 3 h → Over g k 3 (after_reply k b waiting h) → Over g k 3 (send_next doc k b.who o (after_reply k b waiting h))
  walk_ask k g b waiting h coming is role None asked was s = s
  walk_ask k g b waiting h coming is role (Some request) asked was s = more_over g k 3 _ (after_reply k b waiting h) s (keeps.asks k b waiting h request coming is role asked was s.0)

  -- what a reply in a release causes only adds
  in_and_end : (k : ℕ) (q : Identity) (b : Bool) (e : Entry) (h : List Entry) → In e h → In e (and_end k 3 q b h)
  in_and_end k q true e h at = inr at
  in_and_end k q false e h at = at

  in_empty : (k : ℕ) (q : Identity) (begun : ℕ) (o : Option Request) (e : Entry) (h : List Entry) → In e h → In e (empty_or_end doc k q begun o h)
  in_empty k q begun None e h at = inr (in_and_end k q (acts_on doc q h) e h at)
  in_empty k q begun (Some request) e h at = inr at

  in_reaction : (k : ℕ) (q : Identity) (kind : CallKind) (reply : Reply) (e : Entry) (h : List Entry) → In e h → In e (react_in_release doc k q kind reply h)
  in_reaction k q (Look begun) reply e h at = in_empty k q begun (after_look doc.settings.rules.release q (wall doc q.process k) (is_mine q h) reply) e h at
  in_reaction k q Plain reply e h at = inr (in_and_end k q (acts_on doc q h) e h at)
  in_reaction k q Fast reply e h at = inr (in_and_end k q (acts_on doc q h) e h at)
  in_reaction k q Release reply e h at = inr (in_and_end k q (acts_on doc q h) e h at)
  in_reaction k q (Emptying begun) reply e h at = inr (in_and_end k q (acts_on doc q h) e h at)

  walk_counted : (k : ℕ) (g : List Entry) (b : Back) (waiting : Call) (h : List Entry) → Coming k h b → counted doc b.who k b.call.number h ≡ Some waiting
      → (is_controller doc b.who.process ≡ true → release_begun doc.settings.rules.release waiting.kind ≡ None) → Over g k 3 h → Over g k 3 (after_reply k b waiting h)
  walk_counted k g b waiting h coming is of s = more_over g k 3 _ h s (keeps.counts k b waiting h coming is of s.0)

  -- in a release
  walk_empty : (k begun : ℕ) (b : Back) (waiting : Call) (h : List Entry) → Coming k h b → counted doc b.who k b.call.number h ≡ Some waiting → is_controller doc b.who.process ≡ true
      → release_begun doc.settings.rules.release waiting.kind ≡ Some begun → waiting.kind ≡ Look begun
      → (o : Option Request) → after_look doc.settings.rules.release b.who (wall doc b.who.process k) (is_mine b.who (after_reply k b waiting h)) b.reply ≡ o
      → P k 3 h → P k 3 (empty_or_end doc k b.who begun o (after_reply k b waiting h))
  walk_empty k begun b waiting h coming is role of look None asked s = release.closes k begun b waiting h coming is role of s
  walk_empty k begun b waiting h coming is role of look (Some request) asked s = release.empties k begun b waiting h request coming is role of look asked s

  walk_released_reply : (k begun : ℕ) (b : Back) (waiting : Call) (h : List Entry) → Coming k h b → counted doc b.who k b.call.number h ≡ Some waiting → is_controller doc b.who.process ≡ true
      → release_begun doc.settings.rules.release waiting.kind ≡ Some begun → (kind : CallKind) → waiting.kind ≡ kind → P k 3 h → P k 3 (react_in_release doc k b.who kind b.reply (after_reply k b waiting h))
  walk_released_reply k begun b waiting h coming is role of (Look from) kind s =
      walk_empty k from b waiting h coming is role (as_begun doc.settings.rules.release waiting.kind begun of ∙ ap begun_by kind) kind
      (after_look doc.settings.rules.release b.who (wall doc b.who.process k) (is_mine b.who (after_reply k b waiting h)) b.reply) refl s
  walk_released_reply k begun b waiting h coming is role of Plain kind s = release.closes k begun b waiting h coming is role of s
  walk_released_reply k begun b waiting h coming is role of Fast kind s = release.closes k begun b waiting h coming is role of s
  walk_released_reply k begun b waiting h coming is role of Release kind s = release.closes k begun b waiting h coming is role of s
  walk_released_reply k begun b waiting h coming is role of (Emptying from) kind s = release.closes k begun b waiting h coming is role of s

  walk_elector : (k : ℕ) (g : List Entry) (b : Back) (waiting : Call) (h : List Entry) → Coming k h b → counted doc b.who k b.call.number h ≡ Some waiting → is_controller doc b.who.process ≡ true
      → (o : Option ℕ) → release_begun doc.settings.rules.release waiting.kind ≡ o → Over g k 3 h → Over g k 3 (elector_react doc k b.who waiting b.reply o (after_reply k b waiting h))
  walk_elector k g b waiting h coming is role None of s =
      walk_react k g b waiting h coming is role of (leads b.who (after_reply k b waiting h)) (follow_on doc b.who k waiting.kind waiting.request b.reply (after_reply k b waiting h)) refl s.0
      (walk_counted k g b waiting h coming is (λ role. of) s)
  walk_elector k g b waiting h coming is role (Some begun) of s =
      (walk_released_reply k begun b waiting h coming is role of waiting.kind refl s.0, λ e at. in_reaction k b.who waiting.kind b.reply e (after_reply k b waiting h) (inr (s.1 e at)))

  walk_react_as : (k : ℕ) (g : List Entry) (b : Back) (waiting : Call) (h : List Entry) → Coming k h b → counted doc b.who k b.call.number h ≡ Some waiting
      → (role : Bool) → is_controller doc b.who.process ≡ role → Over g k 3 h → Over g k 3 (react_as doc k b.who waiting b.reply role (after_reply k b waiting h))
  walk_react_as k g b waiting h coming is true role s = walk_elector k g b waiting h coming is role (release_begun doc.settings.rules.release waiting.kind) refl s
  walk_react_as k g b waiting h coming is false role s =
      walk_ask k g b waiting h coming is role (next_request doc b.who k waiting.request b.reply) refl s.0
      (walk_counted k g b waiting h coming is (λ other. absurd (true_is (sym other ∙ role))) s)

  walk_deliver_as : (k : ℕ) (g : List Entry) (b : Back) (h : List Entry) → Coming k h b → (o : Option Call) → counted doc b.who k b.call.number h ≡ o → Over g k 3 h → Over g k 3 (deliver_as doc k b.who b.call b.reply o h)
  walk_deliver_as k g b h coming None is s = more_over g k 3 _ h s (keeps.ignores k b h coming is s.0)
  walk_deliver_as k g b h coming (Some waiting) is s = walk_react_as k g b waiting h coming is (is_controller doc b.who.process) refl s

  walk_deliver_if : (k : ℕ) (g : List Entry) (e : Entry) (x : Back) (b : Bool) → In e g → back_of e.actor e.fact ≡ Some x → is_due k x.comes ≡ b → (h : List Entry) → Over g k 3 h → Over g k 3 (if b then delivered doc k x h else h)
  walk_deliver_if k g e x false stands is now h s = s
  walk_deliver_if k g e x true stands is now h s = walk_deliver_as k g x h (record { e = e; stands = s.1 e stands; is = is; now = now }) (counted doc x.who k x.call.number h) refl s

  walk_deliver : (k : ℕ) (g : List Entry) (e : Entry) (o : Option Back) → In e g → back_of e.actor e.fact ≡ o → (h : List Entry) → Over g k 3 h → Over g k 3 (deliver_due doc k o h)
  walk_deliver k g e None stands is h s = s
  walk_deliver k g e (Some x) stands is h s = walk_deliver_if k g e x (is_due k x.comes) stands is refl h s

  pub walk_three : (k : ℕ) (h : List Entry) → P k 3 h → P k 3 (step_three doc k h)
  walk_three k h s = subst (P k 3) (sym (step_three-walks doc k h))
      (walk_each k 3 (λ e. deliver_due doc k (back_of e.actor e.fact)) h (λ e stands g t. walk_deliver k h e (back_of e.actor e.fact) stands refl g t) h (λ e at. at) h (s, λ e at. at)).0

  pub walk_steps : (k : ℕ) (h : List Entry) → P k 1 h → P k 4 (three_steps doc k h)
  walk_steps k h s =
      let h1 = step_one doc k h in
      let s1 : P k 1 h1 = walk_one k h s in
      let h2 = step_two doc k h1 in
      let s2 : P k 2 h2 = walk_two k h1 (keeps.on k 1 h1 s1) in
      let h3 = step_three doc k h2 in
      let s3 : P k 3 h3 = walk_three k h2 (keeps.on k 2 h2 s2) in
      keeps.on k 3 h3 s3

  -- ---- histories

  -- the history before a beat
  pub walk_history : P 0 1 (history doc 0) → (k : ℕ) → P k 1 (history doc k)
  walk_history first zero = first
  walk_history first (suc k) =
      let h = three_steps doc k (history doc k) in
      keeps.next k (walk_turns doc (Ticking doc) (λ k h. P k 4 h) keeps.turns release.turns k (processes doc) h (λ p. ticking_begins doc k p) (walk_steps k (history doc k) (walk_history first k)))

  -- the history at a turn
  pub walk_at_turn : P 0 1 (history doc 0) → (p k : ℕ) → P k 4 (at_turn doc p k)
  walk_at_turn first p k = walk_turns doc (Ticking doc) (λ k h. P k 4 h) keeps.turns release.turns k p (three_steps doc k (history doc k)) (λ p. ticking_begins doc k p) (walk_steps k (history doc k) (walk_history first k))
