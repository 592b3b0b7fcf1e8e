-- Whose requests write a node and its Lease.
use Rattle.std.proofs.Common.{◌≡◌, ◌∙◌, ◌⊎◌, ◌≤◌, ◌<◌, ℕ, suc, ◌&&◌, ◌||◌, Bool, true, false, cond, List, [], ◌∷◌, Option, Some, None, refl, sym, ap, subst, inl, inr, ⊎_elim, arith}
use Rattle.std.proofs.lemmas.Bool.{cases_eq}
use Rattle.kube_base.specs.declared.numbers.Version.{Version}
use Rattle.kube_objects.specs.declared.call.Answer.{Answer}
use Rattle.kube_objects.specs.declared.call.Answer.TheVariants as answers
use Rattle.kube_objects.specs.declared.call.Reply.{Reply}
use Rattle.kube_objects.specs.declared.call.Reply.TheVariants.{Found, Done, Absent, Exists, Conflict, Unchanged}
use Rattle.kube_objects.specs.declared.call.Request.{Request}
use Rattle.kube_objects.specs.declared.call.Request.TheVariants.{Get, Create, Update, PostStatus}
use Rattle.kube_objects.specs.declared.deed.Actor.{Actor}
use Rattle.kube_objects.specs.declared.key.Key.{Key}
use Rattle.kube_objects.specs.declared.key.Kind.TheVariants as kind
use Rattle.kube_objects.specs.declared.lease.Lease.{Lease}
use Rattle.kube_objects.specs.declared.node.Node.{Node}
use Rattle.kube_objects.specs.declared.object.Object.{Object}
use Rattle.kube_objects.specs.declared.object.Object.TheVariants as object
use Rattle.kube_objects.specs.declared.script.What.{What}
use Rattle.kube_objects.specs.declared.script.What.TheVariants as what
use Rattle.kube_objects.specs.Answers.{answer, written, if_done}
use Rattle.kube_objects.specs.Clocks.{store_wall, whole_second, wall}
use Rattle.kube_objects.specs.Document.{Doc, is_controller}
use Rattle.kube_objects.specs.Elector.{Fails, Asks, Succeeds, Moment, moment, Shown, shown, is_blocked, updated, renewed, is_valid, created, respected, follow, not_done, follow_write, observed_at, attempt_from, attempt, release_from, release, given_up, leads}
use Rattle.kube_objects.specs.Entry.{Entry, Identity, Call, CallKind, Tick, Sync, Pass, Mark, Mode, Zone, Untaint, Swap, Head, Delete, Skip, Plain, Fast, Release, Look, Emptying, Fact, First as FirstPut, Event as Happens, Starts, Crashes, Stops, Stalls, Ends, Sends, Answers, Delivers, Expires, Leads, Ticks, actor_of, entry, script_entry, StepsDown, ReleaseBegins, ReleaseEnds, ReleaseStops}
use Rattle.kube_objects.specs.Identities.{identity, is_by, is_own}
use Rattle.kube_objects.specs.Keys.{key_eq}
use Rattle.kube_objects.specs.Kinds.{kind_of, IsOfKind}
use Rattle.kube_objects.specs.Kubelet.{node_of, next_request}
use Rattle.kube_objects.specs.Newest.{when, join, has}
use Rattle.kube_objects.specs.Own.{ReleasesByStop}
use Rattle.kube_objects.specs.Process.{open_as, call_says, last_call, call_in}
use Rattle.kube_objects.specs.Stamps.{stamped}
use Rattle.kube_objects.specs.Stored.{election, node_key, node_lease, key_of, at_key, request_write, event_write, try_write, tick_write, node_write, write_of}
use Rattle.kube_objects.specs.Wire.{next_call, request_arrival, send}
use Rattle.history.specs.History.{put_all, history}
use Rattle.history.specs.Sound.{IsSound}
use Rattle.history_laws.specs.Tails.{IsTail}
use Rattle.history_laws.proofs.Counting.{counted_is, only_value}
use Rattle.history_laws.proofs.Plainly.{upper, some_is, none_is, true_is, false_is}
use Rattle.history_laws.proofs.Tailed.{tail_all, tail_trans, tail_of_empty, same_head}
use Rattle.history_laws.proofs.Ticks.{walk_tick}
use Rattle.history_laws.proofs.Walk.{after_reply, Keeps, no_release, walk_history}
use Rattle.kube_objects.proofs.KeyOrder.{same_key}
use Rattle.lease_laws.proofs.Steps.{sound_of}
use Rattle.call_laws.proofs.Above.{place_of}
use Rattle.call_laws.proofs.Making.{MadeAs, MadeAnswer, are_made}
use Rattle.call_laws.proofs.Starting.{actor_is}
use Rattle.takeover_laws.proofs.Writers.{sends_of}
use Rattle.heard_laws.specs.Heard.{is_about, tells_of}
use Rattle.heard_laws.specs.Kubelet.{IsLeftAlone, PutsAreOfKind}
use Rattle.heard_laws.proofs.Sending.{by_is}
use Rattle.outage_laws.proofs.Marked.{other_node}

-- the answer to a call that was sent at beat s or later
abbrev pub AnswersSince : ℕ → Fact → Type 0
AnswersSince s (Answers call reply comes written) = s ≤ call.sent
AnswersSince s _ = ⊥

-- under the key of the node's Lease Leases are written alone
abbrev pub IsLeaseKey : Doc → ℕ → ℕ → Type 0
IsLeaseKey doc e name =
    (y : Entry) (g : List Entry) (wrote : Object) → IsTail (y ∷ g) (history doc (suc e)) → at_key (node_lease name) (write_of y.fact) ≡ Some (Some wrote)
    → (lease : Lease) × (wrote ≡ object.Lease lease)

-- after beat s, to the end of beat e, nothing tells of the node but the answers to the calls that the kubelet's incarnation sent from beat s on
abbrev pub TellsAlone : Doc → ℕ → ℕ → Identity → ℕ → Type 0
TellsAlone doc s e q name =
    (y : Entry) (g : List Entry) → IsTail (y ∷ g) (history doc (suc e)) → tells_of name y.fact ≡ true → s < y.beat → (y.actor ≡ actor_of q) × AnswersSince s y.fact

-- ---- the keys of requests

asks_same : (a b : Request) → Asks a ≡ Asks b → a ≡ b
asks_same a b is = cc

fails_not : (r : Request) → Fails ≡ Asks r → ⊥
fails_not r is = cc

succeeds_not : (r : Request) → {v : _} → Succeeds v ≡ Asks r → ⊥
succeeds_not r is = cc

-- what follows a write
undone_key : (next : Request) (kind : CallKind) → not_done kind ≡ Asks next → key_of next ≡ election
undone_key next Plain is = absurd (fails_not next is)
undone_key next Fast is = sym (ap key_of (asks_same (Get election) next is))
undone_key next Release is = absurd (fails_not next is)
undone_key next (Look begun) is = absurd (fails_not next is)
undone_key next (Emptying begun) is = absurd (fails_not next is)

write_key : (next : Request) (kind : CallKind) (reply : Reply) → follow_write kind reply ≡ Asks next → key_of next ≡ election
write_key next kind (Done version) is = absurd (succeeds_not next is)
write_key next kind (Found version lease) is = undone_key next kind is
write_key next kind Absent is = undone_key next kind is
write_key next kind Exists is = undone_key next kind is
write_key next kind (Conflict version) is = undone_key next kind is
write_key next kind Unchanged is = undone_key next kind is

-- a controller asks for the election Lease
follow_key : (q : Identity) (m : Moment) (seen : ℕ) (kind : CallKind) (request : Request) (reply : Reply) (next : Request) → follow q m seen kind request reply ≡ Asks next → key_of next ≡ election
follow_key q m seen kind (PostStatus name status at) reply next is = absurd (fails_not next is)
follow_key q m seen kind (Get key) Absent next is = sym (ap key_of (asks_same (Create election (created q m)) next is))
follow_key q m seen kind (Get key) (Found version lease) next is = by_test (is_blocked q m.now seen (respected m.respect m.seconds lease)) is
  where
    by_test : (b : Bool) → cond b Fails (Asks (Update election version (updated q m lease))) ≡ Asks next → key_of next ≡ election
    by_test true is = absurd (fails_not next is)
    by_test false is = sym (ap key_of (asks_same (Update election version (updated q m lease)) next is))
follow_key q m seen kind (Get key) (Done version) next is = absurd (fails_not next is)
follow_key q m seen kind (Get key) Exists next is = absurd (fails_not next is)
follow_key q m seen kind (Get key) (Conflict version) next is = absurd (fails_not next is)
follow_key q m seen kind (Get key) Unchanged next is = absurd (fails_not next is)
follow_key q m seen kind (Create key lease) reply next is = write_key next kind reply is
follow_key q m seen kind (Update key given lease) reply next is = write_key next kind reply is

attempt_key : (doc : Doc) (q : Identity) (k : ℕ) (h : List Entry) → key_of (attempt doc q k h).1 ≡ election
attempt_key doc q k h = by_test (doc.settings.fast_renew && leads q h)
  where
    by_own : (b : Bool) (x : Shown) → key_of (cond {A = CallKind × Request} b (Fast, Update election x.0 (renewed q (moment doc q k) x.1)) (Plain, Get election)).1 ≡ election
    by_own true x = refl
    by_own false x = refl

    by_shown : (o : Option Shown) → key_of (attempt_from q (moment doc q k) (observed_at doc q h) o).1 ≡ election
    by_shown None = refl
    by_shown (Some x) = by_own (is_own q x.1.holder && is_valid (moment doc q k).now (observed_at doc q h) x.1) x

    by_test : (b : Bool) → key_of (cond {A = CallKind × Request} b (attempt_from q (moment doc q k) (observed_at doc q h) (shown q h)) (Plain, Get election)).1 ≡ election
    by_test true = by_shown (shown q h)
    by_test false = refl

release_key : (doc : Doc) (q : Identity) (k : ℕ) (h : List Entry) (request : Request) → release doc q k h ≡ Some request → key_of request ≡ election
release_key doc q k h request is = by_shown (shown q h) (only_value (leads q h) (release_from q (wall doc q.process k) (shown q h)) request is)
  where
    by_own : (b : Bool) (x : Shown) → when b (Update election x.0 (given_up (wall doc q.process k) x.1)) ≡ Some request → key_of request ≡ election
    by_own true x is = sym (ap key_of (some_is (Update election x.0 (given_up (wall doc q.process k) x.1)) request is))
    by_own false x is = absurd (none_is request is)

    by_shown : (o : Option Shown) → release_from q (wall doc q.process k) o ≡ Some request → key_of request ≡ election
    by_shown None is = absurd (none_is request is)
    by_shown (Some x) is = by_own (is_own q x.1.holder) x is

-- a kubelet asks for its node and the node's Lease
abbrev IsNodeKey : Doc → Identity → Request → Type 0
IsNodeKey doc q r = (key_of r ≡ node_key (node_of doc q.process)) ⊎ (key_of r ≡ node_lease (node_of doc q.process))

next_key : (doc : Doc) (q : Identity) (k : ℕ) (request : Request) (reply : Reply) (next : Request) → IsNodeKey doc q request → next_request doc q k request reply ≡ Some next → IsNodeKey doc q next
next_key doc q k (PostStatus name status at) reply next own is = inr (sym (ap key_of (some_is (Get (node_lease (node_of doc q.process))) next is)))
next_key doc q k (Get key) Absent next own is = subst (IsNodeKey doc q) (some_is _ next is) own
next_key doc q k (Get key) (Found version lease) next own is = subst (IsNodeKey doc q) (some_is _ next is) own
next_key doc q k (Get key) (Done version) next own is = absurd (none_is next is)
next_key doc q k (Get key) Exists next own is = absurd (none_is next is)
next_key doc q k (Get key) (Conflict version) next own is = absurd (none_is next is)
next_key doc q k (Get key) Unchanged next own is = absurd (none_is next is)
next_key doc q k (Create key lease) reply next own is = absurd (none_is next is)
next_key doc q k (Update key given lease) reply next own is = absurd (none_is next is)

-- ---- every request

abbrev KeyMakes : Doc → Actor → Fact → Type 0
KeyMakes doc who (Sends call arrives) = (q : Identity) → who ≡ actor_of q → (is_controller doc q.process ≡ true → key_of call.request ≡ election) × (is_controller doc q.process ≡ false → IsNodeKey doc q call.request)
KeyMakes doc who _ = Unit {0}

record KeyRight (doc : Doc) (h : List Entry) : Type 0 where
  waits : (q : Identity) → is_controller doc q.process ≡ false → (c : Call) → call_in q h ≡ Some c → IsNodeKey doc q c.request
  made : (x : Entry) (before : List Entry) → IsTail (x ∷ before) h → KeyMakes doc x.actor x.fact

right_more : (doc : Doc) (x : Entry) (h : List Entry) → KeyMakes doc x.actor x.fact → KeyRight doc h → KeyRight doc (x ∷ h)
right_more doc x h own s = record { waits = λ q role c is. cases q role c x.actor x.fact own is; made = made }
  where
    made : (e : Entry) (before : List Entry) → IsTail (e ∷ before) (x ∷ h) → KeyMakes doc e.actor e.fact
    made e before (inl is) = subst (λ (e : Entry). KeyMakes doc e.actor e.fact) (sym (same_head e x before h is)) own
    made e before (inr at) = s.made e before at

    closing : (q : Identity) → is_controller doc q.process ≡ false → (c : Call) (b : Bool) → join (upper (when b None) (last_call q h)) ≡ Some c → IsNodeKey doc q c.request
    closing q role c true is = absurd (none_is c is)
    closing q role c false is = s.waits q role c is

    opened : (kind : CallKind) (call c : Call) → open_as kind call ≡ Some c → call ≡ c
    opened Plain call c is = some_is call c is
    opened Fast call c is = some_is call c is
    opened Release call c is = absurd (none_is c is)
    opened (Look begun) call c is = some_is call c is
    opened (Emptying begun) call c is = some_is call c is

    sending : (q : Identity) → is_controller doc q.process ≡ false → (c : Call) (who : Actor) (call : Call) (arrives : Option ℕ) → KeyMakes doc who (Sends call arrives) → (b : Bool) → is_by q who ≡ b
        → join (upper (when b (open_as call.kind call)) (last_call q h)) ≡ Some c → IsNodeKey doc q c.request
    sending q role c who call arrives own true mine is = subst (λ (c : Call). IsNodeKey doc q c.request) (opened call.kind call c is) ((own q (by_is q who mine)).1 role)
    sending q role c who call arrives own false other is = s.waits q role c is

    cases : (q : Identity) → is_controller doc q.process ≡ false → (c : Call) (who : Actor) (d : Fact) → KeyMakes doc who d → join (upper (call_says q who d) (last_call q h)) ≡ Some c → IsNodeKey doc q c.request
    cases q role c who (Sends call arrives) own is = sending q role c who call arrives own (is_by q who) refl is
    cases q role c who (Delivers call reply counted) own is = closing q role c (counted && is_by q who) is
    cases q role c who (Expires call) own is = closing q role c (is_by q who) is
    cases q role c who (ReleaseBegins at_deadline) own is = closing q role c (is_by q who) is
    cases q role c who d own is = s.waits q role c is

right_sends : (doc : Doc) (k step : ℕ) (q : Identity) (kind : CallKind) (request : Request) (h : List Entry) → (is_controller doc q.process ≡ true → key_of request ≡ election) → (is_controller doc q.process ≡ false → IsNodeKey doc q request)
    → KeyRight doc h → KeyRight doc (send doc k step q kind request h)
right_sends doc k step q kind request h elects tells s =
    right_more doc (entry k step q (Sends (next_call q k kind request h) (request_arrival doc q.process k h))) h
    (λ p is. let same : q ≡ p = actor_is q p is in
    (λ role. elects (ap (λ (p : Identity). is_controller doc p.process) same ∙ role), λ role. subst (λ p. IsNodeKey doc p request) same (tells (ap (λ (p : Identity). is_controller doc p.process) same ∙ role)))) s

by_controller : (doc : Doc) (p : ℕ) (A : Type 0) → is_controller doc p ≡ true → is_controller doc p ≡ false → A
by_controller doc p A role other = absurd (true_is (sym role ∙ other))

by_kubelet : (doc : Doc) (p : ℕ) (A : Type 0) → is_controller doc p ≡ false → is_controller doc p ≡ true → A
by_kubelet doc p A role other = absurd (true_is (sym other ∙ role))

right_keeps : (doc : Doc) → IsSound doc → Keeps doc (λ k step h. KeyRight doc h)
right_keeps doc sound = record {
  on = λ k step h s. s;
  next = λ k s. s;
  event = λ k w h scripted s. right_more doc _ h tt s;
  starts = λ k step p h s. right_more doc _ h tt s;
  crashes = λ k p i h up s. right_more doc _ h tt s;
  stalls = λ k id beats i h scripted up s. right_more doc _ h tt s;
  stops = λ k id i h scripted up free s. right_more doc _ h tt s;
  releases = λ k id i before request scripted up awake is stop was s.
      right_sends doc k 1 (identity id.0 i) _ request _ (λ role. release_key doc (identity id.0 i) k before request is) (by_controller doc id.0 _ (sound_of doc k (what.Stop id) sound scripted)) s;
  answers = λ k x h at s. right_more doc _ h tt s;
  ignores = λ k b h coming is s. right_more doc _ h tt s;
  counts = λ k b waiting h coming is of s. right_more doc _ h tt s;
  follows = λ k b waiting h request coming is role of follows was s.
      right_sends doc k 3 b.who Plain request (after_reply k b waiting h)
      (λ role. follow_key b.who (moment doc b.who k) (observed_at doc b.who (after_reply k b waiting h)) waiting.kind waiting.request b.reply request follows) (by_controller doc b.who.process _ role) s;
  leads = λ k b waiting h version coming is role of follows was s. right_more doc _ (after_reply k b waiting h) tt s;
  asks = λ k b waiting h request coming is role asked was s.
      right_sends doc k 3 b.who Plain request (after_reply k b waiting h) (by_kubelet doc b.who.process _ role)
      (λ role. next_key doc b.who k waiting.request b.reply request (was.waits b.who role waiting (counted_is doc b.who k b.call.number h waiting is).waits) asked) s;
  turns = record {
    restarts = λ k p h s. right_more doc _ h tt s;
    expires = λ k p i call h up waits late of s. right_more doc _ h tt s;
    ends = λ k p i at h role up is before stop s. right_more doc _ h tt s;
    polls = λ k p i h role up awake waits s. right_sends doc k 4 (identity p i) _ _ h (λ role. refl) (by_controller doc p _ role) s;
    attempts = λ k p i h role up awake waits s. right_sends doc k 4 (identity p i) _ _ h (λ role. attempt_key doc (identity p i) k h) (by_controller doc p _ role) s;
    seeks = λ k p i call h role up awake expired late s. right_sends doc k 4 (identity p i) _ _ h (by_kubelet doc p _ role) (λ role. inr refl) s;
    posts = λ k p i h role up awake none s. right_sends doc k 4 (identity p i) _ _ h (by_kubelet doc p _ role) (λ role. inl refl) s;
    ticks = λ k q h acting s. walk_tick doc k q (KeyRight doc) (λ t g made s. right_more doc _ g tt s) h s;
  };
}

put_right : (doc : Doc) (xs : List (Key × Object)) (h : List Entry) → KeyRight doc h → KeyRight doc (put_all doc xs h)
put_right doc [] h s = s
put_right doc (x ∷ xs) h s = put_right doc xs (script_entry 0 0 (FirstPut x.0 (stamped (whole_second (store_wall doc 0)) x.1)) ∷ h) (right_more doc _ h tt s)

keys_made : (doc : Doc) → IsSound doc → ReleasesByStop doc → (m : ℕ) (x : Entry) (before : List Entry) → IsTail (x ∷ before) (history doc m) → KeyMakes doc x.actor x.fact
keys_made doc sound rules m =
    (walk_history doc (λ k step h. KeyRight doc h) (right_keeps doc sound) (no_release doc (λ k step h. KeyRight doc h) rules.release)
    (put_right doc doc.objects [] (record { waits = λ q role c is. absurd (none_is c is); made = λ x before at. absurd (tail_of_empty x before at) })) m).made

-- ---- who tells of a node

other_lease : (x name : ℕ) → (x ≡ name → ⊥) → key_eq (node_lease x) (node_lease name) ≡ false
other_lease x name differs = by_test (key_eq (node_lease x) (node_lease name)) refl
  where
    by_test : (b : Bool) → key_eq (node_lease x) (node_lease name) ≡ b → b ≡ false
    by_test true is = absurd (differs (ap (λ (key : Key). key.name) (same_key (node_lease x) (node_lease name) is)))
    by_test false is = refl

-- a request for another key doesn't
not_about : (name : ℕ) (request : Request) (o : Option Object) (key : Key) → key_of request ≡ key → key_eq key (node_key name) ≡ false → key_eq key (node_lease name) ≡ false → is_about name (request_write request o) ≡ false
not_about name request None key is node lease = refl
not_about name request (Some x) key is node lease =
    ap (λ k. has (at_key (node_key name) (Some (k, Some x))) || has (at_key (node_lease name) (Some (k, Some x)))) is
    ∙ ap (λ b. has (when b (Some x)) || has (at_key (node_lease name) (Some (key, Some x)))) node
    ∙ ap (λ b. false || has (when b (Some x))) lease

pub tells_alone : (doc : Doc) → IsSound doc → ReleasesByStop doc → (s e : ℕ) (q : Identity) (name : ℕ) → IsLeftAlone doc s e q name → TellsAlone doc s e q name
tells_alone doc sound rules s e q name alone y g at tells later = cases y.fact refl tells (are_made doc rules (suc e) y g at)
  where
    answers : (c : Call) (reply : Reply) (comes : Option ℕ) (wrote : Option Object) → y.fact ≡ Answers c reply comes wrote → tells_of name (Answers c reply comes wrote) ≡ true → MadeAnswer doc y.beat y.step y.actor c reply comes wrote g → (y.actor ≡ actor_of q) × (s ≤ c.sent)
    answers c reply comes wrote fact tells made = by_role (is_controller doc made.s.who.process) refl
      where
        f : Entry
        f = made.arriving.e

        S : List Entry
        S = (place_of f g made.arriving.stands).before

        f_in : IsTail (f ∷ S) (history doc (suc e))
        f_in = tail_trans (f ∷ S) g (history doc (suc e)) (place_of f g made.arriving.stands).position (tail_trans g (y ∷ g) (history doc (suc e)) (inr (tail_all g)) at)

        keys : (is_controller doc made.s.who.process ≡ true → key_of made.s.call.request ≡ election) × (is_controller doc made.s.who.process ≡ false → IsNodeKey doc made.s.who made.s.call.request)
        keys = let facts = sends_of f.actor f.fact made.s made.arriving.is in (subst (KeyMakes doc f.actor) facts.1 (keys_made doc sound rules (suc e) f S f_in)) made.s.who facts.0

        same : key_of c.request ≡ key_of made.s.call.request
        same = ap (λ (c : Call). key_of c.request) made.call_is

        quiet : (key : Key) → key_of made.s.call.request ≡ key → key_eq key (node_key name) ≡ false → key_eq key (node_lease name) ≡ false → ⊥
        quiet key is node lease = true_is (sym tells ∙ not_about name c.request wrote key (same ∙ is) node lease)

        mine : node_of doc made.s.who.process ≡ name → is_controller doc made.s.who.process ≡ false → (y.actor ≡ actor_of q) × (s ≤ c.sent)
        mine is role =
            let r = alone.calls y g c reply comes wrote at fact made.s.who made.by (alone.kubelets made.s.who.process role is) later in
            (made.by ∙ ap actor_of r.0, r.1)

        other : (node_of doc made.s.who.process ≡ name → ⊥) → IsNodeKey doc made.s.who made.s.call.request → ⊥
        other differs (inl is) = quiet (node_key (node_of doc made.s.who.process)) is (other_node (node_of doc made.s.who.process) name differs) refl
        other differs (inr is) = quiet (node_lease (node_of doc made.s.who.process)) is refl (other_lease (node_of doc made.s.who.process) name differs)

        by_role : (b : Bool) → is_controller doc made.s.who.process ≡ b → (y.actor ≡ actor_of q) × (s ≤ c.sent)
        by_role true role = absurd (quiet election (keys.0 role) refl refl)
        by_role false role = ⊎_elim (λ is. mine is role) (λ differs. absurd (other differs (keys.1 role))) (cases_eq (node_of doc made.s.who.process) name)

    cases : (d : Fact) → y.fact ≡ d → tells_of name d ≡ true → MadeAs doc y.beat y.step y.actor d g → (y.actor ≡ actor_of q) × AnswersSince s d
    cases (FirstPut key object) fact tells made = absurd (omega (arith, made, later))
    cases (Happens w version) fact tells made = absurd (true_is (sym tells ∙ alone.script y g w version at fact later))
    cases (Answers c reply comes wrote) fact tells made = answers c reply comes wrote fact tells made
    cases (Ticks t) fact tells made = absurd (false_is tells)
    cases (Sends c arrives) fact tells made = absurd (false_is tells)
    cases (Delivers c reply counted) fact tells made = absurd (false_is tells)
    cases (Expires c) fact tells made = absurd (false_is tells)
    cases (Leads version) fact tells made = absurd (false_is tells)
    cases Starts fact tells made = absurd (false_is tells)
    cases Crashes fact tells made = absurd (false_is tells)
    cases Stops fact tells made = absurd (false_is tells)
    cases Ends fact tells made = absurd (false_is tells)
    cases (Stalls beats) fact tells made = absurd (false_is tells)
    cases StepsDown fact tells made = absurd made
    cases (ReleaseBegins at_deadline) fact tells made = absurd made
    cases ReleaseEnds fact tells made = absurd made
    cases ReleaseStops fact tells made = absurd made

-- ---- what stands under the key of a node's Lease

some_none : {A : Type 0} (x : A) (o : Option A) → o ≡ None → Some o ≡ Some (Some x) → ⊥
some_none x o none is = none_is x (sym none ∙ some_is o (Some x) is)

is_lease : (x : Object) → kind.Lease ≡ kind_of x → (lease : Lease) × (x ≡ object.Lease lease)
is_lease (object.Lease lease) is = (lease, refl)
is_lease (object.Node node) is = absurd (differs is)
  where
    differs : kind.Lease ≡ kind.Node → ⊥
    differs is = cc
is_lease (object.Pod pod) is = absurd (differs is)
  where
    differs : kind.Lease ≡ kind.Pod → ⊥
    differs is = cc

module _ (doc : Doc) (sound : IsSound doc) (rules : ReleasesByStop doc) (e name : ℕ) (kinds : PutsAreOfKind doc e) where
  abbrev IsLease : Object → Type 0
  IsLease x = (lease : Lease) × (x ≡ object.Lease lease)

  -- a write of an object of its key's kind
  by_kind : (key : Key) (put wrote : Object) → IsOfKind key put → at_key (node_lease name) (Some (key, Some put)) ≡ Some (Some wrote) → IsLease wrote
  by_kind key put wrote of is = by_test (key_eq key (node_lease name)) refl is
    where
      by_test : (b : Bool) → key_eq key (node_lease name) ≡ b → when b (Some put) ≡ Some (Some wrote) → IsLease wrote
      by_test true same is =
          let put_is : put ≡ wrote = some_is put wrote (some_is (Some put) (Some wrote) is) in
          subst IsLease put_is (is_lease put (sym (ap (λ (key : Key). key.kind) (same_key key (node_lease name) same)) ∙ of))
      by_test false same is = absurd (none_is (Some wrote) is)

  -- a write of a Lease, where it is one
  by_lease : (key : Key) (reply : Reply) (lease : Lease) (wrote : Object) → at_key (node_lease name) (request_write (Create key lease) (if_done reply (object.Lease lease))) ≡ Some (Some wrote) → IsLease wrote
  by_lease key (Done version) lease wrote is = by_test (key_eq key (node_lease name)) is
    where
      by_test : (b : Bool) → when b (Some (object.Lease lease)) ≡ Some (Some wrote) → IsLease wrote
      by_test true is = (lease, sym (some_is (object.Lease lease) wrote (some_is (Some (object.Lease lease)) (Some wrote) is)))
      by_test false is = absurd (none_is (Some wrote) is)
  by_lease key (Found version found) lease wrote is = absurd (none_is (Some wrote) is)
  by_lease key Absent lease wrote is = absurd (none_is (Some wrote) is)
  by_lease key Exists lease wrote is = absurd (none_is (Some wrote) is)
  by_lease key (Conflict version) lease wrote is = absurd (none_is (Some wrote) is)
  by_lease key Unchanged lease wrote is = absurd (none_is (Some wrote) is)

  by_request : (request : Request) (h : List Entry) (wrote : Object) → at_key (node_lease name) (request_write request (written request h)) ≡ Some (Some wrote) → IsLease wrote
  by_request (Get key) h wrote is = absurd (none_is (Some wrote) is)
  by_request (Create key lease) h wrote is = by_lease key (answer (Create key lease) h) lease wrote is
  by_request (Update key given lease) h wrote is = by_lease key (answer (Update key given lease) h) lease wrote is
  by_request (PostStatus node status at) h wrote is = by_written (written (PostStatus node status at) h) is
    where
      by_written : (o : Option Object) → at_key (node_lease name) (request_write (PostStatus node status at) o) ≡ Some (Some wrote) → IsLease wrote
      by_written None is = absurd (none_is (Some wrote) is)
      by_written (Some x) is = absurd (none_is (Some wrote) is)

  by_try : (key : Key) (o : Option Object) (a : Option Answer) (wrote : Object) → (at_key (node_lease name) (Some (key, o)) ≡ Some (Some wrote) → IsLease wrote) → at_key (node_lease name) (try_write (key, o) a) ≡ Some (Some wrote) → IsLease wrote
  by_try key o (Some (answers.Done version)) wrote done is = done is
  by_try key o None wrote done is = absurd (none_is (Some wrote) is)
  by_try key o (Some answers.Absent) wrote done is = absurd (none_is (Some wrote) is)
  by_try key o (Some answers.Exists) wrote done is = absurd (none_is (Some wrote) is)
  by_try key o (Some (answers.Conflict version)) wrote done is = absurd (none_is (Some wrote) is)

  by_node : (x : ℕ) (node : Node) (a : Option Answer) (wrote : Object) → at_key (node_lease name) (try_write (node_write x node) a) ≡ Some (Some wrote) → IsLease wrote
  by_node x node a wrote is = by_try (node_key x) (Some (object.Node node)) a wrote (λ is. absurd (none_is (Some wrote) is)) is

  removed : (key : Key) (wrote : Object) → at_key (node_lease name) (Some (key, None)) ≡ Some (Some wrote) → IsLease wrote
  removed key wrote is = by_test (key_eq key (node_lease name)) is
    where
      by_test : (b : Bool) → when {A = Option Object} b None ≡ Some (Some wrote) → IsLease wrote
      by_test true is = absurd (some_none wrote None refl is)
      by_test false is = absurd (none_is (Some wrote) is)

  by_tick : (t : Tick) (wrote : Object) → at_key (node_lease name) (tick_write t) ≡ Some (Some wrote) → IsLease wrote
  by_tick Sync wrote is = absurd (none_is (Some wrote) is)
  by_tick Pass wrote is = absurd (none_is (Some wrote) is)
  by_tick (Mode on) wrote is = absurd (none_is (Some wrote) is)
  by_tick (Zone place state rate) wrote is = absurd (none_is (Some wrote) is)
  by_tick (Mark x given node a) wrote is = by_node x node a wrote is
  by_tick (Untaint x given node a) wrote is = by_node x node a wrote is
  by_tick (Swap x wanted given node a) wrote is = by_node x node a wrote is
  by_tick (Head place x wanted given node a) wrote is = by_node x node a wrote is
  by_tick (Delete pod given node_given due a) wrote is = by_try pod None a wrote (removed pod wrote) is
  by_tick (Skip place x) wrote is = absurd (none_is (Some wrote) is)

  pub lease_key : IsLeaseKey doc e name
  lease_key y g wrote at is = cases y.fact refl is (are_made doc rules (suc e) y g at)
    where
      by_event : (w : What) (version : Option Version) → y.fact ≡ Happens w version → at_key (node_lease name) (event_write w version) ≡ Some (Some wrote) → IsLease wrote
      by_event (what.Put key put) version fact is = by_kind key put wrote (kinds y g key put at (inr (version, fact))) is
      by_event (what.Remove key) (Some version) fact is = removed key wrote is
      by_event (what.Remove key) None fact is = absurd (none_is (Some wrote) is)
      by_event (what.Crash id) version fact is = absurd (none_is (Some wrote) is)
      by_event (what.Start id) version fact is = absurd (none_is (Some wrote) is)
      by_event (what.Stop id) version fact is = absurd (none_is (Some wrote) is)
      by_event (what.Rate id ppm) version fact is = absurd (none_is (Some wrote) is)
      by_event (what.Delay id requests replies) version fact is = absurd (none_is (Some wrote) is)
      by_event (what.Loss id requests replies) version fact is = absurd (none_is (Some wrote) is)
      by_event (what.Watch id on) version fact is = absurd (none_is (Some wrote) is)
      by_event (what.Ready id status) version fact is = absurd (none_is (Some wrote) is)
      by_event (what.Pause id beats) version fact is = absurd (none_is (Some wrote) is)
      by_event (what.Stall beats) version fact is = absurd (none_is (Some wrote) is)

      cases : (d : Fact) → y.fact ≡ d → at_key (node_lease name) (write_of d) ≡ Some (Some wrote) → MadeAs doc y.beat y.step y.actor d g → IsLease wrote
      cases (FirstPut key put) fact is made = by_kind key put wrote (kinds y g key put at (inl fact)) is
      cases (Happens w version) fact is made = by_event w version fact is
      cases (Answers c reply comes o) fact is made = by_request c.request g wrote (ap (λ o. at_key (node_lease name) (request_write c.request o)) (ap (λ (c : Call). written c.request g) made.call_is ∙ sym made.written_is) ∙ is)
      cases (Ticks t) fact is made = by_tick t wrote is
      cases (Sends c arrives) fact is made = absurd (none_is (Some wrote) is)
      cases (Delivers c reply counted) fact is made = absurd (none_is (Some wrote) is)
      cases (Expires c) fact is made = absurd (none_is (Some wrote) is)
      cases (Leads version) fact is made = absurd (none_is (Some wrote) is)
      cases Starts fact is made = absurd (none_is (Some wrote) is)
      cases Crashes fact is made = absurd (none_is (Some wrote) is)
      cases Stops fact is made = absurd (none_is (Some wrote) is)
      cases Ends fact is made = absurd (none_is (Some wrote) is)
      cases (Stalls beats) fact is made = absurd (none_is (Some wrote) is)
      cases StepsDown fact is made = absurd made
      cases (ReleaseBegins at_deadline) fact is made = absurd made
      cases ReleaseEnds fact is made = absurd made
      cases ReleaseStops fact is made = absurd made
