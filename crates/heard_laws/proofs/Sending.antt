-- When a kubelet sends, and which call of it waits.
use Rattle.std.proofs.Common.{◌≡◌, ◌∙◌, ◌⊎◌, ◌≤◌, ◌<◌, ℕ, suc, ◌+◌, ◌==◌, ◌&&◌, Bool, true, false, List, [], ◌∷◌, Option, Some, None, refl, sym, ap, subst, inl, inr, ⊎_elim, arith}
use Rattle.std.proofs.lemmas.Bool.{eqb-true, eq-eqb}
use Rattle.kube_objects.specs.declared.call.Reply.{Reply}
use Rattle.kube_objects.specs.declared.call.Request.{Request}
use Rattle.kube_objects.specs.declared.call.Request.TheVariants.{Get}
use Rattle.kube_objects.specs.declared.deed.Actor.{Actor}
use Rattle.kube_objects.specs.declared.deed.Actor.TheVariants as actors
use Rattle.kube_objects.specs.declared.key.Key.{Key}
use Rattle.kube_objects.specs.declared.object.Object.{Object}
use Rattle.kube_objects.specs.declared.script.What.TheVariants as what
use Rattle.kube_objects.specs.Clocks.{store_wall, whole_second}
use Rattle.kube_objects.specs.Document.{Doc, is_controller}
use Rattle.kube_objects.specs.Entry.{Entry, Identity, Call, CallKind, Plain, Fact, First, Starts, Crashes, Stops, Ends, Sends, Delivers, Expires, ReleaseBegins, ReleaseEnds, actor_of, entry, script_entry}
use Rattle.kube_objects.specs.Identities.{identity, is_same, is_by, of_process}
use Rattle.kube_objects.specs.Kubelet.{round_says, has_round, next_request, post, node_of}
use Rattle.kube_objects.specs.Newest.{newest, added, when, join, or_else, has}
use Rattle.kube_objects.specs.Own.{ReleasesByStop}
use Rattle.kube_objects.specs.Process.{born, gone, life_says, life, alive, begun, is_send, open_as, call_says, last_call, call_in, counted}
use Rattle.kube_objects.specs.Stamps.{stamped}
use Rattle.kube_objects.specs.Stored.{node_lease}
use Rattle.kube_objects.specs.Turns.{just_expired}
use Rattle.kube_objects.specs.Wire.{next_call, request_arrival, send}
use Rattle.history.specs.History.{put_all, history}
use Rattle.history.specs.Sound.{IsSound}
use Rattle.history_laws.specs.Tails.{In, IsTail}
use Rattle.history_laws.proofs.Counting.{counted_is}
use Rattle.history_laws.proofs.Expired.{expired_none}
use Rattle.history_laws.proofs.Plainly.{upper, some_is, none_is, true_is, false_is, same_is, same_self, added_more}
use Rattle.history_laws.proofs.Rounds.{Runs, RunsOwn, no_round, runs_more, runs_empty, goes_on}
use Rattle.history_laws.proofs.Tailed.{tail_all, tail_trans, tail_of_empty, same_head, same_rest, begun_tail}
use Rattle.history_laws.proofs.Ticks.{walk_tick}
use Rattle.history_laws.proofs.Walk.{after_reply, Keeps, no_release, walk_history}
use Rattle.lease_laws.proofs.Steps.{sound_of}
use Rattle.call_laws.specs.Waiting.{Closes, IsClosed}
use Rattle.call_laws.specs.Answering.{with_events}
use Rattle.call_laws.proofs.Above.{next_above, in_head}
use Rattle.call_laws.proofs.Making.{MadeAs, MadeDelivery, MadeExpiry, are_made}
use Rattle.call_laws.proofs.Starting.{actor_is, starts_are_down}
use Rattle.takeover_laws.specs.Calm.{IsSteady}
use Rattle.takeover_laws.proofs.Standing.{IsSince, since_events}

-- ---- why it sends

-- after a counted reply
pub record Follows (doc : Doc) (k : ℕ) (q : Identity) (request : Request) (h : List Entry) : Type 0 where
  pub waiting : Call
  pub reply : Reply
  pub before : List Entry
  pub is : h ≡ entry k 3 q (Delivers waiting reply true) ∷ before
  pub waits : call_in q before ≡ Some waiting
  pub next : next_request doc q k waiting.request reply ≡ Some request

-- after the expiry of its post
pub record Seeks (k : ℕ) (q : Identity) (h : List Entry) : Type 0 where
  pub call : Call
  pub expired : just_expired q k h ≡ Some call

-- to begin a round
pub record Posts (doc : Doc) (k : ℕ) (q : Identity) (request : Request) (h : List Entry) : Type 0 where
  pub none : has_round q h ≡ false
  pub is : request ≡ post doc q k h

-- a kubelet's request
pub record KubeletSends (doc : Doc) (k step : ℕ) (q : Identity) (call : Call) (arrives : Option ℕ) (h : List Entry) : Type 0 where
  pub request : Request
  pub call_is : call ≡ next_call q k Plain request h
  pub arrives_is : arrives ≡ request_arrival doc q.process k h
  pub up : alive q.process h ≡ Some q.incarnation
  pub free : call_in q h ≡ None
  pub late : 3 ≤ step
  pub why : Follows doc k q request h ⊎ (Seeks k q h ⊎ Posts doc k q request h)

-- what an entry shows of its actor, where that is a kubelet
abbrev pub KubeletMakes : Doc → ℕ → ℕ → Actor → Fact → List Entry → Type 0
KubeletMakes doc k step who (Sends call arrives) h = (q : Identity) → who ≡ actor_of q → is_controller doc q.process ≡ false → KubeletSends doc k step q call arrives h
KubeletMakes doc k step who Ends h = (q : Identity) → who ≡ actor_of q → is_controller doc q.process ≡ true
KubeletMakes doc k step who (ReleaseBegins at_deadline) h = ⊥
KubeletMakes doc k step who Stops h = (q : Identity) → who ≡ actor_of q → is_controller doc q.process ≡ true
KubeletMakes doc k step who _ h = Unit {0}

abbrev KubeletMade : Doc → List Entry → Type 0
KubeletMade doc h = (x : Entry) (before : List Entry) → IsTail (x ∷ before) h → KubeletMakes doc x.beat x.step x.actor x.fact before

record KubeletRight (doc : Doc) (h : List Entry) : Type 0 where
  runs : (q : Identity) → is_controller doc q.process ≡ false → Runs q h
  made : KubeletMade doc h

made_more : (doc : Doc) (x : Entry) (h : List Entry) → KubeletMakes doc x.beat x.step x.actor x.fact h → KubeletMade doc h → KubeletMade doc (x ∷ h)
made_more doc x h new s e before (inl is) =
    subst (λ (e : Entry). KubeletMakes doc e.beat e.step e.actor e.fact before) (sym (same_head e x before h is)) (subst (λ g. KubeletMakes doc x.beat x.step x.actor x.fact g) (sym (same_rest e x before h is)) new)
made_more doc x h new s e before (inr at) = s e before at

right_more : (doc : Doc) (x : Entry) (h : List Entry) → ((q : Identity) → is_controller doc q.process ≡ false → is_by q x.actor ≡ true → RunsOwn q h x.fact) → KubeletMakes doc x.beat x.step x.actor x.fact h → KubeletRight doc h → KubeletRight doc (x ∷ h)
right_more doc x h own new s = record { runs = λ q role. runs_more q x h (own q role) (s.runs q role); made = made_more doc x h new s.made }

-- a request of one identity
right_sends : (doc : Doc) (k step : ℕ) (q : Identity) (kind : CallKind) (request : Request) (h : List Entry)
    → (is_controller doc q.process ≡ false → RunsOwn q h (Sends (next_call q k kind request h) (request_arrival doc q.process k h)) × KubeletSends doc k step q (next_call q k kind request h) (request_arrival doc q.process k h) h)
    → KubeletRight doc h → KubeletRight doc (send doc k step q kind request h)
right_sends doc k step q kind request h made s =
    right_more doc (entry k step q (Sends (next_call q k kind request h) (request_arrival doc q.process k h))) h
    (λ p role by. let same : q ≡ p = same_is q p by in subst (λ p. RunsOwn p h (Sends (next_call q k kind request h) (request_arrival doc q.process k h))) same (made (subst (λ (p : Identity). is_controller doc p.process ≡ false) (sym same) role)).0)
    (λ p is role. let same : q ≡ p = actor_is q p is in subst (λ p. KubeletSends doc k step p (next_call q k kind request h) (request_arrival doc q.process k h) h) same (made (subst (λ (p : Identity). is_controller doc p.process ≡ false) (sym same) role)).1)
    s

-- a controller's request
right_other : (doc : Doc) (k step : ℕ) (q : Identity) (kind : CallKind) (request : Request) (h : List Entry) → is_controller doc q.process ≡ true → KubeletRight doc h → KubeletRight doc (send doc k step q kind request h)
right_other doc k step q kind request h role s = right_sends doc k step q kind request h (λ other. absurd (true_is (sym role ∙ other))) s

right_keeps : (doc : Doc) → IsSound doc → Keeps doc (λ k step h. KubeletRight doc h)
right_keeps doc sound = record {
  on = λ k step h s. s;
  next = λ k s. s;
  event = λ k w h scripted s. right_more doc _ h (λ q role by. tt) tt s;
  starts = λ k step p h s. right_more doc _ h (λ q role by. tt) tt s;
  crashes = λ k p i h up s. right_more doc _ h (λ q role by. tt) tt s;
  stalls = λ k id beats i h scripted up s. right_more doc _ h (λ q role by. tt) tt s;
  stops = λ k id i h scripted up free s. right_more doc _ h (λ q role by. tt) (λ q is. ap (λ (q : Identity). is_controller doc q.process) (sym (actor_is (identity id.0 i) q is)) ∙ sound_of doc k (what.Stop id) sound scripted) s;
  releases = λ k id i before request scripted up awake is stop was s. right_other doc k 1 (identity id.0 i) _ request _ (sound_of doc k (what.Stop id) sound scripted) s;
  answers = λ k x h at s. right_more doc _ h (λ q role by. tt) tt s;
  ignores = λ k b h coming is s. right_more doc _ h (λ q role by. tt) tt s;
  counts = λ k b waiting h coming is of s. right_more doc _ h (λ q role by. tt) tt s;
  follows = λ k b waiting h request coming is role of follows was s. right_other doc k 3 b.who Plain request (after_reply k b waiting h) role s;
  leads = λ k b waiting h version coming is role of follows was s. right_more doc _ (after_reply k b waiting h) (λ q role by. tt) tt s;
  asks = λ k b waiting h request coming is role asked was s.
      let c = counted_is doc b.who k b.call.number h waiting is in
      right_sends doc k 3 b.who Plain request (after_reply k b waiting h)
      (λ role. (
        inr (inr (subst (λ t. or_else false (upper (when (t && (true && is_same b.who b.who)) false) (newest (λ e T. round_says b.who e.actor e.fact) h)) ≡ true) (sym (goes_on doc b.who k waiting.request b.reply request asked)) ((was.runs b.who role).0 waiting c.waits))),
        record {
          request = request;
          call_is = refl;
          arrives_is = refl;
          up = c.up;
          free = ap (λ t. join (upper (when t None) (last_call b.who h))) (same_self b.who);
          late = omega arith;
          why = inl (record { waiting = waiting; reply = b.reply; before = h; is = refl; waits = c.waits; next = asked });
        },
      )) s;
  turns = record {
    restarts = λ k p h s. right_more doc _ h (λ q role by. tt) tt s;
    expires = λ k p i call h up waits late of s. right_more doc _ h (λ q role by. subst (λ q. call_in q h ≡ Some call) (same_is (identity p i) q by) waits) tt s;
    ends = λ k p i at h role up is before stop s. right_more doc _ h (λ q role by. tt) (λ q is. ap (λ (q : Identity). is_controller doc q.process) (sym (actor_is (identity p i) q is)) ∙ role) s;
    polls = λ k p i h role up awake waits s. right_other doc k 4 (identity p i) _ _ h role s;
    attempts = λ k p i h role up awake waits s. right_other doc k 4 (identity p i) _ _ h role s;
    seeks = λ k p i call h role up awake expired late s.
        right_sends doc k 4 (identity p i) Plain (Get (node_lease (node_of doc p))) h
        (λ role. (
          inr (inr ((s.runs (identity p i) role).1 k call expired late)),
          record { request = Get (node_lease (node_of doc p)); call_is = refl; arrives_is = refl; up = up; free = expired_none (identity p i) k h call expired; late = omega arith; why = inr (inl (record { call = call; expired = expired })) },
        )) s;
    posts = λ k p i h role up awake none s.
        right_sends doc k 4 (identity p i) Plain (post doc (identity p i) k h) h
        (λ role. (
          inr (inl refl),
          record { request = post doc (identity p i) k h; call_is = refl; arrives_is = refl; up = up; free = no_round (identity p i) h none (s.runs (identity p i) role); late = omega arith; why = inr (inr (record { none = none; is = refl })) },
        )) s;
    ticks = λ k q h acting s. walk_tick doc k q (KubeletRight doc) (λ t g made s. right_more doc _ g (λ q role by. tt) tt s) h s;
  };
}

put_right : (doc : Doc) (xs : List (Key × Object)) (h : List Entry) → KubeletRight doc h → KubeletRight doc (put_all doc xs h)
put_right doc [] h s = s
put_right doc (x ∷ xs) h s = put_right doc xs (script_entry 0 0 (First x.0 (stamped (whole_second (store_wall doc 0)) x.1)) ∷ h) (right_more doc _ h (λ q role by. tt) tt s)

all_right : (doc : Doc) → IsSound doc → ReleasesByStop doc → (k : ℕ) → KubeletRight doc (history doc k)
all_right doc sound rules k =
    walk_history doc (λ k step h. KubeletRight doc h) (right_keeps doc sound) (no_release doc (λ k step h. KubeletRight doc h) rules.release)
    (put_right doc doc.objects [] (record { runs = λ q role. runs_empty q; made = λ x before at. absurd (tail_of_empty x before at) })) k

pub kubelet_makes : (doc : Doc) → IsSound doc → ReleasesByStop doc → (m : ℕ) (x : Entry) (before : List Entry) → IsTail (x ∷ before) (history doc m) → KubeletMakes doc x.beat x.step x.actor x.fact before
kubelet_makes doc sound rules m = (all_right doc sound rules m).made

pub by_is : (q : Identity) (who : Actor) → is_by q who ≡ true → who ≡ actor_of q
by_is q actors.Script is = absurd (false_is is)
by_is q (actors.Proc id i) is = ap actor_of (same_is (identity id.0 i) q is)

-- ---- a kubelet's calls

module _ (doc : Doc) (sound : IsSound doc) (rules : ReleasesByStop doc) (m : ℕ) (q : Identity) (role : is_controller doc q.process ≡ false) where
  pub sends_as : (x : Entry) (h : List Entry) (call : Call) (arrives : Option ℕ) → IsTail (x ∷ h) (history doc m) → x.actor ≡ actor_of q → x.fact ≡ Sends call arrives → KubeletSends doc x.beat x.step q call arrives h
  sends_as x h call arrives at actor fact = (subst (λ d. KubeletMakes doc x.beat x.step x.actor d h) fact (kubelet_makes doc sound rules m x h at)) q actor role

  below : (x : Entry) (h : List Entry) → IsTail (x ∷ h) (history doc m) → IsTail h (history doc m)
  below x h at = tail_trans h (x ∷ h) (history doc m) (inr (tail_all h)) at

  -- the call that waits is the last one that was sent
  pub newest_number : (h : List Entry) → IsTail h (history doc m) → (c : Call) → call_in q h ≡ Some c → c.number ≡ begun q h
  newest_number [] at c is = absurd (none_is c is)
  newest_number (x ∷ h) at c is = cases x.actor x.fact (newest_number h (below x h at) c) (kubelet_makes doc sound rules m x h at) is
    where
      closing : (b : Bool) → (call_in q h ≡ Some c → c.number ≡ begun q h) → join (upper (when b None) (last_call q h)) ≡ Some c → c.number ≡ begun q h
      closing true old is = absurd (none_is c is)
      closing false old is = old is

      sending : (who : Actor) (call : Call) (arrives : Option ℕ) → (call_in q h ≡ Some c → c.number ≡ begun q h) → KubeletMakes doc x.beat x.step who (Sends call arrives) h → (b : Bool) → is_by q who ≡ b
          → join (upper (when b (open_as call.kind call)) (last_call q h)) ≡ Some c → c.number ≡ added b (begun q h)
      sending who call arrives old makes false other is = old is
      sending who call arrives old makes true mine is =
          let s = makes q (by_is q who mine) role in
          let opens : open_as call.kind call ≡ Some call = ap (λ kind. open_as kind call) (ap (λ (c : Call). c.kind) s.call_is) in
          let same : call ≡ c = some_is call c (sym opens ∙ is) in
          sym (ap (λ (c : Call). c.number) same) ∙ ap (λ (c : Call). c.number) s.call_is

      cases : (who : Actor) (d : Fact) → (call_in q h ≡ Some c → c.number ≡ begun q h) → KubeletMakes doc x.beat x.step who d h → join (upper (call_says q who d) (last_call q h)) ≡ Some c → c.number ≡ added (is_send d && is_by q who) (begun q h)
      cases who (Sends call arrives) old makes is = sending who call arrives old makes (is_by q who) refl is
      cases who (Delivers call reply counted) old makes is = closing (counted && is_by q who) old is
      cases who (Expires call) old makes is = closing (is_by q who) old is
      cases who (ReleaseBegins at_deadline) old makes is = absurd makes
      cases who d old makes is = old is

  -- with no call, and nothing sent, it has no call
  pub none_stays : (g h : List Entry) → IsTail g h → begun q h ≤ begun q g → call_in q g ≡ None → call_in q h ≡ None
  none_stays g [] at few none = refl
  none_stays g (x ∷ h) (inl is) few none = ap (call_in q) (sym is) ∙ none
  none_stays g (x ∷ h) (inr at) few none =
      cases x.actor x.fact (none_stays g h at (omega (arith, few, added_more (is_send x.fact && is_by q x.actor) (begun q h))) none) (omega (arith, few, begun_tail q g h at))
    where
      closing : (b : Bool) → call_in q h ≡ None → join (upper (when b None) (last_call q h)) ≡ None
      closing true old = refl
      closing false old = old

      sending : (call : Call) (b : Bool) → call_in q h ≡ None → added b (begun q h) ≤ begun q h → join (upper (when b (open_as call.kind call)) (last_call q h)) ≡ None
      sending call true old few = absurd (omega (arith, few))
      sending call false old few = old

      cases : (who : Actor) (d : Fact) → call_in q h ≡ None → added (is_send d && is_by q who) (begun q h) ≤ begun q h → join (upper (call_says q who d) (last_call q h)) ≡ None
      cases who (Sends call arrives) old few = sending call (is_by q who) old few
      cases who (Delivers call reply counted) old few = closing (counted && is_by q who) old
      cases who (Expires call) old few = closing (is_by q who) old
      cases who (ReleaseBegins at_deadline) old few = closing (is_by q who) old
      cases who d old few = old

  -- a call waits until it is closed
  still : (who : Actor) (d : Fact) (h : List Entry) (call : Call) (k step : ℕ) → KubeletMakes doc k step who d h → call_in q h ≡ Some call
      → ((c : Call) (reply : Reply) → d ≡ Delivers c reply true → is_by q who ≡ true → c ≡ call) → ((c : Call) → d ≡ Expires c → is_by q who ≡ true → c ≡ call)
      → (join (upper (call_says q who d) (last_call q h)) ≡ Some call) ⊎ Closes q call who d
  still who (Sends c arrives) h call k step makes waits counts expires = by_test (is_by q who) refl
    where
      by_test : (b : Bool) → is_by q who ≡ b → (join (upper (when b (open_as c.kind c)) (last_call q h)) ≡ Some call) ⊎ Closes q call who (Sends c arrives)
      by_test false other = inl waits
      by_test true mine = absurd (none_is call (sym (makes q (by_is q who mine) role).free ∙ waits))
  still who (Delivers c reply true) h call k step makes waits counts expires = by_test (is_by q who) refl
    where
      by_test : (b : Bool) → is_by q who ≡ b → (join (upper (when b None) (last_call q h)) ≡ Some call) ⊎ Closes q call who (Delivers c reply true)
      by_test false other = inl waits
      by_test true mine = inr (mine, counts c reply refl mine)
  still who (Delivers c reply false) h call k step makes waits counts expires = inl waits
  still who (Expires c) h call k step makes waits counts expires = by_test (is_by q who) refl
    where
      by_test : (b : Bool) → is_by q who ≡ b → (join (upper (when b None) (last_call q h)) ≡ Some call) ⊎ Closes q call who (Expires c)
      by_test false other = inl waits
      by_test true mine = inr (mine, expires c refl mine)
  still who (ReleaseBegins at_deadline) h call k step makes waits counts expires = absurd makes
  still who d h call k step makes waits counts expires = inl waits

  -- what an entry closes is the call that waited
  closes_waiting : (x : Entry) (h : List Entry) (call : Call) → IsTail (x ∷ h) (history doc m) → call_in q h ≡ Some call → (join (upper (call_says q x.actor x.fact) (last_call q h)) ≡ Some call) ⊎ Closes q call x.actor x.fact
  closes_waiting x h call at waits =
      still x.actor x.fact h call x.beat x.step (kubelet_makes doc sound rules m x h at) waits (λ c reply is mine. counted x.actor x.fact (are_made doc rules m x h at) c reply is mine) (λ c is mine. expired x.actor x.fact (are_made doc rules m x h at) c is mine)
    where
      counted : (who : Actor) (d : Fact) → MadeAs doc x.beat x.step who d h → (c : Call) (reply : Reply) → d ≡ Delivers c reply true → is_by q who ≡ true → c ≡ call
      counted who d made c reply is mine = by_made (subst (λ d. MadeAs doc x.beat x.step who d h) is made)
        where
          by_made : MadeDelivery doc x.beat x.step who c reply h → c ≡ call
          by_made d =
              let same : d.b.who ≡ q = actor_is d.b.who q (sym d.by ∙ by_is q who mine) in
              some_is c call (sym (counted_is doc d.b.who x.beat d.b.call.number h c d.counted_is).waits ∙ ap (λ p. call_in p h) same ∙ waits)

      expired : (who : Actor) (d : Fact) → MadeAs doc x.beat x.step who d h → (c : Call) → d ≡ Expires c → is_by q who ≡ true → c ≡ call
      expired who d made c is mine = by_made (subst (λ d. MadeAs doc x.beat x.step who d h) is made)
        where
          by_made : MadeExpiry doc x.beat who c h → c ≡ call
          by_made d =
              let same : d.q ≡ q = actor_is d.q q (sym d.by ∙ by_is q who mine) in
              some_is c call (sym d.waits ∙ ap (λ p. call_in p h) same ∙ waits)

  module _ (call : Call) (arrives : Option ℕ) (e : Entry) (before : List Entry) (at : IsTail (e ∷ before) (history doc m)) (actor : e.actor ≡ actor_of q) (fact : e.fact ≡ Sends call arrives) where
    pub opens : open_as call.kind call ≡ Some call
    opens = let s = sends_as e before call arrives at actor fact in ap (λ kind. open_as kind call) (ap (λ (c : Call). c.kind) s.call_is)

    pub sent : call_in q (e ∷ before) ≡ Some call
    sent =
        subst (λ d. join (upper (call_says q e.actor d) (last_call q before)) ≡ Some call) (sym fact)
        (subst (λ who. join (upper (when (is_by q who) (open_as call.kind call)) (last_call q before)) ≡ Some call) (sym actor)
        (ap (λ b. join (upper (when b (open_as call.kind call)) (last_call q before))) (same_self q) ∙ opens))

    pub number_is : (call.number ≡ begun q before + 1) × (begun q (e ∷ before) ≡ begun q before + 1)
    number_is =
        let s = sends_as e before call arrives at actor fact in (
          ap (λ (c : Call). c.number) s.call_is,
          ap (λ d. added (is_send d && is_by q e.actor) (begun q before)) fact ∙ ap (λ who. added (is_by q who) (begun q before)) actor ∙ ap (λ b. added b (begun q before)) (same_self q),
        )

    -- it waits, or was closed
    pub waits_on : (h : List Entry) → IsTail h (history doc m) → IsTail (e ∷ before) h → (call_in q h ≡ Some call) ⊎ IsClosed q call (e ∷ before) h
    waits_on [] within since = absurd (tail_of_empty e before since)
    waits_on (x ∷ h) within (inl is) = inl (subst (λ g. call_in q g ≡ Some call) is sent)
    waits_on (x ∷ h) within (inr since) = cases (waits_on h (below x h within) since)
      where
        cases : (call_in q h ≡ Some call) ⊎ IsClosed q call (e ∷ before) h → (call_in q (x ∷ h) ≡ Some call) ⊎ IsClosed q call (e ∷ before) (x ∷ h)
        cases (inr closed) = inr (record { e = closed.e; before = closed.before; position = inr closed.position; since = closed.since; closes = closed.closes })
        cases (inl waits) = ⊎_elim (λ w. inl w) (λ closes. inr (record { e = x; before = h; position = inl refl; since = since; closes = closes })) (closes_waiting x h call within waits)

-- ---- it stays up

module _ (doc : Doc) (sound : IsSound doc) (rules : ReleasesByStop doc) (near far s l : ℕ) (q : Identity) (role : is_controller doc q.process ≡ false) (steady : IsSteady doc near far s l q.process) where
  stays_up_at : (x : Entry) (h : List Entry) → IsTail (x ∷ h) (history doc (suc l)) → IsSince s x → alive q.process h ≡ Some q.incarnation → alive q.process (x ∷ h) ≡ Some q.incarnation
  stays_up_at x h at since up = cases x.actor x.fact refl refl (are_made doc rules (suc l) x h at) (kubelet_makes doc sound rules (suc l) x h at)
    where
      own : (who : Actor) → x.actor ≡ who → (i : ℕ) → of_process q.process who ≡ Some i → x.actor ≡ actor_of (identity q.process i)
      own actors.Script is i of = absurd (none_is i of)
      own (actors.Proc id j) is i of = by_test (id.0 == q.process) refl of
        where
          by_test : (b : Bool) → (id.0 == q.process) ≡ b → when b j ≡ Some i → x.actor ≡ actor_of (identity q.process i)
          by_test true same of = is ∙ ap (λ p. actor_of (identity p j)) (eqb-true id.0 q.process same) ∙ ap (λ i. actor_of (identity q.process i)) (some_is j i of)
          by_test false same of = absurd (none_is i of)

      -- an entry of this kind by the process isn't there
      by_process : (f : Option ℕ → Option (Option ℕ)) → f None ≡ None → (who : Actor) → x.actor ≡ who → ((i : ℕ) → x.actor ≡ actor_of (identity q.process i) → ⊥)
          → join (upper (f (of_process q.process who)) (life q.process h)) ≡ Some q.incarnation
      by_process f none who is never = by_own (of_process q.process who) refl
        where
          by_own : (o : Option ℕ) → of_process q.process who ≡ o → join (upper (f o) (life q.process h)) ≡ Some q.incarnation
          by_own None of = ap (λ o. join (upper o (life q.process h))) none ∙ up
          by_own (Some i) of = absurd (never i (own who is i of))

      there : In x (history doc (suc l))
      there = in_head x h (history doc (suc l)) at

      is_own : (i : ℕ) → x.actor ≡ actor_of (identity q.process i) → has (of_process q.process x.actor) ≡ true
      is_own i by = ap (λ who. has (of_process q.process who)) by ∙ ap (λ b. has (when b i)) (eq-eqb q.process q.process refl)

      late : x.step ≡ 1 → s < x.beat
      late one = ⊎_elim (λ lt. lt) (λ here. absurd (omega (arith, here.1, one))) since

      cases : (who : Actor) (d : Fact) → x.actor ≡ who → x.fact ≡ d → MadeAs doc x.beat x.step who d h → KubeletMakes doc x.beat x.step who d h → join (upper (life_says q.process who d) (life q.process h)) ≡ Some q.incarnation
      cases who Starts actor fact made makes = by_process born refl who actor (λ i by. none_is q.incarnation (sym (starts_are_down doc rules (suc l) x h at fact (identity q.process i) by) ∙ up))
      cases who Crashes actor fact made makes = by_process gone refl who actor (λ i by. omega (arith, late made, steady.crashes x there fact (is_own i by)))
      cases who Stops actor fact made makes = by_process gone refl who actor (λ i by. omega (arith, late made, steady.stops x there fact (is_own i by)))
      cases who ReleaseEnds actor fact made makes = absurd made
      cases who Ends actor fact made makes = by_process gone refl who actor (λ i by. true_is (sym (makes (identity q.process i) (sym actor ∙ by)) ∙ role))
      cases who d actor fact made makes = up

  pub stays_up : (g h : List Entry) → IsTail (with_events doc s) g → IsTail g h → IsTail h (history doc (suc l)) → s ≤ l → alive q.process g ≡ Some q.incarnation → alive q.process h ≡ Some q.incarnation
  stays_up g [] low at within le up = subst (λ g. alive q.process g ≡ Some q.incarnation) at up
  stays_up g (x ∷ h) low (inl is) within le up = subst (λ g. alive q.process g ≡ Some q.incarnation) is up
  stays_up g (x ∷ h) low (inr at) within le up =
      stays_up_at x h within (next_above (IsSince s) (with_events doc s) h (history doc (suc l)) x (since_events doc s l le) (tail_trans (with_events doc s) g h low at) within).0
      (stays_up g h low at (tail_trans h (x ∷ h) (history doc (suc l)) (inr (tail_all h)) within) le up)
