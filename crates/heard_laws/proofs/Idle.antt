-- A kubelet that has no call begins a round as soon as its time has come.
use Rattle.std.proofs.Common.{◌≡◌, ◌∙◌, ◌⊎◌, ◌≤◌, ◌<◌, ℕ, suc, ◌+◌, ◌&&◌, not, nat_lt, Bool, true, false, List, [], ◌∷◌, Option, Some, None, refl, sym, ap, subst, inl, inr, arith}
use Rattle.std.specs.Prelude.{if◌then◌else◌}
use Rattle.std.proofs.lemmas.Bool.{ltb-true}
use Rattle.kube_objects.specs.declared.call.Reply.{Reply}
use Rattle.kube_objects.specs.declared.call.Request.{Request}
use Rattle.kube_objects.specs.declared.deed.Actor.{Actor}
use Rattle.kube_objects.specs.Clocks.{local}
use Rattle.kube_objects.specs.Document.{Doc, processes, is_controller}
use Rattle.kube_objects.specs.Entry.{Entry, Identity, Call, Plain, Fact, First as FirstPut, Event as Happens, Starts, Crashes, Stops, Stalls, Ends, Sends, Answers, Delivers, Expires, Leads, Ticks, actor_of, entry, StepsDown, ReleaseBegins, ReleaseEnds, ReleaseStops}
use Rattle.kube_objects.specs.Identities.{is_by}
use Rattle.kube_objects.specs.Kubelet.{is_post, ends_round, round_says, has_round, round_period, round_timer_says, round_timer, post, next_request, is_post_call, round_if, is_round_due, round}
use Rattle.kube_objects.specs.Newest.{newest, added, when, join, or_else, or_zero}
use Rattle.kube_objects.specs.Own.{ReleasesByStop}
use Rattle.kube_objects.specs.Pauses.{is_paused}
use Rattle.kube_objects.specs.Process.{alive, begun, is_send, open_as, call_says, last_call, call_in}
use Rattle.kube_objects.specs.Turns.{expire_call, expired, expired_in, just_expired}
use Rattle.kube_objects.specs.Wire.{next_call, request_arrival, send}
use Rattle.history.specs.Evictions.{after_turn}
use Rattle.history.specs.History.{history, at_turn}
use Rattle.history.specs.Sound.{IsSound}
use Rattle.history.specs.Steps.{if_up, rounds, kubelet_turn, controller_turn, unpaused_turn}
use Rattle.history_laws.specs.Tails.{IsTail}
use Rattle.history_laws.proofs.Counting.{counted_is}
use Rattle.history_laws.proofs.Plainly.{upper, none_is, true_is, false_is, added_more}
use Rattle.history_laws.proofs.Tailed.{tail_all, tail_trans, turn_tail, begun_tail, same_rest}
use Rattle.call_laws.proofs.Making.{MadeAs, are_made}
use Rattle.call_laws.proofs.Starting.{actor_is, starts_are_down}
use Rattle.heard_laws.proofs.Sending.{KubeletSends, Follows, Seeks, Posts, sends_as, by_is}

-- a kubelet that has no call and no round, and whose next one may begin at a reading
pub record Idle (doc : Doc) (q : Identity) (at : ℕ) (h : List Entry) : Type 0 where
  pub free : call_in q h ≡ None
  pub none : has_round q h ≡ false
  pub timer : round_timer doc q h ≡ at
  pub calm : (k : ℕ) → just_expired q k h ≡ None

-- another's entry, or one that says nothing of rounds
module _ (doc : Doc) (sound : IsSound doc) (rules : ReleasesByStop doc) (m : ℕ) (q : Identity) (role : is_controller doc q.process ≡ false) (at : ℕ) where
  -- what an own entry that isn't a request leaves
  own_idle : (x : Entry) (h : List Entry) → Idle doc q at h → is_by q x.actor ≡ false → Idle doc q at (x ∷ h)
  own_idle x h i other = record {
    free = ap (λ o. join (upper o (last_call q h))) (call_none x.actor x.fact other) ∙ i.free;
    none = ap (λ o. or_else false (upper o (newest (λ e T. round_says q e.actor e.fact) h))) (round_none x.actor x.fact other) ∙ i.none;
    timer = ap (λ o. or_zero (upper o (newest (λ e T. round_timer_says doc q e.beat e.actor e.fact) h))) (timer_none x.actor x.fact other) ∙ i.timer;
    calm = λ k. ap (λ b. join (upper (when b (expired_in k x.beat x.fact)) (newest (λ e T. when (is_by q e.actor) (expired_in k e.beat e.fact)) h))) other ∙ i.calm k;
  }
    where
      and_false : (a : Bool) → (a && false) ≡ false
      and_false true = refl
      and_false false = refl

      call_none : (who : Actor) (d : Fact) → is_by q who ≡ false → call_says q who d ≡ None
      call_none who (Sends c arrives) other = ap (λ b. when b (open_as c.kind c)) other
      call_none who (Delivers c reply counted) other = ap (λ b. when {A = Option Call} (counted && b) None) other ∙ ap (λ b. when {A = Option Call} b None) (and_false counted)
      call_none who (Expires c) other = ap (λ b. when {A = Option Call} b None) other
      call_none who (ReleaseBegins at_deadline) other = ap (λ b. when {A = Option Call} b None) other
      call_none who d other = refl

      round_none : (who : Actor) (d : Fact) → is_by q who ≡ false → round_says q who d ≡ None
      round_none who (Sends c arrives) other = ap (λ b. when (is_post c.request && b) true) other ∙ ap (λ b. when b true) (and_false (is_post c.request))
      round_none who (Delivers c reply counted) other =
          ap (λ b. when (ends_round c.request reply && (counted && b)) false) other ∙ ap (λ b. when (ends_round c.request reply && b) false) (and_false counted) ∙ ap (λ b. when b false) (and_false (ends_round c.request reply))
      round_none who (Expires c) other = ap (λ b. when (not (is_post c.request) && b) false) other ∙ ap (λ b. when b false) (and_false (not (is_post c.request)))
      round_none who d other = refl

      timer_none : (who : Actor) (d : Fact) → is_by q who ≡ false → round_timer_says doc q x.beat who d ≡ None
      timer_none who Starts other = ap (λ b. when b (local doc q.process x.beat)) other
      timer_none who (Sends c arrives) other = ap (λ b. when (is_post c.request && b) (local doc q.process x.beat + round_period doc)) other ∙ ap (λ b. when b (local doc q.process x.beat + round_period doc)) (and_false (is_post c.request))
      timer_none who d other = refl

  -- so does an own one but a start or a request: it isn't a counted reply nor an expiry, since no call waits
  mine_idle : (x : Entry) (h : List Entry) → IsTail (x ∷ h) (history doc m) → Idle doc q at h → alive q.process h ≡ Some q.incarnation → is_by q x.actor ≡ true → is_send x.fact ≡ false → Idle doc q at (x ∷ h)
  mine_idle x h within i up mine unsent = cases x.actor x.fact refl refl mine unsent (are_made doc rules m x h within)
    where
      After : Actor → Fact → Type 0
      After who d = Idle doc q at (record { beat = x.beat; step = x.step; actor = who; fact = d } ∷ h)

      plain : (who : Actor) (d : Fact) → is_by q who ≡ true → call_says q who d ≡ None → round_says q who d ≡ None → round_timer_says doc q x.beat who d ≡ None → ((k : ℕ) → expired_in k x.beat d ≡ None) → After who d
      plain who d mine c r t x_none = record {
        free = ap (λ o. join (upper o (last_call q h))) c ∙ i.free;
        none = ap (λ o. or_else false (upper o (newest (λ e T. round_says q e.actor e.fact) h))) r ∙ i.none;
        timer = ap (λ o. or_zero (upper o (newest (λ e T. round_timer_says doc q e.beat e.actor e.fact) h))) t ∙ i.timer;
        calm = λ k. ap (λ b. join (upper (when b (expired_in k x.beat d)) (newest (λ e T. when (is_by q e.actor) (expired_in k e.beat e.fact)) h))) mine ∙ ap (λ o. join (Some o)) (x_none k);
      }

      and_false : (a : Bool) → (a && false) ≡ false
      and_false true = refl
      and_false false = refl

      cases : (who : Actor) (d : Fact) → x.actor ≡ who → x.fact ≡ d → is_by q who ≡ true → is_send d ≡ false → MadeAs doc x.beat x.step who d h → After who d
      cases who (Sends c arrives) actor fact mine unsent made = absurd (true_is unsent)
      cases who Starts actor fact mine unsent made = absurd (none_is q.incarnation (sym (starts_are_down doc rules m x h within fact q (actor ∙ by_is q who mine)) ∙ up))
      cases who (Delivers c reply true) actor fact mine unsent made =
          let same : made.b.who ≡ q = actor_is made.b.who q (sym made.by ∙ by_is q who mine) in
          absurd (none_is c (sym i.free ∙ sym (ap (λ p. call_in p h) same) ∙ (counted_is doc made.b.who x.beat made.b.call.number h c made.counted_is).waits))
      cases who (Delivers c reply false) actor fact mine unsent made = plain who (Delivers c reply false) mine refl (ap (λ b. when b false) (and_false (ends_round c.request reply))) refl (λ k. refl)
      cases who (Expires c) actor fact mine unsent made =
          let same : made.q ≡ q = actor_is made.q q (sym made.by ∙ by_is q who mine) in
          absurd (none_is c (sym i.free ∙ sym (ap (λ p. call_in p h) same) ∙ made.waits))
      cases who (FirstPut key object) actor fact mine unsent made = plain who (FirstPut key object) mine refl refl refl (λ k. refl)
      cases who (Happens w version) actor fact mine unsent made = plain who (Happens w version) mine refl refl refl (λ k. refl)
      cases who Crashes actor fact mine unsent made = plain who Crashes mine refl refl refl (λ k. refl)
      cases who Stops actor fact mine unsent made = plain who Stops mine refl refl refl (λ k. refl)
      cases who Ends actor fact mine unsent made = plain who Ends mine refl refl refl (λ k. refl)
      cases who (Stalls beats) actor fact mine unsent made = plain who (Stalls beats) mine refl refl refl (λ k. refl)
      cases who StepsDown actor fact mine unsent made = absurd made
      cases who (ReleaseBegins at_deadline) actor fact mine unsent made = absurd made
      cases who ReleaseEnds actor fact mine unsent made = absurd made
      cases who ReleaseStops actor fact mine unsent made = absurd made
      cases who (Answers c reply comes wrote) actor fact mine unsent made = plain who (Answers c reply comes wrote) mine refl refl refl (λ k. refl)
      cases who (Leads version) actor fact mine unsent made = plain who (Leads version) mine refl refl refl (λ k. refl)
      cases who (Ticks t) actor fact mine unsent made = plain who (Ticks t) mine refl refl refl (λ k. refl)

  -- the request that follows is the post of a round
  idle_posts : (x : Entry) (h : List Entry) (call : Call) (arrives : Option ℕ) → IsTail (x ∷ h) (history doc m) → Idle doc q at h → ((waiting : Call) (reply : Reply) (before : List Entry) → h ≡ entry x.beat 3 q (Delivers waiting reply true) ∷ before
      → call_in q before ≡ Some waiting → (next : Request) → next_request doc q x.beat waiting.request reply ≡ Some next → ⊥) → x.actor ≡ actor_of q → x.fact ≡ Sends call arrives → is_post call.request ≡ true
  idle_posts x h call arrives within i unfollowed actor fact = by_why s.why
    where
      s : KubeletSends doc x.beat x.step q call arrives h
      s = sends_as doc sound rules m q role x h call arrives within actor fact

      by_why : Follows doc x.beat q s.request h ⊎ (Seeks x.beat q h ⊎ Posts doc x.beat q s.request h) → is_post call.request ≡ true
      by_why (inl f) = absurd (unfollowed f.waiting f.reply f.before f.is f.waits s.request f.next)
      by_why (inr (inl k)) = absurd (none_is k.call (sym (i.calm x.beat) ∙ k.expired))
      by_why (inr (inr p)) = ap (λ (c : Call). is_post c.request) s.call_is ∙ ap is_post p.is

-- a reply on top is followed by no request
abbrev pub IsUnfollowed : Doc → Identity → List Entry → Type 0
IsUnfollowed doc q h =
    (k : ℕ) (waiting : Call) (reply : Reply) (before : List Entry) → h ≡ entry k 3 q (Delivers waiting reply true) ∷ before → call_in q before ≡ Some waiting
    → (next : Request) → next_request doc q k waiting.request reply ≡ Some next → ⊥

-- a round begins after a position
pub record Begins (q : Identity) (g h : List Entry) : Type 0 where
  pub z : Entry
  pub before : List Entry
  pub call : Call
  pub arrives : Option ℕ
  pub position : IsTail (z ∷ before) h
  pub since : IsTail g before
  pub actor : z.actor ≡ actor_of q
  pub fact : z.fact ≡ Sends call arrives
  pub post : is_post call.request ≡ true

module _ (doc : Doc) (sound : IsSound doc) (rules : ReleasesByStop doc) (m : ℕ) (q : Identity) (role : is_controller doc q.process ≡ false) (at : ℕ) (g : List Entry) (idle : Idle doc q at g) (unfollowed : IsUnfollowed doc q g)
    (up : (h : List Entry) → IsTail g h → IsTail h (history doc m) → alive q.process h ≡ Some q.incarnation) where
  -- it stays idle until it begins a round
  pub idle_on : (h : List Entry) → IsTail g h → IsTail h (history doc m) → (Idle doc q at h × IsUnfollowed doc q h) ⊎ Begins q g h
  idle_on [] since within = inl (subst (λ h. Idle doc q at h × IsUnfollowed doc q h) since (idle, unfollowed))
  idle_on (x ∷ h) (inl is) within = inl (subst (λ h. Idle doc q at h × IsUnfollowed doc q h) is (idle, unfollowed))
  idle_on (x ∷ h) (inr since) within = cases (idle_on h since below)
    where
      below : IsTail h (history doc m)
      below = tail_trans h (x ∷ h) (history doc m) (inr (tail_all h)) within

      next_unfollowed : Idle doc q at h → IsUnfollowed doc q (x ∷ h)
      next_unfollowed i k waiting reply before is waits next follows =
          none_is waiting (sym i.free ∙ ap (call_in q) (same_rest x (entry k 3 q (Delivers waiting reply true)) h before is) ∙ waits)

      begins : (i : Idle doc q at h) → IsUnfollowed doc q h → (d : Fact) → x.fact ≡ d → is_send d ≡ true → is_by q x.actor ≡ true → Begins q g (x ∷ h)
      begins i u (Sends call arrives) fact sends mine = record {
        z = x;
        before = h;
        call = call;
        arrives = arrives;
        position = inl refl;
        since = since;
        actor = by_is q x.actor mine;
        fact = fact;
        post = idle_posts doc sound rules m q role at x h call arrives within i (λ waiting reply before is waits next follows. u x.beat waiting reply before is waits next follows) (by_is q x.actor mine) fact;
      }
      begins i u d fact sends mine = absurd (false_is sends)

      by_kind : (i : Idle doc q at h) → IsUnfollowed doc q h → (own send : Bool) → is_by q x.actor ≡ own → is_send x.fact ≡ send → (Idle doc q at (x ∷ h) × IsUnfollowed doc q (x ∷ h)) ⊎ Begins q g (x ∷ h)
      by_kind i u false send mine sends = inl (own_idle doc sound rules m q role at x h i mine, next_unfollowed i)
      by_kind i u true false mine sends = inl (mine_idle doc sound rules m q role at x h within i (up h since below) mine sends, next_unfollowed i)
      by_kind i u true true mine sends = inr (begins i u x.fact refl sends mine)

      cases : (Idle doc q at h × IsUnfollowed doc q h) ⊎ Begins q g h → (Idle doc q at (x ∷ h) × IsUnfollowed doc q (x ∷ h)) ⊎ Begins q g (x ∷ h)
      cases (inl i) = by_kind i.0 i.1 (is_by q x.actor) (is_send x.fact) refl refl
      cases (inr b) = inr (record { z = b.z; before = b.before; call = b.call; arrives = b.arrives; position = inr b.position; since = b.since; actor = b.actor; fact = b.fact; post = b.post })

  -- and it begins one in its turn, where its time has come
  module _ (k : ℕ) (known : q.process < processes doc) (awake : is_paused doc q.process k ≡ false) (time : at ≤ local doc q.process k) (i : Idle doc q at (at_turn doc q.process k)) (alive_now : alive q.process (at_turn doc q.process k) ≡ Some q.incarnation) where
    due : is_round_due doc k q (at_turn doc q.process k) ≡ true
    due = ap (λ b. not b && not (nat_lt (local doc q.process k) (round_timer doc q (at_turn doc q.process k)))) i.none ∙ ap (λ n. not (nat_lt (local doc q.process k) n)) i.timer ∙ by_test (nat_lt (local doc q.process k) at) refl
      where
        by_test : (b : Bool) → nat_lt (local doc q.process k) at ≡ b → not b ≡ true
        by_test false is = refl
        by_test true is = let lt : local doc q.process k < at = ltb-true (local doc q.process k) at is in absurd (omega (arith, lt, time))

    turn_is : after_turn doc q.process k ≡ send doc k 4 q Plain (post doc q k (at_turn doc q.process k)) (at_turn doc q.process k)
    turn_is =
        let h = at_turn doc q.process k in
        ap (λ b. if b then h else unpaused_turn doc k q.process h) awake
        ∙ ap (λ b. if b then controller_turn doc k q.process h else kubelet_turn doc k q.process h) role
        ∙ ap (λ o. rounds doc k q.process (if_up q.process (λ q T. expired doc k q T) o h)) alive_now
        ∙ ap (λ o. rounds doc k q.process (expire_call doc k q o h)) i.free
        ∙ ap (λ o. if_up q.process (round doc k) o h) alive_now
        ∙ ap (λ o. round_if doc k q (is_post_call o) (is_round_due doc k q h) h) (i.calm k)
        ∙ ap (λ b. round_if doc k q false b h) due

    pub posts_now : IsTail g (at_turn doc q.process k) → (b : Begins q g (history doc (suc k))) × (b.z.beat ≡ k)
    posts_now since = (
      record {
        z = entry k 4 q (Sends (next_call q k Plain (post doc q k (at_turn doc q.process k)) (at_turn doc q.process k)) (request_arrival doc q.process k (at_turn doc q.process k)));
        before = at_turn doc q.process k;
        call = next_call q k Plain (post doc q k (at_turn doc q.process k)) (at_turn doc q.process k);
        arrives = request_arrival doc q.process k (at_turn doc q.process k);
        position = subst (λ h. IsTail h (history doc (suc k))) turn_is (turn_tail doc (suc q.process) k known);
        since = since;
        actor = refl;
        fact = refl;
        post = refl;
      },
      refl,
    )

-- ---- the timer of a round

-- it stays where no request is sent
module _ (doc : Doc) (sound : IsSound doc) (rules : ReleasesByStop doc) (m : ℕ) (q : Identity) (role : is_controller doc q.process ≡ false) (g : List Entry) (up : (h : List Entry) → IsTail g h → IsTail h (history doc m) → alive q.process h ≡ Some q.incarnation) where
  pub timer_stays : (h : List Entry) → IsTail g h → IsTail h (history doc m) → begun q h ≤ begun q g → round_timer doc q h ≡ round_timer doc q g
  timer_stays [] since within few = ap (round_timer doc q) (sym since)
  timer_stays (x ∷ h) (inl is) within few = ap (round_timer doc q) (sym is)
  timer_stays (x ∷ h) (inr since) within few = ap (λ o. or_zero (upper o (newest (λ e T. round_timer_says doc q e.beat e.actor e.fact) h))) (by_fact x.actor x.fact refl refl more) ∙ timer_stays h since below (omega (arith, few, added_more (is_send x.fact && is_by q x.actor) (begun q h)))
    where
      below : IsTail h (history doc m)
      below = tail_trans h (x ∷ h) (history doc m) (inr (tail_all h)) within

      more : added (is_send x.fact && is_by q x.actor) (begun q h) ≤ begun q h
      more = omega (arith, few, begun_tail q g h since)

      and_false : (a : Bool) → (a && false) ≡ false
      and_false true = refl
      and_false false = refl

      by_start : (who : Actor) → x.actor ≡ who → x.fact ≡ Starts → (b : Bool) → is_by q who ≡ b → when b (local doc q.process x.beat) ≡ None
      by_start who actor fact false other = refl
      by_start who actor fact true mine = absurd (none_is q.incarnation (sym (starts_are_down doc rules m x h within fact q (actor ∙ by_is q who mine)) ∙ up h since below))

      by_send : (post own : Bool) → added own (begun q h) ≤ begun q h → when (post && own) (local doc q.process x.beat + round_period doc) ≡ None
      by_send post true few = absurd (omega (arith, few))
      by_send post false few = ap (λ b. when b (local doc q.process x.beat + round_period doc)) (and_false post)

      by_fact : (who : Actor) (d : Fact) → x.actor ≡ who → x.fact ≡ d → added (is_send d && is_by q who) (begun q h) ≤ begun q h → round_timer_says doc q x.beat who d ≡ None
      by_fact who Starts actor fact few = by_start who actor fact (is_by q who) refl
      by_fact who (Sends call arrives) actor fact few = by_send (is_post call.request) (is_by q who) few
      by_fact who d actor fact few = refl
