-- A candidate whose attempt failed asks again as soon as its timer says so.
use Rattle.std.proofs.Common.{◌≡◌, ◌⊎◌, ℕ, ◌+◌, ◌&&◌, not, nat_lt, Bool, true, false, cond, List, [], ◌∷◌, Option, Some, None, refl, sym, ap, ◌∙◌, subst, inl, inr, ⊎_elim, arith}
use Rattle.std.specs.Prelude.{if◌then◌else◌}
use Rattle.kube_objects.specs.declared.call.Reply.{Reply}
use Rattle.kube_objects.specs.declared.call.Request.{Request}
use Rattle.kube_objects.specs.declared.call.Request.TheVariants.{Get}
use Rattle.kube_objects.specs.declared.deed.Actor.{Actor}
use Rattle.kube_objects.specs.Clocks.{local}
use Rattle.kube_objects.specs.Document.{Doc, is_controller}
use Rattle.kube_objects.specs.Elector.{lead_says, Shown, shown, shows, newly, observed, leads, timer_says, timer, deadline, attempt, attempt_from, moment, observed_at, acts}
use Rattle.kube_objects.specs.Entry.{Entry, Identity, Call, CallKind, Plain, Fact, First as FirstPut, Event as Happens, Starts, Stops, Sends, Answers, Delivers, Expires, Leads, Ends, Crashes, Stalls, Ticks, actor_of}
use Rattle.kube_objects.specs.Identities.{is_by}
use Rattle.kube_objects.specs.Newest.{newest, when, join, has, or_zero}
use Rattle.kube_objects.specs.Pauses.{is_paused}
use Rattle.kube_objects.specs.Process.{alive, starts, call_says, last_call, call_in}
use Rattle.kube_objects.specs.Stored.{election}
use Rattle.kube_objects.specs.Tick.{tick}
use Rattle.kube_objects.specs.Turns.{expire_call, expired, end_term, expired_in, just_expired, is_fast_call, attempt_if, try}
use Rattle.kube_objects.specs.Wire.{send}
use Rattle.kube_objects.specs.Stalls.{is_stalled}
use Rattle.kube_objects.specs.Own.{ReleasesByStop}
use Rattle.history.specs.History.{history}
use Rattle.history.specs.Steps.{if_up, restart_if, restart, expire, finish, attempts, ticks_while, ticks, controller_turn, kubelet_turn, unpaused_turn, turn}
use Rattle.history_laws.specs.Tails.{IsTail}
use Rattle.history_laws.proofs.Counting.{counted_is}
use Rattle.history_laws.proofs.Expired.{silent}
use Rattle.history_laws.proofs.Plainly.{upper, none_is, true_is, same_is, same_self}
use Rattle.history_laws.proofs.Tailed.{tail_all, tail_trans, same_head}
use Rattle.history_laws.proofs.Ticks.{walk_tick}
use Rattle.call_laws.proofs.Making.{MadeAs, are_made}
use Rattle.call_laws.proofs.Starting.{starts_are_down}

-- ---- an own turn with an attempt that is due

pub ticks_add : (doc : Doc) (k p : ℕ) (h : List Entry) → IsTail h (ticks doc k p h)
ticks_add doc k p h = by_stall (is_stalled doc k)
  where
    by_test : (i : ℕ) (b : Bool) → IsTail h (if b then tick doc k (record { process = p; incarnation = i }) h else h)
    by_test i true = walk_tick doc k (record { process = p; incarnation = i }) (λ g. IsTail h g) (λ t g made s. inr s) h (tail_all h)
    by_test i false = tail_all h

    by_up : (o : Option ℕ) → IsTail h (if_up p (λ q T. if acts doc q k T then tick doc k q T else T) o h)
    by_up None = tail_all h
    by_up (Some i) = by_test i (acts doc (record { process = p; incarnation = i }) k h)

    by_stall : (b : Bool) → IsTail h (ticks_while b doc k p h)
    by_stall true = tail_all h
    by_stall false = by_up (alive p h)

-- a turn in which no term ends, no call waits and the timer has come sends what the identity then tries
pub turn_sends : (doc : Doc) (k : ℕ) (q : Identity) (g : List Entry) → is_controller doc q.process ≡ true → is_paused doc q.process k ≡ false → alive q.process g ≡ Some q.incarnation → call_in q g ≡ None → finish doc k q.process g ≡ g
    → just_expired q k g ≡ None → nat_lt (local doc q.process k) (timer doc q g) ≡ false → IsTail (send doc k 4 q (attempt doc q k g).0 (attempt doc q k g).1 g) (turn doc k q.process g)
turn_sends doc k q g role awake up call finishes expiry due =
    subst (λ b. IsTail sent (if b then g else unpaused_turn doc k q.process g)) (sym awake)
    (subst (λ b. IsTail sent (if b then controller_turn doc k q.process g else kubelet_turn doc k q.process g)) (sym role)
    (subst (IsTail sent) (sym whole) (ticks_add doc k q.process sent)))
  where
    sent : List Entry
    sent = send doc k 4 q (attempt doc q k g).0 (attempt doc q k g).1 g

    restarts : restart doc k q.process g ≡ g
    restarts = ap (λ o. restart_if doc k q.process o g) up

    expires : expire doc k q.process g ≡ g
    expires = ap (λ o. if_up q.process (λ q T. expired doc k q T) o g) up ∙ ap (λ o. expire_call doc k q o g) call

    tries : attempts doc k q.process g ≡ sent
    tries =
        ap (λ o. if_up q.process (try doc k) o g) up
        ∙ ap (λ o. attempt_if doc k q (is_fast_call o) (not (has (call_in q g)) && not (nat_lt (local doc q.process k) (timer doc q g))) g) expiry
        ∙ ap (λ o. attempt_if doc k q false (not (has o) && not (nat_lt (local doc q.process k) (timer doc q g))) g) call
        ∙ ap (λ b. attempt_if doc k q false (not b) g) due

    whole : controller_turn doc k q.process g ≡ ticks doc k q.process sent
    whole =
        ap (λ h. ticks doc k q.process (attempts doc k q.process (finish doc k q.process (expire doc k q.process h)))) restarts
        ∙ ap (λ h. ticks doc k q.process (attempts doc k q.process (finish doc k q.process h))) expires
        ∙ ap (λ h. ticks doc k q.process (attempts doc k q.process h)) finishes
        ∙ ap (ticks doc k q.process) tries

pub turn_tries : (doc : Doc) (k : ℕ) (q : Identity) (g : List Entry) → is_controller doc q.process ≡ true → is_paused doc q.process k ≡ false → alive q.process g ≡ Some q.incarnation → call_in q g ≡ None → deadline doc q g ≡ None
    → just_expired q k g ≡ None → nat_lt (local doc q.process k) (timer doc q g) ≡ false → IsTail (send doc k 4 q (attempt doc q k g).0 (attempt doc q k g).1 g) (turn doc k q.process g)
turn_tries doc k q g role awake up call unset expiry due =
    turn_sends doc k q g role awake up call (ap (λ o. if_up q.process (λ q T. end_term doc k q (deadline doc q T) T) o g) up ∙ ap (λ o. end_term doc k q o g) unset) expiry due

-- who doesn't lead asks for the Lease
pub attempt_gets : (doc : Doc) (q : Identity) (k : ℕ) (h : List Entry) → leads q h ≡ false → (attempt doc q k h).1 ≡ Get election
attempt_gets doc q k h unled = ap (λ b. (cond {A = CallKind × Request} (doc.settings.fast_renew && b) (attempt_from q (moment doc q k) (observed_at doc q h) (shown q h)) (Plain, Get election)).1) unled ∙ by_fast doc.settings.fast_renew
  where
    by_fast : (b : Bool) → (cond {A = CallKind × Request} (b && false) (attempt_from q (moment doc q k) (observed_at doc q h) (shown q h)) (Plain, Get election)).1 ≡ Get election
    by_fast true = refl
    by_fast false = refl

-- ---- entries of others

-- they say nothing of its timer
pub others_time : (doc : Doc) (q : Identity) (x : Entry) (h : List Entry) (d : Fact) → is_by q x.actor ≡ false → timer_says doc q x h d ≡ None
others_time doc q x h d other = grind arith

-- nor of what it was shown
pub others_show : (q : Identity) (who : Actor) (d : Fact) → is_by q who ≡ false → shows q who d ≡ None
others_show q who d other = grind arith

-- ---- after a failure

module _ (doc : Doc) (q : Identity) (low : List Entry) (at : ℕ) (view : Option Shown) (seen : Option ℕ) where
  -- nothing of its own since a position
  pub record Quiet (h : List Entry) : Type 0 where
    pub call : call_in q h ≡ None
    pub timer_is : timer doc q h ≡ at
    pub shown_is : shown q h ≡ view
    pub seen_is : observed q h ≡ seen
    pub expiry : (k : ℕ) → just_expired q k h ≡ None
    pub undelivered : (z : Entry) (Z : List Entry) → IsTail (z ∷ Z) h → IsTail low Z → (w : Call) (reply : Reply) → z.fact ≡ Delivers w reply true → z.actor ≡ actor_of q → ⊥

  -- it sent a request since, and nothing of its own before
  pub record Asked (h : List Entry) : Type 0 where
    pub x : Entry
    pub before : List Entry
    pub position : IsTail (x ∷ before) h
    pub since : IsTail low before
    pub quiet : Quiet before
    pub call : Call
    pub arrives : Option ℕ
    pub fact : x.fact ≡ Sends call arrives
    pub actor : x.actor ≡ actor_of q

  asked_more : (x : Entry) (h : List Entry) → Asked h → Asked (x ∷ h)
  asked_more x h s = record { x = s.x; before = s.before; position = inr s.position; since = s.since; quiet = s.quiet; call = s.call; arrives = s.arrives; fact = s.fact; actor = s.actor }

  -- an entry that says nothing of its own, where it isn't a counted delivery of its own
  quiet_more : (x : Entry) (h : List Entry) → IsTail low h → call_says q x.actor x.fact ≡ None → timer_says doc q x h x.fact ≡ None → shows q x.actor x.fact ≡ None
      → ((k : ℕ) → expired_in k x.beat x.fact ≡ None) ⊎ (is_by q x.actor ≡ false) → ((w : Call) (reply : Reply) → x.fact ≡ Delivers w reply true → x.actor ≡ actor_of q → ⊥) → Quiet h → Quiet (x ∷ h)
  quiet_more x h below no_call no_timer no_show no_expiry no_reply s = record {
    call = ap (λ o. join (upper o (last_call q h))) no_call ∙ s.call;
    timer_is = ap (λ o. or_zero (upper o (newest (λ e T. timer_says doc q e T e.fact) h))) no_timer ∙ s.timer_is;
    shown_is = ap (λ o. upper o (shown q h)) no_show ∙ s.shown_is;
    seen_is = ap (λ o. upper (newly o (shown q h) x.beat) (observed q h)) no_show ∙ s.seen_is;
    expiry = λ k. ⊎_elim (λ none. by_own k (is_by q x.actor) (none k)) (λ other. ap (λ b. join (upper (when b (expired_in k x.beat x.fact)) (newest (λ e T. when (is_by q e.actor) (expired_in k e.beat e.fact)) h))) other ∙ s.expiry k) no_expiry;
    undelivered = λ z Z at below_z w reply fact mine. by_place z Z at below_z w reply fact mine;
  }
    where
      by_own : (k : ℕ) (b : Bool) → expired_in k x.beat x.fact ≡ None → join (upper (when b (expired_in k x.beat x.fact)) (newest (λ e T. when (is_by q e.actor) (expired_in k e.beat e.fact)) h)) ≡ None
      by_own k true none = none
      by_own k false none = s.expiry k

      by_place : (z : Entry) (Z : List Entry) → IsTail (z ∷ Z) (x ∷ h) → IsTail low Z → (w : Call) (reply : Reply) → z.fact ≡ Delivers w reply true → z.actor ≡ actor_of q → ⊥
      by_place z Z (inl is) below_z w reply fact mine =
          let same = same_head z x Z h is in
          no_reply w reply (sym (ap (λ (e : Entry). e.fact) same) ∙ fact) (sym (ap (λ (e : Entry). e.actor) same) ∙ mine)
      by_place z Z (inr at) below_z w reply fact mine = s.undelivered z Z at below_z w reply fact mine

  module _ (rules : ReleasesByStop doc) (m : ℕ) (role : is_controller doc q.process ≡ true) (unled : (h : List Entry) → IsTail h (history doc m) → leads q h ≡ false)
      (up : (h : List Entry) → IsTail low h → IsTail h (history doc m) → alive q.process h ≡ Some q.incarnation) where
    by_actor : (who : Actor) (p : Identity) → who ≡ actor_of p → is_by q who ≡ true → p ≡ q
    by_actor who p by mine = same_is p q (sym (ap (is_by q) by) ∙ mine)

    next : (x : Entry) (h : List Entry) → IsTail (x ∷ h) (history doc m) → IsTail low h → Quiet h → Quiet (x ∷ h) ⊎ Asked (x ∷ h)
    next x h position below s = by_own (is_by q x.actor) refl
      where
        no_call : (c : Call) → call_in q h ≡ Some c → ⊥
        no_call c is = none_is c (sym s.call ∙ is)

        foreign : is_by q x.actor ≡ false → Quiet (x ∷ h)
        foreign other =
            quiet_more x h below (silent q x.actor x.fact other) (others_time doc q x h x.fact other) (others_show q x.actor x.fact other) (inr other)
            (λ w reply is mine. true_is (sym (ap (is_by q) mine ∙ same_self q) ∙ other)) s

        -- an entry that changes no reading of an elector, whoever its actor is
        plain : (d : Fact) → x.fact ≡ d → call_says q x.actor d ≡ None → timer_says doc q x h d ≡ None → shows q x.actor d ≡ None → ((k : ℕ) → expired_in k x.beat d ≡ None) → ((w : Call) (reply : Reply) → d ≡ Delivers w reply true → ⊥) → Quiet (x ∷ h)
        plain d fact calls timers shows_none expiry_none replies =
            quiet_more x h below (ap (call_says q x.actor) fact ∙ calls) (ap (timer_says doc q x h) fact ∙ timers) (ap (shows q x.actor) fact ∙ shows_none)
            (inl (λ k. ap (expired_in k x.beat) fact ∙ expiry_none k)) (λ w reply is mine. replies w reply (sym fact ∙ is)) s

        is_other : (d : Fact) (w : Call) (reply : Reply) → (is_reply : Fact → Bool) → is_reply d ≡ false → is_reply (Delivers w reply true) ≡ true → d ≡ Delivers w reply true → ⊥
        is_other d w reply is_reply not_so so is = true_is (sym so ∙ ap is_reply (sym is) ∙ not_so)

        counts : Fact → Bool
        counts (Delivers w reply b) = b
        counts _ = false

        own : (who : Actor) (d : Fact) → x.actor ≡ who → x.fact ≡ d → is_by q who ≡ true → MadeAs doc x.beat x.step who d h → Quiet (x ∷ h) ⊎ Asked (x ∷ h)
        own who (Delivers c reply true) actor fact mine made =
            absurd (no_call c (ap (λ p. call_in p h) (sym (by_actor who made.b.who made.by mine)) ∙ (counted_is doc made.b.who x.beat made.b.call.number h c made.counted_is).waits))
        own who (Expires c) actor fact mine made = absurd (no_call c (ap (λ p. call_in p h) (sym (by_actor who made.q made.by mine)) ∙ made.waits))
        own who (Sends c arrives) actor fact mine made =
            inr (record { x = x; before = h; position = inl refl; since = below; quiet = s; call = c; arrives = arrives; fact = fact; actor = actor ∙ made.by ∙ ap actor_of (by_actor who made.q made.by mine) })
        own who Starts actor fact mine made =
            let p : Identity = record { process = made.0; incarnation = starts made.0 h + 1 } in
            let same : p ≡ q = by_actor who p made.1 mine in
            let down : alive p.process h ≡ None = starts_are_down doc rules m x h position fact p (actor ∙ made.1) in
            absurd (none_is q.incarnation (sym down ∙ ap (λ (p : Identity). alive p.process h) same ∙ up h below (tail_trans h (x ∷ h) (history doc m) (inr (tail_all h)) position)))
        own who (Leads version) actor fact mine made =
            absurd (true_is (sym (ap (λ b. has (upper (when b version) (newest (λ e T. lead_says q e.actor e.fact) h))) mine) ∙ led_now))
          where
            led_now : has (upper (when (is_by q who) version) (newest (λ e T. lead_says q e.actor e.fact) h)) ≡ false
            led_now = ap (λ who. has (upper (lead_says q who (Leads version)) (newest (λ e T. lead_says q e.actor e.fact) h))) (sym actor) ∙ ap (λ d. has (upper (lead_says q x.actor d) (newest (λ e T. lead_says q e.actor e.fact) h))) (sym fact) ∙ unled (x ∷ h) position
        own who (Delivers c reply false) actor fact mine made = inl (plain (Delivers c reply false) fact refl refl refl (λ k. refl) (λ w r. is_other (Delivers c reply false) w r counts refl refl))
        own who (FirstPut key object) actor fact mine made = inl (plain (FirstPut key object) fact refl refl refl (λ k. refl) (λ w r. is_other (FirstPut key object) w r counts refl refl))
        own who (Happens w version) actor fact mine made = inl (plain (Happens w version) fact refl refl refl (λ k. refl) (λ c r. is_other (Happens w version) c r counts refl refl))
        own who Crashes actor fact mine made = inl (plain Crashes fact refl refl refl (λ k. refl) (λ w r. is_other Crashes w r counts refl refl))
        own who Stops actor fact mine made = inl (plain Stops fact refl refl refl (λ k. refl) (λ w r. is_other Stops w r counts refl refl))
        own who (Stalls beats) actor fact mine made = inl (plain (Stalls beats) fact refl refl refl (λ k. refl) (λ w r. is_other (Stalls beats) w r counts refl refl))
        own who Ends actor fact mine made = inl (plain Ends fact refl refl refl (λ k. refl) (λ w r. is_other Ends w r counts refl refl))
        own who (Answers c reply comes wrote) actor fact mine made = inl (plain (Answers c reply comes wrote) fact refl refl refl (λ k. refl) (λ w r. is_other (Answers c reply comes wrote) w r counts refl refl))
        own who (Ticks t) actor fact mine made = inl (plain (Ticks t) fact refl refl refl (λ k. refl) (λ w r. is_other (Ticks t) w r counts refl refl))
        own who d actor fact mine made = absurd made

        by_own : (b : Bool) → is_by q x.actor ≡ b → Quiet (x ∷ h) ⊎ Asked (x ∷ h)
        by_own true mine = own x.actor x.fact refl refl mine (are_made doc rules m x h position)
        by_own false other = inl (foreign other)

    -- at each later position all is quiet, or it has asked
    pub quiet_or_asked : (h : List Entry) → Quiet low → IsTail low h → IsTail h (history doc m) → Quiet h ⊎ Asked h
    quiet_or_asked [] s at within = inl (subst Quiet at s)
    quiet_or_asked (x ∷ h) s (inl is) within = inl (subst Quiet is s)
    quiet_or_asked (x ∷ h) s (inr at) within = more (quiet_or_asked h s at (tail_trans h (x ∷ h) (history doc m) (inr (tail_all h)) within))
      where
        more : Quiet h ⊎ Asked h → Quiet (x ∷ h) ⊎ Asked (x ∷ h)
        more (inl quiet) = next x h within at quiet
        more (inr asked) = inr (asked_more x h asked)
