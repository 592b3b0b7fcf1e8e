-- A leader whose timer has come sends a request: one to renew its lead at once, or a Get.
use Rattle.std.proofs.Common.{◌≡◌, ◌⊎◌, ◌<◌, ◌≤◌, ℕ, ◌+◌, nat_lt, Bool, true, false, List, [], ◌∷◌, Option, Some, None, refl, sym, ap, ◌∙◌, subst, inl, inr, ⊎_elim, arith}
use Rattle.std.specs.Prelude.{if◌then◌else◌}
use Rattle.std.proofs.lemmas.Bool.{ltb-true, ltb-false}
use Rattle.kube_objects.specs.declared.deed.Actor.{Actor}
use Rattle.kube_objects.specs.Clocks.{local}
use Rattle.kube_objects.specs.Document.{Doc, is_controller}
use Rattle.kube_objects.specs.Elector.{Shown, shown, shows, leads, timer_says, timer, deadline, attempt}
use Rattle.kube_objects.specs.Entry.{Entry, Identity, Call, Fact, First as FirstPut, Event as Happens, Starts, Stops, Sends, Answers, Delivers, Expires, Leads, Ends, Crashes, Stalls, Ticks, actor_of}
use Rattle.kube_objects.specs.Identities.{is_by}
use Rattle.kube_objects.specs.Newest.{newest, when, join, or_zero}
use Rattle.kube_objects.specs.Pauses.{is_paused}
use Rattle.kube_objects.specs.Process.{alive, starts, call_says, last_call, call_in}
use Rattle.kube_objects.specs.Turns.{end_term, expired_in, just_expired, end_as}
use Rattle.kube_objects.specs.Wire.{send}
use Rattle.kube_objects.specs.Own.{ReleasesByStop}
use Rattle.history.specs.History.{history}
use Rattle.history.specs.Steps.{if_up, finish, turn}
use Rattle.history_laws.specs.Tails.{IsTail}
use Rattle.history_laws.proofs.Counting.{counted_is}
use Rattle.history_laws.proofs.Expired.{silent}
use Rattle.history_laws.proofs.Plainly.{upper, none_is, true_is, same_is, same_self}
use Rattle.history_laws.proofs.Tailed.{tail_all, tail_trans, same_head}
use Rattle.call_laws.proofs.Making.{MadeAs, are_made}
use Rattle.call_laws.proofs.Starting.{starts_are_down}
use Rattle.takeover_laws.proofs.Unasked.{turn_sends, others_time, others_show}
use Rattle.calm_laws.proofs.Begun.{by_is}
use Rattle.stay_laws.proofs.Reacting.{leads_are_new}

-- ---- an own turn with an attempt that is due

pub leader_tries : (doc : Doc) (k : ℕ) (q : Identity) (g : List Entry) (end : ℕ) → is_controller doc q.process ≡ true → is_paused doc q.process k ≡ false → alive q.process g ≡ Some q.incarnation → call_in q g ≡ None → deadline doc q g ≡ Some end
    → local doc q.process k < end → just_expired q k g ≡ None → timer doc q g ≤ local doc q.process k → IsTail (send doc k 4 q (attempt doc q k g).0 (attempt doc q k g).1 g) (turn doc k q.process g)
leader_tries doc k q g end role awake up call set soon expiry due =
    turn_sends doc k q g role awake up call finishes expiry past
  where
    before : nat_lt (local doc q.process k) end ≡ true
    before = by_test (nat_lt (local doc q.process k) end) refl
      where
        by_test : (b : Bool) → nat_lt (local doc q.process k) end ≡ b → nat_lt (local doc q.process k) end ≡ true
        by_test true is = is
        by_test false is = absurd (omega (arith, soon, ltb-false (local doc q.process k) end is))

    past : nat_lt (local doc q.process k) (timer doc q g) ≡ false
    past = by_test (nat_lt (local doc q.process k) (timer doc q g)) refl
      where
        by_test : (b : Bool) → nat_lt (local doc q.process k) (timer doc q g) ≡ b → nat_lt (local doc q.process k) (timer doc q g) ≡ false
        by_test false is = is
        by_test true is = absurd (omega (arith, due, ltb-true (local doc q.process k) (timer doc q g) is))

    finishes : finish doc k q.process g ≡ g
    finishes =
        ap (λ o. if_up q.process (λ q T. end_term doc k q (deadline doc q T) T) o g) up ∙ ap (λ o. end_term doc k q o g) set
        ∙ ap (λ b. if b then g else end_as doc.settings.rules.release doc k q g) before

-- ---- after a success

-- a request, or a counted reply
abbrev pub is_move : Fact → Bool
is_move (Sends call arrives) = true
is_move (Delivers call reply counted) = counted
is_move _ = false

module _ (doc : Doc) (q : Identity) (low : List Entry) (at : ℕ) (view : Option Shown) where
  -- nothing of its own since a position
  pub record Idle (h : List Entry) : Type 0 where
    pub call : call_in q h ≡ None
    pub timer_is : timer doc q h ≡ at
    pub shown_is : shown q h ≡ view
    pub expiry : (k : ℕ) → just_expired q k h ≡ None
    pub unmoved : (z : Entry) (Z : List Entry) → IsTail (z ∷ Z) h → IsTail low Z → z.actor ≡ actor_of q → is_move z.fact ≡ true → ⊥

  -- it sent a request since, and nothing of its own before
  pub record Tried (h : List Entry) : Type 0 where
    pub x : Entry
    pub before : List Entry
    pub position : IsTail (x ∷ before) h
    pub since : IsTail low before
    pub idle : Idle before
    pub call : Call
    pub arrives : Option ℕ
    pub fact : x.fact ≡ Sends call arrives
    pub actor : x.actor ≡ actor_of q

  pub tried_more : (g h : List Entry) → IsTail g h → Tried g → Tried h
  tried_more g h at s = record { x = s.x; before = s.before; position = tail_trans (s.x ∷ s.before) g h s.position at; since = s.since; idle = s.idle; call = s.call; arrives = s.arrives; fact = s.fact; actor = s.actor }

  -- an entry that says nothing of its own, where it is no move of its own
  idle_more : (x : Entry) (h : List Entry) → call_says q x.actor x.fact ≡ None → timer_says doc q x h x.fact ≡ None → shows q x.actor x.fact ≡ None
      → ((k : ℕ) → expired_in k x.beat x.fact ≡ None) ⊎ (is_by q x.actor ≡ false) → (is_move x.fact ≡ false) ⊎ (is_by q x.actor ≡ false) → Idle h → Idle (x ∷ h)
  idle_more x h no_call no_timer no_show no_expiry no_move s = record {
    call = ap (λ o. join (upper o (last_call q h))) no_call ∙ s.call;
    timer_is = ap (λ o. or_zero (upper o (newest (λ e T. timer_says doc q e T e.fact) h))) no_timer ∙ s.timer_is;
    shown_is = ap (λ o. upper o (shown q h)) no_show ∙ s.shown_is;
    expiry = λ k. ⊎_elim (λ none. by_own k (is_by q x.actor) (none k)) (λ other. ap (λ b. join (upper (when b (expired_in k x.beat x.fact)) (newest (λ e T. when (is_by q e.actor) (expired_in k e.beat e.fact)) h))) other ∙ s.expiry k) no_expiry;
    unmoved = λ z Z at below mine moves. by_place z Z at below mine moves;
  }
    where
      by_own : (k : ℕ) (b : Bool) → expired_in k x.beat x.fact ≡ None → join (upper (when b (expired_in k x.beat x.fact)) (newest (λ e T. when (is_by q e.actor) (expired_in k e.beat e.fact)) h)) ≡ None
      by_own k true none = none
      by_own k false none = s.expiry k

      by_place : (z : Entry) (Z : List Entry) → IsTail (z ∷ Z) (x ∷ h) → IsTail low Z → z.actor ≡ actor_of q → is_move z.fact ≡ true → ⊥
      by_place z Z (inl is) below mine moves =
          let same = same_head z x Z h is in
          ⊎_elim (λ none. true_is (sym moves ∙ ap (λ (e : Entry). is_move e.fact) same ∙ none))
          (λ other. true_is (sym (ap (is_by q) mine ∙ same_self q) ∙ ap (λ (e : Entry). is_by q e.actor) same ∙ other)) no_move
      by_place z Z (inr at) below mine moves = s.unmoved z Z at below mine moves

  module _ (rules : ReleasesByStop doc) (m : ℕ) (role : is_controller doc q.process ≡ true) (led : (h : List Entry) → IsTail low h → IsTail h (history doc m) → leads q h ≡ true)
      (up : (h : List Entry) → IsTail low h → IsTail h (history doc m) → alive q.process h ≡ Some q.incarnation) where
    by_actor : (who : Actor) (p : Identity) → who ≡ actor_of p → is_by q who ≡ true → p ≡ q
    by_actor who p by mine = same_is p q (sym (ap (is_by q) by) ∙ mine)

    next : (x : Entry) (h : List Entry) → IsTail (x ∷ h) (history doc m) → IsTail low h → Idle h → Idle (x ∷ h) ⊎ Tried (x ∷ h)
    next x h position below s = by_own (is_by q x.actor) refl
      where
        no_call : (c : Call) → call_in q h ≡ Some c → ⊥
        no_call c is = none_is c (sym s.call ∙ is)

        below_m : IsTail h (history doc m)
        below_m = tail_trans h (x ∷ h) (history doc m) (inr (tail_all h)) position

        foreign : is_by q x.actor ≡ false → Idle (x ∷ h)
        foreign other = idle_more x h (silent q x.actor x.fact other) (others_time doc q x h x.fact other) (others_show q x.actor x.fact other) (inr other) (inr other) s

        -- an entry that changes no reading of an elector, whoever its actor is
        plain : (d : Fact) → x.fact ≡ d → call_says q x.actor d ≡ None → timer_says doc q x h d ≡ None → shows q x.actor d ≡ None → ((k : ℕ) → expired_in k x.beat d ≡ None) → is_move d ≡ false → Idle (x ∷ h)
        plain d fact calls timers shows_none expiry_none still =
            idle_more x h (ap (call_says q x.actor) fact ∙ calls) (ap (timer_says doc q x h) fact ∙ timers) (ap (shows q x.actor) fact ∙ shows_none)
            (inl (λ k. ap (expired_in k x.beat) fact ∙ expiry_none k)) (inl (ap is_move fact ∙ still)) s

        own : (who : Actor) (d : Fact) → x.actor ≡ who → x.fact ≡ d → is_by q who ≡ true → MadeAs doc x.beat x.step who d h → Idle (x ∷ h) ⊎ Tried (x ∷ h)
        own who (Delivers c reply true) actor fact mine made =
            absurd (no_call c (ap (λ p. call_in p h) (sym (by_actor who made.b.who made.by mine)) ∙ (counted_is doc made.b.who x.beat made.b.call.number h c made.counted_is).waits))
        own who (Expires c) actor fact mine made = absurd (no_call c (ap (λ p. call_in p h) (sym (by_actor who made.q made.by mine)) ∙ made.waits))
        own who (Sends c arrives) actor fact mine made =
            inr (record { x = x; before = h; position = inl refl; since = below; idle = s; call = c; arrives = arrives; fact = fact; actor = actor ∙ made.by ∙ ap actor_of (by_actor who made.q made.by mine) })
        own who Starts actor fact mine made =
            let p : Identity = record { process = made.0; incarnation = starts made.0 h + 1 } in
            let same : p ≡ q = by_actor who p made.1 mine in
            let down : alive p.process h ≡ None = starts_are_down doc rules m x h position fact p (actor ∙ made.1) in
            absurd (none_is q.incarnation (sym down ∙ ap (λ (p : Identity). alive p.process h) same ∙ up h below below_m))
        own who (Leads version) actor fact mine made = absurd (true_is (sym (led h below below_m) ∙ leads_are_new doc rules m q x h version position (by_is q x.actor (ap (is_by q) actor ∙ mine)) fact))
        own who (Delivers c reply false) actor fact mine made = inl (plain (Delivers c reply false) fact refl refl refl (λ k. refl) refl)
        own who (FirstPut key object) actor fact mine made = inl (plain (FirstPut key object) fact refl refl refl (λ k. refl) refl)
        own who (Happens w version) actor fact mine made = inl (plain (Happens w version) fact refl refl refl (λ k. refl) refl)
        own who Crashes actor fact mine made = inl (plain Crashes fact refl refl refl (λ k. refl) refl)
        own who Stops actor fact mine made = inl (plain Stops fact refl refl refl (λ k. refl) refl)
        own who (Stalls beats) actor fact mine made = inl (plain (Stalls beats) fact refl refl refl (λ k. refl) refl)
        own who Ends actor fact mine made = inl (plain Ends fact refl refl refl (λ k. refl) refl)
        own who (Answers c reply comes wrote) actor fact mine made = inl (plain (Answers c reply comes wrote) fact refl refl refl (λ k. refl) refl)
        own who (Ticks t) actor fact mine made = inl (plain (Ticks t) fact refl refl refl (λ k. refl) refl)
        own who d actor fact mine made = absurd made

        by_own : (b : Bool) → is_by q x.actor ≡ b → Idle (x ∷ h) ⊎ Tried (x ∷ h)
        by_own true mine = own x.actor x.fact refl refl mine (are_made doc rules m x h position)
        by_own false other = inl (foreign other)

    -- at each later position it is idle, or has sent a request
    pub idle_or_tried : (h : List Entry) → Idle low → IsTail low h → IsTail h (history doc m) → Idle h ⊎ Tried h
    idle_or_tried [] s at within = inl (subst Idle at s)
    idle_or_tried (x ∷ h) s (inl is) within = inl (subst Idle is s)
    idle_or_tried (x ∷ h) s (inr at) within = more (idle_or_tried h s at (tail_trans h (x ∷ h) (history doc m) (inr (tail_all h)) within))
      where
        more : Idle h ⊎ Tried h → Idle (x ∷ h) ⊎ Tried (x ∷ h)
        more (inl idle) = next x h within at idle
        more (inr tried) = inr (tried_more h (x ∷ h) (inr (tail_all h)) tried)
