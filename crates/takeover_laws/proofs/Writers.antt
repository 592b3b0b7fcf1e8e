-- Who writes the election Lease by a call that was sent in a calm acts soon.
use Rattle.kube_objects.specs.declared.key.Key.{Key}
use Rattle.std.proofs.Common.{◌≡◌, ◌⊎◌, ◌<◌, ◌≤◌, ℕ, suc, ◌+◌, ◌*◌, ◌==◌, ◌&&◌, not, nat_lt, Bool, true, false, List, ◌∷◌, Option, Some, None, IfSome, refl, sym, ap, ◌∙◌, subst, inl, inr, ⊎_elim, arith}
use Rattle.std.specs.Prelude.{if◌then◌else◌}
use Rattle.std.proofs.lemmas.Bool.{ltb-false, eq-eqb, cases_lt}
use Rattle.kube_base.specs.declared.numbers.Version.{Version}
use Rattle.kube_objects.specs.declared.call.Reply.{Reply}
use Rattle.kube_objects.specs.declared.call.Reply.TheVariants.{Found, Done, Absent, Exists, Conflict, Unchanged}
use Rattle.kube_objects.specs.declared.call.Request.{Request}
use Rattle.kube_objects.specs.declared.call.Request.TheVariants.{Get, Create, Update, PostStatus}
use Rattle.kube_objects.specs.declared.deed.Actor.{Actor}
use Rattle.kube_objects.specs.declared.deed.Actor.TheVariants as actors
use Rattle.kube_objects.specs.declared.lease.Lease.{Lease}
use Rattle.kube_objects.specs.declared.object.Object.{Object}
use Rattle.kube_objects.specs.declared.object.Object.TheVariants as object
use Rattle.kube_objects.specs.Answers.{answer, written, if_done}
use Rattle.kube_objects.specs.Clocks.{local}
use Rattle.kube_objects.specs.Document.{Doc, is_controller, retry_period, renew_deadline}
use Rattle.kube_objects.specs.Elector.{Follow, Succeeds, follow_on, leads, succeeds, deadline, acts}
use Rattle.kube_objects.specs.Entry.{Entry, Identity, Call, CallKind, Fact, First as FirstPut, Event as Happens, Starts, Stops, Sends, Answers, Delivers, Expires, Leads, Ends, Crashes, Stalls, Ticks, actor_of, entry, StepsDown, ReleaseBegins, ReleaseEnds, ReleaseStops}
use Rattle.kube_objects.specs.Identities.{is_same, of_process}
use Rattle.kube_objects.specs.Newest.{when, only_if, has}
use Rattle.kube_objects.specs.Pauses.{can_at}
use Rattle.kube_objects.specs.Process.{open_as, alive, call_in, is_present, is_late, answered_call, counted}
use Rattle.kube_objects.specs.Stored.{election, request_write, at_key}
use Rattle.kube_objects.specs.Turns.{react, with_reply}
use Rattle.kube_objects.specs.Wire.{Sent, Back, sent_of, back_of, reply_arrival, request_arrival}
use Rattle.kube_objects.specs.Own.{ReleasesByStop}
use Rattle.history.proofs.Own.{react-own}
use Rattle.history.specs.History.{three_steps, history, at_turn}
use Rattle.history.specs.Safe.{Acts}
use Rattle.history.specs.Steps.{delivered, deliver_as, react_as}
use Rattle.history_laws.specs.Tails.{In, IsTail}
use Rattle.history_laws.proofs.Plainly.{upper, some_is, none_is, false_is, true_is, and_both, same_self}
use Rattle.history_laws.proofs.Tailed.{tail_all, tail_trans, in_tail, later_tail, turn_tail, turns_add, two_adds, same_rest, react_adds}
use Rattle.history_laws.proofs.Order.{entries_are_earlier}
use Rattle.call_laws.specs.Answering.{with_events, with_answers}
use Rattle.call_laws.specs.Waiting.{IsClosed}
use Rattle.call_laws.proofs.Above.{above_cut, next_above, in_head, place_of}
use Rattle.call_laws.proofs.Answering.{before_events, events_position}
use Rattle.call_laws.proofs.Making.{MadeAs, HasStopped, IsOpen, are_made}
use Rattle.call_laws.proofs.Sending.{MadeFor, made_for}
use Rattle.call_laws.proofs.Starting.{actor_is}
use Rattle.call_laws.proofs.Once.{answers_differ, due_at}
use Rattle.call_laws.proofs.Placing.{from_beat, in_own_beat, not_before, above_events, messages_travel}
use Rattle.call_laws.proofs.Above.{low_of}
use Rattle.call_laws.proofs.Placing.{IsLate}
use Rattle.call_laws.proofs.Waiting.{calls_wait}
use Rattle.takeover_laws.specs.Calm.{IsSteady, WritesElection, IsInTime}
use Rattle.takeover_laws.specs.Rounds.{IsRound, RepliesCount}
use Rattle.takeover_laws.proofs.Counted.{Counts, counts, reply_in_time, sent_low}
use Rattle.takeover_laws.proofs.Deliveries.{Waits, delivered_adds}
use Rattle.takeover_laws.proofs.Fresh.{IsFresh, fresh_stays, can_least, acts_before}
use Rattle.takeover_laws.proofs.Rounds.{sent_is, rounds_in}
use Rattle.takeover_laws.proofs.Standing.{controllers_first, IsSince, since_events, persists}

-- ---- what a write's reply is followed by

-- a request for a Lease that the reply accepts
abbrev pub IsWon : Request → Reply → Type 0
IsWon (Create key lease) reply = (version : Version) × (reply ≡ Done version)
IsWon (Update key given lease) reply = (version : Version) × (reply ≡ Done version)
IsWon _ reply = ⊥

won_by : (reply : Reply) (key : Key) (lease : Lease) (wraps : Option Object → Bool) → wraps None ≡ false → wraps (if_done reply (object.Lease lease)) ≡ true → (version : Version) × (reply ≡ Done version)
won_by (Done version) key lease wraps none is = (version, refl)
won_by Absent key lease wraps none is = absurd (true_is (sym is ∙ none))
won_by (Found version l) key lease wraps none is = absurd (true_is (sym is ∙ none))
won_by Exists key lease wraps none is = absurd (true_is (sym is ∙ none))
won_by (Conflict version) key lease wraps none is = absurd (true_is (sym is ∙ none))
won_by Unchanged key lease wraps none is = absurd (true_is (sym is ∙ none))

pub won_of : (r : Request) (h : List Entry) → has (at_key election (request_write r (written r h))) ≡ true → IsWon r (answer r h)
won_of (Get key) h is = absurd (false_is is)
won_of (Create key lease) h is = won_by (answer (Create key lease) h) key lease (λ o. has (at_key election (request_write (Create key lease) o))) refl is
won_of (Update key given lease) h is = won_by (answer (Update key given lease) h) key lease (λ o. has (at_key election (request_write (Update key given lease) o))) refl is
won_of (PostStatus name status at) h is = by_written (written (PostStatus name status at) h) is
  where
    by_written : (o : Option Object) → has (at_key election (request_write (PostStatus name status at) o)) ≡ true → ⊥
    by_written None is = false_is is
    by_written (Some x) is = false_is is

record Wins (doc : Doc) (q : Identity) (k : ℕ) (kind : CallKind) (r : Request) (reply : Reply) (h : List Entry) : Type 0 where
  version : Version
  follows : follow_on doc q k kind r reply h ≡ Succeeds version
  succeeds_is : succeeds r reply ≡ true

wins : (doc : Doc) (q : Identity) (k : ℕ) (kind : CallKind) (r : Request) (reply : Reply) (h : List Entry) → IsWon r reply → Wins doc q k kind r reply h
wins doc q k kind (Get key) reply h won = absurd won
wins doc q k kind (PostStatus name status at) reply h won = absurd won
wins doc q k kind (Create key lease) reply h won =
    record { version = won.0; follows = ap (λ reply. follow_on doc q k kind (Create key lease) reply h) won.1; succeeds_is = ap (succeeds (Create key lease)) won.1 }
wins doc q k kind (Update key given lease) reply h won =
    record { version = won.0; follows = ap (λ reply. follow_on doc q k kind (Update key given lease) reply h) won.1; succeeds_is = ap (succeeds (Update key given lease)) won.1 }

-- a success leaves a deadline later than now
won_fresh : (doc : Doc) (q : Identity) (k : ℕ) (call : Call) (reply : Reply) (version : Version) (h : List Entry) → 1 ≤ renew_deadline doc q.process → succeeds call.request reply ≡ true
    → IsFresh doc q k (react doc k q (leads q (with_reply k q call reply h)) (Succeeds version) (with_reply k q call reply h))
won_fresh doc q k call reply version h lasts so = by_led (leads q h) refl
  where
    next : ℕ
    next = can_at doc q.process (local doc q.process k + retry_period doc q.process)

    by_led : (b : Bool) → leads q h ≡ b → IsFresh doc q k (if b then with_reply k q call reply h else entry k 3 q (Leads version) ∷ with_reply k q call reply h)
    by_led true led = record {
      at = next + renew_deadline doc q.process;
      is = ap (λ t. upper (when t (next + renew_deadline doc q.process)) (deadline doc q h)) (and_both (is_same q q) (leads q h && succeeds call.request reply) (same_self q) (and_both (leads q h) (succeeds call.request reply) led so));
      later = omega (arith, lasts, can_least doc q.process (local doc q.process k + retry_period doc q.process));
    }
    by_led false led = record {
      at = local doc q.process k + renew_deadline doc q.process;
      is = ap (λ t. upper (when t (local doc q.process k + renew_deadline doc q.process)) (deadline doc q (with_reply k q call reply h))) (same_self q);
      later = omega (arith, lasts);
    }

-- a reply to the call for which an identity waits counts for that call
pub waits_count : (doc : Doc) (q : Identity) (k : ℕ) (call : Call) (given : ℕ) (h : List Entry) → (call.number == given) ≡ true → is_late doc q k call ≡ false → Waits doc k q call h → counted doc q k given h ≡ Some call
waits_count doc q k call given h number timely w =
    ap (λ o. only_if (is_present o q.incarnation) (answered_call doc q k given (call_in q h))) w.up
    ∙ ap (λ t. only_if t (answered_call doc q k given (call_in q h))) (eq-eqb q.incarnation q.incarnation refl)
    ∙ ap (λ o. answered_call doc q k given o) w.call_is
    ∙ ap (λ t. when (t && not (is_late doc q k call)) call) number
    ∙ ap (λ t. when (not t) call) timely

-- what the reply that counts brings about
pub delivers : (doc : Doc) → ReleasesByStop doc → (q : Identity) (k : ℕ) (call : Call) (b : Back) (h : List Entry) → is_controller doc q.process ≡ true → b.who ≡ q → (call.number == b.call.number) ≡ true → is_late doc q k call ≡ false → Waits doc k q call h
    → delivered doc k b h ≡ react doc k q (leads q (with_reply k q call b.reply h)) (follow_on doc q k call.kind call.request b.reply (with_reply k q call b.reply h)) (with_reply k q call b.reply h)
delivers doc rules q k call b h role mine number timely w =
    ap (λ p. deliver_as doc k p b.call b.reply (counted doc p k b.call.number h) h) mine
    ∙ ap (λ o. deliver_as doc k q b.call b.reply o h) (waits_count doc q k call b.call.number h number timely w)
    ∙ ap (λ t. react_as doc k q call b.reply t (with_reply k q call b.reply h)) role
    ∙ react-own doc rules k q call b.reply (with_reply k q call b.reply h)

pub follow_adds : (doc : Doc) (k : ℕ) (q : Identity) (led : Bool) (f : Follow) (h : List Entry) → IsTail h (react doc k q led f h)
follow_adds doc k q led f h = react_adds doc k q led f h h (tail_all h)

-- ---- the sending that an answer answers

pub sends_of : (who : Actor) (d : Fact) (s : Sent) → sent_of who d ≡ Some s → (who ≡ actor_of s.who) × (d ≡ Sends s.call s.arrives)
sends_of actors.Script (Sends call arrives) s is = absurd (none_is s is)
sends_of (actors.Proc id i) (Sends call arrives) s is =
    let e = some_is (record { who = record { process = id.0; incarnation = i }; call = call; arrives = arrives }) s is in
    (ap (λ (s : Sent). actor_of s.who) e, ap (λ (s : Sent). Sends s.call s.arrives) e)
sends_of who (FirstPut key object) s is = absurd (none_is s is)
sends_of who (Happens w version) s is = absurd (none_is s is)
sends_of who (Answers call reply comes wrote) s is = absurd (none_is s is)
sends_of who (Delivers call reply counted) s is = absurd (none_is s is)
sends_of who (Expires call) s is = absurd (none_is s is)
sends_of who (Ticks t) s is = absurd (none_is s is)
sends_of who Starts s is = absurd (none_is s is)
sends_of who Crashes s is = absurd (none_is s is)
sends_of who Stops s is = absurd (none_is s is)
sends_of who (Stalls beats) s is = absurd (none_is s is)
sends_of who StepsDown s is = absurd (none_is s is)
sends_of who (ReleaseBegins at_deadline) s is = absurd (none_is s is)
sends_of who ReleaseEnds s is = absurd (none_is s is)
sends_of who ReleaseStops s is = absurd (none_is s is)
sends_of who Ends s is = absurd (none_is s is)
sends_of who (Leads version) s is = absurd (none_is s is)

-- a call that a controller sent since the events of beat a and waits for
pub record Sending (doc : Doc) (a n : ℕ) (q : Identity) (call : Call) (arrives : Option ℕ) : Type 0 where
  pub f : Entry
  pub before : List Entry
  pub position : IsTail (f ∷ before) (history doc (suc n))
  pub actor : f.actor ≡ actor_of q
  pub fact : f.fact ≡ Sends call arrives
  pub from : a ≤ f.beat
  pub step : 3 ≤ f.step
  pub sent : call.sent ≡ f.beat
  pub up : alive q.process before ≡ Some q.incarnation
  pub opens : open_as call.kind call ≡ Some call

-- the reply to a call counts as the round has it, and what it is followed by comes next
pub record IsReacted (doc : Doc) (near far : ℕ) (q : Identity) (call : Call) (arrives : Option ℕ) (j : ℕ) : Type 0 where
  pub round : IsRound doc near far q call arrives j
  pub before : List Entry
  pub low : IsTail (with_answers doc round.comes) before
  pub position :
      IsTail
      (react doc round.comes q (leads q (with_reply round.comes q call (answer call.request round.before) before))
      (follow_on doc q round.comes call.kind call.request (answer call.request round.before) (with_reply round.comes q call (answer call.request round.before) before))
      (with_reply round.comes q call (answer call.request round.before) before))
      (history doc (suc round.comes))

-- so it was sent after those events
pub since_low : (doc : Doc) (a n : ℕ) (f : Entry) (S : List Entry) → IsTail (f ∷ S) (history doc (suc n)) → a ≤ f.beat → 3 ≤ f.step → IsTail (with_events doc a) S
since_low doc a n f S at from step = by_beat (cases_lt a f.beat)
  where
    by_beat : (a < f.beat) ⊎ (f.beat ≤ a) → IsTail (with_events doc a) S
    by_beat (inl lt) =
        tail_trans (with_events doc a) (history doc (suc a)) S (events_position doc a)
        (not_before doc (suc a) (suc f.beat) f S (omega (arith, lt)) (in_own_beat doc (suc n) f S at) lt (omega (arith, step)))
    by_beat (inr le) =
        let same : f.beat ≡ a = omega (arith, from, le) in
        subst (λ a. IsTail (with_events doc a) S) same (low_of (IsLate f.beat 2) (with_events doc f.beat) S (above_events doc (suc n) f S at (omega (arith, step))))

module _ (doc : Doc) (rules : ReleasesByStop doc) (near far a e n : ℕ) (q : Identity) (role : is_controller doc q.process ≡ true) (steady : IsSteady doc near far a e q.process) (time : IsInTime doc far a e q.process)
    (within : n ≤ e) (one : 1 ≤ near) where
  -- ---- no call is late before its reply can come

  pub timely : (call : Call) (j y : ℕ) → call.sent ≡ j → a ≤ j → j ≤ y → y ≤ j + 2 * far → y ≤ e → is_late doc q y call ≡ false
  timely = reply_in_time doc rules far a e q time.fast time.runs time.timeout

  -- ---- a call that is answered with a write, and whose reply comes in time, ends in acting

  module _ (call : Call) (arrives : Option ℕ) (s : Sending doc a n q call arrives) (r : IsRound doc near far q call arrives s.f.beat) (comes : r.comes ≤ n)
      (up_at : (h : List Entry) → IsTail s.before h → IsTail h (history doc (suc n)) → alive q.process h ≡ Some q.incarnation) where
    abbrev y : ℕ
    y = r.comes

    from_a : a ≤ n
    from_a = omega (arith, s.from, r.least, r.comes_least, comes)

    low : IsTail (with_events doc a) s.before
    low = since_low doc a n s.f s.before s.position s.from s.step

    on_time : is_late doc q y call ≡ false
    on_time = timely call s.f.beat y s.sent s.from (omega (arith, r.least, r.comes_least)) (omega (arith, r.most, r.comes_most)) (omega (arith, comes, within))

    waits_on : (h : List Entry) → IsTail h (history doc (suc n)) → IsTail (s.f ∷ s.before) h → (call_in q h ≡ Some call) ⊎ IsClosed q call (s.f ∷ s.before) h
    waits_on h high sent = calls_wait doc rules (suc n) h high q call arrives s.f s.before role sent s.actor s.fact s.opens

    unstopped : (z : Entry) (h : List Entry) → IsTail (z ∷ h) (history doc (suc n)) → IsTail (s.f ∷ s.before) h → z.fact ≡ Stops → has (of_process q.process z.actor) ≡ true → ⊥
    unstopped z h position sent fact own = omega (arith, since, steady.stops z (in_tail z (history doc (suc n)) (history doc (suc e)) (later_tail doc (suc n) (suc e) (omega (arith, within))) (in_head z h (history doc (suc n)) position)) fact own)
      where
        since : a ≤ z.beat
        since =
            ⊎_elim (λ lt. omega (arith, lt)) (λ here. omega (arith, here.0))
            (next_above (IsSince a) (with_events doc a) h (history doc (suc n)) z (since_events doc a n from_a)
            (tail_trans (with_events doc a) s.before h low (tail_trans s.before (s.f ∷ s.before) h (inr (tail_all s.before)) sent)) position).0

    c : Counts doc rules near far n one q s.f s.before call arrives s.position r comes on_time up_at waits_on unstopped
    c = counts doc rules near far n one q s.f s.before call arrives s.position r comes on_time up_at waits_on unstopped

    abbrev reply : Reply
    reply = answer call.request r.before

    abbrev back : Back
    back = record { who = q; call = call; reply = reply; comes = reply_arrival doc q.process r.at r.before }

    abbrev done : List Entry
    done = delivered doc y back c.before

    abbrev replied : List Entry
    replied = with_reply y q call reply c.before

    follows : done ≡ react doc y q (leads q replied) (follow_on doc q y call.kind call.request reply replied) replied
    follows = delivers doc rules q y call back c.before role refl c.number on_time c.waits

    pub reacted : IsReacted doc near far q call arrives s.f.beat
    reacted = record { round = r; before = c.before; low = c.low; position = subst (λ g. IsTail g (history doc (suc y))) follows c.position }

    module _ (won : IsWon call.request (answer call.request r.before)) where
      success : Wins doc q y call.kind call.request reply replied
      success = wins doc q y call.kind call.request reply replied won

      done_is : done ≡ react doc y q (leads q replied) (Succeeds success.version) replied
      done_is = follows ∙ ap (λ f. react doc y q (leads q replied) f replied) success.follows

      fresh : IsFresh doc q y done
      fresh = subst (IsFresh doc q y) (sym done_is) (won_fresh doc q y call reply success.version c.before time.deadline success.succeeds_is)

      abbrev three : List Entry
      three = three_steps doc y (history doc y)

      abbrev two : List Entry
      two = with_answers doc y

      done_since : IsTail two done
      done_since = tail_trans two c.before done c.low (delivered_adds doc y back c.before)

      done_low : IsTail (history doc y) done
      done_low =
          tail_trans (history doc y) two done (tail_trans (history doc y) (with_events doc y) two (before_events doc y) (two_adds doc y (with_events doc y) (with_events doc y) (tail_all (with_events doc y)))) done_since

      -- so it acts in its turn
      acts_at : (g : List Entry) → IsTail done g → IsTail g (history doc (suc y)) → acts doc q y g ≡ true
      acts_at g below above = by_time fresher.at fresher.is fresher.later (nat_lt (local doc q.process y) fresher.at) refl
        where
          fresher : IsFresh doc q y g
          fresher = fresh_stays doc q y done g time.deadline (above_cut (λ x. y ≤ x.beat) (history doc y) (history doc (suc y)) (from_beat doc y (suc y) (omega arith)) done g done_low below above) fresh

          up : alive q.process g ≡ Some q.incarnation
          up =
              up_at g
              (tail_trans s.before two g (tail_trans s.before (s.f ∷ s.before) two (inr (tail_all s.before)) (sent_low doc rules near far n one q s.f s.before call arrives s.position r comes on_time up_at waits_on unstopped)) (tail_trans two done g done_since below))
              (tail_trans g (history doc (suc y)) (history doc (suc n)) above (later_tail doc (suc y) (suc n) (omega (arith, comes))))

          by_time : (at : ℕ) → deadline doc q g ≡ Some at → local doc q.process y < at → (b : Bool) → nat_lt (local doc q.process y) at ≡ b → acts doc q y g ≡ true
          by_time at is later true before = acts_before doc rules q y at g (steady.passes y (omega (arith, s.from, r.least, r.comes_least)) (omega (arith, comes, within))).awake up is before
          by_time at is later false late = absurd (omega (arith, later, ltb-false (local doc q.process y) at late))

      pub won_acts : ((k : ℕ) → a ≤ k → k ≤ n → Acts doc q k → ⊥) → ⊥
      won_acts none =
          none y (omega (arith, s.from, r.least, r.comes_least)) comes (role, acts_at (at_turn doc q.process y) (turns_add doc y q.process done three c.three) (turn_tail doc q.process y (omega (arith, controllers_first doc q.process role))))

  -- ---- an accepted election write

  pub sending_of : (call : Call) (arrives : Option ℕ) (f : Entry) (S : List Entry) → IsTail (f ∷ S) (history doc (suc n)) → f.actor ≡ actor_of q → f.fact ≡ Sends call arrives → a ≤ call.sent → (s : Sending doc a n q call arrives) × (s.f ≡ f) × (s.before ≡ S)
  sending_of call arrives f S position actor fact from = by_free (made.free role)
    where
      made : MadeFor doc q f.beat f.step call arrives S
      made = made_for doc rules (suc n) q f S call arrives position actor fact

      sent : call.sent ≡ f.beat
      sent = ap (λ (c : Call). c.sent) made.call_is

      by_free : HasStopped f.beat q call.kind S ⊎ ((alive q.process S ≡ Some q.incarnation) × (call_in q S ≡ None) × (3 ≤ f.step) × IsOpen call.kind) → (s : Sending doc a n q call arrives) × (s.f ≡ f) × (s.before ≡ S)
      by_free (inl stopped) =
          let stop = entry f.beat 1 q Stops in
          let in_s : In stop S = subst (In stop) (sym stopped.is) (inl refl) in
          let there = in_tail stop (history doc (suc n)) (history doc (suc e)) (later_tail doc (suc n) (suc e) (omega (arith, within))) (in_tail stop (f ∷ S) (history doc (suc n)) position (inr in_s)) in
          let before = steady.stops stop there refl (ap (λ b. has (when b q.incarnation)) (eq-eqb q.process q.process refl)) in
          absurd (omega (arith, before, from, sent))
      by_free (inr free) = (
        record {
          f = f;
          before = S;
          position = position;
          actor = actor;
          fact = fact;
          from = omega (arith, from, sent);
          step = free.2;
          sent = sent;
          up = free.0;
          opens = free.3 call;
        },
        refl,
        refl,
      )

  module _ (none : (k : ℕ) → a ≤ k → k ≤ n → Acts doc q k → ⊥) where
    writes : (x : Entry) (T : List Entry) (who : Actor) (d : Fact) → x.actor ≡ who → x.fact ≡ d → IsTail (x ∷ T) (history doc (suc n)) → who ≡ actor_of q → WritesElection a d → x.beat + far ≤ n → MadeAs doc x.beat x.step who d T → ⊥
    writes x T who (Answers call reply comes wrote) actor fact position mine wrote_it late made =
        won_acts s.call s.arrives s_sending r (omega (arith, r.comes_most, ap (λ n. n) beat, late)) stands won none
      where
        s : Sent
        s = made.s

        whose : s.who ≡ q
        whose = actor_is s.who q (sym made.by ∙ mine)

        p : List Entry
        p = (place_of made.arriving.e T made.arriving.stands).before

        at_f : IsTail (made.arriving.e ∷ p) T
        at_f = (place_of made.arriving.e T made.arriving.stands).position

        position_f : IsTail (made.arriving.e ∷ p) (history doc (suc n))
        position_f = tail_trans (made.arriving.e ∷ p) T (history doc (suc n)) at_f (tail_trans T (x ∷ T) (history doc (suc n)) (inr (tail_all T)) position)

        facts : (made.arriving.e.actor ≡ actor_of s.who) × (made.arriving.e.fact ≡ Sends s.call s.arrives)
        facts = sends_of made.arriving.e.actor made.arriving.e.fact s made.arriving.is

        arrives : s.arrives ≡ Some x.beat
        arrives = due_at x.beat s.arrives made.arriving.now

        s_sending : Sending doc a n q s.call s.arrives
        s_sending = (sending_of s.call s.arrives made.arriving.e p position_f (facts.0 ∙ ap actor_of whose) facts.1 (subst (λ (c : Call). a ≤ c.sent) made.call_is wrote_it.0)).0

        r : IsRound doc near far q s.call s.arrives s_sending.f.beat
        r =
            rounds_in doc rules near far a e q steady one (suc n) s_sending.f s_sending.before s.call s.arrives s_sending.position s_sending.actor s_sending.fact (omega (arith, s_sending.step)) s_sending.from
            upto (λ k n least is most. omega (arith, least, some_is n x.beat (sym is ∙ arrives), late, within))
          where
            upto : s_sending.f.beat ≤ e
            upto = ⊎_elim (λ lt. omega (arith, lt, within)) (λ first. absurd (omega (arith, first.1, s_sending.step))) (entries_are_earlier doc (suc n) s_sending.f (in_head s_sending.f s_sending.before (history doc (suc n)) s_sending.position))

        beat : r.at ≡ x.beat
        beat = some_is r.at x.beat (sym r.arrives_is ∙ arrives)

        there : Entry
        there = entry r.at 2 q (Answers s.call (answer s.call.request r.before) (reply_arrival doc q.process r.at r.before) (written s.call.request r.before))

        mine_back : Back
        mine_back = record { who = s.who; call = call; reply = reply; comes = comes }

        same : x ∷ T ≡ there ∷ r.before
        same =
            answers_differ doc rules (suc n) x there T r.before mine_back (record { who = q; call = s.call; reply = answer s.call.request r.before; comes = reply_arrival doc q.process r.at r.before }) position
            (tail_trans (there ∷ r.before) (history doc (suc r.at)) (history doc (suc n)) r.position (later_tail doc (suc r.at) (suc n) (omega (arith, beat, late))))
            (ap (λ d. back_of x.actor d) fact ∙ ap (λ who. back_of who (Answers call reply comes wrote)) (actor ∙ made.by)) refl whose (ap (λ (c : Call). c.number) made.call_is)

        stands : (h : List Entry) → IsTail s_sending.before h → IsTail h (history doc (suc n)) → alive q.process h ≡ Some q.incarnation
        stands h below above =
            persists doc rules near far a e n q role time.deadline steady within none (omega (arith, s_sending.from, r.least, beat, late)) s_sending.before h
            (since_low doc a n s_sending.f s_sending.before s_sending.position s_sending.from s_sending.step) below above s_sending.up

        won : IsWon s.call.request (answer s.call.request r.before)
        won =
            subst (λ h. IsWon s.call.request (answer s.call.request h)) (same_rest x there T r.before same)
            (won_of s.call.request T (subst (λ o. has (at_key election (request_write s.call.request o)) ≡ true) made.written_is (subst (λ (c : Call). has (at_key election (request_write c.request wrote)) ≡ true) made.call_is wrote_it.1)))
    writes x T who (FirstPut key object) actor fact position mine wrote_it late made = absurd wrote_it
    writes x T who (Happens w version) actor fact position mine wrote_it late made = absurd wrote_it
    writes x T who (Sends call arrives) actor fact position mine wrote_it late made = absurd wrote_it
    writes x T who (Delivers call reply counted) actor fact position mine wrote_it late made = absurd wrote_it
    writes x T who (Expires call) actor fact position mine wrote_it late made = absurd wrote_it
    writes x T who (Ticks t) actor fact position mine wrote_it late made = absurd wrote_it
    writes x T who Starts actor fact position mine wrote_it late made = absurd wrote_it
    writes x T who Crashes actor fact position mine wrote_it late made = absurd wrote_it
    writes x T who Stops actor fact position mine wrote_it late made = absurd wrote_it
    writes x T who (Stalls beats) actor fact position mine wrote_it late made = absurd wrote_it
    writes x T who StepsDown actor fact position mine wrote_it late made = absurd made
    writes x T who (ReleaseBegins at_deadline) actor fact position mine wrote_it late made = absurd made
    writes x T who ReleaseEnds actor fact position mine wrote_it late made = absurd made
    writes x T who ReleaseStops actor fact position mine wrote_it late made = absurd made
    writes x T who Ends actor fact position mine wrote_it late made = absurd wrote_it
    writes x T who (Leads version) actor fact position mine wrote_it late made = absurd wrote_it

    -- who writes it by a call of the calm acts, if the reply can come in time
    pub writer_acts : (x : Entry) (T : List Entry) → IsTail (x ∷ T) (history doc (suc n)) → x.actor ≡ actor_of q → WritesElection a x.fact → x.beat + far ≤ n → ⊥
    writer_acts x T position mine election_write late = writes x T x.actor x.fact refl refl position mine election_write late (are_made doc rules (suc n) x T position)

-- what follows the reply to a call
pub replies_react : (doc : Doc) → ReleasesByStop doc → (near far a e n : ℕ) (q : Identity) → is_controller doc q.process ≡ true → IsSteady doc near far a e q.process → IsInTime doc far a e q.process → 1 ≤ near → n ≤ e
    → (x : Entry) (T : List Entry) (call : Call) (arrives : Option ℕ) → IsTail (x ∷ T) (history doc (suc n)) → x.actor ≡ actor_of q → x.fact ≡ Sends call arrives → a ≤ x.beat → x.beat + 2 * far ≤ n
    → ((h : List Entry) → IsTail T h → IsTail h (history doc (suc n)) → alive q.process h ≡ Some q.incarnation)
    → IsReacted doc near far q call arrives x.beat
replies_react doc rules near far a e n q role steady time one within x T call arrives stands actor fact from to up = by_sending (sending_of doc rules near far a e n q role steady time within one call arrives x T stands actor fact since)
  where
    sent : call.sent ≡ x.beat
    sent = (subst (λ o. IfSome o (λ s. (s.call.sent ≡ x.beat) × (s.arrives ≡ request_arrival doc s.who.process x.beat T))) (sent_is x q call arrives actor fact) (messages_travel doc rules (suc n) x T stands).0).0

    since : a ≤ call.sent
    since = omega (arith, sent, from)

    by_sending : (s : Sending doc a n q call arrives) × (s.f ≡ x) × (s.before ≡ T) → IsReacted doc near far q call arrives x.beat
    by_sending s =
        subst (λ b. IsReacted doc near far q call arrives b) beat
        (reacted doc rules near far a e n q role steady time within one call arrives s.0 r (omega (arith, r.most, r.comes_most, to, beat)) (λ h below above. up h (subst (λ g. IsTail g h) s.2 below) above))
      where
        beat : s.0.f.beat ≡ x.beat
        beat = ap (λ (e : Entry). e.beat) s.1

        r : IsRound doc near far q call arrives s.0.f.beat
        r =
            rounds_in doc rules near far a e q steady one (suc n) s.0.f s.0.before call arrives s.0.position s.0.actor s.0.fact (omega (arith, s.0.step)) s.0.from (omega (arith, beat, to, within))
            (λ k n least is most. omega (arith, most, beat, to, within))

-- ---- the law

pub replies_count : RepliesCount
replies_count doc rules near far a e n q role steady time one within x T call arrives stands actor fact from to up = record {
  at = y;
  least = omega (arith, s.round.least, s.round.comes_least);
  most = omega (arith, s.round.most, s.round.comes_most);
  reply = answer call.request s.round.before;
  before = s.before;
  position = tail_trans counted _ (history doc (suc y)) (follow_adds doc y q (leads q counted) (follow_on doc q y call.kind call.request (answer call.request s.round.before) counted) counted) s.position;
}
  where
    s : IsReacted doc near far q call arrives x.beat
    s = replies_react doc rules near far a e n q role steady time one within x T call arrives stands actor fact from to up

    y : ℕ
    y = s.round.comes

    counted : List Entry
    counted = with_reply y q call (answer call.request s.round.before) s.before
