-- The looks of a candidate at another's record, one after the other.
use Rattle.std.proofs.Common.{◌≡◌, ◌⊎◌, ◌<◌, ◌≤◌, ℕ, suc, ◌+◌, ◌*◌, Bool, true, false, List, ◌∷◌, Option, Some, None, refl, sym, ap, ◌∙◌, subst, inl, inr, ⊎_elim, arith}
use Rattle.std.proofs.lemmas.Bool.{eq-eqb, cases_lt}
use Rattle.kube_objects.specs.declared.call.Reply.{Reply}
use Rattle.kube_objects.specs.declared.call.Reply.TheVariants.{Found}
use Rattle.kube_objects.specs.declared.call.Request.TheVariants.{Get}
use Rattle.kube_objects.specs.declared.deed.Actor.{Actor}
use Rattle.kube_objects.specs.declared.lease.Lease.{Lease}
use Rattle.kube_objects.specs.declared.object.Object.TheVariants as object
use Rattle.kube_objects.specs.Answers.{as_kind, lease_in, answer_get, answer, versioned}
use Rattle.kube_objects.specs.Clocks.{local}
use Rattle.kube_objects.specs.Document.{Doc, is_controller}
use Rattle.kube_objects.specs.Elector.{Fails, retry_at, told, shows, shown, observed, leads, follow_on}
use Rattle.kube_objects.specs.Entry.{Entry, Identity, Call, Fact, First, Event, Starts, Stops, Sends, Answers, Delivers, Expires, Leads, Ends, Crashes, Stalls, Ticks, actor_of, entry, StepsDown, ReleaseBegins, ReleaseEnds, ReleaseStops}
use Rattle.kube_objects.specs.Identities.{is_by, of_process}
use Rattle.kube_objects.specs.Newest.{when, only_if, has}
use Rattle.kube_objects.specs.Process.{alive, open_as, call_in}
use Rattle.kube_objects.specs.Stored.{Held, election, stored}
use Rattle.kube_objects.specs.Own.{ReleasesByStop}
use Rattle.history.specs.History.{history}
use Rattle.history.specs.Safe.{Acts}
use Rattle.history_laws.specs.Tails.{In, IsTail}
use Rattle.history_laws.proofs.Plainly.{none_is, false_is, same_self}
use Rattle.history_laws.proofs.Tailed.{tail_all, tail_trans, in_tail, tails_meet, later_tail, same_head}
use Rattle.span_laws.specs.Spans.{RunsAtLeast, RunsAtMost, IsEnough, IsNeeded}
use Rattle.span_laws.proofs.Spans.{readings_grow, readings_last}
use Rattle.lease_laws.proofs.Invariant.{gives_up}
use Rattle.call_laws.specs.Waiting.{Closes, IsClosed}
use Rattle.call_laws.proofs.Above.{in_head}
use Rattle.call_laws.proofs.Making.{MadeAs, MadeSend, HasStopped, IsOpen, are_made}
use Rattle.call_laws.proofs.Placing.{in_own_beat}
use Rattle.call_laws.proofs.Starting.{actor_is}
use Rattle.call_laws.proofs.Waiting.{calls_wait}
use Rattle.call_laws.proofs.Sending.{is_free}
use Rattle.takeover_laws.specs.Asking.{HasAsked}
use Rattle.takeover_laws.specs.Calm.{IsSteady, IsInTime}
use Rattle.takeover_laws.specs.Waits.{longest_wait, shortest_wait}
use Rattle.takeover_laws.proofs.Waits.{retry_least}
use Rattle.takeover_laws.proofs.Asking.{candidates_ask}
use Rattle.takeover_laws.proofs.Unasked.{Quiet, Asked, quiet_or_asked}
use Rattle.takeover_laws.proofs.Writers.{since_low}
use Rattle.calm_laws.proofs.Begun.{by_is}
use Rattle.calm_laws.proofs.Life.{up_between}
use Rattle.calm_laws.proofs.Origins.{Origin, origin}
use Rattle.stay_laws.proofs.Giving.{gives_at_stop}
use Rattle.silence_laws.proofs.Kept.{Kept, kept_of}
use Rattle.silence_laws.proofs.Stepping.{low, quiet_low, IsReached, first_gets}
use Rattle.silence_laws.proofs.Waiting.{history_below, beats_rise, one_sending, counted_after, says_done, never_expires}
use Rattle.silence_laws.proofs.Ways.{beat_before, Went, went}

some_none : {A : Type 0} (x : A) → Some x ≡ None → ⊥
some_none x is = cc

by_process : (q : Identity) (who : Actor) → is_by q who ≡ true → has (of_process q.process who) ≡ true
by_process q who is = ap (λ who. has (of_process q.process who)) (by_is q who is) ∙ ap (λ b. has (when b q.incarnation)) (eq-eqb q.process q.process refl)

none_some : {A : Type 0} (x : A) → None ≡ Some x → ⊥
none_some x is = cc

-- what a controller sends that isn't stopped waits for a reply
pub opens_of : (doc : Doc) → ReleasesByStop doc → (n : ℕ) (q : Identity) → is_controller doc q.process ≡ true → ((x : Entry) → In x (history doc (suc n)) → x.fact ≡ Stops → has (of_process q.process x.actor) ≡ true → ⊥)
    → (x : Entry) (T : List Entry) (call : Call) (arrives : Option ℕ) → IsTail (x ∷ T) (history doc (suc n)) → x.actor ≡ actor_of q → x.fact ≡ Sends call arrives → open_as call.kind call ≡ Some call
opens_of doc rules n q role unstopped x T call arrives at actor fact = by_free (made.free role_made)
  where
    made : MadeSend doc x.beat x.step x.actor call arrives T
    made = subst (λ d. MadeAs doc x.beat x.step x.actor d T) fact (are_made doc rules (suc n) x T at)

    mine : made.q ≡ q
    mine = actor_is made.q q (sym made.by ∙ actor)

    role_made : is_controller doc made.q.process ≡ true
    role_made = ap (λ (p : Identity). is_controller doc p.process) mine ∙ role

    by_free : HasStopped x.beat made.q made.kind T ⊎ ((alive made.q.process T ≡ Some made.q.incarnation) × (call_in made.q T ≡ None) × (3 ≤ x.step) × IsOpen made.kind) → open_as call.kind call ≡ Some call
    by_free (inr free) = subst (λ kind. open_as kind call ≡ Some call) (sym (ap (λ (c : Call). c.kind) made.call_is)) (free.3 call)
    by_free (inl stopped) =
        absurd (unstopped (entry x.beat 1 made.q Stops) (in_tail (entry x.beat 1 made.q Stops) T (history doc (suc n)) (tail_trans T (x ∷ T) (history doc (suc n)) (inr (tail_all T)) at) (subst (In (entry x.beat 1 made.q Stops)) (sym stopped.is) (inl refl))) refl
        (ap (λ b. has (when b made.q.incarnation)) (eq-eqb made.q.process q.process (ap (λ (p : Identity). p.process) mine))))

-- and gives up no Lease
pub never_gives : (doc : Doc) → ReleasesByStop doc → (n : ℕ) (q : Identity) → is_controller doc q.process ≡ true
    → ((x : Entry) → In x (history doc (suc n)) → x.fact ≡ Stops → has (of_process q.process x.actor) ≡ true → ⊥)
    → (x : Entry) (T : List Entry) (call : Call) (arrives : Option ℕ) → IsTail (x ∷ T) (history doc (suc n)) → x.actor ≡ actor_of q → x.fact ≡ Sends call arrives
    → gives_up call.kind ≡ true → ⊥
never_gives doc rules n q role unstopped x T call arrives at actor fact gives =
    let s = gives_at_stop doc rules (suc n) q role x T call arrives at actor fact gives in
    let stop : Entry = entry x.beat 1 q Stops in
    unstopped stop (in_tail stop (x ∷ T) (history doc (suc n)) at (inr (subst (In stop) (sym s.1) (inl refl)))) refl (ap (λ b. has (when b q.incarnation)) (eq-eqb q.process q.process refl))

module _ (doc : Doc) (rules : ReleasesByStop doc) (near far e : ℕ) (one : 1 ≤ near) (ways : near ≤ far) (c : Identity) (role : is_controller doc c.process ≡ true) (steady : IsSteady doc near far 0 e c.process) (time : IsInTime doc far 0 e c.process)
    (T : List Entry) (at : IsTail T (history doc (suc e))) (y : Held) (is : stored election T ≡ Some y) (lease : Lease) (object_is : y.object ≡ object.Lease lease) where
  abbrev pub record_kept : Kept T y
  record_kept = kept_of T y is

  abbrev pub looked : ℕ → Call → List Entry → List Entry
  looked r w S = entry r 3 c (Delivers w (Found y.version lease) true) ∷ S

  -- a reply that told of the record: it was answered while this was stored
  pub record Look (r : ℕ) (S : List Entry) : Type 0 where
    pub w : Call
    pub get : w.request ≡ Get election
    pub position : IsTail (looked r w S) T
    pub o : Origin doc c w (Found y.version lease) S r
    pub since : IsTail (record_kept.z ∷ record_kept.before) o.low

  pub in_e : (g : List Entry) → IsTail g T → IsTail g (history doc (suc e))
  in_e g low = tail_trans g T (history doc (suc e)) low at

  pub beats_in : (x : Entry) (S : List Entry) → IsTail (x ∷ S) T → x.beat ≤ e
  beats_in x S low = beat_before doc e x S (in_e (x ∷ S) low)

  -- a Get that is answered while the record is stored tells of it
  tells_it : (g : List Entry) → IsTail (record_kept.z ∷ record_kept.before) g → IsTail g T → answer (Get election) g ≡ Found y.version lease
  tells_it g low high = ap (λ o. answer_get (as_kind lease_in o)) (record_kept.stays g low high) ∙ ap (λ o. answer_get (versioned y.version (lease_in o))) object_is

  -- ---- nothing was asked since a look, up to a position at which nothing waits and since which nothing was shown

  module _ (r : ℕ) (S : List Entry) (look : Look r S) (G : List Entry) (high : IsTail G T) (none : (z : Entry) (Z : List Entry) → IsTail (z ∷ Z) G → IsTail (looked r look.w S) Z → shows c z.actor z.fact ≡ None) (idle : call_in c G ≡ None) where
    no_ask : (x : Entry) (X : List Entry) (call : Call) (arrives : Option ℕ) → IsTail (x ∷ X) G → IsTail (looked r look.w S) X → x.actor ≡ actor_of c → x.fact ≡ Sends call arrives → call.request ≡ Get election → open_as call.kind call ≡ Some call → ⊥
    no_ask x X call arrives position since actor fact get opens = ⊎_elim (λ waits. none_is call (sym idle ∙ waits)) closed (calls_wait doc rules (suc e) G (in_e G high) c call arrives x X role position actor fact opens)
      where
        closed : IsClosed c call (x ∷ X) G → ⊥
        closed s = cases s.e.fact refl s.closes
          where
            at_e : IsTail (s.e ∷ s.before) (history doc (suc e))
            at_e = in_e (s.e ∷ s.before) (tail_trans (s.e ∷ s.before) G T s.position high)

            replied : (v : Call) (reply : Reply) → s.e.fact ≡ Delivers v reply true → is_by c s.e.actor ≡ true → v ≡ call → ⊥
            replied v reply said mine same = some_none (y.version, lease) (sym shows_it ∙ none s.e s.before s.position (tail_trans (looked r look.w S) (x ∷ X) s.before (inr since) s.since))
              where
                by : s.e.actor ≡ actor_of c
                by = by_is c s.e.actor mine

                o : Origin doc c v reply s.before s.e.beat
                o = origin doc rules (suc e) c s.e s.before v reply at_e by said

                sending : o.begun.f ∷ o.begun.before ≡ x ∷ X
                sending =
                    one_sending doc rules (suc e) c v s.before (tail_trans s.before (s.e ∷ s.before) (history doc (suc e)) (inr (tail_all s.before)) at_e) o.begun x X call arrives
                    (in_e (x ∷ X) (tail_trans (x ∷ X) G T position high)) actor fact (ap (λ (c : Call). c.number) same)

                below : IsTail (x ∷ X) o.low
                below = subst (λ g. IsTail g o.low) sending o.sent_low

                stored_since : IsTail (record_kept.z ∷ record_kept.before) o.low
                stored_since =
                    tail_trans (record_kept.z ∷ record_kept.before) S o.low (tail_trans (record_kept.z ∷ record_kept.before) look.o.low S look.since (tail_trans look.o.low (look.o.e ∷ look.o.low) S (inr (tail_all look.o.low)) look.o.answered))
                    (tail_trans S (looked r look.w S) o.low (inr (tail_all S)) (tail_trans (looked r look.w S) (x ∷ X) o.low (inr since) below))

                high_low : IsTail o.low T
                high_low =
                    tail_trans o.low (s.e ∷ s.before) T (inr (tail_trans o.low (o.e ∷ o.low) s.before (inr (tail_all o.low)) o.answered)) (tail_trans (s.e ∷ s.before) G T s.position high)

                reply_is : reply ≡ Found y.version lease
                reply_is = o.reply_is ∙ ap (λ (c : Call). answer c.request o.low) same ∙ ap (λ q. answer q o.low) get ∙ tells_it o.low stored_since high_low

                shows_it : shows c s.e.actor s.e.fact ≡ Some (y.version, lease)
                shows_it =
                    ap (shows c s.e.actor) said ∙ ap (λ who. shows c who (Delivers v reply true)) by ∙ ap (λ b. only_if b (told v.request reply)) (same_self c)
                    ∙ ap (λ (v : Call). told v.request reply) same ∙ ap (λ q. told q reply) get ∙ ap (told (Get election)) reply_is

            cases : (d : Fact) → s.e.fact ≡ d → Closes c call s.e.actor d → ⊥
            cases (Delivers v reply true) said closes = replied v reply said closes.0 closes.1
            cases (Expires v) said closes = never_expires doc rules near far e one c role steady time s.e s.before v at_e (by_is c s.e.actor closes.0) said
            cases Stops said closes = absurd (never (steady.stops s.e (in_head s.e s.before (history doc (suc e)) at_e) said (by_process c s.e.actor closes)))
              where
                never : s.e.beat < 0 → ⊥
                never lt = omega (arith, lt)
            cases (First key object) said closes = elim closes [ ]
            cases (Event w version) said closes = elim closes [ ]
            cases Starts said closes = elim closes [ ]
            cases Crashes said closes = elim closes [ ]
            cases Ends said closes = elim closes [ ]
            cases (Stalls beats) said closes = elim closes [ ]
            cases StepsDown said closes = elim closes [ ]
            cases (ReleaseBegins at_deadline) said closes = elim closes [ ]
            cases ReleaseEnds said closes = elim closes [ ]
            cases ReleaseStops said closes = elim closes [ ]
            cases (Sends w arrives) said closes = elim closes [ ]
            cases (Answers w reply comes wrote) said closes = elim closes [ ]
            cases (Delivers w reply false) said closes = elim closes [ ]
            cases (Leads version) said closes = elim closes [ ]
            cases (Ticks tick) said closes = elim closes [ ]

  -- ---- the next look

  module _ (n : ℕ) (within : n ≤ e) (unled : (h : List Entry) → IsTail h (history doc (suc n)) → leads c h ≡ false) (idle : (j : ℕ) → j ≤ n → Acts doc c j → ⊥) (alive_n : alive c.process (history doc (suc n)) ≡ Some c.incarnation)
      (slow fast wait needed : ℕ) (runs_least : RunsAtLeast doc c.process 0 e slow) (runs_most : RunsAtMost doc c.process 0 e fast) (some : 1 ≤ wait)
      (wait_is : IsEnough slow (longest_wait doc c.process) wait) (needed_is : IsNeeded fast (shortest_wait doc c.process) needed) where
    pub record IsStep (from to : ℕ) : Type 0 where
      pub least : from + (needed + 2 * near) ≤ to
      pub most : to ≤ from + (wait + 2 * far)

    unstopped : (x : Entry) → In x (history doc (suc n)) → x.fact ≡ Stops → has (of_process c.process x.actor) ≡ true → ⊥
    unstopped x stands fact mine = never (steady.stops x (in_tail x (history doc (suc n)) (history doc (suc e)) (later_tail doc (suc n) (suc e) (omega (arith, within))) stands) fact mine)
      where
        never : x.beat < 0 → ⊥
        never lt = omega (arith, lt)

    pub step : (r q : ℕ) (S Q : List Entry) → (look : Look r S) → (later : Look q Q) → q ≤ suc n → IsTail (looked r look.w S) Q → ((z : Entry) (Z : List Entry) → IsTail (z ∷ Z) Q → IsTail (looked r look.w S) Z → shows c z.actor z.fact ≡ None)
        → follow_on doc c r look.w.kind look.w.request (Found y.version lease) (looked r look.w S) ≡ Fails → IsStep r q
    step r q S Q look later last below none failed = ⊎_elim (λ lt. absurd (too_late lt)) (λ le. by_quiet (quiet_or_asked doc c here due (shown c here) (observed c here) rules (suc n) role unled up G (quiet_low doc rules (suc n) c role unled unstopped r look.w (Found y.version lease) S here_n failed) below_g G_n) le) (cases_lt (r + wait) g.beat)
      where
        failed_at : Entry
        failed_at = entry r 3 c (Delivers look.w (Found y.version lease) true)

        here : List Entry
        here = looked r look.w S

        due : ℕ
        due = retry_at false doc c failed_at S

        g : Entry
        g = later.o.begun.f

        G : List Entry
        G = later.o.begun.before

        Q_t : IsTail Q T
        Q_t = tail_trans Q (looked q later.w Q) T (inr (tail_all Q)) later.position

        g_t : IsTail (g ∷ G) T
        g_t = tail_trans (g ∷ G) Q T later.o.begun.position Q_t

        G_t : IsTail G T
        G_t = tail_trans G (g ∷ G) T (inr (tail_all G)) g_t

        G_q : IsTail G Q
        G_q = tail_trans G (g ∷ G) Q (inr (tail_all G)) later.o.begun.position

        -- the Get was sent after the earlier look
        below_g : IsTail here G
        below_g = ⊎_elim under over (tails_meet here (g ∷ G) Q below later.o.begun.position)
          where
            is_reply : Fact → Bool
            is_reply (Delivers w reply counted) = true
            is_reply _ = false

            differ : here ≡ g ∷ G → ⊥
            differ same = false_is (sym (ap is_reply later.o.begun.fact) ∙ sym (ap (λ (e : Entry). is_reply e.fact) (same_head (entry r 3 c (Delivers look.w (Found y.version lease) true)) g S G same)))

            under : IsTail here (g ∷ G) → IsTail here G
            under (inl same) = absurd (differ same)
            under (inr low) = low

            over : IsTail (g ∷ G) here → IsTail here G
            over (inl same) = absurd (differ (sym same))
            over (inr low) = absurd (none_some None (sym (later.o.begun.alone (entry r 3 c (Delivers look.w (Found y.version lease) true)) S below low) ∙ says_done c (entry r 3 c (Delivers look.w (Found y.version lease) true)) look.w (Found y.version lease) refl refl))

        trip : Went doc rules near far e c role steady g.beat later.o.e.beat q
        trip = went doc rules near far e c role steady later.w (Found y.version lease) Q q later.o (in_e Q Q_t) (omega (arith, beats_in (entry q 3 c (Delivers later.w (Found y.version lease) true)) Q later.position))

        early : g.beat ≤ n
        early = omega (arith, trip.request.least, trip.reply.least, last, one)

        g_n : IsTail (g ∷ G) (history doc (suc n))
        g_n = tail_trans (g ∷ G) (history doc (suc g.beat)) (history doc (suc n)) (in_own_beat doc (suc e) g G (in_e (g ∷ G) g_t)) (later_tail doc (suc g.beat) (suc n) (omega (arith, early)))

        G_n : IsTail G (history doc (suc n))
        G_n = tail_trans G (g ∷ G) (history doc (suc n)) (inr (tail_all G)) g_n

        here_n : IsTail here (history doc (suc n))
        here_n = tail_trans here G (history doc (suc n)) below_g G_n

        up_s : alive c.process S ≡ Some c.incarnation
        up_s = (counted_after doc rules (suc n) c (entry r 3 c (Delivers look.w (Found y.version lease) true)) S look.w (Found y.version lease) here_n refl refl).up

        up : (h : List Entry) → IsTail here h → IsTail h (history doc (suc n)) → alive c.process h ≡ Some c.incarnation
        up h low high = up_between doc rules (suc n) c S h (history doc (suc n)) (tail_trans S here h (inr (tail_all S)) low) high (tail_all (history doc (suc n))) up_s alive_n

        none_g : (z : Entry) (Z : List Entry) → IsTail (z ∷ Z) G → IsTail here Z → shows c z.actor z.fact ≡ None
        none_g z Z high low = none z Z (tail_trans (z ∷ Z) G Q high G_q) low

        idle_g : call_in c G ≡ None
        idle_g = (is_free doc rules (suc e) c role g G later.w later.o.begun.arrives (in_e (g ∷ G) g_t) later.o.begun.actor later.o.begun.fact later.o.begun.opens).idle

        order : r ≤ g.beat
        order = beats_rise doc e g G (in_e (g ∷ G) g_t) (entry r 3 c (Delivers look.w (Found y.version lease) true)) S below_g

        -- its timer wasn't over for longer
        too_late : r + wait < g.beat → ⊥
        too_late lt =
            no_ask r S look G G_t none_g idle_g h.x h.before h.call h.arrives (tail_trans (h.x ∷ h.before) (history doc (suc (r + wait))) G h.position (history_below doc (r + wait) e g G (in_e (g ∷ G) g_t) lt (omega (arith, lt, early, within)))) h.since h.actor h.fact h.get
            (opens_of doc rules n c role unstopped h.x h.before h.call h.arrives (tail_trans (h.x ∷ h.before) (history doc (suc (r + wait))) (history doc (suc n)) h.position (later_tail doc (suc (r + wait)) (suc n) (omega (arith, lt, early)))) h.actor h.fact)
          where
            h : HasAsked doc c (local doc c.process r + shortest_wait doc c.process) here (history doc (suc (r + wait)))
            h =
                candidates_ask doc rules near far 0 e n r (r + wait) c role time.deadline steady within (λ j from to. idle j to) (omega arith) look.w (Found y.version lease) S
                (since_low doc 0 n (entry r 3 c (Delivers look.w (Found y.version lease) true)) S here_n (omega arith) (omega arith)) here_n up_s failed (omega (arith, some)) (omega (arith, lt, early))
                (readings_grow doc c.process 0 e slow (longest_wait doc c.process) wait runs_least wait_is r (r + wait) (omega arith) (omega arith) (omega (arith, lt, early, within)))

        by_quiet : Quiet doc c here due (shown c here) (observed c here) G ⊎ Asked doc c here due (shown c here) (observed c here) G → g.beat ≤ r + wait → IsStep r q
        by_quiet (inl still) le =
            let reached : IsReached doc rules (suc n) c role unled unstopped r look.w (Found y.version lease) S here_n failed g later.w =
            first_gets doc rules (suc n) c role unled unstopped r look.w (Found y.version lease) S here_n failed g G later.w later.o.begun.arrives g_n below_g still later.o.begun.fact later.o.begun.actor in
            let since : r + needed ≤ g.beat = readings_last doc c.process 0 e fast (shortest_wait doc c.process) needed runs_most needed_is r g.beat (omega arith) order (omega (arith, early, within)) (omega (arith, reached.reached, retry_least doc false refl c failed_at S)) in
            record { least = omega (arith, since, trip.request.least, trip.reply.least); most = omega (arith, le, trip.request.most, trip.reply.most) }
        by_quiet (inr s) le =
            absurd (no_ask r S look G G_t none_g idle_g s.x s.before s.call s.arrives s.position s.since s.actor s.fact
            (first_gets doc rules (suc n) c role unled unstopped r look.w (Found y.version lease) S here_n failed s.x s.before s.call s.arrives (tail_trans (s.x ∷ s.before) G (history doc (suc n)) s.position G_n) s.since s.quiet s.fact s.actor).get
            (opens_of doc rules n c role unstopped s.x s.before s.call s.arrives (tail_trans (s.x ∷ s.before) G (history doc (suc n)) s.position G_n) s.actor s.fact))
