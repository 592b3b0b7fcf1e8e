-- The first look of a candidate at a record that it is shown from a beat on comes in time, and is followed by acting.
use Rattle.std.proofs.Common.{◌≡◌, ◌⊎◌, ◌<◌, ◌≤◌, ℕ, zero, suc, ◌+◌, ◌-◌, ◌*◌, ◌&&◌, not, Bool, true, false, List, ◌∷◌, Option, Some, None, IfSome, refl, sym, ap, ◌∙◌, subst, inl, inr, ⊎_elim, arith}
use Rattle.std.proofs.Math.Nat.{mul-le-mul_right}
use Rattle.std.proofs.lemmas.Bool.{ltb-true, cases_lt}
use Rattle.kube_objects.proofs.Clocks.{local_up}
use Rattle.kube_objects.proofs.Own.{is_late-own}
use Rattle.kube_objects.specs.Answers.{lease_in, as_kind, answer_get}
use Rattle.kube_objects.specs.Clocks.{local}
use Rattle.kube_objects.specs.Document.{Doc, processes, is_controller, call_timeout}
use Rattle.kube_objects.specs.Elector.{Follow, Fails, Asks, Succeeds, is_fast, lead_says, leads, follow_on, timer_follow, timer_says, timer, retry_at}
use Rattle.kube_objects.specs.Entry.{Entry, Identity, Call, Fact, Starts, Sends, Delivers, Expires, Leads, actor_of, entry, StepsDown, ReleaseBegins, ReleaseEnds, ReleaseStops}
use Rattle.kube_objects.specs.Identities.{is_by}
use Rattle.kube_objects.specs.Newest.{newest, when, has}
use Rattle.kube_objects.specs.Pauses.{is_paused}
use Rattle.kube_objects.specs.Process.{open_as, alive, call_in, is_late}
use Rattle.kube_objects.specs.Stored.{election, key_of, Held}
use Rattle.kube_objects.specs.Wire.{next_call, request_arrival}
use Rattle.kube_base.specs.declared.numbers.Version.{Version}
use Rattle.kube_objects.specs.declared.call.Reply.TheVariants.{Done}
use Rattle.kube_objects.specs.declared.call.Reply.{Reply}
use Rattle.kube_objects.specs.declared.call.Request.{Request}
use Rattle.kube_objects.specs.declared.call.Request.TheVariants.{Get, Create, Update, PostStatus}
use Rattle.kube_objects.specs.declared.deed.Actor.{Actor}
use Rattle.kube_objects.specs.declared.key.Key.{Key}
use Rattle.kube_objects.specs.declared.key.Kind.TheVariants as kind
use Rattle.kube_objects.specs.Own.{ReleasesByStop}
use Rattle.history.specs.History.{history, at_turn}
use Rattle.history.specs.Safe.{Acts}
use Rattle.history.specs.Steps.{restart, turn}
use Rattle.history_laws.proofs.Counting.{CountedFor, counted_is, only_test, only_value, when_test, when_value}
use Rattle.history_laws.proofs.Order.{entries_are_earlier}
use Rattle.history_laws.proofs.Plainly.{upper, some_is, none_is, true_is, and_left, same_is, same_self}
use Rattle.history_laws.proofs.Tailed.{tail_all, tail_trans, tails_meet, later_tail, turn_tail, before_turn}
use Rattle.history_laws.specs.Tails.{In, IsTail}
use Rattle.span_laws.proofs.Spans.{goes_most, readings_grow}
use Rattle.span_laws.specs.Looks.{IsGreatest}
use Rattle.span_laws.specs.Spans.{RunsAtLeast, RunsAtMost, IsEnough, IsNeeded}
use Rattle.call_laws.proofs.Above.{in_head}
use Rattle.call_laws.proofs.Answering.{events_position}
use Rattle.call_laws.proofs.Making.{MadeAs, MadeDelivery, MadeExpiry, are_made}
use Rattle.call_laws.proofs.Placing.{in_own_beat, not_before, messages_travel}
use Rattle.call_laws.proofs.Sending.{IsFree, is_free}
use Rattle.call_laws.proofs.Starting.{actor_is}
use Rattle.call_laws.specs.Answering.{with_events}
use Rattle.takeover_laws.proofs.Rounds.{sent_is}
use Rattle.takeover_laws.proofs.Standing.{controllers_first, persists}
use Rattle.takeover_laws.proofs.Writers.{since_low, replies_count}
use Rattle.takeover_laws.specs.Calm.{IsSteady, IsInTime}
use Rattle.takeover_laws.specs.Rounds.{HasCounted}
use Rattle.takeover_laws.specs.Waits.{longest_wait, shortest_wait}
use Rattle.takeover_laws.proofs.Waits.{retry_most}
use Rattle.calm_laws.proofs.Asked.{IsWrite, reason_key, reason_of}
use Rattle.calm_laws.proofs.Begun.{Begun, begun_by, by_is, waits_between, Timed, timed_by}
use Rattle.calm_laws.proofs.Life.{up_between, restart_adds, restart_same, turn_unset}
use Rattle.calm_laws.proofs.Looks.{object_of, some_beats, LookIn, Looked, failed_look, looked, none_looks}
use Rattle.calm_laws.proofs.Origins.{Origin, origin}
use Rattle.calm_laws.proofs.Sources.{source}
use Rattle.calm_laws.proofs.Requests.{asks_in_turn}
use Rattle.calm_laws.proofs.Turning.{Turned, turned}
use Rattle.calm_laws.specs.Bounds.{LastsFor}

pub no_kind : kind.Node ≡ kind.Lease → ⊥
no_kind h = cc

abbrev pub whole_entry : ℕ → ℕ → Actor → Fact → Entry
whole_entry beat step who d = record { beat = beat; step = step; actor = who; fact = d }

pub entry_is : (x : Entry) (step : ℕ) (q : Identity) (d : Fact) → x.step ≡ step → x.actor ≡ actor_of q → x.fact ≡ d → x ≡ entry x.beat step q d
entry_is x step q d at by is =
    ap (λ (s : ℕ). whole_entry x.beat s x.actor x.fact) at ∙ ap (λ who. whole_entry x.beat step who x.fact) by ∙ ap (λ d. whole_entry x.beat step (actor_of q) d) is

module _ (doc : Doc) (rules : ReleasesByStop doc) (near far a e n : ℕ) (one : 1 ≤ near) (ways : near ≤ far) (within : n ≤ e) (q : Identity) (role : is_controller doc q.process ≡ true)
    (steady : IsSteady doc near far a e q.process) (my_time : IsInTime doc far a e q.process) (none : (k : ℕ) → a ≤ k → k ≤ n → Acts doc q k → ⊥) (led : (h : List Entry) → IsTail h (history doc (suc n)) → leads q h ≡ false)
    (lasting : ℕ) (top : Option Held) (lasts : LastsFor doc q.process lasting (object_of top)) (K : ℕ) (some : a < K)
    (given : (w : Call) (reply : Reply) (T : List Entry) (y : ℕ) → (o : Origin doc q w reply T y) → IsTail T (history doc (suc n)) → w.request ≡ Get election → K ≤ y → y + far ≤ n → o.e.beat + far ≤ n → reply ≡ answer_get (as_kind lease_in top))
    (refused : (w : Call) (reply : Reply) (T : List Entry) (y : ℕ) → (o : Origin doc q w reply T y) → IsTail T (history doc (suc n)) → IsWrite w.request → K ≤ y → y + far ≤ n → o.e.beat + far ≤ n → (version : Version) → reply ≡ Done version → ⊥)
    (no_writes : (x : Entry) (T : List Entry) (call : Call) (arrives : Option ℕ) → IsTail (x ∷ T) (history doc (suc n)) → x.actor ≡ actor_of q → x.fact ≡ Sends call arrives → open_as call.kind call ≡ Some call → IsWrite call.request → K ≤ x.beat + 2 * far → x.beat + 2 * far ≤ n → ⊥)
    (slow fast wait needed from : ℕ) (low_from : from ≤ K) (runs_least : RunsAtLeast doc q.process from e slow) (runs_most : RunsAtMost doc q.process from e fast)
    (waits : 1 ≤ longest_wait doc q.process) (wait_is : IsEnough slow (longest_wait doc q.process) wait) (needed_is : IsNeeded fast (shortest_wait doc q.process) needed)
    (enough most : ℕ) (enough_is : IsEnough slow lasting enough) (most_is : IsGreatest (needed + 2 * near) (wait + 2 * far) enough most)
    (G : ℕ) (after : K + wait ≤ G + 1) (low_wait : from + wait ≤ G) (room : G + most + 4 * far ≤ n)
    (overdue : (call : Call) (k : ℕ) → call.sent < a → G ≤ k + wait → k ≤ n → is_late doc q k call ≡ true) where
  some_wait : 1 ≤ wait
  some_wait = some_beats slow (longest_wait doc q.process) wait waits wait_is

  into : (m : ℕ) → m ≤ n → (h : List Entry) → IsTail h (history doc (suc m)) → IsTail h (history doc (suc n))
  into m le h at = tail_trans h (history doc (suc m)) (history doc (suc n)) at (later_tail doc (suc m) (suc n) (omega (arith, le)))

  stays : (start : List Entry) → IsTail (with_events doc a) start → alive q.process start ≡ Some q.incarnation → (h : List Entry) → IsTail start h → IsTail h (history doc (suc n)) → alive q.process h ≡ Some q.incarnation
  stays start low up h below above = persists doc rules near far a e n q role my_time.deadline steady within none (omega (arith, some, after, some_wait, room)) start h low below above up

  -- a look that comes in time is followed by acting
  close : (start : List Entry) (low : IsTail (with_events doc a) start) (up : alive q.process start ≡ Some q.incarnation) (o : ℕ) → K ≤ o → o ≤ G + 2 * far
      → LookIn doc rules near far a e n one ways within q role steady my_time none led lasting top lasts K some given refused no_writes start low (stays start low up) o → ⊥
  close start low up o late soon look =
      none_looks doc rules near far a e n one ways within q role steady my_time none led lasting top lasts K some given refused no_writes start low (stays start low up)
      slow fast wait needed from low_from runs_least runs_most waits wait_is needed_is o late (look (omega (arith, soon, room))) enough most enough_is most_is (omega (arith, soon, room))

  -- a Get that it sends by beat G comes to one, where its reply comes late enough
  asked : (x : Entry) (T : List Entry) (call : Call) (arrives : Option ℕ) → IsTail (x ∷ T) (history doc (suc n)) → x.actor ≡ actor_of q → x.fact ≡ Sends call arrives → call.request ≡ Get election
      → IsTail (with_events doc a) T → alive q.process T ≡ Some q.incarnation → a ≤ x.beat → x.beat ≤ G
      → ((y : ℕ) (reply : Reply) (before : List Entry) → x.beat + 2 * near ≤ y → y ≤ x.beat + 2 * far → IsTail (entry y 3 q (Delivers call reply true) ∷ before) (history doc (suc y)) → K ≤ y) → ⊥
  asked x T call arrives at actor fact get low up since_a to late =
      by_look (looked doc rules near far a e n one ways within q role steady my_time none led lasting top lasts K some given refused no_writes T low (stays T low up) x T call arrives at actor fact get (tail_all T) since_a (omega (arith, to, room)))
    where
      by_look : Looked doc rules near far a e n one ways within q role steady my_time none led lasting top lasts K some given refused no_writes T low (stays T low up) x.beat call → ⊥
      by_look r = let since : K ≤ r.at = late r.at r.reply r.before r.least r.most r.position in close T low up r.at since (omega (arith, r.most, to)) (r.look since)

  -- ---- a call that waits for longer than a round

  module _ (call : Call) (T : List Entry) (high : IsTail T (history doc (suc n))) (b : Begun q call T) where
    position : IsTail (b.f ∷ b.before) (history doc (suc n))
    position = tail_trans (b.f ∷ b.before) T (history doc (suc n)) b.position high

    sent_at : call.sent ≡ b.f.beat
    sent_at =
        (subst (λ p. IfSome p (λ s. (s.call.sent ≡ b.f.beat) × (s.arrives ≡ request_arrival doc s.who.process b.f.beat b.before))) (sent_is b.f q call b.arrives b.actor b.fact) (messages_travel doc rules (suc n) b.f b.before position).0).0

    free : IsFree q b.f b.before call
    free = is_free doc rules (suc n) q role b.f b.before call b.arrives position b.actor b.fact b.opens

    up_sent : alive q.process b.before ≡ Some q.incarnation
    up_sent = free.up

    low_sent : a ≤ b.f.beat → IsTail (with_events doc a) b.before
    low_sent from_a = since_low doc a n b.f b.before position from_a free.step

    -- no reply to it has counted
    unanswered : (y : ℕ) (reply : Reply) (before : List Entry) → IsTail (entry y 3 q (Delivers call reply true) ∷ before) T → b.f.beat < y → y ≤ n → ⊥
    unanswered y reply before in_t lt to = none_is None (sym (b.alone del before in_t after_it) ∙ ap (λ t. when t None) (same_self q))
      where
        del : Entry
        del = entry y 3 q (Delivers call reply true)

        after_it : IsTail (b.f ∷ b.before) before
        after_it =
            tail_trans (b.f ∷ b.before) (history doc (suc b.f.beat)) before (in_own_beat doc (suc n) b.f b.before position)
            (not_before doc (suc b.f.beat) (suc n) del before (omega (arith, lt, to)) (tail_trans (del ∷ before) T (history doc (suc n)) in_t high) lt (omega arith))

    -- so a reply to it has time left, where it was sent since beat a
    pub no_old : (y : ℕ) → IsTail (history doc y) T → a ≤ b.f.beat → b.f.beat + 2 * far < y → y ≤ suc n → ⊥
    no_old y low from_a lt to = by_count (replies_count doc rules near far a e m q role steady my_time one (omega (arith, lt, to, within)) b.f b.before call b.arrives sending b.actor b.fact from_a (omega arith) still)
      where
        m : ℕ
        m = b.f.beat + 2 * far

        sending : IsTail (b.f ∷ b.before) (history doc (suc m))
        sending = tail_trans (b.f ∷ b.before) (history doc (suc b.f.beat)) (history doc (suc m)) (in_own_beat doc (suc n) b.f b.before position) (later_tail doc (suc b.f.beat) (suc m) (omega arith))

        still : (h : List Entry) → IsTail b.before h → IsTail h (history doc (suc m)) → alive q.process h ≡ Some q.incarnation
        still h below above = stays b.before (low_sent from_a) up_sent h below (into m (omega (arith, lt, to)) h above)

        by_count : HasCounted doc q call (b.f.beat + 2 * near) (b.f.beat + 2 * far) → ⊥
        by_count c =
            unanswered c.at c.reply c.before
            (tail_trans _ (history doc y) T (tail_trans _ (history doc (suc c.at)) (history doc y) c.position (later_tail doc (suc c.at) y (omega (arith, c.most, lt)))) low)
            (omega (arith, c.least, one)) (omega (arith, c.most, lt, to))

    -- it asks for the election Lease
    pub asks_election : key_of call.request ≡ election
    asks_election =
        reason_key doc b.f.beat q call.request b.before
        (reason_of doc rules (suc n) q role b.f b.before call b.arrives position b.actor b.fact (led b.before (tail_trans b.before (b.f ∷ b.before) (history doc (suc n)) (inr (tail_all b.before)) position)) b.opens).0

    -- one that waits as beat G begins, and can't be closed before, comes to a look, or isn't sent
    pub waited : IsTail (history doc G) T → a ≤ b.f.beat → b.f.beat ≤ G → G ≤ b.f.beat + 2 * far → ⊥
    waited low from_a upto late = by_request call.request refl
      where
        writes : IsWrite call.request → ⊥
        writes write = no_writes b.f b.before call b.arrives position b.actor b.fact b.opens write (omega (arith, late, after, some_wait)) (omega (arith, upto, room))

        look : call.request ≡ Get election → ⊥
        look get =
            asked b.f b.before call b.arrives position b.actor b.fact get (low_sent from_a) up_sent from_a upto
            (λ y reply before least most at. ⊎_elim
            (λ lt. absurd (unanswered y reply before (tail_trans _ (history doc G) T (tail_trans _ (history doc (suc y)) (history doc G) at (later_tail doc (suc y) G lt)) low) (omega (arith, least, one)) (omega (arith, lt, room))))
            (λ le. omega (arith, le, after, some_wait)) (cases_lt y G))

        by_request : (request : Request) → call.request ≡ request → ⊥
        by_request (Get k) is = look (is ∙ ap Get (sym (ap key_of is) ∙ asks_election))
        by_request (Create k l) is = writes (subst IsWrite (sym is) tt)
        by_request (Update k v l) is = writes (subst IsWrite (sym is) tt)
        by_request (PostStatus name status at) is = no_kind (ap (λ (k : Key). k.kind) (sym (ap key_of is) ∙ asks_election))

    -- one that was sent before has expired by the end of a beat at which it is late
    pub no_lost : (k : ℕ) → b.f.beat < a → a ≤ k → k < n → is_late doc q k call ≡ true → alive q.process T ≡ Some q.incarnation → IsTail (history doc (suc k)) T → ⊥
    no_lost k before from lt is_overdue up_t low = by_turn (turned doc rules k q g role awake (ap (alive q.process) same ∙ up_g) (turn_unset doc q k (led g (tail_trans g T (history doc (suc n)) g_low high))))
      where
        g : List Entry
        g = at_turn doc q.process k

        first : q.process < processes doc
        first = controllers_first doc q.process role

        turn_low : IsTail (turn doc k q.process g) T
        turn_low = tail_trans (turn doc k q.process g) (history doc (suc k)) T (turn_tail doc (suc q.process) k (omega (arith, first))) low

        g_low : IsTail g T
        g_low = tail_trans g (history doc (suc k)) T (turn_tail doc q.process k (omega (arith, first))) low

        f_low : IsTail (b.f ∷ b.before) g
        f_low =
            tail_trans (b.f ∷ b.before) (history doc (suc b.f.beat)) g (in_own_beat doc (suc n) b.f b.before position)
            (tail_trans (history doc (suc b.f.beat)) (history doc k) g (later_tail doc (suc b.f.beat) k (omega (arith, before, from))) (before_turn doc q.process k))

        up_g : alive q.process g ≡ Some q.incarnation
        up_g = up_between doc rules (suc n) q b.before g T (tail_trans b.before (b.f ∷ b.before) g (inr (tail_all b.before)) f_low) g_low high up_sent up_t

        same : restart doc k q.process g ≡ g
        same = restart_same doc k q.process q.incarnation g up_g

        f_restart : IsTail (b.f ∷ b.before) (restart doc k q.process g)
        f_restart = subst (IsTail (b.f ∷ b.before)) (sym same) f_low

        awake : is_paused doc q.process k ≡ false
        awake = (steady.passes k (omega (arith, from)) (omega (arith, lt, within))).awake

        by_turn : Turned doc k q (restart doc k q.process g) (turn doc k q.process g) → ⊥
        by_turn (inl s) =
            let c : s.call ≡ call = some_is s.call call (sym s.waits ∙ waits_between q call T b (restart doc k q.process g) f_restart (subst (λ h. IsTail h T) (sym same) g_low)) in
            true_is (sym is_overdue ∙ ap (λ c. is_late doc q k c) (sym c) ∙ s.timely)
        by_turn (inr (inr s)) =
            true_is (sym (ap has (waits_between q call T b s.above (tail_trans (b.f ∷ b.before) (restart doc k q.process g) s.above f_restart s.low) (tail_trans s.above (turn doc k q.process g) T s.position turn_low))) ∙ s.idle)
        by_turn (inr (inl s)) =
            none_is (open_as s.kind (next_call q k s.kind s.request s.above))
            (sym (b.alone (entry k 4 q (Sends (next_call q k s.kind s.request s.above) (request_arrival doc q.process k s.above))) s.above
            (tail_trans _ (turn doc k q.process g) T s.position turn_low) (tail_trans (b.f ∷ b.before) (restart doc k q.process g) s.above f_restart s.low))
            ∙ ap (λ t. when t (open_as s.kind (next_call q k s.kind s.request s.above))) (same_self q))

  -- ---- a timer that is ahead at the end of beat G was set late

  -- a reading that the longest wait leads beyond beat G
  recent : (y : ℕ) → local doc q.process G < local doc q.process y + longest_wait doc q.process → G < y + wait
  recent y lt = ⊎_elim (λ less. less) (λ le. absurd (over le)) (cases_lt G (y + wait))
    where
      grows : (z : ℕ) → from ≤ z → z + wait ≤ G → local doc q.process z + longest_wait doc q.process ≤ local doc q.process G
      grows z low le = readings_grow doc q.process from e slow (longest_wait doc q.process) wait runs_least wait_is z G low le (omega (arith, room, within))

      over : y + wait ≤ G → ⊥
      over le = ⊎_elim early late (cases_lt y from)
        where
          early : y < from → ⊥
          early less = omega (arith, lt, local_up doc q.process y from (omega (arith, less)), grows from (omega arith) (omega (arith, low_wait)))

          late : from ≤ y → ⊥
          late low = omega (arith, lt, grows y low le)

  -- in the history with beat G
  in_beat : (h : List Entry) → IsTail h (history doc (suc G)) → IsTail h (history doc (suc n))
  in_beat h at = into G (omega (arith, room)) h at

  beat_by : (x : Entry) (T : List Entry) → IsTail (x ∷ T) (history doc (suc G)) → x.beat ≤ G
  beat_by x T at = ⊎_elim (λ lt. omega (arith, lt)) (λ first. omega (arith, first.0)) (entries_are_earlier doc (suc G) x (in_head x T (history doc (suc G)) at))

  module _ (x : Entry) (T : List Entry) (at : IsTail (x ∷ T) (history doc (suc G))) where
    at_n : IsTail (x ∷ T) (history doc (suc n))
    at_n = in_beat (x ∷ T) at

    high : IsTail T (history doc (suc n))
    high = tail_trans T (x ∷ T) (history doc (suc n)) (inr (tail_all T)) at_n

    upto : x.beat ≤ G
    upto = beat_by x T at

    -- it comes after the beats before its own
    beats_low : (y : ℕ) → 1 ≤ y → y ≤ x.beat → IsTail (history doc y) T
    beats_low y first_beat le = by_place (tails_meet (history doc y) (x ∷ T) (history doc (suc n)) (later_tail doc y (suc n) (omega (arith, le, upto, room))) at_n)
      where
        within_y : In x (history doc y) → ⊥
        within_y stands = ⊎_elim (λ lt. omega (arith, lt, le)) (λ first. omega (arith, first.0, le, first_beat)) (entries_are_earlier doc y x stands)

        by_place : IsTail (history doc y) (x ∷ T) ⊎ IsTail (x ∷ T) (history doc y) → IsTail (history doc y) T
        by_place (inl (inl is)) = absurd (within_y (subst (In x) (sym is) (inl refl)))
        by_place (inl (inr below)) = below
        by_place (inr above) = absurd (within_y (in_head x T (history doc y) above))

    expiry : (c : Call) → MadeExpiry doc x.beat x.actor c T → is_by q x.actor ≡ true → G < x.beat + wait → ⊥
    expiry c made mine late = ⊎_elim before since (cases_lt b.f.beat a)
      where
        whose : made.q ≡ q
        whose = same_is made.q q (sym (ap (is_by q) made.by) ∙ mine)

        b : Begun q c T
        b = begun_by q T c (ap (λ p. call_in p T) (sym whose) ∙ made.waits)

        up_t : alive q.process T ≡ Some q.incarnation
        up_t = subst (λ (p : Identity). alive p.process T ≡ Some p.incarnation) whose made.up

        some_beat : 1 ≤ x.beat
        some_beat = omega (arith, late, after, some)

        before : b.f.beat < a → ⊥
        before lt = by_beat x.beat refl
          where
            by_beat : (y : ℕ) → x.beat ≡ y → ⊥
            by_beat zero is = omega (arith, is, late, after, some)
            by_beat (suc k) is =
                no_lost c T high b k lt (omega (arith, is, late, after, some)) (omega (arith, is, upto, room, one, ways))
                (overdue c k (omega (arith, lt, sent_at c T high b)) (omega (arith, is, late)) (omega (arith, is, upto, room))) up_t (beats_low (suc k) (omega arith) (omega (arith, is)))

        since : a ≤ b.f.beat → ⊥
        since from = ⊎_elim (λ lt. no_old c T high b x.beat (beats_low x.beat some_beat (omega arith)) from lt (omega (arith, upto, room))) in_time (cases_lt (b.f.beat + 2 * far) x.beat)
          where
            in_time : x.beat ≤ b.f.beat + 2 * far → ⊥
            in_time le = omega (arith, goes, short, my_time.timeout, sent_at c T high b, ap (local doc q.process) (sent_at c T high b), ltb-true (local doc q.process c.sent + call_timeout doc q.process) (local doc q.process x.beat) (sym (is_late-own doc rules q x.beat c) ∙ late_at))
              where
                late_at : is_late doc q x.beat c ≡ true
                late_at = subst (λ p. is_late doc p x.beat c ≡ true) whose made.late

                f_by : b.f.beat ≤ x.beat
                f_by =
                    ⊎_elim (λ lt. omega (arith, lt)) (λ first. omega (arith, first.0))
                    (entries_are_earlier doc (suc x.beat) b.f (in_head b.f b.before (history doc (suc x.beat)) (tail_trans (b.f ∷ b.before) (x ∷ T) (history doc (suc x.beat)) (inr b.position) (in_own_beat doc (suc n) x T at_n))))

                goes : local doc q.process x.beat ≤ local doc q.process b.f.beat + (x.beat - b.f.beat) * my_time.fast
                goes = goes_most doc q.process a e my_time.fast my_time.runs b.f.beat x.beat from f_by (omega (arith, upto, room, within))

                short : (x.beat - b.f.beat) * my_time.fast ≤ (2 * far) * my_time.fast
                short = mul-le-mul_right my_time.fast beats
                  where
                    beats : x.beat - b.f.beat ≤ 2 * far
                    beats = omega (arith, le)

    reply_failed : (w : Call) (reply : Reply) → MadeDelivery doc x.beat x.step x.actor w reply T → x.actor ≡ actor_of q → x.fact ≡ Delivers w reply true → G < x.beat + wait
        → follow_on doc q x.beat w.kind w.request reply (x ∷ T) ≡ Fails → ⊥
    reply_failed w reply made mine fact late failed = by_request w.request refl
      where
        y_late : K ≤ x.beat
        y_late = omega (arith, late, after)

        whose : made.b.who ≡ q
        whose = actor_is made.b.who q (sym made.by ∙ mine)

        counts : CountedFor doc made.b.who x.beat made.b.call.number T w
        counts = counted_is doc made.b.who x.beat made.b.call.number T w made.counted_is

        up_t : alive q.process T ≡ Some q.incarnation
        up_t = subst (λ (p : Identity). alive p.process T ≡ Some p.incarnation) whose counts.up

        o : Origin doc q w reply T x.beat
        o = origin doc rules (suc n) q x T w reply at_n mine fact

        is_key : key_of w.request ≡ election
        is_key = (source doc rules n q role led w reply T x.beat o high).key

        some_beat : 1 ≤ x.beat
        some_beat = omega (arith, y_late, some)

        low : IsTail (with_events doc a) T
        low = tail_trans (with_events doc a) (history doc (suc a)) T (events_position doc a) (beats_low (suc a) (omega arith) (omega (arith, y_late, some)))

        whole : x ≡ entry x.beat 3 q (Delivers w reply true)
        whole = entry_is x 3 q (Delivers w reply true) made.step_is mine fact

        look : w.request ≡ Get election → ⊥
        look get =
            close T low up_t x.beat y_late (omega (arith, upto))
            (λ le. failed_look doc rules near far a e n one ways within q role steady my_time none led lasting top lasts K some given refused no_writes T low (stays T low up_t) w reply T x.beat get (tail_all T)
            (subst (λ z. IsTail (z ∷ T) (history doc (suc x.beat))) whole (in_own_beat doc (suc n) x T at_n)) y_late le
            (ap (λ z. follow_on doc q x.beat w.kind w.request reply (z ∷ T)) (sym whole) ∙ failed))

        -- its call wasn't sent before beat a: it would be late
        since_a : a ≤ o.begun.f.beat
        since_a = ⊎_elim (λ lt. absurd (true_is (sym (overdue w x.beat (omega (arith, lt, sent_at w T high o.begun)) (omega (arith, late)) (omega (arith, upto, room))) ∙ subst (λ p. is_late doc p x.beat w ≡ false) whose counts.timely))) (λ le. le) (cases_lt o.begun.f.beat a)

        -- no write of it was refused
        not_refused : IsWrite w.request → ⊥
        not_refused write =
            ⊎_elim (λ lt. no_old w T high o.begun x.beat (beats_low x.beat some_beat (omega arith)) since_a lt (omega (arith, upto, room)))
            (λ le. no_writes o.begun.f o.begun.before w o.begun.arrives (in_beat (o.begun.f ∷ o.begun.before) f_high) o.begun.actor o.begun.fact o.begun.opens write (omega (arith, le, y_late)) (omega (arith, beat_by o.begun.f o.begun.before f_high, room)))
            (cases_lt (o.begun.f.beat + 2 * far) x.beat)
          where
            f_high : IsTail (o.begun.f ∷ o.begun.before) (history doc (suc G))
            f_high = tail_trans (o.begun.f ∷ o.begun.before) (x ∷ T) (history doc (suc G)) (inr o.begun.position) at

        by_request : (request : Request) → w.request ≡ request → ⊥
        by_request (Get k) is = look (is ∙ ap Get (sym (ap key_of is) ∙ is_key))
        by_request (Create k l) is = not_refused (subst IsWrite (sym is) tt)
        by_request (Update k v l) is = not_refused (subst IsWrite (sym is) tt)
        by_request (PostStatus name status at) is = no_kind (ap (λ (k : Key). k.kind) (sym (ap key_of is) ∙ is_key))

    not_set : (t : ℕ) → None ≡ Some t → ⊥
    not_set t is = none_is t is

    timer_from : (d : Fact) → x.fact ≡ d → MadeAs doc x.beat x.step x.actor d T → (t : ℕ) → timer_says doc q x T d ≡ Some t → local doc q.process G < t → ⊥
    timer_from Starts fact made t says lt =
        omega (arith, lt, when_value (is_by q x.actor) (local doc q.process x.beat) t says, local_up doc q.process x.beat G upto)
    timer_from (Leads version) fact made t says lt = true_is (sym led_now ∙ led (x ∷ T) at_n)
      where
        led_now : leads q (x ∷ T) ≡ true
        led_now =
            ap (λ d. has (upper (lead_says q x.actor d) (newest (λ e T. lead_says q e.actor e.fact) T))) fact
            ∙ ap (λ b. has (upper (when b version) (newest (λ e T. lead_says q e.actor e.fact) T))) (when_test (is_by q x.actor) (local doc q.process x.beat) t says)
    timer_from (Expires c) fact made t says lt =
        expiry c made (and_left (is_by q x.actor) (not (is_fast c.kind)) (when_test (is_by q x.actor && not (is_fast c.kind)) (retry_at (leads q T) doc q x T) t says))
        (recent x.beat (omega (arith, lt, retry_most doc (leads q T) (led T high) q x T, when_value (is_by q x.actor && not (is_fast c.kind)) (retry_at (leads q T) doc q x T) t says)))
    timer_from (Delivers w reply true) fact made t says lt = by_follow (follow_on doc q x.beat w.kind w.request reply (x ∷ T)) refl (leads q T) (led T high) value
      where
        mine : x.actor ≡ actor_of q
        mine = by_is q x.actor (only_test (is_by q x.actor) (timer_follow doc q x T (leads q T) (follow_on doc q x.beat w.kind w.request reply (x ∷ T))) t says)

        value : timer_follow doc q x T (leads q T) (follow_on doc q x.beat w.kind w.request reply (x ∷ T)) ≡ Some t
        value = only_value (is_by q x.actor) (timer_follow doc q x T (leads q T) (follow_on doc q x.beat w.kind w.request reply (x ∷ T))) t says

        by_follow : (f : Follow) → follow_on doc q x.beat w.kind w.request reply (x ∷ T) ≡ f → (b : Bool) → b ≡ false → timer_follow doc q x T b f ≡ Some t → ⊥
        by_follow Fails failed b led_b is = reply_failed w reply made mine fact (recent x.beat (omega (arith, lt, retry_most doc b led_b q x T, some_is (retry_at b doc q x T) t is))) failed
        by_follow (Asks request) failed b led_b is = not_set t is
        by_follow (Succeeds version) failed true led_b is = true_is led_b
        by_follow (Succeeds version) failed false led_b is = not_set t is
    timer_from StepsDown fact made t says lt = absurd made
    timer_from (ReleaseBegins at_deadline) fact made t says lt = absurd made
    timer_from ReleaseEnds fact made t says lt = absurd made
    timer_from ReleaseStops fact made t says lt = absurd made
    timer_from d fact made t says lt = not_set t says

  -- ---- the turn at beat G

  pub none_first : alive q.process (restart doc G q.process (at_turn doc q.process G)) ≡ Some q.incarnation → ⊥
  none_first up = by_turn (turned doc rules G q g role awake up (turn_unset doc q G (led g (in_beat g g_high))))
    where
      g : List Entry
      g = at_turn doc q.process G

      first : q.process < processes doc
      first = controllers_first doc q.process role

      g_high : IsTail g (history doc (suc G))
      g_high = turn_tail doc q.process G (omega (arith, first))

      turn_high : IsTail (turn doc G q.process g) (history doc (suc G))
      turn_high = turn_tail doc (suc q.process) G (omega (arith, first))

      r : List Entry
      r = restart doc G q.process g

      low_r : IsTail (history doc G) r
      low_r = tail_trans (history doc G) g r (before_turn doc q.process G) (restart_adds doc G q.process g)

      low_0 : IsTail (with_events doc a) r
      low_0 =
          tail_trans (with_events doc a) (history doc G) r
          (tail_trans (with_events doc a) (history doc (suc a)) (history doc G) (events_position doc a) (later_tail doc (suc a) G (omega (arith, after, some, some_wait)))) low_r

      awake : is_paused doc q.process G ≡ false
      awake = (steady.passes G (omega (arith, after, some, some_wait)) (omega (arith, room, within))).awake

      by_turn : Turned doc G q r (turn doc G q.process g) → ⊥
      by_turn (inl s) = ⊎_elim before since (cases_lt b.f.beat a)
        where
          r_high : IsTail r (history doc (suc G))
          r_high = tail_trans r (turn doc G q.process g) (history doc (suc G)) s.position turn_high

          b : Begun q s.call r
          b = begun_by q r s.call s.waits

          f_high : IsTail (b.f ∷ b.before) (history doc (suc G))
          f_high = tail_trans (b.f ∷ b.before) r (history doc (suc G)) b.position r_high

          before : b.f.beat < a → ⊥
          before lt = true_is (sym (overdue s.call G (omega (arith, lt, sent_at s.call r (in_beat r r_high) b)) (omega arith) (omega (arith, room))) ∙ s.timely)

          since : a ≤ b.f.beat → ⊥
          since from_a =
              ⊎_elim (λ lt. no_old s.call r (in_beat r r_high) b G low_r from_a lt (omega (arith, room)))
              (λ le. waited s.call r (in_beat r r_high) b low_r from_a (beat_by b.f b.before f_high) le) (cases_lt (b.f.beat + 2 * far) G)
      by_turn (inr (inl s)) =
          asked x s.above call arrives at_x refl refl (asks_in_turn doc rules (suc n) x s.above q call arrives at_x refl refl refl role (led s.above (tail_trans s.above (x ∷ s.above) (history doc (suc n)) (inr (tail_all s.above)) at_x)))
          (tail_trans (with_events doc a) r s.above low_0 s.low)
          (stays r low_0 up s.above s.low (tail_trans s.above (x ∷ s.above) (history doc (suc n)) (inr (tail_all s.above)) at_x))
          (omega (arith, after, some, some_wait)) (omega arith) (λ y reply before least most delivered. omega (arith, least, after, some_wait))
        where
          call : Call
          call = next_call q G s.kind s.request s.above

          arrives : Option ℕ
          arrives = request_arrival doc q.process G s.above

          x : Entry
          x = entry G 4 q (Sends call arrives)

          at_x : IsTail (x ∷ s.above) (history doc (suc n))
          at_x = in_beat (x ∷ s.above) (tail_trans (x ∷ s.above) (turn doc G q.process g) (history doc (suc G)) s.position turn_high)
      by_turn (inr (inr s)) = by_timer (timed_by doc q s.above (omega (arith, ltb-true (local doc q.process G) (timer doc q s.above) s.ahead)))
        where
          by_timer : Timed doc q s.above → ⊥
          by_timer t =
              timer_from t.x t.before (tail_trans (t.x ∷ t.before) s.above (history doc (suc G)) t.position (tail_trans s.above (turn doc G q.process g) (history doc (suc G)) s.position turn_high))
              t.x.fact refl (are_made doc rules (suc G) t.x t.before (tail_trans (t.x ∷ t.before) s.above (history doc (suc G)) t.position (tail_trans s.above (turn doc G q.process g) (history doc (suc G)) s.position turn_high)))
              (timer doc q s.above) t.says (ltb-true (local doc q.process G) (timer doc q s.above) s.ahead)
