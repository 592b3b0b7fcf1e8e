-- A leader renews its lead: from one success to the next it acts, and the next one comes in time.
use Rattle.std.proofs.Common.{◌≡◌, ◌⊎◌, ◌<◌, ◌≤◌, ℕ, zero, suc, ◌+◌, ◌-◌, ◌*◌, ◌&&◌, not, Bool, true, false, cond, List, ◌∷◌, length, Option, Some, refl, sym, ap, ◌∙◌, subst, inl, inr, ⊎_elim, arith}
use Rattle.std.proofs.Math.Nat.{mul-le-mul_right}
use Rattle.std.proofs.lemmas.Bool.{cases_lt, eq-eqb}
use Rattle.kube_base.specs.declared.numbers.Version.{Version}
use Rattle.kube_objects.specs.declared.call.Reply.{Reply}
use Rattle.kube_objects.specs.declared.call.Reply.TheVariants.{Found, Done, Conflict}
use Rattle.kube_objects.specs.declared.call.Request.{Request}
use Rattle.kube_objects.specs.declared.call.Request.TheVariants.{Get, Update}
use Rattle.kube_objects.specs.declared.lease.Lease.{Lease}
use Rattle.kube_objects.specs.Answers.{lease_in, versioned, answer_get, answer_over, as_kind, answer, written}
use Rattle.kube_objects.specs.Clocks.{local}
use Rattle.kube_objects.specs.Document.{Doc, end_beat, is_controller, renew_deadline, retry_period}
use Rattle.kube_objects.specs.Elector.{Moment, Fails, Asks, shown, moment, observed_at, is_valid, updated, renewed, follow_get, follow, follow_on, succeeds, leads, attempt_from, attempt, respected}
use Rattle.kube_objects.specs.Entry.{Entry, Identity, Call, CallKind, Plain, Fast, Fact, Sends, Answers, Delivers, actor_of, entry}
use Rattle.kube_objects.specs.Identities.{is_own, is_other}
use Rattle.kube_objects.specs.Own.{ReleasesByStop}
use Rattle.kube_objects.specs.Process.{open_as}
use Rattle.kube_objects.specs.Stored.{Held, election, stored, next_version}
use Rattle.kube_objects.specs.Turns.{react}
use Rattle.kube_objects.specs.Wire.{Back, back_of, next_call, request_arrival}
use Rattle.kube_objects.specs.declared.rules.RespectRule.{RespectRule}
use Rattle.kube_objects.specs.declared.rules.RespectRule.TheVariants as respects
use Rattle.kube_objects.proofs.Clocks.{local_up}
use Rattle.history.specs.History.{history}
use Rattle.history.specs.Safe.{Acts}
use Rattle.history.specs.Sound.{IsSound}
use Rattle.history_laws.specs.Tails.{IsTail}
use Rattle.history_laws.proofs.Order.{entries_are_earlier}
use Rattle.history_laws.proofs.Plainly.{none_is, false_is, same_self}
use Rattle.history_laws.proofs.Tailed.{tail_all, tail_trans, tails_meet, later_tail, same_head}
use Rattle.span_laws.proofs.Spans.{goes_most, readings_grow}
use Rattle.call_laws.proofs.Above.{in_head, tail_length}
use Rattle.call_laws.proofs.Once.{answers_differ}
use Rattle.takeover_laws.specs.Acting.{AreInTime}
use Rattle.takeover_laws.specs.Calm.{IsSteady, IsCalm, IsInTime}
use Rattle.calm_laws.proofs.Begun.{waits_between}
use Rattle.calm_laws.proofs.Origins.{Origin, origin, sends_differ}
use Rattle.stay_laws.specs.Stays.{HasSuccess, RenewsInTime}
use Rattle.stay_laws.proofs.Won.{Won}
use Rattle.stay_laws.proofs.Rivals.{Own}
use Rattle.stay_laws.proofs.Reacting.{replies_follow}
use Rattle.stay_laws.proofs.Leading.{up_at, acts_at, later}
use Rattle.stay_laws.proofs.Idle.{is_move}
use Rattle.stay_laws.proofs.Trying.{HasTried, has_tried}
use Rattle.stay_laws.proofs.Closing as closing
use Rattle.stay_laws.proofs.Closing.{IsReplied, is_replied}
use Rattle.call_laws.proofs.Sending.{IsFree, is_free}
use Rattle.stay_laws.proofs.Sendings.{IsWay, way, answer_high}
use Rattle.stay_laws.proofs.Given.{IsGiven}
use Rattle.stay_laws.proofs.Succeeded.{IsSet}
use Rattle.stay_laws.proofs.Written as wrote

-- ---- requests and replies

-- a leader that was shown a version of its own asks for the record, or renews it on that version
pub attempt_is : (doc : Doc) (q : Identity) (k : ℕ) (h : List Entry) (version : Version) (lease : Lease) → shown q h ≡ Some (version, lease)
    → ((attempt doc q k h).1 ≡ Get election) ⊎ ((next : Lease) × ((attempt doc q k h).1 ≡ Update election version next))
attempt_is doc q k h version lease is = by_test (doc.settings.fast_renew && leads q h)
  where
    m : Moment
    m = moment doc q k

    Either : CallKind × Request → Type 0
    Either a = (a.1 ≡ Get election) ⊎ ((next : Lease) × (a.1 ≡ Update election version next))

    by_own : (b : Bool) → Either (cond b (Fast, Update election version (renewed q m lease)) (Plain, Get election))
    by_own true = inr (renewed q m lease, refl)
    by_own false = inl refl

    by_test : (b : Bool) → Either (cond b (attempt_from q m (observed_at doc q h) (shown q h)) (Plain, Get election))
    by_test true = subst (λ o. Either (attempt_from q m (observed_at doc q h) o)) (sym is) (by_own (is_own q lease.holder && is_valid m.now (observed_at doc q h) lease))
    by_test false = inl refl

-- an update on the version that is stored is accepted
update_done : (h : List Entry) (x : Held) (version : Version) (lease : Lease) → stored election h ≡ Some x → x.version ≡ version → answer (Update election version lease) h ≡ Done (next_version h)
update_done h x version lease top same =
    ap (λ o. answer_over (next_version h) o (Update election version lease)) top
    ∙ ap (λ b. cond b (Done (next_version h)) (Conflict x.version)) (eq-eqb x.version.0 version.0 (ap (λ (v : Version). v.0) same))

-- a Get finds a stored Lease
pub get_found : (h : List Entry) (x : Held) (lease : Lease) → stored election h ≡ Some x → lease_in x.object ≡ Some lease → answer (Get election) h ≡ Found x.version lease
get_found h x lease top is = ap (λ o. answer_get (as_kind lease_in o)) top ∙ ap (λ l. answer_get (versioned x.version l)) is

-- and one's own is renewed
pub own_asks : (q : Identity) (m : Moment) (seen : ℕ) (version : Version) (lease : Lease) → is_other q lease.holder ≡ false → follow_get q m seen (Found version lease) ≡ Asks (Update election version (updated q m lease))
own_asks q m seen version lease own =
    ap (λ b. cond (b && is_valid m.now seen (respected m.respect m.seconds lease)) Fails (Asks (Update election version (updated q m lease)))) (holder_is m.respect ∙ own)
  where
    holder_is : (rule : RespectRule) → is_other q (respected rule m.seconds lease).holder ≡ is_other q lease.holder
    holder_is respects.Record = refl
    holder_is respects.Own = refl

abbrev call_or : Call → Fact → Call
call_or c (Sends d arrives) = d
call_or c (Answers d reply comes wrote) = d
call_or c _ = c

-- ---- the round of a call

record Round (doc : Doc) (near far e : ℕ) (q : Identity) (x : Entry) (T : List Entry) (call : Call) : Type 0 where
  at : ℕ
  reply : Reply
  before : List Entry
  position : IsTail (entry at 3 q (Delivers call reply true) ∷ before) (history doc (suc at))
  o : Origin doc q call reply before at
  same : o.begun.f ∷ o.begun.before ≡ x ∷ T
  ways : IsWay near far x.beat o.e.beat at
  within : at ≤ e

module _ (doc : Doc) (near far a e : ℕ) (sound : IsSound doc) (rules : ReleasesByStop doc) (calm : IsCalm doc near far a e) (time : AreInTime doc near far a e) (one : 1 ≤ near) (end : e ≤ end_beat doc)
    (q : Identity) (role : is_controller doc q.process ≡ true) (steady : IsSteady doc near far a e q.process) (renews : RenewsInTime doc near far a e q) (y : ℕ) (to : y ≤ e) (s : IsGiven doc near far a q y) where
  my_time : IsInTime doc far a e q.process
  my_time = time q.process role steady

  abbrev o : Origin doc q s.call (Done s.version) s.before y
  o = s.o

  from : a < y
  from = omega (arith, s.least, s.from, one)

  abbrev start : IsSet doc q y s.version (wrote.what doc near far a e sound rules calm time one end q role steady renews y to s).lease (entry y 3 q (Delivers s.call (Done s.version) true) ∷ s.before)
  start = wrote.start doc near far a e sound rules calm time one end q role steady renews y to s

  abbrev low : List Entry
  low = start.low

  abbrev at : ℕ
  at = start.at

  abbrev rd : ℕ
  rd = renew_deadline doc q.process

  now_soon : local doc q.process y < at + rd
  now_soon = omega (arith, start.early, my_time.deadline)

  pub acts_while : (k : ℕ) → y ≤ k → k ≤ e → local doc q.process k < at + rd → Acts doc q k
  acts_while k le upto soon = acts_at doc rules near far a e (suc e) q role steady at y low start.leader from (omega (arith, to)) (omega arith) k le (omega (arith, upto)) soon

  pub acts_now : Acts doc q y
  acts_now = acts_while y (omega arith) to now_soon

  -- ---- when its timer comes

  pub record Due (last : ℕ) : Type 0 where
    pub g : ℕ
    pub from : y ≤ g
    pub upto : g ≤ last
    pub reached : at ≤ local doc q.process g
    pub fresh : (y ≡ g) ⊎ ((prev : ℕ) × (suc prev ≡ g) × (y ≤ prev) × (local doc q.process prev < at))

  abbrev pub Ahead : ℕ → Type 0
  Ahead last = (k : ℕ) → y ≤ k → k ≤ last → local doc q.process k < at

  due_more : (i : ℕ) → Due (y + i) ⊎ Ahead (y + i) → Due (y + suc i) ⊎ Ahead (y + suc i)
  due_more i (inl d) = inl (record { g = d.g; from = d.from; upto = omega (arith, d.upto); reached = d.reached; fresh = d.fresh })
  due_more i (inr none) = ⊎_elim ahead (λ le. inl (record { g = y + suc i; from = omega arith; upto = omega arith; reached = le; fresh = inr (y + i, omega arith, omega arith, none (y + i) (omega arith) (omega arith)) })) (cases_lt (local doc q.process (y + suc i)) at)
    where
      ahead : local doc q.process (y + suc i) < at → Due (y + suc i) ⊎ Ahead (y + suc i)
      ahead lt =
          inr (λ k le upto. ⊎_elim (λ less. none k le (omega (arith, less))) (λ more. let same : k ≡ y + suc i = omega (arith, upto, more) in subst (λ k. local doc q.process k < at) (sym same) lt) (cases_lt k (y + suc i)))

  pub due_or_ahead : (i : ℕ) → Due (y + i) ⊎ Ahead (y + i)
  due_or_ahead zero =
      ⊎_elim (λ lt. inr (λ k le upto. let same : k ≡ y = omega (arith, le, upto) in subst (λ k. local doc q.process k < at) (sym same) lt))
      (λ le. inl (record { g = y; from = omega arith; upto = omega arith; reached = le; fresh = inl refl })) (cases_lt (local doc q.process y) at)
  due_or_ahead (suc i) = due_more i (due_or_ahead i)

  -- by then at the latest
  pub comes_by : (wait_to : y + renews.wait ≤ e) → Ahead (y + renews.wait) → ⊥
  comes_by le none =
      omega (
        arith,
        start.leader.soon,
        none (y + renews.wait) (omega arith) (omega arith),
        readings_grow doc q.process a e renews.slow (retry_period doc q.process) renews.wait renews.runs_least renews.wait_is y (y + renews.wait) (omega (arith, from)) (omega arith) le,
      )

  -- and four ways later its deadline hasn't come
  less_than : (n f : ℕ) → suc n ≤ 4 * far → (4 * far) * f ≤ rd → n * f < rd
  less_than n zero le most = let none : n * zero ≡ 0 = omega arith in omega (arith, none, my_time.deadline)
  less_than n (suc f) le most = omega (arith, most, mul-le-mul_right (suc f) le)

  pub soon : (last : ℕ) (d : Due last) (k : ℕ) → k < d.g + 4 * far → k ≤ e → local doc q.process k < at + rd
  soon last d k lt upto = ⊎_elim (λ before. omega (arith, now_soon, local_up doc q.process k y (omega (arith, before)))) (λ le. by_fresh le d.fresh) (cases_lt k y)
    where
      by_fresh : y ≤ k → (y ≡ d.g) ⊎ ((prev : ℕ) × (suc prev ≡ d.g) × (y ≤ prev) × (local doc q.process prev < at)) → local doc q.process k < at + rd
      by_fresh le (inl is) =
          let few : suc (k - y) ≤ 4 * far = omega (arith, lt, is, le) in
          omega (arith, start.early, goes_most doc q.process a e renews.fast renews.runs_most y k (omega (arith, from)) le upto, less_than (k - y) renews.fast few renews.deadline)
      by_fresh le (inr p) = ⊎_elim early late (cases_lt k p.0)
        where
          early : k < p.0 → local doc q.process k < at + rd
          early less = omega (arith, p.3, local_up doc q.process k p.0 (omega (arith, less)))

          late : p.0 ≤ k → local doc q.process k < at + rd
          late more =
              let few : k - p.0 ≤ 4 * far = omega (arith, lt, p.1, more) in
              omega (arith, p.3, goes_most doc q.process a e renews.fast renews.runs_most p.0 k (omega (arith, from, p.2)) more upto, mul-le-mul_right renews.fast few, renews.deadline)

  -- ---- the next success

  pub record Next (n : ℕ) : Type 0 where
    pub next : ℕ
    pub later : y < next
    pub soon : next ≤ n
    pub success : HasSuccess doc q a next

  module _ (last : ℕ) (d : Due last) (last_by : last ≤ y + renews.wait) (room : d.g + 4 * far ≤ e) where
    abbrev g : ℕ
    g = d.g

    abbrev n : ℕ
    n = g + 4 * far

    abbrev timely : (k : ℕ) → k < n → local doc q.process k < at + rd
    timely k lt = soon last d k lt (omega (arith, lt, room))

    -- a call that it sends after a position, and whose round is over by then
    round_of : (m : ℕ) (x : Entry) (T : List Entry) (call : Call) (arrives : Option ℕ) → IsTail (x ∷ T) (history doc m) → IsTail low T → x.actor ≡ actor_of q → x.fact ≡ Sends call arrives → 3 ≤ x.step
        → open_as call.kind call ≡ Some call → y ≤ x.beat → x.beat + 2 * far ≤ n → Round doc near far e q x T call
    round_of m x T call arrives stands after actor fact step opens le upto = record { at = r.at; reply = r.reply; before = r.before; position = r.position; o = from_answer; same = same; ways = ways_x; within = omega (arith, r.most, room_x) }
      where
        free : IsFree q x T call
        free = is_free doc rules m q role x T call arrives stands actor fact opens

        from_x : a ≤ x.beat
        from_x = omega (arith, le, from)

        room_x : x.beat + 2 * far ≤ e
        room_x = omega (arith, upto, room)

        comes : ℕ
        comes = closing.y doc rules near far a e q role steady my_time one m x T call arrives stands actor fact step free.sent opens from_x room_x

        below : List Entry
        below = closing.before doc rules near far a e q role steady my_time one m x T call arrives stands actor fact step free.sent opens from_x room_x

        comes_least : x.beat < comes
        comes_least = closing.y_least doc rules near far a e q role steady my_time one m x T call arrives stands actor fact step free.sent opens from_x room_x

        comes_most : comes ≤ x.beat + 2 * far
        comes_most = closing.y_most doc rules near far a e q role steady my_time one m x T call arrives stands actor fact step free.sent opens from_x room_x

        r : IsReplied doc q call (x ∷ T) (x.beat + 2 * far)
        r =
            is_replied doc rules near far a e q role steady my_time one m x T call arrives stands actor fact step free.sent opens from_x room_x
            (up_at doc rules near far a e (suc comes) q role steady at y low start.leader from (omega (arith, le, comes_least)) (omega (arith, comes_most, room_x)) comes (λ k lt. timely k (omega (arith, lt, comes_most, upto))) below
            (tail_trans low (x ∷ T) below (inr after) (closing.sent_low doc rules near far a e q role steady my_time one m x T call arrives stands actor fact step free.sent opens from_x room_x))
            (closing.before_high doc rules near far a e q role steady my_time one m x T call arrives stands actor fact step free.sent opens from_x room_x)
            (closing.earlier doc rules near far a e q role steady my_time one m x T call arrives stands actor fact step free.sent opens from_x room_x))

        from_answer : Origin doc q call r.reply r.before r.at
        from_answer = origin doc rules (suc r.at) q (entry r.at 3 q (Delivers call r.reply true)) r.before call r.reply r.position refl refl

        high : IsTail r.before (history doc (suc r.at))
        high = tail_trans r.before (entry r.at 3 q (Delivers call r.reply true) ∷ r.before) (history doc (suc r.at)) (inr (tail_all r.before)) r.position

        same : from_answer.begun.f ∷ from_answer.begun.before ≡ x ∷ T
        same =
            sends_differ doc rules (suc r.at) q from_answer.begun.f x from_answer.begun.before T call call from_answer.begun.arrives arrives
            (tail_trans (from_answer.begun.f ∷ from_answer.begun.before) r.before (history doc (suc r.at)) from_answer.begun.position high) (tail_trans (x ∷ T) r.before (history doc (suc r.at)) r.since high)
            from_answer.begun.actor actor from_answer.begun.fact fact refl

        beat : from_answer.begun.f.beat ≡ x.beat
        beat = ap (λ (z : Entry). z.beat) (same_head from_answer.begun.f x from_answer.begun.before T same)

        ways_x : IsWay near far x.beat from_answer.e.beat r.at
        ways_x =
            subst (λ k. IsWay near far k from_answer.e.beat r.at) beat
            (way doc rules near far a e q role steady call r.reply r.before r.at r.position from_answer (omega (arith, r.most, room_x)) (omega (arith, beat, from_x)))

    -- an answer to a call stands once
    no_answer_below : (x1 : Entry) (T1 : List Entry) (call : Call) (r : Round doc near far e q x1 T1 call) (x : Entry) (T : List Entry) → IsTail (x ∷ T) r.o.low → (w : Won doc x T) → w.who ≡ q → w.call ≡ call → ⊥
    no_answer_below x1 T1 call r x T stands w mine same = omega (arith, tail_length (x ∷ T) r.o.low stands, ap length once)
      where
        high : IsTail (r.o.e ∷ r.o.low) (history doc (suc r.at))
        high = answer_high doc rules near far a e q role steady call r.reply r.before r.at r.position r.o r.within

        back : Back
        back = record { who = w.who; call = w.call; reply = w.reply; comes = w.comes }

        once : x ∷ T ≡ r.o.e ∷ r.o.low
        once =
            answers_differ doc rules (suc r.at) x r.o.e T r.o.low back (record { who = q; call = call; reply = r.reply; comes = Some r.at })
            (tail_trans (x ∷ T) (r.o.e ∷ r.o.low) (history doc (suc r.at)) (inr stands) high) high
            (ap (λ d. back_of x.actor d) w.fact ∙ ap (λ who. back_of who (Answers w.call w.reply w.comes w.wrote)) w.actor)
            (ap (λ d. back_of r.o.e.actor d) r.o.fact ∙ ap (λ who. back_of who (Answers call r.reply (Some r.at) (written call.request r.o.low))) r.o.actor)
            mine (ap (λ (c : Call). c.number) same)

    -- ---- its attempt

    abbrev lease : Lease
    lease = (wrote.what doc near far a e sound rules calm time one end q role steady renews y to s).lease

    abbrev shown_low : List Entry
    shown_low = entry y 3 q (Delivers s.call (Done s.version) true) ∷ s.before

    some_way : 1 ≤ far
    some_way = omega (arith, s.least, s.most, one)

    tried : HasTried doc q low at (Some (s.version, lease)) (history doc (suc g))
    tried = has_tried doc rules near far a e q role steady at y low start.leader from (Some (s.version, lease)) start.idle start.nothing g d.from (omega (arith, room)) d.reached (timely g (omega (arith, some_way)))

    x1_from : y ≤ tried.x.beat
    x1_from = later doc rules near far a e (suc g) q role steady at y low start.leader from (omega (arith, d.from)) (omega (arith, room)) tried.x tried.before tried.since tried.position

    x1_upto : tried.x.beat ≤ g
    x1_upto = ⊎_elim (λ lt. omega (arith, lt)) (λ first. omega (arith, first.0)) (entries_are_earlier doc (suc g) tried.x (in_head tried.x tried.before (history doc (suc g)) tried.position))

    r1 : Round doc near far e q tried.x tried.before tried.call
    r1 = round_of (suc g) tried.x tried.before tried.call tried.arrives tried.position tried.since tried.actor tried.fact tried.step tried.opens x1_from (omega (arith, x1_upto))

    -- ---- what is stored until it writes

    within_n : y ≤ n
    within_n = omega (arith, d.from)

    window : n ≤ o.e.beat + renews.wait + 5 * far
    window = omega (arith, d.upto, last_by, s.most)

    abbrev own : Own doc q o.e.beat (o.e ∷ o.low)
    own = wrote.first_own doc near far a e sound rules calm time one end q role steady renews y to s acts_now n within_n room window

    abbrev Since : Call → List Entry → Type 0
    Since call h = wrote.IsSentSince q shown_low call h

    moves : (call : Call) (h : List Entry) (f : Since call h) → is_move f.f.fact ≡ true
    moves call h f = ap is_move f.fact

    write_below : IsTail (o.e ∷ o.low) low
    write_below = tail_trans (o.e ∷ o.low) shown_low low (inr o.answered) start.below

    -- the attempt is the only request up to its reply
    only_one : (call : Call) (h : List Entry) → IsTail h r1.before → (f : Since call h) → f.f ∷ f.before ≡ tried.x ∷ tried.before
    only_one call h high f = by_place (tails_meet (f.f ∷ f.before) (tried.x ∷ tried.before) r1.before (tail_trans (f.f ∷ f.before) h r1.before f.position high) sent_high)
      where
        sent_high : IsTail (tried.x ∷ tried.before) r1.before
        sent_high = subst (λ g. IsTail g r1.before) r1.same r1.o.begun.position

        by_low : IsTail (f.f ∷ f.before) low ⊎ IsTail low (f.f ∷ f.before) → IsTail (f.f ∷ f.before) tried.before → f.f ∷ f.before ≡ tried.x ∷ tried.before
        by_low (inl below) stands = absurd (start.none_between f.f f.before below f.since (moves call h f))
        by_low (inr (inl is)) stands = absurd (start.none_between f.f f.before (subst (IsTail (f.f ∷ f.before)) (sym is) (tail_all (f.f ∷ f.before))) f.since (moves call h f))
        by_low (inr (inr above)) stands = absurd (tried.idle.unmoved f.f f.before stands above f.actor (moves call h f))

        by_place : IsTail (f.f ∷ f.before) (tried.x ∷ tried.before) ⊎ IsTail (tried.x ∷ tried.before) (f.f ∷ f.before) → f.f ∷ f.before ≡ tried.x ∷ tried.before
        by_place (inl (inl is)) = is
        by_place (inl (inr below)) = by_low (tails_meet (f.f ∷ f.before) low tried.before below tried.since) below
        by_place (inr (inl is)) = sym is
        by_place (inr (inr above)) =
            absurd (none_is tried.call (sym f.idle ∙ waits_between q tried.call r1.before r1.o.begun f.before (subst (λ g. IsTail g f.before) (sym r1.same) above)
            (tail_trans f.before h r1.before (tail_trans f.before (f.f ∷ f.before) h (inr (tail_all f.before)) f.position) high)))

    call_same : (call c : Call) (h : List Entry) (f : Since call h) (x : Entry) (T : List Entry) (arrives : Option ℕ) → x.fact ≡ Sends c arrives → f.f ∷ f.before ≡ x ∷ T → call ≡ c
    call_same call c h f x T arrives fact same = sym (ap (call_or call) f.fact) ∙ ap (λ (z : Entry). call_or call z.fact) (same_head f.f x f.before T same) ∙ ap (call_or call) fact

    high1 : IsTail (r1.o.e ∷ r1.o.low) r1.before
    high1 = r1.o.answered

    low1_high : IsTail r1.o.low r1.before
    low1_high = tail_trans r1.o.low (r1.o.e ∷ r1.o.low) r1.before (inr (tail_all r1.o.low)) high1

    stored1 : stored election r1.o.low ≡ Some own.y
    stored1 =
        wrote.stays_stored doc near far a e sound rules calm time one end q role steady renews y to s acts_now n within_n room window r1.o.low first_low last_high
        (λ x T stands below w mine f. no_answer_below tried.x tried.before tried.call r1 x T stands w mine
        (call_same w.call tried.call T f tried.x tried.before tried.arrives tried.fact (only_one w.call T (tail_trans T r1.o.low r1.before (tail_trans T (x ∷ T) r1.o.low (inr (tail_all T)) stands) low1_high) f)))
      where
        first_low : IsTail (o.e ∷ o.low) r1.o.low
        first_low =
            tail_trans (o.e ∷ o.low) (r1.o.begun.f ∷ r1.o.begun.before) r1.o.low
            (subst (IsTail (o.e ∷ o.low)) (sym r1.same) (inr (tail_trans (o.e ∷ o.low) low tried.before write_below tried.since))) r1.o.sent_low

        last_high : IsTail r1.o.low (history doc (suc n))
        last_high =
            tail_trans r1.o.low r1.before (history doc (suc n)) low1_high
            (tail_trans r1.before (history doc (suc r1.at)) (history doc (suc n)) (tail_trans r1.before (entry r1.at 3 q (Delivers tried.call r1.reply true) ∷ r1.before) (history doc (suc r1.at)) (inr (tail_all r1.before)) r1.position)
            (later_tail doc (suc r1.at) (suc n) (omega (arith, x1_upto, r1.ways.sent_most, r1.ways.comes_most))))

    given : own.y.version ≡ s.version
    given = wrote.given doc near far a e sound rules calm time one end q role steady renews y to s acts_now n within_n room window

    -- a round that ends in a version is a success
    success_of : (x : Entry) (T : List Entry) (call : Call) (r : Round doc near far e q x T call) (version : Version) → r.reply ≡ Done version → a ≤ call.sent → succeeds call.request (Done version) ≡ true → HasSuccess doc q a r.at
    success_of x T call r version done since so = record {
      call = call;
      version = version;
      before = r.before;
      position = subst (λ reply. IsTail (entry r.at 3 q (Delivers call reply true) ∷ r.before) (history doc (suc r.at))) done r.position;
      since = since;
      success = so;
    }

    sent1 : tried.call.sent ≡ tried.x.beat
    sent1 = (is_free doc rules (suc g) q role tried.x tried.before tried.call tried.arrives tried.position tried.actor tried.fact tried.opens).sent

    -- ---- it renews at once

    at_once : (next : Lease) → tried.call.request ≡ Update election s.version next → Next n
    at_once next request = record {
      next = r1.at;
      later = omega (arith, x1_from, r1.ways.sent_least, r1.ways.comes_least, one);
      soon = omega (arith, x1_upto, r1.ways.sent_most, r1.ways.comes_most);
      success =
          success_of tried.x tried.before tried.call r1 (next_version r1.o.low) (r1.o.reply_is ∙ ap (λ r. answer r r1.o.low) request ∙ update_done r1.o.low own.y s.version next stored1 given)
          (omega (arith, sent1, x1_from, from)) (ap (λ r. succeeds r (Done (next_version r1.o.low))) request);
    }

    -- ---- or after a Get

    module _ (request : tried.call.request ≡ Get election) where
      abbrev heard : Entry
      heard = entry r1.at 3 q (Delivers tried.call r1.reply true)

      abbrev T2 : List Entry
      T2 = heard ∷ r1.before

      found : r1.reply ≡ Found own.y.version own.lease
      found = r1.o.reply_is ∙ ap (λ r. answer r r1.o.low) request ∙ get_found r1.o.low own.y own.lease stored1 (ap lease_in own.object)

      abbrev m : Moment
      m = moment doc q r1.at

      abbrev asked : Request
      asked = Update election own.y.version (updated q m own.lease)

      asks : follow_on doc q r1.at tried.call.kind tried.call.request r1.reply T2 ≡ Asks asked
      asks =
          ap (λ r. follow q m (observed_at doc q T2) tried.call.kind r r1.reply) request ∙ ap (λ reply. follow q m (observed_at doc q T2) tried.call.kind (Get election) reply) found
          ∙ own_asks q m (observed_at doc q T2) own.y.version own.lease (ap (is_other q) own.holder ∙ ap not (same_self q))

      abbrev call2 : Call
      call2 = next_call q r1.at Plain asked T2

      abbrev x2 : Entry
      x2 = entry r1.at 3 q (Sends call2 (request_arrival doc q.process r1.at T2))

      position2 : IsTail (x2 ∷ T2) (history doc (suc r1.at))
      position2 =
          subst (λ f. IsTail (react doc r1.at q (leads q T2) f T2) (history doc (suc r1.at))) asks (replies_follow doc rules (suc r1.at) q heard r1.before tried.call r1.reply r1.position refl refl role refl)

      at1_from : y < r1.at
      at1_from = omega (arith, x1_from, r1.ways.sent_least, r1.ways.comes_least, one)

      at1_upto : r1.at ≤ g + 2 * far
      at1_upto = omega (arith, x1_upto, r1.ways.sent_most, r1.ways.comes_most)

      x1_high : IsTail (tried.x ∷ tried.before) r1.before
      x1_high = subst (λ g. IsTail g r1.before) r1.same r1.o.begun.position

      low2 : IsTail low T2
      low2 = inr (tail_trans low (tried.x ∷ tried.before) r1.before (inr tried.since) x1_high)

      r2 : Round doc near far e q x2 T2 call2
      r2 = round_of (suc r1.at) x2 T2 call2 (request_arrival doc q.process r1.at T2) position2 low2 refl refl (omega arith) refl (omega (arith, at1_from)) (omega (arith, at1_upto))

      none2 : (x : Entry) (T : List Entry) → IsTail (x ∷ T) r2.o.low → (w : Won doc x T) → w.who ≡ q → Since w.call T → ⊥
      none2 x T stands w mine f = by_place (tails_meet (f.f ∷ f.before) (x2 ∷ T2) r2.before in_r2 sent_high)
        where
          T_high : IsTail T r2.before
          T_high =
              tail_trans T (x ∷ T) r2.before (inr (tail_all T)) (tail_trans (x ∷ T) r2.o.low r2.before stands (tail_trans r2.o.low (r2.o.e ∷ r2.o.low) r2.before (inr (tail_all r2.o.low)) r2.o.answered))

          in_r2 : IsTail (f.f ∷ f.before) r2.before
          in_r2 = tail_trans (f.f ∷ f.before) T r2.before f.position T_high

          sent_high : IsTail (x2 ∷ T2) r2.before
          sent_high = subst (λ g. IsTail g r2.before) r2.same r2.o.begun.position

          same2 : f.f ∷ f.before ≡ x2 ∷ T2 → ⊥
          same2 is = no_answer_below x2 T2 call2 r2 x T stands w mine (call_same w.call call2 T f x2 T2 (request_arrival doc q.process r1.at T2) refl is)

          no_reply : f.f ∷ f.before ≡ T2 → ⊥
          no_reply is = false_is (sym (ap is_send (ap (λ (z : Entry). z.fact) (same_head f.f heard f.before r1.before is))) ∙ ap is_send f.fact)
            where
              is_send : Fact → Bool
              is_send (Sends c arrives) = true
              is_send _ = false

          -- the Get writes nothing
          first : IsTail (f.f ∷ f.before) r1.before → ⊥
          first below = no_write (call_same w.call tried.call T f tried.x tried.before tried.arrives tried.fact
              (only_one w.call r1.before (tail_all r1.before) (record { f = f.f; before = f.before; arrives = f.arrives; position = below; since = f.since; actor = f.actor; fact = f.fact; idle = f.idle })))
            where
              no_write : w.call ≡ tried.call → ⊥
              no_write is = false_is (sym (ap (λ (c : Call). succeeds c.request w.reply) is ∙ ap (λ r. succeeds r w.reply) request) ∙ w.so)

          by_place : IsTail (f.f ∷ f.before) (x2 ∷ T2) ⊎ IsTail (x2 ∷ T2) (f.f ∷ f.before) → ⊥
          by_place (inl (inl is)) = same2 is
          by_place (inl (inr (inl is))) = no_reply is
          by_place (inl (inr (inr below))) = first below
          by_place (inr (inl is)) = same2 (sym is)
          by_place (inr (inr above)) =
              none_is call2 (sym f.idle ∙ waits_between q call2 r2.before r2.o.begun f.before (subst (λ g. IsTail g f.before) (sym r2.same) above)
              (tail_trans f.before T r2.before (tail_trans f.before (f.f ∷ f.before) T (inr (tail_all f.before)) f.position) T_high))

      stored2 : stored election r2.o.low ≡ Some own.y
      stored2 =
          wrote.stays_stored doc near far a e sound rules calm time one end q role steady renews y to s acts_now n within_n room window r2.o.low first_low last_high
          (λ x T stands below w mine f. none2 x T stands w mine f)
        where
          first_low : IsTail (o.e ∷ o.low) r2.o.low
          first_low =
              tail_trans (o.e ∷ o.low) (r2.o.begun.f ∷ r2.o.begun.before) r2.o.low
              (subst (IsTail (o.e ∷ o.low)) (sym r2.same) (inr (tail_trans (o.e ∷ o.low) low T2 write_below low2))) r2.o.sent_low

          last_high : IsTail r2.o.low (history doc (suc n))
          last_high =
              tail_trans r2.o.low r2.before (history doc (suc n)) (tail_trans r2.o.low (r2.o.e ∷ r2.o.low) r2.before (inr (tail_all r2.o.low)) r2.o.answered)
              (tail_trans r2.before (history doc (suc r2.at)) (history doc (suc n)) (tail_trans r2.before (entry r2.at 3 q (Delivers call2 r2.reply true) ∷ r2.before) (history doc (suc r2.at)) (inr (tail_all r2.before)) r2.position)
              (later_tail doc (suc r2.at) (suc n) (omega (arith, at1_upto, r2.ways.sent_most, r2.ways.comes_most))))

      after_get : Next n
      after_get = record {
        next = r2.at;
        later = omega (arith, at1_from, r2.ways.sent_least, r2.ways.comes_least);
        soon = omega (arith, at1_upto, r2.ways.sent_most, r2.ways.comes_most);
        success =
            success_of x2 T2 call2 r2 (next_version r2.o.low) (r2.o.reply_is ∙ update_done r2.o.low own.y own.y.version (updated q m own.lease) stored2 refl)
            (omega (arith, at1_from, from)) refl;
      }

    pub next_success : Next n
    next_success = by_request (attempt_is doc q tried.x.beat tried.before s.version lease tried.idle.shown_is)
      where
        by_request : ((attempt doc q tried.x.beat tried.before).1 ≡ Get election) ⊎ ((next : Lease) × ((attempt doc q tried.x.beat tried.before).1 ≡ Update election s.version next)) → Next n
        by_request (inl is) = after_get (tried.request ∙ is)
        by_request (inr (next, is)) = at_once next (tried.request ∙ is)
