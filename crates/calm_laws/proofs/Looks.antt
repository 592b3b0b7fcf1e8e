-- The looks of a candidate at a record that it is shown from a beat on: each fails, and the next one comes in time.
use Rattle.std.proofs.Common.{◌&&◌, ◌≡◌, ◌⊎◌, ◌<◌, ◌≤◌, ℕ, zero, suc, ◌+◌, ◌-◌, ◌*◌, nat_lt, Bool, true, false, cond, List, [], ◌∷◌, Option, Some, None, refl, sym, ap, ◌∙◌, subst, inl, inr, ⊎_elim, arith}
use Rattle.std.proofs.lemmas.Bool.{ltb-true, cases_lt, eq-eqb}
use Rattle.kube_base.specs.declared.numbers.Version.{Version}
use Rattle.kube_objects.proofs.Clocks.{local_up}
use Rattle.kube_objects.specs.Answers.{lease_in, versioned, as_kind, answer_get, answer}
use Rattle.kube_objects.specs.Clocks.{local}
use Rattle.kube_objects.specs.Document.{Doc, is_controller}
use Rattle.kube_objects.specs.Elector.{Moment, moment, Follow, Fails, Asks, Succeeds, is_blocked, updated, created, follow_get, follow, follow_on, leads, Shown, told, shows, shown, is_known, newly, found_shows, observed, observed_at, done_shows, respected}
use Rattle.kube_objects.specs.Entry.{Entry, Identity, Call, Plain, Sends, Delivers, actor_of, entry, Fact}
use Rattle.kube_objects.specs.Identities.{is_other, is_by}
use Rattle.kube_objects.specs.Newest.{only_if, or_zero}
use Rattle.kube_objects.specs.Process.{alive, open_as}
use Rattle.kube_objects.specs.Stored.{Held, election, key_of}
use Rattle.kube_objects.specs.Turns.{react}
use Rattle.kube_objects.specs.Wire.{next_call, request_arrival}
use Rattle.kube_objects.specs.declared.call.Reply.{Reply}
use Rattle.kube_objects.specs.declared.call.Reply.TheVariants.{Found, Done, Absent}
use Rattle.kube_objects.specs.declared.call.Request.{Request}
use Rattle.kube_objects.specs.declared.call.Request.TheVariants.{Get, Create, Update, PostStatus}
use Rattle.kube_objects.specs.declared.lease.Lease.{Lease}
use Rattle.kube_objects.specs.declared.object.Object.{Object}
use Rattle.kube_objects.specs.declared.lease.Holder.TheVariants as holder
use Rattle.kube_objects.specs.declared.object.Object.TheVariants as object
use Rattle.kube_objects.specs.Own.{ReleasesByStop}
use Rattle.history.specs.History.{history}
use Rattle.history.specs.Safe.{Acts}
use Rattle.history_laws.proofs.Counting.{only_test, only_value}
use Rattle.history_laws.proofs.Order.{entries_are_earlier}
use Rattle.history_laws.proofs.Plainly.{upper, true_is, and_left, and_right, same_self, some_is, none_is}
use Rattle.history_laws.proofs.Tailed.{tail_all, tail_trans, in_tail, later_tail, two_adds}
use Rattle.history_laws.specs.Tails.{In, IsTail}
use Rattle.span_laws.proofs.Looks.{look_comes}
use Rattle.span_laws.proofs.Spans.{readings_grow, readings_last}
use Rattle.span_laws.specs.Looks.{IsAtMost, IsGreatest}
use Rattle.span_laws.specs.Spans.{RunsAtLeast, RunsAtMost, IsEnough, IsNeeded}
use Rattle.call_laws.proofs.Above.{next_above, in_head}
use Rattle.call_laws.proofs.Answering.{before_events}
use Rattle.call_laws.proofs.Placing.{from_beat, in_own_beat, not_before}
use Rattle.call_laws.specs.Answering.{with_events, with_answers}
use Rattle.takeover_laws.proofs.Asking.{candidates_ask}
use Rattle.takeover_laws.proofs.Writers.{follow_adds, IsReacted, replies_react}
use Rattle.takeover_laws.specs.Asking.{HasAsked}
use Rattle.takeover_laws.specs.Calm.{IsSteady, IsInTime}
use Rattle.lease_laws.specs.Respects.{respected_time}
use Rattle.takeover_laws.specs.Waits.{longest_wait, shortest_wait}
use Rattle.takeover_laws.proofs.Waits.{shortest_least, blocked_is}
use Rattle.calm_laws.proofs.Asked.{IsWrite, asks_same, fails_not}
use Rattle.calm_laws.proofs.Begun.{by_is}
use Rattle.calm_laws.proofs.Origins.{Origin, origin}
use Rattle.calm_laws.proofs.Replies.{HasLease}
use Rattle.calm_laws.proofs.Sources.{source}
use Rattle.calm_laws.specs.Bounds.{LastsFor}

-- ---- what follows a Get

asks_fails : (r : Request) → Asks r ≡ Fails → ⊥
asks_fails r is = cc

asks_succeeds : (r : Request) (version : Version) → Asks r ≡ Succeeds version → ⊥
asks_succeeds r version is = cc

fails_succeeds : (version : Version) → Fails ≡ Succeeds version → ⊥
fails_succeeds version is = cc

pub get_writes : (q : Identity) (m : Moment) (seen : ℕ) (reply : Reply) (r : Request) → follow_get q m seen reply ≡ Asks r → IsWrite r
get_writes q m seen Absent r is = subst IsWrite (asks_same (Create election (created q m)) r is) tt
get_writes q m seen (Found version lease) r is = by_test (is_blocked q m.now seen (respected m.respect m.seconds lease)) is
  where
    by_test : (b : Bool) → cond b Fails (Asks (Update election version (updated q m lease))) ≡ Asks r → IsWrite r
    by_test true is = absurd (fails_not r is)
    by_test false is = subst IsWrite (asks_same (Update election version (updated q m lease)) r is) tt
get_writes q m seen reply r is = absurd (fails_not r is)

pub get_no_success : (q : Identity) (m : Moment) (seen : ℕ) (reply : Reply) (v : Version) → follow_get q m seen reply ≡ Succeeds v → ⊥
get_no_success q m seen Absent v is = asks_succeeds (Create election (created q m)) v is
get_no_success q m seen (Found version lease) v is = by_test (is_blocked q m.now seen (respected m.respect m.seconds lease)) is
  where
    by_test : (b : Bool) → cond b Fails (Asks (Update election version (updated q m lease))) ≡ Succeeds v → ⊥
    by_test true is = fails_succeeds v is
    by_test false is = asks_succeeds (Update election version (updated q m lease)) v is
get_no_success q m seen reply v is = fails_succeeds v is

-- ---- what is stored, as it blocks

abbrev pub object_of : Option Held → Option Object
object_of None = None
object_of (Some x) = Some x.object

pub has_lease : (doc : Doc) (p time : ℕ) (o : Option Held) → LastsFor doc p time (object_of o) → HasLease o
has_lease doc p time None lasts = tt
has_lease doc p time (Some x) lasts = by_object x.object lasts
  where
    by_object : (y : Object) → LastsFor doc p time (Some y) → (lease : Lease) × (lease_in y ≡ Some lease)
    by_object (object.Lease lease) lasts = (lease, refl)
    by_object (object.Node node) lasts = absurd lasts
    by_object (object.Pod pod) lasts = absurd lasts

pub record Blocked (q : Identity) (m : Moment) (seen : ℕ) (reply : Reply) (time : ℕ) : Type 0 where
  pub version : Version
  pub lease : Lease
  pub found : reply ≡ Found version lease
  pub before : m.now < seen + time

pub blocked_by : (doc : Doc) (q : Identity) (k seen time : ℕ) (o : Option Held) → LastsFor doc q.process time (object_of o) → follow_get q (moment doc q k) seen (answer_get (as_kind lease_in o)) ≡ Fails
    → Blocked q (moment doc q k) seen (answer_get (as_kind lease_in o)) time
blocked_by doc q k seen time None lasts is = absurd (asks_fails (Create election (created q (moment doc q k))) is)
blocked_by doc q k seen time (Some x) lasts is = by_object x.object lasts is
  where
    m : Moment
    m = moment doc q k

    by_object : (y : Object) → LastsFor doc q.process time (Some y) → follow_get q (moment doc q k) seen (answer_get (versioned x.version (lease_in y))) ≡ Fails → Blocked q (moment doc q k) seen (answer_get (versioned x.version (lease_in y))) time
    by_object (object.Node node) lasts is = absurd lasts
    by_object (object.Pod pod) lasts is = absurd lasts
    by_object (object.Lease lease) lasts is = by_test (is_blocked q m.now seen (respected m.respect m.seconds lease)) refl is
      where
        valid : Bool
        valid = nat_lt m.now (seen + respected_time doc q.process lease)

        bounded : (is_other q lease.holder && valid) ≡ true → (lease.holder ≡ holder.Nobody) ⊎ (respected_time doc q.process lease ≤ time) → m.now < seen + time
        bounded blocks (inl nobody) = absurd (true_is (sym (and_left (is_other q lease.holder) valid blocks) ∙ ap (is_other q) nobody))
        bounded blocks (inr le) =
            let lt : m.now < seen + respected_time doc q.process lease = ltb-true m.now (seen + respected_time doc q.process lease) (and_right (is_other q lease.holder) valid blocks) in
            omega (arith, lt, le)

        by_test : (b : Bool) → is_blocked q m.now seen (respected m.respect m.seconds lease) ≡ b → cond b Fails (Asks (Update election x.version (updated q m lease))) ≡ Fails → Blocked q m seen (Found x.version lease) time
        by_test true blocks is = record { version = x.version; lease = lease; found = refl; before = bounded (sym (blocked_is doc q.process q m.now seen lease) ∙ blocks) lasts }
        by_test false blocks is = absurd (asks_fails (Update election x.version (updated q m lease)) is)

-- what was seen was seen by the last of these entries
pub seen_upto : (q : Identity) (o : ℕ) (h : List Entry) → ((x : Entry) → In x h → x.beat ≤ o) → or_zero (observed q h) ≤ o
seen_upto q o [] all = omega arith
seen_upto q o (x ∷ h) all = by_shows (shows q x.actor x.fact) (seen_upto q o h (λ x at. all x (inr at)))
  where
    by_known : (b : Bool) → or_zero (observed q h) ≤ o → or_zero (upper (cond b None (Some x.beat)) (observed q h)) ≤ o
    by_known true below = below
    by_known false below = all x (inl refl)

    by_shows : (p : Option Shown) → or_zero (observed q h) ≤ o → or_zero (upper (newly p (shown q h) x.beat) (observed q h)) ≤ o
    by_shows None below = below
    by_shows (Some s) below = by_known (is_known s.0 (shown q h)) below

-- ---- looks

-- what takes time takes a beat
pub some_beats : (slow time k : ℕ) → 1 ≤ time → IsEnough slow time k → 1 ≤ k
some_beats slow time zero some enough = absurd (omega (arith, enough, some))
some_beats slow time (suc k) some enough = omega arith

module _ (doc : Doc) (rules : ReleasesByStop doc) (near far a e n : ℕ) (one : 1 ≤ near) (ways : near ≤ far) (within : n ≤ e) (q : Identity) (role : is_controller doc q.process ≡ true)
    (steady : IsSteady doc near far a e q.process) (my_time : IsInTime doc far a e q.process) (none : (k : ℕ) → a ≤ k → k ≤ n → Acts doc q k → ⊥) (led : (h : List Entry) → IsTail h (history doc (suc n)) → leads q h ≡ false)
    (lasting : ℕ) (top : Option Held) (lasts : LastsFor doc q.process lasting (object_of top)) (K : ℕ) (some : a < K)
    (given : (w : Call) (reply : Reply) (T : List Entry) (y : ℕ) → (o : Origin doc q w reply T y) → IsTail T (history doc (suc n)) → w.request ≡ Get election → K ≤ y → y + far ≤ n → o.e.beat + far ≤ n → reply ≡ answer_get (as_kind lease_in top))
    (refused : (w : Call) (reply : Reply) (T : List Entry) (y : ℕ) → (o : Origin doc q w reply T y) → IsTail T (history doc (suc n)) → IsWrite w.request → K ≤ y → y + far ≤ n → o.e.beat + far ≤ n → (version : Version) → reply ≡ Done version → ⊥)
    (no_writes : (x : Entry) (T : List Entry) (call : Call) (arrives : Option ℕ) → IsTail (x ∷ T) (history doc (suc n)) → x.actor ≡ actor_of q → x.fact ≡ Sends call arrives → open_as call.kind call ≡ Some call → IsWrite call.request → K ≤ x.beat + 2 * far → x.beat + 2 * far ≤ n → ⊥) where
  abbrev pub there_is : Reply
  there_is = answer_get (as_kind lease_in top)

  -- ---- what it was shown stays

  module _ (version : Version) (record_is : Lease) (found : there_is ≡ Found version record_is) (o r : ℕ) (late : K ≤ o) (to : r + far ≤ n) (ord : o ≤ suc r) where
    abbrev pub Seen : List Entry → Type 0
    Seen h = (shown q h ≡ Some (version, record_is)) × (or_zero (observed q h) ≤ o)

    -- what is shown is that
    same_shown : (z : Entry) (Z : List Entry) (s : Shown) → IsTail (z ∷ Z) (history doc (suc r)) → o ≤ z.beat → shows q z.actor z.fact ≡ Some s → s ≡ (version, record_is)
    same_shown z Z s at from is = cases z.fact refl is
      where
        at_n : IsTail (z ∷ Z) (history doc (suc n))
        at_n = tail_trans (z ∷ Z) (history doc (suc r)) (history doc (suc n)) at (later_tail doc (suc r) (suc n) (omega (arith, to)))

        high : IsTail Z (history doc (suc n))
        high = tail_trans Z (z ∷ Z) (history doc (suc n)) (inr (tail_all Z)) at_n

        upto : z.beat ≤ r
        upto = ⊎_elim (λ lt. omega (arith, lt)) (λ first. omega (arith, first.0)) (entries_are_earlier doc (suc r) z (in_head z Z (history doc (suc r)) at))

        counts : (w : Call) (reply : Reply) → z.actor ≡ actor_of q → z.fact ≡ Delivers w reply true → told w.request reply ≡ Some s → s ≡ (version, record_is)
        counts w reply actor fact told_is = by_request w.request refl told_is
          where
            from_it : Origin doc q w reply Z z.beat
            from_it = origin doc rules (suc n) q z Z w reply at_n actor fact

            soon : from_it.e.beat + far ≤ n
            soon =
                let le : from_it.e.beat ≤ r =
                ⊎_elim (λ lt. omega (arith, lt)) (λ first. omega (arith, first.0))
                (entries_are_earlier doc (suc r) from_it.e (in_head from_it.e from_it.low (history doc (suc r)) (tail_trans (from_it.e ∷ from_it.low) Z (history doc (suc r)) from_it.answered (tail_trans Z (z ∷ Z) (history doc (suc r)) (inr (tail_all Z)) at)))) in
                omega (arith, le, to)

            done : (l : Lease) (b : Reply) → reply ≡ b → IsWrite w.request → done_shows l b ≡ Some s → s ≡ (version, record_is)
            done l (Done v) is write shows_it = absurd (refused w reply Z z.beat from_it high write (omega (arith, late, from)) (omega (arith, upto, to)) soon v is)
            done l reply is write shows_it = absurd (none_is s shows_it)

            by_request : (request : Request) → w.request ≡ request → told request reply ≡ Some s → s ≡ (version, record_is)
            by_request (Get k) is shows_it =
                let get : w.request ≡ Get election = is ∙ ap Get (sym (ap key_of is) ∙ (source doc rules n q role led w reply Z z.beat from_it high).key) in
                some_is s (version, record_is) (sym shows_it ∙ ap found_shows (given w reply Z z.beat from_it high get (omega (arith, late, from)) (omega (arith, upto, to)) soon ∙ found))
            by_request (Create k l) is shows_it = done l reply refl (subst IsWrite (sym is) tt) shows_it
            by_request (Update k v l) is shows_it = done l reply refl (subst IsWrite (sym is) tt) shows_it
            by_request (PostStatus name status at) is shows_it = absurd (none_is s shows_it)

        cases : (d : Fact) → z.fact ≡ d → shows q z.actor d ≡ Some s → s ≡ (version, record_is)
        cases (Delivers w reply true) fact is =
            counts w reply (by_is q z.actor (only_test (is_by q z.actor) (told w.request reply) s is)) fact (only_value (is_by q z.actor) (told w.request reply) s is)
        cases d fact is = absurd (none_is s is)

    one_more : (z : Entry) (Z : List Entry) → IsTail (z ∷ Z) (history doc (suc r)) → o ≤ z.beat → Seen Z → Seen (z ∷ Z)
    one_more z Z at from s = by_shows (shows q z.actor z.fact) refl
      where
        known : (x : Shown) → x ≡ (version, record_is) → newly (Some x) (shown q Z) z.beat ≡ None
        known x is =
            ap (λ (x : Shown). newly (Some x) (shown q Z) z.beat) is ∙ ap (λ old. newly (Some (version, record_is)) old z.beat) s.0
            ∙ ap (λ b. cond b None (Some z.beat)) (eq-eqb version.0 version.0 refl)

        by_shows : (p : Option Shown) → shows q z.actor z.fact ≡ p → Seen (z ∷ Z)
        by_shows None is = (ap (λ p. upper p (shown q Z)) is ∙ s.0, subst (λ m. m ≤ o) (sym (ap (λ p. or_zero (upper (newly p (shown q Z) z.beat) (observed q Z))) is)) s.1)
        by_shows (Some x) is =
            let same = same_shown z Z x at from is in (
              ap (λ p. upper p (shown q Z)) is ∙ ap Some same,
              subst (λ m. m ≤ o) (sym (ap (λ p. or_zero (upper (newly p (shown q Z) z.beat) (observed q Z))) is ∙ ap (λ b. or_zero (upper b (observed q Z))) (known x same))) s.1,
            )

    pub seen_stays : (low h : List Entry) → IsTail (history doc o) low → Seen low → IsTail low h → IsTail h (history doc (suc r)) → Seen h
    seen_stays low [] since s at high = subst Seen at s
    seen_stays low (z ∷ Z) since s (inl is) high = subst Seen is s
    seen_stays low (z ∷ Z) since s (inr at) high =
        one_more z Z high (next_above (λ y. o ≤ y.beat) (history doc o) Z (history doc (suc r)) z (from_beat doc o (suc r) ord) below high).0 (seen_stays low Z since s at (tail_trans Z (z ∷ Z) (history doc (suc r)) (inr (tail_all Z)) high))
      where
        below : IsTail (history doc o) Z
        below = tail_trans (history doc o) low Z since at

  -- ---- looks, from a position on at which it is up

  module _ (start : List Entry) (after : IsTail (with_events doc a) start) (up : (h : List Entry) → IsTail start h → IsTail h (history doc (suc n)) → alive q.process h ≡ Some q.incarnation) where
    -- a Get of it was answered with what is stored, and its attempt failed
    pub record Look (r : ℕ) : Type 0 where
      pub w : Call
      pub get : w.request ≡ Get election
      pub reply : Reply
      pub shows_it : reply ≡ there_is
      pub before : List Entry
      pub low : IsTail start before
      pub position : IsTail (entry r 3 q (Delivers w reply true) ∷ before) (history doc (suc r))
      pub failed : follow_on doc q r w.kind w.request reply (entry r 3 q (Delivers w reply true) ∷ before) ≡ Fails

    -- such a look, where there is time for a write after it
    abbrev pub LookIn : ℕ → Type 0
    LookIn r = r + 2 * far ≤ n → Look r

    pub failed_look : (w : Call) (reply : Reply) (before : List Entry) (r : ℕ) → w.request ≡ Get election → IsTail start before → IsTail (entry r 3 q (Delivers w reply true) ∷ before) (history doc (suc r))
        → K ≤ r → r + 2 * far ≤ n → follow_on doc q r w.kind w.request reply (entry r 3 q (Delivers w reply true) ∷ before) ≡ Fails → Look r
    failed_look w reply before r get low at late to failed = record { w = w; get = get; reply = reply; shows_it = shows_it; before = before; low = low; position = at; failed = failed }
      where
        there : IsTail (entry r 3 q (Delivers w reply true) ∷ before) (history doc (suc n))
        there = tail_trans (entry r 3 q (Delivers w reply true) ∷ before) (history doc (suc r)) (history doc (suc n)) at (later_tail doc (suc r) (suc n) (omega (arith, to)))

        high : IsTail before (history doc (suc n))
        high = tail_trans before (entry r 3 q (Delivers w reply true) ∷ before) (history doc (suc n)) (inr (tail_all before)) there

        o : Origin doc q w reply before r
        o = origin doc rules (suc n) q (entry r 3 q (Delivers w reply true)) before w reply there refl refl

        upto : o.e.beat ≤ r
        upto =
            ⊎_elim (λ lt. omega (arith, lt)) (λ first. omega (arith, first.0))
            (entries_are_earlier doc (suc r) o.e (in_head o.e o.low (history doc (suc r)) (tail_trans (o.e ∷ o.low) (entry r 3 q (Delivers w reply true) ∷ before) (history doc (suc r)) (inr o.answered) at)))

        shows_it : reply ≡ there_is
        shows_it = given w reply before r o high get late (omega (arith, to)) (omega (arith, upto, to))

    -- a Get that is sent at a beat is answered in time, and comes to a look if that is late enough
    pub record Looked (sent : ℕ) (call : Call) : Type 0 where
      pub at : ℕ
      pub least : sent + 2 * near ≤ at
      pub most : at ≤ sent + 2 * far
      pub reply : Reply
      pub before : List Entry
      pub position : IsTail (entry at 3 q (Delivers call reply true) ∷ before) (history doc (suc at))
      pub look : K ≤ at → LookIn at

    -- a Get that it sends comes to one
    pub looked : (x : Entry) (T : List Entry) (call : Call) (arrives : Option ℕ) → IsTail (x ∷ T) (history doc (suc n)) → x.actor ≡ actor_of q → x.fact ≡ Sends call arrives → call.request ≡ Get election → IsTail start T
        → a ≤ x.beat → x.beat + 2 * far ≤ n → Looked x.beat call
    looked x T call arrives at actor fact get low from to = record {
      at = r;
      least = omega (arith, s.round.least, s.round.comes_least);
      most = omega (arith, s.round.most, s.round.comes_most);
      reply = reply;
      before = s.before;
      position = delivered_at;
      look = look;
    }
      where
        s : IsReacted doc near far q call arrives x.beat
        s = replies_react doc rules near far a e n q role steady my_time one within x T call arrives at actor fact from to (λ h below above. up h (tail_trans start T h low below) above)

        r : ℕ
        r = s.round.comes

        reply : Reply
        reply = answer call.request s.round.before

        here : List Entry
        here = entry r 3 q (Delivers call reply true) ∷ s.before

        below : IsTail start s.before
        below =
            tail_trans start (history doc (suc x.beat)) s.before (tail_trans start (x ∷ T) (history doc (suc x.beat)) (inr low) (in_own_beat doc (suc n) x T at))
            (tail_trans (history doc (suc x.beat)) (with_answers doc r) s.before
            (tail_trans (history doc (suc x.beat)) (history doc r) (with_answers doc r) (later_tail doc (suc x.beat) r (omega (arith, one, s.round.least, s.round.comes_least)))
            (tail_trans (history doc r) (with_events doc r) (with_answers doc r) (before_events doc r) (two_adds doc r (with_events doc r) (with_events doc r) (tail_all (with_events doc r)))))
            s.low)

        get_follow : (f : Follow) → follow_on doc q r call.kind call.request reply here ≡ f → follow_get q (moment doc q r) (observed_at doc q here) reply ≡ f
        get_follow f is = ap (λ request. follow q (moment doc q r) (observed_at doc q here) call.kind request reply) (sym get) ∙ is

        delivered_at : IsTail here (history doc (suc r))
        delivered_at = tail_trans here _ (history doc (suc r)) (follow_adds doc r q (leads q here) (follow_on doc q r call.kind call.request reply here) here) s.position

        look : K ≤ r → r + 2 * far ≤ n → Look r
        look later time_left = by_follow (follow_on doc q r call.kind call.request reply here) refl s.position
          where
            by_follow : (f : Follow) → follow_on doc q r call.kind call.request reply here ≡ f → IsTail (react doc r q (leads q here) f here) (history doc (suc r)) → Look r
            by_follow Fails is position = failed_look call reply s.before r get below position later time_left is
            by_follow (Succeeds version) is position = absurd (get_no_success q (moment doc q r) (observed_at doc q here) reply version (get_follow (Succeeds version) is))
            by_follow (Asks request) is position =
                absurd (no_writes
                (entry r 3 q (Sends (next_call q r Plain request here) (request_arrival doc q.process r here))) here (next_call q r Plain request here) (request_arrival doc q.process r here)
                (tail_trans _ (history doc (suc r)) (history doc (suc n)) position (later_tail doc (suc r) (suc n) (omega (arith, time_left)))) refl refl refl
                (get_writes q (moment doc q r) (observed_at doc q here) reply request (get_follow (Asks request) is)) (omega (arith, later)) time_left)

    -- ---- from one look to the next

    module _ (slow fast wait needed from : ℕ) (low_from : from ≤ K) (runs_least : RunsAtLeast doc q.process from e slow) (runs_most : RunsAtMost doc q.process from e fast)
        (waits : 1 ≤ longest_wait doc q.process) (wait_is : IsEnough slow (longest_wait doc q.process) wait) (needed_is : IsNeeded fast (shortest_wait doc q.process) needed) where
      -- a reading grows by the longest wait in that many beats, and by the shortest in no fewer
      some_wait : 1 ≤ wait
      some_wait = some_beats slow (longest_wait doc q.process) wait waits wait_is

      no_less : (k : ℕ) → slow ≤ fast → k * slow ≤ k * fast
      no_less zero le = omega arith
      no_less (suc k) le = omega (arith, le, no_less k le)

      needed_least : (r : ℕ) → from ≤ r → r < e → needed ≤ wait
      needed_least r since to =
          let le : slow ≤ fast = omega (arith, runs_least r since to, runs_most r since to) in
          needed_is wait (omega (arith, wait_is, shortest_least doc q.process, no_less wait le))

      near_step : ℕ
      near_step = needed + 2 * near

      far_step : ℕ
      far_step = wait + 2 * far

      pub record Next (r : ℕ) : Type 0 where
        pub next : ℕ
        pub least : r + (needed + 2 * near) ≤ next
        pub most : next ≤ r + (wait + 2 * far)
        pub look : LookIn next

      -- where the next one has no time for a write after it, nothing is said
      too_late : (r next : ℕ) → r + (needed + 2 * near) ≤ next → next ≤ r + (wait + 2 * far) → n < next + 2 * far → Next r
      too_late r next least most lt = record { next = next; least = least; most = most; look = λ le. absurd (omega (arith, lt, le)) }

      pub next_after : (r : ℕ) → K ≤ r → r + 2 * far ≤ n → Look r → Next r
      next_after r late to s = ⊎_elim (λ lt. too_late r (r + (wait + 2 * far)) (omega (arith, few, ways)) (omega arith) (omega (arith, lt))) asked (cases_lt n (r + wait))
        where
          few : needed ≤ wait
          few = needed_least r (omega (arith, late, low_from)) (omega (arith, to, within, one, ways))

          here : List Entry
          here = entry r 3 q (Delivers s.w s.reply true) ∷ s.before

          at : IsTail here (history doc (suc n))
          at = tail_trans here (history doc (suc r)) (history doc (suc n)) s.position (later_tail doc (suc r) (suc n) (omega (arith, to)))

          asked : r + wait ≤ n → Next r
          asked le = by_time (cases_lt n (h.x.beat + 2 * far))
            where
              k : ℕ
              k = r + wait

              h : HasAsked doc q (local doc q.process r + shortest_wait doc q.process) here (history doc (suc k))
              h =
                  candidates_ask doc rules near far a e n r k q role my_time.deadline steady within none (omega (arith, late, some)) s.w s.reply s.before (tail_trans (with_events doc a) start s.before after s.low) at
                  (up s.before s.low (tail_trans s.before here (history doc (suc n)) (inr (tail_all s.before)) at)) s.failed (omega (arith, some_wait)) le
                  (readings_grow doc q.process from e slow (longest_wait doc q.process) wait runs_least wait_is r k (omega (arith, late, low_from)) (omega arith) (omega (arith, le, within)))

              upto : h.x.beat ≤ k
              upto = ⊎_elim (λ lt. omega (arith, lt)) (λ first. omega (arith, first.0)) (entries_are_earlier doc (suc k) h.x (in_head h.x h.before (history doc (suc k)) h.position))

              below : IsTail (history doc r) h.before
              below = tail_trans (history doc r) here h.before (inr (not_before doc r (suc n) (entry r 3 q (Delivers s.w s.reply true)) s.before (omega (arith, to)) at (omega arith) (omega arith))) h.since

              after_r : r ≤ h.x.beat
              after_r = (next_above (λ y. r ≤ y.beat) (history doc r) h.before (history doc (suc k)) h.x (from_beat doc r (suc k) (omega arith)) below h.position).0

              since : r + needed ≤ h.x.beat
              since = readings_last doc q.process from e fast (shortest_wait doc q.process) needed runs_most needed_is r h.x.beat (omega (arith, late, low_from)) after_r (omega (arith, upto, le, within)) h.reached

              by_time : (n < h.x.beat + 2 * far) ⊎ (h.x.beat + 2 * far ≤ n) → Next r
              by_time (inl lt) = too_late r (h.x.beat + 2 * far) (omega (arith, since, ways)) (omega (arith, upto)) (omega (arith, lt))
              by_time (inr room) = found (looked h.x h.before h.call h.arrives
                  (tail_trans (h.x ∷ h.before) (history doc (suc k)) (history doc (suc n)) h.position (later_tail doc (suc k) (suc n) (omega (arith, le)))) h.actor h.fact h.get
                  (tail_trans start here h.before (inr s.low) h.since) (omega (arith, after_r, late, some)) room)
                where
                  found : Looked h.x.beat h.call → Next r
                  found f = record { next = f.at; least = omega (arith, f.least, since); most = omega (arith, f.most, upto); look = f.look (omega (arith, f.least, after_r, late)) }

      -- ---- the looks that begin with one at beat o

      module _ (o : ℕ) (late : K ≤ o) (first : Look o) (enough most : ℕ) (enough_is : IsEnough slow lasting enough) (most_is : IsGreatest (needed + 2 * near) (wait + 2 * far) enough most) (room : o + most + 2 * far ≤ n) where
        abbrev low : List Entry
        low = entry o 3 q (Delivers first.w first.reply true) ∷ first.before

        blocked : (r : ℕ) (s : Look r) → Blocked q (moment doc q r) (observed_at doc q (entry r 3 q (Delivers s.w s.reply true) ∷ s.before)) there_is lasting
        blocked r s =
            blocked_by doc q r seen lasting top lasts
            (ap (λ reply. follow q (moment doc q r) seen s.w.kind (Get election) reply) (sym s.shows_it) ∙ ap (λ request. follow q (moment doc q r) seen s.w.kind request s.reply) (sym s.get) ∙ s.failed)
          where
            seen : ℕ
            seen = observed_at doc q (entry r 3 q (Delivers s.w s.reply true) ∷ s.before)

        b : Blocked q (moment doc q o) (observed_at doc q low) there_is lasting
        b = blocked o first

        upto : (r : ℕ) → r ≤ o → (h : List Entry) → IsTail h (history doc (suc r)) → or_zero (observed q h) ≤ o
        upto r le h at =
            seen_upto q o h (λ x stands. ⊎_elim (λ lt. omega (arith, lt, le)) (λ none. omega (arith, none.0)) (entries_are_earlier doc (suc r) x (in_tail x h (history doc (suc r)) at stands)))

        seen_first : (shown q low ≡ Some (b.version, b.lease)) × (or_zero (observed q low) ≤ o)
        seen_first = (
          ap (λ b. upper (only_if b (told first.w.request first.reply)) (shown q first.before)) (same_self q)
              ∙ ap (λ p. upper p (shown q first.before)) (ap (λ request. told request first.reply) first.get ∙ ap found_shows (first.shows_it ∙ b.found)),
          upto o (omega arith) low first.position,
        )

        -- each look's observation is no later than the first look
        seen_by : (r : ℕ) → o ≤ r → r + 2 * far ≤ n → (s : Look r) → or_zero (observed q (entry r 3 q (Delivers s.w s.reply true) ∷ s.before)) ≤ o
        seen_by r since to s = ⊎_elim later (λ le. upto r le (entry r 3 q (Delivers s.w s.reply true) ∷ s.before) s.position) (cases_lt o r)
          where
            later : o < r → or_zero (observed q (entry r 3 q (Delivers s.w s.reply true) ∷ s.before)) ≤ o
            later lt =
                (seen_stays b.version b.lease b.found o r late (omega (arith, to)) (omega (arith, since)) low
                (entry r 3 q (Delivers s.w s.reply true) ∷ s.before)
                (inr (not_before doc o (suc o) (entry o 3 q (Delivers first.w first.reply true)) first.before (omega arith) first.position (omega arith) (omega arith)))
                seen_first
                (inr (tail_trans low (history doc (suc o)) s.before first.position
                (not_before doc (suc o) (suc r) (entry r 3 q (Delivers s.w s.reply true)) s.before (omega (arith, since)) s.position (omega (arith, lt)) (omega arith))))
                s.position).1

        step : (r : ℕ) → o ≤ r → IsAtMost (needed + 2 * near) (wait + 2 * far) enough (r - o) → LookIn r
            → ⊥ ⊎ ((local doc q.process r < local doc q.process o + lasting) × (next : ℕ) × (r + (needed + 2 * near) ≤ next) × (next ≤ r + (wait + 2 * far)) × LookIn next)
        step r since bound look = inr (before, after_r.next, after_r.least, after_r.most, after_r.look)
          where
            time_left : r + 2 * far ≤ n
            time_left = omega (arith, most_is (r - o) bound, room, since)

            s : Look r
            s = look time_left

            after_r : Next r
            after_r = next_after r (omega (arith, late, since)) time_left s

            before : local doc q.process r < local doc q.process o + lasting
            before =
                let lt : local doc q.process r < observed_at doc q (entry r 3 q (Delivers s.w s.reply true) ∷ s.before) + lasting = (blocked r s).before in
                omega (arith, lt, local_up doc q.process (or_zero (observed q (entry r 3 q (Delivers s.w s.reply true) ∷ s.before))) o (seen_by r since time_left s))

        pub none_looks : ⊥
        none_looks =
            look_comes doc q.process from e slow lasting enough (needed + 2 * near) (wait + 2 * far) o runs_least enough_is (omega (arith, late, low_from)) (omega (arith, one))
            (λ r since bound. omega (arith, most_is (r - o) bound, room, since, within)) LookIn ⊥ step (λ le. first)
