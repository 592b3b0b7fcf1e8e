-- Up to the beat before it falls silent a leader renews its record: after each of its writes there is another one, a retry period and four ways
-- later at most, if there was time to send it.
use Rattle.std.proofs.Common.{◌≡◌, ◌⊎◌, ◌<◌, ◌≤◌, ℕ, suc, ◌+◌, ◌-◌, ◌*◌, not, true, cond, List, [], ◌∷◌, Option, Some, None, refl, sym, ap, ◌∙◌, subst, inl, inr, ⊎_elim, arith, nat_lt, Bool, false}
use Rattle.std.proofs.lemmas.Bool.{eq-eqb, ltb-false, cases_lt}
use Rattle.std.proofs.Math.Nat.{mul-le-mul_right}
use Rattle.kube_base.specs.declared.numbers.Version.{Version}
use Rattle.kube_objects.specs.declared.call.Reply.{Reply}
use Rattle.kube_objects.specs.declared.call.Reply.TheVariants.{Found, Done, Absent, Exists, Conflict, Unchanged}
use Rattle.kube_objects.specs.declared.call.Request.{Request}
use Rattle.kube_objects.specs.declared.call.Request.TheVariants.{Get, Create, Update, PostStatus}
use Rattle.kube_objects.specs.declared.lease.Lease.{Lease}
use Rattle.kube_objects.specs.declared.object.Object.{Object}
use Rattle.kube_objects.specs.declared.object.Object.TheVariants as object
use Rattle.kube_objects.specs.Answers.{lease_in, answer_over, answer, written, written_over, if_done}
use Rattle.kube_objects.specs.Clocks.{local}
use Rattle.kube_objects.specs.Document.{Doc, end_beat, renew_deadline, of_seconds, lease_duration}
use Rattle.kube_objects.specs.Elector.{is_done, Moment, Asks, moment, observed_at, updated, follow, follow_on, succeeds, leads, attempt, Shown, told, shown, observed, is_valid, renewed, attempt_from}
use Rattle.kube_objects.specs.Entry.{Entry, Identity, Call, Plain, Sends, Answers, Delivers, actor_of, entry, CallKind, Fast}
use Rattle.kube_objects.specs.Identities.{is_other, identity_of, is_own}
use Rattle.kube_objects.specs.Newest.{has, when, join, or_zero}
use Rattle.kube_objects.specs.Stored.{Held, election, stored, next_version, at_key, write_of, request_write, key_of, last_write, holds}
use Rattle.kube_objects.specs.Keys.{key_eq}
use Rattle.kube_objects.specs.Turns.{react}
use Rattle.kube_objects.specs.Wire.{Sent, next_call, request_arrival, reply_arrival}
use Rattle.kube_objects.proofs.Clocks.{local_up}
use Rattle.history.specs.History.{history}
use Rattle.history.specs.Safe.{Acts}
use Rattle.history.specs.Steps.{answered}
use Rattle.history_laws.specs.Tails.{IsTail}
use Rattle.history_laws.proofs.Order.{entries_are_earlier}
use Rattle.history_laws.proofs.Plainly.{upper, some_is, none_is, false_is, and_both, same_self}
use Rattle.history_laws.proofs.Tailed.{tail_all, tail_trans, later_tail}
use Rattle.lease_laws.proofs.EachKind.{top_stays}
use Rattle.takeover_laws.proofs.Waits.{own_blocked}
use Rattle.span_laws.proofs.Spans.{goes_most}
use Rattle.call_laws.specs.Answering.{with_events, IsAnswered}
use Rattle.call_laws.proofs.Above.{in_head}
use Rattle.call_laws.proofs.Answering.{before_events, requests_are_answered}
use Rattle.call_laws.proofs.Placing.{in_own_beat}
use Rattle.takeover_laws.specs.Calm.{IsInTime}
use Rattle.takeover_laws.proofs.Rounds.{sent_is, in_events}
use Rattle.calm_laws.proofs.Origins.{Origin, origin, sends_differ}
use Rattle.stay_laws.specs.Stays.{HasSuccess}
use Rattle.stay_laws.proofs.Given.{IsGiven}
use Rattle.stay_laws.proofs.Rivals.{Own}
use Rattle.stay_laws.proofs.Reacting.{replies_follow}
use Rattle.stay_laws.proofs.Leading.{in_term, up_at, later}
use Rattle.stay_laws.proofs.Trying.{HasTried, has_tried}
use Rattle.stay_laws.proofs.Closing as closing
use Rattle.stay_laws.proofs.Closing.{IsReplied, is_replied}
use Rattle.call_laws.proofs.Sending.{IsFree, is_free}
use Rattle.stay_laws.proofs.Sendings as sendings
use Rattle.stay_laws.proofs.Succeeded.{IsSet}
use Rattle.stay_laws.proofs.Written as wrote
use Rattle.stay_laws.proofs.Renewing as renewing
use Rattle.stay_laws.proofs.Renewing.{get_found, own_asks, attempt_is}
use Rattle.silence_laws.specs.Silence.{LeadsUntil, Bears}
use Rattle.silence_laws.proofs.Setting.{Arrives, request_arrives, calm_before, times_before}
use Rattle.silence_laws.proofs.Ways.{IsWay}
use Rattle.silence_laws.proofs.Looking.{asks_election}
use Rattle.silence_laws.proofs.Seen.{seen_since}

-- ---- a write above a position, or the same is stored

pub record WroteAbove (low h : List Entry) : Type 0 where
  pub z : Entry
  pub before : List Entry
  pub position : IsTail (z ∷ before) h
  pub since : IsTail low before
  pub writes : has (at_key election (write_of z.fact)) ≡ true

pub same_or_above : (g h : List Entry) → IsTail g h → (stored election h ≡ stored election g) ⊎ WroteAbove g h
same_or_above g [] at = inl (ap (stored election) (sym at))
same_or_above g (x ∷ T) (inl is) = inl (ap (stored election) (sym is))
same_or_above g (x ∷ T) (inr at) = by_write (at_key election (write_of x.fact)) refl (same_or_above g T at)
  where
    by_write : (o : Option (Option Object)) → at_key election (write_of x.fact) ≡ o → (stored election T ≡ stored election g) ⊎ WroteAbove g T → (stored election (x ∷ T) ≡ stored election g) ⊎ WroteAbove g (x ∷ T)
    by_write None none (inl same) = inl (top_stays x T none ∙ same)
    by_write None none (inr s) = inr (record { z = s.z; before = s.before; position = inr s.position; since = s.since; writes = s.writes })
    by_write (Some o) is below = inr (record { z = x; before = T; position = inl refl; since = at; writes = ap has is })

-- ---- requests and replies

-- where leaders renew without a Get, and the record last shown is its own and valid, it renews it at once
attempt_fast : (doc : Doc) (q : Identity) (k : ℕ) (h : List Entry) (version : Version) (lease : Lease) → doc.settings.fast_renew ≡ true → leads q h ≡ true → shown q h ≡ Some (version, lease)
    → is_own q lease.holder ≡ true → is_valid (local doc q.process k) (observed_at doc q h) lease ≡ true → (attempt doc q k h).1 ≡ Update election version (renewed q (moment doc q k) lease)
attempt_fast doc q k h version lease quick led is own valid =
    ap (λ b. request_of (cond b (attempt_from q m seen (shown q h)) plainly)) (and_both doc.settings.fast_renew (leads q h) quick led)
    ∙ ap (λ o. request_of (attempt_from q m seen o)) is
    ∙ ap (λ b. request_of (cond b (Fast, Update election version (renewed q m lease)) plainly)) (and_both (is_own q lease.holder) (is_valid m.now seen lease) own valid)
  where
    m : Moment
    m = moment doc q k

    seen : ℕ
    seen = observed_at doc q h

    plainly : CallKind × Request
    plainly = (Plain, Get election)

    request_of : CallKind × Request → Request
    request_of a = a.1

-- what a request that succeeds shows is what it writes
shows_written : (r : Request) (version : Version) (lease : Lease) (h : List Entry) → told r (Done version) ≡ Some (version, lease) → answer r h ≡ Done version → key_of r ≡ election
    → at_key election (request_write r (written r h)) ≡ Some (Some (object.Lease lease))
shows_written (Get key) version lease h tells done is = absurd (none_is (version, lease) tells)
shows_written (PostStatus name status at) version lease h tells done is = absurd (none_is (version, lease) tells)
shows_written (Create key l) version lease h tells done is =
    ap (λ reply. at_key election (request_write (Create key l) (if_done reply (object.Lease l)))) done ∙ ap (λ key. when (key_eq key election) (Some (object.Lease l))) is
    ∙ ap (λ (s : Shown). Some (Some (object.Lease s.1))) (some_is (version, l) (version, lease) tells)
shows_written (Update key given l) version lease h tells done is =
    ap (λ reply. at_key election (request_write (Update key given l) (if_done reply (object.Lease l)))) done ∙ ap (λ key. when (key_eq key election) (Some (object.Lease l))) is
    ∙ ap (λ (s : Shown). Some (Some (object.Lease s.1))) (some_is (version, l) (version, lease) tells)

-- a Lease that is written is what is stored
written_is : (x : Entry) (T : List Entry) (y : Held) (lease : Lease) → at_key election (write_of x.fact) ≡ Some (Some (object.Lease lease)) → stored election (x ∷ T) ≡ Some y → y.object ≡ object.Lease lease
written_is x T y lease write top =
    sym (ap (λ (y : Held). y.object) (some_is (record { version = next_version T; object = object.Lease lease; beat = x.beat; by = identity_of x.actor }) y
    (sym (ap (λ o. join (upper (holds T x.beat x.actor o) (last_write election T))) write) ∙ top)))

-- an update on the version that is stored writes
update_writes : (h : List Entry) (x : Held) (version : Version) (lease : Lease) → stored election h ≡ Some x → x.version ≡ version
    → has (at_key election (request_write (Update election version lease) (written (Update election version lease) h))) ≡ true
update_writes h x version lease top same =
    ap (λ o. has (at_key election (request_write (Update election version lease) (written_over o (Update election version lease) (answer_over (next_version h) o (Update election version lease)))))) top
    ∙ ap (λ b. has (at_key election (request_write (Update election version lease) (if_done (cond b (Done (next_version h)) (Conflict x.version)) (object.Lease lease))))) (eq-eqb x.version.0 version.0 (ap (λ (v : Version). v.0) same))

-- what succeeds is done
done_by : (reply : Reply) → is_done reply ≡ true → (version : Version) × (reply ≡ Done version)
done_by (Done version) so = (version, refl)
done_by Absent so = absurd (false_is so)
done_by (Found version l) so = absurd (false_is so)
done_by Exists so = absurd (false_is so)
done_by (Conflict version) so = absurd (false_is so)
done_by Unchanged so = absurd (false_is so)

pub done_of : (r : Request) (reply : Reply) → succeeds r reply ≡ true → (version : Version) × (reply ≡ Done version)
done_of (Get key) reply so = absurd (false_is so)
done_of (PostStatus name status at) reply so = absurd (false_is so)
done_of (Create key lease) reply so = done_by reply so
done_of (Update key given lease) reply so = done_by reply so

module _ (doc : Doc) (near far b e : ℕ) (q : Identity) (l : LeadsUntil doc near far b e q) (s : Bears doc near far b e q) where
  abbrev pub a : ℕ
  a = b - 1

  pub end : a ≤ end_beat doc
  end = omega (arith, l.within, s.end)

  my_time : IsInTime doc far 0 a q.process
  my_time = times_before doc near far b e q l s q.process l.role l.steady

  -- ---- after a success

  module _ (y : ℕ) (to : y ≤ a) (hs : HasSuccess doc q 0 y) where
    abbrev pub o : Origin doc q hs.call (Done hs.version) hs.before y
    o = origin doc s.rules (suc y) q (entry y 3 q (Delivers hs.call (Done hs.version) true)) hs.before hs.call (Done hs.version) hs.position refl refl

    pub ways : sendings.IsWay near far o.begun.f.beat o.e.beat y
    ways = sendings.way doc s.rules near far 0 a q l.role l.steady hs.call (Done hs.version) hs.before y hs.position o to (omega arith)

    pub answered_later : o.begun.f.beat < o.e.beat
    answered_later = omega (arith, ways.sent_least, s.one)

    -- its answer was given in the span
    abbrev pub g : IsGiven doc near far 0 q y
    g = record {
      call = hs.call;
      version = hs.version;
      before = hs.before;
      position = hs.position;
      success = hs.success;
      o = o;
      from = omega arith;
      sent = answered_later;
      least = ways.comes_least;
      most = ways.comes_most;
    }

    acting : Acts doc q y
    acting = renewing.acts_now doc near far 0 a s.sound s.rules (calm_before doc near far b e q l s) (times_before doc near far b e q l s) s.one end q l.role l.steady s.renews y to g

    abbrev own : Own doc q o.e.beat (o.e ∷ o.low)
    own = wrote.first_own doc near far 0 a s.sound s.rules (calm_before doc near far b e q l s) (times_before doc near far b e q l s) s.one end q l.role l.steady s.renews y to g acting y (omega arith) to (omega (arith, ways.comes_most))

    given : own.y.version ≡ hs.version
    given = wrote.given doc near far 0 a s.sound s.rules (calm_before doc near far b e q l s) (times_before doc near far b e q l s) s.one end q l.role l.steady s.renews y to g acting y (omega arith) to (omega (arith, ways.comes_most))

    write_high : IsTail (o.e ∷ o.low) (history doc (suc a))
    write_high = wrote.write_high doc near far 0 a s.sound s.rules (calm_before doc near far b e q l s) (times_before doc near far b e q l s) s.one end q l.role l.steady s.renews y to g

    -- a later write, by a beat
    pub record Rewritten (n : ℕ) : Type 0 where
      pub z : Entry
      pub before : List Entry
      pub position : IsTail (z ∷ before) (history doc (suc z.beat))
      pub since : IsTail (o.e ∷ o.low) before
      pub writes : has (at_key election (write_of z.fact)) ≡ true
      pub soon : z.beat ≤ n

    from_above : (n m : ℕ) (h : List Entry) → IsTail h (history doc (suc m)) → m ≤ n → WroteAbove (o.e ∷ o.low) h → Rewritten n
    from_above n m h high le w = record {
      z = w.z;
      before = w.before;
      position = in_own_beat doc (suc m) w.z w.before at;
      since = w.since;
      writes = w.writes;
      soon = ⊎_elim (λ lt. omega (arith, lt, le)) (λ first. omega (arith, first.0)) (entries_are_earlier doc (suc m) w.z (in_head w.z w.before (history doc (suc m)) at));
    }
      where
        at : IsTail (w.z ∷ w.before) (history doc (suc m))
        at = tail_trans (w.z ∷ w.before) h (history doc (suc m)) w.position high

    -- an update on its version that it sends in time comes to one
    update_comes : (m : ℕ) (x : Entry) (T : List Entry) (call : Call) (arrives : Option ℕ) (lease : Lease) → IsTail (x ∷ T) (history doc m) → x.actor ≡ actor_of q → x.fact ≡ Sends call arrives → call.request ≡ Update election own.y.version lease
        → x.beat ≤ a → y ≤ x.beat → x.beat + far ≤ e → Rewritten (x.beat + far)
    update_comes m x T call arrives lease stands actor fact request upto from still = by_above (same_or_above (o.e ∷ o.low) answering.before low)
      where
        r : Arrives near far x.beat arrives
        r = request_arrives doc s.rules near far a q.process l.steady m x T q call arrives stands l.role refl actor fact upto (λ j low high. l.goes j (omega (arith, high, still)))

        at : ℕ
        at = r.at

        arrival : arrives ≡ Some at
        arrival = r.is

        way : IsWay near far x.beat at
        way = r.way

        sent : Sent
        sent = record { who = q; call = call; arrives = Some at }

        answering : IsAnswered doc at sent
        answering =
            requests_are_answered doc at x sent (in_events doc x.beat at x T (omega (arith, way.least, s.one)) (in_own_beat doc m x T stands))
            (sent_is x q call arrives actor fact ∙ ap (λ o. Some (record { who = q; call = call; arrives = o })) arrival) refl

        low : IsTail (o.e ∷ o.low) answering.before
        low =
            tail_trans (o.e ∷ o.low) (history doc at) answering.before
            (tail_trans (o.e ∷ o.low) (history doc (suc o.e.beat)) (history doc at) (in_own_beat doc (suc a) o.e o.low write_high) (later_tail doc (suc o.e.beat) at (omega (arith, ways.comes_least, s.one, from, way.least))))
            (tail_trans (history doc at) (with_events doc at) answering.before (before_events doc at) answering.after)

        by_above : (stored election answering.before ≡ stored election (o.e ∷ o.low)) ⊎ WroteAbove (o.e ∷ o.low) answering.before → Rewritten (x.beat + far)
        by_above (inr w) = from_above (x.beat + far) at answering.before (tail_trans answering.before (answered doc at sent answering.before) (history doc (suc at)) (inr (tail_all answering.before)) answering.position) way.most w
        by_above (inl same) = record {
          z = entry at 2 q (Answers call (answer call.request answering.before) (reply_arrival doc q.process at answering.before) (written call.request answering.before));
          before = answering.before;
          position = answering.position;
          since = low;
          writes =
              subst (λ r. has (at_key election (request_write r (written r answering.before))) ≡ true) (sym request)
              (update_writes answering.before own.y own.y.version lease (same ∙ own.top) refl);
          soon = way.most;
        }

    -- ---- its attempt, where its timer comes in time

    abbrev Due : ℕ → Type 0
    Due last = renewing.Due doc near far 0 a s.sound s.rules (calm_before doc near far b e q l s) (times_before doc near far b e q l s) s.one end q l.role l.steady s.renews y to g last

    module _ (last : ℕ) (d : Due last) (reach : d.g ≤ a) where
      abbrev lease : Lease
      lease = (wrote.what doc near far 0 a s.sound s.rules (calm_before doc near far b e q l s) (times_before doc near far b e q l s) s.one end q l.role l.steady s.renews y to g).lease

      abbrev start : IsSet doc q y hs.version lease (entry y 3 q (Delivers hs.call (Done hs.version) true) ∷ hs.before)
      start = wrote.start doc near far 0 a s.sound s.rules (calm_before doc near far b e q l s) (times_before doc near far b e q l s) s.one end q l.role l.steady s.renews y to g

      from : 0 < y
      from = omega (arith, ways.comes_least, s.one)

      some_way : 1 ≤ far
      some_way = omega (arith, s.one, s.ways)

      timely : (k : ℕ) → k < d.g + 4 * far → k ≤ a → local doc q.process k < start.at + renew_deadline doc q.process
      timely = renewing.soon doc near far 0 a s.sound s.rules (calm_before doc near far b e q l s) (times_before doc near far b e q l s) s.one end q l.role l.steady s.renews y to g last d

      tried : HasTried doc q start.low start.at (Some (hs.version, lease)) (history doc (suc d.g))
      tried =
          has_tried doc s.rules near far 0 a q l.role l.steady start.at y start.low start.leader from (Some (hs.version, lease)) start.idle start.nothing d.g d.from reach d.reached
          (timely d.g (omega (arith, some_way)) reach)

      x1_from : y ≤ tried.x.beat
      x1_from = later doc s.rules near far 0 a (suc d.g) q l.role l.steady start.at y start.low start.leader from (omega (arith, d.from)) (omega (arith, reach)) tried.x tried.before tried.since tried.position

      x1_upto : tried.x.beat ≤ d.g
      x1_upto = ⊎_elim (λ lt. omega (arith, lt)) (λ first. omega (arith, first.0)) (entries_are_earlier doc (suc d.g) tried.x (in_head tried.x tried.before (history doc (suc d.g)) tried.position))

      weaken : (n m : ℕ) → n ≤ m → Rewritten n → Rewritten m
      weaken n m le w = record { z = w.z; before = w.before; position = w.position; since = w.since; writes = w.writes; soon = omega (arith, le, w.soon) }

      -- after a Get
      module _ (room : d.g + 2 * far ≤ a) (still : d.g + 3 * far ≤ e) (get : tried.call.request ≡ Get election) where
        free : IsFree q tried.x tried.before tried.call
        free = is_free doc s.rules (suc d.g) q l.role tried.x tried.before tried.call tried.arrives tried.position tried.actor tried.fact tried.opens

        room_x : tried.x.beat + 2 * far ≤ a
        room_x = omega (arith, x1_upto, room)

        from_x : 0 ≤ tried.x.beat
        from_x = omega arith

        abbrev comes : ℕ
        comes = closing.y doc s.rules near far 0 a q l.role l.steady my_time s.one (suc d.g) tried.x tried.before tried.call tried.arrives tried.position tried.actor tried.fact tried.step free.sent tried.opens from_x room_x

        abbrev below : List Entry
        below = closing.before doc s.rules near far 0 a q l.role l.steady my_time s.one (suc d.g) tried.x tried.before tried.call tried.arrives tried.position tried.actor tried.fact tried.step free.sent tried.opens from_x room_x

        comes_least : tried.x.beat < comes
        comes_least = closing.y_least doc s.rules near far 0 a q l.role l.steady my_time s.one (suc d.g) tried.x tried.before tried.call tried.arrives tried.position tried.actor tried.fact tried.step free.sent tried.opens from_x room_x

        comes_most : comes ≤ tried.x.beat + 2 * far
        comes_most = closing.y_most doc s.rules near far 0 a q l.role l.steady my_time s.one (suc d.g) tried.x tried.before tried.call tried.arrives tried.position tried.actor tried.fact tried.step free.sent tried.opens from_x room_x

        r : IsReplied doc q tried.call (tried.x ∷ tried.before) (tried.x.beat + 2 * far)
        r =
            is_replied doc s.rules near far 0 a q l.role l.steady my_time s.one (suc d.g) tried.x tried.before tried.call tried.arrives tried.position tried.actor tried.fact tried.step free.sent tried.opens from_x room_x
            (up_at doc s.rules near far 0 a (suc comes) q l.role l.steady start.at y start.low start.leader from (omega (arith, x1_from, comes_least)) (omega (arith, comes_most, room_x)) comes
            (λ k lt. timely k (omega (arith, lt, comes_most, x1_upto, some_way)) (omega (arith, lt, comes_most, room_x))) below
            (tail_trans start.low (tried.x ∷ tried.before) below (inr tried.since)
            (closing.sent_low doc s.rules near far 0 a q l.role l.steady my_time s.one (suc d.g) tried.x tried.before tried.call tried.arrives tried.position tried.actor tried.fact tried.step free.sent tried.opens from_x room_x))
            (closing.before_high doc s.rules near far 0 a q l.role l.steady my_time s.one (suc d.g) tried.x tried.before tried.call tried.arrives tried.position tried.actor tried.fact tried.step free.sent tried.opens from_x room_x)
            (closing.earlier doc s.rules near far 0 a q l.role l.steady my_time s.one (suc d.g) tried.x tried.before tried.call tried.arrives tried.position tried.actor tried.fact tried.step free.sent tried.opens from_x room_x))

        abbrev heard : Entry
        heard = entry r.at 3 q (Delivers tried.call r.reply true)

        o1 : Origin doc q tried.call r.reply r.before r.at
        o1 = origin doc s.rules (suc r.at) q heard r.before tried.call r.reply r.position refl refl

        high : IsTail r.before (history doc (suc r.at))
        high = tail_trans r.before (heard ∷ r.before) (history doc (suc r.at)) (inr (tail_all r.before)) r.position

        same : o1.begun.f ∷ o1.begun.before ≡ tried.x ∷ tried.before
        same =
            sends_differ doc s.rules (suc r.at) q o1.begun.f tried.x o1.begun.before tried.before tried.call tried.call o1.begun.arrives tried.arrives
            (tail_trans (o1.begun.f ∷ o1.begun.before) r.before (history doc (suc r.at)) o1.begun.position high) (tail_trans (tried.x ∷ tried.before) r.before (history doc (suc r.at)) r.since high)
            o1.begun.actor tried.actor o1.begun.fact tried.fact refl

        low1 : IsTail (o.e ∷ o.low) o1.low
        low1 =
            tail_trans (o.e ∷ o.low) (o1.begun.f ∷ o1.begun.before) o1.low
            (subst (IsTail (o.e ∷ o.low)) (sym same) (inr (tail_trans (o.e ∷ o.low) start.low tried.before (tail_trans (o.e ∷ o.low) (entry y 3 q (Delivers hs.call (Done hs.version) true) ∷ hs.before) start.low (inr o.answered) start.below) tried.since))) o1.sent_low

        low_high : IsTail o1.low (history doc (suc r.at))
        low_high = tail_trans o1.low r.before (history doc (suc r.at)) (tail_trans o1.low (o1.e ∷ o1.low) r.before (inr (tail_all o1.low)) o1.answered) high

        by_above : (stored election o1.low ≡ stored election (o.e ∷ o.low)) ⊎ WroteAbove (o.e ∷ o.low) o1.low → Rewritten (d.g + 3 * far)
        by_above (inr w) = weaken r.at (d.g + 3 * far) (omega (arith, r.most, x1_upto)) (from_above r.at r.at o1.low low_high (omega arith) w)
        by_above (inl unchanged) =
            weaken (r.at + far) (d.g + 3 * far) (omega (arith, r.most, x1_upto))
            (update_comes (suc r.at) x2 T2 call2 (request_arrival doc q.process r.at T2) (updated q m own.lease) position2 refl refl refl (omega (arith, r.most, room_x)) (omega (arith, x1_from, after_x)) (omega (arith, r.most, x1_upto, still)))
          where
            T2 : List Entry
            T2 = heard ∷ r.before

            m : Moment
            m = moment doc q r.at

            after_x : tried.x.beat ≤ r.at
            after_x =
                ⊎_elim (λ lt. omega (arith, lt)) (λ first. omega (arith, first.0))
                (entries_are_earlier doc (suc r.at) tried.x (in_head tried.x tried.before (history doc (suc r.at)) (tail_trans (tried.x ∷ tried.before) r.before (history doc (suc r.at)) r.since high)))

            found : r.reply ≡ Found own.y.version own.lease
            found = o1.reply_is ∙ ap (λ r. answer r o1.low) get ∙ get_found o1.low own.y own.lease (unchanged ∙ own.top) (ap lease_in own.object)

            asked : Request
            asked = Update election own.y.version (updated q m own.lease)

            asks : follow_on doc q r.at tried.call.kind tried.call.request r.reply T2 ≡ Asks asked
            asks =
                ap (λ request. follow q m (observed_at doc q T2) tried.call.kind request r.reply) get ∙ ap (λ reply. follow q m (observed_at doc q T2) tried.call.kind (Get election) reply) found
                ∙ own_asks q m (observed_at doc q T2) own.y.version own.lease (ap (is_other q) own.holder ∙ ap not (same_self q))

            call2 : Call
            call2 = next_call q r.at Plain asked T2

            x2 : Entry
            x2 = entry r.at 3 q (Sends call2 (request_arrival doc q.process r.at T2))

            position2 : IsTail (x2 ∷ T2) (history doc (suc r.at))
            position2 =
                subst (λ f. IsTail (react doc r.at q (leads q T2) f T2) (history doc (suc r.at))) asks (replies_follow doc s.rules (suc r.at) q heard r.before tried.call r.reply r.position refl refl l.role refl)

        after_get : Rewritten (d.g + 3 * far)
        after_get = by_above (same_or_above (o.e ∷ o.low) o1.low low1)

      pub rewritten : d.g + 2 * far ≤ a → d.g + 3 * far ≤ e → Rewritten (d.g + 3 * far)
      rewritten room still = by_request (attempt_is doc q tried.x.beat tried.before hs.version lease tried.idle.shown_is)
        where
          by_request : ((attempt doc q tried.x.beat tried.before).1 ≡ Get election) ⊎ ((next : Lease) × ((attempt doc q tried.x.beat tried.before).1 ≡ Update election hs.version next)) → Rewritten (d.g + 3 * far)
          by_request (inl is) = after_get room still (tried.request ∙ is)
          by_request (inr (next, is)) =
              weaken (tried.x.beat + far) (d.g + 3 * far) (omega (arith, x1_upto))
              (update_comes (suc d.g) tried.x tried.before tried.call tried.arrives next tried.position tried.actor tried.fact (tried.request ∙ is ∙ ap (λ v. Update election v next) (sym given)) (omega (arith, x1_upto, reach)) x1_from (omega (arith, x1_upto, still)))

      -- at once, where leaders renew without a Get and its timer has come a retry period after the success
      module _ (quick : doc.settings.fast_renew ≡ true) (soon : d.g ≤ y + s.renews.wait) (still : d.g + far ≤ e) where
        abbrev h : List Entry
        h = tried.before

        below_h : IsTail (o.e ∷ o.low) h
        below_h = tail_trans (o.e ∷ o.low) start.low h (tail_trans (o.e ∷ o.low) (entry y 3 q (Delivers hs.call (Done hs.version) true) ∷ hs.before) start.low (inr o.answered) start.below) tried.since

        h_g : IsTail h (history doc (suc d.g))
        h_g = tail_trans h (tried.x ∷ h) (history doc (suc d.g)) (inr (tail_all h)) tried.position

        led : leads q h ≡ true
        led = (in_term doc s.rules near far 0 a (suc d.g) q l.role l.steady start.at y start.low start.leader from (omega (arith, d.from)) (omega (arith, reach)) h tried.since h_g).led

        -- its record is what it was told
        same_lease : (a b : Lease) → object.Lease a ≡ object.Lease b → a ≡ b
        same_lease a b is = cc

        key : key_of hs.call.request ≡ election
        key =
            asks_election doc s.sound s.rules y (omega (arith, to, end)) q l.role o.begun.f hs.call o.begun.arrives
            (in_head o.begun.f o.begun.before (history doc (suc y)) (tail_trans (o.begun.f ∷ o.begun.before) hs.before (history doc (suc y)) o.begun.position (tail_trans hs.before (entry y 3 q (Delivers hs.call (Done hs.version) true) ∷ hs.before) (history doc (suc y)) (inr (tail_all hs.before)) hs.position)))
            o.begun.actor o.begun.fact

        lease_is : own.lease ≡ lease
        lease_is =
            same_lease own.lease lease
            (sym own.object ∙ written_is o.e o.low own.y lease
            (ap (λ d. at_key election (write_of d)) o.fact
            ∙ shows_written hs.call.request hs.version lease o.low (wrote.what doc near far 0 a s.sound s.rules (calm_before doc near far b e q l s) (times_before doc near far b e q l s) s.one end q l.role l.steady s.renews y to g).told_is (sym o.reply_is) key) own.top)

        mine : is_own q lease.holder ≡ true
        mine = ap (λ (l : Lease). is_own q l.holder) (sym lease_is) ∙ ap (is_own q) own.holder ∙ same_self q

        abbrev x : ℕ
        x = tried.x.beat

        abbrev seen : ℕ
        seen = or_zero (observed q h)

        module _ (same : stored election h ≡ stored election (o.e ∷ o.low)) where
          since : own.y.beat ≤ seen
          since = seen_since doc d.g s.sound s.rules (omega (arith, reach, end)) q l.role h h_g own.y (same ∙ own.top) h (tail_all h) (hs.version, lease) tried.idle.shown_is (ap (λ (v : Version). v.0) (sym given))

          valid : is_valid (local doc q.process x) (observed_at doc q h) lease ≡ true
          valid = by_test (nat_lt (local doc q.process x) (observed_at doc q h + of_seconds (or_zero lease.duration))) refl
            where
              lasts : of_seconds (or_zero lease.duration) ≡ lease_duration doc q.process
              lasts = ap (λ (l : Lease). of_seconds (or_zero l.duration)) (sym lease_is) ∙ ap (λ o. of_seconds (or_zero o)) own.duration

              few : x - seen ≤ s.renews.wait + 5 * far - near
              few = omega (arith, since, own.since, ways.comes_most, x1_upto, soon, s.ways)

              short : (x - seen) * s.fastest ≤ (s.renews.wait + 5 * far - near) * s.fastest
              short = mul-le-mul_right s.fastest few

              goes : local doc q.process x ≤ local doc q.process seen + (x - seen) * s.fastest
              goes =
                  ⊎_elim (λ lt. omega (arith, local_up doc q.process x seen (omega (arith, lt)))) (λ le. goes_most doc q.process 0 e s.fastest (s.clocks q.process l.role) seen x (omega arith) le (omega (arith, x1_upto, reach, l.within)))
                  (cases_lt x seen)

              by_test : (t : Bool) → nat_lt (local doc q.process x) (observed_at doc q h + of_seconds (or_zero lease.duration)) ≡ t → t ≡ true
              by_test true is = refl
              by_test false is = absurd (omega (arith, ltb-false (local doc q.process x) (observed_at doc q h + of_seconds (or_zero lease.duration)) is, lasts, goes, short, s.lasts q.process l.role, own_blocked doc q.process))

          asked : tried.call.request ≡ Update election own.y.version (renewed q (moment doc q x) lease)
          asked = tried.request ∙ attempt_fast doc q x h hs.version lease quick led tried.idle.shown_is mine valid ∙ ap (λ v. Update election v (renewed q (moment doc q x) lease)) (sym given)

        at_once : Rewritten (d.g + far)
        at_once = by_above (same_or_above (o.e ∷ o.low) h below_h)
          where
            by_above : (stored election h ≡ stored election (o.e ∷ o.low)) ⊎ WroteAbove (o.e ∷ o.low) h → Rewritten (d.g + far)
            by_above (inr w) = from_above (d.g + far) d.g h h_g (omega arith) w
            by_above (inl same) =
                weaken (x + far) (d.g + far) (omega (arith, x1_upto))
                (update_comes (suc d.g) tried.x h tried.call tried.arrives (renewed q (moment doc q x) lease) tried.position tried.actor tried.fact (asked same) (omega (arith, x1_upto, reach)) x1_from (omega (arith, x1_upto, still)))

    -- its timer comes a retry period after the success
    timer_due : y + s.renews.wait ≤ a → Due (y + s.renews.wait)
    timer_due room = by_due (renewing.due_or_ahead doc near far 0 a s.sound s.rules (calm_before doc near far b e q l s) (times_before doc near far b e q l s) s.one end q l.role l.steady s.renews y to g s.renews.wait)
      where
        by_due : Due (y + s.renews.wait) ⊎ renewing.Ahead doc near far 0 a s.sound s.rules (calm_before doc near far b e q l s) (times_before doc near far b e q l s) s.one end q l.role l.steady s.renews y to g (y + s.renews.wait) → Due (y + s.renews.wait)
        by_due (inr none) = absurd (renewing.comes_by doc near far 0 a s.sound s.rules (calm_before doc near far b e q l s) (times_before doc near far b e q l s) s.one end q l.role l.steady s.renews y to g room none)
        by_due (inl d) = d

    -- where there was time to send it
    pub renewed_by : y + s.renews.wait + 2 * far ≤ a → y + s.renews.wait + 3 * far ≤ e → Rewritten (y + s.renews.wait + 3 * far)
    renewed_by room still =
        let d : Due (y + s.renews.wait) = timer_due (omega (arith, room)) in
        weaken (y + s.renews.wait) d (omega (arith, d.upto, room)) (d.g + 3 * far) (y + s.renews.wait + 3 * far) (omega (arith, d.upto)) (rewritten (y + s.renews.wait) d (omega (arith, d.upto, room)) (omega (arith, d.upto, room)) (omega (arith, d.upto, still)))

    pub renewed_at_once : doc.settings.fast_renew ≡ true → y + s.renews.wait ≤ a → y + s.renews.wait + far ≤ e → Rewritten (y + s.renews.wait + far)
    renewed_at_once quick room still =
        let d : Due (y + s.renews.wait) = timer_due room in
        weaken (y + s.renews.wait) d (omega (arith, d.upto, room)) (d.g + far) (y + s.renews.wait + far) (omega (arith, d.upto)) (at_once (y + s.renews.wait) d (omega (arith, d.upto, room)) quick d.upto (omega (arith, d.upto, still)))
