-- Until one way after its leader fell silent the election Lease is renewed in time, and holds a record of the leader.
use Rattle.std.proofs.Common.{◌≡◌, ◌⊎◌, ◌<◌, ◌≤◌, ℕ, suc, ◌+◌, ◌-◌, ◌*◌, not, Bool, true, false, List, [], ◌∷◌, Option, Some, None, refl, sym, ap, ◌∙◌, subst, inl, inr, ⊎_elim, arith}
use Rattle.std.proofs.Math.Nat.{mul-le-mul_right}
use Rattle.std.proofs.lemmas.Bool.{cases_eq, cases_lt}
use Rattle.kube_objects.specs.declared.call.Reply.{Reply}
use Rattle.kube_objects.specs.declared.call.Reply.TheVariants.{Done}
use Rattle.kube_objects.specs.declared.object.Object.{Object}
use Rattle.kube_objects.specs.Answers.{answer, written}
use Rattle.kube_objects.specs.Clocks.{local}
use Rattle.kube_objects.specs.Document.{Doc}
use Rattle.kube_objects.specs.Elector.{succeeds, follow_on, leads, is_before, deadline}
use Rattle.kube_objects.specs.Entry.{Entry, Identity, Fact, Answers, Delivers, actor_of, entry}
use Rattle.kube_objects.specs.Identities.{is_same, is_other}
use Rattle.kube_objects.specs.Newest.{has}
use Rattle.kube_objects.specs.Process.{alive, is_present}
use Rattle.kube_objects.specs.Stored.{election, at_key, write_of}
use Rattle.kube_objects.specs.Turns.{with_reply}
use Rattle.kube_objects.specs.Wire.{Back, back_of, reply_arrival}
use Rattle.history.specs.History.{history, at_turn}
use Rattle.history_laws.specs.Tails.{IsTail}
use Rattle.history_laws.proofs.Counting.{present_is}
use Rattle.history_laws.proofs.Order.{entries_are_earlier}
use Rattle.history_laws.proofs.Plainly.{true_is, same_is, and_left}
use Rattle.history_laws.proofs.Tailed.{tail_all, tail_trans, tails_meet, later_tail, before_turn, turn_tail, tail_of_empty, same_head}
use Rattle.takeover_laws.specs.Waits.{blocked_for}
use Rattle.takeover_laws.proofs.Waits.{blocked_time}
use Rattle.span_laws.proofs.Spans.{goes_most}
use Rattle.lease_laws.proofs.Claims.{term_of}
use Rattle.call_laws.proofs.Above.{in_head}
use Rattle.call_laws.proofs.Making.{MadeAs, MadeAnswer, are_made}
use Rattle.call_laws.proofs.Once.{answers_differ}
use Rattle.call_laws.proofs.Placing.{in_own_beat, not_before}
use Rattle.call_laws.proofs.Starting.{actor_is}
use Rattle.takeover_laws.specs.Calm.{IsQuiet, IsInTime}
use Rattle.takeover_laws.proofs.Standing.{controllers_first}
use Rattle.takeover_laws.proofs.Writers.{Sending, IsReacted, sending_of, replies_react, follow_adds}
use Rattle.calm_laws.proofs.Life.{up_between}
use Rattle.calm_laws.proofs.Origins.{Origin}
use Rattle.gap_laws.proofs.Waits.{Waited, WaitedFor}
use Rattle.stay_laws.specs.Stays.{HasSuccess}
use Rattle.stay_laws.proofs.Won.{Won, is_won}
use Rattle.stay_laws.proofs.Rivals.{plainly, won_waited}
use Rattle.stay_laws.proofs.Written as wrote
use Rattle.stay_laws.proofs.Sendings as sendings
use Rattle.stay_laws.proofs.Renewing as renewing
use Rattle.silence_laws.specs.Silence.{LeadsUntil, Bears}
use Rattle.silence_laws.proofs.Kept.{Kept, kept_of}
use Rattle.silence_laws.proofs.Led.{HasLed}
use Rattle.succession_laws.proofs.Records.{OfIt, new_of_it, old_of_it, is_its, entries_rise}
use Rattle.silence_laws.proofs.Renewed.{Rewritten, renewed_by, done_of}
use Rattle.silence_laws.proofs.Renewed as renewed
use Rattle.silence_laws.proofs.Setting.{request_way, calm_before, times_before, its_lead, it_stays}
use Rattle.silence_laws.proofs.Ways.{IsWay}

abbrev reply_or : Reply → Fact → Reply
reply_or x (Answers call reply comes wrote) = reply
reply_or x _ = x

module _ (doc : Doc) (near far b e : ℕ) (q : Identity) (l : LeadsUntil doc near far b e q) (s : Bears doc near far b e q) where
  abbrev pub a : ℕ
  a = b - 1

  some_b : 1 ≤ b
  some_b = omega (arith, l.long, s.one, s.ways)

  -- ---- the success of a write

  pub record HasWon (z : Entry) (Z : List Entry) : Type 0 where
    pub y : ℕ
    pub to : y ≤ a
    pub hs : HasSuccess doc q 0 y
    pub same : (renewed.o doc near far b e q l s y to hs).e ∷ (renewed.o doc near far b e q l s y to hs).low ≡ z ∷ Z
    pub soon : y ≤ z.beat + far

  -- it is up at its turn in the last beat
  up_last : alive q.process (at_turn doc q.process a) ≡ Some q.incarnation
  up_last =
      let acting = (it_stays doc near far b e q l s).acts a (omega (arith, (its_lead doc near far b e q l s).to, s.one, s.ways)) (omega arith) in
      let g = at_turn doc q.process a in
      present_is (alive q.process g) q.incarnation (and_left (is_present (alive q.process g) q.incarnation) (is_before (local doc q.process a) (deadline doc q g)) (term_of doc s.rules q a g acting.1))

  pub won_success : (z : Entry) (Z : List Entry) → IsTail (z ∷ Z) (history doc (suc a)) → (w : Won doc z Z) → w.who ≡ q → z.beat + 2 * far ≤ a → HasWon z Z
  won_success z Z at w mine room = record {
    y = y;
    to = to;
    hs = hs;
    same = same_origin;
    soon = omega (arith, r.round.comes_most, same_beat);
  }
    where
      actor : w.f.actor ≡ actor_of q
      actor = w.f_actor ∙ ap actor_of mine

      asked : IsTail (w.f ∷ w.low) (history doc (suc a))
      asked = tail_trans (w.f ∷ w.low) Z (history doc (suc a)) w.asked (tail_trans Z (z ∷ Z) (history doc (suc a)) (inr (tail_all Z)) at)

      my_time : IsInTime doc far 0 a q.process
      my_time = times_before doc near far b e q l s q.process l.role l.steady

      sending : Sending doc 0 a q w.call (Some z.beat)
      sending = (sending_of doc s.rules near far 0 a a q l.role l.steady my_time (omega arith) s.one w.call (Some z.beat) w.f w.low asked actor w.f_fact (omega arith)).0

      up_f : alive q.process w.low ≡ Some q.incarnation
      up_f = let p = sending_of doc s.rules near far 0 a a q l.role l.steady my_time (omega arith) s.one w.call (Some z.beat) w.f w.low asked actor w.f_fact (omega arith) in subst (λ h. alive q.process h ≡ Some q.incarnation) p.2 p.0.up

      f_upto : w.f.beat ≤ a
      f_upto = ⊎_elim (λ lt. omega (arith, lt)) (λ first. omega (arith, first.0)) (entries_are_earlier doc (suc a) w.f (in_head w.f w.low (history doc (suc a)) asked))

      z_upto : z.beat ≤ a
      z_upto = ⊎_elim (λ lt. omega (arith, lt)) (λ first. omega (arith, first.0)) (entries_are_earlier doc (suc a) z (in_head z Z (history doc (suc a)) at))

      way : IsWay near far w.f.beat z.beat
      way =
          request_way doc s.rules near far a q.process l.steady (suc a) w.f w.low q w.call (Some z.beat) asked l.role refl actor w.f_fact f_upto z.beat refl
          (λ j low high soon. l.goes j (omega (arith, high, z_upto, l.within)))

      n : ℕ
      n = w.f.beat + 2 * far

      f_n : IsTail (w.f ∷ w.low) (history doc (suc n))
      f_n = tail_trans (w.f ∷ w.low) (history doc (suc w.f.beat)) (history doc (suc n)) (in_own_beat doc (suc a) w.f w.low asked) (later_tail doc (suc w.f.beat) (suc n) (omega arith))

      turn_high : IsTail (at_turn doc q.process a) (history doc (suc a))
      turn_high = turn_tail doc q.process a (omega (arith, controllers_first doc q.process l.role))

      still : (h : List Entry) → IsTail w.low h → IsTail h (history doc (suc n)) → alive q.process h ≡ Some q.incarnation
      still h low high =
          up_between doc s.rules (suc a) q w.low h (at_turn doc q.process a) low
          (tail_trans h (history doc a) (at_turn doc q.process a) (tail_trans h (history doc (suc n)) (history doc a) high (later_tail doc (suc n) a (omega (arith, way.least, s.one, room)))) (before_turn doc q.process a))
          turn_high up_f up_last

      r : IsReacted doc near far q w.call (Some z.beat) w.f.beat
      r = replies_react doc s.rules near far 0 a n q l.role l.steady my_time s.one (omega (arith, way.least, room)) w.f w.low w.call (Some z.beat) f_n actor w.f_fact (omega arith) (omega arith) still

      reply : Reply
      reply = answer w.call.request r.round.before

      there : Entry
      there = entry r.round.at 2 q (Answers w.call reply (reply_arrival doc q.process r.round.at r.round.before) (written w.call.request r.round.before))

      z_back : Back
      z_back = record { who = w.who; call = w.call; reply = w.reply; comes = w.comes }

      z_is : back_of z.actor z.fact ≡ Some z_back
      z_is = ap (λ d. back_of z.actor d) w.fact ∙ ap (λ who. back_of who (Answers w.call w.reply w.comes w.wrote)) w.actor

      same : z ∷ Z ≡ there ∷ r.round.before
      same =
          answers_differ doc s.rules (suc a) z there Z r.round.before z_back (record { who = q; call = w.call; reply = reply; comes = reply_arrival doc q.process r.round.at r.round.before }) at
          (tail_trans (there ∷ r.round.before) (history doc (suc r.round.at)) (history doc (suc a)) r.round.position (later_tail doc (suc r.round.at) (suc a) (omega (arith, r.round.most, way.least, room))))
          z_is refl mine refl

      same_beat : r.round.at ≡ z.beat
      same_beat = ap (λ (x : Entry). x.beat) (sym (same_head z there Z r.round.before same))

      reply_is : w.reply ≡ reply
      reply_is = sym (ap (reply_or w.reply) w.fact) ∙ ap (λ (x : Entry). reply_or w.reply x.fact) (same_head z there Z r.round.before same)

      y : ℕ
      y = r.round.comes

      to : y ≤ a
      to = omega (arith, r.round.most, r.round.comes_most, way.least, room)

      done : (version : _) × (reply ≡ Done version)
      done = done_of w.call.request reply (ap (succeeds w.call.request) (sym reply_is) ∙ w.so)

      hs : HasSuccess doc q 0 y
      hs = record {
        call = w.call;
        version = done.0;
        before = r.before;
        position =
            subst (λ reply. IsTail (entry y 3 q (Delivers w.call reply true) ∷ r.before) (history doc (suc y))) done.1
            (tail_trans (with_reply y q w.call reply r.before) _ (history doc (suc y)) (follow_adds doc y q (leads q (with_reply y q w.call reply r.before)) (follow_on doc q y w.call.kind w.call.request reply (with_reply y q w.call reply r.before)) (with_reply y q w.call reply r.before)) r.position);
        since = omega arith;
        success = ap (succeeds w.call.request) (sym done.1) ∙ ap (succeeds w.call.request) (sym reply_is) ∙ w.so;
      }

      o : Origin doc q w.call (Done done.0) r.before y
      o = renewed.o doc near far b e q l s y to hs

      same_origin : o.e ∷ o.low ≡ z ∷ Z
      same_origin =
          answers_differ doc s.rules (suc a) o.e z o.low Z (record { who = q; call = w.call; reply = Done done.0; comes = Some y }) z_back
          (wrote.write_high doc near far 0 a s.sound s.rules (calm_before doc near far b e q l s) (times_before doc near far b e q l s) s.one (renewed.end doc near far b e q l s) q l.role l.steady s.renews y to (renewed.g doc near far b e q l s y to hs)) at
          (ap (λ d. back_of o.e.actor d) o.fact ∙ ap (λ who. back_of who (Answers w.call (Done done.0) (Some y) (written w.call.request o.low))) o.actor) z_is (sym mine) refl

  -- ---- its first write

  abbrev pub led : HasLed doc q (b - 3 * far)
  led = its_lead doc near far b e q l s

  pub led_to : led.j ≤ a
  led_to = omega (arith, led.to, s.one, s.ways)

  abbrev pub first : Origin doc q led.success.call (Done led.success.version) led.success.before led.j
  first = renewed.o doc near far b e q l s led.j led_to led.success

  pub first_high : IsTail (first.e ∷ first.low) (history doc (suc a))
  first_high = wrote.write_high doc near far 0 a s.sound s.rules (calm_before doc near far b e q l s) (times_before doc near far b e q l s) s.one (renewed.end doc near far b e q l s) q l.role l.steady s.renews led.j led_to (renewed.g doc near far b e q l s led.j led_to led.success)

  first_writes : has (at_key election (write_of first.e.fact)) ≡ true
  first_writes = wrote.writes doc near far 0 a s.sound s.rules (calm_before doc near far b e q l s) (times_before doc near far b e q l s) s.one (renewed.end doc near far b e q l s) q l.role l.steady s.renews led.j led_to (renewed.g doc near far b e q l s led.j led_to led.success)

  pub first_ways : sendings.IsWay near far first.begun.f.beat first.e.beat led.j
  first_ways = renewed.ways doc near far b e q l s led.j led_to led.success

  some_beat : 1 ≤ first.e.beat
  some_beat = omega (arith, first_ways.sent_least, s.one)

  -- what it wrote itself after that, before b
  its_own : (z : Entry) (Z : List Entry) → IsTail (z ∷ Z) (history doc (suc a)) → IsTail (first.e ∷ first.low) (z ∷ Z) → has (at_key election (write_of z.fact)) ≡ true → z.actor ≡ actor_of q
  its_own z Z at (inl same) writes = ap (λ (x : Entry). x.actor) (sym (same_head first.e z first.low Z same)) ∙ first.actor
  its_own z Z at (inr low) writes = ⊎_elim early (λ le. (it_stays doc near far b e q l s).alone z Z at le writes) (cases_lt z.beat led.j)
    where
      early : z.beat < led.j → z.actor ≡ actor_of q
      early lt =
          wrote.its_writes doc near far 0 a s.sound s.rules (calm_before doc near far b e q l s) (times_before doc near far b e q l s) s.one (renewed.end doc near far b e q l s) q l.role l.steady s.renews led.j led_to (renewed.g doc near far b e q l s led.j led_to led.success)
          (renewing.acts_now doc near far 0 a s.sound s.rules (calm_before doc near far b e q l s) (times_before doc near far b e q l s) s.one (renewed.end doc near far b e q l s) q l.role l.steady s.renews led.j led_to (renewed.g doc near far b e q l s led.j led_to led.success))
          led.j (omega arith) led_to (omega (arith, first_ways.comes_most)) z Z
          (tail_trans (z ∷ Z) (history doc (suc z.beat)) (history doc (suc led.j)) (in_own_beat doc (suc a) z Z at) (later_tail doc (suc z.beat) (suc led.j) (omega (arith, lt)))) low writes

  -- the leader's first write stands below what comes three ways before b, or later
  pub first_low : (m : ℕ) (x : Entry) (T : List Entry) → IsTail (x ∷ T) (history doc (suc m)) → 1 ≤ x.step → b ≤ x.beat + 3 * far → x.beat ≤ m → IsTail (first.e ∷ first.low) T
  first_low m x T at step late upto =
      tail_trans w (history doc x.beat) T
      (tail_trans w (history doc (suc first.e.beat)) (history doc x.beat) (in_own_beat doc (suc (b - 1)) first.e first.low first_high)
      (later_tail doc (suc first.e.beat) x.beat
      (omega (arith, first_ways.comes_least, first_ways.sent_least, s.one, led.to, late))))
      (not_before doc x.beat (suc m) x T (omega (arith, upto)) at (omega arith) step)
    where
      w : List Entry
      w = first.e ∷ first.low

  -- ---- in time

  module _ (m : ℕ) (within : m ≤ e) (upto : m < b + far) where
    beat_upto : (x : Entry) (T : List Entry) → IsTail (x ∷ T) (history doc (suc m)) → x.beat ≤ m
    beat_upto x T at = ⊎_elim (λ lt. omega (arith, lt)) (λ first. omega (arith, first.0)) (entries_are_earlier doc (suc m) x (in_head x T (history doc (suc m)) at))

    pub timely : (x : Entry) (h : List Entry) → IsTail (x ∷ h) (history doc (suc m)) → 1 ≤ x.step → IsTail (first.e ∷ first.low) h → (o : OfIt doc q h) → x.beat ≤ o.y.beat + s.renews.wait + 4 * far
    timely x h at step low o = ⊎_elim late (λ le. le) (cases_lt (o.y.beat + s.renews.wait + 4 * far) x.beat)
      where
        k : Kept h o.y
        k = kept_of h o.y o.top

        h_high : IsTail h (history doc (suc m))
        h_high = tail_trans h (x ∷ h) (history doc (suc m)) (inr (tail_all h)) at

        k_high : IsTail (k.z ∷ k.before) (history doc (suc m))
        k_high = tail_trans (k.z ∷ k.before) h (history doc (suc m)) k.position h_high

        writes : has (at_key election (write_of k.z.fact)) ≡ true
        writes = ap has k.write

        -- the first write stands below the last one
        placed : IsTail (first.e ∷ first.low) (k.z ∷ k.before)
        placed = by_place (tails_meet (first.e ∷ first.low) (k.z ∷ k.before) h low k.position)
          where
            by_place : IsTail (first.e ∷ first.low) (k.z ∷ k.before) ⊎ IsTail (k.z ∷ k.before) (first.e ∷ first.low) → IsTail (first.e ∷ first.low) (k.z ∷ k.before)
            by_place (inl below) = below
            by_place (inr (inl same)) = subst (IsTail (first.e ∷ first.low)) (sym same) (tail_all (first.e ∷ first.low))
            by_place (inr (inr above)) = absurd (true_is (sym first_writes ∙ ap has (k.alone first.e first.low above low)))

        some : 1 ≤ k.z.beat
        some = by_place placed
          where
            by_place : IsTail (first.e ∷ first.low) (k.z ∷ k.before) → 1 ≤ k.z.beat
            by_place (inl same) = omega (arith, some_beat, ap (λ (x : Entry). x.beat) (same_head first.e k.z first.low k.before same))
            by_place (inr below) = omega (arith, some_beat, entries_rise doc (suc m) k.z k.before k_high first.e (in_head first.e first.low k.before below))

        late : o.y.beat + s.renews.wait + 4 * far < x.beat → x.beat ≤ o.y.beat + s.renews.wait + 4 * far
        late lt = absurd (true_is (sym again.writes ∙ ap has (k.alone again.z again.before above in_h)))
          where
            beat : o.y.beat ≡ k.z.beat
            beat = k.beat

            early : k.z.beat + s.renews.wait + 3 * far ≤ a
            early = omega (arith, lt, beat, beat_upto x h at, upto)

            z_high : IsTail (k.z ∷ k.before) (history doc (suc a))
            z_high = tail_trans (k.z ∷ k.before) (history doc (suc k.z.beat)) (history doc (suc a)) (in_own_beat doc (suc m) k.z k.before k_high) (later_tail doc (suc k.z.beat) (suc a) (omega (arith, early)))

            w : Won doc k.z k.before
            w = is_won doc s.sound s.rules a (renewed.end doc near far b e q l s) k.z k.before z_high some writes

            mine : w.who ≡ q
            mine = actor_is w.who q (sym w.actor ∙ its_own k.z k.before z_high placed writes)

            won : HasWon k.z k.before
            won = won_success k.z k.before z_high w mine (omega (arith, early))

            again : Rewritten doc near far b e q l s won.y won.to won.hs (won.y + s.renews.wait + 3 * far)
            again = renewed_by doc near far b e q l s won.y won.to won.hs (omega (arith, won.soon, early)) (omega (arith, won.soon, lt, beat, beat_upto x h at, within))

            above : IsTail (k.z ∷ k.before) again.before
            above = subst (λ g. IsTail g again.before) won.same again.since

            soon : again.z.beat < x.beat
            soon = omega (arith, again.soon, won.soon, lt, beat)

            in_h : IsTail (again.z ∷ again.before) h
            in_h =
                tail_trans (again.z ∷ again.before) (history doc x.beat) h
                (tail_trans (again.z ∷ again.before) (history doc (suc again.z.beat)) (history doc x.beat) again.position (later_tail doc (suc again.z.beat) x.beat (omega (arith, soon))))
                (not_before doc x.beat (suc m) x h (omega (arith, beat_upto x h at)) at (omega arith) step)

    -- ---- nobody else writes it

    -- such an entry is an answer
    answered_step : (x : Entry) (T : List Entry) → IsTail (x ∷ T) (history doc (suc m)) → (w : Won doc x T) → 1 ≤ x.step
    answered_step x T at w = omega (arith, made.step_is)
      where
        made : MadeAnswer doc x.beat x.step x.actor w.call w.reply w.comes w.wrote T
        made = subst (λ d. MadeAs doc x.beat x.step x.actor d T) w.fact (are_made doc s.rules (suc m) x T at)

    no_foreign : (x : Entry) (T : List Entry) → IsTail (x ∷ T) (history doc (suc m)) → IsTail (first.e ∷ first.low) T → (o : OfIt doc q T) → (w : Won doc x T) → 1 ≤ x.step → (w.who.process ≡ q.process → ⊥) → ⊥
    no_foreign x T at low o w step other =
        omega (
          arith,
          over,
          goes_most doc w.who.process 0 e s.fastest (s.clocks w.who.process w.role) waited.seen w.call.sent (omega arith) waited.before (omega (arith, sent, f_upto, within)),
          mul-le-mul_right s.fastest beats,
          s.lasts w.who.process w.role,
        )
      where
        base : (o.y.beat ≤ w.call.sent) × WaitedFor doc plainly w.who w.call.sent o.y
        base = won_waited doc s.sound s.rules m (omega (arith, within, s.end)) x T at w o.y o.top

        differs : is_other w.who o.lease.holder ≡ true
        differs = ap (is_other w.who) o.holder ∙ by_test (is_same o.who w.who) refl
          where
            by_test : (t : Bool) → is_same o.who w.who ≡ t → not t ≡ true
            by_test true is = absurd (other (ap (λ (p : Identity). p.process) (sym (same_is o.who w.who is)) ∙ o.mine))
            by_test false is = refl

        waited : Waited doc plainly w.who w.call.sent o.y o.lease
        waited = base.1 o.lease o.object differs

        over : local doc w.who.process waited.seen + blocked_for doc w.who.process q.process ≤ local doc w.who.process w.call.sent
        over = subst (λ t. local doc w.who.process waited.seen + t ≤ local doc w.who.process w.call.sent) (blocked_time doc w.who.process q.process o.lease o.duration) waited.over

        asked : IsTail (w.f ∷ w.low) (history doc (suc m))
        asked = tail_trans (w.f ∷ w.low) T (history doc (suc m)) w.asked (tail_trans T (x ∷ T) (history doc (suc m)) (inr (tail_all T)) at)

        f_upto : w.f.beat ≤ m
        f_upto = beat_upto w.f w.low asked

        way : IsWay near far w.f.beat x.beat
        way =
            request_way doc s.rules near far e w.who.process (l.others w.who.process w.role other) (suc m) w.f w.low w.who w.call (Some x.beat) asked w.role refl w.f_actor w.f_fact (omega (arith, f_upto, within)) x.beat refl
            (λ j low high soon. l.goes j (omega (arith, high, beat_upto x T at, within)))

        sent : w.call.sent ≡ w.f.beat
        sent = (sending_of doc s.rules near far 0 e m w.who w.role (l.others w.who.process w.role other) (s.calls w.who.process w.role) within s.one w.call (Some x.beat) w.f w.low asked w.f_actor w.f_fact (omega arith)).0.sent
            ∙ ap (λ (x : Entry). x.beat) (sending_of doc s.rules near far 0 e m w.who w.role (l.others w.who.process w.role other) (s.calls w.who.process w.role) within s.one w.call (Some x.beat) w.f w.low asked w.f_actor w.f_fact (omega arith)).1

        beats : w.call.sent - waited.seen ≤ s.renews.wait + 5 * far - near
        beats = omega (arith, timely x T at step low o, way.least, sent, waited.late.0, s.ways, s.one)

    module _ (quiet : IsQuiet doc b e q.process) where
      its_process : (x : Entry) (T : List Entry) → IsTail (x ∷ T) (history doc (suc m)) → IsTail (first.e ∷ first.low) T → (o : OfIt doc q T) → (w : Won doc x T) → 1 ≤ x.step → w.who.process ≡ q.process
      its_process x T at low o w step = ⊎_elim (λ same. same) (λ other. absurd (no_foreign x T at low o w step other)) (cases_eq w.who.process q.process)

      -- who writes it is the leader's process, and what is stored is its record
      pub of_it : (h : List Entry) → IsTail (first.e ∷ first.low) h → IsTail h (history doc (suc m)) → OfIt doc q h
      of_it [] low high = absurd (tail_of_empty first.e first.low low)
      of_it (x ∷ T) (inl is) high = subst (OfIt doc q) is (new_of_it doc b q first.e first.low (is_its doc near far b e q l s quiet m within first.e first.low (subst (λ g. IsTail g (history doc (suc m))) (sym is) high) first_writes won0 (ap (λ (p : Identity). p.process) mine0)))
        where
          won0 : Won doc first.e first.low
          won0 = is_won doc s.sound s.rules a (renewed.end doc near far b e q l s) first.e first.low first_high some_beat first_writes

          mine0 : won0.who ≡ q
          mine0 = actor_is won0.who q (sym won0.actor ∙ first.actor)
      of_it (x ∷ T) (inr low) high = by_write (at_key election (write_of x.fact)) refl (of_it T low (tail_trans T (x ∷ T) (history doc (suc m)) (inr (tail_all T)) high))
        where
          later : 1 ≤ x.beat
          later = omega (arith, some_beat, entries_rise doc (suc m) x T high first.e (in_head first.e first.low T low))

          by_write : (t : Option (Option Object)) → at_key election (write_of x.fact) ≡ t → OfIt doc q T → OfIt doc q (x ∷ T)
          by_write None none o = old_of_it doc q x T none o
          by_write (Some t) is o =
              let w : Won doc x T = is_won doc s.sound s.rules m (omega (arith, within, s.end)) x T high later (ap has is) in
              new_of_it doc b q x T (is_its doc near far b e q l s quiet m within x T high (ap has is) w (its_process x T high low o w (answered_step x T high w)))

      -- an election write above the first one is the leader's process's
      pub writer_is_its : (x : Entry) (T : List Entry) → IsTail (x ∷ T) (history doc (suc m)) → IsTail (first.e ∷ first.low) T → (w : Won doc x T) → 1 ≤ x.step → w.who.process ≡ q.process
      writer_is_its x T at low w step = its_process x T at low (of_it T low (tail_trans T (x ∷ T) (history doc (suc m)) (inr (tail_all T)) at)) w step
