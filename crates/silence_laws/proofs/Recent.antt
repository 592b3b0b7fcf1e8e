-- A leader's last record before it fell silent isn't old: else it had renewed it.
use Rattle.std.proofs.Common.{◌≡◌, ◌<◌, ◌≤◌, ℕ, zero, suc, ◌+◌, ◌-◌, ◌*◌, Bool, true, false, cond, List, ◌∷◌, Some, refl, sym, ap, ◌∙◌, subst, inl, inr, ⊎_elim, arith}
use Rattle.std.proofs.lemmas.Bool.{cases_lt}
use Rattle.kube_base.specs.declared.numbers.Version.{Version}
use Rattle.kube_objects.specs.declared.call.Reply.{Reply}
use Rattle.kube_objects.specs.declared.call.Reply.TheVariants.{Done}
use Rattle.kube_objects.specs.declared.deed.Actor.{Actor}
use Rattle.kube_objects.specs.declared.deed.Actor.TheVariants as actors
use Rattle.kube_objects.specs.Answers.{answer, written}
use Rattle.kube_objects.specs.Clocks.{local}
use Rattle.kube_objects.specs.Document.{Doc, retry_period}
use Rattle.kube_objects.specs.Elector.{succeeds, leads, follow_on, is_before, deadline}
use Rattle.kube_objects.specs.Entry.{Entry, Identity, Fact, Stops, Answers, Delivers, actor_of, entry}
use Rattle.kube_objects.specs.Identities.{identity_of, of_process}
use Rattle.kube_objects.specs.Newest.{has}
use Rattle.kube_objects.specs.Process.{alive, is_present, open_as}
use Rattle.kube_objects.specs.Turns.{react}
use Rattle.kube_objects.specs.Wire.{back_of}
use Rattle.kube_objects.specs.Own.{ReleasesByStop}
use Rattle.lease_laws.proofs.Claims.{term_of}
use Rattle.history.specs.History.{history, at_turn}
use Rattle.history.specs.Safe.{Acts}
use Rattle.history_laws.specs.Tails.{In, IsTail}
use Rattle.history_laws.proofs.Counting.{present_is}
use Rattle.history_laws.proofs.Plainly.{some_is, none_is, false_is, and_left}
use Rattle.history_laws.proofs.Tailed.{tail_all, tail_trans, tails_meet, later_tail, turn_tail, before_turn, same_head}
use Rattle.takeover_laws.proofs.Waits.{some_period}
use Rattle.call_laws.proofs.Once.{answers_differ}
use Rattle.call_laws.proofs.Placing.{in_own_beat}
use Rattle.call_laws.proofs.Starting.{actor_is}
use Rattle.call_laws.proofs.Sending.{is_free}
use Rattle.takeover_laws.specs.Calm.{IsInTime}
use Rattle.takeover_laws.specs.Rounds.{IsRound}
use Rattle.takeover_laws.proofs.Rounds.{rounds_in}
use Rattle.takeover_laws.proofs.Standing.{controllers_first}
use Rattle.takeover_laws.proofs.Writers.{Sending, sending_of, IsReacted, reacted, follow_adds}
use Rattle.calm_laws.proofs.Life.{up_between}
use Rattle.calm_laws.proofs.Origins.{Origin, origin}
use Rattle.stay_laws.specs.Stays.{HasSuccess}
use Rattle.stay_laws.proofs.Won.{Won, is_won}
use Rattle.silence_laws.specs.Least.{last_renewal}
use Rattle.silence_laws.specs.Silence.{LeadsUntil, Bears}
use Rattle.silence_laws.proofs.Chain.{opens_of}
use Rattle.silence_laws.proofs.Kept.{Kept, kept_of}
use Rattle.silence_laws.proofs.Owning.{IsQuietIn, IsOwn, IsForeign}
use Rattle.silence_laws.proofs.Renewed.{done_of, Rewritten, renewed_by, renewed_at_once}
use Rattle.silence_laws.proofs.Renewed as renewed
use Rattle.silence_laws.proofs.Setting.{times_before, it_stays, its_time}
use Rattle.silence_laws.proofs.Taken.{a, first, ways, first_writes, own, long_after}
use Rattle.silence_laws.proofs.Taken as taken
use Rattle.silence_laws.proofs.Waiting.{history_below, beats_rise}
use Rattle.silence_laws.proofs.Ways.{IsWay, beat_before, request_way, reply_way}

-- who acts is up at its turn
pub acting_up : (doc : Doc) → ReleasesByStop doc → (q : Identity) (k : ℕ) → Acts doc q k → alive q.process (at_turn doc q.process k) ≡ Some q.incarnation
acting_up doc rules q k acting =
    present_is (alive q.process g) q.incarnation
    (and_left (is_present (alive q.process g) q.incarnation) (is_before (local doc q.process k) (deadline doc q g)) (term_of doc rules q k g acting.1))
  where
    g : List Entry
    g = at_turn doc q.process k

by_identity : (q : Identity) (who : Actor) → identity_of who ≡ Some q → who ≡ actor_of q
by_identity q actors.Script is = absurd (none_is q is)
by_identity q (actors.Proc id i) is = ap actor_of (some_is (record { process = id.0; incarnation = i }) q is)

abbrev reply_of : Reply → Fact → Reply
reply_of other (Answers call reply comes wrote) = reply
reply_of other _ = other

module _ (doc : Doc) (near far b e : ℕ) (q : Identity) (l : LeadsUntil doc near far b e q) (s : Bears doc near far b e q) (H : List Entry) (H_e : IsTail H (history doc (suc e))) (quiet : IsQuietIn b q.process H)
    (f : IsForeign doc near far b e q l s H H_e quiet (first doc near far b e q l s H H_e quiet) H) where
  abbrev pub mine : IsOwn doc q f.before
  mine = own doc near far b e q l s H H_e quiet f

  abbrev pub k : Kept f.before mine.y
  k = kept_of f.before mine.y mine.top

  low_e : IsTail f.before (history doc (suc e))
  low_e = tail_trans f.before (f.x ∷ f.before) (history doc (suc e)) (inr (tail_all f.before)) (tail_trans (f.x ∷ f.before) H (history doc (suc e)) f.position H_e)

  pub z_e : IsTail (k.z ∷ k.before) (history doc (suc e))
  z_e = tail_trans (k.z ∷ k.before) f.before (history doc (suc e)) k.position low_e

  -- it is no older than the leader's first write
  pub since : IsTail (first doc near far b e q l s H H_e quiet) (k.z ∷ k.before)
  since = ⊎_elim (λ low. low) above (tails_meet (first doc near far b e q l s H H_e quiet) (k.z ∷ k.before) f.before f.since k.position)
    where
      above : IsTail (k.z ∷ k.before) (first doc near far b e q l s H H_e quiet) → IsTail (first doc near far b e q l s H H_e quiet) (k.z ∷ k.before)
      above (inl same) = subst (λ g. IsTail g (k.z ∷ k.before)) same (tail_all (k.z ∷ k.before))
      above (inr below) = absurd (false_is (sym (ap has (k.alone (taken.o doc near far b e q l s H H_e quiet).e (taken.o doc near far b e q l s H H_e quiet).low below f.since)) ∙ first_writes doc near far b e q l s H H_e quiet))

  some : 1 ≤ k.z.beat
  some = by_place since
    where
      written : 1 ≤ (taken.o doc near far b e q l s H H_e quiet).e.beat
      written = let w = ways doc near far b e q l s H H_e quiet in omega (arith, w.sent_least, s.one)

      by_place : IsTail (first doc near far b e q l s H H_e quiet) (k.z ∷ k.before) → 1 ≤ k.z.beat
      by_place (inl same) = subst (λ (y : Entry). 1 ≤ y.beat) (same_head (taken.o doc near far b e q l s H H_e quiet).e k.z (taken.o doc near far b e q l s H H_e quiet).low k.before same) written
      by_place (inr low) = omega (arith, written, beats_rise doc e k.z k.before z_e (taken.o doc near far b e q l s H H_e quiet).e (taken.o doc near far b e q l s H H_e quiet).low low)

  z_actor : k.z.actor ≡ actor_of q
  z_actor = by_identity q k.z.actor (sym k.by ∙ mine.by)

  w : Won doc k.z k.before
  w = is_won doc s.sound s.rules e s.end k.z k.before z_e some (ap has k.write)

  whose : w.who ≡ q
  whose = actor_is w.who q (sym w.actor ∙ z_actor)

  asked_e : IsTail (w.f ∷ w.low) (history doc (suc e))
  asked_e = tail_trans (w.f ∷ w.low) (k.z ∷ k.before) (history doc (suc e)) (inr w.asked) z_e

  f_actor : w.f.actor ≡ actor_of q
  f_actor = w.f_actor ∙ ap actor_of whose

  unstopped : (x : Entry) → In x (history doc (suc (a doc near far b e q l s H H_e quiet))) → x.fact ≡ Stops → has (of_process q.process x.actor) ≡ true → ⊥
  unstopped x stands fact own = never (l.steady.stops x stands fact own)
    where
      never : x.beat < 0 → ⊥
      never lt = omega (arith, lt)

  -- where there was time, its reply came and it renewed the record
  module _ (old : mine.y.beat + s.renews.wait + far < b) where
    -- it waits for a beat or more
    some_wait : 1 ≤ s.renews.wait
    some_wait = by_wait s.renews.wait s.renews.wait_is
      where
        by_wait : (j : ℕ) → retry_period doc q.process ≤ j * s.renews.slow → 1 ≤ j
        by_wait zero le = absurd (omega (arith, le, some_period doc q.process (s.waits q.process l.role)))
        by_wait (suc j) le = omega arith

    asked_a : IsTail (w.f ∷ w.low) (history doc (suc (b - 1)))
    asked_a =
        tail_trans (w.f ∷ w.low) (history doc (suc k.z.beat)) (history doc (suc (b - 1))) (tail_trans (w.f ∷ w.low) (k.z ∷ k.before) (history doc (suc k.z.beat)) (inr w.asked) (in_own_beat doc (suc e) k.z k.before z_e))
        (later_tail doc (suc k.z.beat) (suc (b - 1)) (omega (arith, old, k.beat)))

    opens : open_as w.call.kind w.call ≡ Some w.call
    opens = opens_of doc s.rules (b - 1) q l.role unstopped w.f w.low w.call (Some k.z.beat) asked_a f_actor w.f_fact

    way : IsWay near far w.f.beat k.z.beat
    way = request_way doc s.rules near far (b - 1) q l.role l.steady w.f w.low w.call k.z.beat asked_a f_actor w.f_fact opens (λ j low high soon. l.goes j (omega (arith, high, old, k.beat, l.within)))

    abbrev n : ℕ
    n = k.z.beat + far

    n_soon : n + 1 ≤ b - 1
    n_soon = omega (arith, old, k.beat, some_wait)

    my_time : IsInTime doc far 0 (b - 1) q.process
    my_time = times_before doc near far b e q l s q.process l.role l.steady

    up : (h : List Entry) → IsTail w.low h → IsTail h (history doc (suc n)) → alive q.process h ≡ Some q.incarnation
    up h low high =
        up_between doc s.rules (suc (b - 1)) q w.low h turn low
        (tail_trans h (history doc (b - 1)) turn (tail_trans h (history doc (suc n)) (history doc (b - 1)) high (later_tail doc (suc n) (b - 1) (omega (arith, n_soon)))) (before_turn doc q.process (b - 1)))
        (turn_tail doc q.process (b - 1) (omega (arith, controllers_first doc q.process l.role)))
        (is_free doc s.rules (suc e) q l.role w.f w.low w.call (Some k.z.beat) asked_e f_actor w.f_fact opens).up
        (acting_up doc s.rules q (b - 1) ((it_stays doc near far b e q l s).acts (b - 1) (its_time doc near far b e q l s) (omega arith)))
      where
        turn : List Entry
        turn = at_turn doc q.process (b - 1)

    asked_n : IsTail (w.f ∷ w.low) (history doc (suc n))
    asked_n = tail_trans (w.f ∷ w.low) (history doc (suc w.f.beat)) (history doc (suc n)) (in_own_beat doc (suc e) w.f w.low asked_e) (later_tail doc (suc w.f.beat) (suc n) (omega (arith, way.least)))

    -- its reply counts one way after the write
    sending : (t : Sending doc 0 n q w.call (Some k.z.beat)) × (t.f ≡ w.f) × (t.before ≡ w.low)
    sending = sending_of doc s.rules near far 0 (b - 1) n q l.role l.steady my_time (omega (arith, n_soon)) s.one w.call (Some k.z.beat) w.f w.low asked_n f_actor w.f_fact (omega arith)

    abbrev sent : Sending doc 0 n q w.call (Some k.z.beat)
    sent = sending.0

    sent_beat : sent.f.beat ≡ w.f.beat
    sent_beat = ap (λ (x : Entry). x.beat) sending.1

    round : IsRound doc near far q w.call (Some k.z.beat) sent.f.beat
    round =
        rounds_in doc s.rules near far 0 (b - 1) q l.steady s.one (suc n) sent.f sent.before w.call (Some k.z.beat) sent.position sent.actor sent.fact (omega (arith, sent.step)) sent.from
        (omega (arith, sent_beat, way.least, n_soon)) (λ at m least is most. omega (arith, least, some_is k.z.beat m is, n_soon))

    soon : round.comes ≤ n
    soon = omega (arith, round.comes_most, some_is k.z.beat round.at round.arrives_is)

    told : IsReacted doc near far q w.call (Some k.z.beat) sent.f.beat
    told =
        reacted doc s.rules near far 0 (b - 1) n q l.role l.steady my_time (omega (arith, n_soon)) s.one w.call (Some k.z.beat) sent round soon
        (λ h below above. up h (subst (λ g. IsTail g h) sending.2 below) above)

    abbrev y : ℕ
    y = told.round.comes

    abbrev reply : Reply
    reply = answer w.call.request told.round.before

    y_n : y ≤ n
    y_n = omega (arith, told.round.comes_most, some_is k.z.beat told.round.at told.round.arrives_is)

    y_a : y ≤ b - 1
    y_a = omega (arith, y_n, n_soon)

    y_e : y ≤ e
    y_e = omega (arith, y_a, l.within)

    abbrev heard : Entry
    heard = entry y 3 q (Delivers w.call reply true)

    heard_at : IsTail (heard ∷ told.before) (history doc (suc y))
    heard_at =
        tail_trans (heard ∷ told.before) (react doc y q (leads q (heard ∷ told.before)) (follow_on doc q y w.call.kind w.call.request reply (heard ∷ told.before)) (heard ∷ told.before)) (history doc (suc y))
        (follow_adds doc y q (leads q (heard ∷ told.before)) (follow_on doc q y w.call.kind w.call.request reply (heard ∷ told.before)) (heard ∷ told.before)) told.position

    into : (h : List Entry) → IsTail h (history doc (suc y)) → IsTail h (history doc (suc e))
    into h high = tail_trans h (history doc (suc y)) (history doc (suc e)) high (later_tail doc (suc y) (suc e) (omega (arith, y_e)))

    -- an answer to its call is that write
    same_answer : (reply : Reply) (S : List Entry) (o : Origin doc q w.call reply S y) → IsTail S (history doc (suc e)) → k.z ∷ k.before ≡ o.e ∷ o.low
    same_answer reply S o high =
        answers_differ doc s.rules (suc e) k.z o.e k.before o.low (record { who = w.who; call = w.call; reply = w.reply; comes = w.comes }) (record { who = q; call = w.call; reply = reply; comes = Some y }) z_e
        (tail_trans (o.e ∷ o.low) S (history doc (suc e)) o.answered high)
        (ap (λ d. back_of k.z.actor d) w.fact ∙ ap (λ who. back_of who (Answers w.call w.reply w.comes w.wrote)) w.actor)
        (ap (λ d. back_of o.e.actor d) o.fact ∙ ap (λ who. back_of who (Answers w.call reply (Some y) (written w.call.request o.low))) o.actor) whose refl

    below : IsTail told.before (history doc (suc e))
    below = into told.before (tail_trans told.before (heard ∷ told.before) (history doc (suc y)) (inr (tail_all told.before)) heard_at)

    o : Origin doc q w.call reply told.before y
    o = origin doc s.rules (suc y) q heard told.before w.call reply heard_at refl refl

    one : k.z ∷ k.before ≡ o.e ∷ o.low
    one = same_answer reply told.before o below

    reply_is : reply ≡ w.reply
    reply_is = sym (ap (reply_of w.reply) o.fact) ∙ sym (ap (λ (x : Entry). reply_of w.reply x.fact) (same_head k.z o.e k.before o.low one)) ∙ ap (reply_of w.reply) w.fact

    done : (version : Version) × (w.reply ≡ Done version)
    done = done_of w.call.request w.reply w.so

    abbrev hs : HasSuccess doc q 0 y
    hs = record {
      call = w.call;
      version = done.0;
      before = told.before;
      position = subst (λ reply. IsTail (entry y 3 q (Delivers w.call reply true) ∷ told.before) (history doc (suc y))) (reply_is ∙ done.1) heard_at;
      since = omega arith;
      success = sym (ap (succeeds w.call.request) done.1) ∙ w.so;
    }

    given : IsWay near far k.z.beat y
    given =
        subst (λ (x : Entry). IsWay near far x.beat y) (sym (same_head k.z o.e k.before o.low one))
        (reply_way doc s.rules near far (b - 1) q l.role l.steady o.e o.low
        (tail_trans (o.e ∷ o.low) (history doc (suc y)) (history doc (suc (b - 1))) (tail_trans (o.e ∷ o.low) (heard ∷ told.before) (history doc (suc y)) (inr o.answered) heard_at) (later_tail doc (suc y) (suc (b - 1)) (omega (arith, y_a))))
        o.step y y_a o.comes_is)

    f_e : IsTail (f.x ∷ f.before) (history doc (suc e))
    f_e = tail_trans (f.x ∷ f.before) H (history doc (suc e)) f.position H_e

    -- by then it would have renewed again
    again_before : y + s.renews.wait + 3 * far < f.x.beat
    again_before = omega (arith, given.most, k.beat, long_after doc near far b e q l s H H_e quiet f, taken.sent_before doc near far b e q l s H H_e quiet f, s.ways)

    again_by : y + s.renews.wait + 3 * far < e
    again_by = omega (arith, again_before, beat_before doc e f.x f.before f_e)

    -- another write of its own soon after isn't there
    never_again : (soon : ℕ) → soon ≤ y + s.renews.wait + 3 * far → Rewritten doc near far b e q l s y y_a hs soon → ⊥
    never_again soon few again = false_is (sym (ap has (k.alone again.z again.before again_since there)) ∙ again.writes)
      where
        again_since : IsTail (k.z ∷ k.before) again.before
        again_since = subst (λ g. IsTail g again.before) (sym (same_answer (Done done.0) told.before (renewed.o doc near far b e q l s y y_a hs) below)) again.since

        sooner : again.z.beat < f.x.beat
        sooner = omega (arith, again.soon, few, again_before)

        there : IsTail (again.z ∷ again.before) f.before
        there = tail_trans (again.z ∷ again.before) (history doc (suc again.z.beat)) f.before again.position (history_below doc again.z.beat e f.x f.before f_e sooner (omega (arith, sooner, beat_before doc e f.x f.before f_e)))

    never_old : mine.y.beat + s.renews.wait + 3 * far < b → ⊥
    never_old older = never_again (y + s.renews.wait + 3 * far) (omega arith) (renewed_by doc near far b e q l s y y_a hs (omega (arith, given.most, older, k.beat)) (omega (arith, again_by)))

    never_quick : doc.settings.fast_renew ≡ true → ⊥
    never_quick quick = never_again (y + s.renews.wait + far) (omega arith) (renewed_at_once doc near far b e q l s y y_a hs quick (omega (arith, given.most, old, k.beat)) (omega (arith, again_by)))

  -- so it is recent
  pub recent : b ≤ mine.y.beat + s.renews.wait + 3 * far
  recent = ⊎_elim (λ lt. absurd (never_old (omega (arith, lt)) lt)) (λ le. le) (cases_lt (mine.y.beat + s.renews.wait + 3 * far) b)

  pub recent_enough : b ≤ mine.y.beat + s.renews.wait + last_renewal doc far
  recent_enough = by_way doc.settings.fast_renew refl
    where
      by_way : (t : Bool) → doc.settings.fast_renew ≡ t → b ≤ mine.y.beat + s.renews.wait + cond t far (3 * far)
      by_way true quick = ⊎_elim (λ lt. absurd (never_quick lt quick)) (λ le. le) (cases_lt (mine.y.beat + s.renews.wait + far) b)
      by_way false slow = recent
