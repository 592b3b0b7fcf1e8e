-- What comes from a beat on is a calm, where nobody but the leader acted before it: for callers.
use Rattle.std.proofs.Common.{◌≡◌, ◌⊎◌, ◌<◌, ◌≤◌, ℕ, zero, suc, ◌+◌, ◌-◌, ◌==◌, Bool, true, false, List, ◌∷◌, length, Some, IfSome, refl, sym, ap, ◌∙◌, subst, inl, inr, ⊎_elim, arith}
use Rattle.std.proofs.lemmas.Bool.{ltb-false, eqb-true, cases_eq}
use Rattle.kube_objects.specs.Document.{Doc, processes, is_controller, renew_deadline}
use Rattle.kube_objects.specs.Elector.{deadline}
use Rattle.kube_objects.specs.Entry.{Entry, Identity, Sends, Ends, actor_of}
use Rattle.kube_objects.specs.Identities.{of_process}
use Rattle.kube_objects.specs.Keys.{key_eq}
use Rattle.kube_objects.specs.Newest.{when, has}
use Rattle.kube_objects.specs.Process.{alive}
use Rattle.kube_objects.specs.Stored.{election, key_of}
use Rattle.kube_objects.specs.Wire.{Sent, Back, sent_of, back_of, reply_delay, reply_arrival}
use Rattle.kube_objects.specs.Clocks.{local}
use Rattle.history.specs.History.{history}
use Rattle.history.specs.Premise.{greatest_below}
use Rattle.history.specs.Safe.{Acts}
use Rattle.history_laws.specs.Tails.{In, IsTail}
use Rattle.history_laws.proofs.Lives.{Over}
use Rattle.history_laws.proofs.Order.{entries_are_earlier}
use Rattle.history_laws.proofs.Plainly.{some_is, none_is, true_is, false_is}
use Rattle.history_laws.proofs.Tailed.{tail_all, tail_trans, in_tail, later_tail}
use Rattle.lease_laws.proofs.Histories.{bears_own, turn_right}
use Rattle.lease_laws.proofs.Invariant.{view, SentRight}
use Rattle.lease_laws.proofs.Premises.{rates_at_most}
use Rattle.call_laws.specs.Answering.{with_events}
use Rattle.call_laws.proofs.Above.{Above, place_of, next_above}
use Rattle.call_laws.proofs.Making.{MadeAs, MadeAnswer, MadeEnd, are_made}
use Rattle.call_laws.proofs.Placing.{from_beat, not_before, forces_stand}
use Rattle.call_laws.proofs.Starting.{actor_is}
use Rattle.takeover_laws.specs.Acting.{AreInTime}
use Rattle.takeover_laws.specs.Calm.{Passes, IsSteady, IsQuiet, IsCalm}
use Rattle.takeover_laws.proofs.Fresh.{IsFresh, same_or_fresh, set_counted, over_stays, still_up}
use Rattle.takeover_laws.proofs.Records.{asks_elsewhere}
use Rattle.takeover_laws.proofs.Rounds.{reply_passes}
use Rattle.takeover_laws.proofs.Standing.{unled}
use Rattle.takeover_laws.proofs.Writers.{sends_of}
use Rattle.silence_laws.specs.Silence.{LeadsUntil, Bears}
use Rattle.succession_laws.specs.Successions.{RepliesCome}
use Rattle.silence_laws.proofs.Setting.{restrict_time, own_process, request_way, each_some}
use Rattle.silence_laws.proofs.Ways as ways_of
use Rattle.calm_laws.proofs.Origins.{IsAnswer, answer_facts}

-- ---- callers: `others_since`, `calm_since` and `times_since`

module _ (doc : Doc) (near far b e : ℕ) (q : Identity) (l : LeadsUntil doc near far b e q) (s : Bears doc near far b e q) (d : ℕ) (some : 1 ≤ d) (within : d ≤ suc e)
    (idle : (r : Identity) → is_controller doc r.process ≡ true → (r.process ≡ q.process → ⊥) → (k : ℕ) → k < d → Acts doc r k → ⊥) where
  -- the others are steady from d on as well: none of them ends then
  pub others_since : (p : ℕ) → is_controller doc p ≡ true → (p ≡ q.process → ⊥) → IsSteady doc near far d e p
  others_since p role other = record {
    passes = λ k from to. steady.passes k (omega arith) to;
    crashes = λ x at fact mine. omega (arith, steady.crashes x at fact mine);
    stops = λ x at fact mine. omega (arith, steady.stops x at fact mine);
    ends = λ x at fact mine same. no_end x (place_of x (history doc (suc e)) at).before (place_of x (history doc (suc e)) at).position fact mine same;
  }
    where
      steady : IsSteady doc near far 0 e p
      steady = l.others p role other

      no_end : (x : Entry) (T : List Entry) → IsTail (x ∷ T) (history doc (suc e)) → x.fact ≡ Ends → has (of_process p x.actor) ≡ true → x.beat ≡ d → ⊥
      no_end x T stands fact mine same = by_term (same_or_fresh doc r x.beat (history doc x.beat) T lasts low)
        where
          made : MadeEnd doc x.beat x.step x.actor T
          made = subst (λ d. MadeAs doc x.beat x.step x.actor d T) fact (are_made doc s.rules (suc e) x T stands)

          r : Identity
          r = made.q

          process : r.process ≡ p
          process = by_test (r.process == p) refl (sym (ap (λ who. has (of_process p who)) made.by) ∙ mine)
            where
              by_test : (t : Bool) → (r.process == p) ≡ t → has (when t r.incarnation) ≡ true → r.process ≡ p
              by_test true is has_it = eqb-true r.process p is
              by_test false is has_it = absurd (false_is has_it)

          role_r : is_controller doc r.process ≡ true
          role_r = ap (is_controller doc) process ∙ role

          lasts : 1 ≤ renew_deadline doc r.process
          lasts = (s.calls r.process role_r).deadline

          below : IsTail T (history doc (suc e))
          below = tail_trans T (x ∷ T) (history doc (suc e)) (inr (tail_all T)) stands

          within_e : x.beat ≤ e
          within_e = ways_of.beat_before doc e x T stands

          above_start : IsTail (history doc x.beat) T
          above_start = not_before doc x.beat (suc e) x T (omega (arith, within_e)) stands (omega arith) (omega (arith, made.step_is))

          low : Above (λ y. x.beat ≤ y.beat) (history doc x.beat) T
          low = (next_above (λ y. x.beat ≤ y.beat) (history doc x.beat) T (history doc (suc e)) x (from_beat doc x.beat (suc e) (omega (arith, within_e))) above_start stands).1

          before : (k : ℕ) → suc k ≡ x.beat → deadline doc r (history doc x.beat) ≡ Some made.at → ⊥
          before k is was = none_is made.at (sym (unled doc s.rules near far 0 e (d - 1) r role_r lasts (subst (IsSteady doc near far 0 e) (sym process) steady) (omega (arith, within))
              (λ k from to. idle r role_r (λ is. other (sym process ∙ is)) k (omega (arith, to, some))) k (omega arith) (omega (arith, is, same)) (ap (λ k. alive r.process (history doc k)) is ∙ there)) ∙ ap (λ k. deadline doc r (history doc k)) is ∙ was)
            where
              over : Over r (history doc x.beat) → ⊥
              over o = (over_stays doc s.rules (suc e) r (history doc x.beat) T below above_start o).1 made.up

              there : alive r.process (history doc x.beat) ≡ Some r.incarnation
              there = still_up r (history doc x.beat) (set_counted doc r x.beat made.at was) over

          by_beat : (y : ℕ) → y ≡ x.beat → deadline doc r (history doc x.beat) ≡ Some made.at → ⊥
          by_beat zero is was = omega (arith, is, same, some)
          by_beat (suc k) is was = before k is was

          by_term : (deadline doc r T ≡ deadline doc r (history doc x.beat)) ⊎ IsFresh doc r x.beat T → ⊥
          by_term (inl unchanged) = by_beat x.beat refl (sym unchanged ∙ made.deadline_is)
          by_term (inr fresh) =
              let later = fresh.later in
              omega (arith, later, some_is fresh.at made.at (sym fresh.is ∙ made.deadline_is), ltb-false (local doc r.process x.beat) made.at made.late)

  -- and what comes from d on is a calm, where the leader's own requests of before arrive in time
  module _ (quiet : IsQuiet doc d e q.process) (replies : RepliesCome doc far d q.process) (room : d + far ≤ suc e)
      (own : (x : Entry) (T : List Entry) → IsTail (x ∷ T) (history doc d) → (m : Sent) → x.actor ≡ actor_of m.who → x.fact ≡ Sends m.call m.arrives → m.who.process ≡ q.process → is_controller doc m.who.process ≡ true → (at : ℕ) → m.arrives ≡ Some at → at < d + far) where
    request_in : (x : Entry) → In x (history doc d) → (m : Sent) → sent_of x.actor x.fact ≡ Some m → key_eq (key_of m.call.request) election ≡ true → (at : ℕ) → m.arrives ≡ Some at → at < d + far
    request_in x stands m is key at arrives = by_role (is_controller doc m.who.process) refl
      where
        place : (T : List Entry) × IsTail (x ∷ T) (history doc d)
        place = let p = place_of x (history doc d) stands in (p.before, p.position)

        early : x.beat ≤ d - 1
        early = ⊎_elim (λ lt. omega (arith, lt)) (λ first. omega (arith, first.0)) (entries_are_earlier doc d x stands)

        facts : (x.actor ≡ actor_of m.who) × (x.fact ≡ Sends m.call m.arrives)
        facts = sends_of x.actor x.fact m is

        soon : is_controller doc m.who.process ≡ true → at < d + far
        soon role =
            ⊎_elim (λ same. own x place.0 place.1 m facts.0 facts.1 same role at arrives)
            (λ other. omega (
              arith,
              some,
              early,
              (request_way doc s.rules near far e m.who.process (l.others m.who.process role other) d x place.0 m.who m.call m.arrives place.1 role refl facts.0 facts.1 (omega (arith, early, within)) at arrives
                  (λ j low high soon. l.goes j (omega (arith, soon, early, room, some)))).most,
            ))
            (cases_eq m.who.process q.process)

        by_role : (t : Bool) → is_controller doc m.who.process ≡ t → at < d + far
        by_role true role = soon role
        by_role false role = absurd (true_is (sym key ∙ right.may.kubelet role))
          where
            right : SentRight doc (greatest_below doc (length doc.controllers)) (d - 1) (view (history doc (suc (d - 1)))) m
            right =
                subst (λ o. IfSome o (SentRight doc (greatest_below doc (length doc.controllers)) (d - 1) (view (history doc (suc (d - 1)))))) is
                ((turn_right doc (greatest_below doc (length doc.controllers)) (rates_at_most doc) (bears_own doc (greatest_below doc (length doc.controllers)) s.rules) s.sound (processes doc) (d - 1) (omega (arith, within, s.end))).core.entries x
                (in_tail x (history doc d) (history doc (suc (d - 1))) (later_tail doc d (suc (d - 1)) (omega arith)) stands)).0

    reply_in : (x : Entry) → In x (history doc d) → (m : Back) → back_of x.actor x.fact ≡ Some m → key_eq (key_of m.call.request) election ≡ true → (at : ℕ) → m.comes ≡ Some at → at < d + far
    reply_in x stands m is key at comes = by_role (is_controller doc m.who.process) refl
      where
        place : (T : List Entry) × IsTail (x ∷ T) (history doc d)
        place = let p = place_of x (history doc d) stands in (p.before, p.position)

        early : x.beat ≤ d - 1
        early = ⊎_elim (λ lt. omega (arith, lt)) (λ first. omega (arith, first.0)) (entries_are_earlier doc d x stands)

        facts : IsAnswer x.actor x.fact m
        facts = answer_facts x.actor x.fact m is

        others : (role : is_controller doc m.who.process ≡ true) → (m.who.process ≡ q.process → ⊥) → at < d + far
        others role other = omega (arith, passes.reply_most, early, some, some_is at (x.beat + reply_delay m.who.process (with_events doc x.beat)) (sym comes ∙ arrival))
          where
            steady : IsSteady doc near far 0 e m.who.process
            steady = l.others m.who.process role other

            passes : Passes doc near far m.who.process x.beat
            passes = steady.passes x.beat (omega arith) (omega (arith, early, within))

            made : MadeAnswer doc x.beat x.step x.actor m.call m.reply m.comes facts.wrote place.0
            made = subst (λ d. MadeAs doc x.beat x.step x.actor d place.0) facts.fact (are_made doc s.rules d x place.0 place.1)

            whose : made.s.who ≡ m.who
            whose = actor_is made.s.who m.who (sym made.by ∙ facts.by)

            arrival : m.comes ≡ Some (x.beat + reply_delay m.who.process (with_events doc x.beat))
            arrival =
                made.comes_is ∙ ap (λ (r : Identity). reply_arrival doc r.process x.beat place.0) whose
                ∙ reply_passes doc near far m.who.process x.beat place.0 passes (forces_stand doc s.rules d x place.0 place.1 (omega (arith, made.step_is)))
                (steady.passes (x.beat + reply_delay m.who.process (with_events doc x.beat)) (omega arith) (omega (arith, passes.reply_most, early, room, some))).awake

        its_own : m.who.process ≡ q.process → at < d + far
        its_own same =
            subst (λ o. IfSome o (λ at. at < d + far)) comes
            (subst (λ o. IfSome o (λ s. IfSome s.comes (λ m. m < d + far))) is (replies x stands (own_process (record { process = q.process; incarnation = m.who.incarnation }) x.actor (facts.by ∙ ap (λ (p : ℕ). actor_of (record { process = p; incarnation = m.who.incarnation })) same))))

        by_role : (t : Bool) → is_controller doc m.who.process ≡ t → at < d + far
        by_role true role = ⊎_elim its_own (others role) (cases_eq m.who.process q.process)
        by_role false role = absurd (true_is (sym key ∙ asks_elsewhere doc s.sound s.rules (d - 1) (omega (arith, within, s.end)) x m (in_tail x (history doc d) (history doc (suc (d - 1))) (later_tail doc d (suc (d - 1)) (omega arith)) stands) is role))

    pub calm_since : IsCalm doc near far d e
    calm_since = record {
      each = λ p role. ⊎_elim (λ same. inr (subst (IsQuiet doc d e) (sym same) quiet)) (λ other. inl (others_since p role other)) (cases_eq p q.process);
      requests = λ x stands. each_some (sent_of x.actor x.fact) _ (λ m is key. each_some m.arrives _ (request_in x stands m is key));
      replies = λ x stands. each_some (back_of x.actor x.fact) _ (λ m is key. each_some m.comes _ (reply_in x stands m is key));
    }

  pub times_since : AreInTime doc near far d e
  times_since p role steady = restrict_time doc far 0 d e e p (omega arith) (omega arith) (s.calls p role)
