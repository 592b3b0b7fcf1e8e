-- The reply to a call that goes its round counts for the call, where the caller stays up and the call is in time.
use Rattle.std.proofs.Common.{◌≡◌, ◌⊎◌, ◌≤◌, ℕ, suc, ◌-◌, ◌*◌, ◌+◌, ◌==◌, Bool, true, false, List, ◌∷◌, Option, Some, refl, sym, ap, ◌∙◌, subst, inr, ⊎_elim, arith}
use Rattle.std.proofs.Math.Nat.{mul-le-mul_right}
use Rattle.std.proofs.lemmas.Bool.{ltb-true, ltb-false, eq-eqb, eqb-true}
use Rattle.kube_objects.specs.declared.call.Reply.{Reply}
use Rattle.kube_objects.specs.Answers.{answer, written}
use Rattle.kube_objects.specs.Clocks.{local}
use Rattle.kube_objects.specs.Document.{Doc, call_timeout}
use Rattle.kube_objects.specs.Entry.{Entry, Identity, Call, Stops, Answers, Delivers, entry}
use Rattle.kube_objects.specs.Identities.{is_same, is_by, of_process}
use Rattle.kube_objects.specs.InFlight.{is_due, replies_due}
use Rattle.kube_objects.specs.Newest.{has}
use Rattle.kube_objects.specs.Own.{ReleasesByStop}
use Rattle.kube_objects.specs.Process.{alive, call_in, is_late}
use Rattle.kube_objects.specs.Wire.{Back, back_of, reply_arrival}
use Rattle.kube_objects.proofs.Clocks.{local_up}
use Rattle.kube_objects.proofs.Own.{is_late-own}
use Rattle.history.specs.History.{history}
use Rattle.history.specs.Steps.{delivered, deliver_all, step_three}
use Rattle.history_laws.specs.Order.{IsWithin}
use Rattle.history_laws.specs.Tails.{In, IsTail}
use Rattle.history_laws.proofs.Counting.{counted_is}
use Rattle.history_laws.proofs.Plainly.{some_is, and_left, and_right, and_both, same_is, same_self}
use Rattle.history_laws.proofs.Tailed.{tail_all, tail_trans, later_tail, two_adds, same_head}
use Rattle.history_laws.proofs.Walk.{Coming}
use Rattle.span_laws.specs.Spans.{RunsAtMost}
use Rattle.span_laws.proofs.Spans.{goes_most}
use Rattle.call_laws.specs.Answering.{with_events, with_answers}
use Rattle.call_laws.specs.Waiting.{IsClosed}
use Rattle.call_laws.proofs.Above.{in_head, place_of}
use Rattle.call_laws.proofs.Answering.{before_events, answers_position, deliveries_position}
use Rattle.call_laws.proofs.Making.{MadeDelivery, MadeExpiry, are_made}
use Rattle.call_laws.proofs.Once.{answers_differ, due_at}
use Rattle.call_laws.proofs.Placing.{in_own_beat, within_answers}
use Rattle.takeover_laws.specs.Rounds.{IsRound}
use Rattle.takeover_laws.proofs.Closing.{closed_by}
use Rattle.takeover_laws.proofs.Deliveries.{Waits, First, first_for, delivered_adds, deliveries_add, all_coming, any_coming}
use Rattle.takeover_laws.proofs.Rounds.{in_answers}

-- a call isn't late as long as its reply can take
pub reply_in_time : (doc : Doc) → ReleasesByStop doc → (far a e : ℕ) (q : Identity) (fast : ℕ) → RunsAtMost doc q.process a e fast → (2 * far) * fast ≤ call_timeout doc q.process
    → (call : Call) (j y : ℕ) → call.sent ≡ j → a ≤ j → j ≤ y → y ≤ j + 2 * far → y ≤ e → is_late doc q y call ≡ false
reply_in_time doc rules far a e q fast runs timeout call j y sent from le most to = by_test (is_late doc q y call) refl
  where
    least : local doc q.process y ≤ local doc q.process call.sent + call_timeout doc q.process
    least = omega (arith, ap (local doc q.process) sent, goes_most doc q.process a e fast runs j y from le to, mul-le-mul_right fast the_beats, timeout)
      where
        the_beats : y - j ≤ 2 * far
        the_beats = omega (arith, most)

    by_test : (b : Bool) → is_late doc q y call ≡ b → is_late doc q y call ≡ false
    by_test false is = is
    by_test true is = absurd (omega (arith, ltb-true (local doc q.process call.sent + call_timeout doc q.process) (local doc q.process y) (sym (is_late-own doc rules q y call) ∙ is), least))

-- unstopped: nothing stops the caller's process above the call
module _ (doc : Doc) (rules : ReleasesByStop doc) (near far n : ℕ) (one : 1 ≤ near) (q : Identity) (x : Entry) (T : List Entry) (call : Call) (arrives : Option ℕ) (at : IsTail (x ∷ T) (history doc (suc n)))
    (r : IsRound doc near far q call arrives x.beat) (comes : r.comes ≤ n) (in_time : is_late doc q r.comes call ≡ false)
    (up_at : (h : List Entry) → IsTail T h → IsTail h (history doc (suc n)) → alive q.process h ≡ Some q.incarnation)
    (waits_on : (h : List Entry) → IsTail h (history doc (suc n)) → IsTail (x ∷ T) h → (call_in q h ≡ Some call) ⊎ IsClosed q call (x ∷ T) h)
    (unstopped : (z : Entry) (h : List Entry) → IsTail (z ∷ h) (history doc (suc n)) → IsTail (x ∷ T) h → z.fact ≡ Stops → has (of_process q.process z.actor) ≡ true → ⊥) where
  abbrev y : ℕ
  y = r.comes

  abbrev two : List Entry
  two = with_answers doc y

  abbrev answer_entry : Entry
  answer_entry = entry r.at 2 q (Answers call (answer call.request r.before) (reply_arrival doc q.process r.at r.before) (written call.request r.before))

  abbrev pub back : Back
  back = record { who = q; call = call; reply = answer call.request r.before; comes = reply_arrival doc q.process r.at r.before }

  at_two : IsTail two (history doc (suc n))
  at_two = tail_trans two (history doc (suc y)) (history doc (suc n)) (answers_position doc y) (later_tail doc (suc y) (suc n) (omega (arith, comes)))

  answer_at : IsTail (answer_entry ∷ r.before) (history doc (suc n))
  answer_at = tail_trans (answer_entry ∷ r.before) (history doc (suc r.at)) (history doc (suc n)) r.position (later_tail doc (suc r.at) (suc n) (omega (arith, comes, r.comes_least)))

  sent_early : IsTail (x ∷ T) (with_events doc y)
  sent_early =
      tail_trans (x ∷ T) (history doc y) (with_events doc y)
      (tail_trans (x ∷ T) (history doc (suc x.beat)) (history doc y) (in_own_beat doc (suc n) x T at) (later_tail doc (suc x.beat) y (omega (arith, one, r.least, r.comes_least))))
      (before_events doc y)

  pub sent_low : IsTail (x ∷ T) two
  sent_low = tail_trans (x ∷ T) (with_events doc y) two sent_early (two_adds doc y (with_events doc y) (with_events doc y) (tail_all (with_events doc y)))

  -- a reply to the call is that one
  same_back : (g : List Entry) (z : Entry) (b : Back) → IsTail g (history doc (suc n)) → In z g → back_of z.actor z.fact ≡ Some b → b.who ≡ q → b.call.number ≡ call.number → b ≡ back
  same_back g z b within_n stands is who number =
      let p = place_of z g stands in
      let same = answers_differ doc rules (suc n) z answer_entry p.before r.before b back (tail_trans (z ∷ p.before) g (history doc (suc n)) p.position within_n) answer_at is refl who number in
      some_is b back (sym is ∙ ap (λ (z : Entry). back_of z.actor z.fact) (same_head z answer_entry p.before r.before same))

  -- it still waits as the replies of the beat come
  unclosed : IsClosed q call (x ∷ T) two → ⊥
  unclosed c = closed_by q call c.e c.before doc ⊥ (are_made doc rules (suc n) c.e c.before position) c.closes delivers_it expires_it (unstopped c.e c.before position c.since)
    where
      position : IsTail (c.e ∷ c.before) (history doc (suc n))
      position = tail_trans (c.e ∷ c.before) two (history doc (suc n)) c.position at_two

      below : IsTail c.before (history doc (suc n))
      below = tail_trans c.before (c.e ∷ c.before) (history doc (suc n)) (inr (tail_all c.before)) position

      early : IsWithin y 2 c.e
      early = within_answers doc y c.e (in_head c.e c.before two c.position)

      upto : c.e.beat ≤ y
      upto = ⊎_elim (λ lt. omega (arith, lt)) (λ here. omega (arith, here.0)) early

      delivers_it : (w : Call) (reply : Reply) → c.e.fact ≡ Delivers w reply true → MadeDelivery doc c.e.beat c.e.step c.e.actor w reply c.before → is_by q c.e.actor ≡ true → w ≡ call → ⊥
      delivers_it w reply fact made own same =
          let counts = counted_is doc made.b.who c.e.beat made.b.call.number c.before w made.counted_is in
          let mine : made.b.who ≡ q = same_is made.b.who q (sym (ap (is_by q) made.by) ∙ own) in
          let b = same_back c.before made.coming.e made.b below made.coming.stands made.coming.is mine (sym counts.number ∙ ap (λ (c : Call). c.number) same) in
          let beat : c.e.beat ≡ y = some_is c.e.beat y (sym (due_at c.e.beat made.b.comes made.coming.now) ∙ ap (λ (b : Back). b.comes) b ∙ r.comes_is) in
          ⊎_elim (λ lt. omega (arith, lt, beat)) (λ here. omega (arith, here.1, made.step_is)) early

      expires_it : (made : MadeExpiry doc c.e.beat c.e.actor call c.before) → made.q ≡ q → is_late doc q c.e.beat call ≡ true → ⊥
      expires_it made mine late =
          omega (
            arith,
            ltb-true (local doc q.process call.sent + call_timeout doc q.process) (local doc q.process c.e.beat) (sym (is_late-own doc rules q c.e.beat call) ∙ late),
            ltb-false (local doc q.process call.sent + call_timeout doc q.process) (local doc q.process y) (sym (is_late-own doc rules q y call) ∙ in_time),
            local_up doc q.process c.e.beat y upto,
          )

  waiting : Waits doc y q call two
  waiting = record { up = up_at two (tail_trans T (x ∷ T) two (inr (tail_all T)) sent_low) at_two; call_is = ⊎_elim (λ waits. waits) (λ closed. absurd (unclosed closed)) (waits_on two at_two sent_low) }

  first : First doc y q call (Coming y two) two (deliver_all doc y (replies_due y two) two)
  first =
      first_for doc rules y q call (delivered_adds doc y) (deliveries_add doc y) (Coming y two) (replies_due y two) two waiting (all_coming doc y q call two two (λ e at. at))
      (any_coming doc y q call two two answer_entry back (in_answers doc r.at y answer_entry r.before (omega (arith, one, r.comes_least)) r.position) refl
      (subst (λ o. is_due y o ≡ true) (sym r.comes_is) (eq-eqb y y refl)) (and_both (is_same q q) (call.number == call.number) (same_self q) (eq-eqb call.number call.number refl)))

  mine : first.b.who ≡ q
  mine = same_is first.b.who q (and_left (is_same first.b.who q) (call.number == first.b.call.number) first.mine)

  number : (call.number == first.b.call.number) ≡ true
  number = and_right (is_same first.b.who q) (call.number == first.b.call.number) first.mine

  that : first.b ≡ back
  that = same_back two first.right.e first.b at_two first.right.stands first.right.is mine (sym (eqb-true call.number first.b.call.number number))

  -- the first that is delivered for the call as it waits
  pub record Counts : Type 0 where
    pub before : List Entry
    pub low : IsTail (with_answers doc r.comes) before
    pub waits : Waits doc r.comes q call before
    pub number : (call.number == call.number) ≡ true
    pub three : IsTail (delivered doc r.comes back before) (step_three doc r.comes (with_answers doc r.comes))
    pub position : IsTail (delivered doc r.comes back before) (history doc (suc r.comes))

  pub counts : Counts
  counts = record { before = first.before; low = first.low; waits = first.waits; number = eq-eqb call.number call.number refl; three = at_three; position = tail_trans (delivered doc y back first.before) (step_three doc y two) (history doc (suc y)) at_three (deliveries_position doc y) }
    where
      at_three : IsTail (delivered doc y back first.before) (step_three doc y two)
      at_three = subst (λ b. IsTail (delivered doc y b first.before) (step_three doc y two)) that first.position
