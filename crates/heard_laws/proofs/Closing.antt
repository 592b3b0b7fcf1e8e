-- A kubelet sends one call at a time: its call is answered before the next one is sent.
use Rattle.std.proofs.Common.{◌≡◌, ◌∙◌, ◌⊎◌, ◌≤◌, ◌<◌, ℕ, suc, ◌+◌, ◌*◌, true, false, List, ◌∷◌, Option, Some, None, refl, sym, ap, subst, inl, inr, ⊎_elim, arith}
use Rattle.std.proofs.lemmas.Bool.{cases_lt}
use Rattle.kube_objects.specs.declared.deed.Actor.{Actor}
use Rattle.kube_objects.specs.Answers.{answer}
use Rattle.kube_objects.specs.Document.{Doc, is_controller, call_timeout}
use Rattle.kube_objects.specs.Entry.{Entry, Identity, Call, Fact, First as FirstPut, Event as Happens, Starts, Crashes, Stops, Stalls, Ends, Sends, Answers, Delivers, Expires, Leads, Ticks, actor_of, entry, StepsDown, ReleaseBegins, ReleaseEnds, ReleaseStops}
use Rattle.kube_objects.specs.Identities.{is_by}
use Rattle.kube_objects.specs.Kubelet.{next_request, send_next}
use Rattle.kube_objects.specs.Newest.{when, join}
use Rattle.kube_objects.specs.Own.{ReleasesByStop}
use Rattle.kube_objects.specs.Process.{alive, begun, last_call, call_in, is_late}
use Rattle.kube_objects.specs.Turns.{with_reply}
use Rattle.kube_objects.specs.Wire.{Back, back_of}
use Rattle.history.specs.History.{history}
use Rattle.history.specs.Sound.{IsSound}
use Rattle.history_laws.specs.Order.{IsWithin}
use Rattle.history_laws.specs.Tails.{In, IsTail}
use Rattle.history_laws.proofs.Counting.{counted_is}
use Rattle.history_laws.proofs.Order.{entries_are_ordered, entries_are_earlier}
use Rattle.history_laws.proofs.Plainly.{upper, none_is, true_is, same_is, same_self}
use Rattle.history_laws.proofs.Tailed.{tail_all, tail_trans, tails_meet, in_tail, later_tail, same_head}
use Rattle.span_laws.specs.Spans.{RunsAtMost}
use Rattle.call_laws.specs.Answering.{with_events}
use Rattle.call_laws.specs.Waiting.{Closes, IsClosed}
use Rattle.call_laws.proofs.Making.{MadeAs, are_made}
use Rattle.takeover_laws.specs.Calm.{IsSteady}
use Rattle.heard_laws.proofs.Heard.{below_ordered}
use Rattle.heard_laws.proofs.Replied.{timely, Replied, replied, next_low}
use Rattle.heard_laws.proofs.Sending.{KubeletMakes, kubelet_makes, sends_as, by_is, newest_number, none_stays, waits_on}

-- an answer to the identity's call of this number stands in a history
pub record HasAnswer (q : Identity) (number : ℕ) (h : List Entry) : Type 0 where
  pub z : Entry
  pub stands : In z h
  pub b : Back
  pub is : back_of z.actor z.fact ≡ Some b
  pub who : b.who ≡ q
  pub number_is : b.call.number ≡ number

module _ (doc : Doc) (sound : IsSound doc) (rules : ReleasesByStop doc) (m : ℕ) (q : Identity) (role : is_controller doc q.process ≡ false) where
  -- what closes a call but by its expiry is the reply to it
  pub closed_answered : (call : Call) (low h : List Entry) → IsTail h (history doc m) → (c : IsClosed q call low h)
      → ((z : Entry) (Z : List Entry) → IsTail (z ∷ Z) h → IsTail low Z → z.actor ≡ actor_of q → is_late doc q z.beat call ≡ true → call_in q Z ≡ Some call → ⊥) → HasAnswer q call.number h
  closed_answered call low h within c on_time = cases c.e.actor c.e.fact refl refl (are_made doc rules m c.e c.before position) (kubelet_makes doc sound rules m c.e c.before position) c.closes
    where
      position : IsTail (c.e ∷ c.before) (history doc m)
      position = tail_trans (c.e ∷ c.before) h (history doc m) c.position within

      beneath : IsTail c.before h
      beneath = tail_trans c.before (c.e ∷ c.before) h (inr (tail_all c.before)) c.position

      cases : (who : Actor) (d : Fact) → c.e.actor ≡ who → c.e.fact ≡ d → MadeAs doc c.e.beat c.e.step who d c.before → KubeletMakes doc c.e.beat c.e.step who d c.before → Closes q call who d → HasAnswer q call.number h
      cases who (Delivers w reply true) actor fact made makes closes =
          let counts = counted_is doc made.b.who c.e.beat made.b.call.number c.before w made.counted_is in
          record {
            z = made.coming.e;
            stands = in_tail made.coming.e c.before h beneath made.coming.stands;
            b = made.b;
            is = made.coming.is;
            who = same_is made.b.who q (sym (ap (is_by q) made.by) ∙ closes.0);
            number_is = sym counts.number ∙ ap (λ (c : Call). c.number) closes.1;
          }
      cases who (Expires w) actor fact made makes closes =
          let mine : made.q ≡ q = same_is made.q q (sym (ap (is_by q) made.by) ∙ closes.0) in
          let late : is_late doc q c.e.beat call ≡ true = subst (λ p. is_late doc p c.e.beat call ≡ true) mine (subst (λ w. is_late doc made.q c.e.beat w ≡ true) closes.1 made.late) in
          absurd (on_time c.e c.before c.position c.since (actor ∙ by_is q who closes.0) late (sym (ap (λ p. call_in p c.before) mine) ∙ made.waits ∙ ap Some closes.1))
      cases who Stops actor fact made makes closes = absurd (true_is (sym (makes q (by_is q who closes)) ∙ role))
      cases who (FirstPut key object) actor fact made makes closes = elim closes [ ]
      cases who (Happens w version) actor fact made makes closes = elim closes [ ]
      cases who Starts actor fact made makes closes = elim closes [ ]
      cases who Crashes actor fact made makes closes = elim closes [ ]
      cases who Ends actor fact made makes closes = elim closes [ ]
      cases who (Stalls beats) actor fact made makes closes = elim closes [ ]
      cases who StepsDown actor fact made makes closes = absurd made
      cases who (ReleaseBegins at_deadline) actor fact made makes closes = absurd made
      cases who ReleaseEnds actor fact made makes closes = absurd made
      cases who ReleaseStops actor fact made makes closes = absurd made
      cases who (Sends w arrives) actor fact made makes closes = elim closes [ ]
      cases who (Answers w reply at_beat wrote) actor fact made makes closes = elim closes [ ]
      cases who (Delivers w reply false) actor fact made makes closes = elim closes [ ]
      cases who (Leads version) actor fact made makes closes = elim closes [ ]
      cases who (Ticks tick) actor fact made makes closes = elim closes [ ]

module _ (doc : Doc) (sound : IsSound doc) (rules : ReleasesByStop doc) (near far s l e : ℕ) (q : Identity) (role : is_controller doc q.process ≡ false) (steady : IsSteady doc near far s l q.process)
    (up_first : alive q.process (with_events doc s) ≡ Some q.incarnation) (fast : ℕ) (runs : RunsAtMost doc q.process s e fast) (timeout : (2 * far) * fast ≤ call_timeout doc q.process) (one : 1 ≤ near) (within : l ≤ e) where
  module _ (x : Entry) (T : List Entry) (call : Call) (arrives : Option ℕ) (at : IsTail (x ∷ T) (history doc (suc l))) (actor : x.actor ≡ actor_of q) (fact : x.fact ≡ Sends call arrives) (from : s ≤ x.beat) where
    sent_beat : call.sent ≡ x.beat
    sent_beat = ap (λ (c : Call). c.sent) (sends_as doc sound rules (suc l) q role x T call arrives at actor fact).call_is

    -- once a reply counted, the call doesn't wait again
    never_again : (to : x.beat + 2 * far ≤ l) (z : Entry) (Z : List Entry) → IsTail (z ∷ Z) (history doc (suc l)) → x.beat + 2 * far < z.beat → call_in q Z ≡ Some call → ⊥
    never_again to z Z at_z late waits = by_place (tails_meet D (z ∷ Z) (history doc (suc l)) at_d at_z)
      where
        r : Replied doc near far q call arrives x.beat
        r = replied doc sound rules near far s l e q role steady up_first fast runs timeout one within x T call arrives at actor fact from to

        y : ℕ
        y = r.round.comes

        soon : y ≤ x.beat + 2 * far
        soon = omega (arith, r.round.most, r.round.comes_most)

        D : List Entry
        D = with_reply y q call (answer call.request r.round.before) r.before

        at_d : IsTail D (history doc (suc l))
        at_d =
            tail_trans D (history doc (suc y)) (history doc (suc l))
            (tail_trans D (send_next doc y q (next_request doc q y call.request (answer call.request r.round.before)) D) (history doc (suc y)) (next_low doc y q (next_request doc q y call.request (answer call.request r.round.before)) D) r.position)
            (later_tail doc (suc y) (suc l) (omega (arith, soon, to)))

        before_at : IsTail r.before (history doc (suc l))
        before_at = tail_trans r.before D (history doc (suc l)) (inr (tail_all r.before)) at_d

        no_call : call_in q D ≡ None
        no_call = ap (λ b. join (upper (when b None) (last_call q r.before))) (same_self q)

        number_then : call.number ≡ begun q r.before
        number_then = newest_number doc sound rules (suc l) q role r.before before_at call r.waits

        below_z : IsTail Z (history doc (suc l))
        below_z = tail_trans Z (z ∷ Z) (history doc (suc l)) (inr (tail_all Z)) at_z

        number_now : call.number ≡ begun q Z
        number_now = newest_number doc sound rules (suc l) q role Z below_z call waits

        early : IsWithin y 3 z → ⊥
        early (inl lt) = omega (arith, lt, late, soon)
        early (inr here) = omega (arith, here.0, late, soon)

        by_place : IsTail D (z ∷ Z) ⊎ IsTail (z ∷ Z) D → ⊥
        by_place (inl (inl is)) = let b : y ≡ z.beat = ap (λ (x : Entry). x.beat) (same_head (entry y 3 q (Delivers call (answer call.request r.round.before) true)) z r.before Z is) in omega (arith, b, late, soon)
        by_place (inl (inr low)) = none_is call (sym (none_stays doc sound rules (suc l) q role D Z low (omega (arith, number_then, number_now)) no_call) ∙ waits)
        by_place (inr (inl is)) = let b : z.beat ≡ y = ap (λ (x : Entry). x.beat) (same_head z (entry y 3 q (Delivers call (answer call.request r.round.before) true)) Z r.before is) in omega (arith, b, late, soon)
        by_place (inr (inr low)) =
            early (below_ordered (entry y 3 q (Delivers call (answer call.request r.round.before) true)) r.before (history doc (suc l)) at_d (entries_are_ordered doc (suc l)) z (in_tail z (z ∷ Z) r.before low (inl refl)))

    -- it doesn't expire
    pub unexpired : (z : Entry) (Z : List Entry) → IsTail (z ∷ Z) (history doc (suc l)) → IsTail (x ∷ T) Z → is_late doc q z.beat call ≡ true → call_in q Z ≡ Some call → ⊥
    unexpired z Z at_z since late waits = ⊎_elim beyond in_time (cases_lt (x.beat + 2 * far) z.beat)
      where
        upto : z.beat ≤ l
        upto = ⊎_elim (λ lt. omega (arith, lt)) (λ none. omega (arith, none.0)) (entries_are_earlier doc (suc l) z (in_tail z (z ∷ Z) (history doc (suc l)) at_z (inl refl)))

        after : x.beat ≤ z.beat
        after = ⊎_elim (λ lt. omega (arith, lt)) (λ here. omega (arith, here.0)) (below_ordered z Z (history doc (suc l)) at_z (entries_are_ordered doc (suc l)) x (in_tail x (x ∷ T) Z since (inl refl)))

        beyond : x.beat + 2 * far < z.beat → ⊥
        beyond lt = never_again (omega (arith, lt, upto)) z Z at_z lt waits

        in_time : z.beat ≤ x.beat + 2 * far → ⊥
        in_time le = true_is (sym late ∙ timely doc sound rules near far s l e q role steady up_first fast runs timeout one within call x.beat z.beat sent_beat from after le (omega (arith, upto, within)))

    -- before the next call of the identity is sent this one is answered
    pub one_at_a_time : (x2 : Entry) (T2 : List Entry) (next : Call) (comes : Option ℕ) → IsTail (x2 ∷ T2) (history doc (suc l)) → x2.actor ≡ actor_of q → x2.fact ≡ Sends next comes → IsTail (x ∷ T) T2 → HasAnswer q call.number T2
    one_at_a_time x2 T2 next comes at_2 actor_2 fact_2 since = ⊎_elim (λ waits. absurd (none_is call (sym (sends_as doc sound rules (suc l) q role x2 T2 next comes at_2 actor_2 fact_2).free ∙ waits))) closed
        (waits_on doc sound rules (suc l) q role call arrives x T at actor fact T2 below_2 since)
      where
        below_2 : IsTail T2 (history doc (suc l))
        below_2 = tail_trans T2 (x2 ∷ T2) (history doc (suc l)) (inr (tail_all T2)) at_2

        closed : IsClosed q call (x ∷ T) T2 → HasAnswer q call.number T2
        closed c = closed_answered doc sound rules (suc l) q role call (x ∷ T) T2 below_2 c (λ z Z at_z low mine late waits. unexpired z Z (tail_trans (z ∷ Z) T2 (history doc (suc l)) at_z below_2) low late waits)
