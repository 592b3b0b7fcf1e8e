-- The reply to a call counts within two ways, where the sender is up as it comes.
use Rattle.std.proofs.Common.{◌≡◌, ◌<◌, ◌≤◌, ℕ, suc, ◌+◌, ◌*◌, Bool, true, false, List, [], ◌∷◌, Option, Some, None, refl, sym, ap, ◌∙◌, subst, inl, inr, ⊎_elim, arith}
use Rattle.std.proofs.lemmas.Bool.{eq-eqb}
use Rattle.kube_objects.specs.declared.call.Reply.{Reply}
use Rattle.kube_objects.specs.Answers.{answer}
use Rattle.kube_objects.specs.Document.{Doc, is_controller}
use Rattle.kube_objects.specs.Elector.{follow_on, leads}
use Rattle.kube_objects.specs.Entry.{Entry, Identity, Call, Sends, Delivers, actor_of, entry}
use Rattle.kube_objects.specs.Identities.{is_by}
use Rattle.kube_objects.specs.Newest.{when}
use Rattle.kube_objects.specs.Process.{open_as, alive, call_in, is_late, counted}
use Rattle.kube_objects.specs.Turns.{with_reply}
use Rattle.kube_objects.specs.Wire.{Back, reply_arrival}
use Rattle.kube_objects.specs.Own.{ReleasesByStop}
use Rattle.history.specs.History.{history}
use Rattle.history.specs.Steps.{deliver_as, delivered, react_as}
use Rattle.history_laws.specs.Order.{IsWithin, IsOrdered}
use Rattle.history_laws.specs.Tails.{In, IsTail}
use Rattle.history_laws.proofs.Order.{entries_are_earlier, entries_are_ordered}
use Rattle.history_laws.proofs.Plainly.{none_is, false_is, same_self}
use Rattle.history_laws.proofs.Tailed.{tail_all, tail_trans, in_tail, later_tail, two_adds, same_head, same_rest, react_as_adds}
use Rattle.call_laws.specs.Answering.{with_events, with_answers}
use Rattle.call_laws.specs.Waiting.{IsClosed}
use Rattle.call_laws.proofs.Above.{in_head, next_above}
use Rattle.call_laws.proofs.Answering.{before_events}
use Rattle.call_laws.proofs.Making.{are_made, MadeDelivery}
use Rattle.call_laws.proofs.Placing.{from_beat, in_own_beat, not_before}
use Rattle.call_laws.proofs.Waiting.{calls_wait}
use Rattle.takeover_laws.specs.Calm.{IsSteady, IsInTime}
use Rattle.takeover_laws.specs.Rounds.{IsRound}
use Rattle.takeover_laws.proofs.Deliveries.{Waits, delivered_adds}
use Rattle.takeover_laws.proofs.Rounds.{rounds_are_short}
use Rattle.takeover_laws.proofs.Closing.{closed_by}
use Rattle.takeover_laws.proofs.Writers.{delivers, follow_adds, timely}
use Rattle.calm_laws.proofs.Begun.{Begun, begun_by, by_is, waits_between}
use Rattle.calm_laws.proofs.First.{entry_is}
use Rattle.calm_laws.proofs.Origins.{sends_differ}

-- ---- what stands below a delivery

-- no entry stands above one of a later beat, or of a later step of its beat
pub within_below : (h : List Entry) → IsOrdered h → (x : Entry) (T : List Entry) → IsTail (x ∷ T) h → (f : Entry) → In f T → IsWithin x.beat x.step f
within_below [] s x T at f stands = absurd (nothing at)
  where
    nothing : x ∷ T ≡ [] → ⊥
    nothing is = cc
within_below (e ∷ h) s x T (inl is) f stands = subst (λ (x : Entry). IsWithin x.beat x.step f) (sym (same_head x e T h is)) (s.0 f (subst (In f) (same_rest x e T h is) stands))
within_below (e ∷ h) s x T (inr at) f stands = within_below h s.1 x T at f stands

-- a delivery begins with an entry of step 3
record Begins (doc : Doc) (k : ℕ) (h all : List Entry) : Type 0 where
  x : Entry
  beat : x.beat ≡ k
  step : x.step ≡ 3
  position : IsTail (x ∷ h) all

begins : (doc : Doc) (k : ℕ) (b : Back) (h : List Entry) → Begins doc k h (delivered doc k b h)
begins doc k b h = by_counted (counted doc b.who k b.call.number h)
  where
    by_role : (w : Call) (t : Bool) → Begins doc k h (react_as doc k b.who w b.reply t (with_reply k b.who w b.reply h))
    by_role w t =
        let replied = with_reply k b.who w b.reply h in
        record { x = entry k 3 b.who (Delivers w b.reply true); beat = refl; step = refl; position = react_as_adds doc k b.who w b.reply t replied replied (tail_all replied) }

    by_counted : (o : Option Call) → Begins doc k h (deliver_as doc k b.who b.call b.reply o h)
    by_counted None = record { x = entry k 3 b.who (Delivers b.call b.reply false); beat = refl; step = refl; position = tail_all (entry k 3 b.who (Delivers b.call b.reply false) ∷ h) }
    by_counted (Some w) = by_role w (is_controller doc b.who.process)

-- ---- a call

-- a reply to the call counts by a beat, at a position after its sending
pub record IsReplied (doc : Doc) (q : Identity) (call : Call) (sent : List Entry) (to : ℕ) : Type 0 where
  pub at : ℕ
  pub most : at ≤ to
  pub reply : Reply
  pub before : List Entry
  pub position : IsTail (entry at 3 q (Delivers call reply true) ∷ before) (history doc (suc at))
  pub since : IsTail sent before

module _ (doc : Doc) (rules : ReleasesByStop doc) (near far a e : ℕ) (q : Identity) (role : is_controller doc q.process ≡ true) (steady : IsSteady doc near far a e q.process) (time : IsInTime doc far a e q.process) (one : 1 ≤ near)
    (m : ℕ) (x : Entry) (T : List Entry) (call : Call) (arrives : Option ℕ) (at : IsTail (x ∷ T) (history doc m)) (actor : x.actor ≡ actor_of q) (fact : x.fact ≡ Sends call arrives) (step : 3 ≤ x.step)
    (sent : call.sent ≡ x.beat) (opens : open_as call.kind call ≡ Some call) (from : a ≤ x.beat) (room : x.beat + 2 * far ≤ e) where
  pub round : IsRound doc near far q call arrives x.beat
  round = rounds_are_short doc rules near far a e q steady one m x T call arrives at actor fact (omega (arith, step)) from room

  abbrev pub y : ℕ
  y = round.comes

  pub y_most : y ≤ x.beat + 2 * far
  y_most = omega (arith, round.most, round.comes_most)

  pub y_least : x.beat < y
  y_least = omega (arith, one, round.least, round.comes_least)

  abbrev back : Back
  back = record { who = q; call = call; reply = answer call.request round.before; comes = reply_arrival doc q.process round.at round.before }

  abbrev pub before : List Entry
  before = round.deliveries.before

  abbrev all : List Entry
  all = delivered doc y back before

  all_high : IsTail all (history doc (suc y))
  all_high = round.deliveries.position

  before_low : IsTail before all
  before_low = delivered_adds doc y back before

  -- entries of step 4 below the delivery are of earlier beats
  pub earlier : (z : Entry) → In z before → z.step ≡ 4 → z.beat < y
  earlier z stands four = ⊎_elim (λ lt. omega (arith, lt, b.beat)) (λ here. omega (arith, here.1, b.step, four)) (within_below (history doc (suc y)) (entries_are_ordered doc (suc y)) b.x before (tail_trans (b.x ∷ before) all (history doc (suc y)) b.position all_high) z stands)
    where
      b : Begins doc y before all
      b = begins doc y back before

  pub sent_low : IsTail (x ∷ T) before
  sent_low =
      tail_trans (x ∷ T) (history doc y) before (tail_trans (x ∷ T) (history doc (suc x.beat)) (history doc y) (in_own_beat doc m x T at) (later_tail doc (suc x.beat) y y_least))
      (tail_trans (history doc y) (with_answers doc y) before (tail_trans (history doc y) (with_events doc y) (with_answers doc y) (before_events doc y) (two_adds doc y (with_events doc y) (with_events doc y) (tail_all (with_events doc y)))) round.deliveries.after)

  pub before_high : IsTail before (history doc (suc y))
  before_high = tail_trans before all (history doc (suc y)) before_low all_high

  on_time : (k : ℕ) → x.beat ≤ k → k ≤ y → is_late doc q k call ≡ false
  on_time k le to = timely doc rules near far a e e q role steady time (omega arith) one call x.beat k sent from le (omega (arith, to, y_most)) (omega (arith, to, y_most, room))

  module _ (up : alive q.process before ≡ Some q.incarnation) where
    -- it doesn't wait any longer
    unanswered : call_in q all ≡ Some call → ⊥
    unanswered waits = none_is None (sym (b.alone reply before reply_low below) ∙ ap (λ t. when t None) (same_self q))
      where
        b : Begun q call all
        b = begun_by q all call waits

        same : b.f ∷ b.before ≡ x ∷ T
        same = sends_differ doc rules (suc y) q b.f x b.before T call call b.arrives arrives (tail_trans (b.f ∷ b.before) all (history doc (suc y)) b.position all_high) (tail_trans (x ∷ T) before (history doc (suc y)) sent_low before_high) b.actor actor b.fact fact refl

        below : IsTail (b.f ∷ b.before) before
        below = subst (λ g. IsTail g before) (sym same) sent_low

        reply : Entry
        reply = entry y 3 q (Delivers call back.reply true)

        w : Waits doc y q call before
        w = record { up = up; call_is = waits_between q call all b before below before_low }

        reply_low : IsTail (reply ∷ before) all
        reply_low =
            subst (IsTail (reply ∷ before)) (sym (delivers doc rules q y call back before role refl (eq-eqb call.number call.number refl) (on_time y (omega (arith, y_least)) (omega arith)) w))
            (follow_adds doc y q (leads q (with_reply y q call back.reply before)) (follow_on doc q y call.kind call.request back.reply (with_reply y q call back.reply before)) (with_reply y q call back.reply before))

    replied : IsClosed q call (x ∷ T) all → IsReplied doc q call (x ∷ T) (x.beat + 2 * far)
    replied c =
        closed_by q call c.e c.before doc (IsReplied doc q call (x ∷ T) (x.beat + 2 * far)) (are_made doc rules (suc y) c.e c.before position) c.closes delivers_it
        (λ made mine late. absurd (false_is (sym (on_time c.e.beat from_x upto) ∙ late)))
        (λ fact own. absurd (omega (
          arith,
          from,
          from_x,
          steady.stops c.e (in_tail c.e (history doc (suc y)) (history doc (suc e)) (later_tail doc (suc y) (suc e) (omega (arith, y_most, room))) (in_head c.e c.before (history doc (suc y)) position)) fact own,
        )))
      where
        position : IsTail (c.e ∷ c.before) (history doc (suc y))
        position = tail_trans (c.e ∷ c.before) all (history doc (suc y)) c.position all_high

        from_x : x.beat ≤ c.e.beat
        from_x =
            (next_above (λ z. x.beat ≤ z.beat) (history doc x.beat) c.before (history doc (suc y)) c.e (from_beat doc x.beat (suc y) (omega (arith, y_least)))
            (tail_trans (history doc x.beat) (x ∷ T) c.before
            (inr (not_before doc x.beat (suc y) x T (omega (arith, y_least)) (tail_trans (x ∷ T) before (history doc (suc y)) sent_low before_high) (omega arith) (omega (arith, step)))) c.since) position).0

        upto : c.e.beat ≤ y
        upto = ⊎_elim (λ lt. omega (arith, lt)) (λ first. omega (arith, first.0)) (entries_are_earlier doc (suc y) c.e (in_head c.e c.before (history doc (suc y)) position))

        delivers_it : (w : Call) (reply : Reply) → c.e.fact ≡ Delivers w reply true → MadeDelivery doc c.e.beat c.e.step c.e.actor w reply c.before → is_by q c.e.actor ≡ true → w ≡ call → IsReplied doc q call (x ∷ T) (x.beat + 2 * far)
        delivers_it w reply fact made own same = record {
          at = c.e.beat;
          most = omega (arith, upto, y_most);
          reply = reply;
          before = c.before;
          position =
              subst (λ z. IsTail (z ∷ c.before) (history doc (suc c.e.beat))) (entry_is c.e 3 q (Delivers call reply true) made.step_is (by_is q c.e.actor own) (fact ∙ ap (λ w. Delivers w reply true) same))
              (in_own_beat doc (suc y) c.e c.before position);
          since = c.since;
        }

    pub is_replied : IsReplied doc q call (x ∷ T) (x.beat + 2 * far)
    is_replied =
        ⊎_elim (λ waits. absurd (unanswered waits)) replied
        (calls_wait doc rules (suc y) all all_high q call arrives x T role (tail_trans (x ∷ T) before all sent_low before_low) actor fact opens)
