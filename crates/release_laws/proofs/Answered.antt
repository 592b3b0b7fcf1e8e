-- Another's call is answered after the release, or sooner than one way after the stop; a Get of it that is answered sooner fails.
use Rattle.std.proofs.Common.{◌≡◌, ◌⊎◌, ◌<◌, ◌≤◌, ℕ, suc, ◌+◌, ◌*◌, true, List, ◌∷◌, Some, refl, sym, ap, ◌∙◌, subst, inl, inr, ⊎_elim, arith}
use Rattle.std.proofs.lemmas.Bool.{cases_lt}
use Rattle.kube_objects.specs.declared.call.Reply.{Reply}
use Rattle.kube_objects.specs.declared.call.Reply.TheVariants.{Done}
use Rattle.kube_objects.specs.declared.call.Request.{Request}
use Rattle.kube_objects.specs.Answers.{answer, written}
use Rattle.kube_objects.specs.Document.{Doc, is_controller}
use Rattle.kube_objects.specs.Entry.{Entry, Identity, Call, Sends, Answers, entry}
use Rattle.kube_objects.specs.Wire.{Sent, back_of, reply_arrival}
use Rattle.history.specs.History.{history}
use Rattle.history.specs.Steps.{answered}
use Rattle.history_laws.specs.Tails.{IsTail}
use Rattle.history_laws.proofs.Order.{entries_are_ordered}
use Rattle.history_laws.proofs.Tailed.{tail_all, tail_trans, tails_meet, later_tail, same_head, same_rest}
use Rattle.call_laws.specs.Answering.{with_events}
use Rattle.call_laws.proofs.Above.{in_head}
use Rattle.call_laws.proofs.Answering.{before_events}
use Rattle.call_laws.proofs.Once.{answers_differ}
use Rattle.call_laws.proofs.Placing.{in_own_beat}
use Rattle.call_laws.proofs.Starting.{actor_is}
use Rattle.takeover_laws.specs.Calm.{IsSteady, IsInTime}
use Rattle.takeover_laws.proofs.Rounds.{sent_is}
use Rattle.takeover_laws.proofs.Writers.{Sending, sending_of}
use Rattle.calm_laws.proofs.Origins.{Origin}
use Rattle.stay_laws.proofs.Closing.{within_below}
use Rattle.silence_laws.specs.Silence.{LeadsUntil, Bears, IsStopped, IsReleased}
use Rattle.silence_laws.proofs.Kept.{not_below}
use Rattle.silence_laws.proofs.Setting.{request_way}
use Rattle.silence_laws.proofs.Waiting.{beats_rise}
use Rattle.silence_laws.proofs.Ways.{beat_before, IsWay}
use Rattle.succession_laws.proofs.Asking.{AfterGet, none_early}
use Rattle.succession_laws.proofs.Ordered.{AreAnswered, ordered}
use Rattle.release_laws.proofs.Accepted.{F, F_e, R, R_e, released, first_low, of_it}

module _ (doc : Doc) (near far b e : ℕ) (q : Identity) (l : LeadsUntil doc near far b e q) (s : Bears doc near far b e q) (stop : IsStopped doc b e q) (rel : IsReleased doc near far b e q)
    (c : Identity) (role : is_controller doc c.process ≡ true) (other : c.process ≡ q.process → ⊥) where
  abbrev below : List Entry
  below = R doc near far b e q l s stop rel

  abbrev above : List Entry
  above = released doc near far b e q l s stop rel

  abbrev before_sending : List Entry
  before_sending = F doc near far b e q l s stop rel

  steady : IsSteady doc near far 0 e c.process
  steady = l.others c.process role other

  my_time : IsInTime doc far 0 e c.process
  my_time = s.calls c.process role

  -- ---- the order of the answers

  module _ (w : Call) (reply : Reply) (T : List Entry) (y : ℕ) (o : Origin doc c w reply T y) (high : IsTail T (history doc (suc e))) where
    abbrev x : Entry
    x = o.begun.f

    abbrev S : List Entry
    S = o.begun.before

    e_high : IsTail (o.e ∷ o.low) (history doc (suc e))
    e_high = tail_trans (o.e ∷ o.low) T (history doc (suc e)) o.answered high

    release_high : IsTail (entry rel.at 2 q (Answers rel.call (Done rel.version) rel.comes (Some rel.object)) ∷ below) (history doc (suc e))
    release_high = R_e doc near far b e q l s stop rel

    differ : entry rel.at 2 q (Answers rel.call (Done rel.version) rel.comes (Some rel.object)) ≡ o.e → ⊥
    differ same = other (ap (λ (p : Identity). p.process) (actor_is c q (sym o.actor ∙ ap (λ (x : Entry). x.actor) (sym same))))

    -- in the last beat in which the release can arrive it isn't answered before
    module _ (under : IsTail (o.e ∷ o.low) below) (late : b + far ≤ o.e.beat) where
      now : o.e.beat ≡ rel.at
      now = omega (arith, late, rel.most, beats_rise doc e (entry rel.at 2 q (Answers rel.call (Done rel.version) rel.comes (Some rel.object))) below release_high o.e o.low under)

      x_high : IsTail (x ∷ S) (history doc (suc e))
      x_high = tail_trans (x ∷ S) (o.e ∷ o.low) (history doc (suc e)) (inr o.sent_low) e_high

      way : IsWay near far x.beat o.e.beat
      way =
          request_way doc s.rules near far e c.process steady (suc e) x S c w o.begun.arrives x_high role refl o.begun.actor o.begun.fact (beat_before doc e x S x_high) o.e.beat o.arrives
          (λ j low high soon. l.goes j (omega (arith, high, beat_before doc e o.e o.low e_high)))

      step : 3 ≤ x.step
      step =
          let p : (p : Sending doc 0 e c w o.begun.arrives) × (p.f ≡ x) × (p.before ≡ S) = sending_of doc s.rules near far 0 e e c role steady my_time (omega arith) s.one w o.begun.arrives x S x_high o.begun.actor o.begun.fact (omega arith) in
          subst (λ (f : Entry). 3 ≤ f.step) p.1 p.0.step

      order : IsTail (entry b 1 q (Sends rel.call (Some rel.at)) ∷ before_sending) S
      order = by_place (tails_meet (entry b 1 q (Sends rel.call (Some rel.at)) ∷ before_sending) (x ∷ S) (history doc (suc e)) (F_e doc near far b e q l s stop rel) x_high)
        where
          apart : entry b 1 q (Sends rel.call (Some rel.at)) ≡ x → ⊥
          apart same = omega (arith, step, ap (λ (z : Entry). z.step) same)

          by_place : IsTail (entry b 1 q (Sends rel.call (Some rel.at)) ∷ before_sending) (x ∷ S) ⊎ IsTail (x ∷ S) (entry b 1 q (Sends rel.call (Some rel.at)) ∷ before_sending) → IsTail (entry b 1 q (Sends rel.call (Some rel.at)) ∷ before_sending) S
          by_place (inl (inl same)) = absurd (apart (same_head (entry b 1 q (Sends rel.call (Some rel.at))) x before_sending S same))
          by_place (inl (inr low)) = low
          by_place (inr (inl same)) = absurd (apart (sym (same_head x (entry b 1 q (Sends rel.call (Some rel.at))) S before_sending same)))
          by_place (inr (inr low)) =
              absurd (⊎_elim (λ lt. omega (arith, lt, way.most, late)) (λ here. omega (arith, here.1, step))
              (within_below (history doc (suc e)) (entries_are_ordered doc (suc e)) (entry b 1 q (Sends rel.call (Some rel.at))) before_sending (F_e doc near far b e q l s stop rel) x (in_head x S before_sending low)))

      abbrev k : ℕ
      k = o.e.beat

      abbrev s_sent : Sent
      s_sent = record { who = c; call = w; arrives = Some k }

      abbrev t_sent : Sent
      t_sent = record { who = q; call = rel.call; arrives = Some k }

      two : AreAnswered doc k s_sent t_sent
      two =
          ordered doc k x (entry b 1 q (Sends rel.call (Some rel.at))) S before_sending s_sent t_sent
          (tail_trans (x ∷ S) (history doc k) (with_events doc k) (tail_trans (x ∷ S) (history doc (suc x.beat)) (history doc k) (in_own_beat doc (suc e) x S x_high) (later_tail doc (suc x.beat) k (omega (arith, way.least, s.one)))) (before_events doc k))
          order (sent_is x c w o.begun.arrives o.begun.actor o.begun.fact ∙ ap (λ t. Some (record { who = c; call = w; arrives = t })) o.arrives) refl
          (sent_is (entry b 1 q (Sends rel.call (Some rel.at))) q rel.call (Some rel.at) refl refl ∙ ap (λ (n : ℕ). Some (record { who = q; call = rel.call; arrives = Some n })) (sym now)) refl

      e_own : IsTail (o.e ∷ o.low) (history doc (suc k))
      e_own = in_own_beat doc (suc e) o.e o.low e_high

      release_own : IsTail (entry rel.at 2 q (Answers rel.call (Done rel.version) rel.comes (Some rel.object)) ∷ below) (history doc (suc k))
      release_own = subst (λ n. IsTail (entry rel.at 2 q (Answers rel.call (Done rel.version) rel.comes (Some rel.object)) ∷ below) (history doc (suc n))) (sym now) (in_own_beat doc (suc e) (entry rel.at 2 q (Answers rel.call (Done rel.version) rel.comes (Some rel.object))) below release_high)

      get_at : o.low ≡ two.above
      get_at =
          same_rest o.e _ o.low two.above
          (answers_differ doc s.rules (suc k) o.e _ o.low two.above (record { who = c; call = w; reply = reply; comes = Some y }) (record { who = c; call = w; reply = answer w.request two.above; comes = reply_arrival doc c.process k two.above }) e_own two.position
          (ap (λ d. back_of o.e.actor d) o.fact ∙ ap (λ who. back_of who (Answers w reply (Some y) (written w.request o.low))) o.actor) refl refl refl)

      release_at : IsTail (entry rel.at 2 q (Answers rel.call (Done rel.version) rel.comes (Some rel.object)) ∷ below) two.above
      release_at =
          subst (λ g. IsTail g two.above)
          (sym (answers_differ doc s.rules (suc k) (entry rel.at 2 q (Answers rel.call (Done rel.version) rel.comes (Some rel.object))) _ below two.below (record { who = q; call = rel.call; reply = Done rel.version; comes = rel.comes })
          (record { who = q; call = rel.call; reply = answer rel.call.request two.below; comes = reply_arrival doc q.process k two.below }) release_own
          (tail_trans _ two.above (history doc (suc k)) two.order (tail_trans two.above (answered doc k s_sent two.above) (history doc (suc k)) (inr (tail_all two.above)) two.position)) refl refl refl refl)) two.order

      not_last : ⊥
      not_last =
          not_below (entry rel.at 2 q (Answers rel.call (Done rel.version) rel.comes (Some rel.object))) below
          (tail_trans _ o.low below (subst (IsTail (entry rel.at 2 q (Answers rel.call (Done rel.version) rel.comes (Some rel.object)) ∷ below)) (sym get_at) release_at) (tail_trans o.low (o.e ∷ o.low) below (inr (tail_all o.low)) under))

    pub meets : IsTail above o.low ⊎ ((o.e.beat < b + far) × IsTail o.low below)
    meets = by_place (tails_meet above (o.e ∷ o.low) (history doc (suc e)) release_high e_high)
      where
        by_place : IsTail above (o.e ∷ o.low) ⊎ IsTail (o.e ∷ o.low) above → IsTail above o.low ⊎ ((o.e.beat < b + far) × IsTail o.low below)
        by_place (inl (inl same)) = absurd (differ (same_head (entry rel.at 2 q (Answers rel.call (Done rel.version) rel.comes (Some rel.object))) o.e below o.low same))
        by_place (inl (inr low)) = inl low
        by_place (inr (inl same)) = absurd (differ (sym (same_head o.e (entry rel.at 2 q (Answers rel.call (Done rel.version) rel.comes (Some rel.object))) o.low below same)))
        by_place (inr (inr low)) =
            inr (⊎_elim (λ lt. lt) (λ le. absurd (not_last low le)) (cases_lt o.e.beat (b + far)), tail_trans o.low (o.e ∷ o.low) below (inr (tail_all o.low)) low)

  -- so a write that is sent after a Get is sent after one that was answered above it
  pub late_get : (x : Entry) (T : List Entry) (request : Request) (f : AfterGet doc near far b e q l s c role other x T request) → b ≤ x.beat + 2 * far → IsTail above f.o.low
  late_get x T request f since = ⊎_elim (λ low. low) (λ early. absurd (sooner early.0 early.1)) (meets f.waiting f.reply f.before x.beat f.o high)
    where
      high : IsTail f.before (history doc (suc e))
      high = tail_trans f.before _ (history doc (suc e)) (inr (tail_all f.before)) f.counts

      sooner : f.o.e.beat < b + far → IsTail f.o.low below → ⊥
      sooner lt under =
          none_early doc near far b e q l s c role other x T request f since lt
          (λ at low. of_it doc near far b e q l s stop rel f.o.low (first_low doc near far b e q l s stop rel f.o.e f.o.low at (omega (arith, f.way.most, since))) under)
