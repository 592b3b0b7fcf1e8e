-- Where a leader in a calm is stopped and its release is accepted, nobody else leads up to then, and what comes after is a calm.
use Rattle.std.proofs.Common.{◌≡◌, ◌<◌, ◌≤◌, ℕ, suc, ◌+◌, ◌-◌, true, List, ◌∷◌, Option, Some, refl, sym, ap, ◌∙◌, subst, inr, ⊎_elim, arith}
use Rattle.std.proofs.lemmas.Bool.{cases_lt}
use Rattle.kube_objects.specs.declared.call.Reply.TheVariants.{Done}
use Rattle.kube_objects.specs.Answers.{written}
use Rattle.kube_objects.specs.Document.{Doc, is_controller}
use Rattle.kube_objects.specs.Entry.{Entry, Identity, Fact, Sends, Delivers, actor_of, entry}
use Rattle.kube_objects.specs.Newest.{has}
use Rattle.kube_objects.specs.Stored.{election, request_write, at_key, write_of}
use Rattle.kube_objects.specs.Wire.{Sent}
use Rattle.history.specs.History.{history}
use Rattle.history.specs.Safe.{Acts}
use Rattle.history_laws.specs.Tails.{IsTail}
use Rattle.history_laws.proofs.Plainly.{some_is}
use Rattle.history_laws.proofs.Tailed.{same_head, tail_all, tail_trans, later_tail}
use Rattle.call_laws.proofs.Above.{in_head}
use Rattle.call_laws.proofs.Placing.{in_own_beat}
use Rattle.call_laws.proofs.Starting.{actor_is}
use Rattle.takeover_laws.specs.Acting.{AreInTime}
use Rattle.takeover_laws.specs.Calm.{IsSteady, IsCalm}
use Rattle.silence_laws.specs.Silence.{LeadsUntil, Bears, IsStopped, IsReleased}
use Rattle.stay_laws.specs.Stays.{HasSuccess}
use Rattle.stay_laws.proofs.Succeeded.{success_is}
use Rattle.silence_laws.proofs.Looking.{asks_election}
use Rattle.silence_laws.proofs.Ways as ways_of
use Rattle.calm_laws.proofs.Origins.{Origin, origin}
use Rattle.succession_laws.specs.Successions.{RepliesCome}
use Rattle.succession_laws.proofs.Since as since
use Rattle.calm_laws.proofs.Replies.{wrote_by}
use Rattle.release_laws.specs.Releases.{OthersRenewAround}
use Rattle.silence_laws.proofs.Released as parting
use Rattle.release_laws.proofs.Accepted.{F, quiet_after}
use Rattle.silence_laws.proofs.Led.{HasLed, acting_led}
use Rattle.silence_laws.proofs.Setting.{request_way, its_lead, it_stays, none_else}

-- ---- messages as facts

abbrev arrives_or : Option ℕ → Fact → Option ℕ
arrives_or other (Sends call arrives) = arrives
arrives_or other _ = other

-- ---- the situation

module _ (doc : Doc) (near far b e : ℕ) (q : Identity) (l : LeadsUntil doc near far b e q) (s : Bears doc near far b e q) (renew : OthersRenewAround doc near far b e q) where
  -- up to b nobody else has a success
  pub none_succeeds : (r : Identity) → is_controller doc r.process ≡ true → (r.process ≡ q.process → ⊥) → (j : ℕ) → j ≤ b → HasSuccess doc r 0 j → ⊥
  none_succeeds r role other j upto hs = ⊎_elim before now (cases_lt j b)
    where
      before : j < b → ⊥
      before lt = none_else doc near far b e q l s renew.before r role other j (omega (arith, lt)) hs

      -- one at b came by a write of before, where all writes were the leader's
      now : b ≤ j → ⊥
      now le = other (ap (λ (p : Identity). p.process) (actor_is r q (sym o.actor ∙ alone)))
        where
          o : Origin doc r hs.call (Done hs.version) hs.before j
          o = origin doc s.rules (suc j) r (entry j 3 r (Delivers hs.call (Done hs.version) true)) hs.before hs.call (Done hs.version) hs.position refl refl

          within_j : j ≤ e
          within_j = omega (arith, upto, l.within)

          high : IsTail hs.before (history doc (suc e))
          high =
              tail_trans hs.before (entry j 3 r (Delivers hs.call (Done hs.version) true) ∷ hs.before) (history doc (suc e)) (inr (tail_all hs.before))
              (tail_trans (entry j 3 r (Delivers hs.call (Done hs.version) true) ∷ hs.before) (history doc (suc j)) (history doc (suc e)) hs.position (later_tail doc (suc j) (suc e) (omega (arith, within_j))))

          e_high : IsTail (o.e ∷ o.low) (history doc (suc e))
          e_high = tail_trans (o.e ∷ o.low) hs.before (history doc (suc e)) o.answered high

          f_high : IsTail (o.begun.f ∷ o.begun.before) (history doc (suc e))
          f_high = tail_trans (o.begun.f ∷ o.begun.before) hs.before (history doc (suc e)) o.begun.position high

          way : ways_of.IsWay near far o.e.beat j
          way = ways_of.reply_way doc s.rules near far e r role (l.others r.process role other) o.e o.low e_high o.step j within_j o.comes_is

          wrote : has (at_key election (request_write hs.call.request (written hs.call.request o.low))) ≡ true
          wrote =
              wrote_by hs.call.request o.low hs.version (success_is hs.call.request hs.version hs.success).write
              (asks_election doc s.sound s.rules e s.end r role o.begun.f hs.call o.begun.arrives (in_head o.begun.f o.begun.before (history doc (suc e)) f_high) o.begun.actor o.begun.fact) (sym o.reply_is)

          alone : o.e.actor ≡ actor_of q
          alone =
              (it_stays doc near far b e q l s).alone o.e o.low
              (tail_trans (o.e ∷ o.low) (history doc (suc o.e.beat)) (history doc (suc (b - 1))) (in_own_beat doc (suc e) o.e o.low e_high) (later_tail doc (suc o.e.beat) (suc (b - 1)) (omega (arith, way.least, s.one, upto))))
              (omega (arith, (its_lead doc near far b e q l s).to, way.most, le, l.long, s.one, s.ways)) (ap (λ d. has (at_key election (write_of d))) o.fact ∙ wrote)

  -- so nobody else acts
  pub idle_upto : (r : Identity) → is_controller doc r.process ≡ true → (r.process ≡ q.process → ⊥) → (k : ℕ) → k ≤ b → Acts doc r k → ⊥
  idle_upto r role other k le acting = let led : HasLed doc r k = acting_led doc s.rules r k acting in none_succeeds r role other led.j (omega (arith, led.to, le)) led.success

  -- and the others are steady from the beat after b on as well, and what comes after b is a calm
  pub others_since : (p : ℕ) → is_controller doc p ≡ true → (p ≡ q.process → ⊥) → IsSteady doc near far (suc b) e p
  others_since = since.others_since doc near far b e q l s (suc b) (omega arith) (omega (arith, l.within)) (λ r role other k lt. idle_upto r role other k (omega (arith, lt)))

  pub times_since : AreInTime doc near far (suc b) e
  times_since = since.times_since doc near far b e q l s (suc b) (omega arith) (omega (arith, l.within)) (λ r role other k lt. idle_upto r role other k (omega (arith, lt)))

  module _ (stop : IsStopped doc b e q) (rel : IsReleased doc near far b e q) (replies : RepliesCome doc far (suc b) q.process) (room : b + far ≤ e) where
    -- the leader's own: one of before, or the release
    own : (x : Entry) (T : List Entry) → IsTail (x ∷ T) (history doc (suc b)) → (m : Sent) → x.actor ≡ actor_of m.who → x.fact ≡ Sends m.call m.arrives → m.who.process ≡ q.process → is_controller doc m.who.process ≡ true → (y : ℕ) → m.arrives ≡ Some y → y < suc b + far
    own x T at m actor fact same role y arrives = ⊎_elim before now (cases_lt x.beat b)
      where
        before : x.beat < b → y < suc b + far
        before lt =
            omega (
              arith,
              (request_way doc s.rules near far (b - 1) m.who.process (subst (IsSteady doc near far 0 (b - 1)) (sym same) l.steady) (suc b) x T m.who m.call m.arrives at role refl actor fact (omega (arith, lt)) y arrives (λ j low high soon. l.goes j (omega (arith, soon, lt, room)))).most,
              lt,
            )

        now : b ≤ x.beat → y < suc b + far
        now late = omega (arith, rel.most, some_is y rel.at (sym arrives ∙ sym (ap (arrives_or m.arrives) fact) ∙ ap (λ (x : Entry). arrives_or m.arrives x.fact) here))
          where
            here : x ≡ entry b 1 q (Sends rel.call (Some rel.at))
            here =
                same_head x (entry b 1 q (Sends rel.call (Some rel.at))) T (F doc near far b e q l s stop rel)
                (parting.sent_release doc near far b e q l s stop rel x T m.who m.call m.arrives (tail_trans (x ∷ T) (history doc (suc b)) (history doc (suc e)) at (later_tail doc (suc b) (suc e) (omega (arith, l.within)))) late actor same fact)

    pub calm_since : IsCalm doc near far (suc b) e
    calm_since =
        since.calm_since doc near far b e q l s (suc b) (omega arith) (omega (arith, l.within)) (λ r role other k lt. idle_upto r role other k (omega (arith, lt))) (quiet_after doc near far b e q l s stop rel) replies (omega (arith, room)) own
