-- Where a leader in a calm falls silent, what comes before is a calm, and it stays up to then.
use Rattle.std.proofs.Common.{◌≡◌, ◌⊎◌, ◌<◌, ◌≤◌, ℕ, suc, ◌+◌, ◌-◌, ◌*◌, true, false, List, ◌∷◌, Option, Some, None, IfSome, refl, sym, ap, ◌∙◌, subst, inl, inr, ⊎_elim, arith}
use Rattle.std.proofs.lemmas.Bool.{eq-eqb, cases_eq}
use Rattle.kube_objects.specs.declared.deed.Actor.{Actor}
use Rattle.kube_objects.specs.Document.{Doc, is_controller}
use Rattle.kube_objects.specs.Entry.{Entry, Identity, Call, Fact, Stops, Sends, Ends, Crashes, actor_of, entry}
use Rattle.kube_objects.specs.Identities.{of_process}
use Rattle.kube_objects.specs.Newest.{when, has}
use Rattle.kube_objects.specs.Wire.{Sent, Back, sent_of, back_of, request_delay, request_arrival}
use Rattle.kube_objects.specs.Own.{ReleasesByStop}
use Rattle.history.specs.History.{history}
use Rattle.history_laws.specs.Tails.{In, IsTail}
use Rattle.history_laws.proofs.Order.{entries_are_earlier}
use Rattle.history_laws.proofs.Plainly.{some_is}
use Rattle.history_laws.proofs.Tailed.{in_tail, later_tail}
use Rattle.kube_objects.specs.Stalls.{is_stalled, awake}
use Rattle.kube_objects.proofs.Stalls.{awake_now, awake_later}
use Rattle.call_laws.specs.Answering.{with_events}
use Rattle.call_laws.proofs.Above.{place_of}
use Rattle.call_laws.proofs.Making.{MadeAs, MadeSend, MadeAnswer, HasStopped, are_made}
use Rattle.call_laws.proofs.Placing.{in_own_beat, forces_stand}
use Rattle.call_laws.proofs.Starting.{actor_is}
use Rattle.takeover_laws.specs.Acting.{AreInTime}
use Rattle.takeover_laws.specs.Calm.{Passes, IsSteady, IsCalm, IsInTime, AllBeats}
use Rattle.takeover_laws.proofs.Rounds.{request_awakes}
use Rattle.takeover_laws.proofs.Writers.{sends_of}
use Rattle.stay_laws.specs.Stays.{HasSuccess, Stays}
use Rattle.stay_laws.proofs.Alone.{one_stays}
use Rattle.stay_laws.proofs.Staying.{leaders_stay}
use Rattle.silence_laws.specs.Silence.{LeadsUntil, Bears, OthersRenewBefore}
use Rattle.silence_laws.proofs.Led.{HasLed, acting_led}
use Rattle.silence_laws.proofs.Ways.{IsWay}
use Rattle.calm_laws.proofs.Origins.{IsAnswer, answer_facts}

-- ---- parts of a span

restrict_beats : (doc : Doc) (d e p : ℕ) (fact : Fact) (at : ℕ → Type 0) → d ≤ e → AllBeats doc e p fact at → AllBeats doc d p fact at
restrict_beats doc d e p fact at le all x stands = all x (in_tail x (history doc (suc d)) (history doc (suc e)) (later_tail doc (suc d) (suc e) (omega (arith, le))) stands)

pub restrict : (doc : Doc) (near far a d e p : ℕ) → d ≤ e → IsSteady doc near far a e p → IsSteady doc near far a d p
restrict doc near far a d e p le s = record {
  passes = λ k from to. s.passes k from (omega (arith, to, le));
  crashes = restrict_beats doc d e p Crashes (λ k. k ≤ a) le s.crashes;
  stops = restrict_beats doc d e p Stops (λ k. k < a) le s.stops;
  ends = restrict_beats doc d e p Ends (λ k. k ≡ a → ⊥) le s.ends;
}

pub restrict_time : (doc : Doc) (far a b d e p : ℕ) → a ≤ b → d ≤ e → IsInTime doc far a e p → IsInTime doc far b d p
restrict_time doc far a b d e p from le s = record { fast = s.fast; runs = λ j since to. s.runs j (omega (arith, since, from)) (omega (arith, to, le)); timeout = s.timeout; deadline = s.deadline }

-- ---- messages as facts

-- what holds of each value that is there
pub each_some : {A : Type 0} (o : Option A) (P : A → Type 0) → ((a : A) → o ≡ Some a → P a) → IfSome o P
each_some None P all = tt
each_some (Some a) P all = all a refl

-- an actor's process
pub own_process : (q : Identity) (who : Actor) → who ≡ actor_of q → has (of_process q.process who) ≡ true
own_process q who by = ap (λ who. has (of_process q.process who)) by ∙ ap (λ b. has (when b q.incarnation)) (eq-eqb q.process q.process refl)

-- ---- when a message of a steady process arrives

pub record Arrives (near far from : ℕ) (arrives : Option ℕ) : Type 0 where
  pub at : ℕ
  pub is : arrives ≡ Some at
  pub way : IsWay near far from at

module _ (doc : Doc) (rules : ReleasesByStop doc) (near far e p : ℕ) (steady : IsSteady doc near far 0 e p) where
  -- a controller's request isn't lost
  request_woken : (m : ℕ) (x : Entry) (T : List Entry) (who : Identity) (call : Call) (arrives : Option ℕ) → IsTail (x ∷ T) (history doc m) → is_controller doc p ≡ true → who.process ≡ p → x.actor ≡ actor_of who → x.fact ≡ Sends call arrives → x.beat ≤ e
      → arrives ≡ Some (awake doc (x.beat + request_delay p (with_events doc x.beat)))
  request_woken m x T who call arrives stands role mine actor fact to = by_step made.step_is
    where
      Woken : Type 0
      Woken = arrives ≡ Some (awake doc (x.beat + request_delay p (with_events doc x.beat)))

      made : MadeSend doc x.beat x.step x.actor call arrives T
      made = subst (λ d. MadeAs doc x.beat x.step x.actor d T) fact (are_made doc rules m x T stands)

      whose : made.q ≡ who
      whose = actor_is made.q who (sym made.by ∙ actor)

      process : made.q.process ≡ p
      process = ap (λ (q : Identity). q.process) whose ∙ mine

      passes : Passes doc near far p x.beat
      passes = steady.passes x.beat (omega arith) to

      sent : 2 ≤ x.step → Woken
      sent late = made.arrives_is ∙ ap (λ p. request_arrival doc p x.beat T) process ∙ request_awakes doc rules near far p x.beat T passes (forces_stand doc rules m x T stands late)

      stopped : HasStopped x.beat made.q made.kind T → ⊥
      stopped s = omega (arith, steady.stops stop there refl (ap (λ b. has (when b made.q.incarnation)) (eq-eqb made.q.process p process)))
        where
          stop : Entry
          stop = entry x.beat 1 made.q Stops

          there : In stop (history doc (suc e))
          there =
              in_tail stop (history doc (suc x.beat)) (history doc (suc e)) (later_tail doc (suc x.beat) (suc e) (omega (arith, to)))
              (in_tail stop (x ∷ T) (history doc (suc x.beat)) (in_own_beat doc m x T stands) (inr (subst (In stop) (sym s.is) (inl refl))))

      by_step : (x.step ≡ 1) ⊎ ((x.step ≡ 3) ⊎ (x.step ≡ 4)) → Woken
      by_step (inr (inl three)) = sent (omega (arith, three))
      by_step (inr (inr four)) = sent (omega (arith, four))
      by_step (inl one) = absurd (⊎_elim stopped (λ free. omega (arith, free.2, one)) (made.free (ap (is_controller doc) process ∙ role)))

  pub request_way : (m : ℕ) (x : Entry) (T : List Entry) (who : Identity) (call : Call) (arrives : Option ℕ) → IsTail (x ∷ T) (history doc m) → is_controller doc p ≡ true → who.process ≡ p → x.actor ≡ actor_of who → x.fact ≡ Sends call arrives → x.beat ≤ e
      → (at : ℕ) → arrives ≡ Some at → ((j : ℕ) → x.beat ≤ j → j ≤ at → j ≤ x.beat + far → is_stalled doc j ≡ false) → IsWay near far x.beat at
  request_way m x T who call arrives stands role mine actor fact to at is goes = record {
    least = omega (arith, woken, now, passes.request_least);
    most = omega (arith, woken, now, passes.request_most);
  }
    where
      passes : Passes doc near far p x.beat
      passes = steady.passes x.beat (omega arith) to

      there : ℕ
      there = x.beat + request_delay p (with_events doc x.beat)

      woken : at ≡ awake doc there
      woken = some_is at (awake doc there) (sym is ∙ request_woken m x T who call arrives stands role mine actor fact to)

      now : awake doc there ≡ there
      now = awake_now doc there (goes there (omega arith) (omega (arith, woken, awake_later doc there)) (omega (arith, passes.request_most)))

  -- it arrives one way later where the store goes until then
  pub request_arrives : (m : ℕ) (x : Entry) (T : List Entry) (who : Identity) (call : Call) (arrives : Option ℕ) → IsTail (x ∷ T) (history doc m) → is_controller doc p ≡ true → who.process ≡ p → x.actor ≡ actor_of who → x.fact ≡ Sends call arrives → x.beat ≤ e
      → ((j : ℕ) → x.beat ≤ j → j ≤ x.beat + far → is_stalled doc j ≡ false) → Arrives near far x.beat arrives
  request_arrives m x T who call arrives stands role mine actor fact to goes = record {
    at = there;
    is = request_woken m x T who call arrives stands role mine actor fact to ∙ ap Some (awake_now doc there (goes there (omega arith) (omega (arith, passes.request_most))));
    way = record { least = omega (arith, passes.request_least); most = omega (arith, passes.request_most) };
  }
    where
      passes : Passes doc near far p x.beat
      passes = steady.passes x.beat (omega arith) to

      there : ℕ
      there = x.beat + request_delay p (with_events doc x.beat)

-- ---- the situation

module _ (doc : Doc) (near far b e : ℕ) (q : Identity) (l : LeadsUntil doc near far b e q) (s : Bears doc near far b e q) where
  pub some_b : 1 ≤ b
  some_b = omega (arith, l.long, s.one, s.ways)

  -- nothing is on its way as beat 0 begins
  abbrev none_yet : (x : Entry) → In x (history doc 0) → (1 ≤ x.step) → ⊥
  none_yet x stands step = ⊎_elim (λ lt. omega (arith, lt)) (λ first. omega (arith, first.1, step)) (entries_are_earlier doc 0 x stands)

  pub calm_before : IsCalm doc near far 0 (b - 1)
  calm_before = record {
    each = λ p role. ⊎_elim (λ same. inl (subst (IsSteady doc near far 0 (b - 1)) (sym same) l.steady)) (λ other. inl (restrict doc near far 0 (b - 1) e p (omega (arith, l.within)) (l.others p role other))) (cases_eq p q.process);
    requests = λ x stands. each_some (sent_of x.actor x.fact) _ (λ m is key. absurd (no_request x stands m is));
    replies = λ x stands. each_some (back_of x.actor x.fact) _ (λ m is key. absurd (no_reply x stands m is));
  }
    where
      no_request : (x : Entry) → In x (history doc 0) → (m : Sent) → sent_of x.actor x.fact ≡ Some m → ⊥
      no_request x stands m is = none_yet x stands (⊎_elim (λ one. omega (arith, one)) (λ more. ⊎_elim (λ three. omega (arith, three)) (λ four. omega (arith, four)) more) made.step_is)
        where
          made : MadeSend doc x.beat x.step x.actor m.call m.arrives (place_of x (history doc 0) stands).before
          made =
              subst (λ d. MadeAs doc x.beat x.step x.actor d (place_of x (history doc 0) stands).before) (sends_of x.actor x.fact m is).1
              (are_made doc s.rules 0 x (place_of x (history doc 0) stands).before (place_of x (history doc 0) stands).position)

      no_reply : (x : Entry) → In x (history doc 0) → (m : Back) → back_of x.actor x.fact ≡ Some m → ⊥
      no_reply x stands m is = none_yet x stands (omega (arith, made.step_is))
        where
          facts : IsAnswer x.actor x.fact m
          facts = answer_facts x.actor x.fact m is

          made : MadeAnswer doc x.beat x.step x.actor m.call m.reply m.comes facts.wrote (place_of x (history doc 0) stands).before
          made =
              subst (λ d. MadeAs doc x.beat x.step x.actor d (place_of x (history doc 0) stands).before) facts.fact
              (are_made doc s.rules 0 x (place_of x (history doc 0) stands).before (place_of x (history doc 0) stands).position)

  pub times_before : AreInTime doc near far 0 (b - 1)
  times_before p role steady = restrict_time doc far 0 0 (b - 1) e p (omega arith) (omega (arith, l.within)) (s.calls p role)

  -- the leader's first success, and that it stays up to b
  pub its_lead : HasLed doc q (b - 3 * far)
  its_lead = acting_led doc s.rules q (b - 3 * far) l.acts

  pub it_stays : Stays doc q its_lead.j (b - 1)
  it_stays = leaders_stay doc near far 0 (b - 1) s.sound s.rules calm_before times_before s.one s.ways (omega (arith, l.within, s.end)) q l.role l.steady s.renews its_lead.j its_lead.success

  pub its_time : its_lead.j ≤ b - 1
  its_time = omega (arith, its_lead.to, s.one, s.ways)

  -- no other controller that renews in time has a success before b
  pub none_else : OthersRenewBefore doc near far b q → (r : Identity) → is_controller doc r.process ≡ true → (r.process ≡ q.process → ⊥) → (j : ℕ) → j ≤ b - 1 → HasSuccess doc r 0 j → ⊥
  none_else renew r role other j to hs =
      other (ap (λ (p : Identity). p.process) (one_stays doc near far 0 (b - 1) s.sound s.rules calm_before times_before s.one (omega (arith, l.within, s.end))
      q l.role l.steady s.renews its_lead.j its_time its_lead.success r role (restrict doc near far 0 (b - 1) e r.process (omega (arith, l.within)) (l.others r.process role other)) (renew r role other) j to hs))
