-- While nobody acts, the record that was stored as a calm began stays.
use Rattle.std.proofs.Common.{◌≡◌, ◌<◌, ◌≤◌, ℕ, zero, suc, ◌+◌, Bool, true, false, List, [], ◌∷◌, length, Option, Some, None, IfSome, refl, sym, ap, ◌∙◌, subst, inl, inr, ⊎_elim, arith}
use Rattle.std.proofs.lemmas.Bool.{ltb-true, eq-eqb, cases_eq, cases_lt}
use Rattle.kube_objects.specs.declared.call.Request.{Request}
use Rattle.kube_objects.specs.declared.deed.Actor.{Actor}
use Rattle.kube_objects.specs.declared.object.Object.{Object}
use Rattle.kube_objects.specs.Clocks.{rate}
use Rattle.kube_objects.specs.Document.{Doc, processes, end_beat, is_controller}
use Rattle.kube_objects.specs.Entry.{Entry, Identity, Call, Fact, First as FirstPut, Event as Happens, Answers, Ticks, actor_of, StepsDown, ReleaseBegins, ReleaseEnds, ReleaseStops}
use Rattle.kube_objects.specs.Identities.{of_process}
use Rattle.kube_objects.specs.Keys.{key_eq}
use Rattle.kube_objects.specs.Newest.{when, join, has}
use Rattle.kube_objects.specs.Own.{ReleasesByStop}
use Rattle.kube_objects.specs.Stored.{election, key_of, request_write, event_write, at_key, write_of, holds, last_write, stored}
use Rattle.kube_objects.specs.Wire.{Sent, Back, back_of, request_arrival}
use Rattle.history.specs.History.{history}
use Rattle.history.specs.Safe.{Acts}
use Rattle.history.specs.Sound.{IsSound}
use Rattle.history.specs.Steps.{stamp}
use Rattle.history_laws.specs.Tails.{In, IsTail}
use Rattle.history_laws.proofs.Order.{entries_are_earlier}
use Rattle.history_laws.proofs.Plainly.{upper, none_is, true_is}
use Rattle.history_laws.proofs.Tailed.{tail_all, tail_trans, in_tail, later_tail}
use Rattle.lease_laws.proofs.EachKind.{elsewhere}
use Rattle.lease_laws.proofs.Histories.{bears_own, turn_right}
use Rattle.lease_laws.proofs.Invariant.{BackRight, view}
use Rattle.lease_laws.proofs.Quiet.{stored_tick}
use Rattle.lease_laws.proofs.Steps.{AtMost, sound_of}
use Rattle.call_laws.proofs.Above.{next_above, in_head, place_of}
use Rattle.call_laws.proofs.Making.{MadeAs, are_made}
use Rattle.call_laws.proofs.Once.{due_at}
use Rattle.call_laws.proofs.Placing.{from_beat, in_own_beat, messages_travel}
use Rattle.takeover_laws.specs.Calm.{IsSteady, IsQuiet, IsCalm, IsInTime, WritesElection}
use Rattle.takeover_laws.proofs.Writers.{writer_acts}

-- ---- some bound on all rates

bound : (f : ℕ → ℕ) (n : ℕ) → (m : ℕ) × ((k : ℕ) → k ≤ n → f k ≤ m)
bound f zero = (f 0, λ k le. let same : k ≡ 0 = omega (arith, le) in omega (arith, ap f same))
bound f (suc n) = more (bound f n)
  where
    more : (m : ℕ) × ((k : ℕ) → k ≤ n → f k ≤ m) → (m : ℕ) × ((k : ℕ) → k ≤ suc n → f k ≤ m)
    more b = (b.0 + f (suc n), λ k le. ⊎_elim (λ same. omega (arith, ap f same)) (λ other. omega (arith, b.1 k (omega (arith, le, other)))) (cases_eq k (suc n)))

some_high : (doc : Doc) → (high : ℕ) × AtMost doc high
some_high doc =
    let b = bound (λ p. (bound (λ k. rate doc p k) (end_beat doc)).0) (length doc.controllers) in
    (b.0, λ p k role end. omega (arith, (bound (λ k. rate doc p k) (end_beat doc)).1 k end, b.1 p (let lt : p < length doc.controllers = ltb-true p (length doc.controllers) role in omega (arith, lt))))

-- a kubelet asks for other keys
pub asks_elsewhere : (doc : Doc) → IsSound doc → ReleasesByStop doc → (k : ℕ) → k ≤ end_beat doc → (x : Entry) (b : Back) → In x (history doc (suc k)) → back_of x.actor x.fact ≡ Some b → is_controller doc b.who.process ≡ false → key_eq (key_of b.call.request) election ≡ false
asks_elsewhere doc sound rules k end x b stands is role =
    let h = some_high doc in
    let right = (turn_right doc h.0 h.1 (bears_own doc h.0 rules) sound (processes doc) k end).core.entries x stands in
    (subst (λ o. IfSome o (BackRight doc h.0 k (view (history doc (suc k))) x.beat)) is right.1).elsewhere role

pub wrote_key : (r : Request) (w : Option Object) (o : Option Object) → at_key election (request_write r w) ≡ Some o → key_eq (key_of r) election ≡ true
wrote_key r None o is = absurd (none_is o is)
wrote_key r (Some x) o is = by_test (key_eq (key_of r) election) is
  where
    by_test : (b : Bool) → when b (Some x) ≡ Some o → b ≡ true
    by_test true is = refl
    by_test false is = absurd (none_is o is)

module _ (doc : Doc) (near far a e n : ℕ) (sound : IsSound doc) (rules : ReleasesByStop doc) (calm : IsCalm doc near far a e) (end : e ≤ end_beat doc) (within : n ≤ e) (one : 1 ≤ near) (ways : near ≤ far)
    (time : (p : ℕ) → is_controller doc p ≡ true → IsSteady doc near far a e p → IsInTime doc far a e p)
    (none : (q : Identity) → is_controller doc q.process ≡ true → IsSteady doc near far a e q.process → (k : ℕ) → a ≤ k → k ≤ n → Acts doc q k → ⊥) where
  process_is : (q : Identity) (x : Entry) → x.actor ≡ actor_of q → has (of_process q.process x.actor) ≡ true
  process_is q x by = ap (λ who. has (of_process q.process who)) by ∙ ap (λ b. has (when b q.incarnation)) (eq-eqb q.process q.process refl)

  -- no call that was sent since writes it in time for its reply
  pub no_write : (x : Entry) (T : List Entry) (q : Identity) → IsTail (x ∷ T) (history doc (suc n)) → x.actor ≡ actor_of q → is_controller doc q.process ≡ true → WritesElection a x.fact → x.beat + far ≤ n → ⊥
  no_write x T q position by role writes late = ⊎_elim steady quiet (calm.each q.process role)
    where
      steady : IsSteady doc near far a e q.process → ⊥
      steady s = writer_acts doc rules near far a e n q role s (time q.process role s) within one (none q role s) x T position by writes late

      quiet : IsQuiet doc a e q.process → ⊥
      quiet s = s x (in_tail x (history doc (suc n)) (history doc (suc e)) (later_tail doc (suc n) (suc e) (omega (arith, within))) (in_head x T (history doc (suc n)) position)) (process_is q x by) writes

  same_stored : (x : Entry) (T : List Entry) (who : Actor) (d : Fact) → x.actor ≡ who → x.fact ≡ d → IsTail (x ∷ T) (history doc (suc n)) → a + far ≤ x.beat → x.beat + far ≤ n → MadeAs doc x.beat x.step who d T
      → join (upper (holds T x.beat who (at_key election (write_of d))) (last_write election T)) ≡ stored election T
  same_stored x T who (FirstPut key object) actor fact position from late made = absurd (omega (arith, from, made, one, ways))
  same_stored x T who (Happens w version) actor fact position from late made =
      ap (λ o. join (upper (holds T x.beat who o) (last_write election T)))
      (ap (λ w. at_key election (event_write w version)) made.3 ∙ ap (λ v. at_key election (event_write (stamp doc x.beat made.1) v)) made.4 ∙ elsewhere doc x.beat made.1 T (sound_of doc x.beat made.1 sound made.2))
  same_stored x T who (Ticks t) actor fact position from late made =
      ap (λ who. join (upper (holds T x.beat who (at_key election (write_of (Ticks t)))) (last_write election T))) made.1 ∙ stored_tick doc x.beat made.0 t T made.2
  same_stored x T who (Answers call reply comes wrote) actor fact position from late made = by_write (at_key election (request_write call.request wrote)) refl
    where
      s : Sent
      s = made.s

      p : List Entry
      p = (place_of made.arriving.e T made.arriving.stands).before

      at_f : IsTail (made.arriving.e ∷ p) (history doc (suc n))
      at_f = tail_trans (made.arriving.e ∷ p) T (history doc (suc n)) (place_of made.arriving.e T made.arriving.stands).position (tail_trans T (x ∷ T) (history doc (suc n)) (inr (tail_all T)) position)

      arrives : s.arrives ≡ Some x.beat
      arrives = due_at x.beat s.arrives made.arriving.now

      sent : s.call.sent ≡ made.arriving.e.beat
      sent = (subst (λ o. IfSome o (λ s. (s.call.sent ≡ made.arriving.e.beat) × (s.arrives ≡ request_arrival doc s.who.process made.arriving.e.beat p))) made.arriving.is (messages_travel doc rules (suc n) made.arriving.e p at_f).0).0

      early : key_eq (key_of s.call.request) election ≡ true → made.arriving.e.beat < a → ⊥
      early key lt =
          let there : In made.arriving.e (history doc a) =
          in_head made.arriving.e p (history doc a) (tail_trans (made.arriving.e ∷ p) (history doc (suc made.arriving.e.beat)) (history doc a) (in_own_beat doc (suc n) made.arriving.e p at_f) (later_tail doc (suc made.arriving.e.beat) a (omega (arith, lt)))) in
          let under = subst (λ o. IfSome o (λ s. key_eq (key_of s.call.request) election ≡ true → IfSome s.arrives (λ m. m < a + far))) made.arriving.is (calm.requests made.arriving.e there) in
          let before : x.beat < a + far = subst (λ o. IfSome o (λ m. m < a + far)) arrives (under key) in
          omega (arith, from, before)

      back : Back
      back = record { who = s.who; call = call; reply = reply; comes = comes }

      written_by : (o : Option Object) → at_key election (request_write call.request wrote) ≡ Some o → ⊥
      written_by o is = by_role (is_controller doc s.who.process) refl
        where
          key : key_eq (key_of call.request) election ≡ true
          key = wrote_key call.request wrote o is

          late_enough : a ≤ call.sent
          late_enough =
              ⊎_elim (λ lt. absurd (early (subst (λ (c : Call). key_eq (key_of c.request) election ≡ true) made.call_is key) lt))
              (λ le. omega (arith, le, sent, ap (λ (c : Call). c.sent) made.call_is)) (cases_lt made.arriving.e.beat a)

          by_role : (b : Bool) → is_controller doc s.who.process ≡ b → ⊥
          by_role true role =
              no_write x T s.who position (actor ∙ made.by) role (subst (WritesElection a) (sym fact) (late_enough, ap has is)) late
          by_role false role =
              true_is (sym key ∙ asks_elsewhere doc sound rules n (omega (arith, within, end)) x back (in_head x T (history doc (suc n)) position)
              (ap (λ d. back_of x.actor d) fact ∙ ap (λ who. back_of who (Answers call reply comes wrote)) (actor ∙ made.by)) role)

      by_write : (o : Option (Option Object)) → at_key election (request_write call.request wrote) ≡ o → join (upper (holds T x.beat who (at_key election (request_write call.request wrote))) (last_write election T)) ≡ stored election T
      by_write None is = ap (λ o. join (upper (holds T x.beat who o) (last_write election T))) is
      by_write (Some o) is = absurd (written_by o is)
  same_stored x T who StepsDown actor fact position from late made = absurd made
  same_stored x T who (ReleaseBegins at_deadline) actor fact position from late made = absurd made
  same_stored x T who ReleaseEnds actor fact position from late made = absurd made
  same_stored x T who ReleaseStops actor fact position from late made = absurd made
  same_stored x T who d actor fact position from late made = refl

  -- from a + far on, while a reply can still come in time
  pub record_stays : (m : ℕ) → a + far ≤ m → m + far ≤ n → (g : List Entry) → IsTail (history doc (a + far)) g → IsTail g (history doc (suc m)) → stored election g ≡ stored election (history doc (a + far))
  record_stays m from late [] low at = ap (stored election) (sym low)
  record_stays m from late (x ∷ T) (inl is) at = ap (stored election) (sym is)
  record_stays m from late (x ∷ T) (inr low) at =
      let position = tail_trans (x ∷ T) (history doc (suc m)) (history doc (suc n)) at (later_tail doc (suc m) (suc n) (omega (arith, late))) in
      let beat : a + far ≤ x.beat = (next_above (λ y. a + far ≤ y.beat) (history doc (a + far)) T (history doc (suc m)) x (from_beat doc (a + far) (suc m) (omega (arith, from))) low at).0 in
      let upto : x.beat < suc m = ⊎_elim (λ lt. lt) (λ first. omega (arith, first.0)) (entries_are_earlier doc (suc m) x (in_head x T (history doc (suc m)) at)) in
      same_stored x T x.actor x.fact refl refl position beat (omega (arith, upto, late)) (are_made doc rules (suc n) x T position)
      ∙ record_stays m from late T low (tail_trans T (x ∷ T) (history doc (suc m)) (inr (tail_all T)) at)
