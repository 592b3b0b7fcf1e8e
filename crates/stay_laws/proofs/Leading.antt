-- Who leads is up and acts until its clock has gone a renew deadline since its timer.
use Rattle.std.proofs.Common.{◌≡◌, ◌<◌, ◌≤◌, ℕ, suc, ◌+◌, ◌&&◌, nat_lt, Bool, true, false, List, [], ◌∷◌, Option, Some, None, refl, sym, ap, ◌∙◌, subst, inl, inr, ⊎_elim, arith}
use Rattle.std.proofs.lemmas.Bool.{ltb-false, cases_lt}
use Rattle.kube_objects.specs.Clocks.{local}
use Rattle.kube_objects.specs.Document.{Doc, is_controller, retry_period, renew_deadline}
use Rattle.kube_objects.specs.Elector.{succeeds, leads, deadline_says, deadline}
use Rattle.kube_objects.specs.Entry.{Entry, Identity, Fact, Delivers, Leads, Ends}
use Rattle.kube_objects.specs.Identities.{is_by, of_process}
use Rattle.kube_objects.specs.Newest.{has}
use Rattle.kube_objects.specs.Pauses.{can_at}
use Rattle.kube_objects.specs.Process.{alive}
use Rattle.kube_objects.specs.Own.{ReleasesByStop}
use Rattle.kube_objects.proofs.Clocks.{local_up}
use Rattle.history.specs.History.{history, at_turn}
use Rattle.history.specs.Safe.{Acts}
use Rattle.history_laws.specs.Tails.{In, IsTail}
use Rattle.history_laws.proofs.Counting.{when_test, when_value}
use Rattle.history_laws.proofs.Order.{entries_are_earlier}
use Rattle.history_laws.proofs.Plainly.{upper, some_is, none_is, true_is}
use Rattle.history_laws.proofs.Tailed.{tail_all, tail_trans, in_tail, turn_tail, before_turn, later_tail}
use Rattle.call_laws.proofs.Above.{next_above, in_head}
use Rattle.call_laws.proofs.Making.{MadeEnd}
use Rattle.call_laws.proofs.Placing.{from_beat}
use Rattle.takeover_laws.specs.Calm.{IsSteady}
use Rattle.takeover_laws.proofs.Asking.{leads_on}
use Rattle.takeover_laws.proofs.Fresh.{can_least, acts_before}
use Rattle.takeover_laws.proofs.Standing.{controllers_first, lives_on}
use Rattle.calm_laws.proofs.Begun.{by_is}
use Rattle.stay_laws.proofs.Reacting.{leads_are_new}

-- it leads, and its deadline is no sooner than a renew deadline after a reading
pub record IsInTerm (doc : Doc) (q : Identity) (at : ℕ) (h : List Entry) : Type 0 where
  pub led : leads q h ≡ true
  pub end : ℕ
  pub set : deadline doc q h ≡ Some end
  pub late : at + renew_deadline doc q.process ≤ end

-- as a leader at a position in beat y: up, in its term, and the reading isn't later than a retry period after that beat's
pub record IsLeader (doc : Doc) (q : Identity) (at y : ℕ) (low : List Entry) : Type 0 where
  pub up : alive q.process low ≡ Some q.incarnation
  pub term : IsInTerm doc q at low
  pub soon : at ≤ local doc q.process y + retry_period doc q.process
  pub since : IsTail (history doc y) low
  pub before : IsTail low (at_turn doc q.process y)

-- entries of step 4 stand before a beat
abbrev pub AllBefore : ℕ → List Entry → Type 0
AllBefore K h = (z : Entry) → In z h → z.step ≡ 4 → z.beat < K

-- at the beats before one, the clock hasn't gone a renew deadline since a reading
abbrev pub IsTimely : Doc → ℕ → ℕ → ℕ → Type 0
IsTimely doc p at K = (k : ℕ) → k < K → local doc p k < at + renew_deadline doc p

pub all_before : (doc : Doc) (k : ℕ) (h : List Entry) → IsTail h (history doc (suc k)) → AllBefore (suc k) h
all_before doc k h at z stands four = ⊎_elim (λ lt. lt) (λ first. omega (arith, first.1, four)) (entries_are_earlier doc (suc k) z (in_tail z h (history doc (suc k)) at stands))

module _ (doc : Doc) (rules : ReleasesByStop doc) (near far a e m : ℕ) (q : Identity) (role : is_controller doc q.process ≡ true) (steady : IsSteady doc near far a e q.process) (at y : ℕ) (low : List Entry) (leader : IsLeader doc q at y low)
    (from : a < y) (to : y < m) (within : m ≤ suc e) where
  abbrev rd : ℕ
  rd = renew_deadline doc q.process

  -- entries above are of that beat or later
  pub later : (x : Entry) (T : List Entry) → IsTail low T → IsTail (x ∷ T) (history doc m) → y ≤ x.beat
  later x T below stands = (next_above (λ z. y ≤ z.beat) (history doc y) T (history doc m) x (from_beat doc y m (omega (arith, to))) (tail_trans (history doc y) low T leader.since below) stands).0

  set_least : (x : Entry) (T : List Entry) → IsTail low T → IsTail (x ∷ T) (history doc m) → leads q T ≡ true → (d : Fact) → x.fact ≡ d → (new : ℕ) → deadline_says doc q x.beat x.actor (leads q T) d ≡ Some new → at + rd ≤ new
  set_least x T below stands led (Leads version) fact new is =
      absurd (true_is (sym led ∙ leads_are_new doc rules m q x T version stands (by_is q x.actor (when_test (is_by q x.actor) (local doc q.process x.beat + rd) new is)) fact))
  set_least x T below stands led (Delivers call reply counted) fact new is =
      let next = local doc q.process x.beat + retry_period doc q.process in
      let same = when_value ((counted && is_by q x.actor) && (leads q T && succeeds call.request reply)) (can_at doc q.process next + rd) new is in
      omega (arith, same, can_least doc q.process next, leader.soon, local_up doc q.process y x.beat (later x T below stands))
  set_least x T below stands led d fact new is = absurd (none_is new is)

  more_term : (x : Entry) (h : List Entry) → IsTail low h → IsTail (x ∷ h) (history doc m) → IsInTerm doc q at h → IsInTerm doc q at (x ∷ h)
  more_term x h below high t = by_says (deadline_says doc q x.beat x.actor (leads q h) x.fact) refl
    where
      by_says : (o : Option ℕ) → deadline_says doc q x.beat x.actor (leads q h) x.fact ≡ o → IsInTerm doc q at (x ∷ h)
      by_says None is = record { led = leads_on q h (x ∷ h) (inr (tail_all h)) t.led; end = t.end; set = ap (λ o. upper o (deadline doc q h)) is ∙ t.set; late = t.late }
      by_says (Some new) is =
          record { led = leads_on q h (x ∷ h) (inr (tail_all h)) t.led; end = new; set = ap (λ o. upper o (deadline doc q h)) is; late = set_least x h below high t.led x.fact refl new is }

  -- its deadline gets no sooner
  pub in_term : (h : List Entry) → IsTail low h → IsTail h (history doc m) → IsInTerm doc q at h
  in_term [] below high = subst (IsInTerm doc q at) below leader.term
  in_term (x ∷ h) (inl is) high = subst (IsInTerm doc q at) is leader.term
  in_term (x ∷ h) (inr below) high = more_term x h below high (in_term h below (tail_trans h (x ∷ h) (history doc m) (inr (tail_all h)) high))

  placed : (x : Entry) (T : List Entry) → IsTail (x ∷ T) (history doc m) → In x (history doc (suc e))
  placed x T stands = in_tail x (history doc m) (history doc (suc e)) (later_tail doc m (suc e) within) (in_head x T (history doc m) stands)

  module _ (K : ℕ) (timely : IsTimely doc q.process at K) where
    still_up : (x : Entry) (T : List Entry) → IsTail low T → IsTail (x ∷ T) (history doc m) → (x.step ≡ 4 → x.beat < K) → alive q.process T ≡ Some q.incarnation → alive q.process (x ∷ T) ≡ Some q.incarnation
    still_up x T below stands early up =
        lives_on doc rules m q x T stands
        (λ fact first own. let before = steady.crashes x (placed x T stands) fact own in omega (arith, before, since, from))
        (λ fact own. let before = steady.stops x (placed x T stands) fact own in omega (arith, before, since, from)) no_end up
      where
        since : y ≤ x.beat
        since = later x T below stands

        no_end : x.fact ≡ Ends → (made : MadeEnd doc x.beat x.step x.actor T) → has (of_process q.process x.actor) ≡ true → made.q ≡ q → ⊥
        no_end fact made own same =
            let t : IsInTerm doc q at T = in_term T below (tail_trans T (x ∷ T) (history doc m) (inr (tail_all T)) stands) in
            let end : t.end ≡ made.at = some_is t.end made.at (sym t.set ∙ ap (λ q. deadline doc q T) (sym same) ∙ made.deadline_is) in
            let late = ltb-false (local doc q.process x.beat) made.at (ap (λ (q : Identity). nat_lt (local doc q.process x.beat) made.at) (sym same) ∙ made.late) in
            omega (arith, t.late, end, late, timely x.beat (early made.step_is))

    -- it is up
    pub up_at : (h : List Entry) → IsTail low h → IsTail h (history doc m) → AllBefore K h → alive q.process h ≡ Some q.incarnation
    up_at [] below high early = subst (λ g. alive q.process g ≡ Some q.incarnation) below leader.up
    up_at (x ∷ h) (inl is) high early = subst (λ g. alive q.process g ≡ Some q.incarnation) is leader.up
    up_at (x ∷ h) (inr below) high early =
        still_up x h below high (early x (inl refl)) (up_at h below (tail_trans h (x ∷ h) (history doc m) (inr (tail_all h)) high) (λ z stands. early z (inr stands)))

  -- its turn in a beat
  pub turn_below : (k : ℕ) → y ≤ k → IsTail low (at_turn doc q.process k)
  turn_below k le = ⊎_elim later_beat (λ ge. same_beat (omega (arith, le, ge))) (cases_lt y k)
    where
      same_beat : y ≡ k → IsTail low (at_turn doc q.process k)
      same_beat is = subst (λ k. IsTail low (at_turn doc q.process k)) is leader.before

      later_beat : y < k → IsTail low (at_turn doc q.process k)
      later_beat lt =
          tail_trans low (at_turn doc q.process y) (at_turn doc q.process k) leader.before
          (tail_trans (at_turn doc q.process y) (history doc (suc y)) (at_turn doc q.process k) (turn_tail doc q.process y (omega (arith, controllers_first doc q.process role)))
          (tail_trans (history doc (suc y)) (history doc k) (at_turn doc q.process k) (later_tail doc (suc y) k (omega (arith, lt))) (before_turn doc q.process k)))

  pub turn_high : (k : ℕ) → k < m → IsTail (at_turn doc q.process k) (history doc m)
  turn_high k lt =
      tail_trans (at_turn doc q.process k) (history doc (suc k)) (history doc m) (turn_tail doc q.process k (omega (arith, controllers_first doc q.process role))) (later_tail doc (suc k) m (omega (arith, lt)))

  pub turn_up : (k : ℕ) → y ≤ k → k < m → local doc q.process k < at + rd → alive q.process (at_turn doc q.process k) ≡ Some q.incarnation
  turn_up k le lt time =
      up_at (suc k) (λ j lt. omega (arith, time, local_up doc q.process j k (omega (arith, lt)))) (at_turn doc q.process k) (turn_below k le) (turn_high k lt)
      (all_before doc k (at_turn doc q.process k) (turn_tail doc q.process k (omega (arith, controllers_first doc q.process role))))

  -- so it acts
  pub acts_at : (k : ℕ) → y ≤ k → k < m → local doc q.process k < at + rd → Acts doc q k
  acts_at k le lt time = (role, acts_before doc rules q k t.end (at_turn doc q.process k) (steady.passes k (omega (arith, from, le)) (omega (arith, lt, within))).awake (turn_up k le lt time) t.set (by_test (nat_lt (local doc q.process k) t.end) refl))
    where
      t : IsInTerm doc q at (at_turn doc q.process k)
      t = in_term (at_turn doc q.process k) (turn_below k le) (turn_high k lt)

      by_test : (b : Bool) → nat_lt (local doc q.process k) t.end ≡ b → nat_lt (local doc q.process k) t.end ≡ true
      by_test true is = is
      by_test false is = absurd (omega (arith, time, t.late, ltb-false (local doc q.process k) t.end is))
