-- While no steady controller has a success by a call of the span, nothing is written by calls of a later beat on, and what is stored lasts for no
-- longer than a time.
use Rattle.std.proofs.Common.{◌≡◌, ◌⊎◌, ◌<◌, ◌≤◌, ℕ, suc, ◌+◌, nat_lt, Bool, true, false, List, [], ◌∷◌, Option, Some, None, IfSome, refl, sym, ap, ◌∙◌, subst, inl, inr, ⊎_elim, arith}
use Rattle.std.proofs.lemmas.Bool.{ltb-false, eq-eqb, cases_lt}
use Rattle.kube_objects.specs.declared.call.Reply.{Reply}
use Rattle.kube_objects.specs.declared.call.Reply.TheVariants.{Done}
use Rattle.kube_objects.specs.declared.call.Request.{Request}
use Rattle.kube_objects.specs.declared.call.Request.TheVariants.{Get, Create, Update, PostStatus}
use Rattle.kube_objects.specs.declared.lease.Lease.{Lease}
use Rattle.kube_objects.specs.declared.object.Object.{Object}
use Rattle.kube_objects.specs.declared.object.Object.TheVariants as object
use Rattle.kube_objects.specs.Answers.{answer, written, if_done}
use Rattle.kube_objects.specs.Document.{Doc, end_beat, is_controller, lease_duration}
use Rattle.kube_objects.specs.Entry.{Entry, Identity, Call, CallKind, Sends, actor_of}
use Rattle.kube_objects.specs.Identities.{of_process}
use Rattle.kube_objects.specs.Keys.{key_eq}
use Rattle.kube_objects.specs.Newest.{when, has}
use Rattle.kube_objects.specs.Own.{ReleasesByStop}
use Rattle.kube_objects.specs.Stored.{election, key_of, request_write, at_key, write_of, stored}
use Rattle.kube_objects.specs.Wire.{request_arrival, request_delay}
use Rattle.history.specs.History.{history}
use Rattle.history.specs.Sound.{IsSound}
use Rattle.history_laws.specs.Tails.{In, IsTail}
use Rattle.history_laws.proofs.Order.{entries_are_earlier}
use Rattle.history_laws.proofs.Plainly.{some_is, none_is}
use Rattle.history_laws.proofs.Tailed.{tail_all, tail_trans, in_tail, later_tail}
use Rattle.lease_laws.proofs.Invariant.{Fit, FitRequest}
use Rattle.call_laws.specs.Answering.{with_events}
use Rattle.call_laws.proofs.Above.{next_above, in_head, place_of}
use Rattle.call_laws.proofs.Once.{due_at}
use Rattle.call_laws.proofs.Placing.{from_beat, in_own_beat, forces_stand, messages_travel}
use Rattle.takeover_laws.specs.Acting.{AreInTime}
use Rattle.takeover_laws.specs.Calm.{Passes, IsSteady, IsQuiet, IsCalm, WritesElection}
use Rattle.takeover_laws.proofs.Records.{wrote_key}
use Rattle.takeover_laws.proofs.Rounds.{request_comes}
use Rattle.takeover_laws.proofs.Writers.{sends_of, sending_of}
use Rattle.calm_laws.specs.Bounds.{early_record, LastsFor}
use Rattle.calm_laws.proofs.Changes.{Change, Unwritten, Put, Written, IsWritten, IsStored, stored_as, unchanged, put_stored, early_stored, change_of}
use Rattle.takeover_laws.proofs.Taking.{IsKept}
use Rattle.calm_laws.proofs.Looks.{object_of}
use Rattle.takeover_laws.proofs.Waits.{blocked_time, blocked_most}
use Rattle.settle_laws.specs.Settles.{AllLastFor}
use Rattle.settle_laws.proofs.Successes.{asked_of}

-- ---- what a controller writes lasts for its lease duration, or is nobody's

lease_lasts : (doc : Doc) (p : ℕ) (kind : CallKind) (q : Identity) (lease : Lease) (time : ℕ) → lease_duration doc p ≤ time → lease_duration doc q.process ≤ time → Fit doc kind q lease → LastsFor doc p time (Some (object.Lease lease))
lease_lasts doc p kind q lease time mine le (inl own) = inr (omega (arith, blocked_time doc p q.process lease own.1, blocked_most doc p q.process time mine le))
lease_lasts doc p kind q lease time mine le (inr free) = inl free.0

done_lasts : (doc : Doc) (p : ℕ) (kind : CallKind) (q : Identity) (lease : Lease) (time : ℕ) (reply : Reply) (r : Request) (o : Option Object) → lease_duration doc p ≤ time → lease_duration doc q.process ≤ time → Fit doc kind q lease
    → at_key election (request_write r (if_done reply (object.Lease lease))) ≡ Some o → LastsFor doc p time o
done_lasts doc p kind q lease time (Done version) r o mine le fit is = subst (LastsFor doc p time) (by_key (key_eq (key_of r) election) is) (lease_lasts doc p kind q lease time mine le fit)
  where
    by_key : (b : Bool) → when b (Some (object.Lease lease)) ≡ Some o → Some (object.Lease lease) ≡ o
    by_key true is = some_is (Some (object.Lease lease)) o is
    by_key false is = absurd (none_is o is)
done_lasts doc p kind q lease time reply r o mine le fit is = absurd (none_is o is)

written_lasts : (doc : Doc) (p : ℕ) (kind : CallKind) (q : Identity) (time : ℕ) (r : Request) (h : List Entry) (o : Option Object) → lease_duration doc p ≤ time → lease_duration doc q.process ≤ time → FitRequest doc kind q r
    → at_key election (request_write r (written r h)) ≡ Some o → LastsFor doc p time o
written_lasts doc p kind q time (Get key) h o mine le fit is = absurd (none_is o is)
written_lasts doc p kind q time (Create key lease) h o mine le fit is = done_lasts doc p kind q lease time (answer (Create key lease) h) (Create key lease) o mine le fit is
written_lasts doc p kind q time (Update key given lease) h o mine le fit is = done_lasts doc p kind q lease time (answer (Update key given lease) h) (Update key given lease) o mine le fit is
written_lasts doc p kind q time (PostStatus name status at) h o mine le fit is = by_written (written (PostStatus name status at) h) is
  where
    by_written : (w : Option Object) → at_key election (request_write (PostStatus name status at) w) ≡ Some o → LastsFor doc p time o
    by_written None is = absurd (none_is o is)
    by_written (Some x) is = absurd (none_is o is)

module _ (doc : Doc) (near far a e n : ℕ) (sound : IsSound doc) (rules : ReleasesByStop doc) (calm : IsCalm doc near far a e) (time : AreInTime doc near far a e) (one : 1 ≤ near) (ways : near ≤ far) (end : e ≤ end_beat doc) (within : n ≤ e) where
  -- ---- a controller's write

  module _ (x : Entry) (T : List Entry) (at : IsTail (x ∷ T) (history doc (suc n))) (w : IsWritten doc x T) where
    abbrev pub who : Identity
    who = w.made.s.who

    actor_is : x.actor ≡ actor_of who
    actor_is = w.actor ∙ w.made.by

    abbrev f : Entry
    f = w.made.arriving.e

    abbrev low : List Entry
    low = (place_of f T w.made.arriving.stands).before

    asked_at : IsTail (f ∷ low) (history doc (suc n))
    asked_at = tail_trans (f ∷ low) T (history doc (suc n)) (place_of f T w.made.arriving.stands).position (tail_trans T (x ∷ T) (history doc (suc n)) (inr (tail_all T)) at)

    facts : (f.actor ≡ actor_of who) × (f.fact ≡ Sends w.made.s.call w.made.s.arrives)
    facts = sends_of f.actor f.fact w.made.s w.made.arriving.is

    travels : (w.made.s.call.sent ≡ f.beat) × (w.made.s.arrives ≡ request_arrival doc who.process f.beat low)
    travels = subst (λ o. IfSome o (λ s. (s.call.sent ≡ f.beat) × (s.arrives ≡ request_arrival doc s.who.process f.beat low))) w.made.arriving.is (messages_travel doc rules (suc n) f low asked_at).0

    sent : w.call.sent ≡ f.beat
    sent = ap (λ (c : Call). c.sent) w.made.call_is ∙ travels.0

    arrives : w.made.s.arrives ≡ Some x.beat
    arrives = due_at x.beat w.made.s.arrives w.made.arriving.now

    writes : (m : ℕ) → m ≤ w.call.sent → WritesElection m x.fact
    writes m le = subst (WritesElection m) (sym w.fact) (le, ap has w.is)

    -- one that arrives a way after the calm began, or later, was sent in it
    pub sent_since : a + far ≤ x.beat → a ≤ w.call.sent
    sent_since late = ⊎_elim (λ lt. absurd (early lt)) (λ le. omega (arith, le, sent)) (cases_lt f.beat a)
      where
        key : key_eq (key_of w.made.s.call.request) election ≡ true
        key = subst (λ (c : Call). key_eq (key_of c.request) election ≡ true) w.made.call_is (wrote_key w.call.request w.wrote w.object w.is)

        early : f.beat < a → ⊥
        early lt =
            let there : In f (history doc a) = in_head f low (history doc a) (tail_trans (f ∷ low) (history doc (suc f.beat)) (history doc a) (in_own_beat doc (suc n) f low asked_at) (later_tail doc (suc f.beat) a (omega (arith, lt)))) in
            let under = subst (λ o. IfSome o (λ s. key_eq (key_of s.call.request) election ≡ true → IfSome s.arrives (λ m. m < a + far))) w.made.arriving.is (calm.requests f there) in
            let before : x.beat < a + far = subst (λ o. IfSome o (λ m. m < a + far)) arrives (under key) in
            omega (arith, late, before)

    -- by a steady controller
    pub is_steady : a ≤ w.call.sent → IsSteady doc near far a e who.process
    is_steady since = ⊎_elim (λ s. s) (λ quiet. absurd (never quiet)) (calm.each who.process w.role)
      where
        process_is : has (of_process who.process x.actor) ≡ true
        process_is = ap (λ actor. has (of_process who.process actor)) actor_is ∙ ap (λ b. has (when b who.incarnation)) (eq-eqb who.process who.process refl)

        never : IsQuiet doc a e who.process → ⊥
        never quiet =
            quiet x (in_tail x (history doc (suc n)) (history doc (suc e)) (later_tail doc (suc n) (suc e) (omega (arith, within))) (in_head x T (history doc (suc n)) at)) process_is (writes a since)

    -- so it comes within a way
    pub comes_by : a ≤ w.call.sent → x.beat ≤ w.call.sent + far
    comes_by since = omega (arith, sent, beat_is, passes.request_most)
      where
        by : f.beat ≤ n
        by = ⊎_elim (λ lt. omega (arith, lt)) (λ first. omega (arith, first.0)) (entries_are_earlier doc (suc n) f (in_head f low (history doc (suc n)) asked_at))

        passes : Passes doc near far who.process f.beat
        passes = (is_steady since).passes f.beat (omega (arith, sent, since)) (omega (arith, by, within))

        x_by : x.beat ≤ n
        x_by = ⊎_elim (λ lt. omega (arith, lt)) (λ first. omega (arith, first.0)) (entries_are_earlier doc (suc n) x (in_head x T (history doc (suc n)) at))

        step : 2 ≤ f.step
        step =
            let s = sending_of doc rules near far a e n who w.role (is_steady since) (time who.process w.role (is_steady since)) within one w.made.s.call w.made.s.arrives f low asked_at facts.0 facts.1 (omega (arith, travels.0, sent, since)) in
            let least : 3 ≤ f.step = subst (λ (f : Entry). 3 ≤ f.step) s.1 s.0.step in
            omega (arith, least)

        beat_is : x.beat ≡ f.beat + request_delay who.process (with_events doc f.beat)
        beat_is =
            request_comes doc rules near far who.process f.beat low passes (forces_stand doc rules (suc n) f low asked_at step) x.beat
            (λ j low high. ((is_steady since).passes j (omega (arith, sent, since, low)) (omega (arith, high, x_by, within))).goes) (sym travels.1 ∙ arrives)

    -- what it leaves lasts for no longer than the longest lease duration
    pub leaves : (most : ℕ) → AllLastFor doc near far a e most → (p : ℕ) → lease_duration doc p ≤ most → a ≤ w.call.sent → LastsFor doc p most (object_of (stored election (x ∷ T)))
    leaves most all p mine since =
        subst (LastsFor doc p most) (sym (stored_as x T w.object (ap (λ d. at_key election (write_of d)) w.fact ∙ w.is)))
        (written_lasts doc p w.made.s.call.kind who most w.made.s.call.request T w.object mine (all who.process w.role (is_steady since))
        (asked_of doc sound rules n (omega (arith, within, end)) who w.role f low w.made.s.call w.made.s.arrives asked_at facts.0 facts.1).fit
        (subst (λ (c : Call). at_key election (request_write c.request (written w.made.s.call.request T)) ≡ Some w.object) w.made.call_is (subst (λ o. at_key election (request_write w.call.request o) ≡ Some w.object) w.made.written_is w.is)))

  -- ---- what is stored

  module _ (settled : ℕ) (ordered : a ≤ settled)
      (no_write : (x : Entry) (T : List Entry) (q : Identity) → IsTail (x ∷ T) (history doc (suc n)) → x.actor ≡ actor_of q → is_controller doc q.process ≡ true → WritesElection settled x.fact → x.beat + far ≤ n → ⊥) where
    same : (x : Entry) (T : List Entry) → IsTail (x ∷ T) (history doc (suc n)) → settled + far ≤ x.beat → x.beat + far ≤ n → Change doc x T → stored election (x ∷ T) ≡ stored election T
    same x T at from soon (Unwritten u) = u.same
    same x T at from soon (Put p) = absurd (omega (arith, from, p.first, one, ways))
    same x T at from soon (Written w) = absurd (no_write x T (who x T at w) at (actor_is x T at w) w.role (writes x T at w settled since) soon)
      where
        late : a ≤ w.call.sent
        late = sent_since x T at w (omega (arith, from, ordered))

        since : settled ≤ w.call.sent
        since = omega (arith, from, comes_by x T at w late)

    stays : (m : ℕ) → settled + far ≤ m → m + far ≤ n → (g : List Entry) → IsTail (history doc (settled + far)) g → IsTail g (history doc (suc m)) → stored election g ≡ stored election (history doc (settled + far))
    stays m from late [] low at = ap (stored election) (sym low)
    stays m from late (x ∷ T) (inl is) at = ap (stored election) (sym is)
    stays m from late (x ∷ T) (inr low) at =
        let position = tail_trans (x ∷ T) (history doc (suc m)) (history doc (suc n)) at (later_tail doc (suc m) (suc n) (omega (arith, late))) in
        let beat : settled + far ≤ x.beat = (next_above (λ y. settled + far ≤ y.beat) (history doc (settled + far)) T (history doc (suc m)) x (from_beat doc (settled + far) (suc m) (omega (arith, from))) low at).0 in
        let upto : x.beat < suc m = ⊎_elim (λ lt. lt) (λ first. omega (arith, first.0)) (entries_are_earlier doc (suc m) x (in_head x T (history doc (suc m)) at)) in
        same x T position beat (omega (arith, upto, late)) (change_of doc sound rules n (omega (arith, within, end)) x T position)
        ∙ stays m from late T low (tail_trans T (x ∷ T) (history doc (suc m)) (inr (tail_all T)) at)

    pub kept : IsKept doc far settled n
    kept = record { no_write = no_write; stays = stays }

    -- ---- and how long it lasts

    module _ (most : ℕ) (all : AllLastFor doc near far a e most) (p : ℕ) (mine : lease_duration doc p ≤ most) (early : LastsFor doc p most (early_record a (history doc (a + far)))) (room : settled + far ≤ n) where
      abbrev Lasts : List Entry → Type 0
      Lasts h = LastsFor doc p most (object_of (stored election h))

      into : (m : ℕ) → m ≤ settled + far → (h : List Entry) → IsTail h (history doc m) → IsTail h (history doc (suc n))
      into m le h at = tail_trans h (history doc m) (history doc (suc n)) at (later_tail doc m (suc n) (omega (arith, le, room)))

      first_more : (x : Entry) (T : List Entry) → IsTail (x ∷ T) (history doc (suc n)) → IsStored a T ⊎ Lasts T → Change doc x T → IsStored a (x ∷ T) ⊎ Lasts (x ∷ T)
      first_more x T at (inl s) (Unwritten u) = inl (unchanged a x T u s)
      first_more x T at (inr l) (Unwritten u) = inr (subst (λ o. LastsFor doc p most (object_of o)) (sym u.same) l)
      first_more x T at s (Put p) = inl (put_stored a x T p)
      first_more x T at s (Written w) = by_time (nat_lt w.call.sent a) refl
        where
          by_time : (b : Bool) → nat_lt w.call.sent a ≡ b → IsStored a (x ∷ T) ⊎ Lasts (x ∷ T)
          by_time true before = inl (early_stored doc a x T w before)
          by_time false since = inr (leaves x T at w most all p mine (ltb-false w.call.sent a since))

      first : (h : List Entry) → IsTail h (history doc (a + far)) → IsStored a h ⊎ Lasts h
      first [] at = inl refl
      first (x ∷ T) at =
          let there = into (a + far) (omega (arith, ordered)) (x ∷ T) at in
          first_more x T there (first T (tail_trans T (x ∷ T) (history doc (a + far)) (inr (tail_all T)) at)) (change_of doc sound rules n (omega (arith, within, end)) x T there)

      begins : Lasts (history doc (a + far))
      begins = ⊎_elim (λ s. subst (LastsFor doc p most) (sym s) early) (λ l. l) (first (history doc (a + far)) (tail_all (history doc (a + far))))

      then_more : (x : Entry) (T : List Entry) → IsTail (x ∷ T) (history doc (suc n)) → a + far ≤ x.beat → Lasts T → Change doc x T → Lasts (x ∷ T)
      then_more x T at from l (Unwritten u) = subst (λ o. LastsFor doc p most (object_of o)) (sym u.same) l
      then_more x T at from l (Put p) = absurd (omega (arith, from, p.first, one, ways))
      then_more x T at from l (Written w) = leaves x T at w most all p mine (sent_since x T at w from)

      goes_on : (h : List Entry) → IsTail (history doc (a + far)) h → IsTail h (history doc (settled + far)) → Lasts h
      goes_on [] low at = subst Lasts low begins
      goes_on (x ∷ T) (inl is) at = subst Lasts is begins
      goes_on (x ∷ T) (inr low) at =
          let there = into (settled + far) (omega arith) (x ∷ T) at in
          let beat : a + far ≤ x.beat = (next_above (λ y. a + far ≤ y.beat) (history doc (a + far)) T (history doc (settled + far)) x (from_beat doc (a + far) (settled + far) (omega (arith, ordered))) low at).0 in
          then_more x T there beat (goes_on T low (tail_trans T (x ∷ T) (history doc (settled + far)) (inr (tail_all T)) at)) (change_of doc sound rules n (omega (arith, within, end)) x T there)

      pub lasts : LastsFor doc p most (object_of (stored election (history doc (settled + far))))
      lasts = goes_on (history doc (settled + far)) (later_tail doc (a + far) (settled + far) (omega (arith, ordered))) (tail_all (history doc (settled + far)))
