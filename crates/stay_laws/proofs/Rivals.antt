-- Once a leader has written the election Lease, nobody else writes it before the leader can have renewed.
use Rattle.std.proofs.Common.{◌≡◌, ◌<◌, ◌≤◌, ℕ, suc, ◌+◌, ◌-◌, ◌*◌, ◌&&◌, not, Bool, true, false, List, [], ◌∷◌, length, Option, Some, None, IfSome, refl, sym, ap, ◌∙◌, subst, inl, inr, ⊎_elim, arith}
use Rattle.std.proofs.lemmas.Bool.{eq-eqb}
use Rattle.std.proofs.Math.Nat.{mul-le-mul_right}
use Rattle.kube_objects.specs.declared.lease.Lease.{Lease}
use Rattle.kube_objects.specs.declared.object.Object.{Object}
use Rattle.kube_objects.specs.declared.object.Object.TheVariants as object
use Rattle.kube_objects.specs.Clocks.{local}
use Rattle.kube_objects.specs.Document.{Doc, end_beat, is_controller, lease_seconds}
use Rattle.kube_objects.specs.Elector.{succeeds}
use Rattle.kube_objects.specs.Entry.{Entry, Identity, Stops, Answers, actor_of, entry}
use Rattle.kube_objects.specs.Identities.{is_same, is_by, is_other, of_process, holder_of}
use Rattle.kube_objects.specs.Newest.{added, has, when}
use Rattle.kube_objects.specs.Own.{ReleasesByStop}
use Rattle.kube_objects.specs.Process.{is_stop, stops}
use Rattle.kube_objects.specs.Stored.{Held, election, stored, at_key, write_of}
use Rattle.kube_objects.specs.Wire.{Back, back_of, request_arrival, request_delay}
use Rattle.history.specs.History.{history, whole_history}
use Rattle.history.specs.Premise.{greatest_below}
use Rattle.history.specs.Safe.{Acts}
use Rattle.history.specs.Sound.{IsSound}
use Rattle.history_laws.specs.Order.{IsOrdered}
use Rattle.history_laws.specs.Tails.{In, IsTail}
use Rattle.history_laws.proofs.Order.{entries_are_earlier, entries_are_ordered}
use Rattle.history_laws.proofs.Plainly.{some_is, true_is, same_is, same_self}
use Rattle.history_laws.proofs.Tailed.{tail_all, tail_trans, count_tail, later_tail, same_head, same_rest}
use Rattle.span_laws.proofs.Spans.{goes_most}
use Rattle.lease_laws.proofs.EachKind.{top_stays}
use Rattle.lease_laws.proofs.Invariant.{gives_up}
use Rattle.lease_laws.proofs.Premises.{rates_at_most}
use Rattle.call_laws.specs.Answering.{with_events}
use Rattle.call_laws.proofs.Above.{in_head}
use Rattle.call_laws.proofs.Placing.{forces_stand, messages_travel}
use Rattle.call_laws.proofs.Starting.{actor_is}
use Rattle.takeover_laws.specs.Acting.{AreInTime}
use Rattle.takeover_laws.specs.Waits.{blocked_for}
use Rattle.takeover_laws.proofs.Waits.{blocked_time}
use Rattle.takeover_laws.specs.Calm.{Passes, IsSteady, IsQuiet, IsCalm, WritesElection}
use Rattle.takeover_laws.proofs.Rounds.{request_comes, sent_is}
use Rattle.takeover_laws.proofs.Writers.{Sending, sending_of}
use Rattle.gap_laws.proofs.Waits.{Slow, Waited, WaitedFor, Topped, Took, Waits}
use Rattle.gap_laws.proofs.Histories.{whole_known}
use Rattle.stay_laws.specs.Stays.{RenewsInTime}
use Rattle.stay_laws.proofs.Giving.{gives_at_stop}
use Rattle.stay_laws.proofs.Won.{Won, is_won, never_stopped}

-- what is stored is q's own record, written at a beat or later
pub record Own (doc : Doc) (q : Identity) (from : ℕ) (h : List Entry) : Type 0 where
  pub y : Held
  pub top : stored election h ≡ Some y
  pub by : y.by ≡ Some q
  pub since : from ≤ y.beat
  pub lease : Lease
  pub object : y.object ≡ object.Lease lease
  pub holder : lease.holder ≡ holder_of q
  pub duration : lease.duration ≡ Some (lease_seconds doc q.process)

-- no entry stands above one of a later beat
pub not_sooner : (h : List Entry) → IsOrdered h → (x : Entry) (T : List Entry) → IsTail (x ∷ T) h → (f : Entry) → In f T → f.beat ≤ x.beat
not_sooner [] s x T at f stands = absurd (nothing at)
  where
    nothing : x ∷ T ≡ [] → ⊥
    nothing is = cc
not_sooner (e ∷ h) s x T (inl is) f stands =
    ⊎_elim (λ lt. omega (arith, lt, ap (λ (x : Entry). x.beat) (same_head x e T h is))) (λ here. omega (arith, here.0, ap (λ (x : Entry). x.beat) (same_head x e T h is)))
    (s.0 f (subst (In f) (same_rest x e T h is) stands))
not_sooner (e ∷ h) s x T (inr at) f stands = not_sooner h s.1 x T at f stands

-- everything that is known of waits, of no certain delays
abbrev pub plainly : Slow
plainly = record { who = 0; from = 0; least = 0 }

-- the answer to an accepted write as a message to its sender
back_is : (doc : Doc) (x : Entry) (T : List Entry) (w : Won doc x T) → back_of x.actor x.fact ≡ Some (record { who = w.who; call = w.call; reply = w.reply; comes = w.comes })
back_is doc x T w = ap (λ d. back_of x.actor d) w.fact ∙ ap (λ who. back_of who (Answers w.call w.reply w.comes w.wrote)) w.actor

-- such a write waited for what it found
pub won_topped : (doc : Doc) → IsSound doc → ReleasesByStop doc → (m : ℕ) → m ≤ end_beat doc → (x : Entry) (T : List Entry) → IsTail (x ∷ T) (history doc (suc m)) → (w : Won doc x T)
    → Topped doc x T × Took doc plainly (record { who = w.who; call = w.call; reply = w.reply; comes = w.comes }) x.beat T
won_topped doc sound rules m end x T at w =
    subst (λ o. IfSome o (λ b. is_controller doc b.who.process ≡ true → succeeds b.call.request b.reply ≡ true → Topped doc x T × Took doc plainly b x.beat T))
    (back_is doc x T w)
    (known.answers x T (tail_trans (x ∷ T) (history doc (suc m)) (whole_history doc) at (later_tail doc (suc m) (suc (end_beat doc)) (omega (arith, end))))) w.role w.so
  where
    known : Waits doc plainly (end_beat doc) (whole_history doc)
    known = whole_known doc sound rules (greatest_below doc (length doc.controllers)) (rates_at_most doc) plainly (λ x h at from late. (omega arith, omega arith))

-- so it was sent after what it found was stored, and waited for that
pub won_waited : (doc : Doc) → IsSound doc → ReleasesByStop doc → (m : ℕ) → m ≤ end_beat doc → (x : Entry) (T : List Entry) → IsTail (x ∷ T) (history doc (suc m)) → (w : Won doc x T)
    → (y : Held) → stored election T ≡ Some y → (y.beat ≤ w.call.sent) × WaitedFor doc plainly w.who w.call.sent y
won_waited doc sound rules m end x T at w y top =
    subst (λ o. IfSome o (λ y. (y.beat ≤ w.call.sent) × WaitedFor doc plainly w.who w.call.sent y)) top (won_topped doc sound rules m end x T at w).1.base

module _ (doc : Doc) (near far a e : ℕ) (sound : IsSound doc) (rules : ReleasesByStop doc) (calm : IsCalm doc near far a e) (time : AreInTime doc near far a e) (one : 1 ≤ near) (end : e ≤ end_beat doc)
    (q : Identity) (role : is_controller doc q.process ≡ true) (steady : IsSteady doc near far a e q.process) (renews : RenewsInTime doc near far a e q) where
  abbrev all : List Entry
  all = history doc (suc e)

  -- an entry's beat
  upto : (n : ℕ) (x : Entry) (T : List Entry) → 1 ≤ x.beat → IsTail (x ∷ T) (history doc (suc n)) → x.beat ≤ n
  upto n x T from at = ⊎_elim (λ lt. omega (arith, lt)) (λ first. omega (arith, first.0, from)) (entries_are_earlier doc (suc n) x (in_head x T (history doc (suc n)) at))

  -- ---- a rival's write over q's record comes late

  module _ (x : Entry) (T : List Entry) (at : IsTail (x ∷ T) all) (w : Won doc x T) (writes : has (at_key election (write_of x.fact)) ≡ true) (from : ℕ) (after : a ≤ from) (own : Own doc q from T) where
    -- what is known of the call
    took : Took doc plainly (record { who = w.who; call = w.call; reply = w.reply; comes = w.comes }) x.beat T
    took = (won_topped doc sound rules e end x T at w).1

    base : (own.y.beat ≤ w.call.sent) × WaitedFor doc plainly w.who w.call.sent own.y
    base = won_waited doc sound rules e end x T at w own.y own.top

    sent_in : a ≤ w.call.sent
    sent_in = omega (arith, after, own.since, base.0)

    earlier : w.call.sent < x.beat
    earlier = took.after.0

    x_upto : x.beat ≤ e
    x_upto = upto e x T (omega (arith, earlier)) at

    -- its sender's messages pass
    rival_steady : IsSteady doc near far a e w.who.process
    rival_steady = ⊎_elim (λ s. s) (λ quiet. absurd (no_quiet quiet)) (calm.each w.who.process w.role)
      where
        no_quiet : IsQuiet doc a e w.who.process → ⊥
        no_quiet quiet =
            quiet x (in_head x T all at) (ap (λ who. has (of_process w.who.process who)) w.actor ∙ ap (λ b. has (when b w.who.incarnation)) (eq-eqb w.who.process w.who.process refl))
            (subst (WritesElection a) (sym w.fact) (sent_in, subst (λ d. has (at_key election (write_of d)) ≡ true) w.fact writes))

    asked : IsTail (w.f ∷ w.low) all
    asked = tail_trans (w.f ∷ w.low) T all w.asked (tail_trans T (x ∷ T) all (inr (tail_all T)) at)

    -- its sending
    sending : (s : Sending doc a e w.who w.call (Some x.beat)) × (s.f ≡ w.f) × (s.before ≡ w.low)
    sending = sending_of doc rules near far a e e w.who w.role rival_steady (time w.who.process w.role rival_steady) (omega arith) one w.call (Some x.beat) w.f w.low asked w.f_actor w.f_fact sent_in

    s : Sending doc a e w.who w.call (Some x.beat)
    s = sending.0

    -- its request took a while
    way : w.call.sent + near ≤ x.beat
    way = omega (arith, s.sent, comes, passes.request_least)
      where
        passes : Passes doc near far w.who.process s.f.beat
        passes = rival_steady.passes s.f.beat s.from (omega (arith, s.sent, earlier, x_upto))

        arrives : Some x.beat ≡ request_arrival doc w.who.process s.f.beat s.before
        arrives =
            (subst (λ o. IfSome o (λ s2. (s2.call.sent ≡ s.f.beat) × (s2.arrives ≡ request_arrival doc s2.who.process s.f.beat s.before))) (sent_is s.f w.who w.call (Some x.beat) s.actor s.fact)
            (messages_travel doc rules (suc e) s.f s.before s.position).0).1

        comes : x.beat ≡ s.f.beat + request_delay w.who.process (with_events doc s.f.beat)
        comes =
            request_comes doc rules near far w.who.process s.f.beat s.before passes (forces_stand doc rules (suc e) s.f s.before s.position (omega (arith, s.step))) x.beat
            (λ j low high. (rival_steady.passes j (omega (arith, s.from, low)) (omega (arith, high, x_upto))).goes) (sym arrives)

    module _ (rival : w.who ≡ q → ⊥) where
      -- somebody else has waited since it was shown q's record
      differs : (b : Bool) → is_same q w.who ≡ b → is_same q w.who ≡ false
      differs true is = absurd (rival (sym (same_is q w.who is)))
      differs false is = is

      waited : Waited doc plainly w.who w.call.sent own.y own.lease
      waited = base.1 own.lease own.object (ap (is_other w.who) own.holder ∙ ap not (differs (is_same q w.who) refl))

      over : local doc w.who.process waited.seen + blocked_for doc w.who.process q.process ≤ local doc w.who.process w.call.sent
      over = subst (λ t. local doc w.who.process waited.seen + t ≤ local doc w.who.process w.call.sent) (blocked_time doc w.who.process q.process own.lease own.duration) waited.over

      -- which takes longer
      too_soon : x.beat ≤ own.y.beat + renews.wait + 5 * far → ⊥
      too_soon soon =
          omega (
            arith,
            over,
            goes_most doc w.who.process a e renews.fastest (renews.others w.who.process w.role rival_steady) waited.seen w.call.sent (omega (arith, waited.late.0, after, own.since)) waited.before (omega (arith, earlier, x_upto)),
            mul-le-mul_right renews.fastest beats,
            renews.lasts w.who.process w.role rival_steady,
          )
        where
          beats : w.call.sent - waited.seen ≤ renews.wait + 5 * far - near
          beats = omega (arith, soon, way, waited.late.0)

  -- ---- after its write all are q's

  module _ (k : ℕ) (from : a ≤ k) (to : k ≤ e) (acting : Acts doc q k) (x0 : Entry) (T0 : List Entry) (at0 : IsTail (x0 ∷ T0) all) (mine0 : x0.actor ≡ actor_of q) (writes0 : has (at_key election (write_of x0.fact)) ≡ true) (after : a ≤ x0.beat) (some : 1 ≤ x0.beat) where
    -- it isn't stopped
    unstopped : (T : List Entry) → IsTail T all → stops q T ≡ 0
    unstopped T at = let none = never_stopped doc rules near far a e q steady sound end k from to acting in omega (arith, none, count_tail (λ x. is_stop x.fact && is_by q x.actor) T all at)

    -- its accepted write leaves its own record
    pub own_of : (from : ℕ) (x : Entry) (T : List Entry) → IsTail (x ∷ T) all → (w : Won doc x T) → w.who ≡ q → from ≤ x.beat → Own doc q from (x ∷ T)
    own_of from x T at w mine since = record {
      y = t.x;
      top = t.top;
      by = t.by ∙ ap Some who;
      since = omega (arith, since, t.beat);
      lease = t.lease;
      object = t.object;
      holder = fit.0 ∙ ap holder_of who;
      duration = fit.1 ∙ ap (λ (p : Identity). Some (lease_seconds doc p.process)) who;
    }
      where
        t : Topped doc x T
        t = (won_topped doc sound rules e end x T at w).0

        who : t.b.who ≡ q
        who = ap (λ (b : Back). b.who) (some_is t.b (record { who = w.who; call = w.call; reply = w.reply; comes = w.comes }) (sym t.is ∙ back_is doc x T w)) ∙ mine

        in_T : IsTail T all
        in_T = tail_trans T (x ∷ T) all (inr (tail_all T)) at

        -- it gives up no Lease, as it isn't stopped
        keeps : gives_up t.b.call.kind ≡ true → ⊥
        keeps gives = omega (arith, none)
          where
            s : (before : List Entry) × (w.low ≡ entry w.f.beat 1 w.who Stops ∷ before)
            s =
                gives_at_stop doc rules (suc e) w.who w.role w.f w.low w.call (Some x.beat) (tail_trans (w.f ∷ w.low) T all w.asked in_T) w.f_actor w.f_fact
                (sym (ap (λ (b : Back). gives_up b.call.kind) (some_is t.b (record { who = w.who; call = w.call; reply = w.reply; comes = w.comes }) (sym t.is ∙ back_is doc x T w))) ∙ gives)

            none : added true (stops q s.0) ≡ 0
            none =
                ap (λ b. added b (stops q s.0)) (sym (same_self q)) ∙ ap (λ p. stops q (entry w.f.beat 1 p Stops ∷ s.0)) (sym mine) ∙ ap (stops q) (sym s.1)
                ∙ unstopped w.low (tail_trans w.low (w.f ∷ w.low) all (inr (tail_all w.low)) (tail_trans (w.f ∷ w.low) T all w.asked in_T))

        fit : (t.lease.holder ≡ holder_of t.b.who) × (t.lease.duration ≡ Some (lease_seconds doc t.b.who.process))
        fit = ⊎_elim (λ own. own) (λ free. absurd (keeps free.1)) t.fit

    -- its first write
    pub won0 : Won doc x0 T0
    won0 = is_won doc sound rules e end x0 T0 at0 some writes0

    module _ (n : ℕ) (within : n ≤ e) (soon : n ≤ x0.beat + renews.wait + 5 * far) where
      -- positions up to beat n
      in_all : (h : List Entry) → IsTail h (history doc (suc n)) → IsTail h all
      in_all h at = tail_trans h (history doc (suc n)) all at (later_tail doc (suc n) (suc e) (omega (arith, within)))

      -- who writes over its record is q
      is_mine : (x : Entry) (T : List Entry) → IsTail (x ∷ T) (history doc (suc n)) → Own doc q x0.beat T → (w : Won doc x T) → has (at_key election (write_of x.fact)) ≡ true → (w.who ≡ q) × (x0.beat ≤ x.beat)
      is_mine x T at own w writes = by_same (is_same w.who q) refl
        where
          in_e : IsTail (x ∷ T) all
          in_e = in_all (x ∷ T) at

          late : own.y.beat < x.beat
          late = omega (arith, (base x T in_e w writes x0.beat after own).0, earlier x T in_e w writes x0.beat after own)

          by_same : (b : Bool) → is_same w.who q ≡ b → (w.who ≡ q) × (x0.beat ≤ x.beat)
          by_same true is = (same_is w.who q is, omega (arith, own.since, late))
          by_same false is =
              absurd (too_soon x T in_e w writes x0.beat after own (λ mine. true_is (sym (ap (λ p. is_same p q) mine ∙ same_self q) ∙ is))
              (omega (arith, upto n x T (omega (arith, late)) at, soon, own.since)))

      -- an accepted write above the first one is a controller's success
      pub won_at : (x : Entry) (T : List Entry) → IsTail (x ∷ T) (history doc (suc n)) → IsTail (x0 ∷ T0) T → has (at_key election (write_of x.fact)) ≡ true → Won doc x T
      won_at x T at low writes =
          is_won doc sound rules e end x T (in_all (x ∷ T) at)
          (omega (arith, some, not_sooner (history doc (suc n)) (entries_are_ordered doc (suc n)) x T at x0 (in_head x0 T0 T low))) writes

      -- one more entry
      more : (x : Entry) (T : List Entry) → IsTail (x ∷ T) (history doc (suc n)) → IsTail (x0 ∷ T0) T → Own doc q x0.beat T → (o : Option (Option Object)) → at_key election (write_of x.fact) ≡ o → Own doc q x0.beat (x ∷ T)
      more x T at low own None is = record {
        y = own.y;
        top = top_stays x T is ∙ own.top;
        by = own.by;
        since = own.since;
        lease = own.lease;
        object = own.object;
        holder = own.holder;
        duration = own.duration;
      }
      more x T at low own (Some o) is =
          let w = won_at x T at low (ap has is) in
          let mine = is_mine x T at own w (ap has is) in
          own_of x0.beat x T (in_all (x ∷ T) at) w mine.0 mine.1

      -- from its write on its own record is stored
      pub own_at : (h : List Entry) → IsTail (x0 ∷ T0) h → IsTail h (history doc (suc n)) → Own doc q x0.beat h
      own_at [] low at = absurd (nothing low)
        where
          nothing : x0 ∷ T0 ≡ [] → ⊥
          nothing is = cc
      own_at (x ∷ T) (inl is) at = subst (Own doc q x0.beat) is (own_of x0.beat x0 T0 at0 won0 (actor_is won0.who q (sym won0.actor ∙ mine0)) (omega arith))
      own_at (x ∷ T) (inr low) at = more x T at low (own_at T low (tail_trans T (x ∷ T) (history doc (suc n)) (inr (tail_all T)) at)) (at_key election (write_of x.fact)) refl

      -- and who writes after it is q
      pub own_writes : (x : Entry) (T : List Entry) → IsTail (x ∷ T) (history doc (suc n)) → IsTail (x0 ∷ T0) T → has (at_key election (write_of x.fact)) ≡ true → x.actor ≡ actor_of q
      own_writes x T at low writes =
          let w = won_at x T at low writes in
          w.actor ∙ ap actor_of (is_mine x T at (own_at T low (tail_trans T (x ∷ T) (history doc (suc n)) (inr (tail_all T)) at)) w writes).0
