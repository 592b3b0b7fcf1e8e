-- While nobody else acts, each write of the election Lease is the leader's own, by a call that it sent before it fell silent.
use Rattle.std.proofs.Common.{◌≡◌, ◌<◌, ◌≤◌, ℕ, suc, ◌+◌, ◌-◌, true, List, [], ◌∷◌, Option, Some, None, refl, sym, ap, ◌∙◌, subst, inl, inr, ⊎_elim, arith}
use Rattle.std.proofs.lemmas.Bool.{cases_eq}
use Rattle.kube_objects.specs.declared.lease.Lease.{Lease}
use Rattle.kube_objects.specs.declared.object.Object.{Object}
use Rattle.kube_objects.specs.declared.object.Object.TheVariants as object
use Rattle.kube_objects.specs.Document.{Doc, is_controller, lease_seconds}
use Rattle.kube_objects.specs.Entry.{Entry, Identity}
use Rattle.kube_objects.specs.Identities.{identity_of, holder_of}
use Rattle.kube_objects.specs.Newest.{has, join}
use Rattle.kube_objects.specs.Stored.{Held, election, stored, at_key, write_of, next_version, holds, last_write}
use Rattle.history.specs.History.{history}
use Rattle.history.specs.Safe.{Acts}
use Rattle.history_laws.specs.Tails.{In, IsTail}
use Rattle.history_laws.proofs.Order.{entries_are_earlier, entries_are_ordered}
use Rattle.history_laws.proofs.Plainly.{upper}
use Rattle.history_laws.proofs.Tailed.{tail_all, tail_trans, later_tail}
use Rattle.lease_laws.proofs.EachKind.{top_stays}
use Rattle.takeover_laws.specs.Waits.{blocked_for}
use Rattle.takeover_laws.proofs.Waits.{blocked_time}
use Rattle.call_laws.proofs.Above.{in_head, next_above}
use Rattle.call_laws.proofs.Placing.{from_beat}
use Rattle.takeover_laws.specs.Calm.{IsQuiet, WritesElection}
use Rattle.takeover_laws.proofs.Writers.{writer_acts}
use Rattle.calm_laws.specs.Bounds.{LastsFor}
use Rattle.calm_laws.proofs.Looks.{object_of}
use Rattle.stay_laws.proofs.Rivals.{not_sooner}
use Rattle.stay_laws.proofs.Won.{Won, is_won}
use Rattle.silence_laws.specs.Silence.{LeadsUntil, Bears}
use Rattle.silence_laws.proofs.Setting.{request_way}
use Rattle.silence_laws.proofs.Owning.{OwnRecord, own_record, sent_early}

-- no entry stands above one of a later beat
pub entries_rise : (doc : Doc) (m : ℕ) (x : Entry) (T : List Entry) → IsTail (x ∷ T) (history doc m) → (f : Entry) → In f T → f.beat ≤ x.beat
entries_rise doc m = not_sooner (history doc m) (entries_are_ordered doc m)

-- ---- who writes

-- an accepted write of the election Lease by an identity of a process, by a call that was sent before beat b: its own record
pub record IsIts (doc : Doc) (b p : ℕ) (x : Entry) (T : List Entry) : Type 0 where
  pub won : Won doc x T
  pub mine : won.who.process ≡ p
  pub own : OwnRecord doc x T won
  pub early : won.call.sent < b

-- ---- what is stored

-- it is a record of the leader's process
pub record OfIt (doc : Doc) (q : Identity) (h : List Entry) : Type 0 where
  pub y : Held
  pub top : stored election h ≡ Some y
  pub who : Identity
  pub mine : who.process ≡ q.process
  pub by : y.by ≡ Some who
  pub lease : Lease
  pub object : y.object ≡ object.Lease lease
  pub holder : lease.holder ≡ holder_of who
  pub duration : lease.duration ≡ Some (lease_seconds doc q.process)

pub new_of_it : (doc : Doc) (b : ℕ) (q : Identity) (x : Entry) (T : List Entry) → IsIts doc b q.process x T → OfIt doc q (x ∷ T)
new_of_it doc b q x T i = record {
  y = record { version = next_version T; object = object.Lease i.own.lease; beat = x.beat; by = identity_of x.actor };
  top = ap (λ o. join (upper (holds T x.beat x.actor o) (last_write election T))) i.own.writes;
  who = i.won.who;
  mine = i.mine;
  by = ap identity_of i.won.actor;
  lease = i.own.lease;
  object = refl;
  holder = i.own.holder;
  duration = i.own.duration ∙ ap (λ p. Some (lease_seconds doc p)) i.mine;
}

pub old_of_it : (doc : Doc) (q : Identity) (x : Entry) (T : List Entry) → at_key election (write_of x.fact) ≡ None → OfIt doc q T → OfIt doc q (x ∷ T)
old_of_it doc q x T none o = record { y = o.y; top = top_stays x T none ∙ o.top; who = o.who; mine = o.mine; by = o.by; lease = o.lease; object = o.object; holder = o.holder; duration = o.duration }

-- it blocks a process for as long as that respects the leader's records
pub lasts_for : (doc : Doc) (p : ℕ) (q : Identity) (h : List Entry) → OfIt doc q h → LastsFor doc p (blocked_for doc p q.process) (object_of (stored election h))
lasts_for doc p q h o =
    subst (λ t. LastsFor doc p (blocked_for doc p q.process) (object_of t)) (sym o.top)
    (subst (λ y. LastsFor doc p (blocked_for doc p q.process) (Some y)) (sym o.object) (inr (omega (arith, blocked_time doc p q.process o.lease o.duration))))

module _ (doc : Doc) (near far b e : ℕ) (q : Identity) (l : LeadsUntil doc near far b e q) (s : Bears doc near far b e q) (quiet : IsQuiet doc b e q.process)
    (n : ℕ) (within : n ≤ e) where
  module _ (x : Entry) (T : List Entry) (at : IsTail (x ∷ T) (history doc (suc n))) (writes : has (at_key election (write_of x.fact)) ≡ true) (w : Won doc x T) (mine : w.who.process ≡ q.process) where
    at_e : IsTail (x ∷ T) (history doc (suc e))
    at_e = tail_trans (x ∷ T) (history doc (suc n)) (history doc (suc e)) at (later_tail doc (suc n) (suc e) (omega (arith, within)))

    early : w.call.sent < b
    early = sent_early doc near far b e q l s (history doc (suc e)) (tail_all (history doc (suc e))) quiet x T at_e w writes mine

    own : OwnRecord doc x T w
    own = own_record doc near far b e q l s x T at_e writes w mine early

    pub is_its : IsIts doc b q.process x T
    is_its = record { won = w; mine = mine; own = own; early = early }

    asked_high : IsTail (w.f ∷ w.low) (history doc (suc n))
    asked_high = tail_trans (w.f ∷ w.low) T (history doc (suc n)) w.asked (tail_trans T (x ∷ T) (history doc (suc n)) (inr (tail_all T)) at)

    x_upto : x.beat ≤ n
    x_upto = ⊎_elim (λ lt. omega (arith, lt)) (λ first. omega (arith, first.0)) (entries_are_earlier doc (suc n) x (in_head x T (history doc (suc n)) at))

    -- it arrives within a way after beat b
    pub its_beat : x.beat < b + far
    its_beat =
        omega (
          arith,
          (request_way doc s.rules near far (b - 1) q.process l.steady (suc n) w.f w.low w.who w.call (Some x.beat) asked_high l.role mine w.f_actor w.f_fact (omega (arith, early, own.sent)) x.beat refl
              (λ j low high soon. l.goes j (omega (arith, high, x_upto, within)))).most,
          early,
          own.sent,
        )

  -- ---- while nobody else acts

  module _ (idle : (r : Identity) → is_controller doc r.process ≡ true → (r.process ≡ q.process → ⊥) → (k : ℕ) → k ≤ n → Acts doc r k → ⊥) where
    -- no other controller writes it, where a reply could come
    pub no_foreign : (x : Entry) (T : List Entry) → IsTail (x ∷ T) (history doc (suc n)) → has (at_key election (write_of x.fact)) ≡ true → x.beat + far ≤ n → (w : Won doc x T) → w.who.process ≡ q.process
    no_foreign x T at writes late w = ⊎_elim (λ same. same) (λ other. absurd (foreign other)) (cases_eq w.who.process q.process)
      where
        foreign : (w.who.process ≡ q.process → ⊥) → ⊥
        foreign other =
            writer_acts doc s.rules near far 0 e n w.who w.role (l.others w.who.process w.role other) (s.calls w.who.process w.role) within s.one (λ k from to. idle w.who w.role other k to) x T at w.actor
            (subst (WritesElection 0) (sym w.fact) (omega arith, ap (λ d. has (at_key election (write_of d))) (sym w.fact) ∙ writes)) late

    -- from beat b + far on it is the same
    pub same_since : (m : ℕ) → b + far ≤ suc m → m + far ≤ n → (h : List Entry) → IsTail (history doc (b + far)) h → IsTail h (history doc (suc m)) → stored election h ≡ stored election (history doc (b + far))
    same_since m from late [] low high = ap (stored election) (sym low)
    same_since m from late (z ∷ Z) (inl is) high = ap (stored election) (sym is)
    same_since m from late (z ∷ Z) (inr low) high = by_write (at_key election (write_of z.fact)) refl ∙ same_since m from late Z low (tail_trans Z (z ∷ Z) (history doc (suc m)) (inr (tail_all Z)) high)
      where
        at_n : IsTail (z ∷ Z) (history doc (suc n))
        at_n = tail_trans (z ∷ Z) (history doc (suc m)) (history doc (suc n)) high (later_tail doc (suc m) (suc n) (omega (arith, late)))

        upto : z.beat ≤ m
        upto = ⊎_elim (λ lt. omega (arith, lt)) (λ first. omega (arith, first.0)) (entries_are_earlier doc (suc m) z (in_head z Z (history doc (suc m)) high))

        beat : b + far ≤ z.beat
        beat = (next_above (λ y. b + far ≤ y.beat) (history doc (b + far)) Z (history doc (suc m)) z (from_beat doc (b + far) (suc m) from) low high).0

        by_write : (o : Option (Option Object)) → at_key election (write_of z.fact) ≡ o → stored election (z ∷ Z) ≡ stored election Z
        by_write None is = top_stays z Z is
        by_write (Some o) is =
            let w : Won doc z Z = is_won doc s.sound s.rules n (omega (arith, within, s.end)) z Z at_n (omega (arith, beat, s.one, s.ways)) (ap has is) in
            absurd (omega (arith, beat, its_beat z Z at_n (ap has is) w (no_foreign z Z at_n (ap has is) (omega (arith, upto, late)) w)))
