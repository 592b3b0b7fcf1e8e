-- A leader in a calm was stopped and its release was accepted: below it stands the leader's own record, and above it the released one.
use Rattle.std.proofs.Common.{◌≡◌, ◌<◌, ◌≤◌, ℕ, suc, ◌+◌, ◌*◌, true, List, [], ◌∷◌, Option, Some, None, refl, sym, ap, ◌∙◌, subst, inl, inr, ⊎_elim, arith}
use Rattle.std.proofs.lemmas.Bool.{cases_eq}
use Rattle.kube_objects.specs.declared.call.Reply.{Reply}
use Rattle.kube_objects.specs.declared.call.Reply.TheVariants.{Done, Found, Absent, Exists, Conflict, Unchanged}
use Rattle.kube_objects.specs.declared.call.Request.{Request}
use Rattle.kube_objects.specs.declared.call.Request.TheVariants.{Get, Create, Update, PostStatus}
use Rattle.kube_objects.specs.declared.lease.Holder.TheVariants as holder
use Rattle.kube_objects.specs.declared.lease.Lease.{Lease}
use Rattle.kube_objects.specs.declared.object.Object.{Object}
use Rattle.kube_objects.specs.declared.object.Object.TheVariants as object
use Rattle.kube_objects.specs.Answers.{answer, written, if_done}
use Rattle.kube_objects.specs.Document.{Doc, is_controller}
use Rattle.kube_objects.specs.Entry.{Entry, Identity, Call, Fact, Sends, Answers, actor_of, entry}
use Rattle.kube_objects.specs.Keys.{key_eq}
use Rattle.kube_objects.specs.Newest.{when, has, join}
use Rattle.kube_objects.specs.Stored.{Held, election, request_write, at_key, write_of, stored, holds, last_write, next_version}
use Rattle.history.specs.History.{history}
use Rattle.history.specs.Safe.{Acts}
use Rattle.history_laws.specs.Tails.{IsTail}
use Rattle.history_laws.proofs.Plainly.{upper, some_is, none_is}
use Rattle.history_laws.proofs.Tailed.{tail_all, tail_trans, later_tail, same_head}
use Rattle.lease_laws.proofs.EachKind.{top_stays}
use Rattle.call_laws.proofs.Above.{Place, place_of, in_head}
use Rattle.call_laws.proofs.Making.{MadeAnswer, are_made}
use Rattle.call_laws.proofs.Placing.{in_own_beat}
use Rattle.takeover_laws.specs.Calm.{IsQuiet, WritesElection}
use Rattle.takeover_laws.proofs.Writers.{writer_acts}
use Rattle.calm_laws.specs.Bounds.{LastsFor}
use Rattle.calm_laws.proofs.Looks.{object_of}
use Rattle.stay_laws.proofs.Rivals.{won_waited}
use Rattle.stay_laws.proofs.Won.{Won, is_won}
use Rattle.silence_laws.specs.Silence.{LeadsUntil, Bears, IsStopped, IsReleased}
use Rattle.silence_laws.proofs.Kept.{not_below}
use Rattle.silence_laws.proofs.Looking.{asks_election}
use Rattle.silence_laws.proofs.Owning.{IsQuietIn, IsOwn, AllOwn, own_or_foreign, own_since}
use Rattle.silence_laws.proofs.Taken.{first, first_e, first_writes, ways}
use Rattle.silence_laws.proofs.Taken as taken
use Rattle.silence_laws.proofs.Waiting.{history_below, beats_rise}
use Rattle.silence_laws.proofs.Ways.{sent_at, beat_before}
use Rattle.silence_laws.proofs.Released as parting
use Rattle.silence_laws.proofs.Released.{IsAnswering, answering}
use Rattle.succession_laws.proofs.Records.{OfIt}
use Rattle.release_laws.proofs.Freeing.{Frees, releases_free}

abbrev sent_or : ℕ → Fact → ℕ
sent_or n (Answers call reply comes wrote) = call.sent
sent_or n _ = n

-- a write of later on is one since an earlier beat
sooner : (b : ℕ) (d : Fact) → WritesElection (suc b) d → WritesElection b d
sooner b d writes =
    let a : IsAnswering (suc b) d = answering (suc b) d writes in
    subst (WritesElection b) (sym a.fact) (omega (arith, a.since), (subst (WritesElection (suc b)) a.fact writes).1)

-- what an update that frees the Lease leaves
record IsFreed (o : Object) : Type 0 where
  lease : Lease
  object : o ≡ object.Lease lease
  holder : lease.holder ≡ holder.Nobody

freed : (r : Request) (h : List Entry) (o : Object) → Frees r → Some o ≡ written r h → IsFreed o
freed (Update key version lease) h o frees is = by_reply (answer (Update key version lease) h) is
  where
    by_reply : (reply : Reply) → Some o ≡ if_done reply (object.Lease lease) → IsFreed o
    by_reply (Done given) some = record { lease = lease; object = some_is o (object.Lease lease) some; holder = frees }
    by_reply Absent none = absurd (none_is o (sym none))
    by_reply (Found given l) none = absurd (none_is o (sym none))
    by_reply Exists none = absurd (none_is o (sym none))
    by_reply (Conflict given) none = absurd (none_is o (sym none))
    by_reply Unchanged none = absurd (none_is o (sym none))
freed (Create key lease) h o frees is = absurd frees
freed (Get key) h o frees is = absurd frees
freed (PostStatus name status at) h o frees is = absurd frees

module _ (doc : Doc) (near far b e : ℕ) (q : Identity) (l : LeadsUntil doc near far b e q) (s : Bears doc near far b e q) (stop : IsStopped doc b e q) (rel : IsReleased doc near far b e q) where
  -- ---- the stop and the release

  abbrev pub F : List Entry
  F = parting.F doc near far b e q l s stop rel

  abbrev pub R : List Entry
  R = parting.R doc near far b e q l s stop rel

  pub F_e : IsTail (entry b 1 q (Sends rel.call (Some rel.at)) ∷ F) (history doc (suc e))
  F_e = parting.F_e doc near far b e q l s stop rel

  pub R_e : IsTail (entry rel.at 2 q (Answers rel.call (Done rel.version) rel.comes (Some rel.object)) ∷ R) (history doc (suc e))
  R_e = parting.R_e doc near far b e q l s stop rel

  abbrev low_e : IsTail R (history doc (suc e))
  low_e = parting.low_e doc near far b e q l s stop rel

  abbrev quiet : IsQuietIn b q.process R
  quiet = parting.quiet doc near far b e q l s stop rel

  -- from the beat after the stop on its process doesn't write it
  pub quiet_after : IsQuiet doc (suc b) e q.process
  quiet_after x stands own writes = omega (arith, a.since, sent_now, ap (λ (x : Entry). sent_or b x.fact) (same_head x (entry rel.at 2 q (Answers rel.call (Done rel.version) rel.comes (Some rel.object))) place.before R same), ap (sent_or b) a.fact)
    where
      a : IsAnswering (suc b) x.fact
      a = answering (suc b) x.fact writes

      place : Place x (history doc (suc e))
      place = place_of x (history doc (suc e)) stands

      same : x ∷ place.before ≡ entry rel.at 2 q (Answers rel.call (Done rel.version) rel.comes (Some rel.object)) ∷ R
      same = parting.the_release doc near far b e q l s stop rel x place.before place.position own (sooner b x.fact writes)

      sent_now : rel.call.sent ≡ b
      sent_now = sent_at doc s.rules (suc e) q (entry b 1 q (Sends rel.call (Some rel.at))) F rel.call (Some rel.at) F_e refl refl

  -- ---- what the release leaves

  abbrev pub released : List Entry
  released = entry rel.at 2 q (Answers rel.call (Done rel.version) rel.comes (Some rel.object)) ∷ R

  frees : Frees rel.call.request
  frees = releases_free doc s.rules (suc e) (entry b 1 q (Sends rel.call (Some rel.at))) F q rel.call (Some rel.at) F_e refl refl rel.kind

  left : IsFreed rel.object
  left = freed rel.call.request R rel.object frees (made.written_is ∙ ap (λ (c : Call). written c.request R) (sym made.call_is))
    where
      made : MadeAnswer doc rel.at 2 (actor_of q) rel.call (Done rel.version) rel.comes (Some rel.object) R
      made = are_made doc s.rules (suc e) (entry rel.at 2 q (Answers rel.call (Done rel.version) rel.comes (Some rel.object))) R R_e

  -- nobody holds what is stored then
  pub record IsFree (h : List Entry) : Type 0 where
    pub y : Held
    pub top : stored election h ≡ Some y
    pub beat : y.beat ≡ rel.at
    pub lease : Lease
    pub object : y.object ≡ object.Lease lease
    pub holder : lease.holder ≡ holder.Nobody

  pub is_free : IsFree released
  is_free = record {
    y = record { version = next_version R; object = rel.object; beat = rel.at; by = Some q };
    top = ap (λ o. join (upper (holds R rel.at (actor_of q) o) (last_write election R))) writes;
    beat = refl;
    lease = left.lease;
    object = left.object;
    holder = left.holder;
  }
    where
      writes : at_key election (request_write rel.call.request (Some rel.object)) ≡ Some (Some rel.object)
      writes =
          ap (λ k. when (key_eq k election) (Some rel.object))
          (asks_election doc s.sound s.rules e s.end q l.role (entry b 1 q (Sends rel.call (Some rel.at))) rel.call (Some rel.at) (in_head (entry b 1 q (Sends rel.call (Some rel.at))) F (history doc (suc e)) F_e) refl refl)

  -- so nobody is blocked
  pub lasts : (p : ℕ) → LastsFor doc p 0 (object_of (stored election released))
  lasts p = subst (λ t. LastsFor doc p 0 (object_of t)) (sym is_free.top) (subst (λ y. LastsFor doc p 0 (Some y)) (sym is_free.object) (inl is_free.holder))

  -- ---- what is stored below it

  -- the leader's first write stands below what comes three ways before b, or later
  pub first_low : (x : Entry) (T : List Entry) → IsTail (x ∷ T) (history doc (suc e)) → b ≤ x.beat + 3 * far → IsTail (first doc near far b e q l s R low_e quiet) T
  first_low = taken.first_low doc near far b e q l s R low_e quiet

  first_r : IsTail (first doc near far b e q l s R low_e quiet) R
  first_r = first_low (entry rel.at 2 q (Answers rel.call (Done rel.version) rel.comes (Some rel.object))) R R_e (omega (arith, rel.least))

  all_own : AllOwn doc near far b e q l s R low_e quiet (first doc near far b e q l s R low_e quiet) R
  all_own = ⊎_elim (λ all. all) (λ f. absurd (parting.none_foreign doc near far b e q l s stop rel f)) (own_or_foreign doc near far b e q l s R low_e quiet (first doc near far b e q l s R low_e quiet) R first_r)

  -- a record of the leader's
  pub of_it : (h : List Entry) → IsTail (first doc near far b e q l s R low_e quiet) h → IsTail h R → OfIt doc q h
  of_it h low high = record { y = own.y; top = own.top; who = q; mine = refl; by = own.by; lease = own.lease; object = own.object; holder = own.holder; duration = own.duration }
    where
      o : Entry
      o = (taken.o doc near far b e q l s R low_e quiet).e

      some : 1 ≤ (taken.o doc near far b e q l s R low_e quiet).e.beat
      some = let ways = ways doc near far b e q l s R low_e quiet in omega (arith, ways.sent_least, s.one)

      own : IsOwn doc q h
      own =
          own_since doc near far b e q l s R low_e quiet o (taken.o doc near far b e q l s R low_e quiet).low some (first_writes doc near far b e q l s R low_e quiet) (taken.o doc near far b e q l s R low_e quiet).actor h low high
          (λ x T at since writes. all_own x T (tail_trans (x ∷ T) h R at high) since writes)

  -- ---- what is stored above it, while no other controller acts

  module _ (n : ℕ) (within : n ≤ e) (idle : (r : Identity) → is_controller doc r.process ≡ true → (r.process ≡ q.process → ⊥) → (k : ℕ) → k ≤ n → Acts doc r k → ⊥) where
    -- nobody writes it
    pub none_writes : (x : Entry) (T : List Entry) → IsTail (x ∷ T) (history doc (suc n)) → IsTail released T → has (at_key election (write_of x.fact)) ≡ true → x.beat + far ≤ n → stored election T ≡ stored election released → ⊥
    none_writes x T at low writes late same_as = ⊎_elim its_own foreign (cases_eq w.who.process q.process)
      where
        at_e : IsTail (x ∷ T) (history doc (suc e))
        at_e = tail_trans (x ∷ T) (history doc (suc n)) (history doc (suc e)) at (later_tail doc (suc n) (suc e) (omega (arith, within)))

        above : rel.at ≤ x.beat
        above = beats_rise doc e x T at_e (entry rel.at 2 q (Answers rel.call (Done rel.version) rel.comes (Some rel.object))) R low

        w : Won doc x T
        w = is_won doc s.sound s.rules e s.end x T at_e (omega (arith, above, rel.least, s.one)) writes

        wrote : has (at_key election (request_write w.call.request w.wrote)) ≡ true
        wrote = ap (λ d. has (at_key election (write_of d))) (sym w.fact) ∙ writes

        foreign : (w.who.process ≡ q.process → ⊥) → ⊥
        foreign other =
            writer_acts doc s.rules near far 0 e n w.who w.role (l.others w.who.process w.role other) (s.calls w.who.process w.role) within s.one (λ k from to. idle w.who w.role other k to) x T at w.actor
            (subst (WritesElection 0) (sym w.fact) (omega arith, wrote)) late

        base : is_free.y.beat ≤ w.call.sent
        base = (won_waited doc s.sound s.rules e s.end x T at_e w is_free.y (same_as ∙ is_free.top)).0

        its_own : w.who.process ≡ q.process → ⊥
        its_own mine_is =
            not_below x T
            (subst (λ g. IsTail g T) (sym (parting.the_release doc near far b e q l s stop rel x T at_e (parting.mine doc near far b e q l s stop rel x w.who w.actor mine_is) (subst (WritesElection b) (sym w.fact) (omega (arith, base, is_free.beat, rel.least), wrote)))) low)

    -- so the released one stays
    pub same_since : (m : ℕ) → m + far ≤ n → (h : List Entry) → IsTail released h → IsTail h (history doc (suc m)) → stored election h ≡ stored election released
    same_since m late [] low high = ap (stored election) (sym low)
    same_since m late (z ∷ Z) (inl is) high = ap (stored election) (sym is)
    same_since m late (z ∷ Z) (inr low) high = by_write (at_key election (write_of z.fact)) refl (same_since m late Z low (tail_trans Z (z ∷ Z) (history doc (suc m)) (inr (tail_all Z)) high))
      where
        by_write : (o : Option (Option Object)) → at_key election (write_of z.fact) ≡ o → stored election Z ≡ stored election released → stored election (z ∷ Z) ≡ stored election released
        by_write None is below = top_stays z Z is ∙ below
        by_write (Some o) is below =
            absurd (none_writes z Z (tail_trans (z ∷ Z) (history doc (suc m)) (history doc (suc n)) high (later_tail doc (suc m) (suc n) (omega (arith, late)))) low (ap has is) (omega (arith, late, beat_before doc m z Z high)) below)
