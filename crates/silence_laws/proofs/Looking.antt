-- What a reply shows to a candidate, while another's record is stored: that record.
use Rattle.std.proofs.Common.{◌≡◌, ◌⊎◌, ◌≤◌, ℕ, suc, ◌+◌, ◌==◌, Bool, true, false, cond, List, ◌∷◌, length, Option, Some, None, IfSome, refl, sym, ap, ◌∙◌, subst, inl, inr, ⊎_elim, arith}
use Rattle.kube_base.specs.declared.numbers.Version.{Version}
use Rattle.kube_objects.specs.declared.call.Reply.{Reply}
use Rattle.kube_objects.specs.declared.call.Reply.TheVariants.{Found, Done, Absent, Exists, Conflict, Unchanged}
use Rattle.kube_objects.specs.declared.call.Request.{Request}
use Rattle.kube_objects.specs.declared.call.Request.TheVariants.{Get, Create, Update, PostStatus}
use Rattle.kube_objects.specs.declared.key.Key.{Key}
use Rattle.kube_objects.specs.declared.lease.Lease.{Lease}
use Rattle.kube_objects.specs.declared.object.Object.TheVariants as object
use Rattle.kube_objects.specs.Answers.{answer_create, answer_update, answer, if_done, written}
use Rattle.kube_objects.specs.Document.{Doc, processes, end_beat, is_controller}
use Rattle.kube_objects.specs.Elector.{Shown, told, done_shows, found_shows}
use Rattle.kube_objects.specs.Entry.{Entry, Identity, Call, Sends, actor_of}
use Rattle.kube_objects.specs.Identities.{identity_of}
use Rattle.kube_objects.specs.Keys.{key_eq}
use Rattle.kube_objects.specs.Newest.{added, when, has}
use Rattle.kube_objects.specs.Own.{ReleasesByStop}
use Rattle.kube_objects.specs.Stored.{Held, Write, election, key_of, stored, request_write, at_key, write_of, writes, next_version}
use Rattle.history.specs.History.{history}
use Rattle.history.specs.Premise.{greatest_below}
use Rattle.history.specs.Sound.{IsSound}
use Rattle.history_laws.specs.Tails.{In, IsTail}
use Rattle.history_laws.proofs.Plainly.{true_is, some_is, none_is}
use Rattle.history_laws.proofs.Tailed.{tail_all, tail_trans, tails_meet, writes_tail, same_head}
use Rattle.lease_laws.proofs.Invariant.{view, SentRight}
use Rattle.lease_laws.proofs.Premises.{rates_at_most}
use Rattle.lease_laws.proofs.Histories.{bears_own, turn_right}
use Rattle.call_laws.proofs.Above.{in_head}
use Rattle.takeover_laws.proofs.Rounds.{sent_is}
use Rattle.calm_laws.proofs.Origins.{Origin, origin}
use Rattle.silence_laws.proofs.Kept.{Kept, kept_of, IsFound, found_kept}
use Rattle.silence_laws.proofs.Showing.{IsTold}

-- ---- what a controller asks for

-- each request of a controller is on the election Lease
pub asks_election : (doc : Doc) → IsSound doc → ReleasesByStop doc → (k : ℕ) → k ≤ end_beat doc → (q : Identity) → is_controller doc q.process ≡ true → (x : Entry) (call : Call) (arrives : Option ℕ) → In x (history doc (suc k))
    → x.actor ≡ actor_of q → x.fact ≡ Sends call arrives → key_of call.request ≡ election
asks_election doc sound rules k end q role x call arrives stands actor fact =
    let right = (turn_right doc (greatest_below doc (length doc.controllers)) (rates_at_most doc) (bears_own doc (greatest_below doc (length doc.controllers)) rules) sound (processes doc) k end).core.entries x stands in
    ((subst (λ o. IfSome o (SentRight doc (greatest_below doc (length doc.controllers)) k (view (history doc (suc k))))) (sent_is x q call arrives actor fact) right.0).may.controller role).key

-- ---- a write that was accepted

-- a write that was answered with a version wrote, with the next version
pub record IsAccepted (r : Request) (h : List Entry) (version : Version) : Type 0 where
  pub wrote : has (at_key election (request_write r (written r h))) ≡ true
  pub next : version ≡ next_version h

done_is : (a b : Version) → Done a ≡ Done b → a ≡ b
done_is a b is = cc

exists_done : (v : Version) → Exists ≡ Done v → ⊥
exists_done v is = cc

absent_done : (v : Version) → Absent ≡ Done v → ⊥
absent_done v is = cc

conflict_done : (u v : Version) → Conflict u ≡ Done v → ⊥
conflict_done u v is = cc

accepted_create : (key : Key) (l : Lease) (h : List Entry) (v : Version) → key ≡ election → answer (Create key l) h ≡ Done v → IsAccepted (Create key l) h v
accepted_create key l h v is done = record {
  wrote = ap (λ reply. has (at_key election (request_write (Create key l) (if_done reply (object.Lease l))))) done ∙ ap (λ k. has (when (key_eq k election) (Some (object.Lease l)))) is;
  next = by_stored (stored key h) done;
}
  where
    by_stored : (o : Option Held) → answer_create (next_version h) o ≡ Done v → v ≡ next_version h
    by_stored None done = done_is v (next_version h) (sym done)
    by_stored (Some x) done = absurd (exists_done v done)

accepted_update : (key : Key) (given : Version) (l : Lease) (h : List Entry) (v : Version) → key ≡ election → answer (Update key given l) h ≡ Done v → IsAccepted (Update key given l) h v
accepted_update key given l h v is done = record {
  wrote = ap (λ reply. has (at_key election (request_write (Update key given l) (if_done reply (object.Lease l))))) done ∙ ap (λ k. has (when (key_eq k election) (Some (object.Lease l)))) is;
  next = by_stored (stored key h) done;
}
  where
    by_test : (b : Bool) (u : Version) → cond b (Done (next_version h)) (Conflict u) ≡ Done v → v ≡ next_version h
    by_test true u done = done_is v (next_version h) (sym done)
    by_test false u done = absurd (conflict_done u v done)

    by_stored : (o : Option Held) → answer_update (next_version h) given o ≡ Done v → v ≡ next_version h
    by_stored None done = absurd (absent_done v done)
    by_stored (Some x) done = by_test (x.version.0 == given.0) x.version done

-- a reply that shows a version is that of a Get that found it, or of a write that was accepted
pub data Telling (r : Request) (reply : Reply) (s : Shown) (h : List Entry) : Type 0 where
  ByGet : (get : r ≡ Get election) (found : reply ≡ Found s.0 s.1) → Telling r reply s h
  ByWrite : (accepted : IsAccepted r h s.0) → Telling r reply s h

pub telling : (r : Request) (reply : Reply) (s : Shown) (h : List Entry) → key_of r ≡ election → reply ≡ answer r h → told r reply ≡ Some s → Telling r reply s h
telling (Get key) reply s h is answered tells = by_reply reply tells refl
  where
    by_reply : (x : Reply) → found_shows x ≡ Some s → reply ≡ x → Telling (Get key) reply s h
    by_reply (Found v l) tells same = ByGet (ap Get is) (same ∙ ap (λ (s : Shown). Found s.0 s.1) (some_is (v, l) s tells))
    by_reply Absent tells same = absurd (none_is s tells)
    by_reply (Done v) tells same = absurd (none_is s tells)
    by_reply Exists tells same = absurd (none_is s tells)
    by_reply (Conflict v) tells same = absurd (none_is s tells)
    by_reply Unchanged tells same = absurd (none_is s tells)
telling (Create key l) reply s h is answered tells = by_reply reply tells refl
  where
    by_reply : (x : Reply) → done_shows l x ≡ Some s → reply ≡ x → Telling (Create key l) reply s h
    by_reply (Done v) tells same = ByWrite (accepted_create key l h s.0 is (sym answered ∙ same ∙ ap (λ (s : Shown). Done s.0) (some_is (v, l) s tells)))
    by_reply Absent tells same = absurd (none_is s tells)
    by_reply (Found v x) tells same = absurd (none_is s tells)
    by_reply Exists tells same = absurd (none_is s tells)
    by_reply (Conflict v) tells same = absurd (none_is s tells)
    by_reply Unchanged tells same = absurd (none_is s tells)
telling (Update key given l) reply s h is answered tells = by_reply reply tells refl
  where
    by_reply : (x : Reply) → done_shows l x ≡ Some s → reply ≡ x → Telling (Update key given l) reply s h
    by_reply (Done v) tells same = ByWrite (accepted_update key given l h s.0 is (sym answered ∙ same ∙ ap (λ (s : Shown). Done s.0) (some_is (v, l) s tells)))
    by_reply Absent tells same = absurd (none_is s tells)
    by_reply (Found v x) tells same = absurd (none_is s tells)
    by_reply Exists tells same = absurd (none_is s tells)
    by_reply (Conflict v) tells same = absurd (none_is s tells)
    by_reply Unchanged tells same = absurd (none_is s tells)
telling (PostStatus name status at) reply s h is answered tells = absurd (none_is s tells)

module _ (doc : Doc) (e : ℕ) (sound : IsSound doc) (rules : ReleasesByStop doc) (end : e ≤ end_beat doc) (c : Identity) (role : is_controller doc c.process ≡ true)
    (T : List Entry) (at : IsTail T (history doc (suc e))) (y : Held) (is : stored election T ≡ Some y) where
  abbrev its : Kept T y
  its = kept_of T y is

  -- a reply that shows it is the answer to its write, or to a Get that found it
  module _ (d : Entry) (S : List Entry) (position : IsTail (d ∷ S) T) (s : Shown) (t : IsTold c d.actor d.fact s) (same : s.0.0 ≡ y.version.0) where
    pub answered_by : Origin doc c t.w t.reply S d.beat
    answered_by = origin doc rules (suc e) c d S t.w t.reply (tail_trans (d ∷ S) T (history doc (suc e)) position at) t.actor t.fact

    abbrev o : Origin doc c t.w t.reply S d.beat
    o = answered_by

    pub record HasFound : Type 0 where
      pub get : t.w.request ≡ Get election
      pub found : t.reply ≡ Found s.0 s.1
      pub there : IsFound T y is (kept_of T y is) answered_by.low s.1

    version : s.0 ≡ y.version
    version = ap (λ n. record { 0 = n }) same

    in_t : (g : List Entry) → IsTail g S → IsTail g T
    in_t g low = tail_trans g S T low (tail_trans S (d ∷ S) T (inr (tail_all S)) position)

    key : key_of t.w.request ≡ election
    key = asks_election doc sound rules e end c role o.begun.f t.w o.begun.arrives (in_head o.begun.f o.begun.before (history doc (suc e)) (tail_trans (o.begun.f ∷ o.begun.before) T (history doc (suc e)) (in_t (o.begun.f ∷ o.begun.before) o.begun.position) at)) o.begun.actor o.begun.fact

    -- a write of its own that gave this version is that one
    own_write : IsAccepted t.w.request o.low s.0 → its.z ∷ its.before ≡ o.e ∷ o.low
    own_write a = ⊎_elim over below (tails_meet (its.z ∷ its.before) (o.e ∷ o.low) T its.position (in_t (o.e ∷ o.low) o.answered))
      where
        writes_here : has (at_key election (write_of o.e.fact)) ≡ true
        writes_here = ap (λ d. has (at_key election (write_of d))) o.fact ∙ a.wrote

        over : IsTail (its.z ∷ its.before) (o.e ∷ o.low) → its.z ∷ its.before ≡ o.e ∷ o.low
        over (inl one) = one
        over (inr low) = absurd (true_is (sym writes_here ∙ ap has (its.alone o.e o.low low (in_t (o.e ∷ o.low) o.answered))))

        below : IsTail (o.e ∷ o.low) (its.z ∷ its.before) → its.z ∷ its.before ≡ o.e ∷ o.low
        below (inl one) = sym one
        below (inr low) =
            let e : y.version.0 ≡ writes its.before + 1 = ap (λ (v : Version). v.0) its.version in
            let f : s.0.0 ≡ writes o.low + 1 = ap (λ (v : Version). v.0) a.next in
            let g : writes (o.e ∷ o.low) ≡ writes o.low + 1 = ap (λ b. added b (writes o.low)) (written_at (write_of o.e.fact) writes_here) in
            absurd (omega (arith, e, f, g, same, writes_tail (o.e ∷ o.low) its.before low))
          where
            written_at : (w : Option Write) → has (at_key election w) ≡ true → has w ≡ true
            written_at None is = is
            written_at (Some w) is = refl

    pub shown_by : (its.z ∷ its.before ≡ answered_by.e ∷ answered_by.low) ⊎ HasFound
    shown_by = by_telling (telling t.w.request t.reply s o.low key o.reply_is t.tells)
      where
        by_telling : Telling t.w.request t.reply s o.low → (its.z ∷ its.before ≡ o.e ∷ o.low) ⊎ HasFound
        by_telling (ByWrite a) = inl (own_write a)
        by_telling (ByGet get found) = inr (record {
          get = get;
          found = found;
          there =
              found_kept T y is its o.low (in_t o.low (tail_trans o.low (o.e ∷ o.low) S (inr (tail_all o.low)) o.answered)) s.0 s.1
              (ap (λ r. answer r o.low) (sym get) ∙ sym o.reply_is ∙ found) version;
        })

module _ (doc : Doc) (near far e : ℕ) (sound : IsSound doc) (rules : ReleasesByStop doc) (end : e ≤ end_beat doc) (c : Identity) (role : is_controller doc c.process ≡ true)
    (T : List Entry) (at : IsTail T (history doc (suc e))) (y : Held) (is : stored election T ≡ Some y) (lease : Lease) (object_is : y.object ≡ object.Lease lease) (foreign : y.by ≡ Some c → ⊥) where
  abbrev pub k : Kept T y
  k = kept_of T y is

  -- where it isn't its own a reply that shows it is that of a Get
  pub record ShowsIt (w : Call) (reply : Reply) (S : List Entry) (r : ℕ) : Type 0 where
    pub get : w.request ≡ Get election
    pub reply_is : reply ≡ Found y.version lease
    pub o : Origin doc c w reply S r
    pub low : IsTail (k.z ∷ k.before) o.low

  pub shows_it : (d : Entry) (S : List Entry) (position : IsTail (d ∷ S) T) (s : Shown) (t : IsTold c d.actor d.fact s) → s.0.0 ≡ y.version.0 → ShowsIt t.w t.reply S d.beat
  shows_it d S position s t same = ⊎_elim its_own found (shown_by doc e sound rules end c role T at y is d S position s t same)
    where
      o : Origin doc c t.w t.reply S d.beat
      o = answered_by doc e sound rules end c role T at y is d S position s t same

      its_own : k.z ∷ k.before ≡ o.e ∷ o.low → ShowsIt t.w t.reply S d.beat
      its_own one = absurd (foreign (k.by ∙ ap (λ (e : Entry). identity_of e.actor) (same_head k.z o.e k.before o.low one) ∙ ap identity_of o.actor))

      one_lease : (a b : Lease) → object.Lease a ≡ object.Lease b → a ≡ b
      one_lease a b is = cc

      found : HasFound doc e sound rules end c role T at y is d S position s t same → ShowsIt t.w t.reply S d.beat
      found f = record {
        get = f.get;
        reply_is = f.found ∙ ap (λ n. Found (record { 0 = n }) s.1) same ∙ ap (Found y.version) (one_lease s.1 lease (sym f.there.object ∙ object_is));
        o = o;
        low = f.there.low;
      }
