-- Another controller's Get that finds the leader's record before it is renewed fails.
use Rattle.std.proofs.Common.{◌≡◌, ◌≤◌, ℕ, suc, ◌+◌, ◌-◌, ◌*◌, not, nat_lt, Bool, true, false, cond, List, [], ◌∷◌, Option, Some, None, refl, sym, ap, ◌∙◌, subst, inl, inr, arith}
use Rattle.std.proofs.Math.Nat.{mul-le-mul_right}
use Rattle.std.proofs.lemmas.Bool.{ltb-false, eqb-true}
use Rattle.kube_objects.specs.declared.call.Reply.{Reply}
use Rattle.kube_objects.specs.declared.call.Reply.TheVariants.{Found}
use Rattle.kube_objects.specs.declared.call.Request.TheVariants.{Get, Update}
use Rattle.kube_objects.specs.declared.deed.Actor.{Actor}
use Rattle.kube_objects.specs.declared.lease.Lease.{Lease}
use Rattle.kube_objects.specs.declared.object.Object.TheVariants as object
use Rattle.kube_objects.specs.Answers.{lease_in, versioned, as_kind, answer_get, answer}
use Rattle.kube_objects.specs.Clocks.{local}
use Rattle.kube_objects.specs.Document.{Doc, is_controller, lease_seconds}
use Rattle.kube_objects.specs.Elector.{Fails, Asks, moment, updated, follow_get, follow, follow_on, Shown, told, shows, shown, is_known, newly, observed, observed_at}
use Rattle.kube_objects.specs.Entry.{Entry, Identity, Call, Fact, First, Event, Starts, Stops, Sends, Answers, Delivers, Expires, Leads, Ends, Crashes, Stalls, Ticks, entry, StepsDown, ReleaseBegins, ReleaseEnds, ReleaseStops}
use Rattle.kube_objects.specs.Identities.{is_by, is_same, is_other, holder_of}
use Rattle.kube_objects.specs.Newest.{only_if, when, or_zero}
use Rattle.kube_objects.specs.Process.{call_says}
use Rattle.kube_objects.specs.Stored.{Held, election, stored}
use Rattle.history.specs.History.{history}
use Rattle.history_laws.specs.Tails.{IsTail}
use Rattle.history_laws.proofs.Plainly.{upper, some_is, none_is, and_both, same_is, same_self}
use Rattle.history_laws.proofs.Tailed.{tail_all, tail_trans, same_head}
use Rattle.lease_laws.specs.Respects.{respected_time}
use Rattle.takeover_laws.specs.Waits.{blocked_for}
use Rattle.takeover_laws.proofs.Waits.{blocked_time, blocked_is}
use Rattle.span_laws.proofs.Spans.{goes_most}
use Rattle.call_laws.proofs.Above.{in_head}
use Rattle.takeover_laws.specs.Calm.{IsSteady}
use Rattle.calm_laws.proofs.Begun.{Begun}
use Rattle.calm_laws.proofs.Origins.{Origin}
use Rattle.silence_laws.specs.Silence.{LeadsUntil, Bears}
use Rattle.silence_laws.proofs.Kept.{Kept, kept_of}
use Rattle.silence_laws.proofs.Showing.{IsTold, told_by}
use Rattle.silence_laws.proofs.Looking.{ShowsIt, shows_it}
use Rattle.silence_laws.proofs.Ways.{beat_before, IsWay, reply_way}
use Rattle.succession_laws.proofs.Records.{entries_rise}

-- ---- while a call waits, nothing is shown

shows_none : (q : Identity) (who : Actor) (d : Fact) → call_says q who d ≡ None → shows q who d ≡ None
shows_none q who (Delivers w reply true) is = by_own (is_by q who) is
  where
    some_none : (x : Option Call) → Some x ≡ None → ⊥
    some_none x is = cc

    by_own : (b : Bool) → when {A = Option Call} b None ≡ None → only_if b (told w.request reply) ≡ None
    by_own true is = absurd (some_none None is)
    by_own false is = refl
shows_none q who (Delivers w reply false) is = refl
shows_none q who (Sends call arrives) is = refl
shows_none q who (First key object) is = refl
shows_none q who (Event w version) is = refl
shows_none q who (Answers call reply comes wrote) is = refl
shows_none q who (Expires call) is = refl
shows_none q who (Ticks t) is = refl
shows_none q who Starts is = refl
shows_none q who Crashes is = refl
shows_none q who Stops is = refl
shows_none q who (Stalls beats) is = refl
shows_none q who StepsDown is = refl
shows_none q who (ReleaseBegins at_deadline) is = refl
shows_none q who ReleaseEnds is = refl
shows_none q who ReleaseStops is = refl
shows_none q who Ends is = refl
shows_none q who (Leads version) is = refl

-- what was shown to it, and when, is the same at each position since its sending
pub record SameShown (q : Identity) (g h : List Entry) : Type 0 where
  pub shown_is : shown q h ≡ shown q g
  pub seen_is : observed q h ≡ observed q g

pub same_shown : (q : Identity) (call : Call) (T : List Entry) (b : Begun q call T) (g h : List Entry) → IsTail (b.f ∷ b.before) g → IsTail g h → IsTail h T → SameShown q g h
same_shown q call T b g [] low at high = record { shown_is = ap (shown q) (sym at); seen_is = ap (observed q) (sym at) }
same_shown q call T b g (z ∷ Z) low (inl is) high = record { shown_is = ap (shown q) (sym is); seen_is = ap (observed q) (sym is) }
same_shown q call T b g (z ∷ Z) low (inr at) high =
    let s = same_shown q call T b g Z low at (tail_trans Z (z ∷ Z) T (inr (tail_all Z)) high) in
    let none = shows_none q z.actor z.fact (b.alone z Z high (tail_trans (b.f ∷ b.before) g Z low at)) in
    record {
      shown_is = ap (λ o. upper o (shown q Z)) none ∙ s.shown_is;
      seen_is = ap (λ o. upper (newly o (shown q Z) z.beat) (observed q Z)) none ∙ s.seen_is;
    }

-- ---- another's Get that finds the leader's record

module _ (doc : Doc) (near far b e : ℕ) (q : Identity) (l : LeadsUntil doc near far b e q) (s : Bears doc near far b e q) (c : Identity) (role : is_controller doc c.process ≡ true) (other : c.process ≡ q.process → ⊥)
    (r : ℕ) (within : r ≤ e) (w : Call) (reply : Reply) (T : List Entry) (get : w.request ≡ Get election) (at : IsTail (entry r 3 c (Delivers w reply true) ∷ T) (history doc (suc e)))
    (o : Origin doc c w reply T r) (y : Held) (top : stored election o.low ≡ Some y) (who : Identity) (mine : who.process ≡ q.process) (by : y.by ≡ Some who) (lease : Lease) (object_is : y.object ≡ object.Lease lease)
    (holder_is : lease.holder ≡ holder_of who) (duration : lease.duration ≡ Some (lease_seconds doc q.process)) (soon : r ≤ y.beat + s.renews.wait + 5 * far) where
  steady : IsSteady doc near far 0 e c.process
  steady = l.others c.process role other

  high : IsTail T (history doc (suc e))
  high = tail_trans T (entry r 3 c (Delivers w reply true) ∷ T) (history doc (suc e)) (inr (tail_all T)) at

  low_high : IsTail o.low (history doc (suc e))
  low_high = tail_trans o.low (o.e ∷ o.low) (history doc (suc e)) (inr (tail_all o.low)) (tail_trans (o.e ∷ o.low) T (history doc (suc e)) o.answered high)

  abbrev k : Kept o.low y
  k = kept_of o.low y top

  foreign : y.by ≡ Some c → ⊥
  foreign is = other (ap (λ (p : Identity). p.process) (some_is c who (sym is ∙ by)) ∙ mine)

  -- a reply that shows it comes a way after its write
  shown_late : (d : Entry) (S : List Entry) (s1 : Shown) → IsTail (d ∷ S) o.low → shows c d.actor d.fact ≡ Some s1 → s1.0.0 ≡ y.version.0 → y.beat + near ≤ d.beat
  shown_late d S s1 position is same = omega (arith, way.least, since, k.beat)
    where
      t : IsTold c d.actor d.fact s1
      t = told_by c d.actor d.fact s1 is

      it : ShowsIt doc near far e s.sound s.rules s.end c role o.low low_high y top lease object_is foreign t.w t.reply S d.beat
      it = shows_it doc near far e s.sound s.rules s.end c role o.low low_high y top lease object_is foreign d S position s1 t same

      d_high : IsTail (d ∷ S) (history doc (suc e))
      d_high = tail_trans (d ∷ S) o.low (history doc (suc e)) position low_high

      s_high : IsTail S (history doc (suc e))
      s_high = tail_trans S (d ∷ S) (history doc (suc e)) (inr (tail_all S)) d_high

      e_high : IsTail (it.o.e ∷ it.o.low) (history doc (suc e))
      e_high = tail_trans (it.o.e ∷ it.o.low) S (history doc (suc e)) it.o.answered s_high

      way : IsWay near far it.o.e.beat d.beat
      way = reply_way doc s.rules near far e c role steady it.o.e it.o.low e_high it.o.step d.beat (beat_before doc e d S d_high) it.o.comes_is

      since : k.z.beat ≤ it.o.e.beat
      since = entries_rise doc (suc e) it.o.e it.o.low e_high k.z (in_head k.z k.before it.o.low it.low)

  -- so it was observed a way after its write or later
  seen_late : (g : List Entry) → IsTail g o.low → (s1 : Shown) → shown c g ≡ Some s1 → s1.0.0 ≡ y.version.0 → y.beat + near ≤ or_zero (observed c g)
  seen_late [] low s1 is same = absurd (none_is s1 is)
  seen_late (d ∷ S) low s1 is same = by_shows (shows c d.actor d.fact) refl is (λ s1 is same. seen_late S (tail_trans S (d ∷ S) o.low (inr (tail_all S)) low) s1 is same)
    where
      by_known : (s2 : Shown) → shows c d.actor d.fact ≡ Some s2 → s2 ≡ s1 → (old : Option Shown) → shown c S ≡ old → ((s1 : Shown) → shown c S ≡ Some s1 → s1.0.0 ≡ y.version.0 → y.beat + near ≤ or_zero (observed c S)) → (t : Bool) → is_known s2.0 old ≡ t
          → y.beat + near ≤ or_zero (upper (cond t None (Some d.beat)) (observed c S))
      by_known s2 shows_is one old old_is on false new = shown_late d S s2 low shows_is (ap (λ (s : Shown). s.0.0) one ∙ same)
      by_known s2 shows_is one None old_is on true known = absurd (no known)
        where
          no : false ≡ true → ⊥
          no h = cc
      by_known s2 shows_is one (Some s3) old_is on true known = on s3 old_is (eqb-true s3.0.0 s2.0.0 known ∙ ap (λ (s : Shown). s.0.0) one ∙ same)

      by_shows : (p : Option Shown) → shows c d.actor d.fact ≡ p → upper p (shown c S) ≡ Some s1 → ((s1 : Shown) → shown c S ≡ Some s1 → s1.0.0 ≡ y.version.0 → y.beat + near ≤ or_zero (observed c S)) → y.beat + near ≤ or_zero (observed c (d ∷ S))
      by_shows None none below on = subst (λ p. y.beat + near ≤ or_zero (upper (newly p (shown c S) d.beat) (observed c S))) (sym none) (on s1 below same)
      by_shows (Some s2) shows_is here on =
          subst (λ p. y.beat + near ≤ or_zero (upper (newly p (shown c S) d.beat) (observed c S))) (sym shows_is)
          (by_known s2 shows_is (some_is s2 s1 here) (shown c S) refl on (is_known s2.0 (shown c S)) refl)

  abbrev here : List Entry
  here = entry r 3 c (Delivers w reply true) ∷ T

  found : reply ≡ Found y.version lease
  found = o.reply_is ∙ ap (λ r. answer r o.low) get ∙ ap (λ t. answer_get (as_kind lease_in t)) top ∙ ap (λ t. answer_get (versioned y.version (lease_in t))) object_is

  shows_here : shows c (entry r 3 c (Delivers w reply true)).actor (Delivers w reply true) ≡ Some (y.version, lease)
  shows_here = ap (λ t. only_if t (told w.request reply)) (same_self c) ∙ ap (λ request. told request reply) get ∙ ap (λ reply. told (Get election) reply) found

  way : IsWay near far o.e.beat r
  way = reply_way doc s.rules near far e c role steady o.e o.low (tail_trans (o.e ∷ o.low) T (history doc (suc e)) o.answered high) o.step r within o.comes_is

  since : y.beat ≤ o.e.beat
  since = omega (arith, k.beat, entries_rise doc (suc e) o.e o.low (tail_trans (o.e ∷ o.low) T (history doc (suc e)) o.answered high) k.z (in_head k.z k.before o.low k.position))

  between : SameShown c o.low T
  between = same_shown c w T o.begun o.low T o.sent_low (tail_trans o.low (o.e ∷ o.low) T (inr (tail_all o.low)) o.answered) (tail_all T)

  -- when the record was first seen
  abbrev Late : ℕ → Type 0
  Late seen = (y.beat + near ≤ seen) × (seen ≤ r)

  seen_upto : (g : List Entry) → IsTail g (history doc (suc e)) → IsTail g here → or_zero (observed c g) ≤ r
  seen_upto [] high low = omega arith
  seen_upto (d ∷ S) high low = by_shows (shows c d.actor d.fact) (seen_upto S (tail_trans S (d ∷ S) (history doc (suc e)) (inr (tail_all S)) high) (tail_trans S (d ∷ S) here (inr (tail_all S)) low))
    where
      d_upto : d.beat ≤ r
      d_upto = by_place low
        where
          by_place : IsTail (d ∷ S) here → d.beat ≤ r
          by_place (inl same) = omega (arith, ap (λ (x : Entry). x.beat) (same_head d (entry r 3 c (Delivers w reply true)) S T same))
          by_place (inr below) = entries_rise doc (suc e) (entry r 3 c (Delivers w reply true)) T at d (in_head d S T below)

      by_test : (t : Bool) → or_zero (observed c S) ≤ r → or_zero (upper (cond t None (Some d.beat)) (observed c S)) ≤ r
      by_test true old = old
      by_test false old = d_upto

      by_shows : (p : Option Shown) → or_zero (observed c S) ≤ r → or_zero (upper (newly p (shown c S) d.beat) (observed c S)) ≤ r
      by_shows None old = old
      by_shows (Some s1) old = by_test (is_known s1.0 (shown c S)) old

  least : y.beat + near ≤ or_zero (observed c here)
  least =
      subst (λ p. y.beat + near ≤ or_zero (upper (newly p (shown c T) r) (observed c T))) (sym shows_here)
      (by_known (shown c T) refl (is_known y.version (shown c T)) refl)
    where
      by_known : (old : Option Shown) → shown c T ≡ old → (t : Bool) → is_known y.version old ≡ t → y.beat + near ≤ or_zero (upper (cond t None (Some r)) (observed c T))
      by_known old old_is false new = omega (arith, since, way.least)
      by_known None old_is true known = absurd (no known)
        where
          no : false ≡ true → ⊥
          no h = cc
      by_known (Some s1) old_is true known =
          subst (λ t. y.beat + near ≤ or_zero t) (sym between.seen_is) (seen_late o.low (tail_all o.low) s1 (sym between.shown_is ∙ old_is) (eqb-true s1.0.0 y.version.0 known))

  -- it fails
  pub blocked : follow_on doc c r w.kind w.request reply here ≡ Fails
  blocked =
      ap (λ request. follow c (moment doc c r) (observed_at doc c here) w.kind request reply) get ∙ ap (follow_get c (moment doc c r) (observed_at doc c here)) found
      ∙ ap (λ t. cond t Fails (Asks (Update election y.version (updated c (moment doc c r) lease))))
      (blocked_is doc c.process c (local doc c.process r) (observed_at doc c here) lease
      ∙ and_both (is_other c lease.holder) (nat_lt (local doc c.process r) (observed_at doc c here + respected_time doc c.process lease)) differs valid)
    where
      differs : is_other c lease.holder ≡ true
      differs = ap (is_other c) holder_is ∙ by_test (is_same who c) refl
        where
          by_test : (t : Bool) → is_same who c ≡ t → not t ≡ true
          by_test true is = absurd (other (ap (λ (p : Identity). p.process) (sym (same_is who c is)) ∙ mine))
          by_test false is = refl

      valid : nat_lt (local doc c.process r) (observed_at doc c here + respected_time doc c.process lease) ≡ true
      valid = by_test (nat_lt (local doc c.process r) (observed_at doc c here + respected_time doc c.process lease)) refl
        where
          seen : ℕ
          seen = or_zero (observed c here)

          lasts : respected_time doc c.process lease ≡ blocked_for doc c.process q.process
          lasts = blocked_time doc c.process q.process lease duration

          goes : local doc c.process r ≤ local doc c.process seen + (r - seen) * s.fastest
          goes = goes_most doc c.process 0 e s.fastest (s.clocks c.process role) seen r (omega arith) (seen_upto here at (tail_all here)) within

          short : (r - seen) * s.fastest ≤ (s.renews.wait + 5 * far - near) * s.fastest
          short = mul-le-mul_right s.fastest beats
            where
              beats : r - seen ≤ s.renews.wait + 5 * far - near
              beats = omega (arith, soon, least)

          by_test : (t : Bool) → nat_lt (local doc c.process r) (observed_at doc c here + respected_time doc c.process lease) ≡ t → t ≡ true
          by_test true is = refl
          by_test false is = absurd (omega (arith, ltb-false (local doc c.process r) (observed_at doc c here + respected_time doc c.process lease) is, lasts, goes, short, s.lasts c.process role))
