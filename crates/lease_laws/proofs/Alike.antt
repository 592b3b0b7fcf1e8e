-- Where leaders give up their Leases at stops alone, who acts as its turn begins acts at its tick, and the reverse.
use Rattle.std.proofs.Common.{◌≡◌, ◌∙◌, ℕ, ◌+◌, ◌&&◌, not, nat_lt, Bool, true, false, List, ◌∷◌, Option, Some, None, refl, sym, ap, subst, arith}
use Rattle.std.specs.Prelude.{if◌then◌else◌}
use Rattle.std.proofs.lemmas.Bool.{eq-eqb}
use Rattle.kube_objects.specs.Clocks.{local}
use Rattle.kube_objects.specs.Document.{Doc}
use Rattle.kube_objects.specs.Elector.{deadline, is_before, timer, in_term, acts}
use Rattle.kube_objects.specs.Entry.{Entry, Identity, Call, Ends, entry, Expires}
use Rattle.kube_objects.specs.Identities.{identity}
use Rattle.kube_objects.specs.Newest.{when, join, has}
use Rattle.kube_objects.specs.Pauses.{is_paused}
use Rattle.kube_objects.specs.Process.{born, gone, life, alive, starts, is_present, call_in, is_late, release_begun, ended, is_restart_due}
use Rattle.kube_objects.specs.Turns.{expired, expire_call, expire_as, end_term, end_as, just_expired, is_fast_call, attempt_if, try}
use Rattle.kube_objects.specs.Own.{ReleasesByStop}
use Rattle.kube_objects.proofs.Own.{acts-own, expire_as-own, end_term-own}
use Rattle.history.specs.History.{at_turn}
use Rattle.history.specs.Safe.{Acts, IsActing}
use Rattle.history.specs.Steps.{start, if_up, restart_if, restart, expire, finish, attempts, elector_turn}
use Rattle.history_laws.proofs.Plainly.{upper, some_is, none_is, false_is, and_right, and_both}
use Rattle.lease_laws.proofs.Born.{no_deadline}
use Rattle.lease_laws.proofs.Freed.{acting_up, acting_awake}

-- the incarnation is up and has this deadline
record Leading (doc : Doc) (q : Identity) (at : ℕ) (h : List Entry) : Type 0 where
  up : alive q.process h ≡ Some q.incarnation
  until : deadline doc q h ≡ Some at

module _ (doc : Doc) (own : ReleasesByStop doc) (q : Identity) (k at : ℕ) where
  before_attempts : (h : List Entry) → Leading doc q at (attempts doc k q.process h) → Leading doc q at h
  before_attempts h = by_up (alive q.process h) refl
    where
      by_test : (i : ℕ) (fast due : Bool) → Leading doc q at (attempt_if doc k (identity q.process i) fast due h) → Leading doc q at h
      by_test i true due s = record { up = s.up; until = s.until }
      by_test i false true s = record { up = s.up; until = s.until }
      by_test i false false s = s

      by_up : (o : Option ℕ) → alive q.process h ≡ o → Leading doc q at (if_up q.process (try doc k) o h) → Leading doc q at h
      by_up None up s = s
      by_up (Some i) up s =
          let p = identity q.process i in
          by_test i (is_fast_call (just_expired p k h)) (not (has (call_in p h)) && not (nat_lt (local doc q.process k) (timer doc p h))) s

  before_finish : (h : List Entry) → Leading doc q at (finish doc k q.process h) → Leading doc q at h
  before_finish h = by_up (alive q.process h)
    where
      gone_now : (i : ℕ) → alive q.process (entry k 4 (identity q.process i) Ends ∷ h) ≡ None
      gone_now i = ap (λ b. join (upper (gone (when b i)) (life q.process h))) (eq-eqb q.process q.process refl)

      by_end : (i : ℕ) → Leading doc q at (entry k 4 (identity q.process i) Ends ∷ h) → Leading doc q at h
      by_end i s = absurd (none_is q.incarnation (sym (gone_now i) ∙ s.up))

      by_test : (i : ℕ) (b : Bool) → Leading doc q at (if b then h else end_as doc.settings.rules.release doc k (identity q.process i) h) → Leading doc q at h
      by_test i true s = s
      by_test i false s = by_end i (subst (Leading doc q at) (end_term-own doc own k (identity q.process i) h) s)

      by_deadline : (i : ℕ) (o : Option ℕ) → Leading doc q at (end_term doc k (identity q.process i) o h) → Leading doc q at h
      by_deadline i None s = s
      by_deadline i (Some d) s = by_test i (nat_lt (local doc q.process k) d) s

      by_up : (o : Option ℕ) → Leading doc q at (if_up q.process (λ q T. end_term doc k q (deadline doc q T) T) o h) → Leading doc q at h
      by_up None s = s
      by_up (Some i) s = by_deadline i (deadline doc (identity q.process i) h) s

  before_expire : (h : List Entry) → Leading doc q at (expire doc k q.process h) → Leading doc q at h
  before_expire h = by_up (alive q.process h)
    where
      by_expiry : (i : ℕ) (call : Call) → Leading doc q at (entry k 4 (identity q.process i) (Expires call) ∷ h) → Leading doc q at h
      by_expiry i call s = record { up = s.up; until = s.until }

      by_late : (i : ℕ) (call : Call) (b : Bool) → Leading doc q at (if b then expire_as doc k (identity q.process i) call (release_begun doc.settings.rules.release call.kind) h else h) → Leading doc q at h
      by_late i call true s = by_expiry i call (subst (Leading doc q at) (expire_as-own doc own k (identity q.process i) call h) s)
      by_late i call false s = s

      by_call : (i : ℕ) (o : Option Call) → Leading doc q at (expire_call doc k (identity q.process i) o h) → Leading doc q at h
      by_call i None s = s
      by_call i (Some call) s = by_late i call (is_late doc (identity q.process i) k call) s

      by_up : (o : Option ℕ) → Leading doc q at (if_up q.process (λ q T. expired doc k q T) o h) → Leading doc q at h
      by_up None s = s
      by_up (Some i) s = by_call i (call_in (identity q.process i) h) s

  -- a restart is of an incarnation that never led
  before_restart : (p : ℕ) → Leading doc q at (restart doc k q.process (at_turn doc p k)) → Leading doc q at (at_turn doc p k)
  before_restart p = by_up (alive q.process h)
    where
      h : List Entry
      h = at_turn doc p k

      started : alive q.process (start k 4 q.process h) ≡ Some (starts q.process h + 1)
      started = ap (λ b. join (upper (born (when b (starts q.process h + 1))) (life q.process h))) (eq-eqb q.process q.process refl)

      by_due : (b : Bool) → Leading doc q at (if b then start k 4 q.process h else h) → Leading doc q at h
      by_due false s = s
      by_due true s =
          let new : starts q.process h + 1 ≡ q.incarnation = some_is _ _ (sym started ∙ s.up) in
          absurd (none_is at (sym (no_deadline doc p k q (omega (arith, new))) ∙ s.until))

      by_up : (o : Option ℕ) → Leading doc q at (restart_if doc k q.process o h) → Leading doc q at h
      by_up None s = by_due (is_restart_due doc q.process k (ended doc q.process h)) s
      by_up (Some i) s = s

  -- ---- and the reverse: while its deadline hasn't come

  after_restart : (h : List Entry) → Leading doc q at h → Leading doc q at (restart doc k q.process h)
  after_restart h s = subst (λ o. Leading doc q at (restart_if doc k q.process o h)) (sym s.up) s

  after_expire : (h : List Entry) → Leading doc q at h → Leading doc q at (expire doc k q.process h)
  after_expire h s = by_up (alive q.process h)
    where
      by_late : (i : ℕ) (call : Call) (b : Bool) → Leading doc q at (if b then expire_as doc k (identity q.process i) call (release_begun doc.settings.rules.release call.kind) h else h)
      by_late i call true = subst (Leading doc q at) (sym (expire_as-own doc own k (identity q.process i) call h)) (record { up = s.up; until = s.until })
      by_late i call false = s

      by_call : (i : ℕ) (o : Option Call) → Leading doc q at (expire_call doc k (identity q.process i) o h)
      by_call i None = s
      by_call i (Some call) = by_late i call (is_late doc (identity q.process i) k call)

      by_up : (o : Option ℕ) → Leading doc q at (if_up q.process (λ q T. expired doc k q T) o h)
      by_up None = s
      by_up (Some i) = by_call i (call_in (identity q.process i) h)

  after_finish : (h : List Entry) → nat_lt (local doc q.process k) at ≡ true → Leading doc q at h → Leading doc q at (finish doc k q.process h)
  after_finish h before s =
      subst (λ o. Leading doc q at (if_up q.process (λ q T. end_term doc k q (deadline doc q T) T) o h)) (sym s.up)
      (subst (λ o. Leading doc q at (end_term doc k q o h)) (sym s.until)
      (subst (λ b. Leading doc q at (if b then h else end_as doc.settings.rules.release doc k q h)) (sym before) s))

  after_attempts : (h : List Entry) → Leading doc q at h → Leading doc q at (attempts doc k q.process h)
  after_attempts h s = by_up (alive q.process h)
    where
      by_test : (i : ℕ) (fast due : Bool) → Leading doc q at (attempt_if doc k (identity q.process i) fast due h)
      by_test i true due = record { up = s.up; until = s.until }
      by_test i false true = record { up = s.up; until = s.until }
      by_test i false false = s

      by_up : (o : Option ℕ) → Leading doc q at (if_up q.process (try doc k) o h)
      by_up None = s
      by_up (Some i) =
          let p = identity q.process i in
          by_test i (is_fast_call (just_expired p k h)) (not (has (call_in p h)) && not (nat_lt (local doc q.process k) (timer doc p h)))

-- whoever is up acts before its deadline
acts_from : (doc : Doc) → ReleasesByStop doc → (q : Identity) (k at : ℕ) (h : List Entry) → is_paused doc q.process k ≡ false → Leading doc q at h → nat_lt (local doc q.process k) at ≡ true → acts doc q k h ≡ true
acts_from doc own q k at h awake s before =
    acts-own doc own q k h
    ∙ and_both (not (is_paused doc q.process k)) (in_term doc q k h) (ap not awake)
    (and_both (is_present (alive q.process h) q.incarnation) (is_before (local doc q.process k) (deadline doc q h))
    (ap (λ o. is_present o q.incarnation) s.up ∙ eq-eqb q.incarnation q.incarnation refl) (ap (is_before (local doc q.process k)) s.until ∙ before))

-- and the deadline hasn't come of who acts
record Before (doc : Doc) (q : Identity) (k : ℕ) (h : List Entry) : Type 0 where
  at : ℕ
  leading : Leading doc q at h
  before : nat_lt (local doc q.process k) at ≡ true

before_of : (doc : Doc) → ReleasesByStop doc → (q : Identity) (k : ℕ) (h : List Entry) → acts doc q k h ≡ true → Before doc q k h
before_of doc own q k h acting = by_deadline (deadline doc q h) refl (and_right (is_present (alive q.process h) q.incarnation) (is_before (local doc q.process k) (deadline doc q h)) term)
  where
    term : in_term doc q k h ≡ true
    term = and_right (not (is_paused doc q.process k)) (in_term doc q k h) (sym (acts-own doc own q k h) ∙ acting)

    by_deadline : (o : Option ℕ) → deadline doc q h ≡ o → is_before (local doc q.process k) o ≡ true → Before doc q k h
    by_deadline None is before = absurd (false_is before)
    by_deadline (Some at) is before = record { at = at; leading = record { up = acting_up doc q k h acting; until = is }; before = before }

module _ (doc : Doc) (own : ReleasesByStop doc) (q : Identity) (k : ℕ) (h : List Entry) where
  acts_later : (is_paused doc q.process k ≡ false) → Before doc q k h → acts doc q k (elector_turn doc k q.process h) ≡ true
  acts_later awake s =
      let h1 = restart doc k q.process h in
      let h2 = expire doc k q.process h1 in
      acts_from doc own q k s.at (elector_turn doc k q.process h) awake
      (after_attempts doc own q k s.at (finish doc k q.process h2) (after_finish doc own q k s.at h2 s.before (after_expire doc own q k s.at h1 (after_restart doc own q k s.at h s.leading)))) s.before

  acts_sooner : (p : ℕ) → h ≡ at_turn doc p k → is_paused doc q.process k ≡ false → Before doc q k (elector_turn doc k q.process h) → acts doc q k h ≡ true
  acts_sooner p is awake s =
      let h1 = restart doc k q.process h in
      let h2 = expire doc k q.process h1 in
      let was : Leading doc q s.at h1 = before_expire doc own q k s.at h1 (before_finish doc own q k s.at h2 (before_attempts doc own q k s.at (finish doc k q.process h2) s.leading)) in
      acts_from doc own q k s.at h awake
      (subst (Leading doc q s.at) (sym is) (before_restart doc own q k s.at p (subst (λ h. Leading doc q s.at (restart doc k q.process h)) is was))) s.before

pub alike : (doc : Doc) → ReleasesByStop doc → (q : Identity) (k : ℕ) → (Acts doc q k → IsActing doc q k) × (IsActing doc q k → Acts doc q k)
alike doc own q k = (later, sooner)
  where
    later : Acts doc q k → IsActing doc q k
    later is = (is.0, acts_later doc own q k (at_turn doc q.process k) (acting_awake doc q k (at_turn doc q.process k) is.1) (before_of doc own q k (at_turn doc q.process k) is.1))

    sooner : IsActing doc q k → Acts doc q k
    sooner is = (
      is.0,
      acts_sooner doc own q k (at_turn doc q.process k) q.process refl (acting_awake doc q k (elector_turn doc k q.process (at_turn doc q.process k)) is.1)
          (before_of doc own q k (elector_turn doc k q.process (at_turn doc q.process k)) is.1),
    )
