-- At its tick a call of a release that waits isn't late.
use Rattle.std.proofs.Common.{◌≡◌, ◌≤◌, ℕ, ◌+◌, ◌&&◌, not, nat_lt, Bool, true, false, List, ◌∷◌, Option, Some, None, IfSome, refl, sym, ap, ◌∙◌, subst, arith}
use Rattle.std.specs.Prelude.{if◌then◌else◌}
use Rattle.std.proofs.lemmas.Bool.{eq-eqb, ltb-false}
use Rattle.kube_objects.specs.declared.call.Request.{Request}
use Rattle.kube_objects.specs.declared.call.Request.TheVariants.{Get}
use Rattle.kube_objects.specs.declared.rules.ReleaseRule.{ReleaseRule}
use Rattle.kube_objects.specs.declared.rules.ReleaseRule.TheVariants as rules
use Rattle.kube_objects.specs.Clocks.{local, wall}
use Rattle.kube_objects.specs.Document.{Doc, call_timeout, renew_deadline}
use Rattle.kube_objects.specs.Elector.{deadline, shown, timer, attempt, acts_by, acts_on, release_from}
use Rattle.kube_objects.specs.Entry.{Entry, Call, CallKind, Plain, ReleaseBegins, ReleaseEnds, StepsDown, Ends, Expires, entry}
use Rattle.kube_objects.specs.Identities.{identity}
use Rattle.kube_objects.specs.Newest.{when, join, has}
use Rattle.kube_objects.specs.Process.{gone, life, alive, call_in, is_releasing, release_begun, is_late}
use Rattle.kube_objects.specs.Releases.{and_end, end_release, first_call, send_first, begin_release}
use Rattle.kube_objects.specs.Stored.{election}
use Rattle.kube_objects.specs.Turns.{expired, expire_as, expire_call, end_released, end_as, end_term, just_expired, is_fast_call, attempt_if, try}
use Rattle.kube_objects.specs.Wire.{next_call, send}
use Rattle.kube_objects.proofs.OwnCalls.{timely, call_in-expired}
use Rattle.history.specs.Steps.{if_up, restart, expire, finish, attempts, elector_turn}
use Rattle.history_laws.proofs.Plainly.{upper, some_is, none_is}
use Rattle.history_laws.proofs.Releasing.{IsFirst, first_is, IsAttempt, attempt_is, plain_of_none, sent_call}
use Rattle.lease_laws.proofs.Releases.{in_time}

module _ (doc : Doc) (k p : ℕ) where
  -- of a call that waits
  abbrev InTime : ℕ → Call → Type 0
  InTime i c = (e : ℕ) → release_begun doc.settings.rules.release c.kind ≡ Some e
      → (local doc p k ≤ local doc p c.sent + call_timeout doc p) × (local doc p k ≤ local doc p e + renew_deadline doc p)

  -- whoever is up
  abbrev pub Punctual : List Entry → Type 0
  Punctual h = (i : ℕ) → alive p h ≡ Some i → IfSome (call_in (identity p i) h) (InTime i)

  down : (i j step : ℕ) (h : List Entry) → alive p (end_release doc k step (identity p i) h) ≡ Some j → ⊥
  down i j step h = by_acting (acts_on doc (identity p i) h)
    where
      gone_so : (g : List Entry) → alive p (entry k step (identity p i) ReleaseEnds ∷ g) ≡ None
      gone_so g = ap (λ b. join (upper (gone (when b i)) (life p g))) (eq-eqb p p refl)

      by_acting : (b : Bool) → alive p (entry k step (identity p i) ReleaseEnds ∷ and_end k step (identity p i) b h) ≡ Some j → ⊥
      by_acting b up = none_is j (sym (gone_so (and_end k step (identity p i) b h)) ∙ up)

  -- after the expiry of its turn
  after_expiry : (h : List Entry) → Punctual (expire doc k p h)
  after_expiry h = by_up (alive p h) refl
    where
      ended : (i : ℕ) → alive p h ≡ Some i → (c : Call) (o : Option ℕ) → Punctual (expire_as doc k (identity p i) c o h)
      ended i up c None = λ j here. subst (λ j. IfSome (call_in (identity p j) (entry k 4 (identity p i) (Expires c) ∷ h)) (InTime j)) (some_is i j (sym up ∙ here)) (subst (λ o. IfSome o (InTime i)) (sym (call_in-expired (identity p i) h k 4 c)) tt)
      ended i up c (Some e) = λ j here. absurd (down i j 4 h here)

      by_late : (i : ℕ) → alive p h ≡ Some i → (c : Call) → call_in (identity p i) h ≡ Some c → (b : Bool) → is_late doc (identity p i) k c ≡ b
          → Punctual (if b then expire_as doc k (identity p i) c (release_begun doc.settings.rules.release c.kind) h else h)
      by_late i up c waits true late = ended i up c (release_begun doc.settings.rules.release c.kind)
      by_late i up c waits false late = λ j here. subst (λ j. IfSome (call_in (identity p j) h) (InTime j)) (some_is i j (sym up ∙ here))
          (subst (λ o. IfSome o (InTime i)) (sym waits) (λ e of. (ltb-false _ _ (timely doc (identity p i) k c late), in_time doc (identity p i) k c e of late)))

      by_call : (i : ℕ) → alive p h ≡ Some i → (o : Option Call) → call_in (identity p i) h ≡ o → Punctual (expire_call doc k (identity p i) o h)
      by_call i up None waits = λ j here. subst (λ j. IfSome (call_in (identity p j) h) (InTime j)) (some_is i j (sym up ∙ here)) (subst (λ o. IfSome o (InTime i)) (sym waits) tt)
      by_call i up (Some c) waits = by_late i up c waits (is_late doc (identity p i) k c) refl

      by_up : (o : Option ℕ) → alive p h ≡ o → Punctual (if_up p (λ q T. expired doc k q T) o h)
      by_up None is = λ j up. absurd (none_is j (sym is ∙ up))
      by_up (Some i) is = by_call i is (call_in (identity p i) h) refl

  -- after the end of a term
  after_end : (h : List Entry) → Punctual h → Punctual (finish doc k p h)
  after_end h s = by_up (alive p h) refl
    where
      gone_now : (i : ℕ) → alive p (entry k 4 (identity p i) Ends ∷ h) ≡ None
      gone_now i = ap (λ b. join (upper (gone (when b i)) (life p h))) (eq-eqb p p refl)

      -- the release that begins has sent its call just now
      begun : (i : ℕ) (g : List Entry) → alive p g ≡ Some i → (o : Option (CallKind × Request)) → first_call doc.settings.rules.release k (release_from (identity p i) (wall doc p k) (shown (identity p i) g)) ≡ o
          → Punctual (send_first doc k 4 (identity p i) o (entry k 4 (identity p i) (ReleaseBegins true) ∷ g))
      begun i g up None is = λ j here. absurd (down i j 4 (entry k 4 (identity p i) (ReleaseBegins true) ∷ g) here)
      begun i g up (Some call) is = λ j here. subst (λ j. IfSome (call_in (identity p j) (send doc k 4 (identity p i) call.0 call.1 x)) (InTime j)) (some_is i j (sym up ∙ here)) (subst (λ o. IfSome o (InTime i)) (sym waits) now)
        where
          x : List Entry
          x = entry k 4 (identity p i) (ReleaseBegins true) ∷ g

          f : IsFirst doc.settings.rules.release k call.0
          f = first_is doc.settings.rules.release k (release_from (identity p i) (wall doc p k) (shown (identity p i) g)) call is

          waits : call_in (identity p i) (send doc k 4 (identity p i) call.0 call.1 x) ≡ Some (next_call (identity p i) k call.0 call.1 x)
          waits = sent_call doc k 4 (identity p i) call.0 call.1 x ∙ f.opens (next_call (identity p i) k call.0 call.1 x)

          now : InTime i (next_call (identity p i) k call.0 call.1 x)
          now e of = let same : k ≡ e = some_is k e (sym f.of ∙ of) in (omega arith, omega (arith, ap (local doc p) same))

      begins : (i : ℕ) (b : Bool) → alive p h ≡ Some i → Punctual (begin_release doc k 4 (identity p i) true (and_end k 4 (identity p i) b h))
      begins i true up = begun i (entry k 4 (identity p i) StepsDown ∷ h) up (first_call doc.settings.rules.release k (release_from (identity p i) (wall doc p k) (shown (identity p i) h))) refl
      begins i false up = begun i h up (first_call doc.settings.rules.release k (release_from (identity p i) (wall doc p k) (shown (identity p i) h))) refl

      by_running : (i : ℕ) (b : Bool) → alive p h ≡ Some i → Punctual (end_released doc k (identity p i) b h)
      by_running i true up = s
      by_running i false up = begins i (not (acts_by doc.settings.rules.in_release true)) up

      by_rule : (i : ℕ) (rule : ReleaseRule) → alive p h ≡ Some i → Punctual (end_as rule doc k (identity p i) h)
      by_rule i rules.Stop up = λ j here. absurd (none_is j (sym (gone_now i) ∙ here))
      by_rule i rules.Own up = by_running i (is_releasing (identity p i) h) up
      by_rule i rules.Checked up = by_running i (is_releasing (identity p i) h) up
      by_rule i rules.Reread up = by_running i (is_releasing (identity p i) h) up

      by_late : (i : ℕ) (b : Bool) → alive p h ≡ Some i → Punctual (if b then h else end_as doc.settings.rules.release doc k (identity p i) h)
      by_late i true up = s
      by_late i false up = by_rule i doc.settings.rules.release up

      by_deadline : (i : ℕ) (o : Option ℕ) → alive p h ≡ Some i → Punctual (end_term doc k (identity p i) o h)
      by_deadline i None up = s
      by_deadline i (Some at) up = by_late i (nat_lt (local doc p k) at) up

      by_up : (o : Option ℕ) → alive p h ≡ o → Punctual (if_up p (λ q T. end_term doc k q (deadline doc q T) T) o h)
      by_up None is = s
      by_up (Some i) is = by_deadline i (deadline doc (identity p i) h) is

  -- and after its attempt
  after_attempt : (h : List Entry) → Punctual h → Punctual (attempts doc k p h)
  after_attempt h s = by_up (alive p h) refl
    where
      sent : (i : ℕ) → alive p h ≡ Some i → (kind : CallKind) (request : Request) → IsAttempt doc.settings.rules.release kind → Punctual (send doc k 4 (identity p i) kind request h)
      sent i up kind request a = λ j here. subst (λ j. IfSome (call_in (identity p j) (send doc k 4 (identity p i) kind request h)) (InTime j)) (some_is i j (sym up ∙ here))
          (subst (λ o. IfSome o (InTime i)) (sym (sent_call doc k 4 (identity p i) kind request h ∙ a.opens (next_call (identity p i) k kind request h))) (λ e of. absurd (none_is e (sym a.of ∙ of))))

      by_test : (i : ℕ) → alive p h ≡ Some i → (fast due : Bool) → Punctual (attempt_if doc k (identity p i) fast due h)
      by_test i up true due = sent i up Plain (Get election) (record { of = plain_of_none doc.settings.rules.release; opens = λ c. refl })
      by_test i up false true = sent i up (attempt doc (identity p i) k h).0 (attempt doc (identity p i) k h).1 (attempt_is doc (identity p i) k h)
      by_test i up false false = s

      by_up : (o : Option ℕ) → alive p h ≡ o → Punctual (if_up p (try doc k) o h)
      by_up None is = s
      by_up (Some i) is =
          let q = identity p i in
          by_test i is (is_fast_call (just_expired q k h)) (not (has (call_in q h)) && not (nat_lt (local doc p k) (timer doc q h)))

  -- so at its tick
  pub at_tick : (h : List Entry) → Punctual (elector_turn doc k p h)
  at_tick h =
      let h1 = restart doc k p h in
      let h2 = expire doc k p h1 in
      after_attempt (finish doc k p h2) (after_end h2 (after_expiry h1))
