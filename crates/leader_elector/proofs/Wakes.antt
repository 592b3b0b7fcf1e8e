-- The least reading at which a turn does anything.
use Rattle.std.proofs.Common.{◌≡◌, ◌∙◌, ℕ, ◌+◌, ◌≤◌, ◌<◌, ◌&&◌, not, nat_lt, Bool, true, false, cond, List, ◌∷◌, length, Option, Some, None, refl, sym, ap, subst, arith}
use Rattle.std.specs.Prelude.{if◌then◌else◌}
use Rattle.std.proofs.lemmas.Bool.Decides.{nat_tests}
use Rattle.kube_objects.specs.declared.call.Request.{Request}
use Rattle.kube_objects.specs.declared.rules.ReleaseRule.{ReleaseRule}
use Rattle.kube_objects.specs.declared.rules.ReleaseRule.TheVariants.{Stop, Own, Checked, Reread}
use Rattle.kube_objects.specs.CallSlots.{release_of}
use Rattle.kube_objects.specs.Clocks.{local, wall}
use Rattle.kube_objects.specs.Document.{Doc, call_timeout}
use Rattle.kube_objects.specs.Elector.{acts_by, acts_on, deadline, is_before, release_from, shown, timer}
use Rattle.kube_objects.specs.Entry.{Call, CallKind, Entry, Expires, Identity, ReleaseBegins, entry}
use Rattle.kube_objects.specs.Newest.{has}
use Rattle.kube_objects.specs.Process.{call_in, is_late, is_releasing, release_begun}
use Rattle.kube_objects.specs.Releases.{and_end, end_release, first_call, send_first}
use Rattle.kube_objects.specs.Turns.{attempt_if, end_as, end_released, end_term, expire_as, expire_call, try, expired}
use Rattle.kube_objects.proofs.OwnCalls.{is_late-ordinary}
use Rattle.leader_elector.specs.Moves.{IsLeast, leading_turn, try_before, wake_before, wake_from}
use Rattle.leader_elector.specs.Stands.{IsSettled}
use Rattle.leader_elector.proofs.Beginning.{try-due, try-none}
use Rattle.leader_elector.proofs.Expiry.{deadline-expiry, unreleased-expiry}

longer : (x : Entry) (h : List Entry) → (x ∷ h) ≡ h → ⊥
longer x h is = let n : length (x ∷ h) ≡ length h = ap length is in omega arith

longer_still : (x y : Entry) (h : List Entry) → (x ∷ y ∷ h) ≡ h → ⊥
longer_still x y h is = let n : length (x ∷ y ∷ h) ≡ length h = ap length is in omega arith

not_late : (now at : ℕ) → nat_lt now (at + 1) ≡ true → nat_lt at now ≡ false
not_late now at is = grind (arith, nat_tests)

now_late : (now at : ℕ) → nat_lt now (at + 1) ≡ false → nat_lt at now ≡ true
now_late now at is = grind (arith, nat_tests)

sooner : (now at wake : ℕ) → nat_lt now at ≡ true → nat_lt at wake ≡ true → nat_lt now wake ≡ true
sooner now at wake lt is = grind (arith, nat_tests)

not_sooner : (now at wake : ℕ) → nat_lt now at ≡ false → nat_lt at wake ≡ false → nat_lt now wake ≡ false
not_sooner now at wake le is = grind (arith, nat_tests)

module _ (doc : Doc) (k : ℕ) (q : Identity) (h : List Entry) where
  abbrev is_over : Call → Bool
  is_over call = nat_lt (local doc q.process call.sent + call_timeout doc q.process) (local doc q.process k)

  expires : (call : Call) → release_begun doc.settings.rules.release call.kind ≡ None → expire_call doc k q (Some call) h ≡ (if is_over call then entry k 4 q (Expires call) ∷ h else h)
  expires call none = λ i. (if is_late-ordinary doc q k call none i then expire_as doc k q call (none i) h else h)

  attempt-longer : (x : Entry) (fast due : Bool) → attempt_if doc k q fast due (x ∷ h) ≡ h → ⊥
  attempt-longer x true due is = longer_still _ x h is
  attempt-longer x false true is = longer_still _ x h is
  attempt-longer x false false is = longer x h is

  idle-least : IsSettled q h → call_in q h ≡ None → IsLeast (timer doc q h) (local doc q.process k) h (try doc k q h)
  idle-least settled is = (
    (λ early. try-none doc k q h (settled k) (λ i. not (has (is i)) && not (early i))),
    (λ due same. longer _ h (sym (try-due doc k q h (settled k) (λ i. not (has (is i)) && not (due i))) ∙ same)),
  )

  busy-least : (call : Call) → IsSettled q h → call_in q h ≡ Some call → (b : Bool) →
      (b ≡ false → try doc k q (if b then entry k 4 q (Expires call) ∷ h else h) ≡ h) × (b ≡ true → try doc k q (if b then entry k 4 q (Expires call) ∷ h else h) ≡ h → ⊥)
  busy-least call settled is true = ((λ no. absurd (cc)), (λ yes same. attempt-longer (entry k 4 q (Expires call)) _ _ same))
  busy-least call settled is false = ((λ no. try-none doc k q h (settled k) (λ i. not (has (is i)) && not (nat_lt (local doc q.process k) (timer doc q h)))), (λ yes same. cc))

  -- the call that waits is of no release
  pub turn-least : (c : Option Call) → release_of doc c ≡ None → IsSettled q h → call_in q h ≡ c → IsLeast (wake_from doc q (timer doc q h) c) (local doc q.process k) h (try doc k q (expire_call doc k q c h))
  turn-least None ordinary settled is = idle-least settled is
  turn-least (Some call) ordinary settled is =
      let l = busy-least call settled is (is_over call) in
      let at = local doc q.process call.sent + call_timeout doc q.process in
      subst (λ x. IsLeast (at + 1) (local doc q.process k) h (try doc k q x)) (sym (expires call ordinary))
      ((λ early. l.0 (not_late (local doc q.process k) at early)), (λ due same. l.1 (now_late (local doc q.process k) at due) same))

-- ---- what a turn adds

module _ (doc : Doc) (k : ℕ) (q : Identity) where
  and_grows : (b : Bool) (h : List Entry) → length h ≤ length (and_end k 4 q b h)
  and_grows true h = omega arith
  and_grows false h = omega arith

  over_grows : (h : List Entry) → length h < length (end_release doc k 4 q h)
  over_grows h = omega (arith, and_grows (acts_on doc q h) h)

  expire_grows : (call : Call) (o : Option ℕ) (h : List Entry) → length h ≤ length (expire_as doc k q call o h)
  expire_grows call None h = omega arith
  expire_grows call (Some begun) h = omega (arith, over_grows h)

  late_grows : (call : Call) (b : Bool) (h : List Entry) → length h ≤ length (if b then expire_as doc k q call (release_begun doc.settings.rules.release call.kind) h else h)
  late_grows call true h = expire_grows call (release_begun doc.settings.rules.release call.kind) h
  late_grows call false h = omega arith

  expiry_grows : (c : Option Call) (h : List Entry) → length h ≤ length (expire_call doc k q c h)
  expiry_grows None h = omega arith
  expiry_grows (Some call) h = late_grows call (is_late doc q k call) h

  first_grows : (c : Option (CallKind × Request)) (h : List Entry) → length h < length (send_first doc k 4 q c h)
  first_grows None h = over_grows h
  first_grows (Some call) h = omega arith

  released_grows : (releasing : Bool) (h : List Entry) → releasing ≡ false → length h < length (end_released doc k q releasing h)
  released_grows true h is = absurd (cc)
  released_grows false h is =
      let stepped = and_end k 4 q (not (acts_by doc.settings.rules.in_release true)) h in
      let begun = entry k 4 q (ReleaseBegins true) ∷ stepped in
      let first = first_grows (first_call doc.settings.rules.release k (release_from q (wall doc q.process k) (shown q stepped))) begun in
      let steps : length h ≤ length stepped = and_grows (not (acts_by doc.settings.rules.in_release true)) h in
      omega (arith, first, steps)

  end_grows : (rule : ReleaseRule) (h : List Entry) → is_releasing q h ≡ false → length h < length (end_as rule doc k q h)
  end_grows Stop h is = omega arith
  end_grows Own h is = released_grows (is_releasing q h) h is
  end_grows Checked h is = released_grows (is_releasing q h) h is
  end_grows Reread h is = released_grows (is_releasing q h) h is

grown : (h g : List Entry) → length h < length g → g ≡ h → ⊥
grown h g less is = let n : length g ≡ length h = ap length is in omega (arith, less, n)

choose-least : (now at wake : ℕ) (h tried ended : List Entry) (b c : Bool) → nat_lt now at ≡ b → nat_lt at wake ≡ c → IsLeast wake now h tried → (ended ≡ h → ⊥) → IsLeast (cond c at wake) now h (cond b tried ended)
choose-least now at wake h tried ended true true lt le l longer = ((λ early. l.0 (sooner now at wake lt le)), (λ due same. cc))
choose-least now at wake h tried ended true false lt le l longer = l
choose-least now at wake h tried ended false true lt le l longer = ((λ early. absurd (cc)), (λ due same. longer same))
choose-least now at wake h tried ended false false lt le l longer = ((λ early. absurd (cc (not_sooner now at wake lt le))), (λ due same. longer same))

pub leading-least : (doc : Doc) (k : ℕ) (q : Identity) (h : List Entry) (at : ℕ) → release_of doc (call_in q h) ≡ None → is_releasing q h ≡ false → IsSettled q h → Some at ≡ deadline doc q h →
    IsLeast (wake_before (wake_from doc q (timer doc q h) (call_in q h)) (deadline doc q h)) (local doc q.process k) h (leading_turn doc k q h)
leading-least doc k q h at ordinary unreleased settled is =
    let now = local doc q.process k in
    let wake = wake_from doc q (timer doc q h) (call_in q h) in
    let e = expired doc k q h in
    let ended = end_as doc.settings.rules.release doc k q e in
    let at_is : Some at ≡ deadline doc q e = is ∙ sym (deadline-expiry doc k q h (call_in q h)) in
    let grows : length e < length ended = end_grows doc k q doc.settings.rules.release e (unreleased-expiry doc k q h (call_in q h) unreleased) in
    let kept : length h ≤ length e = expiry_grows doc k q (call_in q h) h in
    let l = choose-least now at wake h (try doc k q e) ended (nat_lt now at) (nat_lt at wake) refl refl (turn-least doc k q h (call_in q h) ordinary settled refl) (grown h ended (omega (arith, grows, kept))) in
    subst (λ x. IsLeast (wake_before wake (deadline doc q h)) now h x) (by_test (nat_lt now at) refl ∙ ap (λ o. try_before doc k q (is_before now o) e) at_is)
    (subst (λ o. IsLeast (wake_before wake o) now h (cond (nat_lt now at) (try doc k q e) ended)) is l)
  where
    by_test : (b : Bool) → nat_lt (local doc q.process k) at ≡ b → cond b (try doc k q (expired doc k q h)) (end_as doc.settings.rules.release doc k q (expired doc k q h)) ≡ try_before doc k q b (expired doc k q h)
    by_test true lt = refl
    by_test false le =
        sym (ap (λ o. end_term doc k q o (expired doc k q h)) (deadline-expiry doc k q h (call_in q h) ∙ sym is) ∙ ap (λ b. (if b then (expired doc k q h) else end_as doc.settings.rules.release doc k q (expired doc k q h))) le)
