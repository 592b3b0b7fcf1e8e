-- An attempt starts, or nothing happens.
use Rattle.std.proofs.Common.{◌≡◌, ◌∙◌, ℕ, ◌≤◌, ◌<◌, ◌&&◌, not, nat_lt, Bool, true, false, cond, List, Option, Some, sym, ap, arith}
use Rattle.std.proofs.lemmas.Bool.Decides.{nat_tests}
use Rattle.kube_objects.specs.declared.call.Request.TheVariants.{Get, Update}
use Rattle.kube_objects.specs.Clocks.{local}
use Rattle.kube_objects.specs.Document.{Doc}
use Rattle.kube_objects.specs.Elector.{moment, Shown, attempt, attempt_from, is_valid, leads, observed_at, renewed, shown, timer}
use Rattle.kube_objects.specs.Entry.{Entry, Fast, Identity, Plain}
use Rattle.kube_objects.specs.Identities.{is_own}
use Rattle.kube_objects.specs.Newest.{has}
use Rattle.kube_objects.specs.Process.{call_in}
use Rattle.kube_objects.specs.Stored.{election}
use Rattle.kube_objects.specs.Turns.{attempt_if, is_fast_call, just_expired, try}
use Rattle.kube_objects.specs.Wire.{send}
use Rattle.leader_elector.specs.declared.seen.Seen.{Seen}

-- no call, and the timer is reached
pub due : (idle : Bool) (now timer : ℕ) → idle ≡ true → timer ≤ now → (idle && not (nat_lt now timer)) ≡ true
due true now timer is le = grind (arith, nat_tests)
due false now timer is le = cc

pub reached : (now at : ℕ) → at ≤ now → nat_lt now at ≡ false
reached now at le = grind (arith, nat_tests)

pub before : (now at : ℕ) → now < at → nat_lt now at ≡ true
before now at lt = grind (arith, nat_tests)

module _ (doc : Doc) (k : ℕ) (q : Identity) (h : List Entry) where
  pub try-fast : is_fast_call (just_expired q k h) ≡ true → try doc k q h ≡ send doc k 4 q Plain (Get election) h
  try-fast fast = ap (λ b. attempt_if doc k q b (not (has (call_in q h)) && not (nat_lt (local doc q.process k) (timer doc q h))) h) fast

  pub try-due : is_fast_call (just_expired q k h) ≡ false → (not (has (call_in q h)) && not (nat_lt (local doc q.process k) (timer doc q h))) ≡ true → try doc k q h ≡ send doc k 4 q (attempt doc q k h).0 (attempt doc q k h).1 h
  try-due slow is = λ i. attempt_if doc k q (slow i) (is i) h

  pub try-none : is_fast_call (just_expired q k h) ≡ false → (not (has (call_in q h)) && not (nat_lt (local doc q.process k) (timer doc q h))) ≡ false → try doc k q h ≡ h
  try-none slow is = λ i. attempt_if doc k q (slow i) (is i) h

  pub attempt-fast : doc.settings.fast_renew ≡ true → leads q h ≡ true → attempt doc q k h ≡ attempt_from q (moment doc q k) (observed_at doc q h) (shown q h)
  attempt-fast fast led = λ i. cond (fast i && led i) (attempt_from q (moment doc q k) (observed_at doc q h) (shown q h)) (Plain, Get election)

  pub attempt-slow : doc.settings.fast_renew ≡ false → attempt doc q k h ≡ (Plain, Get election)
  attempt-slow slow = λ i. cond (slow i && leads q h) (attempt_from q (moment doc q k) (observed_at doc q h) (shown q h)) (Plain, Get election)

  pub attempt-candidate : doc.settings.fast_renew ≡ true → leads q h ≡ false → attempt doc q k h ≡ (Plain, Get election)
  attempt-candidate fast led = λ i. cond (fast i && led i) (attempt_from q (moment doc q k) (observed_at doc q h) (shown q h)) (Plain, Get election)

-- an update without a Get, by the test on what was last shown
pub attempt_from-seen : (doc : Doc) (q : Identity) (k now observed : ℕ) (seen : Seen) (last : Option Shown) (b : Bool) →
    last ≡ Some (seen.version, seen.lease) → observed ≡ seen.at.0 → now ≡ local doc q.process k → b ≡ (is_own q seen.lease.holder && is_valid now seen.at.0 seen.lease) →
    attempt_from q (moment doc q k) observed last ≡ cond b (Fast, Update election seen.version (renewed q (moment doc q k) seen.lease)) (Plain, Get election)
attempt_from-seen doc q k now observed seen last b last_is observed_is now_is b_is =
    (λ i. attempt_from q (moment doc q k) (observed_is i) (last_is i))
    ∙ sym (λ i. cond (is_own q seen.lease.holder && is_valid (now_is i) seen.at.0 seen.lease) (Fast, Update election seen.version (renewed q (moment doc q k) seen.lease)) (Plain, Get election))
    ∙ sym (ap (λ b. cond b (Fast, Update election seen.version (renewed q (moment doc q k) seen.lease)) (Plain, Get election)) b_is)
