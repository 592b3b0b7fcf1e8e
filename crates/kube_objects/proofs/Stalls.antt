-- A stall of the store ends later, so what waits for its end comes no sooner; while the store goes nothing waits.
use Rattle.std.proofs.Common.{◌≡◌, ◌≤◌, ℕ, ◌+◌, Bool, true, false, List, [], ◌∷◌, Option, Some, None, refl, ap, arith}
use Rattle.kube_objects.specs.declared.script.Event.{Event}
use Rattle.kube_objects.specs.Document.{Doc}
use Rattle.kube_objects.specs.Entry.{Entry}
use Rattle.kube_objects.specs.Newest.{has, or_else}
use Rattle.kube_objects.specs.Own.{AreUnstalled}
use Rattle.kube_objects.specs.Pauses.{end_of}
use Rattle.kube_objects.specs.Stalls.{stall_of, last_stall, stall_end, is_stalled, awake, at_store}
use Rattle.kube_objects.specs.Wire.{arrival, request_arrival, request_delay, loses_requests}
use Rattle.kube_objects.proofs.Pauses.{both_none, last_later}

-- ---- a stall ends later

pub awake_later : (doc : Doc) (k : ℕ) → k ≤ awake doc k
awake_later doc k = cases (stall_end doc k) refl
  where
    cases : (o : Option ℕ) → stall_end doc k ≡ o → k ≤ or_else k o
    cases None is = omega arith
    cases (Some at) is = omega (arith, last_later stall_of k doc.events at is)

-- ---- while the store goes

true_is : true ≡ false → ⊥
true_is is = cc

none_ends : (o : Option ℕ) → has o ≡ false → o ≡ None
none_ends None is = refl
none_ends (Some at) is = absurd (true_is is)

pub awake_now : (doc : Doc) (k : ℕ) → is_stalled doc k ≡ false → awake doc k ≡ k
awake_now doc k goes = ap (or_else k) (none_ends (stall_end doc k) goes)

pub arrives_now : (doc : Doc) (p k : ℕ) (h : List Entry) → is_stalled doc (k + request_delay p h) ≡ false
    → request_arrival doc p k h ≡ arrival (loses_requests p h) k (request_delay p h)
arrives_now doc p k h goes = by_loss (loses_requests p h)
  where
    by_loss : (lost : Bool) → at_store doc (arrival lost k (request_delay p h)) ≡ arrival lost k (request_delay p h)
    by_loss true = refl
    by_loss false = ap (λ (n : ℕ). Some n) (awake_now doc (k + request_delay p h) goes)

-- ---- a script that doesn't stop the store

none_stalls : (k : ℕ) (es : List Event) → AreUnstalled es → last_stall k es ≡ None
none_stalls k [] none = refl
none_stalls k (e ∷ es) none = both_none (last_stall k es) (end_of k e.beat.0 (stall_of e.what)) (none_stalls k es none.1) (ap (end_of k e.beat.0) none.0)

pub never_stalled : (doc : Doc) (k : ℕ) → AreUnstalled doc.events → is_stalled doc k ≡ false
never_stalled doc k none = ap has (none_stalls k doc.events none)

pub arrives_unstalled : (doc : Doc) (p k : ℕ) (h : List Entry) → AreUnstalled doc.events
    → request_arrival doc p k h ≡ arrival (loses_requests p h) k (request_delay p h)
arrives_unstalled doc p k h none = arrives_now doc p k h (never_stalled doc (k + request_delay p h) none)
