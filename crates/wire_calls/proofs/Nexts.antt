-- The least beat of two is the least beat at which anything arrives.
use Rattle.std.proofs.Common.{◌≡◌, ℕ, ◌<◌, ◌≤◌, nat_lt, Bool, true, false, cond, List, [], Option, Some, None, refl, arith}
use Rattle.std.proofs.lemmas.Bool.{ltb-true, ltb-false}
use Rattle.kube_base.specs.declared.numbers.Beat.{Beat}
use Rattle.kube_objects.specs.Entry.{Entry}
use Rattle.kube_objects.specs.InFlight.{requests_due, replies_due}
use Rattle.kube_objects.specs.Wire.{Sent, Back}
use Rattle.wire_calls.specs.declared.wire.Wire.{Wire}
use Rattle.wire_calls.specs.InFlight.{pending, IsLeast}
use Rattle.wire_calls.specs.WireStands.{WireStands, IsQuiet, NextIs, as_sent, as_back}
use Rattle.wire_calls.specs.InFlight.{earlier_of}
use Rattle.wire_calls.proofs.Orders.{quiet-kept, kept-quiet}

pub next-is : (processes k : ℕ) (arriving : List Sent) (coming : List Back) (h : List Entry) (w : Wire) (a b : Option Beat) → WireStands processes k arriving coming h w → IsLeast (pending w.requests) a → IsLeast (pending w.replies) b → NextIs k arriving coming h (earlier_of a b)
next-is processes k arriving coming h w a b s = by_least a b
  where
    quiet : (j : ℕ) → pending w.requests j ≡ [] → pending w.replies j ≡ [] → IsQuiet k arriving coming h j
    quiet j x y = (
      quiet-kept as_sent k arriving (λ i. requests_due i h) (pending w.requests) s.requests j x,
      quiet-kept as_back k coming (λ i. replies_due i h) (pending w.replies) s.replies j y,
    )

    no_request : (j : ℕ) → IsQuiet k arriving coming h j → pending w.requests j ≡ []
    no_request j q = kept-quiet as_sent k arriving (λ i. requests_due i h) (pending w.requests) s.requests j q.0

    no_reply : (j : ℕ) → IsQuiet k arriving coming h j → pending w.replies j ≡ []
    no_reply j q = kept-quiet as_back k coming (λ i. replies_due i h) (pending w.replies) s.replies j q.1

    by_test : (x y : Beat) (t : Bool) → nat_lt y.0 x.0 ≡ t → IsLeast (pending w.requests) (Some x) → IsLeast (pending w.replies) (Some y) → NextIs k arriving coming h (cond t (Some y) (Some x))
    by_test x y true is l m = (λ q. m.0 (no_reply y.0 q), λ j below. quiet j (l.1 j (let lt : y.0 < x.0 = ltb-true y.0 x.0 is in omega (arith, lt, below))) (m.1 j below))
    by_test x y false is l m = (λ q. l.0 (no_request x.0 q), λ j below. quiet j (l.1 j below) (m.1 j (let le : x.0 ≤ y.0 = ltb-false y.0 x.0 is in omega (arith, le, below))))

    by_least : (a b : Option Beat) → IsLeast (pending w.requests) a → IsLeast (pending w.replies) b → NextIs k arriving coming h (earlier_of a b)
    by_least None None l m = λ j. quiet j (l j) (m j)
    by_least (Some x) None l m = (λ q. l.0 (no_request x.0 q), λ j below. quiet j (l.1 j below) (m j))
    by_least None (Some y) l m = (λ q. m.0 (no_reply y.0 q), λ j below. quiet j (l j) (m.1 j below))
    by_least (Some x) (Some y) l m = by_test x y (nat_lt y.0 x.0) refl l m
