-- What a verdict says of the mark.
use Rattle.std.proofs.Common.{rules, ◌≡◌, ◌∙◌, ◌&&◌, not, ℕ, Bool, true, false, List, Option, Some, None, refl, sym, ap}
use Rattle.kube_objects.specs.declared.node.Node.{Node}
use Rattle.kube_objects.specs.declared.node.Ready.{Ready}
use Rattle.kube_objects.specs.declared.node.ReadyStatus.TheVariants as ready
use Rattle.kube_objects.specs.Clocks.{wall, whole_second}
use Rattle.kube_objects.specs.Document.{Doc}
use Rattle.kube_objects.specs.Entry.{Entry, Identity}
use Rattle.kube_objects.specs.Health.{is_silent, is_unknown, mark_of, marked, ready_heartbeat, with_mark}
use Rattle.kube_objects.specs.Newest.{when}
use Rattle.node_health.specs.declared.verdict.Verdict.{Verdict}
use Rattle.node_health.specs.declared.verdict.Verdict.TheVariants.{Keep, MarkUnknown}
use Rattle.node_health.specs.Kept.{verdict_of}

-- Ready as a mark with this reason leaves it at a whole second
abbrev pub marked_with : ℕ → ℕ → Option Ready → Ready
marked_with at reason r = record { status = ready.Unknown; reason = reason; heartbeat = ready_heartbeat r; transition = Some (record { 0 = at }) }

abbrev pub reason_of : Verdict → ℕ
reason_of Keep = 0
reason_of (MarkUnknown reason) = reason

marked-is : (at : ℕ) (r : Option Ready) → marked at r ≡ marked_with at (marked at r).reason r
marked-is at None = refl
marked-is at (Some r) = refl

-- a node that is kept isn't marked
pub keep-unmarked : (doc : Doc) (q : Identity) (k name : ℕ) (node : Node) (h : List Entry) → Keep ≡ verdict_of (mark_of doc q k name node h) → mark_of doc q k name node h ≡ None
keep-unmarked doc q k name node h is = by_test (not (is_unknown node.ready) && is_silent doc q k name node.ready h) is
  where
    at : ℕ
    at = whole_second (wall doc q.process k)

    by_test : (b : Bool) → Keep ≡ verdict_of (when b (with_mark at node)) → when b (with_mark at node) ≡ None
    by_test true is = absurd (search (rules, is))
    by_test false is = refl

-- the node that a mark with the verdict's reason writes
pub mark-written : (doc : Doc) (q : Identity) (k name : ℕ) (node : Node) (h : List Entry) (reason : ℕ) → MarkUnknown reason ≡ verdict_of (mark_of doc q k name node h)
    → mark_of doc q k name node h ≡ Some (record node { ready = Some (marked_with (whole_second (wall doc q.process k)) reason node.ready) })
mark-written doc q k name node h reason is = by_test (not (is_unknown node.ready) && is_silent doc q k name node.ready h) is
  where
    at : ℕ
    at = whole_second (wall doc q.process k)

    by_test : (b : Bool) → MarkUnknown reason ≡ verdict_of (when b (with_mark at node)) → when b (with_mark at node) ≡ Some (record node { ready = Some (marked_with at reason node.ready) })
    by_test true is =
        ap (λ (r : Ready). Some (record node { ready = Some r })) (marked-is at node.ready)
        ∙ ap (λ (n : ℕ). Some (record node { ready = Some (marked_with at n node.ready) })) (sym (ap reason_of is))
    by_test false is = absurd (search (rules, is))
