-- Pods go in time.
use Rattle.std.proofs.Common.{◌≡◌, ◌⊎◌, ◌≤◌, ℕ, ℤ, pos, negsuc, suc, ◌+◌, ◌*◌, List, [], ◌∷◌, map, Option, Some, None, refl, sym, ap, ◌∙◌, subst, inl, inr, ⊎_elim, arith}
use Rattle.std.proofs.lemmas.Bool.{cases_lt}
use Rattle.kube_objects.specs.declared.key.Key.{Key}
use Rattle.kube_objects.specs.declared.node.Taint.{Taint}
use Rattle.kube_objects.specs.declared.pod.Due.{Due}
use Rattle.kube_objects.specs.declared.pod.Due.TheVariants.{Never, At}
use Rattle.kube_objects.specs.declared.pod.Toleration.{Toleration}
use Rattle.kube_objects.specs.Clocks.{wall, whole_second}
use Rattle.kube_objects.specs.Document.{Doc, of_seconds}
use Rattle.kube_objects.specs.Entry.{Entry, Identity, actor_of}
use Rattle.kube_objects.specs.Tick.{new_taint}
use Rattle.kube_objects.specs.Tolerations.{first_tolerating, due_within, due_by, taint_due, earlier, least_due, due}
use Rattle.history.specs.Evictions.{due_on, due_of, pod_due, stored_due, due_for, IsDue, NoneDueWithin, NotEarlyAt, NotEarlyIn, after_turn}
use Rattle.history.specs.History.{history}
use Rattle.history_laws.specs.Tails.{IsTail}
use Rattle.history_laws.proofs.Plainly.{some_is, none_is}
use Rattle.history_laws.proofs.Tailed.{tail_of_empty, same_head, same_rest}
use Rattle.eviction_laws.proofs.Early.{never_early}
use Rattle.eviction_laws.proofs.Turns.{prompt}
use Rattle.span_laws.proofs.Spans.{readings_grow, readings_last}
use Rattle.outage_laws.specs.Gone.{IsAmong, seconds_of, tolerated_for, IsDoomed, PodsGo, PodsStay}
use Rattle.outage_laws.proofs.Turns.{is_acting}
use Rattle.outage_laws.proofs.Walls.{whole_before, wall_later, reading_later}

-- ---- the least time

earlier_left : (now : ℕ) (a b : Due) → IsDue now a → IsDue now (earlier a b)
earlier_left now Never b is = absurd is
earlier_left now (At one) Never is = is
earlier_left now (At one) (At other) is = omega (arith, is)

earlier_right : (now : ℕ) (a b : Due) → IsDue now b → IsDue now (earlier a b)
earlier_right now Never b is = is
earlier_right now (At one) Never is = absurd is
earlier_right now (At one) (At other) is = omega (arith, is)

among_due : (now : ℕ) (f : Taint → Due) (x : Taint) (taints : List Taint) → IsAmong x taints → IsDue now (f x) → IsDue now (least_due (map f taints))
among_due now f x [] at is = absurd at
among_due now f x (y ∷ ys) (inl same) is = earlier_left now (f y) (least_due (map f ys)) (subst (λ y. IsDue now (f y)) same is)
among_due now f x (y ∷ ys) (inr at) is = earlier_right now (f y) (least_due (map f ys)) (among_due now f x ys at is)

earlier_one : (now : ℕ) (a b : Due) → IsDue now (earlier a b) → IsDue now a ⊎ IsDue now b
earlier_one now Never b is = inr is
earlier_one now (At one) Never is = inl is
earlier_one now (At one) (At other) is = ⊎_elim (λ lt. inl (omega (arith, is, lt))) (λ le. inr (omega (arith, is, le))) (cases_lt one other)

-- only one of them counts
alone_due : (now : ℕ) (f : Taint → Due) (x : Taint) (taints : List Taint) → ((y : Taint) → IsAmong y taints → (y ≡ x) ⊎ (f y ≡ Never)) → IsDue now (least_due (map f taints)) → IsDue now (f x)
alone_due now f x [] alone is = absurd is
alone_due now f x (y ∷ ys) alone is = cases (λ rest. alone_due now f x ys (λ z at. alone z (inr at)) rest) (earlier_one now (f y) (least_due (map f ys)) is) (alone y (inl refl))
  where
    cases : (IsDue now (least_due (map f ys)) → IsDue now (f x)) → IsDue now (f y) ⊎ IsDue now (least_due (map f ys)) → (y ≡ x) ⊎ (f y ≡ Never) → IsDue now (f x)
    cases below (inl here) (inl same) = subst (λ y. IsDue now (f y)) same here
    cases below (inl here) (inr never) = absurd (subst (IsDue now) never here)
    cases below (inr rest) one = below rest

-- ---- by the toleration that counts

within_seconds : (o : Option ℤ) (added seconds : ℕ) → seconds_of o ≡ Some seconds → due_within o added ≡ At (added + seconds * 1000000)
within_seconds None added seconds is = absurd (none_is seconds is)
within_seconds (Some (pos n)) added seconds is = ap (λ n. At (added + n * 1000000)) (some_is n seconds is)
within_seconds (Some (negsuc n)) added seconds is = ap (λ n. At (added + n * 1000000)) (some_is 0 seconds is)

by_seconds : (o : Option Toleration) (added seconds : ℕ) → tolerated_for o ≡ Some seconds → due_by o added ≡ At (added + seconds * 1000000)
by_seconds None added seconds is = let none : 0 ≡ seconds = some_is 0 seconds is in let same : added ≡ added + seconds * 1000000 = omega (arith, none) in ap At same
by_seconds (Some toleration) added seconds is = within_seconds toleration.seconds added seconds is

-- the taint's own time
taint_at : (doc : Doc) (q : Identity) (t seconds : ℕ) (key : Key) (h : List Entry) (d : IsDoomed doc q t seconds key h)
    → taint_due d.pod.1.tolerations (new_taint doc t q d.wanted) ≡ At (whole_second (wall doc q.process t) + seconds * 1000000)
taint_at doc q t seconds key h d = by_seconds (first_tolerating d.pod.1.tolerations (new_taint doc t q d.wanted)) (whole_second (wall doc q.process t)) seconds d.tolerated

pod_at : (doc : Doc) (q : Identity) (t seconds : ℕ) (key : Key) (h : List Entry) (d : IsDoomed doc q t seconds key h) → pod_due key h ≡ due d.pod.1 d.node.1
pod_at doc q t seconds key h d = ap (λ o. due_of o h) d.has_pod ∙ ap (due_on d.pod.1) d.has_node

-- ---- gone

pub pods_go : PodsGo
pods_go doc own evicts q t k seconds slow enough dated attended runs is le key kind d =
    none_due
    (subst (IsDue (wall doc q.process k)) (sym (pod_at doc q t seconds key (after_turn doc q.process k) d))
    (among_due (wall doc q.process k) (taint_due d.pod.1.tolerations) (new_taint doc t q d.wanted) d.node.1.taints d.tainted
    (subst (IsDue (wall doc q.process k)) (sym (taint_at doc q t seconds key (after_turn doc q.process k) d)) over)))
  where
    none_due : IsDue (wall doc q.process k) (pod_due key (after_turn doc q.process k)) → ⊥
    none_due =
        subst (λ r. IsDue (wall doc q.process k) (stored_due r doc q key (after_turn doc q.process k)) → ⊥) evicts.from
        (subst (λ n. NoneDueWithin n doc q k (after_turn doc q.process k)) evicts.burst
        (prompt doc q k (is_acting doc own q k attended) attended.4 attended.3 attended.1 attended.2) key kind)

    over : whole_second (wall doc q.process t) + seconds * 1000000 ≤ wall doc q.process k
    over = omega (
      arith,
      whole_before (wall doc q.process t),
      wall_later doc q.process t k seconds dated (readings_grow doc q.process t k slow (of_seconds seconds) enough runs is t k (omega arith) le (omega arith)),
    )

early_at : (doc : Doc) (h : List Entry) → NotEarlyIn doc h → (e : Entry) (before : List Entry) → IsTail (e ∷ before) h → NotEarlyAt doc e.beat e.actor e.fact before
early_at doc [] all e before at = absurd (tail_of_empty e before at)
early_at doc (x ∷ h) all e before (inl is) =
    subst (λ T. NotEarlyAt doc e.beat e.actor e.fact T) (sym (same_rest e x before h is)) (subst (λ e. NotEarlyAt doc e.beat e.actor e.fact h) (sym (same_head e x before h is)) all.0)
early_at doc (x ∷ h) all e before (inr at) = early_at doc h all.1 e before at

pub pods_stay : PodsStay
pods_stay doc evicts q t seconds end e before at after key given node_given version due_at by is d alone fast needed runs need =
    readings_last doc q.process t e.beat fast (of_seconds seconds + 1) needed runs need t e.beat (omega arith) after (omega arith) (reading_later doc q.process t e.beat seconds over)
  where
    timely : IsDue (wall doc q.process e.beat) (pod_due key before)
    timely =
        subst (λ r. IsDue (wall doc q.process e.beat) (due_for r doc q key before)) evicts.from
        (subst (λ fact. NotEarlyAt doc e.beat (actor_of q) fact before) is (subst (λ who. NotEarlyAt doc e.beat who e.fact before) by (early_at doc (history doc end) (never_early doc end) e before at)))

    over : whole_second (wall doc q.process t) + suc seconds * 1000000 ≤ wall doc q.process e.beat
    over = subst (IsDue (wall doc q.process e.beat)) (taint_at doc q t (suc seconds) key before d)
        (alone_due (wall doc q.process e.beat) (taint_due d.pod.1.tolerations) (new_taint doc t q d.wanted) d.node.1.taints alone
        (subst (IsDue (wall doc q.process e.beat)) (pod_at doc q t (suc seconds) key before d) timely))
