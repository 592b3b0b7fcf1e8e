-- Histories are ordered by beats and steps.
use Rattle.std.proofs.Common.{ℕ, zero, suc, List, [], ◌∷◌, refl, inl, inr, ⊎_elim, arith}
use Rattle.kube_objects.specs.declared.key.Key.{Key}
use Rattle.kube_objects.specs.declared.object.Object.{Object}
use Rattle.kube_objects.specs.Clocks.{store_wall, whole_second}
use Rattle.kube_objects.specs.Document.{Doc, processes}
use Rattle.kube_objects.specs.Entry.{Entry, First, script_entry}
use Rattle.kube_objects.specs.Stamps.{stamped}
use Rattle.history.specs.History.{put_all, history, at_turn}
use Rattle.history_laws.specs.Tails.{In}
use Rattle.history_laws.specs.Order.{IsWithin, IsOrdered, EntriesAreOrdered, EntriesAreEarlier, TurnsArePositions, HistoriesArePositions, StepsOnlyAdd}
use Rattle.history_laws.proofs.Plainly.{for_new, for_old}
use Rattle.history_laws.proofs.Tailed.{tail_all, one_adds, two_adds, three_adds, turns_add, turn_tail, before_turn, later_tail}
use Rattle.history_laws.proofs.Walk.{Keeps, KeepsRelease, all_kinds, all_release, walk_at_turn}

record Sorted (k step : ℕ) (h : List Entry) : Type 0 where
  ordered : IsOrdered h
  within : (e : Entry) → In e h → IsWithin k step e

within_on : (k step : ℕ) (e : Entry) → IsWithin k step e → IsWithin k (suc step) e
within_on k step e (inl before) = inl before
within_on k step e (inr here) = inr (here.0, omega (arith, here.1))

within_next : (k step n : ℕ) (e : Entry) → IsWithin k step e → IsWithin (suc k) n e
within_next k step n e (inl before) = inl (omega (arith, before))
within_next k step n e (inr here) = inl (omega (arith, here.0))

sorted_on : (k step : ℕ) (h : List Entry) → Sorted k step h → Sorted k (suc step) h
sorted_on k step h s = record { ordered = s.ordered; within = for_old (IsWithin k step) (IsWithin k (suc step)) h (within_on k step) s.within }

sorted_next : (k : ℕ) (h : List Entry) → Sorted k 4 h → Sorted (suc k) 1 h
sorted_next k h s = record { ordered = s.ordered; within = for_old (IsWithin k 4) (IsWithin (suc k) 1) h (within_next k 4 1) s.within }

sorted_more : (x : Entry) (h : List Entry) → Sorted x.beat x.step h → Sorted x.beat x.step (x ∷ h)
sorted_more x h s = record { ordered = (s.within, s.ordered); within = for_new (IsWithin x.beat x.step) x h (inr (refl, omega arith)) s.within }

sorted_keeps : (doc : Doc) → Keeps doc Sorted
sorted_keeps doc = all_kinds doc Sorted sorted_on sorted_next (λ x h next s. sorted_more x h s)

sorted_release : (doc : Doc) → KeepsRelease doc Sorted
sorted_release doc = all_release doc Sorted (λ x h next s. sorted_more x h s)

-- ---- before beat 0

put_sorted : (doc : Doc) (xs : List (Key × Object)) (h : List Entry) → Sorted 0 0 h → Sorted 0 0 (put_all doc xs h)
put_sorted doc [] h s = s
put_sorted doc (x ∷ xs) h s =
    let e = script_entry 0 0 (First x.0 (stamped (whole_second (store_wall doc 0)) x.1)) in
    put_sorted doc xs (e ∷ h) (sorted_more e h s)

first_sorted : (doc : Doc) → Sorted 0 0 (history doc 0)
first_sorted doc = put_sorted doc doc.objects [] (record { ordered = tt; within = λ e at. absurd at })

turn_sorted : (doc : Doc) (p k : ℕ) → Sorted k 4 (at_turn doc p k)
turn_sorted doc p k = walk_at_turn doc Sorted (sorted_keeps doc) (sorted_release doc) (sorted_on 0 0 (history doc 0) (first_sorted doc)) p k

-- ---- the laws

pub entries_are_ordered : EntriesAreOrdered
entries_are_ordered doc zero = (first_sorted doc).ordered
entries_are_ordered doc (suc k) = (turn_sorted doc (processes doc) k).ordered

pub entries_are_earlier : EntriesAreEarlier
entries_are_earlier doc zero e at = inr (⊎_elim (λ before. absurd (omega (arith, before))) (λ here. (here.0, omega (arith, here.1))) ((first_sorted doc).within e at))
entries_are_earlier doc (suc k) e at = inl (⊎_elim (λ before. omega (arith, before)) (λ here. omega (arith, here.0)) ((turn_sorted doc (processes doc) k).within e at))

pub turns_are_positions : TurnsArePositions
turns_are_positions doc p k le = (before_turn doc p k, turn_tail doc p k le)

pub histories_are_positions : HistoriesArePositions
histories_are_positions doc k m le = later_tail doc k m le

pub steps_only_add : StepsOnlyAdd
steps_only_add doc k h = (one_adds doc k h h (tail_all h), two_adds doc k h h (tail_all h), three_adds doc k h h (tail_all h), λ n. turns_add doc k n h h (tail_all h))
