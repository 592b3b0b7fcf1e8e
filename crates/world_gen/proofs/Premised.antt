-- The lease premise holds of the generated document: its rates never change.
use Rattle.std.proofs.Common.{◌≡◌, ℕ, zero, suc, ◌+◌, nat_le, nat_lt, true, List, [], ◌∷◌, ◌++◌, map, None, refl, ap, ap₂, ◌∙◌, inl, inr}
use Rattle.std.proofs.lemmas.Bool.{cases_Bool}
use Rattle.kube_objects.specs.Clocks.{rate, last_rate}
use Rattle.kube_objects.specs.declared.key.Key.{Key}
use Rattle.kube_objects.specs.declared.object.Object.{Object}
use Rattle.kube_objects.specs.declared.script.Proc.{Proc}
use Rattle.kube_objects.specs.Document.{Doc, own_waits_each, end_beat, first_rate, of_seconds, of_millis}
use Rattle.kube_objects.specs.Newest.{or_else}
use Rattle.history.proofs.Pauses.{no_longest}
use Rattle.history.specs.Premise.{less, more, least_rate, greatest_rate, longest, lease_premise}
use Rattle.world_gen.specs.declared.crash.Crash.{Crash}
use Rattle.world_gen.specs.Draws.{start, crashes}
use Rattle.world_gen.specs.Generated.{settings, controllers, kubelets, node_items, pod_items, by_beat, event, middle, generated}
use Rattle.world_gen.proofs.Ranges.{crashes-pause_nobody}

module _ (beats : ℕ) (others : List Proc) (items : List (Key × Object)) (xs : List Crash) where
  abbrev doc : Doc
  doc = record { settings = settings beats; controllers = controllers; kubelets = others; waits = own_waits_each controllers; objects = items; events = map event xs }

  none-changes : (p k : ℕ) (ys : List Crash) → last_rate p k (map event ys) ≡ None
  none-changes p k [] = refl
  none-changes p k (y ∷ ys) =
      rw (none-changes p k ys) (elim (cases_Bool (nat_le y.beat k)) [ inl before ↦ rw before refl | inr behind ↦ rw behind refl ])

  rate-stands : (p k : ℕ) → rate doc p k ≡ first_rate doc p
  rate-stands p k = ap (or_else (first_rate doc p)) (none-changes p k xs)

  less-itself : (n : ℕ) → less n n ≡ n
  less-itself n = elim (cases_Bool (nat_lt n n)) [ inl below ↦ rw below refl | inr not_below ↦ rw not_below refl ]

  more-itself : (n : ℕ) → more n n ≡ n
  more-itself n = elim (cases_Bool (nat_lt n n)) [ inl below ↦ rw below refl | inr not_below ↦ rw not_below refl ]

  least-is : (p k : ℕ) → least_rate doc p k ≡ first_rate doc p
  least-is p zero = rate-stands p 0
  least-is p (suc k) = ap₂ less (least-is p k) (rate-stands p (suc k)) ∙ less-itself (first_rate doc p)

  greatest-is : (p k : ℕ) → greatest_rate doc p k ≡ first_rate doc p
  greatest-is p zero = rate-stands p 0
  greatest-is p (suc k) = ap₂ more (greatest-is p k) (rate-stands p (suc k)) ∙ more-itself (first_rate doc p)

  none-stands : (p : ℕ) → longest doc p ≡ 0
  none-stands p = no_longest doc p (crashes-pause_nobody xs)

  premise-holds : lease_premise doc ≡ true
  unfolding of_seconds of_millis
  premise-holds =
      rw (
        greatest-is 0 (end_beat doc),
        greatest-is 1 (end_beat doc),
        greatest-is 2 (end_beat doc),
        least-is 0 (end_beat doc),
        least-is 1 (end_beat doc),
        least-is 2 (end_beat doc),
        none-stands 0,
        none-stands 1,
        none-stands 2,
      ) refl

pub generated-premise : (seed nodes pods beats : ℕ) → lease_premise (generated seed nodes pods beats) ≡ true
unfolding generated
generated-premise seed nodes pods beats =
    let drawn = crashes beats nodes (start seed) in
    premise-holds beats (kubelets nodes) (node_items nodes ++ (pod_items nodes pods drawn.rest).value)
    (by_beat (beats + 1) (drawn.value ++ middle beats ∷ []))
