-- The bounds over all that may follow a leader are over each of them.
use Rattle.std.proofs.Common.{◌≡◌, ◌≤◌, ℕ, zero, suc, ◌+◌, ◌==◌, Bool, true, false, List, [], ◌∷◌, length, slice_get, min, Option, Some, None, refl, ap, ◌∙◌, subst, arith}
use Rattle.std.proofs.lemmas.Bool.{eqb-true}
use Rattle.kube_objects.specs.declared.script.Proc.{Proc}
use Rattle.history_laws.proofs.Plainly.{some_is, none_is}
use Rattle.lens_bounds.specs.declared.calm.Calm.{Calm}
use Rattle.lens_bounds.specs.declared.elections.Handover.{Handover}
use Rattle.lens_bounds.specs.Elections.{handed_over, either, with_other, others_from, own_term, longest_term, longest_lease, as_respected, shortest_from, shortest_lease}

-- the bounds of one are within those of all
pub record IsWithin (a h : Handover) : Type 0 where
  pub crash_least : h.crash_least ≤ a.crash_least
  pub crash_most : a.crash_most ≤ h.crash_most
  pub stop_most : a.stop_most ≤ h.stop_most
  pub leads : a.leads ≤ h.leads
  pub stays_from : a.stays_from ≤ h.stays_from

same : (a : Handover) → IsWithin a a
same a = record { crash_least = omega arith; crash_most = omega arith; stop_most = omega arith; leads = omega arith; stays_from = omega arith }

within_trans : (a b c : Handover) → IsWithin a b → IsWithin b c → IsWithin a c
within_trans a b c x y = record {
  crash_least = omega (arith, x.crash_least, y.crash_least);
  crash_most = omega (arith, x.crash_most, y.crash_most);
  stop_most = omega (arith, x.stop_most, y.stop_most);
  leads = omega (arith, x.leads, y.leads);
  stays_from = omega (arith, x.stays_from, y.stays_from);
}

left : (a b : Handover) → IsWithin a (either a b)
left a b = record { crash_least = omega arith; crash_most = omega arith; stop_most = omega arith; leads = omega arith; stays_from = omega arith }

right : (a b : Handover) → IsWithin b (either a b)
right a b = record { crash_least = omega arith; crash_most = omega arith; stop_most = omega arith; leads = omega arith; stays_from = omega arith }

module _ (c : Calm) (term seconds place : ℕ) (leader : Proc) where
  abbrev pub handed : Proc → Handover
  handed p = handed_over c term seconds (as_respected c.respect p.lease_seconds leader) p

  -- one more keeps those that were found, and is found where it isn't the leader
  kept : (t : Bool) (found : Option Handover) (b a : Handover) → found ≡ Some a → (x : Handover) × (with_other t found b ≡ Some x) × IsWithin a x
  kept true found b a is = (a, is, same a)
  kept false None b a is = absurd (none_is a is)
  kept false (Some x) b a is = (either x b, refl, subst (λ a. IsWithin a (either x b)) (some_is x a is) (left x b))

  added : (found : Option Handover) (b : Handover) → (x : Handover) × (with_other false found b ≡ Some x) × IsWithin b x
  added None b = (b, refl, same b)
  added (Some a) b = (either a b, refl, right a b)

  -- of those found before
  found_within : (at : ℕ) (ps : List Proc) (found : Option Handover) (a : Handover) → found ≡ Some a → (h : Handover) × (others_from c term seconds place leader at ps found ≡ Some h) × IsWithin a h
  found_within at [] found a before = (a, before, same a)
  found_within at (p ∷ ps) found a before =
      let k = kept (at == place) found (handed p) a before in
      let f = found_within (at + 1) ps (with_other (at == place) found (handed p)) k.0 k.1 in
      (f.0, f.1, within_trans a k.0 f.0 k.2 f.2)

  -- and of each other
  pub other_within : (at : ℕ) (ps : List Proc) (found : Option Handover) (i : ℕ) (p : Proc) → slice_get ps i ≡ Some p → (at + i ≡ place → ⊥)
      → (h : Handover) × (others_from c term seconds place leader at ps found ≡ Some h) × IsWithin (handed p) h
  other_within at [] found i p stands other = absurd (none_is p stands)
  other_within at (x ∷ ps) found (suc i) p stands other = other_within (at + 1) ps (with_other (at == place) found (handed x)) i p stands (λ e. other (omega (arith, e)))
  other_within at (x ∷ ps) found zero p stands other =
      subst (λ p. (h : Handover) × (others_from c term seconds place leader at (x ∷ ps) found ≡ Some h) × IsWithin (handed p) h) (some_is x p stands) (by_test (at == place) refl)
    where
      by_test : (t : Bool) → (at == place) ≡ t → (h : Handover) × (others_from c term seconds place leader at (x ∷ ps) found ≡ Some h) × IsWithin (handed x) h
      by_test true e = let e2 : at ≡ place = eqb-true at place e in absurd (other (omega (arith, e2)))
      by_test false e =
          let k = added found (handed x) in
          let f = found_within (at + 1) ps (with_other (at == place) found (handed x)) k.0 (ap (λ t. with_other t found (handed x)) e ∙ k.1) in
          (f.0, f.1, within_trans (handed x) k.0 f.0 k.2 f.2)

-- the only one has no other
pub alone : (c : Calm) (term seconds : ℕ) (leader : Proc) (ps : List Proc) → length ps ≡ 1 → others_from c term seconds 0 leader 0 ps None ≡ None
alone c term seconds leader [] one = absurd (omega (arith, one))
alone c term seconds leader (x ∷ []) one = refl
alone c term seconds leader (x ∷ y ∷ ps) one = absurd (omega (arith, one))

-- the longest are no shorter than each
pub term_within : (ps : List Proc) (i : ℕ) (p : Proc) → slice_get ps i ≡ Some p → own_term p ≤ longest_term ps
term_within [] i p is = absurd (none_is p is)
term_within (x ∷ ps) zero p is = subst (λ p. own_term p ≤ longest_term (x ∷ ps)) (some_is x p is) (omega arith)
term_within (x ∷ ps) (suc i) p is = let below = term_within ps i p is in omega (arith, below)

pub lease_within : (ps : List Proc) (i : ℕ) (p : Proc) → slice_get ps i ≡ Some p → p.lease_seconds ≤ longest_lease ps
lease_within [] i p is = absurd (none_is p is)
lease_within (x ∷ ps) zero p is = subst (λ (p : Proc). p.lease_seconds ≤ longest_lease (x ∷ ps)) (some_is x p is) (omega arith)
lease_within (x ∷ ps) (suc i) p is = let below = lease_within ps i p is in omega (arith, below)

-- and the shortest is no longer
shortest_falls : (least : ℕ) (ps : List Proc) → shortest_from least ps ≤ least
shortest_falls least [] = omega arith
shortest_falls least (p ∷ ps) = omega (arith, shortest_falls (min p.lease_seconds least) ps)

shortest_of : (least : ℕ) (ps : List Proc) (i : ℕ) (p : Proc) → slice_get ps i ≡ Some p → shortest_from least ps ≤ p.lease_seconds
shortest_of least [] i p is = absurd (none_is p is)
shortest_of least (x ∷ ps) zero p is =
    subst (λ (p : Proc). shortest_from least (x ∷ ps) ≤ p.lease_seconds) (some_is x p is) (omega (arith, shortest_falls (min x.lease_seconds least) ps))
shortest_of least (x ∷ ps) (suc i) p is = shortest_of (min x.lease_seconds least) ps i p is

pub shortest_within : (ps : List Proc) (i : ℕ) (p : Proc) → slice_get ps i ≡ Some p → shortest_lease ps ≤ p.lease_seconds
shortest_within ps i p is = shortest_of 4294967295 ps i p is
