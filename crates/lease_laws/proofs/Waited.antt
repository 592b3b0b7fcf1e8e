-- How long one waits for another's lease.
use Rattle.std.proofs.Common.{◌≡◌, ◌<◌, ◌≤◌, ℕ, zero, suc, ◌-◌, nat_lt, Bool, true, false, cond, length, Some, refl, ap, ⊎_elim, arith}
use Rattle.std.proofs.lemmas.Bool.{ltb-true, ltb-false, cases_eq}
use Rattle.kube_objects.specs.declared.lease.Lease.{Lease}
use Rattle.kube_objects.specs.declared.rules.RespectRule.{RespectRule}
use Rattle.kube_objects.specs.declared.rules.RespectRule.TheVariants.{Record, Own}
use Rattle.kube_objects.specs.Document.{Doc, of_seconds, is_controller, lease_seconds, lease_duration}
use Rattle.kube_objects.specs.Elector.{respected}
use Rattle.kube_objects.specs.Newest.{or_zero}
use Rattle.history.specs.Premise.{less, least_lease, waited_by}

pub less_both : (a b : ℕ) → (less a b ≤ a) × (less a b ≤ b)
less_both a b = by_test (nat_lt a b) refl
  where
    by_test : (t : Bool) → nat_lt a b ≡ t → (cond t a b ≤ a) × (cond t a b ≤ b)
    by_test true is = let lt : a < b = ltb-true a b is in (omega arith, omega (arith, lt))
    by_test false is = let le : b ≤ a = ltb-false a b is in (omega (arith, le), omega arith)

least_lease_at : (doc : Doc) (n p : ℕ) → p ≤ n → least_lease doc n ≤ lease_duration doc p
least_lease_at doc zero p le = let first : p ≡ 0 = omega (arith, le) in omega (arith, ap (lease_duration doc) first)
least_lease_at doc (suc n) p le = ⊎_elim last (below (λ h. least_lease_at doc n p h)) (cases_eq p (suc n))
  where
    last : p ≡ suc n → least_lease doc (suc n) ≤ lease_duration doc p
    last is = omega (arith, ap (lease_duration doc) is, (less_both (least_lease doc n) (lease_duration doc (suc n))).1)

    below : (p ≤ n → least_lease doc n ≤ lease_duration doc p) → (p ≡ suc n → ⊥) → least_lease doc (suc n) ≤ lease_duration doc p
    below rest other = omega (arith, (less_both (least_lease doc n) (lease_duration doc (suc n))).0, rest (omega (arith, other, le)))

-- q waits for a record of p's at least as long as is reckoned with
pub waits_for : (doc : Doc) (rule : RespectRule) (p q : ℕ) (lease : Lease) → is_controller doc q ≡ true → lease.duration ≡ Some (lease_seconds doc p)
    → waited_by rule doc p ≤ of_seconds (or_zero (respected rule (lease_seconds doc q) lease).duration)
waits_for doc Record p q lease role fit = omega (arith, ap (λ o. of_seconds (or_zero o)) fit)
waits_for doc Own p q lease role fit = least_lease_at doc (length doc.controllers - 1) q (let lt : q < length doc.controllers = ltb-true q (length doc.controllers) role in omega (arith, lt))

-- whose record it is stays
pub respected_holder : (rule : RespectRule) (seconds : ℕ) (lease : Lease) → (respected rule seconds lease).holder ≡ lease.holder
respected_holder Record seconds lease = refl
respected_holder Own seconds lease = refl
