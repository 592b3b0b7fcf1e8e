-- Whose an entry is.
use Rattle.std.proofs.Common.{◌≡◌, ◌<◌, ◌≤◌, ℕ, nat_lt, ◌==◌, ◌&&◌, Bool, true, false, Some, None, refl, ap, ◌∙◌, arith}
use Rattle.std.proofs.lemmas.Bool.Decides.{nat_tests}
use Rattle.kube_objects.specs.Entry.{Identity, actor_of}
use Rattle.kube_objects.specs.Identities.{identity, is_same, of_process}
use Rattle.kube_objects.specs.Newest.{when}

pub eq-self : (n : ℕ) → (n == n) ≡ true
eq-self n = grind (arith, nat_tests)

pub eq-is : (m n : ℕ) → (m == n) ≡ true → m ≡ n
eq-is m n is = grind (arith, nat_tests)

pub eq-isnt : (m n : ℕ) → ¬ (m ≡ n) → (m == n) ≡ false
eq-isnt m n other = by_test (m == n) refl
  where
    by_test : (b : Bool) → (m == n) ≡ b → b ≡ false
    by_test true is = absurd (other (eq-is m n is))
    by_test false is = refl

pub lt-from : (a b : ℕ) → nat_lt a b ≡ true → a < b
lt-from a b is = grind (arith, nat_tests)

pub le-from : (a b : ℕ) → nat_lt a b ≡ false → b ≤ a
le-from a b is = grind (arith, nat_tests)

pub and-left : (a b : Bool) → (a && b) ≡ true → a ≡ true
and-left true b is = refl
and-left false b is = is

pub and-right : (a b : Bool) → (a && b) ≡ true → b ≡ true
and-right true b is = is
and-right false b is = cc

pub is_same-self : (q : Identity) → is_same q q ≡ true
is_same-self q = ap (λ b. b && (q.incarnation == q.incarnation)) (eq-self q.process) ∙ eq-self q.incarnation

pub is_same-process : (a b : Identity) → is_same a b ≡ true → a.process ≡ b.process
is_same-process a b is = eq-is a.process b.process (and-left (a.process == b.process) (a.incarnation == b.incarnation) is)

pub is_same-incarnation : (a b : Identity) → is_same a b ≡ true → a.incarnation ≡ b.incarnation
is_same-incarnation a b is = eq-is a.incarnation b.incarnation (and-right (a.process == b.process) (a.incarnation == b.incarnation) is)

-- identities of different processes are different
pub is_same-apart : (a b : Identity) → ¬ (a.process ≡ b.process) → is_same a b ≡ false
is_same-apart a b other = ap (λ t. t && (a.incarnation == b.incarnation)) (eq-isnt a.process b.process other)

pub of_process-own : (q : Identity) → of_process q.process (actor_of q) ≡ Some q.incarnation
of_process-own q = ap (λ b. when b q.incarnation) (eq-self q.process)

pub of_process-other : (q : Identity) (p : ℕ) → ¬ (q.process ≡ p) → of_process p (actor_of q) ≡ None
of_process-other q p other = ap (λ b. when b q.incarnation) (eq-isnt q.process p other)

-- and so are those of different incarnations
pub is_same-other : (p i j : ℕ) → ¬ (i ≡ j) → is_same (identity p i) (identity p j) ≡ false
is_same-other p i j other = ap (λ b. (p == p) && b) (eq-isnt i j other) ∙ and-false (p == p)
  where
    and-false : (b : Bool) → (b && false) ≡ false
    and-false true = refl
    and-false false = refl
