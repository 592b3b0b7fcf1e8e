-- A clock never goes back.
use Rattle.std.proofs.Common.{◌≡◌, ◌≤◌, ℕ, zero, suc, ◌+◌, ◌-◌, ◌*◌, ap, subst, arith}
use Rattle.kube_objects.specs.Clocks.{local, rate}
use Rattle.kube_objects.specs.Document.{Doc, beat_micros}

pub local_next : (doc : Doc) (p o n : ℕ) → local doc p (o + suc n) ≡ local doc p (o + n) + beat_micros doc * rate doc p (o + n)
local_next doc p o n = let e : o + suc n ≡ suc (o + n) = omega arith in ap (local doc p) e

local_rises : (doc : Doc) (p o n : ℕ) → local doc p o ≤ local doc p (o + n)
local_rises doc p o zero = let e : o + 0 ≡ o = omega arith in omega (arith, ap (local doc p) e)
local_rises doc p o (suc n) = omega (arith, local_next doc p o n, local_rises doc p o n)

pub local_up : (doc : Doc) (p o k : ℕ) → o ≤ k → local doc p o ≤ local doc p k
local_up doc p o k le = let e : o + (k - o) ≡ k = omega (arith, le) in subst (λ n. local doc p o ≤ local doc p n) e (local_rises doc p o (k - o))
