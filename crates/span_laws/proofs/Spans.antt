-- How far a clock goes in a span.
use Rattle.std.proofs.Common.{◌≡◌, ◌≤◌, ℕ, zero, suc, ◌+◌, ◌-◌, ◌*◌, ap, subst, arith}
use Rattle.std.proofs.Math.Nat.{mul-le-mul_right}
use Rattle.kube_objects.specs.Clocks.{local}
use Rattle.kube_objects.specs.Document.{Doc}
use Rattle.kube_objects.proofs.Clocks.{local_next}
use Rattle.span_laws.specs.Spans.{RunsAtLeast, RunsAtMost, ReadingsGrow, ReadingsLast}

goes : (doc : Doc) (p a e slow : ℕ) → RunsAtLeast doc p a e slow → (o n : ℕ) → a ≤ o → o + n ≤ e → local doc p o + n * slow ≤ local doc p (o + n)
goes doc p a e slow runs o zero from within = let same : o + 0 ≡ o = omega arith in omega (arith, ap (local doc p) same)
goes doc p a e slow runs o (suc n) from within =
    omega (arith, local_next doc p o n, goes doc p a e slow runs o n from (omega (arith, within)), runs (o + n) (omega (arith, from)) (omega (arith, within)))

-- from beat j to beat k of the span
pub goes_least : (doc : Doc) (p a e slow : ℕ) → RunsAtLeast doc p a e slow → (j k : ℕ) → a ≤ j → j ≤ k → k ≤ e → local doc p j + (k - j) * slow ≤ local doc p k
goes_least doc p a e slow runs j k from le to =
    let same : j + (k - j) ≡ k = omega (arith, le) in
    subst (λ n. local doc p j + (k - j) * slow ≤ local doc p n) same (goes doc p a e slow runs j (k - j) from (omega (arith, le, to)))

stays : (doc : Doc) (p a e fast : ℕ) → RunsAtMost doc p a e fast → (o n : ℕ) → a ≤ o → o + n ≤ e → local doc p (o + n) ≤ local doc p o + n * fast
stays doc p a e fast runs o zero from within = let same : o + 0 ≡ o = omega arith in omega (arith, ap (local doc p) same)
stays doc p a e fast runs o (suc n) from within =
    omega (arith, local_next doc p o n, stays doc p a e fast runs o n from (omega (arith, within)), runs (o + n) (omega (arith, from)) (omega (arith, within)))

pub goes_most : (doc : Doc) (p a e fast : ℕ) → RunsAtMost doc p a e fast → (j k : ℕ) → a ≤ j → j ≤ k → k ≤ e → local doc p k ≤ local doc p j + (k - j) * fast
goes_most doc p a e fast runs j k from le to =
    let same : j + (k - j) ≡ k = omega (arith, le) in
    subst (λ n. local doc p n ≤ local doc p j + (k - j) * fast) same (stays doc p a e fast runs j (k - j) from (omega (arith, le, to)))

pub readings_grow : ReadingsGrow
readings_grow doc p a e slow time beats runs enough j k from le to =
    let far : beats * slow ≤ (k - j) * slow = mul-le-mul_right slow (omega (arith, le)) in
    omega (arith, enough, far, goes_least doc p a e slow runs j k from (omega (arith, le)) to)

pub readings_last : ReadingsLast
readings_last doc p a e fast time beats runs needed j k from le to over =
    omega (arith, le, needed (k - j) (omega (arith, over, goes_most doc p a e fast runs j k from le to)))
