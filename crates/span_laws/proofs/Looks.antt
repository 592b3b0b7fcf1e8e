-- When a look finds a time over.
use Rattle.std.proofs.Common.{◌⊎◌, ◌≤◌, ◌<◌, ℕ, zero, suc, ◌+◌, ◌-◌, ◌*◌, ⊎_elim, arith}
use Rattle.std.proofs.Math.Nat.{mul-le-mul_right}
use Rattle.std.proofs.lemmas.Bool.{cases_lt}
use Rattle.kube_objects.specs.Clocks.{local}
use Rattle.kube_objects.specs.Document.{Doc}
use Rattle.span_laws.specs.Spans.{RunsAtLeast, RunsAtMost, IsEnough, IsNeeded}
use Rattle.span_laws.specs.Looks.{AreLooks, IsAtMost, IsAtLeast, LooksFind}
use Rattle.span_laws.proofs.Spans.{readings_grow, readings_last}

-- the look number i after the one at beat o is at beat r
pub record IsLook (near far o i r : ℕ) : Type 0 where
  pub least : o + i * near ≤ r
  pub most : r ≤ o + i * far

pub first_look : (near far o : ℕ) → IsLook near far o 0 o
first_look near far o = record { least = omega arith; most = omega arith }

pub next_look : (near far o i r next : ℕ) → IsLook near far o i r → r + near ≤ next → next ≤ r + far → IsLook near far o (suc i) next
next_look near far o i r next look least most = record { least = omega (arith, look.least, least); most = omega (arith, look.most, most) }

-- more steps are as many beats at least
fewer : (i c near : ℕ) → i * near < c * near → i < c
fewer i c near lt = ⊎_elim (λ less. less) (λ le. absurd (omega (arith, lt, mul-le-mul_right near le))) (cases_lt i c)

-- the look after one that doesn't find it over
pub next_most : (near far enough o i r next : ℕ) → IsLook near far o i r → r < o + enough → r ≤ next → next ≤ r + far → IsAtMost near far enough (next - o)
next_most near far enough o i r next look before later most = (by_steps, omega (arith, before, most, look.least))
  where
    by_steps : (steps : ℕ) → enough ≤ steps * near → next - o ≤ steps * far
    by_steps steps reaches =
        let lt : i < steps = fewer i steps near (omega (arith, look.least, before, reaches)) in
        let le : suc i * far ≤ steps * far = mul-le-mul_right far lt in
        omega (arith, look.most, most, le)

-- the look that is the first of all
pub first_most : (near far enough o : ℕ) → IsAtMost near far enough (o - o)
first_most near far enough o = (λ steps reaches. omega arith, omega arith)

-- a look so many beats after the first
pub look_least : (near far needed o i r : ℕ) → IsLook near far o i r → o + needed ≤ r → IsAtLeast near far needed (r - o)
look_least near far needed o i r look after = (omega (arith, after), by_steps)
  where
    by_steps : (steps : ℕ) → IsNeeded far needed steps → steps * near ≤ r - o
    by_steps steps need =
        let le : steps * near ≤ i * near = mul-le-mul_right near (need i (omega (arith, look.most, after))) in
        omega (arith, look.least, le)

-- a time that isn't over began fewer beats ago than are enough for it
pub not_over : (doc : Doc) (p a e slow time enough : ℕ) → RunsAtLeast doc p a e slow → IsEnough slow time enough → (o r : ℕ) → a ≤ o → r ≤ e → local doc p r < local doc p o + time → r < o + enough
not_over doc p a e slow time enough runs is o r from to before =
    ⊎_elim (λ lt. lt) (λ le. absurd (omega (arith, before, readings_grow doc p a e slow time enough runs is o r from le to))) (cases_lt r (o + enough))

-- ---- looks that go on until one finds it over

-- a look at beat r, within the bound
record Looked (near far enough o i r : ℕ) : Type 0 where
  look : IsLook near far o i r
  bound : IsAtMost near far enough (r - o)

-- each look within the bound brings the goal about, or doesn't find it over and has a next one: so the goal comes about
module _ (doc : Doc) (p a e slow time enough near far o : ℕ) (runs : RunsAtLeast doc p a e slow) (is : IsEnough slow time enough) (from : a ≤ o) (steps : 1 ≤ near)
    (within : (r : ℕ) → o ≤ r → IsAtMost near far enough (r - o) → r ≤ e) (Look : ℕ → Type 0) (Goal : Type 0)
    (step : (r : ℕ) → o ≤ r → IsAtMost near far enough (r - o) → Look r → Goal ⊎ ((local doc p r < local doc p o + time) × (next : ℕ) × (r + near ≤ next) × (next ≤ r + far) × Look next)) where
  go_on : (n i r : ℕ) → Looked near far enough o i r → Look r → o + enough + far < r + n → Goal
  go_on zero i r s here lt = absurd (omega (arith, s.bound.1, lt, s.look.least))
  go_on (suc n) i r s here lt = ⊎_elim (λ done. done) (more (λ next looked there far_on. go_on n (suc i) next looked there far_on)) (step r (omega (arith, s.look.least)) s.bound here)
    where
      more : ((next : ℕ) → Looked near far enough o (suc i) next → Look next → o + enough + far < next + n → Goal)
          → (local doc p r < local doc p o + time) × (next : ℕ) × (r + near ≤ next) × (next ≤ r + far) × Look next → Goal
      more on (before, next, later, most, there) =
          let time_left : r < o + enough = not_over doc p a e slow time enough runs is o r from (within r (omega (arith, s.look.least)) s.bound) before in
          on next (record {
            look = next_look near far o i r next s.look later most;
            bound = next_most near far enough o i r next s.look time_left (omega (arith, later)) most;
          }) there (omega (arith, lt, later, steps))

  pub look_comes : Look o → Goal
  look_comes here = go_on (enough + far + 1) 0 o (record { look = first_look near far o; bound = first_most near far enough o }) here (omega arith)

-- ---- a row of looks

look_at : (near far n : ℕ) (look : ℕ → ℕ) → AreLooks near far look n → (i : ℕ) → i ≤ n → IsLook near far (look 0) i (look i)
look_at near far n look steps zero le = first_look near far (look 0)
look_at near far n look steps (suc i) le =
    let step = steps i (omega (arith, le)) in
    next_look near far (look 0) i (look i) (look (suc i)) (look_at near far n look steps i (omega (arith, le))) step.0 step.1

pub looks_find : LooksFind
looks_find doc p a e near far time n look steps from to found = (λ slow enough runs is. most slow enough runs is n steps to found.before, least)
  where
    later : (i : ℕ) → look 0 ≤ look 0 + i * near
    later i = omega arith

    most : (slow enough : ℕ) → RunsAtLeast doc p a e slow → IsEnough slow time enough → (n : ℕ) → AreLooks near far look n → look n ≤ e → ((i : ℕ) → i < n → local doc p (look i) < local doc p (look 0) + time)
        → IsAtMost near far enough (look n - look 0)
    most slow enough runs is zero steps to before = first_most near far enough (look 0)
    most slow enough runs is (suc n) steps to before =
        let step = steps n (omega arith) in
        next_most near far enough (look 0) n (look n) (look (suc n)) (look_at near far (suc n) look steps n (omega arith))
        (not_over doc p a e slow time enough runs is (look 0) (look n) from (omega (arith, to, step.0)) (before n (omega arith)))
        (omega (arith, step.0)) step.1

    least : (fast needed : ℕ) → RunsAtMost doc p a e fast → IsNeeded fast time needed → IsAtLeast near far needed (look n - look 0)
    least fast needed runs is =
        let last = look_at near far n look steps n (omega arith) in
        look_least near far needed (look 0) n (look n) last
        (readings_last doc p a e fast time needed runs is (look 0) (look n) from (omega (arith, last.least)) to found.over)
