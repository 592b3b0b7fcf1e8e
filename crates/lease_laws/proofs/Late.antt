-- A release reaches the store, and acts, before others take its lease for over.
use Rattle.std.proofs.Common.{◌≡◌, ◌<◌, ◌≤◌, ℕ, suc, ◌+◌, ◌-◌, ◌*◌, nat_lt, Bool, true, false, cond, refl, ap, ◌∙◌, subst, arith}
use Rattle.std.proofs.Math.Nat.{mul-le-mul_right}
use Rattle.kube_objects.specs.declared.rules.ReleaseActing.{ReleaseActing}
use Rattle.kube_objects.specs.declared.rules.ReleaseActing.TheVariants.{Still, Acts}
use Rattle.kube_objects.specs.declared.rules.ReleaseRule.TheVariants.{Reread}
use Rattle.kube_objects.specs.Clocks.{local, rate}
use Rattle.kube_objects.specs.Document.{Doc, end_beat, beat_micros, is_controller, call_timeout, retry_period, renew_deadline}
use Rattle.kube_objects.specs.Entry.{Identity}
use Rattle.kube_objects.specs.Pauses.{is_paused}
use Rattle.history.specs.Premise.{less, longest, second_below, late_calls, calls_late, stall_by, span_by, waited_by}
use Rattle.history.specs.Sound.{AreApart}
use Rattle.lease_laws.proofs.Invariant.{Wide, Within, Turned}
use Rattle.lease_laws.proofs.Pauses.{ran, ended_time}

-- each controller's lease is long enough for its releases
pub record Late (doc : Doc) (high : ℕ) : Type 0 where
  pub low : ℕ → ℕ
  pub least : (p k : ℕ) → k ≤ end_beat doc → low p ≤ rate doc p k
  pub lease : (p : ℕ) → is_controller doc p ≡ true
      → stall_by (calls_late doc) doc p * (beat_micros doc * high) * low p + span_by (calls_late doc) doc p * high < waited_by doc.settings.rules.respect doc p * low p

-- it has to be where a release takes the version that it finds for its own
abbrev pub Bears : Doc → ℕ → Type 0
Bears doc high = doc.settings.rules.release ≡ Reread → Late doc high

-- x beats fast enough for another, and within x of the own clock
pub crossed : (n m bm low high lease all most : ℕ) → n ≤ m → lease ≤ n * (bm * high) → m * (bm * low) ≤ all + most * (bm * low) → most * (bm * high) * low + all * high < lease * low → ⊥
crossed n m bm low high lease all most le wide within premise =
    let a : n * (bm * high) ≤ m * (bm * high) = mul-le-mul_right (bm * high) le in
    let b : lease * low ≤ m * (bm * high) * low = mul-le-mul_right low (omega (arith, a, wide)) in
    let c : m * (bm * low) * high ≤ (all + most * (bm * low)) * high = mul-le-mul_right high within in
    absurd (omega (arith, b, c, premise))

both_less : (x a b : ℕ) → x ≤ a → x ≤ b → x ≤ less a b
both_less x a b one two = by_test (nat_lt a b)
  where
    by_test : (t : Bool) → x ≤ cond t a b
    by_test true = one
    by_test false = two

-- the beats up to the begin of a release, and since
both_spans : (a b speed sum most rest : ℕ) → a * speed ≤ sum + most * speed → b * speed ≤ rest → (a + b) * speed ≤ sum + rest + most * speed
both_spans a b speed sum most rest one two = omega (arith, one, two)

as_counted : (doc : Doc) (p high low n : ℕ) → calls_late doc ≡ suc n
    → stall_by (calls_late doc) doc p * (beat_micros doc * high) * low + span_by (calls_late doc) doc p * high < waited_by doc.settings.rules.respect doc p * low
    → (longest doc p + second_below p doc.events) * (beat_micros doc * high) * low + (call_timeout doc p + retry_period doc p + renew_deadline doc p + less (suc n * call_timeout doc p) (renew_deadline doc p)) * high < waited_by doc.settings.rules.respect doc p * low
as_counted doc p high low n is long = subst (λ m. stall_by m doc p * (beat_micros doc * high) * low + span_by m doc p * high < waited_by doc.settings.rules.respect doc p * low) is long

-- a release that began at beat e, after a success that was sent at beat s, and so many calls of it: not yet is the lease over
pub late_over : (doc : Doc) (high : ℕ) → Late doc high → AreApart doc.events → (q : Identity) → is_controller doc q.process ≡ true → (n : ℕ) → calls_late doc ≡ suc n → (s e d k x : ℕ) → k ≤ end_beat doc → e ≤ k → x ≤ k
    → Within doc q.process s d → is_paused doc q.process s ≡ false → Turned doc q.process e d
    → local doc q.process k ≤ local doc q.process e + suc n * call_timeout doc q.process → local doc q.process k ≤ local doc q.process e + renew_deadline doc q.process
    → Wide doc high q (x - (s + 1)) → ⊥
late_over doc high late apart q role n is s e d k x end since upto within awake turns by_calls by_time wide =
    let p = q.process in
    let low = late.low p in
    let speed = beat_micros doc * low in
    let sum = call_timeout doc p + retry_period doc p + renew_deadline doc p in
    let rest = less (suc n * call_timeout doc p) (renew_deadline doc p) in
    let before : (e - 1 - s) * speed ≤ sum + (longest doc p + second_below p doc.events) * speed = ended_time doc low p (late.least p) s e d (omega (arith, since, end)) apart within awake turns in
    let one : (k - e) * speed ≤ suc n * call_timeout doc p = ran doc low p (late.least p) e k (suc n * call_timeout doc p) end (λ le. by_calls) in
    let two : (k - e) * speed ≤ renew_deadline doc p = ran doc low p (late.least p) e k (renew_deadline doc p) end (λ le. by_time) in
    let after : (k - e) * speed ≤ rest = both_less ((k - e) * speed) (suc n * call_timeout doc p) (renew_deadline doc p) one two in
    crossed (x - (s + 1)) ((e - 1 - s) + (k - e)) (beat_micros doc) low high (waited_by doc.settings.rules.respect doc p) (sum + rest) (longest doc p + second_below p doc.events)
    (omega (arith, since, upto)) wide (both_spans (e - 1 - s) (k - e) speed sum (longest doc p + second_below p doc.events) rest before after) (as_counted doc p high low n is (late.lease p role))

-- a look that isn't compared counts for one call at least
counts_calls : (acting : ReleaseActing) → (n : ℕ) × (late_calls Reread acting ≡ suc n)
counts_calls Still = (0, refl)
counts_calls Acts = (1, refl)

pub reread_calls : (doc : Doc) → doc.settings.rules.release ≡ Reread → (n : ℕ) × (calls_late doc ≡ suc n)
reread_calls doc is = let c = counts_calls doc.settings.rules.in_release in (c.0, ap (λ r. late_calls r doc.settings.rules.in_release) is ∙ c.1)

pub one_call : (n timeout : ℕ) → timeout ≤ suc n * timeout
one_call n timeout = let le : 1 ≤ suc n = omega arith in omega (arith, mul-le-mul_right timeout le)
