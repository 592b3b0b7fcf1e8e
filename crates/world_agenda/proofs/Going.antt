-- A process goes on where neither it nor the store stands still, and a turn past the end is none.
use Rattle.std.proofs.Common.{◌≡◌, ◌<◌, ◌≤◌, ℕ, ◌+◌, ◌==◌, ◌&&◌, ◌||◌, nat_le, not, max, min, Bool, true, false, ◌⊎◌, Option, Some, None, refl, sym, ap, ◌∙◌, subst, inl, inr, arith}
use Rattle.std.proofs.lemmas.Bool.{cases_lt, ltb-false}
use Rattle.std.proofs.lemmas.Bool.Decides.{nat_tests}
use Rattle.kube_objects.specs.Document.{Doc, end_beat}
use Rattle.kube_objects.specs.Newest.{when, has, or_else}
use Rattle.kube_objects.specs.Pauses.{pause_end, is_paused, resume}
use Rattle.kube_objects.specs.Stalls.{stall_of, stall_end, is_stalled, awake}
use Rattle.kube_objects.proofs.Pauses.{last_later, pause_later, resume_later}
use Rattle.kube_objects.proofs.Stalls.{awake_later}
use Rattle.history_laws.proofs.Plainly.{some_is, true_is}
use Rattle.agenda_laws.specs.Times.{is_early, sooner}
use Rattle.world_core.specs.declared.wakes.Wakes.{Wakes}
use Rattle.world_agenda.specs.Woken.{IsStalledFrom, goes_now, is_going, resumed}
use Rattle.world_agenda.proofs.Resuming.{paused_until, stalled_until}

-- ---- at once

held-here : (doc : Doc) (p at r : ℕ) (a b : Option ℕ) → at ≤ end_beat doc → pause_end doc p at ≡ a → stall_end doc at ≡ b → r ≡ min (max (or_else at a) (or_else at b)) (end_beat doc + 1)
    → (r == at) ≡ (not (has a) && not (has b))
held-here doc p at r None None start paused stalled ends = let same : r ≡ at = omega (arith, ends, start) in let equal : (r == at) ≡ true = grind (arith, nat_tests) in equal
held-here doc p at r (Some m) b start paused stalled ends =
    let later : at < r = omega (arith, ends, start, pause_later p at doc.events m paused) in
    let other : (r == at) ≡ false = grind (arith, nat_tests) in
    other
held-here doc p at r None (Some m) start paused stalled ends =
    let later : at < r = omega (arith, ends, start, last_later stall_of at doc.events m stalled) in
    let other : (r == at) ≡ false = grind (arith, nat_tests) in
    other

going-here : (doc : Doc) (p at r : ℕ) → at ≤ end_beat doc → r ≡ min (max (resume doc p at) (awake doc at)) (end_beat doc + 1) → (r == at) ≡ is_going doc at p
going-here doc p at r start ends = held-here doc p at r (pause_end doc p at) (stall_end doc at) start refl refl ends

-- after beat 0 a process does what is there at once where neither it nor the store stands still
pub goes-here : (doc : Doc) (p at r : ℕ) (w : Wakes) → at ≤ end_beat doc → w.at_once ≡ true → (at == 0) ≡ false → r ≡ min (max (resume doc p at) (awake doc at)) (end_beat doc + 1) → (r == at) ≡ goes_now doc at p w
goes-here doc p at r w start now later ends =
    going-here doc p at r start ends
    ∙ sym (ap (λ b. b && ((at == 0) || is_going doc at p)) now ∙ ap (λ b. b || is_going doc at p) later)

-- ---- the first beat at which both go

pub going-found : (doc : Doc) (p at r : ℕ) → at ≤ end_beat doc → r ≡ min (max (resume doc p at) (awake doc at)) (end_beat doc + 1) → r ≤ at → is_going doc at p ≡ true
going-found doc p at r start ends most =
    let same : r ≡ at = omega (arith, ends, start, most, resume_later doc p at, awake_later doc at) in
    let equal : (r == at) ≡ true = grind (arith, nat_tests) in
    sym (going-here doc p at r start ends) ∙ equal

pub still-held : (doc : Doc) (p at r j : ℕ) → r ≡ min (max (resume doc p at) (awake doc at)) (end_beat doc + 1) → at ≤ j → j < r → is_going doc j p ≡ false
still-held doc p at r j ends from less = by_cause (cases_lt j (resume doc p at))
  where
    off : (b : Bool) → (b && false) ≡ false
    off true = refl
    off false = refl

    by_cause : (j < resume doc p at) ⊎ (resume doc p at ≤ j) → is_going doc j p ≡ false
    by_cause (inl before) = ap (λ b. not b && not (is_stalled doc j)) (paused_until doc p at j from before)
    by_cause (inr after) = ap (λ b. not (is_paused doc p j) && not b) (stalled_until doc at j from (omega (arith, ends, less, after))) ∙ off (not (is_paused doc p j))

-- ---- the sooner of two

past-none : (doc : Doc) (p n : ℕ) → end_beat doc < resume doc p n → resumed doc p (Some n) ≡ None
past-none doc p n past = let off : nat_le (resume doc p n) (end_beat doc) ≡ false = grind (arith, nat_tests) in ap (λ b. when b (resume doc p n)) off

sooner-none : (a : Option ℕ) → a ≡ sooner a None
sooner-none None = refl
sooner-none (Some a) = refl

-- it goes on past the end
pub goes-past : (doc : Doc) (p n : ℕ) (next : Option ℕ) → end_beat doc < resume doc p n → next ≡ sooner next (resumed doc p (Some n))
goes-past doc p n next past = sooner-none next ∙ ap (sooner next) (sym (past-none doc p n past))

-- what is due is past the end
pub due-past : (doc : Doc) (p n : ℕ) (next : Option ℕ) → end_beat doc < n → next ≡ sooner next (resumed doc p (Some n))
due-past doc p n next past = goes-past doc p n next (omega (arith, past, resume_later doc p n))

-- the other is no later than what is due
pub kept : (doc : Doc) (p n : ℕ) (next : Option ℕ) → is_early n next ≡ false → next ≡ sooner next (resumed doc p (Some n))
kept doc p n None late = absurd (true_is late)
kept doc p n (Some m) late = by_end (nat_le (resume doc p n) (end_beat doc))
  where
    by_end : (b : Bool) → Some m ≡ sooner (Some m) (when b (resume doc p n))
    by_end true = let same : m ≡ min m (resume doc p n) = omega (arith, ltb-false n m late, resume_later doc p n) in ap (λ (x : ℕ). Some x) same
    by_end false = refl

-- it goes on up to the end
pub goes-on : (doc : Doc) (p n r : ℕ) (next : Option ℕ) → r ≡ min (resume doc p n) (end_beat doc + 1) → r ≤ end_beat doc → sooner next (Some r) ≡ sooner next (resumed doc p (Some n))
goes-on doc p n r next ends within =
    let same : resume doc p n ≡ r = omega (arith, ends, within) in
    let on : nat_le (resume doc p n) (end_beat doc) ≡ true = grind (arith, nat_tests) in
    ap (sooner next) (sym (ap (λ b. when b (resume doc p n)) on ∙ ap (λ (x : ℕ). Some x) same))

-- ---- whether the store stands still where the process goes on

pub none_some : (n : ℕ) → None ≡ Some n → ⊥
none_some n same = cc

resumed-at : (doc : Doc) (p n r : ℕ) → r ≡ min (resume doc p n) (end_beat doc + 1) → r ≤ end_beat doc → resumed doc p (Some n) ≡ Some r
resumed-at doc p n r ends within =
    let same : resume doc p n ≡ r = omega (arith, ends, within) in
    let on : nat_le (resume doc p n) (end_beat doc) ≡ true = grind (arith, nat_tests) in
    ap (λ b. when b (resume doc p n)) on ∙ ap (λ (x : ℕ). Some x) same

goes-awake : (doc : Doc) (r w : ℕ) → r ≤ end_beat doc → w ≡ min (awake doc r) (end_beat doc + 1) → w ≡ r → is_stalled doc r ≡ false
goes-awake doc r w within ends same = by_end (stall_end doc r) refl ends
  where
    by_end : (o : Option ℕ) → stall_end doc r ≡ o → w ≡ min (or_else r o) (end_beat doc + 1) → has (stall_end doc r) ≡ false
    by_end None is ends = ap has is
    by_end (Some m) is ends = absurd (omega (arith, ends, same, within, last_later stall_of r doc.events m is))

pub stalls-none : (doc : Doc) (p : ℕ) → IsStalledFrom doc p None None
stalls-none doc p = record { there = λ n is. absurd (none_some n is); none = λ same n is. absurd (none_some n is) }

pub stalls-past : (doc : Doc) (p n : ℕ) → end_beat doc < resume doc p n → IsStalledFrom doc p (Some n) None
stalls-past doc p n past = record { there = λ m is. absurd (none_some m is); none = λ same m is. absurd (none_some m (sym (past-none doc p n past) ∙ is)) }

pub stalls-late : (doc : Doc) (p n : ℕ) → end_beat doc < n → IsStalledFrom doc p (Some n) None
stalls-late doc p n late = stalls-past doc p n (omega (arith, late, resume_later doc p n))

pub stalls-not : (doc : Doc) (p n r w : ℕ) → r ≡ min (resume doc p n) (end_beat doc + 1) → r ≤ end_beat doc → w ≡ min (awake doc r) (end_beat doc + 1) → w ≡ r → IsStalledFrom doc p (Some n) None
stalls-not doc p n r w ends within wakes same = record {
  there = λ m is. absurd (none_some m is);
  none = λ no m is. subst (λ x. is_stalled doc x ≡ false) (some_is r m (sym (resumed-at doc p n r ends within) ∙ is)) (goes-awake doc r w within wakes same);
}

pub stalls-there : (doc : Doc) (p n r : ℕ) → r ≡ min (resume doc p n) (end_beat doc + 1) → r ≤ end_beat doc → IsStalledFrom doc p (Some n) (Some r)
stalls-there doc p n r ends within = record {
  there = λ m is. resumed-at doc p n r ends within ∙ is;
  none = λ no. absurd (none_some r (sym no));
}
