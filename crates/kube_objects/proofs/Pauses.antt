-- When a paused process goes on, and that a script without pauses holds nobody up.
use Rattle.std.proofs.Common.{min, option_map, ◌≡◌, ◌<◌, ◌≤◌, ℕ, zero, suc, ◌+◌, ◌&&◌, not, nat_le, nat_lt, Bool, true, false, List, [], ◌∷◌, Option, Some, None, refl, ap, ◌∙◌, leb-true, arith}
use Rattle.std.proofs.lemmas.Bool.{ltb-true, ltb-false, leb-false, lt-ltb}
use Rattle.kube_objects.specs.declared.script.Event.{Event}
use Rattle.kube_objects.specs.declared.script.What.{What}
use Rattle.kube_objects.specs.declared.script.What.TheVariants as what
use Rattle.kube_objects.specs.Clocks.{local}
use Rattle.kube_objects.specs.Document.{Doc, end_beat}
use Rattle.kube_objects.specs.Newest.{when, has, or_else}
use Rattle.kube_objects.specs.Pauses.{pause_of, end_of, last_end, last_pause, pause_end, is_paused, resume, held_up, is_ahead, wait_of, last_wait, reading_of, can_at, IsNoPause, AreUnpaused}
use Rattle.kube_objects.proofs.Clocks.{local_up}

-- the last pause's end, else that of an earlier one
abbrev pub or_earlier : Option ℕ → Option ℕ → Option ℕ
or_earlier a b = elim a [ None ↦ b | Some k ↦ Some k ]

pub both_none : (a b : Option ℕ) → a ≡ None → b ≡ None → or_earlier a b ≡ None
both_none a b one two = ap (λ a. or_earlier a b) one ∙ two

none_is : (k : ℕ) → None ≡ Some k → ⊥
none_is k is = cc

-- ---- what is late arrives later

pub end_value : (k from beats at : ℕ) → end_of k from (Some beats) ≡ Some at → from + beats ≡ at
end_value k from beats at is = by_test (nat_le from k && nat_lt k (from + beats)) is
  where
    by_test : (b : Bool) → when b (from + beats) ≡ Some at → from + beats ≡ at
    by_test true is = cc
    by_test false is = absurd (none_is at is)

pub end_later : (k from : ℕ) (o : Option ℕ) (at : ℕ) → end_of k from o ≡ Some at → k < at
end_later k from None at is = absurd (none_is at is)
end_later k from (Some beats) at is = by_tests (nat_le from k) (nat_lt k (from + beats)) refl is
  where
    by_tests : (a b : Bool) → nat_lt k (from + beats) ≡ b → when (a && b) (from + beats) ≡ Some at → k < at
    by_tests true true before is = let end : from + beats ≡ at = cc in omega (arith, end, ltb-true k (from + beats) before)
    by_tests true false before is = absurd (none_is at is)
    by_tests false b before is = absurd (none_is at is)

pub last_later : (lasts : What → Option ℕ) (k : ℕ) (es : List Event) (at : ℕ) → last_end lasts k es ≡ Some at → k < at
last_later lasts k [] at is = absurd (none_is at is)
last_later lasts k (e ∷ es) at is = cases (last_later lasts k es at) (last_end lasts k es) refl is
  where
    cases : (last_end lasts k es ≡ Some at → k < at) → (o : Option ℕ) → last_end lasts k es ≡ o → or_earlier o (end_of k e.beat.0 (lasts e.what)) ≡ Some at → k < at
    cases rest None none is = end_later k e.beat.0 (lasts e.what) at is
    cases rest (Some m) some is = rest (some ∙ is)

pub pause_later : (p k : ℕ) (es : List Event) (at : ℕ) → last_pause p k es ≡ Some at → k < at
pause_later p k es at is = last_later (pause_of p) k es at is

pub resume_later : (doc : Doc) (p k : ℕ) → k ≤ resume doc p k
resume_later doc p k = cases (pause_end doc p k) refl
  where
    cases : (o : Option ℕ) → pause_end doc p k ≡ o → k ≤ or_else k o
    cases None is = omega arith
    cases (Some at) is = omega (arith, pause_later p k doc.events at is)

-- ---- the same by the first beat

-- whether a pause has begun by the first beat at which a reading is reached
ahead_is : (doc : Doc) (p at j : ℕ) → at ≤ local doc p j → ((i : ℕ) → i < j → local doc p i < at) → (m : ℕ) → is_ahead doc p at m ≡ nat_le m j
ahead_is doc p at j reached before zero = none_before (nat_le 0 j) refl
  where
    none_before : (b : Bool) → nat_le 0 j ≡ b → true ≡ b
    none_before true le = refl
    none_before false le = absurd (omega (arith, leb-false 0 j le))
ahead_is doc p at j reached before (suc b) = by_tests (nat_lt (local doc p b) at) (nat_le (suc b) j) refl refl
  where
    by_tests : (x y : Bool) → nat_lt (local doc p b) at ≡ x → nat_le (suc b) j ≡ y → x ≡ y
    by_tests true true is le = refl
    by_tests false false is le = refl
    by_tests true false is le = absurd (omega (arith, ltb-true (local doc p b) at is, reached, local_up doc p j b (omega (arith, leb-false (suc b) j le))))
    by_tests false true is le = absurd (omega (arith, ltb-false (local doc p b) at is, before b (omega (arith, leb-true (suc b) j le))))

abbrev capped : ℕ → Option ℕ → Option ℕ
capped end = option_map (λ k. min k end)

wait_is : (doc : Doc) (p at j : ℕ) → j < end_beat doc → at ≤ local doc p j → ((i : ℕ) → i < j → local doc p i < at) → (from : ℕ) (o : Option ℕ) → wait_of doc p at from o ≡ capped (end_beat doc) (end_of j from o)
wait_is doc p at j inside reached before from None = refl
wait_is doc p at j inside reached before from (Some beats) =
    let end = min (from + beats) (end_beat doc) in
    ap (λ a. when (a && not (is_ahead doc p at end)) end) (ahead_is doc p at j reached before from)
    ∙ ap (λ b. when (nat_le from j && not b) end) (ahead_is doc p at j reached before end)
    ∙ by_tests (nat_le end j) (nat_lt j (from + beats)) refl refl (nat_le from j)
  where
    by_tests : (x y : Bool) → nat_le (min (from + beats) (end_beat doc)) j ≡ x → nat_lt j (from + beats) ≡ y → (a : Bool) → when (a && not x) (min (from + beats) (end_beat doc)) ≡ capped (end_beat doc) (when (a && y) (from + beats))
    by_tests x y le lt false = refl
    by_tests true false le lt true = refl
    by_tests false true le lt true = refl
    by_tests true true le lt true = absurd (omega (arith, leb-true (min (from + beats) (end_beat doc)) j le, ltb-true j (from + beats) lt, inside))
    by_tests false false le lt true = absurd (omega (arith, leb-false (min (from + beats) (end_beat doc)) j le, ltb-false j (from + beats) lt))

capped_both : (end : ℕ) (a b : Option ℕ) → or_earlier (capped end a) (capped end b) ≡ capped end (or_earlier a b)
capped_both end None b = refl
capped_both end (Some x) b = refl

waits_are : (doc : Doc) (p at j : ℕ) → j < end_beat doc → at ≤ local doc p j → ((i : ℕ) → i < j → local doc p i < at) → (es : List Event) → last_wait doc p at es ≡ capped (end_beat doc) (last_pause p j es)
waits_are doc p at j inside reached before [] = refl
waits_are doc p at j inside reached before (e ∷ es) =
    ap (λ o. or_earlier o (wait_of doc p at e.beat.0 (pause_of p e.what))) (waits_are doc p at j inside reached before es)
    ∙ ap (or_earlier (capped (end_beat doc) (last_pause p j es))) (wait_is doc p at j inside reached before e.beat.0 (pause_of p e.what))
    ∙ capped_both (end_beat doc) (last_pause p j es) (end_of j e.beat.0 (pause_of p e.what))

-- the reading at which a process can do what is due, by the first beat at which that is reached, where it comes before the last one
pub can_by_first : (doc : Doc) (p at j : ℕ) → j < end_beat doc → at ≤ local doc p j → ((i : ℕ) → i < j → local doc p i < at)
    → can_at doc p at ≡ reading_of doc p at (option_map (λ k. min k (end_beat doc)) (pause_end doc p j))
can_by_first doc p at j inside reached before = ap (reading_of doc p at) (waits_are doc p at j inside reached before doc.events)

-- and where it isn't reached before the last beat
none_waits : (doc : Doc) (p at : ℕ) → ((i : ℕ) → i < end_beat doc → local doc p i < at) → (es : List Event) → last_wait doc p at es ≡ None
none_waits doc p at before [] = refl
none_waits doc p at before (e ∷ es) = both_none (last_wait doc p at es) (wait_of doc p at e.beat.0 (pause_of p e.what)) (none_waits doc p at before es) (none (pause_of p e.what))
  where
    ahead : (m : ℕ) → m ≤ end_beat doc → is_ahead doc p at m ≡ true
    ahead zero le = refl
    ahead (suc b) le = lt-ltb (local doc p b) at (before b (omega (arith, le)))

    off : (a : Bool) (x : ℕ) → when (a && false) x ≡ None
    off true x = refl
    off false x = refl

    none : (o : Option ℕ) → wait_of doc p at e.beat.0 o ≡ None
    none None = refl
    none (Some beats) =
        let end = min (e.beat.0 + beats) (end_beat doc) in
        ap (λ b. when (is_ahead doc p at e.beat.0 && not b) end) (ahead end (omega arith)) ∙ off (is_ahead doc p at e.beat.0) end

pub can_at_once : (doc : Doc) (p at : ℕ) → ((i : ℕ) → i < end_beat doc → local doc p i < at) → can_at doc p at ≡ at
can_at_once doc p at before = ap (reading_of doc p at) (none_waits doc p at before doc.events)

-- ---- a script without pauses

pub never_pauses : (p : ℕ) (w : What) → IsNoPause w → pause_of p w ≡ None
never_pauses p (what.Crash id) is = refl
never_pauses p (what.Start id) is = refl
never_pauses p (what.Stop id) is = refl
never_pauses p (what.Rate id ppm) is = refl
never_pauses p (what.Delay id requests replies) is = refl
never_pauses p (what.Loss id requests replies) is = refl
never_pauses p (what.Watch id on) is = refl
never_pauses p (what.Ready id status) is = refl
never_pauses p (what.Pause id beats) is = absurd is
never_pauses p (what.Stall beats) is = refl
never_pauses p (what.Put key object) is = refl
never_pauses p (what.Remove key) is = refl

no_pause : (p k : ℕ) (es : List Event) → AreUnpaused es → last_pause p k es ≡ None
no_pause p k [] none = refl
no_pause p k (e ∷ es) none =
    both_none (last_pause p k es) (end_of k e.beat.0 (pause_of p e.what)) (no_pause p k es none.1) (ap (end_of k e.beat.0) (never_pauses p e.what none.0))

no_wait : (doc : Doc) (p at : ℕ) (es : List Event) → AreUnpaused es → last_wait doc p at es ≡ None
no_wait doc p at [] none = refl
no_wait doc p at (e ∷ es) none =
    both_none (last_wait doc p at es) (wait_of doc p at e.beat.0 (pause_of p e.what)) (no_wait doc p at es none.1) (ap (wait_of doc p at e.beat.0) (never_pauses p e.what none.0))

pub not_paused : (doc : Doc) (p k : ℕ) → AreUnpaused doc.events → is_paused doc p k ≡ false
not_paused doc p k none = ap has (no_pause p k doc.events none)

pub resumes_now : (doc : Doc) (p k : ℕ) → AreUnpaused doc.events → resume doc p k ≡ k
resumes_now doc p k none = ap (or_else k) (no_pause p k doc.events none)

pub not_held_up : (doc : Doc) (p : ℕ) (o : Option ℕ) → AreUnpaused doc.events → held_up doc p o ≡ o
not_held_up doc p None none = refl
not_held_up doc p (Some k) none = ap Some (resumes_now doc p k none)

pub can_now : (doc : Doc) (p at : ℕ) → AreUnpaused doc.events → can_at doc p at ≡ at
can_now doc p at none = ap (reading_of doc p at) (no_wait doc p at doc.events none)
