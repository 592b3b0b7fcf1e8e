-- A clock gets the rates of a process's events and its pauses are added, one after the other.
use Rattle.std.proofs.Common.{◌≡◌, ℕ, suc, ◌+◌, ◌<◌, ◌≤◌, ◌^◌, ◌==◌, ◌++◌, nat_le, if◌then◌else◌, Bool, true, false, List, [], ◌∷◌, Option, Some, None, IfSome, length, append_assoc, get_or, take, drop, refl, sym, ap, ◌∙◌, subst, arith, add-one}
use Rattle.std.proofs.lemmas.List.{append-nil}
use Rattle.std.proofs.Math.Seq.{take-suc, drop-cons}
use Rattle.kube_objects.specs.declared.script.Event.{Event}
use Rattle.kube_objects.specs.declared.script.What.{What}
use Rattle.kube_objects.specs.declared.script.What.TheVariants as whats
use Rattle.kube_objects.specs.Clocks.{last_rate, rate_of}
use Rattle.kube_objects.specs.Document.{Doc}
use Rattle.kube_objects.specs.Newest.{only_if, or_else, when}
use Rattle.kube_objects.specs.Pauses.{pause_of}
use Rattle.pause_times.specs.declared.spans.Pause.{Pause}
use Rattle.pause_times.specs.Owned.{pauses_in, pauses_of}
use Rattle.script_reader.specs.Lawful.{IsLawfulWhat, AreLawfulFrom}
use Rattle.skew_clock.specs.Clocking.{Clocking, last_set, rate_at}
use Rattle.world_process.specs.Clocked.{AreEventsFrom, SameSpan}

-- ---- the rate that the events up to one more set

-- what came later, and else what came before
abbrev later : Option ℕ → Option ℕ → Option ℕ
later now before = elim now as (λ o. Option ℕ) [ None ↦ before | Some ppm ↦ Some ppm ]

later-none : (now : Option ℕ) → now ≡ later now None
later-none None = refl
later-none (Some ppm) = refl

later-later : (a b c : Option ℕ) → later (later a b) c ≡ later a (later b c)
later-later None b c = refl
later-later (Some ppm) b c = refl

last_rate-more : (p j : ℕ) (es : List Event) (e : Event) → last_rate p j (es ++ e ∷ []) ≡ later (only_if (nat_le e.beat.0 j) (rate_of p e.what)) (last_rate p j es)
last_rate-more p j [] e = later-none (only_if (nat_le e.beat.0 j) (rate_of p e.what))
last_rate-more p j (x ∷ xs) e =
    let first = only_if (nat_le x.beat.0 j) (rate_of p x.what) in
    ap (λ o. later o first) (last_rate-more p j xs e) ∙ later-later (only_if (nat_le e.beat.0 j) (rate_of p e.what)) (last_rate p j xs) first

rate-set : (b : Bool) (first ppm old : ℕ) (before : Option ℕ) → old ≡ or_else first before → (if b then ppm else old) ≡ or_else first (later (only_if b (Some ppm)) before)
rate-set true first ppm old before is = refl
rate-set false first ppm old before is = is

rate-unset : (b : Bool) (first old : ℕ) (before : Option ℕ) → old ≡ or_else first before → old ≡ or_else first (later (only_if b None) before)
rate-unset true first old before is = is
rate-unset false first old before is = is

-- ---- the events that are left

after : (doc : Doc) (m n : ℕ) (es : List Event) → n ≤ m → AreLawfulFrom doc m es → AreLawfulFrom doc n es
after doc m n [] less s = tt
after doc m n (e ∷ es) less s = (omega (arith, less, s.0), s.1, s.2, s.3)

-- ---- one event more

taken : (es : List Event) (n : ℕ) (e : Event) → n < length es → e ≡ get_or es n e → take (n + 1) es ≡ take n es ++ e ∷ []
taken es n e within is = ap (λ m. take m es) (add-one n) ∙ take-suc es n e within ∙ ap (λ x. take n es ++ x ∷ []) (sym is)

left : (es : List Event) (n : ℕ) (e : Event) → n < length es → e ≡ get_or es n e → drop n es ≡ e ∷ drop (n + 1) es
left es n e within is = drop-cons es n e within ∙ ap (λ x. x ∷ drop (suc n) es) (sym is) ∙ ap (λ m. e ∷ drop m es) (sym (add-one n))

past : (end from : ℕ) (e : Event) (es : List Event) → AreEventsFrom end from (e ∷ es) → AreEventsFrom end e.beat.0 es
past end from e es (doc, ends, s) = (doc, ends, s.3)

sooner : (end from to : ℕ) (es : List Event) → to ≤ from → AreEventsFrom end from es → AreEventsFrom end to es
sooner end from to es less (doc, ends, s) = (doc, ends, after doc from to es less s)

from-is : (end from : ℕ) (e : Event) (es : List Event) → AreEventsFrom end from (e ∷ es) → from ≤ e.beat.0
from-is end from e es (doc, ends, s) = s.0

-- the event isn't on the rate
pub events-unset : (end from : ℕ) (es : List Event) (n : ℕ) (e : Event) → n < length es → e ≡ get_or es n e → AreEventsFrom end from (drop n es) → AreEventsFrom end from (drop (n + 1) es)
events-unset end from es n e within is s =
    let here : AreEventsFrom end from (e ∷ drop (n + 1) es) = subst (AreEventsFrom end from) (left es n e within is) s in
    sooner end e.beat.0 from (drop (n + 1) es) (from-is end from e (drop (n + 1) es) here) (past end from e (drop (n + 1) es) here)

pub rates-unset : (p j first old : ℕ) (es : List Event) (n : ℕ) (e : Event) → n < length es → e ≡ get_or es n e → None ≡ rate_of p e.what → old ≡ or_else first (last_rate p j (take n es)) → old ≡ or_else first (last_rate p j (take (n + 1) es))
rates-unset p j first old es n e within is none s =
    rate-unset (nat_le e.beat.0 j) first old (last_rate p j (take n es)) s
    ∙ ap (λ o. or_else first (later (only_if (nat_le e.beat.0 j) o) (last_rate p j (take n es)))) none
    ∙ ap (or_else first) (sym (last_rate-more p j (take n es) e))
    ∙ ap (λ xs. or_else first (last_rate p j xs)) (sym (taken es n e within is))

-- the event is on the rate
pub same-set : (first old new : Clocking) (sets : List (ℕ × ℕ)) → new ≡ record old { sets = sets } → SameSpan first old → SameSpan first new
same-set first old new sets is s = subst (SameSpan first) (sym is) (record { epoch = s.epoch; offset = s.offset; beat_micros = s.beat_micros; end = s.end })

pub events-set : (old new : Clocking) (ppm : ℕ) (es : List Event) (n : ℕ) (e : Event) → n < length es → e ≡ get_or es n e → new ≡ record old { sets = (e.beat.0, ppm) ∷ old.sets } →
    AreEventsFrom old.end (last_set old.sets) (drop n es) → AreEventsFrom new.end (last_set new.sets) (drop (n + 1) es)
events-set old new ppm es n e within is set s =
    let here : AreEventsFrom old.end (last_set old.sets) (e ∷ drop (n + 1) es) = subst (AreEventsFrom old.end (last_set old.sets)) (left es n e within is) s in
    subst (λ c. AreEventsFrom c.end (last_set c.sets) (drop (n + 1) es)) (sym set) (past old.end (last_set old.sets) e (drop (n + 1) es) here)

pub rates-set : (p j first ppm : ℕ) (old new : Clocking) (es : List Event) (n : ℕ) (e : Event) → n < length es → e ≡ get_or es n e → new ≡ record old { sets = (e.beat.0, ppm) ∷ old.sets } → Some ppm ≡ rate_of p e.what →
    rate_at old.sets j ≡ or_else first (last_rate p j (take n es)) → rate_at new.sets j ≡ or_else first (last_rate p j (take (n + 1) es))
rates-set p j first ppm old new es n e within is set some s =
    ap (λ c. rate_at c.sets j) set
    ∙ rate-set (nat_le e.beat.0 j) first ppm (rate_at old.sets j) (last_rate p j (take n es)) s
    ∙ ap (λ o. or_else first (later (only_if (nat_le e.beat.0 j) o) (last_rate p j (take n es)))) some
    ∙ ap (or_else first) (sym (last_rate-more p j (take n es) e))
    ∙ ap (λ xs. or_else first (last_rate p j xs)) (sym (taken es n e within is))

-- ---- pauses

pauses-more : (p : ℕ) (es : List Event) (e : Event) → pauses_of p (es ++ e ∷ []) ≡ pauses_of p es ++ pauses_in p e
pauses-more p [] e = append-nil (pauses_in p e)
pauses-more p (x ∷ xs) e = ap (λ ps. pauses_in p x ++ ps) (pauses-more p xs e) ∙ sym (append_assoc (pauses_in p x) (pauses_of p xs) (pauses_in p e))

pub pauses-taken : (p : ℕ) (first old new : List Pause) (es : List Event) (n : ℕ) (e : Event) → n < length es → e ≡ get_or es n e → old ≡ first ++ pauses_of p (take n es) → new ≡ old ++ pauses_in p e → new ≡ first ++ pauses_of p (take (n + 1) es)
pauses-taken p first old new es n e within is before more =
    more
    ∙ ap (λ xs. xs ++ pauses_in p e) before
    ∙ append_assoc first (pauses_of p (take n es)) (pauses_in p e)
    ∙ ap (λ xs. first ++ xs) (sym (pauses-more p (take n es) e))
    ∙ ap (λ xs. first ++ pauses_of p xs) (sym (taken es n e within is))

what-fits : (doc : Doc) (p at : ℕ) (what : What) → at ≤ 604800000 → IsLawfulWhat doc what → IfSome (pause_of p what) (λ beats. at + beats < 2 ^ 32)
what-fits doc p at (whats.Pause id beats) within lawful = by_test (id.0 == p)
  where
    by_test : (b : Bool) → IfSome (when b beats) (λ n. at + n < 2 ^ 32)
    by_test true = omega (arith, within, lawful.2)
    by_test false = tt
what-fits doc p at (whats.Rate id ppm) within lawful = tt
what-fits doc p at (whats.Delay id requests replies) within lawful = tt
what-fits doc p at (whats.Loss id requests replies) within lawful = tt
what-fits doc p at (whats.Crash id) within lawful = tt
what-fits doc p at (whats.Start id) within lawful = tt
what-fits doc p at (whats.Stop id) within lawful = tt
what-fits doc p at (whats.Watch id on) within lawful = tt
what-fits doc p at (whats.Ready id status) within lawful = tt
what-fits doc p at (whats.Stall beats) within lawful = tt
what-fits doc p at (whats.Put key object) within lawful = tt
what-fits doc p at (whats.Remove key) within lawful = tt

-- a pause's end fits in a beat
pub pause-fits : (p end from : ℕ) (es : List Event) (n : ℕ) (e : Event) → n < length es → e ≡ get_or es n e → end ≤ 604800000 → AreEventsFrom end from (drop n es) → IfSome (pause_of p e.what) (λ beats. e.beat.0 + beats < 2 ^ 32)
pause-fits p end from es n e within is most s = of-head (subst (AreEventsFrom end from) (left es n e within is) s)
  where
    of-head : AreEventsFrom end from (e ∷ drop (n + 1) es) → IfSome (pause_of p e.what) (λ beats. e.beat.0 + beats < 2 ^ 32)
    of-head (doc, ends, lawful) = what-fits doc p e.beat.0 e.what (omega (arith, most, ends, lawful.1)) lawful.2
