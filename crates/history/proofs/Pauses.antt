-- A process that goes on isn't paused, and the store goes where its stall is over; a script without pauses keeps every process awake.
use Rattle.std.proofs.Common.{◌≡◌, ◌⊎◌, ◌<◌, ◌≤◌, ℕ, ◌+◌, ◌&&◌, nat_le, nat_lt, Bool, true, false, List, [], ◌∷◌, Option, Some, None, refl, sym, ap, ◌∙◌, subst, inl, inr, ⊎_elim, leb-true, arith}
use Rattle.std.proofs.lemmas.Bool.{ltb-true, cases_lt}
use Rattle.kube_objects.specs.declared.script.Event.{Event}
use Rattle.kube_objects.specs.declared.script.What.{What}
use Rattle.kube_objects.specs.Document.{Doc}
use Rattle.kube_objects.specs.Newest.{when, has, or_else}
use Rattle.kube_objects.specs.Own.{AreUnstalled}
use Rattle.kube_objects.specs.Pauses.{pause_of, end_of, last_end, is_paused, resume, AreUnpaused}
use Rattle.kube_objects.specs.Stalls.{stall_of, is_stalled, awake}
use Rattle.kube_objects.proofs.Pauses.{or_earlier, both_none, never_pauses, end_value, last_later}
use Rattle.history.specs.Premise.{more, stands, longest_below, longest}
use Rattle.history.specs.Sound.{IsApart, AreApartFrom, AreApart}

none_is : (k : ℕ) → None ≡ Some k → ⊥
none_is k is = cc

-- ---- it isn't paused where a pause is over

-- beat k lies before the pause, or after it
end_none : (k from beats : ℕ) → (k < from) ⊎ (from + beats ≤ k) → end_of k from (Some beats) ≡ None
end_none k from beats out = by_tests (nat_le from k) (nat_lt k (from + beats)) refl refl
  where
    by_tests : (a b : Bool) → nat_le from k ≡ a → nat_lt k (from + beats) ≡ b → when (a && b) (from + beats) ≡ None
    by_tests false b after before = refl
    by_tests true false after before = refl
    by_tests true true after before = absurd (⊎_elim (λ lt. omega (arith, lt, leb-true from k after)) (λ le. omega (arith, le, ltb-true k (from + beats) before)) out)

-- what events begin by one measure is apart
abbrev pub EndsApartFrom : (What → Option ℕ) → ℕ → What → List Event → Type 0
EndsApartFrom lasts at w [] = Unit {0}
EndsApartFrom lasts at w (e ∷ es) = IsApart at (lasts w) e.beat.0 (lasts e.what) × EndsApartFrom lasts at w es

abbrev pub EndsApart : (What → Option ℕ) → List Event → Type 0
EndsApart lasts [] = Unit {0}
EndsApart lasts (e ∷ es) = EndsApartFrom lasts e.beat.0 e.what es × EndsApart lasts es

pauses_from : (p at : ℕ) (w : What) (es : List Event) → AreApartFrom at w es → EndsApartFrom (pause_of p) at w es
pauses_from p at w [] apart = tt
pauses_from p at w (e ∷ es) apart = (apart.0 p, pauses_from p at w es apart.2)

pub pauses_apart : (p : ℕ) (es : List Event) → AreApart es → EndsApart (pause_of p) es
pauses_apart p [] apart = tt
pauses_apart p (e ∷ es) apart = (pauses_from p e.beat.0 e.what es apart.0, pauses_apart p es apart.1)

stalls_from : (at : ℕ) (w : What) (es : List Event) → AreApartFrom at w es → EndsApartFrom stall_of at w es
stalls_from at w [] apart = tt
stalls_from at w (e ∷ es) apart = (apart.1, stalls_from at w es apart.2)

pub stalls_apart : (es : List Event) → AreApart es → EndsApart stall_of es
stalls_apart [] apart = tt
stalls_apart (e ∷ es) apart = (stalls_from e.beat.0 e.what es apart.0, stalls_apart es apart.1)

-- the events after one that begins a span begin another later
rest_none : (lasts : What → Option ℕ) (at n k : ℕ) (w : What) (es : List Event) → EndsApartFrom lasts at w es → lasts w ≡ Some n → k ≤ at + n → last_end lasts k es ≡ None
rest_none lasts at n k w [] apart is le = refl
rest_none lasts at n k w (e ∷ es) apart is le =
    both_none (last_end lasts k es) (end_of k e.beat.0 (lasts e.what)) (rest_none lasts at n k w es apart.1 is le)
    (cases (lasts e.what) (subst (λ o. IsApart at o e.beat.0 (lasts e.what)) is apart.0))
  where
    cases : (o : Option ℕ) → IsApart at (Some n) e.beat.0 o → end_of k e.beat.0 o ≡ None
    cases None later = refl
    cases (Some m) later = end_none k e.beat.0 m (inl (omega (arith, later, le)))

rest_later : (lasts : What → Option ℕ) (at n k end : ℕ) (w : What) (es : List Event) → EndsApartFrom lasts at w es → lasts w ≡ Some n → last_end lasts k es ≡ Some end → at + n ≤ end
rest_later lasts at n k end w es apart is some = ⊎_elim (λ lt. omega (arith, lt, last_later lasts k es end some)) early (cases_lt (at + n) k)
  where
    early : k ≤ at + n → at + n ≤ end
    early le = absurd (none_is end (sym (rest_none lasts at n k w es apart is le) ∙ some))

over_none : (lasts : What → Option ℕ) (k end : ℕ) (es : List Event) → EndsApart lasts es → last_end lasts k es ≡ Some end → last_end lasts end es ≡ None
over_none lasts k end [] apart is = absurd (none_is end is)
over_none lasts k end (e ∷ es) apart is = cases (over_none lasts k end es apart.1) (last_end lasts k es) refl (lasts e.what) refl is
  where
    cases : (last_end lasts k es ≡ Some end → last_end lasts end es ≡ None) → (o : Option ℕ) → last_end lasts k es ≡ o → (w : Option ℕ) → lasts e.what ≡ w → or_earlier o (end_of k e.beat.0 w) ≡ Some end → or_earlier (last_end lasts end es) (end_of end e.beat.0 (lasts e.what)) ≡ None
    cases rest None none None what is = absurd (none_is end is)
    cases rest None none (Some n) what is =
        let ends : e.beat.0 + n ≡ end = end_value k e.beat.0 n end is in
        both_none (last_end lasts end es) (end_of end e.beat.0 (lasts e.what)) (rest_none lasts e.beat.0 n end e.what es apart.0 what (omega (arith, ends)))
        (ap (end_of end e.beat.0) what ∙ end_none end e.beat.0 n (inr (omega (arith, ends))))
    cases rest (Some m) some None what is = both_none (last_end lasts end es) (end_of end e.beat.0 (lasts e.what)) (rest (some ∙ is)) (ap (end_of end e.beat.0) what)
    cases rest (Some m) some (Some n) what is =
        both_none (last_end lasts end es) (end_of end e.beat.0 (lasts e.what)) (rest (some ∙ is))
        (ap (end_of end e.beat.0) what ∙ end_none end e.beat.0 n (inr (rest_later lasts e.beat.0 n k end e.what es apart.0 what (some ∙ is))))

over_end : (lasts : What → Option ℕ) (es : List Event) (k : ℕ) → EndsApart lasts es → has (last_end lasts (or_else k (last_end lasts k es)) es) ≡ false
over_end lasts es k apart = cases (last_end lasts k es) refl
  where
    cases : (o : Option ℕ) → last_end lasts k es ≡ o → has (last_end lasts (or_else k o) es) ≡ false
    cases None is = ap has is
    cases (Some end) is = ap has (over_none lasts k end es apart is)

pub resume_awake : (doc : Doc) (p k : ℕ) → AreApart doc.events → is_paused doc p (resume doc p k) ≡ false
resume_awake doc p k apart = over_end (pause_of p) doc.events k (pauses_apart p doc.events apart)

-- the store goes where a stall is over
pub awake_goes : (doc : Doc) (k : ℕ) → AreApart doc.events → is_stalled doc (awake doc k) ≡ false
awake_goes doc k apart = over_end stall_of doc.events k (stalls_apart doc.events apart)

-- ---- a script without pauses

none_longest : (p : ℕ) (es : List Event) → AreUnpaused es → longest_below p es ≡ 0
none_longest p [] none = refl
none_longest p (e ∷ es) none = ap (λ n. more n (stands (pause_of p e.what))) (none_longest p es none.1) ∙ ap (λ o. more 0 (stands o)) (never_pauses p e.what none.0)

pub no_longest : (doc : Doc) (p : ℕ) → AreUnpaused doc.events → longest doc p ≡ 0
no_longest doc p none = none_longest p doc.events none

apart_from : (at : ℕ) (w : What) (es : List Event) → AreUnpaused es → AreUnstalled es → AreApartFrom at w es
apart_from at w [] none goes = tt
apart_from at w (e ∷ es) none goes = (
  λ p. subst (IsApart at (pause_of p w) e.beat.0) (sym (never_pauses p e.what none.0)) (no_later (pause_of p w)),
  subst (IsApart at (stall_of w) e.beat.0) (sym goes.0) (no_later (stall_of w)),
  apart_from at w es none.1 goes.1,
)
  where
    no_later : (o : Option ℕ) → IsApart at o e.beat.0 None
    no_later None = tt
    no_later (Some beats) = tt

pub never_apart : (es : List Event) → AreUnpaused es → AreUnstalled es → AreApart es
never_apart [] none goes = tt
never_apart (e ∷ es) none goes = (apart_from e.beat.0 e.what es none.1 goes.1, never_apart es none.1 goes.1)
