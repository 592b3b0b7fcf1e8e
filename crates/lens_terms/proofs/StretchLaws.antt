-- The stretches of lines, one line more.
use Rattle.std.proofs.Common.{◌≡◌, ℕ, zero, suc, ◌+◌, ◌-◌, ◌<◌, Bool, true, false, cond, List, [], ◌∷◌, ◌++◌, length, map, reverse, drop, get_or, Bor, All, nat_lt, ◌≤◌, Option, Some, None, refl, sym, ap, subst, ◌∙◌, ◌⊎◌, inl, inr, add-one, arith}
use Rattle.std.proofs.Math.Seq.{drop-cons}
use Rattle.std.proofs.lemmas.Bool.Decides.{nat_tests}
use Rattle.std.proofs.lemmas.List.{append-nil, append_assoc, drop_all, get_or-map, length-map, reverse-append, reverse-reverse}
use Rattle.std.proofs.lemmas.Bool.{cases_lt}
use Rattle.std.proofs.lemmas.List.Elements.{All-from_recursion}
use Rattle.std.specs.List.{AllByRecursion}
use Rattle.std.specs.Str.{bytes_eq}
use Rattle.trace_lines.specs.declared.line.Line.{Line}
use Rattle.trace_lines.specs.Reads.{seen}
use Rattle.lens_terms.specs.declared.interruptions.Interruptions.{Interruptions}
use Rattle.lens_terms.specs.declared.stretch.Stretch.{Stretch}
use Rattle.lens_terms.specs.declared.turn.Turn.{Turn}
use Rattle.lens_terms.specs.declared.turn.Turn.TheVariants.{Leads, Ends, Pauses, Keeps}
use Rattle.lens_terms.specs.Terms.{turn_of}
use Rattle.lens_terms.specs.Acting.{Standings, interrupted, interrupted_by, nothing_known, with_line, standing_by, begins_by, stretch, stretches, shown}
use Rattle.lens_terms.specs.Gathered.{ends, interruption, AreBelow, AreHeld}
use Rattle.lens_terms.specs.declared.standings.Standings.{Standings as StandingsHeld}
use Rattle.lens_terms.proofs.TermLaws.{line-before}

same-both : {A : Type 0} (b : Bool) (x : A) → cond b x x ≡ x
same-both true x = refl
same-both false x = refl

-- ---- what interrupts an identity

pub interrupted-more : (stop : ℕ) (who : List ℕ) (l : Line (List ℕ)) (ls : List (Line (List ℕ))) (turn : Turn) → turn_of l.says ≡ turn
    → interrupted stop who (l ∷ ls) ≡ cond (bytes_eq l.actor who) (interrupted_by stop l.beat turn (interrupted stop who ls)) (interrupted stop who ls)
unfolding interrupted
interrupted-more stop who l ls turn is = ap (λ t. cond (bytes_eq l.actor who) (interrupted_by stop l.beat t (interrupted stop who ls)) (interrupted stop who ls)) is

pub interrupted-none : (stop : ℕ) (who : List ℕ) → interrupted stop who [] ≡ stop
unfolding interrupted
interrupted-none stop who = refl

-- a line that doesn't
pub not-interrupted : (stop : ℕ) (who : List ℕ) (l : Line (List ℕ)) (ls : List (Line (List ℕ))) (turn : Turn) → turn_of l.says ≡ turn
    → interrupted_by stop l.beat turn (interrupted stop who ls) ≡ interrupted stop who ls → interrupted stop who (l ∷ ls) ≡ interrupted stop who ls
not-interrupted stop who l ls turn is same =
    interrupted-more stop who l ls turn is ∙ ap (λ n. cond (bytes_eq l.actor who) n (interrupted stop who ls)) same ∙ same-both (bytes_eq l.actor who) (interrupted stop who ls)

-- never behind the last beat
pub interrupted-within : (stop : ℕ) (who : List ℕ) (ls : List (Line (List ℕ))) → interrupted stop who ls ≤ stop
unfolding interrupted
interrupted-within stop who [] = omega arith
interrupted-within stop who (l ∷ ls) = by (bytes_eq l.actor who) (turn_of l.says) (interrupted-within stop who ls)
  where
    by : (b : Bool) (turn : Turn) → interrupted stop who ls ≤ stop → cond b (interrupted_by stop l.beat turn (interrupted stop who ls)) (interrupted stop who ls) ≤ stop
    by false turn h = h
    by true Leads h = h
    by true (Ends how) h = omega arith
    by true (Pauses beats) h = omega arith
    by true Keeps h = h

-- ---- how identities stand

-- behind the first so many lines
abbrev pub behind_from : ℕ → Standings → List (Line (List ℕ)) → ℕ → Standings
behind_from stop known ls zero = known
behind_from stop known [] (suc n) = known
behind_from stop known (l ∷ ls) (suc n) = behind_from stop (with_line stop l known) ls n

abbrev pub behind : ℕ → List (Line (List ℕ)) → ℕ → Standings
behind stop ls n = behind_from stop nothing_known ls n

pub behind-next : (stop : ℕ) (known : Standings) (ls : List (Line (List ℕ))) (n : ℕ) (d : Line (List ℕ)) → n < length ls
    → behind_from stop known ls (suc n) ≡ with_line stop (get_or ls n d) (behind_from stop known ls n)
behind-next stop known [] n d within = absurd (omega (arith, within))
behind-next stop known (l ∷ ls) zero d within = refl
behind-next stop known (l ∷ ls) (suc n) d within = behind-next stop (with_line stop l known) ls n d (omega (arith, within))

-- a line that neither begins nor ends anything
pub kept-standing : (stop : ℕ) (l : Line (List ℕ)) (known : Standings) (who : List ℕ) → turn_of l.says ≡ Keeps → with_line stop l known who ≡ known who
kept-standing stop l known who is = ap (λ t. cond (bytes_eq l.actor who) (standing_by stop l.beat t (known who)) (known who)) is ∙ same-both (bytes_eq l.actor who) (known who)

-- ---- stretches

pub stretches-none : (stop number : ℕ) (known : Standings) → stretches stop number known [] ≡ []
unfolding stretches
stretches-none stop number known = refl

pub stretches-more : (stop number : ℕ) (known : Standings) (l : Line (List ℕ)) (ls : List (Line (List ℕ)))
    → stretches stop number known (l ∷ ls)
    ≡ stretch number l.actor (interrupted stop l.actor ls) (begins_by stop l.beat (turn_of l.says) (known l.actor)) ++ stretches stop (number + 1) (with_line stop l known) ls
unfolding stretches
stretches-more stop number known l ls = refl

stretch-below : (stop number until : ℕ) (who : List ℕ) (begins : Option ℕ) (more : List (Stretch (List ℕ))) → until ≤ stop → AreBelow stop more
    → AreBelow stop (stretch number who until begins ++ more)
stretch-below stop number until who None more within rest = rest
stretch-below stop number until who (Some from) more within rest = by (nat_lt from until) refl
  where
    by : (b : Bool) → nat_lt from until ≡ b → AreBelow stop (cond b (record { line = number; actor = who; from = from; until = until } ∷ []) [] ++ more)
    by true e = (let before : from < until = grind (arith, nat_tests, e) in omega (arith, before, within), rest)
    by false e = rest

pub stretches-below : (stop number : ℕ) (known : Standings) (ls : List (Line (List ℕ))) → AreBelow stop (stretches stop number known ls)
unfolding stretches
stretches-below stop number known [] = tt
stretches-below stop number known (l ∷ ls) =
    stretch-below stop number (interrupted stop l.actor ls) l.actor (begins_by stop l.beat (turn_of l.says) (known l.actor)) (stretches stop (number + 1) (with_line stop l known) ls)
    (interrupted-within stop l.actor ls) (stretches-below stop (number + 1) (with_line stop l known) ls)

pub below-each : (stop : ℕ) (xs : List (Stretch (Bor (List ℕ)))) → AreBelow stop (map shown xs) → All (λ s. s.from < stop) xs
below-each stop xs h = All-from_recursion (λ s. s.from < stop) xs (by xs h)
  where
    by : (xs : List (Stretch (Bor (List ℕ)))) → AreBelow stop (map shown xs) → AllByRecursion (λ s. s.from < stop) xs
    by [] h = tt
    by (x ∷ xs) h = (h.0, by xs h.1)

-- ---- the passes

-- what ends lines, one more at their front
pub ends-before : (stop : ℕ) (lines : List (Line (Bor (List ℕ)))) (at end : ℕ) (i : Interruptions) (old new : List ℕ) (line d : Line (Bor (List ℕ))) → at ≤ length lines → 0 < at
    → line ≡ get_or lines (at - 1) d → ((who : Bor (List ℕ)) → interruption stop i who ≡ interrupted stop who.now (map seen (drop at lines))) → end ≡ interruption stop i line.actor → old ≡ reverse (ends stop (map seen (drop at lines)))
    → new ≡ old ++ end ∷ [] → new ≡ reverse (ends stop (map seen (drop (at - 1) lines)))
ends-before stop lines at end i old new line d within more is known here so_far then =
    then ∙ ap (λ es. es ++ end ∷ []) so_far ∙ ap (λ e. reverse (ends stop (map seen (drop at lines))) ++ e ∷ []) (here ∙ known line.actor)
    ∙ sym (reverse-append (interrupted stop line.actor.now (map seen (drop at lines)) ∷ []) (ends stop (map seen (drop at lines))))
    ∙ ap (λ ls. reverse (ends stop (map seen ls))) (sym (line-before lines at line d within more is))

pub known-before : (stop : ℕ) (lines : List (Line (Bor (List ℕ)))) (at : ℕ) (i : Interruptions) (line d : Line (Bor (List ℕ))) → at ≤ length lines → 0 < at
    → line ≡ get_or lines (at - 1) d → ((who : Bor (List ℕ)) → interruption stop i who ≡ interrupted stop who.now (seen line ∷ map seen (drop at lines)))
    → (who : Bor (List ℕ)) → interruption stop i who ≡ interrupted stop who.now (map seen (drop (at - 1) lines))
known-before stop lines at i line d within more is h who = h who ∙ ap (λ ls. interrupted stop who.now (map seen ls)) (sym (line-before lines at line d within more is))

-- what was taken from behind the ends of the lines from a place on
pub record Popped (stop : ℕ) (lines : List (Line (Bor (List ℕ)))) (at end : ℕ) (new : List ℕ) (d : Line (Bor (List ℕ))) : Type 0 where
  pub within : at < length lines
  pub end_is : end ≡ interrupted stop (get_or lines at d).actor.now (map seen (drop (at + 1) lines))
  pub ends_are : new ≡ reverse (ends stop (map seen (drop (at + 1) lines)))

last-of : (es new : List ℕ) (end : ℕ) → reverse es ≡ new ++ end ∷ [] → es ≡ end ∷ reverse new
last-of es new end is = sym (reverse-reverse es) ∙ ap (λ xs. reverse xs) is ∙ reverse-append new (end ∷ [])

pub popped : (stop : ℕ) (lines : List (Line (Bor (List ℕ)))) (at : ℕ) (old new : List ℕ) (end : ℕ) (d : Line (Bor (List ℕ)))
    → old ≡ reverse (ends stop (map seen (drop at lines))) → old ≡ new ++ end ∷ [] → Popped stop lines at end new d
popped stop lines at old new end d so_far taken = by (cases_lt at (length lines))
  where
    all : ends stop (map seen (drop at lines)) ≡ end ∷ reverse new
    all = last-of (ends stop (map seen (drop at lines))) new end (sym so_far ∙ taken)

    inside : at < length lines → Popped stop lines at end new d
    inside within =
        let whole : end ∷ reverse new ≡ interrupted stop (get_or lines at d).actor.now (map seen (drop (at + 1) lines)) ∷ ends stop (map seen (drop (at + 1) lines))
        = sym all ∙ ap (λ ls. ends stop (map seen ls)) (drop-cons lines at d within ∙ ap (λ k. get_or lines at d ∷ drop k lines) (sym (add-one at))) in
        let rest : reverse new ≡ ends stop (map seen (drop (at + 1) lines)) = cc in
        record { within = within; end_is = cc; ends_are = sym (reverse-reverse new) ∙ ap (λ xs. reverse xs) rest }

    by : (at < length lines) ⊎ (length lines ≤ at) → Popped stop lines at end new d
    by (inl within) = inside within
    by (inr past) = absurd (let none : [] ≡ end ∷ reverse new = ap (λ ls. ends stop (map seen ls)) (sym (drop_all at lines past)) ∙ all in cc)

pub known-behind : (stop : ℕ) (lines : List (Line (Bor (List ℕ)))) (at : ℕ) (s : StandingsHeld) (line d : Line (Bor (List ℕ))) → at < length lines → line ≡ get_or lines at d
    → AreHeld (with_line stop (seen line) (behind stop (map seen lines) at)) s → AreHeld (behind stop (map seen lines) (at + 1)) s
known-behind stop lines at s line d within is h =
    subst (λ known. AreHeld known s)
    (ap (λ l. with_line stop l (behind stop (map seen lines) at)) (ap seen is ∙ sym (get_or-map seen lines at d (seen d) within))
    ∙ sym (behind-next stop nothing_known (map seen lines) at (seen d) (subst (λ n. at < n) (sym (length-map lines seen)) within))
    ∙ ap (behind stop (map seen lines)) (sym (add-one at)))
    h

pub found-behind : (stop : ℕ) (lines : List (Line (Bor (List ℕ)))) (at end : ℕ) (old new : List (Stretch (Bor (List ℕ)))) (line d : Line (Bor (List ℕ))) → at < length lines
    → line ≡ get_or lines at d → end ≡ interrupted stop (get_or lines at d).actor.now (map seen (drop (at + 1) lines))
    → map shown new ≡ map shown old ++ stretch (at + 2) line.actor.now end (begins_by stop line.beat (turn_of (seen line).says) (behind stop (map seen lines) at line.actor.now))
    → map shown old ++ stretches stop (at + 2) (behind stop (map seen lines) at) (map seen (drop at lines)) ≡ stretches stop 2 nothing_known (map seen lines)
    → map shown new ++ stretches stop (at + 1 + 2) (behind stop (map seen lines) (at + 1)) (map seen (drop (at + 1) lines)) ≡ stretches stop 2 nothing_known (map seen lines)
found-behind stop lines at end old new line d within is end_is more so_far =
    let rest = map seen (drop (at + 1) lines) in
    let known = behind stop (map seen lines) at in
    let began = stretch (at + 2) line.actor.now (interrupted stop line.actor.now rest) (begins_by stop line.beat (turn_of (seen line).says) (known line.actor.now)) in
    let whole : drop at lines ≡ line ∷ drop (at + 1) lines
    = drop-cons lines at d within ∙ ap (λ x. x ∷ drop (suc at) lines) (sym is) ∙ ap (λ n. line ∷ drop n lines) (sym (add-one at)) in
    let next : with_line stop (seen line) known ≡ behind stop (map seen lines) (at + 1)
    = ap (λ l. with_line stop l known) (ap seen is ∙ sym (get_or-map seen lines at d (seen d) within))
    ∙ sym (behind-next stop nothing_known (map seen lines) at (seen d) (subst (λ n. at < n) (sym (length-map lines seen)) within))
    ∙ ap (behind stop (map seen lines)) (sym (add-one at)) in
    let number : at + 1 + 2 ≡ at + 2 + 1 = omega arith in
    let ends_there : end ≡ interrupted stop line.actor.now rest = end_is ∙ ap (λ l. interrupted stop l.actor.now rest) (sym is) in
    ap (λ ss. ss ++ stretches stop (at + 1 + 2) (behind stop (map seen lines) (at + 1)) rest)
    (more ∙ ap (λ n. map shown old ++ stretch (at + 2) line.actor.now n (begins_by stop line.beat (turn_of (seen line).says) (known line.actor.now))) ends_there)
    ∙ append_assoc (map shown old) began (stretches stop (at + 1 + 2) (behind stop (map seen lines) (at + 1)) rest)
    ∙ ap (λ n. map shown old ++ (began ++ stretches stop n (behind stop (map seen lines) (at + 1)) rest)) number
    ∙ ap (λ k. map shown old ++ (began ++ stretches stop (at + 2 + 1) k rest)) (sym next)
    ∙ ap (λ ss. map shown old ++ ss) (sym (stretches-more stop (at + 2) known (seen line) rest))
    ∙ ap (λ ls. map shown old ++ stretches stop (at + 2) known (map seen ls)) (sym whole)
    ∙ so_far

pub none-popped : (stop : ℕ) (lines : List (Line (Bor (List ℕ)))) (at : ℕ) (ends_left : List ℕ) (found : List (Stretch (Bor (List ℕ))))
    → ends_left ≡ reverse (ends stop (map seen (drop at lines))) → ends_left ≡ []
    → map shown found ++ stretches stop (at + 2) (behind stop (map seen lines) at) (map seen (drop at lines)) ≡ stretches stop 2 nothing_known (map seen lines)
    → map shown found ≡ stretches stop 2 nothing_known (map seen lines)
none-popped stop lines at ends_left found so_far none whole = by (drop at lines) refl
  where
    by : (rest : List (Line (Bor (List ℕ)))) → drop at lines ≡ rest → map shown found ≡ stretches stop 2 nothing_known (map seen lines)
    by [] is =
        sym (append-nil (map shown found))
        ∙ ap (λ ss. map shown found ++ ss) (sym (stretches-none stop (at + 2) (behind stop (map seen lines) at)))
        ∙ ap (λ ls. map shown found ++ stretches stop (at + 2) (behind stop (map seen lines) at) (map seen ls)) (sym is) ∙ whole
    by (line ∷ rest) is =
        let es = ends stop (map seen rest) in
        let end = interrupted stop line.actor.now (map seen rest) in
        let turned : reverse (end ∷ es) ≡ [] = ap (λ ls. reverse (ends stop (map seen ls))) (sym is) ∙ sym so_far ∙ none in
        let empty : end ∷ es ≡ [] = sym (reverse-reverse (end ∷ es)) ∙ ap (λ xs. reverse xs) turned in
        absurd cc
