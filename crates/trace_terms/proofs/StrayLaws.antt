-- The acting lines before their actor's first lead are the first ones of the seats.
use Rattle.std.proofs.Common.{◌≡◌, ℕ, Bool, true, false, cond, not, List, [], ◌∷◌, Option, Some, None, refl, sym, ap, subst, ◌∙◌}
use Rattle.std.specs.List.{filter, list_any}
use Rattle.std.specs.Str.{bytes_eq}
use Rattle.std.proofs.lemmas.Slice.Eq.{bytes_eq-Decides}
use Rattle.trace_terms.specs.declared.role.Role.{Role}
use Rattle.trace_terms.specs.declared.role.Role.TheVariants.{Leads, Ends, Zones, Taints, Acts, Idles}
use Rattle.trace_terms.specs.declared.seat.Seat.{Seat}
use Rattle.trace_terms.specs.Entries.{Entry}
use Rattle.trace_terms.specs.Terms.{own, own_with, is_lead, is_acting}
use Rattle.trace_terms.specs.Findings.{earlier, least, numbers, strays}
use Rattle.trace_terms.specs.Seats.{SeatStands, AllSit, blank, first_acting}
use Rattle.trace_terms.proofs.Least.{least_by, by_actor, AreHeld, least-grouped, least_by-same}

-- ---- the strays of an actor are its own lines

abbrev without : List ℕ → List Entry → List Entry
without who es = filter (λ a. not (bytes_eq a.actor who)) es

-- no line of an actor is left without it
without-same : (a who : List ℕ) (es : List Entry) → bytes_eq a who ≡ true → by_actor who (without a es) ≡ []
without-same a who [] same = refl
without-same a who (e ∷ es) same = by (bytes_eq e.actor a) refl (without-same a who es same)
  where
    miss : bytes_eq e.actor a ≡ false → bytes_eq e.actor who ≡ false
    miss other = subst (λ w. bytes_eq e.actor w ≡ false) ((bytes_eq-Decides a who).0 same) other

    by : (b : Bool) → bytes_eq e.actor a ≡ b → by_actor who (without a es) ≡ [] → by_actor who (cond (not b) (e ∷ without a es) (without a es)) ≡ []
    by true is rest = rest
    by false is rest = ap (λ b. cond b (e ∷ by_actor who (without a es)) (by_actor who (without a es))) (miss is) ∙ rest

-- the lines of another are
without-other : (a who : List ℕ) (es : List Entry) → bytes_eq a who ≡ false → by_actor who (without a es) ≡ by_actor who es
without-other a who [] other = refl
without-other a who (e ∷ es) other = by (bytes_eq e.actor a) refl (without-other a who es other)
  where
    miss : bytes_eq e.actor a ≡ true → bytes_eq e.actor who ≡ false
    miss is = subst (λ w. bytes_eq w who ≡ false) (sym ((bytes_eq-Decides e.actor a).0 is)) other

    by : (b : Bool) → bytes_eq e.actor a ≡ b → by_actor who (without a es) ≡ by_actor who es
        → by_actor who (cond (not b) (e ∷ without a es) (without a es)) ≡ by_actor who (e ∷ es)
    by true is rest = rest ∙ sym (ap (λ b. cond b (e ∷ by_actor who es) (by_actor who es)) (miss is))
    by false is rest = ap (λ l. cond (bytes_eq e.actor who) (e ∷ l) l) rest

pub strays-own : (who : List ℕ) (es : List Entry) → by_actor who (strays es) ≡ own who es
unfolding strays own
strays-own who [] = refl
strays-own who (e ∷ es) = by e.role (strays-own who es)
  where
    lead : (b : Bool) → bytes_eq e.actor who ≡ b → by_actor who (strays es) ≡ own who es → by_actor who (without e.actor (strays es)) ≡ cond b [] (own who es)
    lead true is rest = without-same e.actor who (strays es) is
    lead false is rest = without-other e.actor who (strays es) is ∙ rest

    act : (b : Bool) → by_actor who (strays es) ≡ own who es → cond b (e ∷ by_actor who (strays es)) (by_actor who (strays es)) ≡ cond b (e ∷ own who es) (own who es)
    act b rest = ap (λ l. cond b (e ∷ l) l) rest

    pass : (b : Bool) → by_actor who (strays es) ≡ own who es → by_actor who (strays es) ≡ cond b (own who es) (own who es)
    pass true rest = rest
    pass false rest = rest

    by : (role : Role (List ℕ)) → by_actor who (strays es) ≡ own who es
        → by_actor who (cond (is_lead role) (without e.actor (strays es)) (cond (is_acting role) (e ∷ strays es) (strays es))) ≡ cond (bytes_eq e.actor who) (own_with role e (own who es)) (own who es)
    by Leads rest = lead (bytes_eq e.actor who) refl rest
    by Ends rest = pass (bytes_eq e.actor who) rest
    by (Zones zone rate) rest = act (bytes_eq e.actor who) rest
    by Taints rest = act (bytes_eq e.actor who) rest
    by Acts rest = act (bytes_eq e.actor who) rest
    by Idles rest = pass (bytes_eq e.actor who) rest

-- ---- their actors are held

some : (n : ℕ) (o : Option ℕ) → earlier (Some n) o ≡ None → ⊥
some n None e = cc
some n (Some m) e = cc

all-held : (ks : List (List ℕ)) (es : List Entry) → ((who : List ℕ) → list_any (bytes_eq who) ks ≡ false → least (numbers (by_actor who es)) ≡ None) → AreHeld ks es
all-held ks [] f = tt
all-held ks (e ∷ es) f = by (λ g. all-held ks es g) (list_any (bytes_eq e.actor) ks) refl
  where
    same : bytes_eq e.actor e.actor ≡ true
    same = (bytes_eq-Decides e.actor e.actor).1 refl

    miss : (who : List ℕ) → list_any (bytes_eq e.actor) ks ≡ true → list_any (bytes_eq who) ks ≡ false → (b : Bool) → bytes_eq e.actor who ≡ b → bytes_eq e.actor who ≡ false
    miss who held denied false is = is
    miss who held denied true is =
        absurd (let bad : true ≡ false = sym held ∙ subst (λ w. list_any (bytes_eq w) ks ≡ false) (sym ((bytes_eq-Decides e.actor who).0 is)) denied in cc)

    rest : list_any (bytes_eq e.actor) ks ≡ true → (who : List ℕ) → list_any (bytes_eq who) ks ≡ false → least (numbers (by_actor who es)) ≡ None
    rest held who denied =
        ap (λ b. least (numbers (cond b (e ∷ by_actor who es) (by_actor who es)))) (sym (miss who held denied (bytes_eq e.actor who) refl)) ∙ f who denied

    by : (((who : List ℕ) → list_any (bytes_eq who) ks ≡ false → least (numbers (by_actor who es)) ≡ None) → AreHeld ks es)
        → (b : Bool) → list_any (bytes_eq e.actor) ks ≡ b → AreHeld ks (e ∷ es)
    by again true held = (held, again (rest held))
    by again false denied =
        absurd (some e.line (least (numbers (by_actor e.actor es))) (ap (λ b. least (numbers (cond b (e ∷ by_actor e.actor es) (by_actor e.actor es)))) (sym same) ∙ f e.actor denied))

-- ---- the first stray

first-seats : (stop : ℕ) (es : List Entry) (ks : List (List ℕ)) (ss : List Seat) → AllSit (SeatStands stop es) ks ss
    → first_acting ss ≡ least_by (λ k. least (numbers (own k es))) ks
first-seats stop es [] [] h = refl
first-seats stop es [] (s ∷ ss) h = absurd h
first-seats stop es (k ∷ ks) [] h = absurd h
first-seats stop es (k ∷ ks) (s ∷ ss) h = ap (λ l. earlier l (first_acting ss)) h.0.first ∙ ap (λ l. earlier (least (numbers (own k es))) l) (first-seats stop es ks ss h.1)

pub first-stray : (stop : ℕ) (es : List Entry) (ks : List (List ℕ)) (ss : List Seat) → AllSit (SeatStands stop es) ks ss
    → ((who : List ℕ) → list_any (bytes_eq who) ks ≡ false → SeatStands stop es who (blank stop)) → first_acting ss ≡ least (numbers (strays es))
first-stray stop es ks ss h absent =
    first-seats stop es ks ss h
    ∙ least_by-same (λ k. least (numbers (own k es))) (λ k. least (numbers (by_actor k (strays es)))) (λ k. ap (λ l. least (numbers l)) (sym (strays-own k es))) ks
    ∙ least-grouped ks (strays es) (all-held ks (strays es) (λ who denied. ap (λ l. least (numbers l)) (strays-own who es) ∙ sym (absent who denied).first))
