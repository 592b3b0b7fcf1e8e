-- The present incarnation was counted, and one that is over stays so.
use Rattle.std.proofs.Common.{◌≡◌, ◌⊎◌, ℕ, ◌+◌, ◌==◌, ◌&&◌, ◌<◌, ◌≤◌, Bool, true, false, List, ◌∷◌, Option, Some, None, refl, sym, ap, subst, inl, inr, arith}
use Rattle.std.proofs.lemmas.Bool.{eqb-true}
use Rattle.kube_objects.specs.declared.deed.Actor.{Actor}
use Rattle.kube_objects.specs.Entry.{Entry, Identity, Fact, First, Event, Starts, Crashes, Stops, Stalls, Ends, ReleaseBegins, ReleaseEnds, StepsDown, ReleaseStops, Sends, Answers, Delivers, Expires, Leads, Ticks}
use Rattle.kube_objects.specs.Identities.{of_process}
use Rattle.kube_objects.specs.Newest.{added, when, join, has}
use Rattle.kube_objects.specs.Process.{born, gone, life_says, life, alive, is_start, starts}
use Rattle.history_laws.proofs.Plainly.{upper, some_is, none_is, added_more}
use Rattle.history_laws.proofs.Walk.{StartIsNext}

-- the present incarnation was counted
abbrev pub Counted : List Entry → Type 0
Counted h = (p i : ℕ) → alive p h ≡ Some i → i ≤ starts p h

-- the incarnation was there, and isn't the present one
abbrev pub Over : Identity → List Entry → Type 0
Over q h = (q.incarnation ≤ starts q.process h) × (alive q.process h ≡ Some q.incarnation → ⊥)

started : (p d : ℕ) (h : List Entry) (A : ℕ → Option ℕ → Type 0) → (n : ℕ) → ((p == d) ≡ true → A (starts d h + 1) (Some n)) → A (starts d h) (alive d h)
    → A (added (has (when (p == d) n)) (starts d h)) (join (upper (born (when (p == d) n)) (life d h)))
started p d h A n own other = by_test (p == d) refl
  where
    by_test : (b : Bool) → (p == d) ≡ b → A (added (has (when b n)) (starts d h)) (join (upper (born (when b n)) (life d h)))
    by_test true is = own is
    by_test false is = other

lost : (o : Option ℕ) (last : Option (Option ℕ)) (i : ℕ) → join (upper (gone o) last) ≡ Some i → join last ≡ Some i
lost None last i up = up
lost (Some j) last i up = absurd (none_is i up)

pub counted_more : (x : Entry) (h : List Entry) → StartIsNext x.actor x.fact h → Counted h → Counted (x ∷ h)
counted_more x h next s p = cases x.actor x.fact next
  where
    cases : (who : Actor) (d : Fact) → StartIsNext who d h → (i : ℕ) → join (upper (life_says p who d) (life p h)) ≡ Some i → i ≤ added (is_start d && has (of_process p who)) (starts p h)
    cases who Starts next =
        subst (λ who. (i : ℕ) → join (upper (life_says p who Starts) (life p h)) ≡ Some i → i ≤ added (has (of_process p who)) (starts p h)) (sym next.1)
        (started next.0 p h (λ n o. (i : ℕ) → o ≡ Some i → i ≤ n) (starts next.0 h + 1)
        (λ is i up. omega (arith, some_is _ _ up, ap (λ d. starts d h) (eqb-true next.0 p is))) (s p))
    cases who Crashes next = λ i up. s p i (lost (of_process p who) (life p h) i up)
    cases who Stops next = λ i up. s p i (lost (of_process p who) (life p h) i up)
    cases who Ends next = λ i up. s p i (lost (of_process p who) (life p h) i up)
    cases who ReleaseEnds next = λ i up. s p i (lost (of_process p who) (life p h) i up)
    cases who (ReleaseBegins at_deadline) next = s p
    cases who StepsDown next = s p
    cases who ReleaseStops next = s p
    cases who (Stalls beats) next = s p
    cases who (First key object) next = s p
    cases who (Event what version) next = s p
    cases who (Sends call arrives) next = s p
    cases who (Answers call reply comes written) next = s p
    cases who (Delivers call reply counted) next = s p
    cases who (Expires call) next = s p
    cases who (Leads version) next = s p
    cases who (Ticks tick) next = s p

-- who is up after an entry was so before, or hadn't started yet
pub lived_before : (q : Identity) (x : Entry) (h : List Entry) → StartIsNext x.actor x.fact h → alive q.process (x ∷ h) ≡ Some q.incarnation
    → (alive q.process h ≡ Some q.incarnation) ⊎ (starts q.process h < q.incarnation)
lived_before q x h next = cases x.actor x.fact next
  where
    Before : Type 0
    Before = (alive q.process h ≡ Some q.incarnation) ⊎ (starts q.process h < q.incarnation)

    cases : (who : Actor) (d : Fact) → StartIsNext who d h → join (upper (life_says q.process who d) (life q.process h)) ≡ Some q.incarnation → Before
    cases who Starts next =
        subst (λ who. join (upper (life_says q.process who Starts) (life q.process h)) ≡ Some q.incarnation → Before) (sym next.1)
        (started next.0 q.process h (λ n o. o ≡ Some q.incarnation → Before) (starts next.0 h + 1)
        (λ is up. inr (omega (arith, some_is _ _ up, ap (λ d. starts d h) (eqb-true next.0 q.process is)))) (λ up. inl up))
    cases who Crashes next = λ up. inl (lost (of_process q.process who) (life q.process h) q.incarnation up)
    cases who Stops next = λ up. inl (lost (of_process q.process who) (life q.process h) q.incarnation up)
    cases who Ends next = λ up. inl (lost (of_process q.process who) (life q.process h) q.incarnation up)
    cases who ReleaseEnds next = λ up. inl (lost (of_process q.process who) (life q.process h) q.incarnation up)
    cases who _ next = λ up. inl up

pub starts_more : (p : ℕ) (x : Entry) (h : List Entry) → starts p h ≤ starts p (x ∷ h)
starts_more p x h = added_more (is_start x.fact && has (of_process p x.actor)) (starts p h)

pub over_more : (q : Identity) (x : Entry) (h : List Entry) → StartIsNext x.actor x.fact h → Over q h → Over q (x ∷ h)
over_more q x h next s = cases x.actor x.fact next
  where
    cases : (who : Actor) (d : Fact) → StartIsNext who d h → (q.incarnation ≤ added (is_start d && has (of_process q.process who)) (starts q.process h)) × (join (upper (life_says q.process who d) (life q.process h)) ≡ Some q.incarnation → ⊥)
    cases who Starts next =
        subst (λ who. (q.incarnation ≤ added (has (of_process q.process who)) (starts q.process h)) × (join (upper (life_says q.process who Starts) (life q.process h)) ≡ Some q.incarnation → ⊥)) (sym next.1)
        (started next.0 q.process h (λ n o. (q.incarnation ≤ n) × (o ≡ Some q.incarnation → ⊥)) (starts next.0 h + 1)
        (λ is. (omega (arith, s.0), λ up. absurd (omega (arith, s.0, some_is _ _ up, ap (λ d. starts d h) (eqb-true next.0 q.process is))))) s)
    cases who Crashes next = (s.0, λ up. s.1 (lost (of_process q.process who) (life q.process h) q.incarnation up))
    cases who Stops next = (s.0, λ up. s.1 (lost (of_process q.process who) (life q.process h) q.incarnation up))
    cases who Ends next = (s.0, λ up. s.1 (lost (of_process q.process who) (life q.process h) q.incarnation up))
    cases who ReleaseEnds next = (s.0, λ up. s.1 (lost (of_process q.process who) (life q.process h) q.incarnation up))
    cases who (ReleaseBegins at_deadline) next = s
    cases who StepsDown next = s
    cases who ReleaseStops next = s
    cases who (Stalls beats) next = s
    cases who (First key object) next = s
    cases who (Event what version) next = s
    cases who (Sends call arrives) next = s
    cases who (Answers call reply comes written) next = s
    cases who (Delivers call reply counted) next = s
    cases who (Expires call) next = s
    cases who (Leads version) next = s
    cases who (Ticks tick) next = s
