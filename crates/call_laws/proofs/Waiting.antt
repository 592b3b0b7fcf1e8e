-- A call waits until it is closed.
use Rattle.std.proofs.Common.{◌≡◌, ◌⊎◌, ◌≤◌, ℕ, Bool, true, false, List, [], ◌∷◌, Option, Some, None, refl, sym, ap, ◌∙◌, subst, inl, inr}
use Rattle.kube_objects.specs.declared.deed.Actor.{Actor}
use Rattle.kube_objects.specs.Document.{Doc, is_controller}
use Rattle.kube_objects.specs.Entry.{Entry, Identity, Call, Fact, First, Event as Happens, Stops, Sends, Delivers, Expires, actor_of, entry, StepsDown, ReleaseBegins, ReleaseEnds, ReleaseStops}
use Rattle.kube_objects.specs.Identities.{is_same, is_by}
use Rattle.kube_objects.specs.Newest.{when, join}
use Rattle.kube_objects.specs.Process.{alive, open_as, call_says, last_call, call_in}
use Rattle.kube_objects.specs.Own.{ReleasesByStop}
use Rattle.history.specs.History.{history}
use Rattle.history_laws.specs.Tails.{IsTail}
use Rattle.history_laws.proofs.Counting.{counted_is}
use Rattle.history_laws.proofs.Plainly.{upper, some_is, none_is, same_is, same_self}
use Rattle.history_laws.proofs.Tailed.{tail_all, tail_trans, tail_of_empty, same_head}
use Rattle.call_laws.specs.Waiting.{Closes, IsClosed, CallsWait}
use Rattle.call_laws.proofs.Making.{MadeAs, HasStopped, are_made, IsOpen}

-- the call still waits after an entry, or the entry closes it, or its sender was just stopped
abbrev Still : Identity → Call → Actor → Fact → List Entry → Type 0
Still q call who d h = (join (upper (call_says q who d) (last_call q h)) ≡ Some call) ⊎ (Closes q call who d ⊎ ((beat : ℕ) × (before : List Entry) × (h ≡ entry beat 1 q Stops ∷ before)))

by_of : (q p : Identity) (who : Actor) → who ≡ actor_of p → is_same p q ≡ true → is_by q who ≡ true
by_of q p who by same = ap (is_by q) by ∙ same

-- an entry of another, where the entry's own word is only on its actor's call
others : (q p : Identity) (who : Actor) (says : Option Call) (last : Option (Option Call)) (call : Call) → who ≡ actor_of p → is_same p q ≡ false → join last ≡ Some call
    → join (upper (when (is_by q who) says) last) ≡ Some call
others q p who says last call by other waits = ap (λ b. join (upper (when b says) last)) (ap (is_by q) by ∙ other) ∙ waits

still : (doc : Doc) (k step : ℕ) (who : Actor) (d : Fact) (h : List Entry) (q : Identity) (call : Call) → is_controller doc q.process ≡ true → MadeAs doc k step who d h → call_in q h ≡ Some call → Still q call who d h
still doc k step who (First key object) h q call role made waits = inl waits
still doc k step who (Happens w version) h q call role made waits = inl waits
still doc k step who (Sends c arrives) h q call role made waits = by_test (is_same made.q q) refl
  where
    freed : made.q ≡ q → HasStopped k made.q made.kind h ⊎ ((alive made.q.process h ≡ Some made.q.incarnation) × (call_in made.q h ≡ None) × (3 ≤ step) × IsOpen made.kind) → Still q call who (Sends c arrives) h
    freed same (inl stopped) = inr (inr (k, stopped.before, subst (λ p. h ≡ entry k 1 p Stops ∷ stopped.before) same stopped.is))
    freed same (inr none) = absurd (none_is call (sym none.1 ∙ ap (λ p. call_in p h) same ∙ waits))

    by_test : (b : Bool) → is_same made.q q ≡ b → Still q call who (Sends c arrives) h
    by_test false other = inl (others q made.q who (open_as c.kind c) (last_call q h) call made.by other waits)
    by_test true is = let same : made.q ≡ q = same_is made.q q is in freed same (made.free (ap (λ (p : Identity). is_controller doc p.process) same ∙ role))
still doc k step who (Delivers c reply true) h q call role made waits = by_test (is_same made.b.who q) refl
  where
    by_test : (b : Bool) → is_same made.b.who q ≡ b → Still q call who (Delivers c reply true) h
    by_test false other = inl (others q made.b.who who None (last_call q h) call made.by other waits)
    by_test true is =
        let same : made.b.who ≡ q = same_is made.b.who q is in
        let r = counted_is doc made.b.who k made.b.call.number h c made.counted_is in
        inr (inl (by_of q made.b.who who made.by is, some_is c call (sym r.waits ∙ ap (λ p. call_in p h) same ∙ waits)))
still doc k step who (Expires c) h q call role made waits = by_test (is_same made.q q) refl
  where
    by_test : (b : Bool) → is_same made.q q ≡ b → Still q call who (Expires c) h
    by_test false other = inl (others q made.q who None (last_call q h) call made.by other waits)
    by_test true is =
        let same : made.q ≡ q = same_is made.q q is in
        inr (inl (by_of q made.q who made.by is, some_is c call (sym made.waits ∙ ap (λ p. call_in p h) same ∙ waits)))
still doc k step who StepsDown h q call role made waits = absurd made
still doc k step who (ReleaseBegins at_deadline) h q call role made waits = absurd made
still doc k step who ReleaseEnds h q call role made waits = absurd made
still doc k step who ReleaseStops h q call role made waits = absurd made
still doc k step who d h q call role made waits = inl waits

no_stop : (call : Call) (arrives : Option ℕ) → Sends call arrives ≡ Stops → ⊥
no_stop call arrives is = cc

module _ (doc : Doc) (own : ReleasesByStop doc) (m : ℕ) (q : Identity) (call : Call) (arrives : Option ℕ) (e : Entry) (before : List Entry) (role : is_controller doc q.process ≡ true)
    (actor : e.actor ≡ actor_of q) (fact : e.fact ≡ Sends call arrives) (opens : open_as call.kind call ≡ Some call) where
  sent : call_in q (e ∷ before) ≡ Some call
  sent =
      subst (λ d. join (upper (call_says q e.actor d) (last_call q before)) ≡ Some call) (sym fact)
      (subst (λ who. join (upper (when (is_by q who) (open_as call.kind call)) (last_call q before)) ≡ Some call) (sym actor)
      (ap (λ b. join (upper (when b (open_as call.kind call)) (last_call q before))) (same_self q) ∙ opens))

  -- the sending isn't the stop
  below : (beat : ℕ) (rest h : List Entry) → h ≡ entry beat 1 q Stops ∷ rest → IsTail (e ∷ before) h → IsTail (e ∷ before) rest
  below beat rest h is at = cases (subst (IsTail (e ∷ before)) is at)
    where
      cases : IsTail (e ∷ before) (entry beat 1 q Stops ∷ rest) → IsTail (e ∷ before) rest
      cases (inl same) = absurd (no_stop call arrives (sym fact ∙ ap (λ (e : Entry). e.fact) (same_head e (entry beat 1 q Stops) before rest same)))
      cases (inr at) = at

  calls_wait_in : (h : List Entry) → IsTail h (history doc m) → IsTail (e ∷ before) h → (call_in q h ≡ Some call) ⊎ IsClosed q call (e ∷ before) h
  calls_wait_in [] within at = absurd (tail_of_empty e before at)
  calls_wait_in (x ∷ h) within (inl is) = inl (subst (λ g. call_in q g ≡ Some call) is sent)
  calls_wait_in (x ∷ h) within (inr at) = cases (calls_wait_in h (tail_trans h (x ∷ h) (history doc m) (inr (tail_all h)) within) at)
    where
      cases : (call_in q h ≡ Some call) ⊎ IsClosed q call (e ∷ before) h → (call_in q (x ∷ h) ≡ Some call) ⊎ IsClosed q call (e ∷ before) (x ∷ h)
      cases (inr closed) = inr (record { e = closed.e; before = closed.before; position = inr closed.position; since = closed.since; closes = closed.closes })
      cases (inl waits) = by_entry (still doc x.beat x.step x.actor x.fact h q call role (are_made doc own m x h within) waits)
        where
          by_entry : Still q call x.actor x.fact h → (call_in q (x ∷ h) ≡ Some call) ⊎ IsClosed q call (e ∷ before) (x ∷ h)
          by_entry (inl waits) = inl waits
          by_entry (inr (inl closes)) = inr (record { e = x; before = h; position = inl refl; since = at; closes = closes })
          by_entry (inr (inr stopped)) =
              let stop = entry stopped.0 1 q Stops in
              inr (record { e = stop; before = stopped.1; position = inr (subst (λ g. IsTail (stop ∷ stopped.1) g) (sym stopped.2) (tail_all (stop ∷ stopped.1))); since = below stopped.0 stopped.1 h stopped.2 at; closes = same_self q })

pub calls_wait : CallsWait
calls_wait doc own m h within q call arrives e before role at actor fact opens = calls_wait_in doc own m q call arrives e before role actor fact opens h within at
