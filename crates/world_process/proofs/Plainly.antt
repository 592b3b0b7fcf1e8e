-- An entry keeps what holds of every history.
use Rattle.std.proofs.Common.{IfSome, nat_lt, ◌≡◌, ℕ, ◌+◌, ◌<◌, ◌≤◌, ◌&&◌, Bool, true, false, List, ◌∷◌, refl, ap, ◌∙◌, subst, arith}
use Rattle.kube_objects.specs.Entry.{Entry, Identity, Fact, Starts, entry, actor_of}
use Rattle.kube_objects.specs.Identities.{identity, is_by, of_process, identity_of}
use Rattle.kube_objects.specs.Newest.{added, has}
use Rattle.kube_objects.specs.Process.{is_start, starts}
use Rattle.world_process.specs.Plain.{IsKnown, IsPlain}
use Rattle.world_process.proofs.Names.{lt-from, le-from, is_same-self, is_same-process, is_same-incarnation, of_process-own}

pub added-more : (b : Bool) (n : ℕ) → n ≤ added b n
added-more true n = omega arith
added-more false n = omega arith

pub starts-more : (p : ℕ) (e : Entry) (h : List Entry) → starts p h ≤ starts p (e ∷ h)
starts-more p e h = added-more (is_start e.fact && has (of_process p e.actor)) (starts p h)

-- the started incarnation is the next one
pub starts-start : (k step : ℕ) (q : Identity) (h : List Entry) → starts q.process (entry k step q Starts ∷ h) ≡ starts q.process h + 1
starts-start k step q h = ap (λ o. added (has o) (starts q.process h)) (of_process-own q)

-- an entry of a process that is known keeps what holds of every history
pub plain-entry : (n k step : ℕ) (q : Identity) (d : Fact) (h : List Entry) → IsKnown n (entry k step q d ∷ h) q → IsPlain n h → IsPlain n (entry k step q d ∷ h)
plain-entry n k step q d h known s =
    record {
      fresh = λ p i less. (by_test p i less (is_by (identity p i) (actor_of q)) refl, s.fresh p i (omega (arith, less, starts-more p (entry k step q d) h)));
      all = (known.within, s.all);
    }
  where
    same : (p i : ℕ) → starts p (entry k step q d ∷ h) < i → is_by (identity p i) (actor_of q) ≡ true → ⊥
    same p i less is =
        let process : q.process ≡ p = is_same-process q (identity p i) is in
        let incarnation : q.incarnation ≡ i = is_same-incarnation q (identity p i) is in
        let now : q.incarnation ≤ starts p (entry k step q d ∷ h) = subst (λ x. q.incarnation ≤ starts x (entry k step q d ∷ h)) process known.started in
        omega (arith, less, now, incarnation)

    by_test : (p i : ℕ) → starts p (entry k step q d ∷ h) < i → (b : Bool) → is_by (identity p i) (actor_of q) ≡ b → b ≡ false
    by_test p i less true is = absurd (same p i less is)
    by_test p i less false is = refl

-- who was known stays known
pub known-later : (n : ℕ) (e : Entry) (h : List Entry) (q : Identity) → IsKnown n h q → IsKnown n (e ∷ h) q
known-later n e h q known = record { within = known.within; started = let more = starts-more q.process e h in omega (arith, more, known.started) }

-- who has an entry is known
pub heard-known : (n : ℕ) (q : Identity) (e : Entry) (h : List Entry) → e.actor ≡ actor_of q → IsPlain n (e ∷ h) → IsKnown n (e ∷ h) q
heard-known n q e h is s =
    record {
      within = subst (λ who. IfSome (identity_of who) (λ x. x.process < n)) is s.all.0;
      started = by_order (nat_lt (starts q.process (e ∷ h)) q.incarnation) refl;
    }
  where
    never : starts q.process (e ∷ h) < q.incarnation → ⊥
    never less =
        let unheard : is_by q e.actor ≡ false = (s.fresh q.process q.incarnation less).0 in
        let heard : is_by q e.actor ≡ true = ap (is_by q) is ∙ is_same-self q in
        cc

    by_order : (b : Bool) → nat_lt (starts q.process (e ∷ h)) q.incarnation ≡ b → q.incarnation ≤ starts q.process (e ∷ h)
    by_order true is = absurd (never (lt-from (starts q.process (e ∷ h)) q.incarnation is))
    by_order false is = le-from (starts q.process (e ∷ h)) q.incarnation is
