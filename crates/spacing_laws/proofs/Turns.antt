-- What is known of a history's entries, and of each turn of a queued node.
use Rattle.std.proofs.Common.{◌≡◌, ◌∙◌, ℕ, true, List, [], ◌∷◌, refl, sym, subst, inl, inr}
use Rattle.kube_objects.specs.Document.{Doc}
use Rattle.kube_objects.specs.Entry.{Entry, Identity, Place, Fact, Ticks, Tick, Head, Skip, actor_of}
use Rattle.kube_objects.specs.Identities.{is_by}
use Rattle.kube_objects.specs.Tokens.{has_token}
use Rattle.history.specs.Evictions.{IfBy}
use Rattle.history.specs.Spacing.{is_head, AtHead, AtHeadsIn}
use Rattle.history_laws.specs.Order.{IsOrdered}
use Rattle.history_laws.proofs.Plainly.{false_is, same_self, same_is}
use Rattle.tick_laws.proofs.Orders.{same_place, place_itself}
use Rattle.spacing_laws.proofs.Rows.{ZonesFirst}
use Rattle.spacing_laws.proofs.Spaced.{TokensAt, Tokens, Acted}

-- A says who acts at a beat
pub record IsKnown (doc : Doc) (A : Identity → ℕ → Type 0) (h : List Entry) : Type 0 where
  pub ordered : IsOrdered h
  pub firsts : ZonesFirst h
  pub tokens : Tokens doc h
  pub acted : Acted A h

pub known_below : (doc : Doc) (A : Identity → ℕ → Type 0) (e : Entry) (h : List Entry) → IsKnown doc A (e ∷ h) → IsKnown doc A h
known_below doc A e h known = record { ordered = known.ordered.1; firsts = known.firsts.1; tokens = known.tokens.1; acted = λ f at. known.acted f (inr at) }

-- an entry is of somebody who acts, and the token of its zone is there
pub record IsTurn (doc : Doc) (A : Identity → ℕ → Type 0) (place : Place) (e : Entry) (h : List Entry) : Type 0 where
  pub q : Identity
  pub by : e.actor ≡ actor_of q
  pub acts : A q e.beat
  pub token : has_token doc q e.beat place h ≡ true

pub by_is : (p q : Identity) → actor_of p ≡ actor_of q → p ≡ q
by_is p q is = same_is p q (subst (λ who. is_by q who ≡ true) (sym is) (same_self q))

module _ (doc : Doc) (A : Identity → ℕ → Type 0) where
  pub turn_of : (place : Place) (e : Entry) (h : List Entry) → IsKnown doc A (e ∷ h) → is_head place e.fact ≡ true → IsTurn doc A place e h
  turn_of place e h known head = cases e.fact refl known.tokens.0 head
    where
      from : (t : Tick) → e.fact ≡ Ticks t → (p : Place) → place ≡ p → (q : Identity) → e.actor ≡ actor_of q → has_token doc q e.beat p h ≡ true → IsTurn doc A place e h
      from t fact p same q by token =
          let acting = known.acted e (inl refl) t fact in
          let mine : acting.0 ≡ q = by_is acting.0 q (sym acting.1 ∙ by) in
          record { q = q; by = by; acts = subst (λ q. A q e.beat) mine acting.2; token = subst (λ p. has_token doc q e.beat p h ≡ true) (sym same) token }

      cases : (d : Fact) → e.fact ≡ d → TokensAt doc e.beat e.actor d h → is_head place d ≡ true → IsTurn doc A place e h
      cases (Ticks (Head p name wanted given node answer)) fact (q, by, token) head = from (Head p name wanted given node answer) fact p (sym (same_place p place head)) q by token
      cases (Ticks (Skip p name)) fact (q, by, token) head = from (Skip p name) fact p (sym (same_place p place head)) q by token
      cases d fact token head = absurd (false_is head)

  -- what holds at each turn holds in all of the history
  module _ (Claim : Identity → ℕ → Place → List Entry → Type 0)
      (each : (place : Place) (e : Entry) (h : List Entry) → IsKnown doc A (e ∷ h) → (t : IsTurn doc A place e h) → Claim t.q e.beat place h) where
    claim_at : (e : Entry) (h : List Entry) → IsKnown doc A (e ∷ h) → (d : Fact) → e.fact ≡ d → AtHead Claim e.beat e.actor d h
    claim_at e h known d fact = cases d fact
      where
        by_turn : (place : Place) → IsTurn doc A place e h → IfBy e.actor (λ q. Claim q e.beat place h)
        by_turn place t = subst (λ who. IfBy who (λ q. Claim q e.beat place h)) (sym t.by) (each place e h known t)

        cases : (d : Fact) → e.fact ≡ d → AtHead Claim e.beat e.actor d h
        cases (Ticks (Head place name wanted given node answer)) fact =
            by_turn place (turn_of place e h known (subst (λ d. is_head place d ≡ true) (sym fact) (place_itself place)))
        cases (Ticks (Skip place name)) fact = by_turn place (turn_of place e h known (subst (λ d. is_head place d ≡ true) (sym fact) (place_itself place)))
        cases d fact = tt

    pub claims_in : (h : List Entry) → IsKnown doc A h → AtHeadsIn Claim h
    claims_in [] known = tt
    claims_in (e ∷ h) known = (claim_at e h known e.fact refl, claims_in h (known_below doc A e h known))
