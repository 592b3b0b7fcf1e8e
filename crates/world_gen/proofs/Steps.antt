-- One step of the loops that draw.
use Rattle.std.proofs.Common.{◌≡◌, ℕ, suc, ◌+◌, ◌<◌, List, [], ◌∷◌, ◌++◌, ap, ap₂, sym, refl, ◌∙◌, append_assoc, mod-lt, add-one}
use Rattle.rand_pcg.specs.Lcg.{Lcg}
use Rattle.rand_pcg.specs.Pcg.{pcg32}
use Rattle.kube_objects.specs.declared.key.Key.{Key}
use Rattle.kube_objects.specs.declared.object.Object.{Object}
use Rattle.world_gen.specs.declared.crash.Crash.{Crash}
use Rattle.world_gen.specs.declared.pod.Placing.{Placing}
use Rattle.world_gen.specs.Draws.{Drawn, draw, crash_of, crashes, placing}
use Rattle.world_gen.specs.Generated.{pod_item, pod_items}

-- ---- crashes

abbrev crashes_then : ℕ → ℕ → Drawn (List Crash) → Drawn (List Crash)
crashes_then beats i before =
    let next = crash_of beats i before.rest in
    record { value = before.value ++ next.value; rest = next.rest }

crashes-suc : (beats i : ℕ) (g : Lcg) → crashes beats (suc i) g ≡ crashes_then beats i (crashes beats i g)
unfolding crashes
crashes-suc beats i g = refl

crashes-more : (beats i : ℕ) (g : Lcg) → crashes beats (i + 1) g ≡ crashes_then beats i (crashes beats i g)
crashes-more beats i g = ap (λ n. crashes beats n g) (add-one i) ∙ crashes-suc beats i g

pub crashes-start : (beats : ℕ) (g : Lcg) → crashes beats 0 g ≡ record { value = []; rest = g }
unfolding crashes
crashes-start beats g = refl

module _ (beats i : ℕ) (g rest after : Lcg) (all new : List Crash)
    (same : all ≡ (crashes beats i g).value) (left : rest ≡ (crashes beats i g).rest) where
  pub crashes-value : new ≡ all ++ (crash_of beats i rest).value → new ≡ (crashes beats (i + 1) g).value
  crashes-value e = e ∙ ap₂ (λ xs r. xs ++ (crash_of beats i r).value) same left ∙ sym (ap (λ d. d.value) (crashes-more beats i g))

  pub crashes-rest : after ≡ (crash_of beats i rest).rest → after ≡ (crashes beats (i + 1) g).rest
  crashes-rest e = e ∙ ap (λ r. (crash_of beats i r).rest) left ∙ sym (ap (λ d. d.rest) (crashes-more beats i g))

-- ---- Pods

abbrev pods_then : ℕ → ℕ → Drawn (List (Key × Object)) → Drawn (List (Key × Object))
pods_then nodes j before =
    let at = placing nodes before.rest in
    record { value = before.value ++ pod_item nodes j at.value ∷ []; rest = at.rest }

pods-suc : (nodes j : ℕ) (g : Lcg) → pod_items nodes (suc j) g ≡ pods_then nodes j (pod_items nodes j g)
unfolding pod_items
pods-suc nodes j g = refl

pods-more : (nodes j : ℕ) (g : Lcg) → pod_items nodes (j + 1) g ≡ pods_then nodes j (pod_items nodes j g)
pods-more nodes j g = ap (λ n. pod_items nodes n g) (add-one j) ∙ pods-suc nodes j g

pub pods-start : (nodes : ℕ) (g : Lcg) → pod_items nodes 0 g ≡ record { value = []; rest = g }
unfolding pod_items
pods-start nodes g = refl

module _ (nodes j : ℕ) (g rest after : Lcg) (start items new : List (Key × Object)) (at : Placing)
    (same : items ≡ start ++ (pod_items nodes j g).value) (left : rest ≡ (pod_items nodes j g).rest) where
  pub pods-value : at ≡ (placing nodes rest).value → new ≡ items ++ pod_item nodes j at ∷ []
      → new ≡ start ++ (pod_items nodes (j + 1) g).value
  pods-value drawn e =
      e ∙ ap₂ (λ xs p. xs ++ pod_item nodes j p ∷ []) same (drawn ∙ ap (λ r. (placing nodes r).value) left)
      ∙ append_assoc start (pod_items nodes j g).value (pod_item nodes j (placing nodes (pod_items nodes j g).rest).value ∷ [])
      ∙ ap (λ d. start ++ d.value) (sym (pods-more nodes j g))

  pub pods-rest : after ≡ (placing nodes rest).rest → after ≡ (pod_items nodes (j + 1) g).rest
  pods-rest e = e ∙ ap (λ r. (placing nodes r).rest) left ∙ sym (ap (λ d. d.rest) (pods-more nodes j g))

-- ---- draws

pub draw-below : (n : ℕ) (g : Lcg) → 0 < n → (draw n g).value < n
unfolding draw
draw-below n g some = mod-lt (pcg32 g).0 some
