-- One step of a loop that adds for each item what a definition adds for it.
use Rattle.std.proofs.Common.{◌≡◌, ℕ, ◌+◌, ◌<◌, List, ◌∷◌, ◌++◌, length, drop, get_or, Option, refl, subst, sym, ap, ◌∙◌, add-one, drop-cons, append_assoc}
use Rattle.pod_tools.specs.declared.collecting.Cause.{Cause}
use Rattle.pod_tools.specs.declared.collecting.Pick.{Pick}
use Rattle.pod_tools.specs.declared.rows.CollectInput.{CollectInput}
use Rattle.pod_tools.specs.declared.rows.PodRow.{PodRow}
use Rattle.pod_tools.specs.Collected.{cause_of, collected_from, picked}

drop-at : {A : Type 0} (xs : List A) (place : ℕ) (x : A) → place < length xs → x ≡ get_or xs place x → drop place xs ≡ x ∷ drop (place + 1) xs
drop-at xs place x lt is = rw (add-one, drop-cons xs place x lt, sym is) refl

module _ {A B : Type 0} (walk : ℕ → List A → List B) (one : ℕ → A → List B)
    (step : (place : ℕ) (x : A) (rest : List A) → walk place (x ∷ rest) ≡ one place x ++ walk (place + 1) rest) where
  pub walk-step : (start done more : List B) (place : ℕ) (xs : List A) (x : A) → start ≡ done ++ walk place (drop place xs) → place < length xs
      → x ≡ get_or xs place x → more ≡ done ++ one place x → start ≡ more ++ walk (place + 1) (drop (place + 1) xs)
  walk-step start done more place xs x so_far lt is push =
      so_far ∙ ap (λ rest. done ++ walk place rest) (drop-at xs place x lt is)
      ∙ ap (λ ys. done ++ ys) (step place x (drop (place + 1) xs))
      ∙ sym (append_assoc done (one place x) (walk (place + 1) (drop (place + 1) xs)))
      ∙ ap (λ ys. ys ++ walk (place + 1) (drop (place + 1) xs)) (sym push)

-- a pod more was looked at
pub collect-step : (input : CollectInput) (done more : List Pick) (place : ℕ) (items : List PodRow) (row : PodRow) (cause : Option Cause)
    → items ≡ input.pods → collected_from input 0 input.pods ≡ done ++ collected_from input place (drop place input.pods) → place < length items
    → row ≡ get_or items place row → cause ≡ cause_of input place row → more ≡ done ++ picked place cause
    → collected_from input 0 input.pods ≡ more ++ collected_from input (place + 1) (drop (place + 1) input.pods)
collect-step input done more place items row cause same so_far lt is tells push =
    walk-step (collected_from input) (λ at item. picked at (cause_of input at item)) (λ at item rest. refl) (collected_from input 0 input.pods) done more place input.pods row so_far
    (subst (λ xs. place < length xs) same lt) (subst (λ xs. row ≡ get_or xs place row) same is) (push ∙ ap (λ o. done ++ picked place o) tells)
