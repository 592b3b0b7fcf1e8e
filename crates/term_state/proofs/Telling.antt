-- An entry that isn't printed.
use Rattle.std.proofs.Common.{◌≡◌, ◌∙◌, ℕ, ◌++◌, List, [], ◌∷◌, None, refl, sym, ap}
use Rattle.kube_objects.specs.declared.deed.Deed.{Deed}
use Rattle.kube_objects.specs.Entry.{Entry, Identity, Tick, actor_of}
use Rattle.kube_objects.specs.Tick.{add}
use Rattle.history.specs.Printed.{deeds_of, printed, tick_act}
use Rattle.term_state.specs.declared.told.Told.{Told}
use Rattle.term_state.specs.MidTick.{IsTold}

append_nil : (xs : List Deed) → xs ++ [] ≡ xs
append_nil [] = refl
append_nil (x ∷ xs) = ap (λ ys. x ∷ ys) (append_nil xs)

-- it leaves what is told
pub told_beside : (q : Identity) (k : ℕ) (before : List Deed) (h : List Entry) (tick : Tick) (t : Told) → tick_act tick ≡ None → IsTold q k before h t → IsTold q k before (add k q tick h) t
told_beside q k before h tick t silent s = record {
  who = s.who;
  beat = s.beat;
  told = s.told ∙ sym (ap (λ o. printed h ++ deeds_of k (actor_of q) o) silent ∙ append_nil (printed h));
}
