-- Between two positions at which it is up a controller is up; and who is up and hasn't acted never led.
use Rattle.std.specs.Prelude.{if◌then◌else◌}
use Rattle.std.proofs.Common.{◌≡◌, ◌≤◌, ℕ, suc, Bool, true, false, List, [], ◌∷◌, Option, Some, None, refl, sym, ap, ◌∙◌, inr, arith}
use Rattle.kube_objects.specs.Document.{Doc, is_controller, renew_deadline}
use Rattle.kube_objects.specs.Elector.{leads, deadline}
use Rattle.kube_objects.specs.Entry.{Entry, Identity}
use Rattle.kube_objects.specs.Newest.{has}
use Rattle.kube_objects.specs.Process.{alive, is_restart_due, ended}
use Rattle.kube_objects.specs.Own.{ReleasesByStop}
use Rattle.history.specs.History.{history, at_turn}
use Rattle.history.specs.Safe.{Acts}
use Rattle.history.specs.Steps.{start, restart_if, restart}
use Rattle.history_laws.specs.Tails.{IsTail}
use Rattle.history_laws.proofs.Lives.{Counted, counted_more}
use Rattle.history_laws.proofs.Plainly.{none_is, true_is}
use Rattle.history_laws.proofs.Tailed.{tail_all, tail_trans, starts_tail}
use Rattle.call_laws.proofs.Making.{are_made}
use Rattle.takeover_laws.specs.Calm.{IsSteady}
use Rattle.takeover_laws.proofs.Asking.{leads_set, leads_on}
use Rattle.takeover_laws.proofs.Fresh.{next_start, over_stays, still_up, turn_leads}
use Rattle.takeover_laws.proofs.Standing.{unled}

counted_in : (doc : Doc) → ReleasesByStop doc → (m : ℕ) (h : List Entry) → IsTail h (history doc m) → Counted h
counted_in doc rules m [] at = λ p i up. absurd (none_is i up)
counted_in doc rules m (x ∷ h) at = counted_more x h (next_start doc x.beat x.step x.actor x.fact h (are_made doc rules m x h at)) (counted_in doc rules m h (tail_trans h (x ∷ h) (history doc m) (inr (tail_all h)) at))

pub up_between : (doc : Doc) → ReleasesByStop doc → (m : ℕ) (q : Identity) (f g h : List Entry) → IsTail f g → IsTail g h → IsTail h (history doc m) → alive q.process f ≡ Some q.incarnation → alive q.process h ≡ Some q.incarnation → alive q.process g ≡ Some q.incarnation
up_between doc rules m q f g h low high at first last =
    still_up q g
    (omega (arith, counted_in doc rules m f (tail_trans f h (history doc m) (tail_trans f g h low high) at) q.process q.incarnation first, starts_tail q.process f g low))
    (λ over. (over_stays doc rules m q g h at high over).1 last)

-- ---- restarts

pub restart_same : (doc : Doc) (k p i : ℕ) (g : List Entry) → alive p g ≡ Some i → restart doc k p g ≡ g
restart_same doc k p i g up = ap (λ o. restart_if doc k p o g) up

pub restart_adds : (doc : Doc) (k p : ℕ) (g : List Entry) → IsTail g (restart doc k p g)
restart_adds doc k p g = by_up (alive p g)
  where
    by_test : (b : Bool) → IsTail g (if b then start k 4 p g else g)
    by_test true = inr (tail_all g)
    by_test false = tail_all g

    by_up : (o : Option ℕ) → IsTail g (restart_if doc k p o g)
    by_up (Some i) = tail_all g
    by_up None = by_test (is_restart_due doc p k (ended doc p g))

pub restart_deadline : (doc : Doc) (q : Identity) (k p : ℕ) (up : Option ℕ) (g : List Entry) → deadline doc q (restart_if doc k p up g) ≡ deadline doc q g
restart_deadline doc q k p (Some i) g = refl
restart_deadline doc q k p None g = by_test (is_restart_due doc p k (ended doc p g))
  where
    by_test : (b : Bool) → deadline doc q (if b then start k 4 p g else g) ≡ deadline doc q g
    by_test true = refl
    by_test false = refl

-- as its turn begins, who hasn't led has no deadline
pub turn_unset : (doc : Doc) (q : Identity) (k : ℕ) → leads q (at_turn doc q.process k) ≡ false → deadline doc q (restart doc k q.process (at_turn doc q.process k)) ≡ None
turn_unset doc q k not_led = restart_deadline doc q k q.process (alive q.process g) g ∙ by_set (deadline doc q g) refl
  where
    g : List Entry
    g = at_turn doc q.process k

    by_set : (o : Option ℕ) → deadline doc q g ≡ o → deadline doc q g ≡ None
    by_set None is = is
    by_set (Some at) is = absurd (true_is (sym (turn_leads doc q q.process k (ap has is)) ∙ not_led))

-- ---- leads

pub never_led : (doc : Doc) → ReleasesByStop doc → (near far a e n : ℕ) (q : Identity) → is_controller doc q.process ≡ true → 1 ≤ renew_deadline doc q.process → IsSteady doc near far a e q.process → n ≤ e
    → ((k : ℕ) → a ≤ k → k ≤ n → Acts doc q k → ⊥) → a ≤ n → alive q.process (history doc (suc n)) ≡ Some q.incarnation → (h : List Entry) → IsTail h (history doc (suc n)) → leads q h ≡ false
never_led doc rules near far a e n q role lasts steady within none from up h at = by_test (leads q h) refl
  where
    unset : deadline doc q (history doc (suc n)) ≡ None
    unset = unled doc rules near far a e n q role lasts steady within none n from (omega arith) up

    by_test : (b : Bool) → leads q h ≡ b → leads q h ≡ false
    by_test false is = is
    by_test true is = absurd (true_is (sym (leads_set doc q (history doc (suc n)) (leads_on q h (history doc (suc n)) at is)) ∙ ap has unset))
