-- A controller that is up after its turn is up as the turn goes on from its restart.
use Rattle.std.proofs.Common.{◌≡◌, ℕ, suc, ◌+◌, Bool, true, false, List, Option, Some, None, refl, sym, ap, ◌∙◌, subst, inl, inr, arith}
use Rattle.std.specs.Prelude.{if◌then◌else◌}
use Rattle.std.proofs.lemmas.Bool.{eq-eqb}
use Rattle.kube_objects.specs.Document.{Doc, is_controller}
use Rattle.kube_objects.specs.Elector.{deadline, acts}
use Rattle.kube_objects.specs.Entry.{Entry}
use Rattle.kube_objects.specs.Identities.{identity}
use Rattle.kube_objects.specs.Newest.{when, join}
use Rattle.kube_objects.specs.Pauses.{is_paused}
use Rattle.kube_objects.specs.Process.{alive, is_restart_due, ended, starts, born, life}
use Rattle.kube_objects.specs.Tick.{tick}
use Rattle.kube_objects.specs.Turns.{expired, end_term, try}
use Rattle.kube_objects.specs.Stalls.{is_stalled}
use Rattle.kube_objects.specs.Own.{ReleasesByStop}
use Rattle.history.specs.History.{at_turn}
use Rattle.history.specs.Steps.{start, restart, expire, finish, attempts, ticks_while, ticks, restart_if, if_up, controller_turn, kubelet_turn, unpaused_turn, turn}
use Rattle.history_laws.specs.Tails.{IsTail}
use Rattle.history_laws.proofs.Plainly.{upper, none_is}
use Rattle.history_laws.proofs.Tailed.{tail_all, tail_trans}
use Rattle.history_laws.proofs.Walk.{Anyone, all_turns, all_release_turns, walk_any_turn}
use Rattle.takeover_laws.proofs.Fresh.{turn_counted}
use Rattle.calm_laws.proofs.Life.{restart_same, restart_deadline}
use Rattle.calm_laws.proofs.Turning.{Turned, turned}

pub turn_adds : (doc : Doc) (k p : ℕ) (h : List Entry) → IsTail h (turn doc k p h)
turn_adds doc k p h = walk_any_turn doc (λ j g. IsTail h g) (all_turns doc Anyone (λ j g. IsTail h g) (λ j x g beat step next s. inr s)) (all_release_turns doc (λ j g. IsTail h g) (λ j x g beat step next s. inr s)) k p h (tail_all h)

module _ (doc : Doc) (rules : ReleasesByStop doc) (p i k : ℕ) (role : is_controller doc p ≡ true) (awake : is_paused doc p k ≡ false)
    (stays : (j : ℕ) (g : List Entry) → IsTail (at_turn doc p k) g → IsTail g (at_turn doc (suc p) k) → alive p g ≡ Some j → alive p (at_turn doc (suc p) k) ≡ Some j)
    (up : alive p (at_turn doc (suc p) k) ≡ Some i) where
  pub up_restarted : alive p (restart doc k p (at_turn doc p k)) ≡ Some i
  up_restarted = by_up (alive p g) refl
    where
      g : List Entry
      g = at_turn doc p k

      g_low : IsTail g (at_turn doc (suc p) k)
      g_low = turn_adds doc k p g

      by_due : alive p g ≡ None → (b : Bool) → is_restart_due doc p k (ended doc p g) ≡ b → alive p (if b then start k 4 p g else g) ≡ Some i
      by_due down true due = started
        where
          j : ℕ
          j = starts p g + 1

          r : List Entry
          r = start k 4 p g

          r_is : restart doc k p g ≡ r
          r_is = ap (λ o. restart_if doc k p o g) down ∙ ap (λ b. if b then start k 4 p g else g) due

          up_r : alive p r ≡ Some j
          up_r = ap (λ b. join (upper (born (when b j)) (life p g))) (eq-eqb p p refl)

          unset : deadline doc (identity p j) (restart doc k p g) ≡ None
          unset = restart_deadline doc (identity p j) k p (alive p g) g ∙ by_set (deadline doc (identity p j) g) refl
            where
              by_set : (o : Option ℕ) → deadline doc (identity p j) g ≡ o → deadline doc (identity p j) g ≡ None
              by_set None is = is
              by_set (Some at) is = absurd (omega (arith, turn_counted doc (identity p j) p k at is))

          r_low : IsTail r (at_turn doc (suc p) k)
          r_low = subst (λ h. IsTail h (at_turn doc (suc p) k)) r_is (by_turn (turned doc rules k (identity p j) g role awake (ap (alive p) r_is ∙ up_r) unset))
            where
              by_turn : Turned doc k (identity p j) (restart doc k p g) (turn doc k p g) → IsTail (restart doc k p g) (at_turn doc (suc p) k)
              by_turn (inl s) = s.position
              by_turn (inr (inl s)) = tail_trans (restart doc k p g) s.above (turn doc k p g) s.low (tail_trans s.above _ (turn doc k p g) (inr (tail_all s.above)) s.position)
              by_turn (inr (inr s)) = tail_trans (restart doc k p g) s.above (turn doc k p g) s.low s.position

          started : alive p r ≡ Some i
          started = up_r ∙ sym (stays j r (inr (tail_all g)) r_low up_r) ∙ up
      by_due down false due = absurd (none_is i (sym (ap (alive p) idle ∙ down) ∙ up))
        where
          same : restart doc k p g ≡ g
          same = ap (λ o. restart_if doc k p o g) down ∙ ap (λ b. if b then start k 4 p g else g) due

          idle : turn doc k p g ≡ g
          idle =
              ap (λ b. if b then g else unpaused_turn doc k p g) awake
              ∙ ap (λ b. if b then controller_turn doc k p g else kubelet_turn doc k p g) role
              ∙ ap (λ h. ticks doc k p (attempts doc k p (finish doc k p (expire doc k p h)))) same
              ∙ ap (λ o. ticks doc k p (attempts doc k p (finish doc k p (if_up p (λ q T. expired doc k q T) o g)))) down
              ∙ ap (λ o. ticks doc k p (attempts doc k p (if_up p (λ q T. end_term doc k q (deadline doc q T) T) o g))) down
              ∙ ap (λ o. ticks doc k p (if_up p (try doc k) o g)) down
              ∙ idle_ticks (is_stalled doc k)
            where
              idle_ticks : (b : Bool) → ticks_while b doc k p g ≡ g
              idle_ticks true = refl
              idle_ticks false = ap (λ o. if_up p (λ q T. if acts doc q k T then tick doc k q T else T) o g) down

      by_up : (o : Option ℕ) → alive p g ≡ o → alive p (restart doc k p g) ≡ Some i
      by_up None down = ap (λ o. alive p (restart_if doc k p o g)) down ∙ by_due down (is_restart_due doc p k (ended doc p g)) refl
      by_up (Some j) there = ap (alive p) (restart_same doc k p j g there) ∙ there ∙ sym (stays j g (tail_all g) g_low there) ∙ up
