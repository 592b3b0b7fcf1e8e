-- Only a process that is up is stopped, and one that is stopped is down until it starts.
use Rattle.std.proofs.Common.{◌≡◌, ◌≤◌, ℕ, suc, true, List, [], ◌∷◌, Option, Some, None, refl, ap, ◌∙◌, subst, inl, inr, arith}
use Rattle.kube_objects.specs.declared.deed.Actor.{Actor}
use Rattle.kube_objects.specs.Document.{Doc}
use Rattle.kube_objects.specs.Entry.{Entry, Identity, Fact, First, Event, Starts, Stops, Sends, Answers, Delivers, Expires, Leads, Ends, Crashes, Stalls, Ticks, StepsDown, ReleaseBegins, ReleaseEnds, ReleaseStops}
use Rattle.kube_objects.specs.Identities.{of_process}
use Rattle.kube_objects.specs.Newest.{join, has}
use Rattle.kube_objects.specs.Process.{alive, life, life_says, born, gone}
use Rattle.history.specs.History.{history}
use Rattle.history_laws.specs.Tails.{IsTail}
use Rattle.history_laws.proofs.Plainly.{upper, false_is}
use Rattle.history_laws.proofs.Tailed.{tail_all, tail_trans, tail_of_empty}
use Rattle.call_laws.proofs.Above.{in_head}
use Rattle.silence_laws.specs.Silence.{IsStopped}
use Rattle.silence_laws.proofs.Waiting.{beats_rise}

-- ---- who is stopped stays down

down_more : (p : ℕ) (x : Entry) (h : List Entry) → (x.fact ≡ Starts → has (of_process p x.actor) ≡ true → ⊥) → alive p h ≡ None → alive p (x ∷ h) ≡ None
down_more p x h none down = cases x.actor x.fact refl refl
  where
    going : (o : Option ℕ) → join (upper (gone o) (life p h)) ≡ None
    going None = down
    going (Some i) = refl

    starting : (o : Option ℕ) → (has o ≡ true → ⊥) → join (upper (born o) (life p h)) ≡ None
    starting None never = down
    starting (Some i) never = absurd (never refl)

    cases : (who : Actor) (d : Fact) → x.actor ≡ who → x.fact ≡ d → join (upper (life_says p who d) (life p h)) ≡ None
    cases who Starts actor fact = starting (of_process p who) (λ own. none fact (ap (λ who. has (of_process p who)) actor ∙ own))
    cases who Crashes actor fact = going (of_process p who)
    cases who Stops actor fact = going (of_process p who)
    cases who Ends actor fact = going (of_process p who)
    cases who (First key object) actor fact = down
    cases who (Event w version) actor fact = down
    cases who (Sends call arrives) actor fact = down
    cases who (Answers c reply comes wrote) actor fact = down
    cases who (Delivers c reply counted) actor fact = down
    cases who (Expires c) actor fact = down
    cases who (Leads version) actor fact = down
    cases who (Stalls beats) actor fact = down
    cases who StepsDown actor fact = down
    cases who (ReleaseBegins at_deadline) actor fact = down
    cases who ReleaseEnds actor fact = going (of_process p who)
    cases who ReleaseStops actor fact = down
    cases who (Ticks t) actor fact = down

module _ (doc : Doc) (b e : ℕ) (q : Identity) (stop : IsStopped doc b e q) where
  pub stays_down : (x : Entry) (T : List Entry) → b ≤ x.beat → x.fact ≡ Stops → has (of_process q.process x.actor) ≡ true → (h : List Entry) → IsTail (x ∷ T) h → IsTail h (history doc (suc e)) → alive q.process h ≡ None
  stays_down x T late fact own [] low high = absurd (tail_of_empty x T low)
  stays_down x T late fact own (z ∷ Z) (inl same) high = subst (λ h. alive q.process h ≡ None) same first
    where
      stopped : (o : Option ℕ) → has o ≡ true → join (upper (gone o) (life q.process T)) ≡ None
      stopped None is = absurd (false_is is)
      stopped (Some i) is = refl

      first : alive q.process (x ∷ T) ≡ None
      first = ap (λ d. join (upper (life_says q.process x.actor d) (life q.process T))) fact ∙ stopped (of_process q.process x.actor) own
  stays_down x T late fact own (z ∷ Z) (inr below) high =
      down_more q.process z Z no_start (stays_down x T late fact own Z below (tail_trans Z (z ∷ Z) (history doc (suc e)) (inr (tail_all Z)) high))
    where
      no_start : z.fact ≡ Starts → has (of_process q.process z.actor) ≡ true → ⊥
      no_start is mine = omega (arith, stop.down z (in_head z Z (history doc (suc e)) high) is mine, late, beats_rise doc e z Z high x T below)
