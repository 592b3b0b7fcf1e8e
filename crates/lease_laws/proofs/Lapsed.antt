-- At the end of a beat the turn of who leads came before its deadline, or its release has begun.
use Rattle.std.proofs.Common.{◌≡◌, ◌⊎◌, ◌<◌, ◌≤◌, ℕ, zero, suc, ◌+◌, ◌-◌, ◌==◌, ◌&&◌, not, nat_lt, Bool, true, false, List, ◌∷◌, length, length-append, Option, Some, None, IfSome, refl, sym, ap, ◌∙◌, subst, inl, inr, ⊎_elim, arith}
use Rattle.std.specs.Prelude.{if◌then◌else◌}
use Rattle.std.proofs.lemmas.Bool.{ltb-true, eqb-true, cases_lt, cases_eq}
use Rattle.kube_objects.specs.declared.call.Request.{Request}
use Rattle.kube_objects.specs.declared.deed.Actor.{Actor}
use Rattle.kube_objects.specs.declared.deed.Actor.TheVariants as actor
use Rattle.kube_objects.specs.declared.rules.ReleaseRule.{ReleaseRule}
use Rattle.kube_objects.specs.declared.rules.ReleaseRule.TheVariants as rules
use Rattle.kube_objects.specs.Clocks.{local, wall}
use Rattle.kube_objects.specs.Document.{Doc, processes, is_controller}
use Rattle.kube_objects.specs.Elector.{deadline, shown, acts_by, release_from}
use Rattle.kube_objects.specs.Entry.{Entry, Identity, Call, CallKind, Fact, Starts, Crashes, Stops, Ends, ReleaseBegins, ReleaseEnds, StepsDown, Expires, actor_of, entry}
use Rattle.kube_objects.specs.Identities.{identity, is_by, of_process}
use Rattle.kube_objects.specs.Newest.{newest, when, has, join, or_else}
use Rattle.kube_objects.specs.Pauses.{is_paused}
use Rattle.kube_objects.specs.Process.{born, gone, life_says, life, alive, is_start, starts, call_in, releasing_says, is_releasing, release_begun, is_late}
use Rattle.kube_objects.specs.Releases.{and_end, end_release, first_call, send_first, begin_release}
use Rattle.kube_objects.specs.Turns.{expire_as, expire_call, end_released, end_as, end_term}
use Rattle.history.specs.History.{three_steps, history, at_turn}
use Rattle.history.specs.Steps.{if_up, restart_if, restart, expire, finish, turn, turns, controller_turn, kubelet_turn, unpaused_turn}
use Rattle.history_laws.proofs.Plainly.{upper, some_is, none_is, true_is, added_more}
use Rattle.history_laws.proofs.Lives.{Over}
use Rattle.history_laws.proofs.Releasing.{ended_over, begun_runs}
use Rattle.history_laws.proofs.Walk.{StartIsNext, IsNext, IsStop, Anyone, KeepsTurn, KeepsReleaseTurn, all_turns, all_release_turns, keeps_end_as, walk_any_turn, walk_any_after_end}
use Rattle.lease_laws.proofs.Born.{no_deadline}
use Rattle.lease_laws.proofs.Steps.{NotPast}
use Rattle.lease_laws.proofs.Turns.{deadline_turn}

-- an incarnation that was there; if it is up its release runs
abbrev Closed : Identity → List Entry → Type 0
Closed q h = (q.incarnation ≤ starts q.process h) × (alive q.process h ≡ Some q.incarnation → is_releasing q h ≡ true)

over_closed : (q : Identity) (h : List Entry) → Over q h → Closed q h
over_closed q h o = (o.0, λ up. absurd (o.1 up))

-- of whom an entry is that ends an incarnation of a process
gone_other : (q : Identity) (who : Actor) (last : Option (Option ℕ)) → join (upper (gone (of_process q.process who)) last) ≡ Some q.incarnation → (join last ≡ Some q.incarnation) × (is_by q who ≡ false)
gone_other q actor.Script last up = (up, refl)
gone_other q (actor.Proc id i) last up = by_test (id.0 == q.process) refl up
  where
    by_test : (t : Bool) → (id.0 == q.process) ≡ t → join (upper (gone (when t i)) last) ≡ Some q.incarnation → (join last ≡ Some q.incarnation) × ((t && (i == q.incarnation)) ≡ false)
    by_test true is up = absurd (none_is q.incarnation up)
    by_test false is up = (up, refl)

closed_more : (q : Identity) (x : Entry) (h : List Entry) → IsNext x h → Closed q h → Closed q (x ∷ h)
closed_more q x h next s = (omega (arith, s.0, added_more (is_start x.fact && has (of_process q.process x.actor)) (starts q.process h)), cases x.actor x.fact next.0)
  where
    Runs : Actor → Fact → Type 0
    Runs who d = join (upper (life_says q.process who d) (life q.process h)) ≡ Some q.incarnation → or_else false (upper (releasing_says q who d) (newest (λ e T. releasing_says q e.actor e.fact) h)) ≡ true

    ended : (who : Actor) → join (upper (gone (of_process q.process who)) (life q.process h)) ≡ Some q.incarnation → or_else false (upper (when (is_by q who) false) (newest (λ e T. releasing_says q e.actor e.fact) h)) ≡ true
    ended who up =
        let was = gone_other q who (life q.process h) up in
        ap (λ b. or_else false (upper (when b false) (newest (λ e T. releasing_says q e.actor e.fact) h))) was.1 ∙ s.1 was.0

    begun : (b : Bool) → is_releasing q h ≡ true → or_else false (upper (when b true) (newest (λ e T. releasing_says q e.actor e.fact) h)) ≡ true
    begun true runs = refl
    begun false runs = runs

    started : (p : ℕ) → Runs (actor_of (identity p (starts p h + 1))) Starts
    started p = by_test (p == q.process) refl
      where
        by_test : (t : Bool) → (p == q.process) ≡ t → join (upper (born (when t (starts p h + 1))) (life q.process h)) ≡ Some q.incarnation → is_releasing q h ≡ true
        by_test true is up = absurd (omega (arith, some_is _ _ up, s.0, ap (λ p. starts p h) (eqb-true p q.process is)))
        by_test false is up = s.1 up

    cases : (who : Actor) (d : Fact) → StartIsNext who d h → Runs who d
    cases who Starts next = subst (λ who. Runs who Starts) (sym next.1) (started next.0)
    cases who Crashes next = ended who
    cases who Stops next = λ up. s.1 (gone_other q who (life q.process h) up).0
    cases who Ends next = λ up. s.1 (gone_other q who (life q.process h) up).0
    cases who ReleaseEnds next = ended who
    cases who (ReleaseBegins at_deadline) next = λ up. begun (is_by q who) (s.1 up)
    cases who d next = s.1

-- the incarnation is over or releases, or its deadline isn't past
abbrev Timely : Doc → ℕ → Identity → List Entry → Type 0
Timely doc k q h = Closed q h ⊎ IfSome (deadline doc q h) (λ d. local doc q.process k ≤ d)

closed_turns : (doc : Doc) (q : Identity) → KeepsTurn doc Anyone (λ k h. Closed q h)
closed_turns doc q = all_turns doc Anyone (λ k h. Closed q h) (λ k x h beat step next s. closed_more q x h next s)

closed_release : (doc : Doc) (q : Identity) → KeepsReleaseTurn doc (λ k h. Closed q h)
closed_release doc q = all_release_turns doc (λ k h. Closed q h) (λ k x h beat step next s. closed_more q x h next s)

-- no turn sets a deadline
until_turn : (doc : Doc) (q : Identity) (n k p : ℕ) (h : List Entry) → IfSome (deadline doc q h) (λ d. n ≤ d) → IfSome (deadline doc q (turn doc k p h)) (λ d. n ≤ d)
until_turn doc q n k p h s = subst (λ o. IfSome o (λ d. n ≤ d)) (sym (deadline_turn doc q k p h)) s

-- ---- the own turn

module _ (doc : Doc) (k : ℕ) (q : Identity) (role : is_controller doc q.process ≡ true) (other : IsStop doc → ⊥) (awake : is_paused doc q.process k ≡ false) where
  -- it has begun
  closed_begin : (h : List Entry) → q.incarnation ≤ starts q.process h → Closed q (begin_release doc k 4 q true h)
  closed_begin h counted = by_first (first_call doc.settings.rules.release k (release_from q (wall doc q.process k) (shown q h)))
    where
      x : Entry
      x = entry k 4 q (ReleaseBegins true)

      by_first : (o : Option (CallKind × Request)) → Closed q (send_first doc k 4 q o (x ∷ h))
      by_first None = over_closed q (end_release doc k 4 q (x ∷ h)) (ended_over doc k 4 q (x ∷ h) counted)
      by_first (Some call) = (counted, λ up. begun_runs doc k 4 q true h)

  -- past its deadline
  ended : (g : List Entry) (d : ℕ) → alive q.process g ≡ Some q.incarnation → q.incarnation ≤ starts q.process g → is_releasing q g ≡ false → deadline doc q g ≡ Some d → nat_lt (local doc q.process k) d ≡ false → Closed q (finish doc k q.process g)
  ended g d up counted fresh is late =
      subst (λ o. Closed q (if_up q.process (λ p T. end_term doc k p (deadline doc p T) T) o g)) (sym up)
      (subst (λ o. Closed q (end_term doc k q o g)) (sym is)
      (subst (λ b. Closed q (if b then g else end_as doc.settings.rules.release doc k q g)) (sym late)
      (by_rule doc.settings.rules.release refl)))
    where
      begins : (b : Bool) → Closed q (begin_release doc k 4 q true (and_end k 4 q b g))
      begins true = closed_begin (entry k 4 q StepsDown ∷ g) counted
      begins false = closed_begin g counted

      released : Closed q (end_released doc k q (is_releasing q g) g)
      released = subst (λ b. Closed q (end_released doc k q b g)) (sym fresh) (begins (not (acts_by doc.settings.rules.in_release true)))

      by_rule : (rule : ReleaseRule) → doc.settings.rules.release ≡ rule → Closed q (end_as rule doc k q g)
      by_rule rules.Stop stop = absurd (other stop)
      by_rule rules.Own is = released
      by_rule rules.Checked is = released
      by_rule rules.Reread is = released

  -- what is closed stays so at the end of a term
  closed_finish : (g : List Entry) → Closed q g → Closed q (finish doc k q.process g)
  closed_finish g s = by_up (alive q.process g)
    where
      by_late : (p : Identity) (b : Bool) → Closed q (if b then g else end_as doc.settings.rules.release doc k p g)
      by_late p true = s
      by_late p false = keeps_end_as doc (Closed q) k 4 (λ x h beat step next plain s. closed_more q x h next s) doc.settings.rules.release p g refl s

      by_deadline : (p : Identity) (o : Option ℕ) → Closed q (end_term doc k p o g)
      by_deadline p None = s
      by_deadline p (Some at) = by_late p (nat_lt (local doc p.process k) at)

      by_up : (o : Option ℕ) → Closed q (if_up q.process (λ p T. end_term doc k p (deadline doc p T) T) o g)
      by_up None = s
      by_up (Some i) = by_deadline (identity q.process i) (deadline doc (identity q.process i) g)

  -- its turn past its deadline
  past : (h : List Entry) (d : ℕ) → alive q.process h ≡ Some q.incarnation → q.incarnation ≤ starts q.process h → is_releasing q h ≡ false → deadline doc q h ≡ Some d → nat_lt (local doc q.process k) d ≡ false → Closed q (turn doc k q.process h)
  past h d up counted fresh is late =
      subst (λ b. Closed q (if b then h else unpaused_turn doc k q.process h)) (sym awake)
      (subst (λ b. Closed q (if b then controller_turn doc k q.process h else kubelet_turn doc k q.process h)) (sym role)
      (walk_any_after_end doc (λ k h. Closed q h) (closed_turns doc q) (closed_release doc q) k q.process role awake (finish doc k q.process (expire doc k q.process (restart doc k q.process h)))
      (subst (λ o. Closed q (finish doc k q.process (expire doc k q.process (restart_if doc k q.process o h)))) (sym up) expired)))
    where
      by_kind : (call : Call) (o : Option ℕ) → Closed q (finish doc k q.process (expire_as doc k q call o h))
      by_kind call None = ended (entry k 4 q (Expires call) ∷ h) d up counted fresh is late
      by_kind call (Some begun) = closed_finish (end_release doc k 4 q h) (over_closed q (end_release doc k 4 q h) (ended_over doc k 4 q h counted))

      by_late : (call : Call) (b : Bool) → Closed q (finish doc k q.process (if b then expire_as doc k q call (release_begun doc.settings.rules.release call.kind) h else h))
      by_late call true = by_kind call (release_begun doc.settings.rules.release call.kind)
      by_late call false = ended h d up counted fresh is late

      by_call : (o : Option Call) → Closed q (finish doc k q.process (expire_call doc k q o h))
      by_call None = ended h d up counted fresh is late
      by_call (Some call) = by_late call (is_late doc q k call)

      expired : Closed q (finish doc k q.process (expire doc k q.process h))
      expired = subst (λ o. Closed q (finish doc k q.process (if_up q.process (λ p T. expire_call doc k p (call_in p T) T) o h))) (sym up) (by_call (call_in q h))

  -- its turn
  timely : Timely doc k q (turn doc k q.process (at_turn doc q.process k))
  timely = ⊎_elim (λ below. until (subst (λ o. IfSome o (λ d. local doc q.process k ≤ d)) (sym (no_deadline doc q.process k q below)) tt)) (λ counted. by_up counted (alive q.process h) refl) (cases_lt (starts q.process h) q.incarnation)
    where
      h : List Entry
      h = at_turn doc q.process k

      until : IfSome (deadline doc q h) (λ d. local doc q.process k ≤ d) → Timely doc k q (turn doc k q.process h)
      until s = inr (until_turn doc q (local doc q.process k) k q.process h s)

      closed : Closed q h → Timely doc k q (turn doc k q.process h)
      closed s = inl (walk_any_turn doc (λ j g. Closed q g) (closed_turns doc q) (closed_release doc q) k q.process h s)

      by_late : q.incarnation ≤ starts q.process h → alive q.process h ≡ Some q.incarnation → is_releasing q h ≡ false → (d : ℕ) → deadline doc q h ≡ Some d → (b : Bool) → nat_lt (local doc q.process k) d ≡ b → Timely doc k q (turn doc k q.process h)
      by_late counted up fresh d is true before = until (subst (λ o. IfSome o (λ d. local doc q.process k ≤ d)) (sym is) (omega (arith, ltb-true _ _ before)))
      by_late counted up fresh d is false late = inl (past h d up counted fresh is late)

      by_deadline : q.incarnation ≤ starts q.process h → alive q.process h ≡ Some q.incarnation → is_releasing q h ≡ false → (o : Option ℕ) → deadline doc q h ≡ o → Timely doc k q (turn doc k q.process h)
      by_deadline counted up fresh None is = until (subst (λ o. IfSome o (λ d. local doc q.process k ≤ d)) (sym is) tt)
      by_deadline counted up fresh (Some d) is = by_late counted up fresh d is (nat_lt (local doc q.process k) d) refl

      by_running : q.incarnation ≤ starts q.process h → alive q.process h ≡ Some q.incarnation → (b : Bool) → is_releasing q h ≡ b → Timely doc k q (turn doc k q.process h)
      by_running counted up true runs = closed (counted, λ up. runs)
      by_running counted up false fresh = by_deadline counted up fresh (deadline doc q h) refl

      by_same : q.incarnation ≤ starts q.process h → (i : ℕ) → alive q.process h ≡ Some i → (i ≡ q.incarnation) ⊎ (i ≡ q.incarnation → ⊥) → Timely doc k q (turn doc k q.process h)
      by_same counted i up (inl is) = by_running counted (up ∙ ap Some is) (is_releasing q h) refl
      by_same counted i up (inr differs) = closed (counted, λ here. absurd (differs (some_is i q.incarnation (sym up ∙ here))))

      by_up : q.incarnation ≤ starts q.process h → (o : Option ℕ) → alive q.process h ≡ o → Timely doc k q (turn doc k q.process h)
      by_up counted None down = closed (counted, λ up. absurd (none_is q.incarnation (sym down ∙ up)))
      by_up counted (Some i) up = by_same counted i up (cases_eq i q.incarnation)

  -- and the turns of others
  timely_on : (n : ℕ) (h : List Entry) → Timely doc k q (turns doc k (suc q.process) h) → Timely doc k q (turns doc k (suc q.process + n) h)
  timely_on zero h s = let e : suc q.process ≡ suc q.process + 0 = omega arith in subst (λ m. Timely doc k q (turns doc k m h)) e s
  timely_on (suc n) h s =
      let e : suc (suc q.process + n) ≡ suc q.process + suc n = omega arith in
      let p = suc q.process + n in
      subst (λ m. Timely doc k q (turns doc k m h)) e
      (⊎_elim (λ c. inl (walk_any_turn doc (λ j g. Closed q g) (closed_turns doc q) (closed_release doc q) k p (turns doc k p h) c))
      (λ u. inr (until_turn doc q (local doc q.process k) k p (turns doc k p h) u))
      (timely_on n h s))

  timely_after : Timely doc k q (history doc (suc k))
  timely_after =
      let total : processes doc ≡ length doc.controllers + length doc.kubelets = length-append doc.controllers doc.kubelets in
      let below : q.process < length doc.controllers = ltb-true q.process (length doc.controllers) role in
      let e : suc q.process + (processes doc - suc q.process) ≡ processes doc = omega (arith, total, below) in
      subst (λ m. Timely doc k q (turns doc k m (three_steps doc k (history doc k)))) e (timely_on (processes doc - suc q.process) (three_steps doc k (history doc k)) timely)

pub not_past : (doc : Doc) (k : ℕ) → NotPast doc k (history doc (suc k))
not_past doc k q role other up fresh awake =
    ⊎_elim (λ closed. absurd (true_is (sym (closed.1 up) ∙ fresh))) (λ until. until) (timely_after doc k q role other awake)
