-- An entry of another leaves what is read of an identity.
use Rattle.std.proofs.Common.{◌≡◌, ◌<◌, ◌≤◌, ℕ, ◌+◌, ◌&&◌, Bool, true, false, List, ◌∷◌, Option, Some, None, IfSome, refl, sym, ap, ◌∙◌, subst, inl, inr, arith}
use Rattle.kube_objects.specs.Clocks.{local}
use Rattle.kube_objects.specs.Document.{Doc, is_controller, retry_period, renew_deadline}
use Rattle.kube_objects.specs.Elector.{lead_says, leads, deadline_says, deadline, succeeds}
use Rattle.kube_objects.specs.Entry.{Entry, Identity, Call, Fact, First, Event, Starts, Crashes, Stops, Stalls, Ends, ReleaseBegins, ReleaseEnds, StepsDown, ReleaseStops, Sends, Answers, Delivers, Expires, Leads, Ticks, actor_of, entry}
use Rattle.kube_objects.specs.Identities.{is_same, of_process}
use Rattle.kube_objects.specs.Newest.{newest, added, when, has, join, or_else}
use Rattle.kube_objects.specs.Pauses.{can_at}
use Rattle.kube_objects.specs.Process.{alive, is_start, starts, is_stop, stops, open_as, call_says, last_call, call_in, releasing_says, is_releasing, ending_says, is_ending}
use Rattle.history_laws.proofs.Plainly.{upper, if_some, same_is, added_more}
use Rattle.history_laws.proofs.Walk.{IsStop}
use Rattle.lease_laws.proofs.Invariant.{gives_up, gives, gave, Turned, Looking, Free, Unborn, Living}

-- what is read of an identity is the same in a later history
pub record Same (doc : Doc) (q : Identity) (g h : List Entry) : Type 0 where
  pub starts : starts q.process h ≤ starts q.process g
  pub stops : stops q g ≡ stops q h
  pub gave : gave q g ≡ gave q h
  pub releasing : is_releasing q g ≡ is_releasing q h
  pub ending : is_ending q g ≡ is_ending q h
  pub call : call_in q g ≡ call_in q h
  pub leads : leads q g ≡ leads q h
  pub deadline : deadline doc q g ≡ deadline doc q h

pub free_same : (doc : Doc) (q : Identity) (g h : List Entry) → is_releasing q g ≡ is_releasing q h → Free doc q g → Free doc q h
free_same doc q g h same (inl stop) = inl stop
free_same doc q g h same (inr free) = inr (sym same ∙ free)

pub looking_same : (doc : Doc) (q : Identity) (g h : List Entry) → is_releasing q g ≡ is_releasing q h → gave q g ≡ gave q h → (o : Option Call) → IfSome o (Looking doc q h) → IfSome o (Looking doc q g)
looking_same doc q g h releasing gave o = if_some o (Looking doc q h) (Looking doc q g) (λ c l. record { releasing = λ e of. releasing ∙ l.releasing e of; get = l.get; unasked = λ look. gave ∙ l.unasked look; looks = l.looks })

-- whoever is up stays so where what is read of it is the same, but for its call and its deadline
pub lives_on : (doc : Doc) (k : ℕ) (q : Identity) (g h : List Entry) → Living doc k q h → starts q.process h ≤ starts q.process g → stops q g ≡ stops q h → gave q g ≡ gave q h → is_releasing q g ≡ is_releasing q h
    → is_ending q g ≡ is_ending q h → IfSome (call_in q g) (Looking doc q h)
    → (is_controller doc q.process ≡ true → (IsStop doc → ⊥) → is_releasing q h ≡ false → IfSome (deadline doc q g) (Turned doc q.process k)) → Living doc k q g
lives_on doc k q g h l starts stopped asked runs ends looking turned = record {
  counted = omega (arith, l.counted, starts);
  unstopped = λ free. let both = l.unstopped (free_same doc q g h runs free) in (stopped ∙ both.0, asked ∙ both.1);
  ending = λ is. let both = l.ending (sym ends ∙ is) in (runs ∙ both.0, stopped ∙ both.1);
  looking = looking_same doc q g h runs asked (call_in q g) looking;
  turned = λ role other is. turned role other (sym runs ∙ is);
}

pub living_same : (doc : Doc) (k : ℕ) (q : Identity) (g h : List Entry) → Same doc q g h → Living doc k q h → Living doc k q g
living_same doc k q g h same l =
    lives_on doc k q g h l same.starts same.stops same.gave same.releasing same.ending (subst (λ o. IfSome o (Looking doc q h)) (sym same.call) l.looking)
    (λ role other is. subst (λ o. IfSome o (Turned doc q.process k)) (sym same.deadline) (l.turned role other is))

pub unborn_same : (doc : Doc) (q : Identity) (g h : List Entry) → Same doc q g h → Unborn doc q h → Unborn doc q g
unborn_same doc q g h same u = record {
  stops = same.stops ∙ u.stops;
  gave = same.gave ∙ u.gave;
  releasing = same.releasing ∙ u.releasing;
  ending = same.ending ∙ u.ending;
  call = same.call ∙ u.call;
  deadline = same.deadline ∙ u.deadline;
}

-- ---- an entry of another

none_added : (b : Bool) (n : ℕ) → added (b && false) n ≡ n
none_added true n = refl
none_added false n = refl

pub other_same : (doc : Doc) (k step : ℕ) (p q : Identity) (h : List Entry) (d : Fact) → is_same p q ≡ false → Same doc q (entry k step p d ∷ h) h
other_same doc k step p q h d other = cases d
  where
    -- all of it by what the entry says
    same : (d : Fact) → added (is_stop d && is_same p q) (stops q h) ≡ stops q h → added (gives d && is_same p q) (gave q h) ≡ gave q h
        → releasing_says q (actor_of p) d ≡ None → ending_says q (actor_of p) d ≡ None → call_says q (actor_of p) d ≡ None → lead_says q (actor_of p) d ≡ None → deadline_says doc q k (actor_of p) (leads q h) d ≡ None
        → Same doc q (entry k step p d ∷ h) h
    same d stopped asked releasing ending call led until = record {
      starts = added_more (is_start d && has (of_process q.process (actor_of p))) (starts q.process h);
      stops = stopped;
      gave = asked;
      releasing = ap (λ o. or_else false (upper o (newest (λ e T. releasing_says q e.actor e.fact) h))) releasing;
      ending = ap (λ o. or_else false (upper o (newest (λ e T. ending_says q e.actor e.fact) h))) ending;
      call = ap (λ o. join (upper o (last_call q h))) call;
      leads = ap (λ o. has (upper o (newest (λ e T. lead_says q e.actor e.fact) h))) led;
      deadline = ap (λ o. upper o (deadline doc q h)) until;
    }

    none : {A : Type 0} (x : A) → when (is_same p q) x ≡ None
    none x = ap (λ b. when b x) other

    stopped : added (true && is_same p q) (stops q h) ≡ stops q h
    stopped = ap (λ b. added b (stops q h)) other

    cases : (d : Fact) → Same doc q (entry k step p d ∷ h) h
    cases (First key object) = same (First key object) refl refl refl refl refl refl refl
    cases (Event what version) = same (Event what version) refl refl refl refl refl refl refl
    cases Starts = same Starts refl refl refl refl refl refl refl
    cases Crashes = same Crashes refl refl (none false) (none false) refl refl refl
    cases Stops = same Stops stopped refl refl refl refl refl refl
    cases (Stalls beats) = same (Stalls beats) refl refl refl refl refl refl refl
    cases Ends = same Ends refl refl refl refl refl refl refl
    cases (ReleaseBegins at_deadline) = same (ReleaseBegins at_deadline) refl refl (none true) (none at_deadline) (none None) refl refl
    cases ReleaseEnds = same ReleaseEnds refl refl (none false) (none false) refl refl refl
    cases StepsDown = same StepsDown refl refl refl refl refl refl refl
    cases ReleaseStops = same ReleaseStops stopped refl refl (none false) refl refl refl
    cases (Sends call arrives) = same (Sends call arrives) refl (ap (λ b. added (gives_up call.kind && b) (gave q h)) other ∙ none_added (gives_up call.kind) (gave q h)) refl refl (none (open_as call.kind call)) refl refl
    cases (Answers call reply comes written) = same (Answers call reply comes written) refl refl refl refl refl refl refl
    cases (Delivers call reply false) = same (Delivers call reply false) refl refl refl refl refl refl refl
    cases (Delivers call reply true) = same (Delivers call reply true) refl refl refl refl (none None) refl
        (ap (λ b. when (b && (leads q h && succeeds call.request reply)) (can_at doc q.process (local doc q.process k + retry_period doc q.process) + renew_deadline doc q.process)) other)
    cases (Expires call) = same (Expires call) refl refl refl refl (none None) refl refl
    cases (Leads version) = same (Leads version) refl refl refl refl refl (none version) (none (local doc q.process k + renew_deadline doc q.process))
    cases (Ticks tick) = same (Ticks tick) refl refl refl refl refl refl refl

-- an entry that says nothing of anybody
pub all_same : (doc : Doc) (q : Identity) (g h : List Entry) → starts q.process h ≤ starts q.process g → stops q g ≡ stops q h → gave q g ≡ gave q h → is_releasing q g ≡ is_releasing q h → is_ending q g ≡ is_ending q h
    → call_in q g ≡ call_in q h → leads q g ≡ leads q h → deadline doc q g ≡ deadline doc q h → Same doc q g h
all_same doc q g h a b c d e f l m = record { starts = a; stops = b; gave = c; releasing = d; ending = e; call = f; leads = l; deadline = m }

-- ---- who is up, and who hasn't started, after an entry of an identity

module _ (doc : Doc) (k step : ℕ) (q : Identity) (d : Fact) (h : List Entry) where
  pub lives_by : (alive q.process (entry k step q d ∷ h) ≡ Some q.incarnation → Living doc k q (entry k step q d ∷ h))
      → ((p : Identity) → is_same q p ≡ false → alive p.process (entry k step q d ∷ h) ≡ Some p.incarnation → alive p.process h ≡ Some p.incarnation)
      → ((p : Identity) → is_same q p ≡ false → alive p.process h ≡ Some p.incarnation → Living doc k p h)
      → (p : Identity) → alive p.process (entry k step q d ∷ h) ≡ Some p.incarnation → Living doc k p (entry k step q d ∷ h)
  lives_by own others lives p = by_test (is_same q p) refl
    where
      by_test : (b : Bool) → is_same q p ≡ b → alive p.process (entry k step q d ∷ h) ≡ Some p.incarnation → Living doc k p (entry k step q d ∷ h)
      by_test true is = subst (λ p. alive p.process (entry k step q d ∷ h) ≡ Some p.incarnation → Living doc k p (entry k step q d ∷ h)) (same_is q p is) own
      by_test false is = λ up. living_same doc k p (entry k step q d ∷ h) h (other_same doc k step q p h d is) (lives p is (others p is up))

  pub fresh_by : q.incarnation ≤ starts q.process (entry k step q d ∷ h) → ((p : Identity) → is_same q p ≡ false → starts p.process h < p.incarnation → Unborn doc p h)
      → (p : Identity) → starts p.process (entry k step q d ∷ h) < p.incarnation → Unborn doc p (entry k step q d ∷ h)
  fresh_by counted fresh p = by_test (is_same q p) refl
    where
      by_test : (b : Bool) → is_same q p ≡ b → starts p.process (entry k step q d ∷ h) < p.incarnation → Unborn doc p (entry k step q d ∷ h)
      by_test true is = subst (λ p. starts p.process (entry k step q d ∷ h) < p.incarnation → Unborn doc p (entry k step q d ∷ h)) (same_is q p is) (λ below. absurd (omega (arith, below, counted)))
      by_test false is = λ below. let same = other_same doc k step q p h d is in unborn_same doc p (entry k step q d ∷ h) h same (fresh p is (omega (arith, below, same.starts)))
