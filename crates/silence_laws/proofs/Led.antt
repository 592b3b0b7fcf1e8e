-- Whoever acts as the leader has had a success by which it came to lead.
use Rattle.std.proofs.Common.{◌≡◌, ◌≤◌, ℕ, suc, Bool, true, false, List, [], ◌∷◌, Option, Some, None, refl, sym, ap, ◌∙◌, subst, inl, inr, ⊎_elim, arith}
use Rattle.kube_base.specs.declared.numbers.Version.{Version}
use Rattle.kube_objects.specs.declared.call.Reply.{Reply}
use Rattle.kube_objects.specs.declared.call.Reply.TheVariants.{Done}
use Rattle.kube_objects.specs.declared.deed.Actor.{Actor}
use Rattle.kube_objects.specs.Clocks.{local}
use Rattle.kube_objects.specs.Document.{Doc}
use Rattle.kube_objects.specs.Elector.{lead_says, leads, deadline, is_before, succeeds}
use Rattle.kube_objects.specs.Entry.{Entry, Identity, Fact, First, Event, Starts, Stops, Sends, Answers, Delivers, Expires, Leads, Ends, Crashes, Stalls, Ticks, actor_of, entry, StepsDown, ReleaseBegins, ReleaseEnds, ReleaseStops}
use Rattle.kube_objects.specs.Newest.{newest, when, has}
use Rattle.kube_objects.specs.Process.{alive, is_present}
use Rattle.kube_objects.specs.Identities.{is_by}
use Rattle.kube_objects.specs.Own.{ReleasesByStop}
use Rattle.history.specs.History.{history, at_turn}
use Rattle.history.specs.Safe.{Acts}
use Rattle.history_laws.specs.Tails.{IsTail}
use Rattle.history_laws.proofs.Order.{entries_are_earlier}
use Rattle.history_laws.proofs.Plainly.{upper, and_right, false_is}
use Rattle.history_laws.proofs.Tailed.{tail_all, tail_trans, turn_tail}
use Rattle.lease_laws.proofs.Claims.{term_of}
use Rattle.lease_laws.proofs.Steps.{IsSuccess, success_is}
use Rattle.call_laws.proofs.Above.{in_head}
use Rattle.call_laws.proofs.Placing.{in_own_beat}
use Rattle.call_laws.proofs.Starting.{actor_is}
use Rattle.calm_laws.proofs.Begun.{by_is}
use Rattle.calm_laws.proofs.Added.{LedBy, leads_by}
use Rattle.takeover_laws.proofs.Fresh.{turn_leads}
use Rattle.takeover_laws.proofs.Standing.{controllers_first}
use Rattle.stay_laws.specs.Stays.{HasSuccess}

-- ---- from acting to the success

-- who leads has a lead
pub record HasLead (q : Identity) (h : List Entry) : Type 0 where
  pub x : Entry
  pub before : List Entry
  pub version : Version
  pub position : IsTail (x ∷ before) h
  pub actor : x.actor ≡ actor_of q
  pub fact : x.fact ≡ Leads version

pub lead_in : (q : Identity) (h : List Entry) → leads q h ≡ true → HasLead q h
lead_in q [] is = absurd (false_is is)
lead_in q (e ∷ h) is = cases (λ is. lead_in q h is) e.actor e.fact refl refl is
  where
    older : HasLead q h → HasLead q (e ∷ h)
    older s = record { x = s.x; before = s.before; version = s.version; position = inr s.position; actor = s.actor; fact = s.fact }

    cases : (leads q h ≡ true → HasLead q h) → (who : Actor) (d : Fact) → e.actor ≡ who → e.fact ≡ d → has (upper (lead_says q who d) (newest (λ e T. lead_says q e.actor e.fact) h)) ≡ true → HasLead q (e ∷ h)
    cases on who (Leads version) actor fact is = by_own (is_by q who) refl
      where
        by_own : (b : Bool) → is_by q who ≡ b → HasLead q (e ∷ h)
        by_own true mine = record { x = e; before = h; version = version; position = inl refl; actor = actor ∙ by_is q who mine; fact = fact }
        by_own false other = older (on (subst (λ b. has (upper (when b version) (newest (λ e T. lead_says q e.actor e.fact) h)) ≡ true) other is))
    cases on who (First key object) actor fact is = older (on is)
    cases on who (Event w version) actor fact is = older (on is)
    cases on who Starts actor fact is = older (on is)
    cases on who Crashes actor fact is = older (on is)
    cases on who Stops actor fact is = older (on is)
    cases on who (Stalls beats) actor fact is = older (on is)
    cases on who StepsDown actor fact is = older (on is)
    cases on who (ReleaseBegins at_deadline) actor fact is = older (on is)
    cases on who ReleaseEnds actor fact is = older (on is)
    cases on who ReleaseStops actor fact is = older (on is)
    cases on who (Sends call arrives) actor fact is = older (on is)
    cases on who (Answers call reply comes wrote) actor fact is = older (on is)
    cases on who (Delivers call reply counted) actor fact is = older (on is)
    cases on who (Expires call) actor fact is = older (on is)
    cases on who Ends actor fact is = older (on is)
    cases on who (Ticks t) actor fact is = older (on is)

-- an identity had a success at a beat up to k, by which it came to lead
pub record HasLed (doc : Doc) (q : Identity) (k : ℕ) : Type 0 where
  pub j : ℕ
  pub to : j ≤ k
  pub success : HasSuccess doc q 0 j

-- who leads in a history has had a success
pub leads_led : (doc : Doc) → ReleasesByStop doc → (q : Identity) (k : ℕ) (g : List Entry) → IsTail g (history doc (suc k)) → leads q g ≡ true → HasLed doc q k
leads_led doc rules q k g high is = from_lead (lead_in q g is)
  where
    from_lead : HasLead q g → HasLed doc q k
    from_lead s = record {
      j = s.x.beat;
      to = upto;
      success = record {
        call = led.call;
        version = s.version;
        before = led.before;
        position =
            tail_trans (reply (Done s.version) ∷ led.before) (s.x ∷ s.before) (history doc (suc s.x.beat))
            (inr (subst (IsTail (reply (Done s.version) ∷ led.before)) (sym is_done) (tail_all (reply (Done s.version) ∷ led.before)))) (in_own_beat doc (suc k) s.x s.before at);
        since = omega arith;
        success = ap (succeeds led.call.request) (sym won.1) ∙ won.0;
      };
    }
      where
        at : IsTail (s.x ∷ s.before) (history doc (suc k))
        at = tail_trans (s.x ∷ s.before) g (history doc (suc k)) s.position high

        led : LedBy doc s.x s.version s.before
        led = leads_by doc rules (suc k) s.x s.before s.version at s.fact

        won : IsSuccess led.call.request led.reply s.version
        won = success_is doc s.x.beat s.before led.q led.call.kind led.call.request led.reply s.version led.follows

        reply : Reply → Entry
        reply r = entry s.x.beat 3 q (Delivers led.call r true)

        mine : led.q ≡ q
        mine = actor_is led.q q (sym led.by ∙ s.actor)

        is_done : s.before ≡ reply (Done s.version) ∷ led.before
        is_done = led.is ∙ ap (λ p. entry s.x.beat 3 p (Delivers led.call led.reply true) ∷ led.before) mine ∙ ap (λ r. reply r ∷ led.before) won.1

        upto : s.x.beat ≤ k
        upto = ⊎_elim (λ lt. omega (arith, lt)) (λ first. omega (arith, first.0)) (entries_are_earlier doc (suc k) s.x (in_head s.x s.before (history doc (suc k)) at))

-- and so has who acts
pub acting_led : (doc : Doc) → ReleasesByStop doc → (q : Identity) (k : ℕ) → Acts doc q k → HasLed doc q k
acting_led doc rules q k acting = leads_led doc rules q k g high (turn_leads doc q q.process k (set (deadline doc q g) (and_right (is_present (alive q.process g) q.incarnation) (is_before (local doc q.process k) (deadline doc q g)) (term_of doc rules q k g acting.1))))
  where
    g : List Entry
    g = at_turn doc q.process k

    set : (o : Option ℕ) → is_before (local doc q.process k) o ≡ true → has o ≡ true
    set None is = absurd (false_is is)
    set (Some at) is = refl

    high : IsTail g (history doc (suc k))
    high = turn_tail doc q.process k (omega (arith, controllers_first doc q.process acting.0))
