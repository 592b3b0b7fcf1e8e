-- Who doesn't lead has no deadline.
use Rattle.std.proofs.Common.{◌≡◌, ℕ, ◌+◌, ◌&&◌, Bool, true, false, List, [], ◌∷◌, Option, Some, None, refl, sym, ap, ◌∙◌}
use Rattle.kube_base.specs.declared.numbers.Version.{Version}
use Rattle.kube_objects.specs.declared.deed.Actor.{Actor}
use Rattle.kube_objects.specs.Clocks.{local}
use Rattle.kube_objects.specs.Document.{Doc, renew_deadline, retry_period}
use Rattle.kube_objects.specs.Elector.{lead_says, leads, deadline_says, deadline, succeeds}
use Rattle.kube_objects.specs.Entry.{Entry, Identity, Fact, First, Event, Starts, Crashes, Stops, Stalls, Ends, StepsDown, ReleaseBegins, ReleaseEnds, ReleaseStops, Sends, Answers, Delivers, Expires, Leads, Ticks}
use Rattle.kube_objects.specs.Identities.{is_by}
use Rattle.kube_objects.specs.Newest.{newest, when, has}
use Rattle.kube_objects.specs.Pauses.{can_at}
use Rattle.world_process.proofs.Unheard.{and-false, newest-none}

last_lead : Identity → List Entry → Option Version
last_lead q = newest (λ e T. lead_says q e.actor e.fact)

abbrev led_after : Option Version → Bool → Bool
led_after None b = b
led_after (Some version) b = true

leads-top : (q : Identity) (e : Entry) (h : List Entry) → leads q (e ∷ h) ≡ led_after (lead_says q e.actor e.fact) (leads q h)
leads-top q e h = by_case (lead_says q e.actor e.fact)
  where
    by_case : (x : Option Version) → has (elim x as (λ o. Option Version) [ None ↦ newest (λ e T. lead_says q e.actor e.fact) h | Some y ↦ Some y ]) ≡ led_after x (leads q h)
    by_case None = refl
    by_case (Some y) = refl

-- who has led leads through every entry
pub leads-kept : (q : Identity) (e : Entry) (h : List Entry) → leads q h ≡ true → leads q (e ∷ h) ≡ true
leads-kept q e h led = leads-top q e h ∙ by_case (lead_says q e.actor e.fact)
  where
    by_case : (x : Option Version) → led_after x (leads q h) ≡ true
    by_case None = led
    by_case (Some version) = refl

-- before the top entry nobody led, and it is no lead
before : (x : Option Version) (b : Bool) → led_after x b ≡ false → (x ≡ None) × (b ≡ false)
before None b unled = (refl, unled)
before (Some y) b unled = cc

and-unled : (a b : Bool) → b ≡ false → (a && b) ≡ false
and-unled a b unled = ap (λ x. a && x) unled ∙ and-false a

by_fact : (doc : Doc) (q : Identity) (k : ℕ) (who : Actor) (led : Bool) (d : Fact) → led ≡ false → lead_says q who d ≡ None → deadline_says doc q k who led d ≡ None
by_fact doc q k who led (First key object) unled none = refl
by_fact doc q k who led (Event what version) unled none = refl
by_fact doc q k who led Starts unled none = refl
by_fact doc q k who led Crashes unled none = refl
by_fact doc q k who led (Stalls beats) unled none = refl
by_fact doc q k who led Stops unled none = refl
by_fact doc q k who led Ends unled none = refl
by_fact doc q k who led StepsDown unled none = refl
by_fact doc q k who led (ReleaseBegins at_deadline) unled none = refl
by_fact doc q k who led ReleaseEnds unled none = refl
by_fact doc q k who led ReleaseStops unled none = refl
by_fact doc q k who led (Sends call arrives) unled none = refl
by_fact doc q k who led (Answers call reply comes written) unled none = refl
by_fact doc q k who led (Delivers call reply counted) unled none =
    let at = can_at doc q.process (local doc q.process k + retry_period doc q.process) + renew_deadline doc q.process in
    ap (λ b. when ((counted && is_by q who) && (b && succeeds call.request reply)) at) unled
    ∙ ap (λ b. when b at) (and-false (counted && is_by q who))
by_fact doc q k who led (Expires call) unled none = refl
by_fact doc q k who led (Leads version) unled none = by_test (is_by q who) none
  where
    by_test : (b : Bool) → when b version ≡ None → when b (local doc q.process k + renew_deadline doc q.process) ≡ None
    by_test true is = cc
    by_test false is = refl
by_fact doc q k who led (Ticks tick) unled none = refl

pub no_deadline : (doc : Doc) (q : Identity) (h : List Entry) → leads q h ≡ false → deadline doc q h ≡ None
no_deadline doc q [] unled = refl
no_deadline doc q (e ∷ h) unled =
    let b = before (lead_says q e.actor e.fact) (leads q h) (sym (leads-top q e h) ∙ unled) in
    newest-none (λ e h. deadline_says doc q e.beat e.actor (leads q h) e.fact) e h (by_fact doc q e.beat e.actor (leads q h) e.fact b.1 b.0) (no_deadline doc q h b.1)
