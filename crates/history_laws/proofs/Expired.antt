-- After the expiry of an identity's call, it has no call.
use Rattle.std.proofs.Common.{◌≡◌, ℕ, Bool, true, false, List, [], ◌∷◌, Some, None, refl, sym, ap, ◌∙◌}
use Rattle.kube_objects.specs.declared.deed.Actor.{Actor}
use Rattle.kube_objects.specs.Entry.{Entry, Identity, Call, Fact, First, Event, Starts, Crashes, Stops, Stalls, Ends, ReleaseBegins, ReleaseEnds, StepsDown, ReleaseStops, Sends, Answers, Delivers, Expires, Leads, Ticks}
use Rattle.kube_objects.specs.Identities.{is_by}
use Rattle.kube_objects.specs.Newest.{newest, when, join}
use Rattle.kube_objects.specs.Process.{open_as, call_says, last_call, call_in}
use Rattle.kube_objects.specs.Turns.{expired_in, just_expired}
use Rattle.history_laws.proofs.Plainly.{upper, none_is}

-- an entry of another says nothing on the call
pub silent : (q : Identity) (who : Actor) (d : Fact) → is_by q who ≡ false → call_says q who d ≡ None
silent q who (First key object) other = refl
silent q who (Event what version) other = refl
silent q who Starts other = refl
silent q who Crashes other = refl
silent q who Stops other = refl
silent q who (Stalls beats) other = refl
silent q who Ends other = refl
silent q who (ReleaseBegins at_deadline) other = ap (λ b. when b None) other
silent q who ReleaseEnds other = refl
silent q who StepsDown other = refl
silent q who ReleaseStops other = refl
silent q who (Sends call arrives) other = ap (λ b. when b (open_as call.kind call)) other
silent q who (Answers call reply comes written) other = refl
silent q who (Delivers call reply false) other = refl
silent q who (Delivers call reply true) other = ap (λ b. when b None) other
silent q who (Expires call) other = ap (λ b. when b None) other
silent q who (Leads version) other = refl
silent q who (Ticks tick) other = refl

pub expired_none : (q : Identity) (k : ℕ) (h : List Entry) (c : Call) → just_expired q k h ≡ Some c → call_in q h ≡ None
expired_none q k [] c is = refl
expired_none q k (e ∷ h) c is = cases (λ is. expired_none q k h c is) e.actor e.fact (is_by q e.actor) refl is
  where
    own : (who : Actor) (d : Fact) → is_by q who ≡ true → join (Some (expired_in k e.beat d)) ≡ Some c → join (upper (call_says q who d) (last_call q h)) ≡ None
    own who (First key object) by is = absurd (none_is c is)
    own who (Event what version) by is = absurd (none_is c is)
    own who Starts by is = absurd (none_is c is)
    own who Crashes by is = absurd (none_is c is)
    own who Stops by is = absurd (none_is c is)
    own who (Stalls beats) by is = absurd (none_is c is)
    own who Ends by is = absurd (none_is c is)
    own who (ReleaseBegins at_deadline) by is = absurd (none_is c is)
    own who ReleaseEnds by is = absurd (none_is c is)
    own who StepsDown by is = absurd (none_is c is)
    own who ReleaseStops by is = absurd (none_is c is)
    own who (Sends call arrives) by is = absurd (none_is c is)
    own who (Answers call reply comes written) by is = absurd (none_is c is)
    own who (Delivers call reply counted) by is = absurd (none_is c is)
    own who (Expires call) by is = ap (λ b. join (upper (when b None) (last_call q h))) by
    own who (Leads version) by is = absurd (none_is c is)
    own who (Ticks tick) by is = absurd (none_is c is)

    cases : (just_expired q k h ≡ Some c → call_in q h ≡ None) → (who : Actor) (d : Fact) (b : Bool) → is_by q who ≡ b → join (upper (when (is_by q who) (expired_in k e.beat d)) (newest (λ e T. when (is_by q e.actor) (expired_in k e.beat e.fact)) h)) ≡ Some c → join (upper (call_says q who d) (last_call q h)) ≡ None
    cases below who d true by is = own who d by (ap (λ b. join (upper (when b (expired_in k e.beat d)) (newest (λ e T. when (is_by q e.actor) (expired_in k e.beat e.fact)) h))) (sym by) ∙ is)
    cases below who d false by is = ap (λ o. join (upper o (last_call q h))) (silent q who d by)
        ∙ below (ap (λ b. join (upper (when b (expired_in k e.beat d)) (newest (λ e T. when (is_by q e.actor) (expired_in k e.beat e.fact)) h))) (sym by) ∙ is)
