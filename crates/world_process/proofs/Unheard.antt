-- Of an identity without entries a history tells nothing.
use Rattle.std.proofs.Common.{◌≡◌, ◌&&◌, Bool, true, false, List, [], ◌∷◌, Option, Some, None, refl, ap, ◌∙◌}
use Rattle.kube_objects.specs.declared.deed.Actor.{Actor}
use Rattle.kube_objects.specs.Elector.{lead_says, leads}
use Rattle.kube_objects.specs.Entry.{Entry, Identity, Fact, Leads}
use Rattle.kube_objects.specs.Identities.{is_by}
use Rattle.kube_objects.specs.Newest.{newest, added, when, has}
use Rattle.kube_objects.specs.Process.{is_send, begun}
use Rattle.world_process.specs.Plain.{IsUnheard}

pub and-false : (b : Bool) → (b && false) ≡ false
and-false true = refl
and-false false = refl

pub begun-unheard : (q : Identity) (h : List Entry) → IsUnheard q h → begun q h ≡ 0
begun-unheard q [] u = refl
begun-unheard q (e ∷ h) u =
    ap (λ b. added (is_send e.fact && b) (begun q h)) u.0 ∙ ap (λ b. added b (begun q h)) (and-false (is_send e.fact)) ∙ begun-unheard q h u.1

-- what newest finds where no entry says anything
pub newest-none : {A : Type 0} (f : Entry → List Entry → Option A) (e : Entry) (h : List Entry) → f e h ≡ None → newest f h ≡ None → newest f (e ∷ h) ≡ None
newest-none {A = A} f e h none rest = ap (λ (x : Option A). elim x as (λ o. Option A) [ None ↦ newest f h | Some y ↦ Some y ]) none ∙ rest

lead_says-others : (q : Identity) (who : Actor) (d : Fact) → is_by q who ≡ false → lead_says q who d ≡ None
lead_says-others q who (Leads version) other = ap (λ b. when b version) other
lead_says-others q who _ other = refl

last_lead-unheard : (q : Identity) (h : List Entry) → IsUnheard q h → newest (λ e T. lead_says q e.actor e.fact) h ≡ None
last_lead-unheard q [] u = refl
last_lead-unheard q (e ∷ h) u = newest-none (λ e h. lead_says q e.actor e.fact) e h (lead_says-others q e.actor e.fact u.0) (last_lead-unheard q h u.1)

pub leads-unheard : (q : Identity) (h : List Entry) → IsUnheard q h → leads q h ≡ false
leads-unheard q h u = ap has (last_lead-unheard q h u)
