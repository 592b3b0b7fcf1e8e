-- The reading from which a term may sync, over a history that grows.
use Rattle.std.proofs.Common.{◌≡◌, ◌∙◌, ℕ, ◌+◌, ◌==◌, ◌||◌, nat_le, Bool, true, false, cond, List, ◌∷◌, Option, Some, None, refl, sym, ap, subst}
use Rattle.kube_base.specs.declared.numbers.Local.{Local}
use Rattle.kube_base.specs.declared.numbers.Version.{Version}
use Rattle.kube_objects.specs.Clocks.{local}
use Rattle.kube_objects.specs.Document.{Doc, of_millis}
use Rattle.kube_objects.specs.Elector.{lead_says, led_at}
use Rattle.kube_objects.specs.Entry.{Entry, Identity, Leads, entry}
use Rattle.kube_objects.specs.Newest.{has, newest, or_zero, when}
use Rattle.kube_objects.specs.Tick.{has_settled, settles_at}
use Rattle.history_laws.proofs.Plainly.{none_is, same_self, some_is, upper}
use Rattle.tick_laws.specs.Ticked.{IsTicked}
use Rattle.tick_laws.proofs.Ticked.{ticked_keeps}
use Rattle.controller_core.specs.FirstSync.{SettlesStand}
use Rattle.controller_core.specs.Passing.{reading_of}

-- ---- what it tells

module _ (doc : Doc) (k : ℕ) (q : Identity) (h : List Entry) where
  abbrev from : ℕ
  from = local doc q.process (led_at q h) + of_millis doc.settings.rules.first_sync_millis

  pub settled_none : None ≡ settles_at doc q h → true ≡ has_settled doc k q h
  settled_none = by_test (doc.settings.rules.first_sync_millis == 0)
    where
      by_test : (b : Bool) → None ≡ cond b None (Some from) → true ≡ (b || nat_le from (local doc q.process k))
      by_test true is = refl
      by_test false is = absurd (none_is from is)

  pub settled_some : (at now : ℕ) → Some at ≡ settles_at doc q h → now ≡ local doc q.process k → nat_le at now ≡ has_settled doc k q h
  settled_some at now some is = by_test (doc.settings.rules.first_sync_millis == 0) some
    where
      by_test : (b : Bool) → Some at ≡ cond b None (Some from) → nat_le at now ≡ (b || nat_le from (local doc q.process k))
      by_test true some = absurd (none_is at (sym some))
      by_test false some = ap (λ n. nat_le n now) (some_is at from some) ∙ ap (nat_le from) is

-- ---- what keeps it

-- the term's own ticks
pub settles_ticked : (doc : Doc) (q : Identity) (k : ℕ) (h g : List Entry) (at : Option Local) → IsTicked q k h g → SettlesStand doc q h at → SettlesStand doc q g at
settles_ticked doc q k h g at ticked = ticked_keeps q k (λ f. SettlesStand doc q f at) (λ t f s. s) h g ticked

abbrev last_lead : Identity → List Entry → Option Version
last_lead q = newest (λ e T. lead_says q e.actor e.fact)

abbrev last_led : Identity → List Entry → Option ℕ
last_led q = newest (λ e T. when (has (lead_says q e.actor e.fact)) e.beat)

-- with what an entry says of a lead on top
abbrev SaysLead : Doc → Identity → ℕ → List Entry → Option Local → Option Version → Type 0
SaysLead doc q k h at said =
    has (upper said (last_lead q h)) ≡ true
    → reading_of at ≡ cond (doc.settings.rules.first_sync_millis == 0) None
    (Some (local doc q.process (or_zero (upper (when (has said) k) (last_led q h))) + of_millis doc.settings.rules.first_sync_millis))

-- an entry that is no lead of its identity
pub settles_beside : (doc : Doc) (q : Identity) (h : List Entry) (e : Entry) (at : Option Local) → lead_says q e.actor e.fact ≡ None → SettlesStand doc q h at → SettlesStand doc q (e ∷ h) at
settles_beside doc q h e at none s = subst (SaysLead doc q e.beat h at) (sym none) s

-- ---- its lead

pub settles_led : (doc : Doc) (k step : ℕ) (q : Identity) (version : Version) (h : List Entry) (now : ℕ) (at : Option Local) → now ≡ local doc q.process k
    → reading_of at ≡ cond (doc.settings.rules.first_sync_millis == 0) None (Some (now + of_millis doc.settings.rules.first_sync_millis))
    → SettlesStand doc q (entry k step q (Leads version) ∷ h) at
settles_led doc k step q version h now at is settles =
    subst (λ b. SaysLead doc q k h at (when b version)) (sym (same_self q))
    (λ led. settles ∙ ap (λ n. cond (doc.settings.rules.first_sync_millis == 0) None (Some (n + of_millis doc.settings.rules.first_sync_millis))) is)
