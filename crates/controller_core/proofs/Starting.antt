-- A term that begins stands for every history without ticks of its own.
use Rattle.std.proofs.Common.{◌≡◌, ◌∙◌, ℕ, Bool, true, false, List, [], ◌∷◌, None, refl, sym, arith}
use Rattle.std.specs.List.Sorted.{IsStrictlySortedBy}
use Rattle.std.specs.Ordering.{nat_cmp}
use Rattle.kube_objects.specs.declared.rules.JudgeRule.{JudgeRule}
use Rattle.kube_objects.specs.declared.rules.JudgeRule.TheVariants as judges
use Rattle.kube_objects.specs.Document.{Doc}
use Rattle.kube_objects.specs.Entry as model
use Rattle.kube_objects.specs.Entry.{Entry, Fact, Identity, Ticks}
use Rattle.kube_objects.specs.Health.{is_known, kept_lease, last_pass, left_ready}
use Rattle.kube_objects.specs.Judgement.{counts, passes, queue}
use Rattle.kube_objects.specs.Newest.{added}
use Rattle.kube_objects.specs.Tokens.{rated}
use Rattle.history_laws.proofs.Plainly.{false_is}
use Rattle.kube_objects.specs.Identities.{is_by}
use Rattle.node_health.specs.Stands.{AreUnlooked, is_of_health}
use Rattle.node_health.proofs.Frames.{SaysSame, unheard-foreign, unheard-kind}
use Rattle.taint_zones.specs.declared.place.Place.{Place}
use Rattle.taint_zones.specs.declared.zones.Zones.{Zones}
use Rattle.taint_zones.specs.Places.{of_place}
use Rattle.taint_zones.specs.Pushing.{counted_at, pushed_at}
use Rattle.taint_zones.specs.Waiting.{since}
use Rattle.tick_laws.specs.Judged.{waits_since}
use Rattle.tick_laws.specs.Room.{owed}
use Rattle.tick_laws.specs.Since.{AreReached}
use Rattle.tick_laws.proofs.Phases.{foreign_limits}
use Rattle.tick_laws.proofs.Foreign.{foreign_reached, foreign_since}
use Rattle.watch_cache.specs.Stands.{is_tick_by, ticks}
use Rattle.controller_core.specs.HeadsStand.{HeadsStand, HeadsStandBy}
use Rattle.controller_core.specs.Looking.{HeldStand}
use Rattle.controller_core.proofs.Allowed.{owed_foreign}

parts : (q : Identity) (h : List Entry) (b : Bool) → added b (ticks q h) ≡ 0 → (b ≡ false) × (ticks q h ≡ 0)
parts q h true n = absurd (omega (arith, n))
parts q h false n = (refl, n)

pub no_pass : (q : Identity) (h : List Entry) → ticks q h ≡ 0 → last_pass q h ≡ None
no_pass q [] none = refl
no_pass q (e ∷ h) none = let p = parts q h (is_tick_by q e.actor e.fact) none in (foreign_limits q h e p.0).passed ∙ no_pass q h p.1

-- an entry that is no tick of the term's own
pub others_health : (q : Identity) (h : List Entry) (e : Entry) → is_tick_by q e.actor e.fact ≡ false → SaysSame q h (e ∷ h)
others_health q h e other = by_fact e.fact other (unheard-kind q h e) (unheard-foreign q h e)
  where
    by_fact : (d : Fact) → is_tick_by q e.actor d ≡ false → (is_of_health d ≡ false → SaysSame q h (e ∷ h)) → (is_by q e.actor ≡ false → SaysSame q h (e ∷ h)) → SaysSame q h (e ∷ h)
    by_fact (Ticks t) is kind foreign = foreign is
    by_fact d is kind foreign = kind refl

-- nothing was looked at
pub unlooked : (q : Identity) (h : List Entry) → ticks q h ≡ 0 → AreUnlooked q h
unlooked q h none = record { passes = no_pass q h none; left = λ name. no_ready q name h none; lease = λ name. no_lease q name h none }
  where
    no_ready : (q : Identity) (name : ℕ) (h : List Entry) → ticks q h ≡ 0 → left_ready q name h ≡ None
    no_ready q name [] none = refl
    no_ready q name (e ∷ h) none = let p = parts q h (is_tick_by q e.actor e.fact) none in (others_health q h e p.0 name).left ∙ no_ready q name h p.1

    no_lease : (q : Identity) (name : ℕ) (h : List Entry) → ticks q h ≡ 0 → kept_lease q name h ≡ None
    no_lease q name [] none = refl
    no_lease q name (e ∷ h) none = let p = parts q h (is_tick_by q e.actor e.fact) none in (others_health q h e p.0 name).lease ∙ no_lease q name h p.1

pub no_rate : (q : Identity) (place : model.Place) (h : List Entry) → ticks q h ≡ 0 → rated q place h ≡ None
no_rate q place [] none = refl
no_rate q place (e ∷ h) none = let p = parts q h (is_tick_by q e.actor e.fact) none in (foreign_limits q h e p.0).rated place ∙ no_rate q place h p.1

pub no_since : (q : Identity) (place : model.Place) (name : ℕ) (h : List Entry) → ticks q h ≡ 0 → waits_since q place name h ≡ None
no_since q place name [] none = refl
no_since q place name (e ∷ h) none = let p = parts q h (is_tick_by q e.actor e.fact) none in foreign_since q h e p.0 place name ∙ no_since q place name h p.1

pub no_debt : (doc : Doc) (q : Identity) (now : ℕ) (h : List Entry) → ticks q h ≡ 0 → owed doc q now h ≡ 0
no_debt doc q now [] none = refl
no_debt doc q now (e ∷ h) none = let p = parts q h (is_tick_by q e.actor e.fact) none in owed_foreign doc q now h e p.0 ∙ no_debt doc q now h p.1

pub none_reached : (q : Identity) (h : List Entry) → ticks q h ≡ 0 → AreReached q h
none_reached q [] none = λ key stale. absurd (false_is stale)
none_reached q (e ∷ h) none = let p = parts q h (is_tick_by q e.actor e.fact) none in foreign_reached q h e p.0 (none_reached q h p.1)

-- ---- queues, and the nodes of a last pass

pub no_queue : (doc : Doc) (q : Identity) (place : model.Place) (h : List Entry) → ticks q h ≡ 0 → queue doc q place (passes q h) ≡ []
no_queue doc q place [] none = refl
no_queue doc q place (e ∷ h) none = let p = parts q h (is_tick_by q e.actor e.fact) none in (foreign_limits q h e p.0).queue doc place ∙ no_queue doc q place h p.1

no_counts : (doc : Doc) (q : Identity) (place : model.Place) (name : ℕ) (h : List Entry) → ticks q h ≡ 0 → counts doc q place name (passes q h) ≡ false
no_counts doc q place name [] none = refl
no_counts doc q place name (e ∷ h) none = let p = parts q h (is_tick_by q e.actor e.fact) none in (foreign_limits q h e p.0).counts doc place name ∙ no_counts doc q place name h p.1

no_known : (q : Identity) (name : ℕ) (h : List Entry) → ticks q h ≡ 0 → is_known q name h ≡ false
no_known q name [] none = refl
no_known q name (e ∷ h) none = let p = parts q h (is_tick_by q e.actor e.fact) none in (foreign_limits q h e p.0).known name ∙ no_known q name h p.1

nothing_ascends : IsStrictlySortedBy nat_cmp []
unfolding IsStrictlySortedBy
nothing_ascends = tt

pub none_held : (q : Identity) (h : List Entry) → ticks q h ≡ 0 → HeldStand q h []
none_held q h none = record { names = record { ascend = nothing_ascends; named = λ n. sym (no_known q n h none) }; ascend = nothing_ascends }

pub no_heads_yet : (doc : Doc) (q : Identity) (h : List Entry) (zones : Zones) → ticks q h ≡ 0 → ((place : Place) (n : ℕ) → since zones.queues place n ≡ None) → ((place : Place) → pushed_at zones.pushes place ≡ [])
    → ((place : Place) (n : ℕ) → counted_at zones.pushes place n ≡ false) → HeadsStand doc q h zones
no_heads_yet doc q h zones none queues pushes uncounted = by_rule doc.settings.rules.judge
  where
    by_rule : (rule : JudgeRule) → HeadsStandBy rule doc q h zones
    by_rule judges.Tick = λ place n. queues (of_place place) n ∙ sym (no_since q place n h none)
    by_rule judges.Pass =
        record { names = λ place. pushes (of_place place) ∙ sym (no_queue doc q place h none); counts = λ place n. uncounted (of_place place) n ∙ sym (no_counts doc q place n h none) }
