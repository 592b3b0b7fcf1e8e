-- The queues of zones, by when nodes are judged, before and after the heads of a tick.
use Rattle.std.proofs.Common.{◌≡◌, ◌∙◌, ℕ, false, List, ◌∷◌, Option, Some, None, sym, ap, subst}
use Rattle.std.specs.Prelude.{if◌then◌else◌}
use Rattle.kube_objects.specs.declared.rules.JudgeRule.{JudgeRule}
use Rattle.kube_objects.specs.declared.rules.JudgeRule.TheVariants as judges
use Rattle.kube_objects.specs.Document.{Doc}
use Rattle.kube_objects.specs.Entry.{Entry, Identity}
use Rattle.kube_objects.specs.Health.{is_pass_due}
use Rattle.kube_objects.specs.Tainting.{before_tick}
use Rattle.kube_objects.specs.Tick.{evicted, pass, whole_pass}
use Rattle.taint_zones.specs.declared.place.Place.{Place}
use Rattle.taint_zones.specs.declared.zones.Zones.{Zones}
use Rattle.taint_zones.specs.Places.{of_place}
use Rattle.taint_zones.specs.Waiting.{since}
use Rattle.tick_laws.specs.Judged.{waits_since}
use Rattle.tick_laws.proofs.Foreign.{foreign_since}
use Rattle.tick_laws.proofs.Phases.{KeepsLimits, evicted_limits, evicted_since, foreign_limits}
use Rattle.watch_cache.specs.Stands.{is_tick_by}
use Rattle.controller_core.specs.HeadsStand.{HeadsBegin, HeadsBeginBy, HeadsStand, HeadsStandBy}
use Rattle.controller_core.specs.Looking.{HeldStand, IsFoundBy}
use Rattle.controller_core.specs.Pushing.{PushesStand}
use Rattle.controller_core.specs.Turning.{HeadsSettledBy, held_after}
use Rattle.controller_core.specs.declared.pass.found.Found.{Found}
use Rattle.controller_core.proofs.Between.{pushes_stand}

-- an entry that is no tick of the term's own
pub heads_foreign : (doc : Doc) (q : Identity) (h : List Entry) (e : Entry) (zones : Zones) → is_tick_by q e.actor e.fact ≡ false → HeadsStand doc q h zones → HeadsStand doc q (e ∷ h) zones
heads_foreign doc q h e zones other = by_rule doc.settings.rules.judge
  where
    by_rule : (rule : JudgeRule) → HeadsStandBy rule doc q h zones → HeadsStandBy rule doc q (e ∷ h) zones
    by_rule judges.Tick s = λ place n. s place n ∙ sym (foreign_since q h e other place n)
    by_rule judges.Pass s = pushes_stand doc q h (e ∷ h) zones.pushes (foreign_limits q h e other) s

-- as a tick begins; f is the history with its sync
pub heads_begun : (doc : Doc) (k : ℕ) (q : Identity) (h f : List Entry) (zones : Zones) → KeepsLimits q h f → before_tick q k f ≡ h → HeadsStand doc q h zones → HeadsBegin doc k q f zones
heads_begun doc k q h f zones kept beneath = by_rule doc.settings.rules.judge
  where
    by_rule : (rule : JudgeRule) → HeadsStandBy rule doc q h zones → HeadsBeginBy rule doc k q f zones
    by_rule judges.Tick s = λ place n. s place n ∙ ap (waits_since q place n) (sym beneath)
    by_rule judges.Pass s = pushes_stand doc q h f zones.pushes kept s

-- a pass has left the queues as they were
pub heads_left : (doc : Doc) (k : ℕ) (q : Identity) (h : List Entry) (old new : Zones) → ((place : Place) (n : ℕ) → since new.queues place n ≡ since old.queues place n) → new.pushes ≡ old.pushes
    → HeadsBegin doc k q h old → HeadsBegin doc k q h new
heads_left doc k q h old new queues pushes = by_rule doc.settings.rules.judge
  where
    by_rule : (rule : JudgeRule) → HeadsBeginBy rule doc k q h old → HeadsBeginBy rule doc k q h new
    by_rule judges.Tick s = λ place n. queues (of_place place) n ∙ s place n
    by_rule judges.Pass s = subst (PushesStand doc q h) (sym pushes) s

-- and the evictions do
pub heads_after : (doc : Doc) (k : ℕ) (q : Identity) (h : List Entry) (zones : Zones) → HeadsSettledBy doc.settings.rules.judge doc k q h zones → HeadsStand doc q (evicted doc k q h) zones
heads_after doc k q h zones = by_rule doc.settings.rules.judge
  where
    by_rule : (rule : JudgeRule) → HeadsSettledBy rule doc k q h zones → HeadsStandBy rule doc q (evicted doc k q h) zones
    by_rule judges.Tick s = λ place n. s.0 place n ∙ sym (evicted_since doc k q h s.1 place n).0
    by_rule judges.Pass s = pushes_stand doc q h (evicted doc k q h) zones.pushes (evicted_limits doc k q h) s

-- ---- the nodes that a pass found

pub pass_none : (doc : Doc) (k : ℕ) (q : Identity) (h : List Entry) → is_pass_due doc k q h ≡ false → pass doc k q h ≡ h
pass_none doc k q h is = ap (λ b. if b then whole_pass doc k q h else h) is

pub held_found : (doc : Doc) (k : ℕ) (q : Identity) (h : List Entry) (found : Option Found) (held : List ℕ) → IsFoundBy doc k q h found → HeldStand q h held → HeldStand q (pass doc k q h) (held_after held found)
held_found doc k q h None held none s = subst (λ g. HeldStand q g held) (sym (pass_none doc k q h none)) s
held_found doc k q h (Some found) held is s = is.1.1.held
