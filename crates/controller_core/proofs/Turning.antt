-- What a tick does between its pass and its evictions, by when nodes are judged.
use Rattle.std.proofs.Common.{◌≡◌, ◌∙◌, ℕ, true, false, List, sym, ap, subst}
use Rattle.std.specs.Prelude.{if◌then◌else◌}
use Rattle.kube_objects.specs.declared.rules.JudgeRule.TheVariants as judges
use Rattle.kube_objects.specs.Document.{Doc}
use Rattle.kube_objects.specs.Entry.{Entry, Identity}
use Rattle.kube_objects.specs.Health.{is_pass_tick}
use Rattle.kube_objects.specs.Judgement.{passes}
use Rattle.kube_objects.specs.Tainting.{before_tick}
use Rattle.kube_objects.specs.Tick.{cleaned, cleaned_by, judge_all}
use Rattle.taint_zones.specs.declared.zones.Zones.{Zones}
use Rattle.controller_core.specs.HeadsStand.{HeadsBegin, HeadsBeginBy}
use Rattle.controller_core.specs.Pushing.{PushesStand}
use Rattle.controller_core.specs.QueuesStand.{AreFresh, QueuesStand}
use Rattle.controller_core.specs.Turning.{HeadsSettledBy}

module _ (doc : Doc) (k : ℕ) (q : Identity) (h : List Entry) where
  -- ---- the tick of a pass, and another one

  pub judged_never : doc.settings.rules.judge ≡ judges.Pass → is_pass_tick k q h ≡ false → cleaned doc k q h ≡ h
  judged_never is none = ap (λ rule. cleaned_by rule doc k q h) is ∙ ap (λ b. if b then judge_all doc k q (passes q h) h else h) none

  pub judged_now : doc.settings.rules.judge ≡ judges.Pass → is_pass_tick k q h ≡ true → judge_all doc k q (passes q h) h ≡ cleaned doc k q h
  judged_now is now = sym (ap (λ rule. cleaned_by rule doc k q h) is ∙ ap (λ b. if b then judge_all doc k q (passes q h) h else h) now)

  -- ---- queues

  pub begun_queues : (zones : Zones) → doc.settings.rules.judge ≡ judges.Tick → HeadsBegin doc k q h zones → QueuesStand q (before_tick q k h) zones.queues
  begun_queues zones is s = subst (λ rule. HeadsBeginBy rule doc k q h zones) is s

  pub begun_pushes : (zones : Zones) → doc.settings.rules.judge ≡ judges.Pass → HeadsBegin doc k q h zones → PushesStand doc q h zones.pushes
  begun_pushes zones is s = subst (λ rule. HeadsBeginBy rule doc k q h zones) is s

  pub settled_queues : (zones : Zones) → doc.settings.rules.judge ≡ judges.Tick → QueuesStand q h zones.queues → AreFresh q k h → HeadsSettledBy doc.settings.rules.judge doc k q h zones
  settled_queues zones is s fresh = subst (λ rule. HeadsSettledBy rule doc k q h zones) (sym is) (s, fresh)

  pub settled_pushes : (zones : Zones) → doc.settings.rules.judge ≡ judges.Pass → PushesStand doc q h zones.pushes → HeadsSettledBy doc.settings.rules.judge doc k q h zones
  settled_pushes zones is s = subst (λ rule. HeadsSettledBy rule doc k q h zones) (sym is) s
