-- What a pass's writes of pods take, as a term keeps it.
use Rattle.std.specs.Prelude.{◌≡◌, ◌≤◌, ◌+◌, ◌==◌, not, ℕ, cond, List, min}
use Rattle.kube_objects.specs.Document.{Doc}
use Rattle.kube_objects.specs.Entry.{Entry, Identity}
use Rattle.kube_objects.specs.Health.{is_pass_due, marked_since, pods_to_write}
use Rattle.kube_objects.specs.Tick.{pass}
use Rattle.tick_laws.specs.Steps.{tick_cost}
use Rattle.controller_core.specs.declared.pass.work.PodWrites.{PodWrites}

-- a number that stays at the greatest u64, which no reading comes to
abbrev pub kept : ℕ → ℕ
kept n = min n 18446744073709551615

-- h is the history before a pass, and now has the marks so far: how many pods it sets not ready, where that takes time
abbrev pub pods_counted : Doc → Identity → (h now : List Entry) → ℕ
pods_counted doc q h now = cond (doc.settings.rules.ready_millis == 0) 0 (pods_to_write q (marked_since q now) h)

pub record WritesStand (doc : Doc) (q : Identity) (h now : List Entry) (w : PodWrites) : Type 0 where
  pub takes : w.takes ≡ not (doc.settings.rules.ready_millis == 0)
  pub count : w.count ≡ kept (pods_counted doc q h now)

-- within a pass no more steps were counted than what was added concerns, and the pods
abbrev pub HavePassCost : Doc → Identity → ℕ → (h from to : List Entry) → ℕ → ℕ → Type 0
HavePassCost doc q k h from to old new =
    new + (tick_cost q k from + pods_counted doc q h from) ≤ old + (tick_cost q k to + pods_counted doc q h to)

-- how many pods a tick's pass counts; h is the history before it
abbrev pub pods_passed : Doc → ℕ → Identity → List Entry → ℕ
pods_passed doc k q h = cond (is_pass_due doc k q h) (pods_counted doc q h (pass doc k q h)) 0
