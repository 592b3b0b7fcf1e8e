-- The document as the definitions read it, and the timings of each process.
use Rattle.std.specs.Prelude.{ℕ, ℤ, pos, ◌*◌, nat_lt, Bool, false, List, ◌++◌, map, length, slice_get, Option, Some, None}
use Rattle.kube_objects.specs.Rules.{own_waits}
use Rattle.kube_objects.specs.declared.key.Key.{Key}
use Rattle.kube_objects.specs.declared.object.Object.{Object}
use Rattle.kube_objects.specs.declared.script.Event.{Event}
use Rattle.kube_objects.specs.declared.script.Proc.{Proc}
use Rattle.kube_objects.specs.declared.settings.Settings.{Settings}

pub record Doc : Type 0 where
  pub settings : Settings
  pub controllers : List Proc
  pub kubelets : List Proc
  -- the waits of each controller
  pub waits : List (List ℕ)
  pub objects : List (Key × Object)
  pub events : List Event

-- ---- processes: the controllers in order, then the kubelets

abbrev pub process_at : Doc → ℕ → Option Proc
process_at doc p = slice_get (doc.controllers ++ doc.kubelets) p

abbrev pub processes : Doc → ℕ
processes doc = length (doc.controllers ++ doc.kubelets)

abbrev pub is_controller : Doc → ℕ → Bool
is_controller doc p = nat_lt p (length doc.controllers)

-- a field of a process, or this where there is no such process
abbrev pub field : {A : Type 0} → (Proc → A) → A → Option Proc → A
field f x None = x
field f x (Some proc) = f proc

abbrev pub is_up_first : Doc → ℕ → Bool
is_up_first doc p = field (λ x. x.up) false (process_at doc p)

abbrev pub first_rate : Doc → ℕ → ℕ
first_rate doc p = field (λ x. x.rate_ppm) 0 (process_at doc p)

abbrev pub offset_millis : Doc → ℕ → ℤ
offset_millis doc p = field (λ x. x.offset_millis) (pos 0) (process_at doc p)

-- the waits of controllers of whom the document says none
abbrev pub own_waits_each : List Proc → List (List ℕ)
own_waits_each controllers = map (λ c. own_waits) controllers

abbrev pub waits_or : List ℕ → Option (List ℕ) → List ℕ
waits_or default None = default
waits_or default (Some waits) = waits

-- the waits of a controller after failed attempts, in thousandths of its retry period
abbrev pub waits_of : Doc → ℕ → List ℕ
waits_of doc p = waits_or own_waits (slice_get doc.waits p)

-- ---- timings; where they meet a reading they are in units of 10^-12 s

unfoldable pub of_seconds : ℕ → ℕ
of_seconds seconds = seconds * 1000000000000

unfoldable pub of_millis : ℕ → ℕ
of_millis millis = millis * 1000000000

-- the lease duration of a controller, in seconds
abbrev pub lease_seconds : Doc → ℕ → ℕ
lease_seconds doc p = field (λ x. x.lease_seconds) 0 (process_at doc p)

abbrev pub lease_duration : Doc → ℕ → ℕ
lease_duration doc p = of_seconds (lease_seconds doc p)

abbrev pub renew_deadline : Doc → ℕ → ℕ
renew_deadline doc p = of_millis (field (λ x. x.renew_millis) 0 (process_at doc p))

abbrev pub retry_period : Doc → ℕ → ℕ
retry_period doc p = of_millis (field (λ x. x.retry_millis) 0 (process_at doc p))

abbrev pub call_timeout : Doc → ℕ → ℕ
call_timeout doc p = of_millis (field (λ x. x.timeout_millis) 0 (process_at doc p))

abbrev pub restart_delay : Doc → ℕ
restart_delay doc = of_millis doc.settings.restart_millis

abbrev pub beat_micros : Doc → ℕ
beat_micros doc = doc.settings.beat_millis * 1000

abbrev pub end_beat : Doc → ℕ
end_beat doc = doc.settings.end_beat.0
