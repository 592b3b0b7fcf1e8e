-- What became of a message.
use Rattle.std.specs.Prelude.{ℕ, Bool, Option, Some, None}
use Rattle.kube_objects.specs.Kinds.{keeps_kind}
use Rattle.wire_calls.specs.declared.message.Sent.{Sent}
use Rattle.wire_calls.specs.declared.message.Fate.{Fate}
use Rattle.wire_calls.specs.declared.message.Fate.TheVariants.{Lost, InFlight}

-- a request keeps kinds
abbrev pub request_keeps_kind : Sent → Bool
request_keeps_kind x = keeps_kind x.request

-- a message is lost, or arrives at a beat
abbrev pub sent_as_told : Option ℕ → Fate
sent_as_told None = Lost
sent_as_told (Some j) = InFlight (record { 0 = j })
