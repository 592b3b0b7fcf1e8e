use Rattle.std.proofs.Common.{◌≡◌, ℕ, Option, Some, None, sym, ap, ◌∙◌}
use Rattle.kube_base.specs.declared.numbers.Beat.{Beat}
use Rattle.kube_objects.specs.Document.{Doc}
use Rattle.kube_objects.specs.Stalls.{at_store, awake}
use Rattle.wire_calls.specs.declared.message.Fate.TheVariants as fate
use Rattle.wire_calls.specs.Messages.{sent_as_told}
use Rattle.world_core.proofs.world.messages.at_store.Goals as goal

lost : (doc : Doc) (o : Option ℕ) → fate.Lost ≡ sent_as_told o → fate.Lost ≡ sent_as_told (at_store doc o)
lost doc None is = is
lost doc (Some at) is = absurd (cc)

arrives-then : (doc : Doc) (beat then : Beat) (o : Option ℕ) → fate.InFlight beat ≡ sent_as_told o → then.0 ≡ awake doc beat.0 → fate.InFlight then ≡ sent_as_told (at_store doc o)
arrives-then doc beat then None is late = cc
arrives-then doc beat then (Some at) is late =
    let same : beat.0 ≡ at = cc in
    ap (λ n. fate.InFlight (record { 0 = n })) (late ∙ ap (awake doc) same)

pub returns-in-Lost : goal.returns-in-Lost
returns-in-Lost c doc arrives stalls travels = lost doc arrives (sym c.in-Lost.is ∙ travels)

pub returns-in-InFlight : goal.returns-in-InFlight
returns-in-InFlight c doc arrives stalls travels = arrives-then doc c.in-InFlight.arrives c.awake.result arrives (sym c.in-InFlight.is ∙ travels) (c.awake.ensures doc stalls)
