use Rattle.std.proofs.Common.{◌≡◌, ℕ, length, slice_get, Option, Some, None, refl, sym, ap, ◌∙◌}
use Rattle.std.proofs.lemmas.Option.{slice_get_read}
use Rattle.kube_base.specs.declared.numbers.Beat.{Beat}
use Rattle.kube_objects.specs.Document.{Doc}
use Rattle.kube_objects.specs.Pauses.{held_up, resume}
use Rattle.wire_calls.specs.declared.message.Fate.{Fate}
use Rattle.wire_calls.specs.declared.message.Fate.TheVariants as fate
use Rattle.wire_calls.specs.Messages.{sent_as_told}
use Rattle.world_core.proofs.replies.held_up.Goals as goal

-- what is lost stays lost
lost : (doc : Doc) (p : ℕ) (travels : Fate) (comes : Option ℕ) → ((beat : Beat) → ¬ (travels ≡ fate.InFlight beat)) → travels ≡ sent_as_told comes → travels ≡ sent_as_told (held_up doc p comes)
lost doc p travels None never is = is
lost doc p travels (Some at) never is = absurd (never _ is)

-- what comes, comes where the pause is over
comes-then : (doc : Doc) (p : ℕ) (beat then : Beat) (comes : Option ℕ) → fate.InFlight beat ≡ sent_as_told comes → then.0 ≡ resume doc p beat.0 → fate.InFlight then ≡ sent_as_told (held_up doc p comes)
comes-then doc p beat then None is late = cc
comes-then doc p beat then (Some at) is late =
    let same : beat.0 ≡ at = cc in
    ap (λ n. fate.InFlight (record { 0 = n })) (late ∙ ap (resume doc p) same)

pub returns : goal.returns
returns c doc h comes each within travels =
    let p = c.args.who.0 in
    let x = c.index-processes-i.result in
    let was : slice_get c.args.processes.now p ≡ Some x = slice_get_read c.args.processes.now (length c.args.processes.now) p x refl within c.index-processes-i.is in
    comes-then doc p c.in-InFlight.comes c.resume.result comes (sym c.in-InFlight.is ∙ travels) (c.resume.ensures doc p h (each p x was))
