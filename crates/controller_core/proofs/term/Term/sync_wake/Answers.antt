use Rattle.std.proofs.Common.{◌∙◌, ap, sym}
use Rattle.kube_objects.specs.Newest.{only_if}
use Rattle.kube_objects.specs.Tick.{settles_at}
use Rattle.controller_core.proofs.term.Term.sync_wake.Goals as goal

pub returns-then-not-syncs : goal.returns-then-not-syncs
returns-then-not-syncs c doc q h s st is led =
    ap (λ b. only_if b (settles_at doc q h)) (sym c.if-not-syncs.true ∙ c.syncs.ensures doc q h s.cluster st is)

pub returns : goal.returns
returns c doc q h s st is led =
    s.parts.settles led ∙ ap (λ b. only_if b (settles_at doc q h)) (sym c.if-not-syncs.false ∙ c.syncs.ensures doc q h s.cluster st is)
