use Rattle.std.proofs.Common.{◌+◌, ◌*◌, nat_lt, ◌∙◌}
use Rattle.script_reader.proofs.ClockRatesLemmas.{in_units}
use Rattle.script_reader.proofs.premise.outlasts.Goals as goal

pub returns : goal.returns
returns c =
    let a = c.args in
    (λ i.
    nat_lt
    (c.from-2.ensures i * c.from-3.ensures i * c.from-4.ensures i + c.from-5.ensures i * 1000000 * c.from-6.ensures i)
    (c.from-7.ensures i * 1000000000 * c.from-8.ensures i))
    ∙ (λ i.
    nat_lt
    (a.demand.stall * c.from.ensures i * a.greatest * a.least + a.demand.acting_millis * 1000000 * a.greatest)
    (a.lease_seconds * 1000000000 * a.least))
    ∙ in_units a.demand.stall a.beat_millis a.demand.acting_millis a.lease_seconds a.greatest a.least
