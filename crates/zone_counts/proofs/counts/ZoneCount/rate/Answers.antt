use Rattle.std.proofs.Common.{◌≡◌, ap, ◌∙◌, ◌+◌, min, arith, rules}
use Rattle.kube_objects.specs.Modes.{size_in}
use Rattle.zone_counts.proofs.RateLaws.{rates_same, size_fits}
use Rattle.zone_counts.proofs.counts.ZoneCount.rate.Goals as goal

pub returns : goal.returns
returns g c doc nodes place is s few =
    let size : c.saturating_add.result ≡ size_in place nodes = c.saturating_add.ensures ∙ ap (λ z. min (z.ready + z.others) 4294967295) is ∙ size_fits place nodes few in
    c.rate.ensures.rate ∙ rates_same doc c.args.settings.now c.args.on _ _ _ _ s (c.state.ensures doc nodes place is s.percent) size
