use Rattle.std.proofs.Common.{◌≡◌, ◌*◌, ◌-◌, ap, ◌∙◌, arith, nat_le}
use Rattle.trace_terms.proofs.spacing.is_wide.Goals as goal

pub returns : goal.returns
returns c =
    let step : c.saturating_sub.result ≡ c.args.to - c.args.from = c.saturating_sub.ensures in
    let scale : c.from-scale.result ≡ c.args.rate = c.from-scale.ensures in
    let whole : c.product.result ≡ (c.args.to - c.args.from) * c.args.millis * 1000 * 2_000_000 * c.args.rate =
    c.product.ensures ∙ ap (λ n. n * (c.from-scale.result * 2_000_000_000)) (c.square.ensures ∙ ap (λ n. n * c.args.millis) step)
    ∙ ap (λ n. (c.args.to - c.args.from) * c.args.millis * (n * 2_000_000_000)) scale ∙ omega arith in
    ap (λ n. nat_le 1_000_000_000_000_000 n) whole
