use Rattle.std.proofs.Common.{◌+◌, Some, ◌∙◌, sym, ap}
use Rattle.std.proofs.lemmas.Slice.Eq.{bytes_eq-Decides}
use Rattle.kube_base.proofs.names.Names.behind_last.Goals as goal

pub returns-then-eq : goal.returns-then-eq
returns-then-eq c =
    c.len.ensures.once (c.self.inside.last + 1) c.args.bytes.now
    (rw (← c.self.view_is) (sym c.in_ok-text.ensures.key ∙ ap (λ text. Some text) (sym c.bytes.ensures ∙ (bytes_eq-Decides c.bytes.result.now c.args.bytes.now).0 (sym c.eq.ensures ∙ c.if-eq.true))))
