use Rattle.std.proofs.Common.{◌++◌, Ok, sym, ap, ◌∙◌}
use Rattle.std.proofs.lemmas.Iterator.Adapters.{YieldsList-from_vec, fact_from_extend}
use Rattle.std.proofs.lemmas.List.{map-id}
use Rattle.lens_calm.proofs.Joins.{joined}
use Rattle.lens_calm.proofs.objects.add_all.Goals as goal

pub returns : goal.returns
returns c =
    fact_from_extend {E = Unit {0}} (λ x. x) (Ok tt) c.in_ok-extend.ensures.ran (λ it b. YieldsList-from_vec {s = it} _ b.0 (b.1 ∙ c.args.more.ok.0))
    (λ xs e h. joined c.args.parts.now.items c.args.more.items c.extend.new.self.items (h.0 ∙ ap (λ l. c.args.parts.now.items ++ l) (sym (map-id xs) ∙ e)))
