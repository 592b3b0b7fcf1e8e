use Rattle.std.proofs.Common.{◌≡◌, ℕ, Option, Some, None, is_some, IfSome, IfNone, sym, ◌∙◌, ◌≤◌}
use Rattle.kube_objects.specs.Judgement.{holds_name}
use Rattle.taint_queue.specs.Pushed.{names}
use Rattle.taint_queue.specs.declared.pushes.Pushes.{Pushes}
use Rattle.taint_queue.proofs.Numbered.{holds_none, holds_some, node_at}
use Rattle.taint_queue.proofs.pushes.Pushes.holds.Goals as goal

by_first : (q : Pushes) (node : ℕ) (first : Option ℕ)
    → IfSome first (λ place. (node_at q.order.entries place ≡ Some node) × ((other : ℕ) → node_at q.order.entries other ≡ Some node → place ≤ other))
    → IfNone first ((place : ℕ) → node_at q.order.entries place ≡ Some node → ⊥) → is_some first ≡ holds_name node (names q)
by_first q node None there none = sym (holds_none node q.order.entries q.ascends none)
by_first q node (Some place) there none = sym (holds_some place node q.order.entries there.0)

pub returns : goal.returns
returns c = c.is_some.ensures ∙ by_first c.args.self.now c.args.node c.first_of.result c.first_of.ensures.there c.first_of.ensures.none
