-- What a queue of pushes keeps.
use Rattle.std.specs.Prelude.{ℕ, Bool, List, map}
use Rattle.std.specs.BTreeSet.{contains}
use Rattle.std.specs.Ordering.{nat_cmp}
use Rattle.taint_queue.specs.declared.pushes.Pushes.{Pushes}

-- the nodes of the pushes, the first one first
abbrev pub names : Pushes → List ℕ
names p = map (λ e. e.1) p.order.entries

-- whether a node counts as pushed
abbrev pub counts_in : Pushes → ℕ → Bool
counts_in p node = contains nat_cmp p.counted node
