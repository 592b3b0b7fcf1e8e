-- The order of keys, as the derived `cmp` has it.
use Rattle.std.specs.Prelude.{ℕ, Bool}
use Rattle.std.specs.Ordering.{nat_cmp, ordering_then, eq_by_cmp}
use Rattle.std.specs.declared.cmp.Ordering.{Ordering}
use Rattle.kube_objects.specs.declared.key.Key.{Key}
use Rattle.kube_objects.specs.declared.key.Kind.{Kind}
use Rattle.kube_objects.specs.declared.key.Kind.TheVariants.{Node, Lease, Pod}

-- the place of a kind in the order
abbrev pub kind_rank : Kind → ℕ
kind_rank Node = 0
kind_rank Lease = 1
kind_rank Pod = 2

-- by kind, then namespace, then name
abbrev pub key_cmp : Key → Key → Ordering
key_cmp a b =
    ordering_then (nat_cmp (kind_rank a.kind) (kind_rank b.kind)) (ordering_then (nat_cmp a.space b.space) (nat_cmp a.name b.name))

abbrev pub key_eq : Key → Key → Bool
key_eq = eq_by_cmp key_cmp
