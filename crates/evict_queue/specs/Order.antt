-- The order of due pods: by due time, then by key (profile).
use Rattle.std.specs.Prelude.{◌≡◌, ℕ, Bool, false, ◌==◌, ◌&&◌}
use Rattle.std.specs.Ordering.{nat_cmp, ordering_then, is_gt}
use Rattle.std.specs.declared.cmp.Ordering.{Ordering}
use Rattle.kube_objects.specs.declared.key.Key.{Key}
use Rattle.kube_objects.specs.Keys.{key_cmp, key_eq}

abbrev pub timed_cmp : ℕ × Key → ℕ × Key → Ordering
timed_cmp a b = ordering_then (nat_cmp a.0 b.0) (key_cmp a.1 b.1)

-- whether the two are one entry
abbrev pub is_entry : ℕ → Key → ℕ → Key → Bool
is_entry due key other_due other_key = (due == other_due) && key_eq key other_key

-- the first is not after the second
abbrev pub IsNotAfter : ℕ × Key → ℕ × Key → Type 0
IsNotAfter a b = is_gt (timed_cmp a b) ≡ false
