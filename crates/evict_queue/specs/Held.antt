-- What the two maps of an eviction queue hold.
use Rattle.std.specs.Prelude.{ℕ, Bool, Option, unwrap_or}
use Rattle.std.specs.BTreeSet.{contains}
use Rattle.key_map.specs.Values.{value_at}
use Rattle.kube_objects.specs.declared.key.Key.{Key}
use Rattle.kube_objects.specs.declared.pod.Due.{Due}
use Rattle.kube_objects.specs.declared.pod.Due.TheVariants.{Never}
use Rattle.evict_queue.specs.Order.{timed_cmp}
use Rattle.evict_queue.specs.declared.timed.Timed.{Timed}
use Rattle.evict_queue.specs.declared.dues.Dues.{Dues}

-- whether the ordered map has this pod at this due time
abbrev pub has_entry : Timed → ℕ → Key → Bool
has_entry timed due key = contains timed_cmp timed.set (due, key)

-- the due that is kept for a pod, where there is room for one
abbrev pub room_of : Dues → Key → Option Due
room_of dues key = value_at dues.map key

-- the due of a pod
abbrev pub due_of : Dues → Key → Due
due_of dues key = unwrap_or (room_of dues key) Never
