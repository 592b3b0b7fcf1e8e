-- Rows of ticks at which pods have to go. Source: Kubernetes 1.20, the taint manager's `TimedWorkerQueue`, which doesn't move a timer that runs.
use Rattle.std.specs.Prelude.{ℕ, ◌+◌, ◌<◌, ◌^◌, Bool, true, false, cond, Option, Some, None}
use Rattle.key_map.specs.Values.{value_at}
use Rattle.kube_objects.specs.declared.key.Key.{Key}
use Rattle.kube_objects.specs.declared.pod.Bears.{Bears}
use Rattle.kube_objects.specs.declared.pod.Bears.TheVariants.{Untainted, NotAtAll, Ever, For}
use Rattle.evict_queue.specs.declared.rows.Going.{Going}
use Rattle.evict_queue.specs.declared.rows.Going.TheVariants.{Now, After}
use Rattle.evict_queue.specs.declared.rows.Row.{Row}
use Rattle.evict_queue.specs.declared.rows.Rows.{Rows}

-- the row of a pod
abbrev pub row_in : Rows → Key → Option Row
row_in rows key = value_at rows.map key

abbrev pub is_same_going : Going → Going → Bool
is_same_going Now Now = true
is_same_going Now After = false
is_same_going After Now = false
is_same_going After After = true

-- a row goes on while the pod has to go in the same way, and else another one begins
abbrev pub goes_on : Option Row → Going → ℕ → Option Row
goes_on None going due = Some (record { going = going; due = due })
goes_on (Some row) going due = cond (is_same_going row.going going) (Some row) (Some (record { going = going; due = due }))

-- a time that may be added to a time of day
abbrev pub IsInReach : Option Bears → Type 0
IsInReach (Some (For micros)) = micros < 2 ^ 84
IsInReach _ = Unit {0}

-- the row after a tick at this time of day, by the one before it and by what is seen at the tick's end
abbrev pub next_row : Option Row → Option Bears → ℕ → Option Row
next_row row None wall = row
next_row row (Some Untainted) wall = None
next_row row (Some Ever) wall = None
next_row row (Some NotAtAll) wall = goes_on row Now wall
next_row row (Some (For micros)) wall = goes_on row After (wall + micros)
