use Rattle.std.proofs.Common.{◌≡◌, ◌≤◌, ◌-◌, cond, take}
use Rattle.kube_base.specs.Steps.{counted}
use Rattle.kube_objects.specs.declared.key.Key.{Key}
use Rattle.kube_objects.specs.Feeds.{is_among}
use Rattle.watch_cache.specs.Objects.{object_at}
use Rattle.watch_cache.proofs.objects.Objects.take_over.Given as goal

abbrev pub invariant-loop-place : goal.invariant-loop-place
invariant-loop-place g l =
    record {
      taken : (k : Key) → object_at l.self k ≡ cond (is_among (take l.place (g.C.Changed.keys l.changed)) k) (g.C.Changed.shown l.changed k) (object_at l.fn.self k);
      counted : l.steps ≡ counted l.fn.steps l.place;
      within : l.place ≤ l.count;
    }

abbrev pub decreases-loop-place : goal.decreases-loop-place
decreases-loop-place g l = l.count - l.place
