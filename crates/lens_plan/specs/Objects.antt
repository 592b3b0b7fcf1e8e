-- The JSON on what is found: the numbers that the lines tell.
use Rattle.std.specs.Prelude.{ℕ, ◌*◌, true, false, List, [], ◌∷◌, ◌++◌, codes, Option, Some, None}
use Rattle.serde_json.specs.Data.{boolean}
use Rattle.serde_json.specs.Written.{compact_text}
use Rattle.lens_json.specs.Members.{Named, nat, object_of}
use Rattle.lens_room.specs.MarginJson.{whole, number_if}
use Rattle.lens_tune.specs.declared.plan.Plan.{Plan}
use Rattle.lens_tune.specs.declared.wish.Wish.{Wish}
use Rattle.lens_tune.specs.Plans.{bound}
use Rattle.lens_tune.specs.Wishes.{renew_millis, retry_millis, timeout_of, wait_of}
use Rattle.lens_plan.specs.declared.found.Found.{Found}
use Rattle.lens_plan.specs.declared.found.Found.TheVariants.{Fitting, Later, Never}
use Rattle.lens_plan.specs.Found.{spare, two_ways}

abbrev pub plan_members : Wish → Plan → List Named
plan_members w p =
    nat (codes "failoverMillis") w.failover_millis ∷ nat (codes "leaseMillis") (p.lease_seconds * 1000) ∷ nat (codes "renewMillis") (renew_millis p)
    ∷ nat (codes "retryMillis") (retry_millis p) ∷ nat (codes "timeoutMillis") (timeout_of w p) ∷ nat (codes "waitMillis") (wait_of w p)
    ∷ (codes "crashMostMillis", whole (bound w p)) ∷ (codes "spareMillis", whole (spare w p)) ∷ (codes "fits", boolean true) ∷ []

abbrev pub no_members : Wish → Option ℕ → List Named
no_members w least =
    nat (codes "failoverMillis") w.failover_millis ∷ nat (codes "twoWaysMillis") (two_ways w) ∷ (codes "leastFailoverMillis", number_if least)
    ∷ (codes "fits", boolean false) ∷ []

abbrev pub members_of : Wish → Found → List Named
members_of w (Fitting p) = plan_members w p
members_of w (Later least) = no_members w (Some least)
members_of w Never = no_members w None

unfoldable pub found_json : Wish → Found → List ℕ
found_json w found = compact_text (object_of (members_of w found)) ++ codes "\n"
