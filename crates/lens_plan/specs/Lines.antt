-- The lines on what is found.
use Rattle.std.specs.Prelude.{ℕ, ◌*◌, List, ◌++◌, codes, decimal, Option, Some, None}
use Rattle.lens_tune.specs.declared.plan.Plan.{Plan}
use Rattle.lens_tune.specs.declared.wish.Wish.{Wish}
use Rattle.lens_tune.specs.Plans.{bound}
use Rattle.lens_plan.specs.declared.found.Found.{Found}
use Rattle.lens_plan.specs.declared.found.Found.TheVariants.{Fitting, Later, Never}
use Rattle.lens_plan.specs.Found.{spare, two_ways, short_timeout}

-- a label and so many milliseconds
unfoldable pub millis_text : List ℕ → ℕ → List ℕ
millis_text label n = label ++ decimal n ++ codes "ms"

unfoldable pub lease_text : ℕ → List ℕ
lease_text seconds = codes "--leader-elect-lease-duration=" ++ decimal seconds ++ codes "s"

-- tenths of a second, in milliseconds
unfoldable pub tenths_text : ℕ → List ℕ
tenths_text tenths = decimal (tenths * 100) ++ codes "ms"

-- the flags of kube-controller-manager
unfoldable pub flags_line : Plan → List ℕ
flags_line p =
    lease_text p.lease_seconds ++ codes " --leader-elect-renew-deadline=" ++ tenths_text p.renew_tenths
    ++ codes " --leader-elect-retry-period=" ++ tenths_text p.retry_tenths ++ codes "\n"

-- how long nobody leads after a crash, at most, and other milliseconds beside it
unfoldable pub crash_line : ℕ → List ℕ → ℕ → List ℕ
crash_line most label other = codes "crash nobody-leads" ++ millis_text (codes " at-most=") most ++ millis_text label other ++ codes "\n"

unfoldable pub plan_text : Wish → Plan → List ℕ
plan_text w p = flags_line p ++ crash_line (bound w p) (codes " spare=") (spare w p) ++ codes "fits\n"

-- by no plan somebody else leads sooner than in so many milliseconds
unfoldable pub later_text : Wish → ℕ → List ℕ
later_text w least = crash_line least (codes " failover=") w.failover_millis ++ codes "least-failover=" ++ decimal least ++ codes "ms\nnone\n"

unfoldable pub short_line : ℕ → ℕ → List ℕ
short_line millis ways = millis_text (codes "timeout=") millis ++ millis_text (codes " two-ways=") ways ++ codes "\n"

abbrev pub reason_by : ℕ → Option ℕ → List ℕ
reason_by ways None = codes "least-lease=none\n"
reason_by ways (Some millis) = short_line millis ways

-- the call timeout is too short for a reply, or no lease of a day or less is long enough
abbrev pub reason_text : Wish → List ℕ
reason_text w = reason_by (two_ways w) (short_timeout w)

unfoldable pub never_text : Wish → List ℕ
never_text w = reason_text w ++ codes "least-failover=none\nnone\n"

abbrev pub found_text : Wish → Found → List ℕ
found_text w (Fitting p) = plan_text w p
found_text w (Later least) = later_text w least
found_text w Never = never_text w
