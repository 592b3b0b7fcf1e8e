-- The JSON on calm spans: the numbers that the lines tell.
use Rattle.std.specs.Prelude.{ℕ, ◌*◌, Bool, List, [], ◌∷◌, ◌++◌, codes, Option, Some, None, unwrap_or}
use Rattle.serde_json.specs.Data.{Data, null, boolean}
use Rattle.lens_bounds.specs.declared.elections.Election.{Election}
use Rattle.lens_bounds.specs.declared.elections.Span.{Span}
use Rattle.lens_bounds.specs.declared.outages.Marked.{Marked}
use Rattle.lens_bounds.specs.declared.outages.Tainted.{Tainted}
use Rattle.lens_json.specs.Members.{Named, nat, text, object_of}
use Rattle.lens_room.specs.FlagJson.{is_renew_deadline}
use Rattle.lens_room.specs.Flags.{timeout_of}
use Rattle.lens_room.specs.MarginJson.{whole, number_if, slack}
use Rattle.lens_calm.specs.declared.settings.Settings.{Settings}
use Rattle.lens_calm.specs.Settings.{near_of, far_of}

-- ---- spans

abbrev pub least_in : Option Span → Option ℕ
least_in None = None
least_in (Some s) = Some s.least

abbrev pub most_in : Option Span → Option ℕ
most_in None = None
most_in (Some s) = Some s.most

abbrev pub span_members : Span → List Named
span_members s = (codes "leastMillis", whole s.least) ∷ (codes "mostMillis", whole s.most) ∷ []

abbrev pub span_data : Option Span → Data
span_data None = null
span_data (Some s) = object_of (span_members s)

abbrev pub marked_members : Marked → List Named
marked_members m = (codes "leastMillis", slack m.least.added m.least.taken) ∷ (codes "mostMillis", whole m.most) ∷ []

abbrev pub marked_data : Option Marked → Data
marked_data None = null
marked_data (Some m) = object_of (marked_members m)

abbrev pub tainted_members : Tainted → List Named
tainted_members t =
    (codes "leastMillis", slack t.least.added t.least.taken) ∷ (codes "mostMillis", whole t.most) ∷ (codes "mostWithTokenMillis", whole t.with_token) ∷ []

abbrev pub tainted_data : Option Tainted → Data
tainted_data None = null
tainted_data (Some t) = object_of (tainted_members t)

-- ---- flags

unfoldable pub taken_members : Settings → List Named
taken_members s =
    nat (codes "beatMillis") s.flags.beat_millis ∷ nat (codes "leastDelayMillis") (near_of s * s.flags.beat_millis)
    ∷ nat (codes "delayMillis") (far_of s * s.flags.beat_millis) ∷ nat (codes "skewPpm") s.flags.skew_ppm ∷ []

unfoldable pub timing_members : Settings → List Named
timing_members s =
    nat (codes "leaseMillis") (s.flags.lease_seconds * 1000) ∷ nat (codes "timeoutMillis") (timeout_of s.flags)
    ∷ (codes "timeoutIsRenewDeadline", boolean (is_renew_deadline s.flags.timeout_millis)) ∷ nat (codes "retryMillis") s.flags.retry_millis
    ∷ nat (codes "waitMillis") (unwrap_or s.wait_millis s.flags.retry_millis) ∷ []

unfoldable pub election_members : Election → List Named
election_members e =
    (codes "crash", span_data e.crash) ∷ (codes "stop", span_data e.stop) ∷ (codes "actsOnMillis", number_if e.acts_on)
    ∷ (codes "calmMillis", number_if e.leads) ∷ (codes "staysFromMillis", number_if e.stays_from) ∷ []

unfoldable pub node_members : ℕ → Option Marked → Option Tainted → List Named
node_members ahead marked tainted = (codes "unknown", marked_data marked) ∷ nat (codes "ahead") ahead ∷ (codes "taint", tainted_data tainted) ∷ []

unfoldable pub pod_members : ℕ → Option Tainted → List Named
pod_members seconds gone = nat (codes "tolerationSeconds") seconds ∷ (codes "gone", tainted_data gone) ∷ []

unfoldable pub end_members : Bool → Bool → List Named
end_members stays safe = (codes "stays", boolean stays) ∷ (codes "safe", boolean safe) ∷ []

-- ---- documents

unfoldable pub leader_members : List ℕ → Election → List Named
leader_members name e =
    text (codes "name") name ∷ (codes "crashLeastMillis", number_if (least_in e.crash)) ∷ (codes "crashMostMillis", number_if (most_in e.crash))
    ∷ (codes "stopLeastMillis", number_if (least_in e.stop)) ∷ (codes "stopMostMillis", number_if (most_in e.stop))
    ∷ (codes "actsOnMillis", number_if e.acts_on) ∷ (codes "calmMillis", number_if e.leads) ∷ (codes "staysFromMillis", number_if e.stays_from) ∷ []

abbrev pub gone_numbers : Option Tainted → List Named
gone_numbers None = (codes "leastMillis", null) ∷ (codes "mostMillis", null) ∷ (codes "mostWithTokenMillis", null) ∷ []
gone_numbers (Some t) = tainted_members t

unfoldable pub gone_members : ℕ → Option Tainted → List Named
gone_members seconds gone = nat (codes "tolerationSeconds") seconds ∷ gone_numbers gone
