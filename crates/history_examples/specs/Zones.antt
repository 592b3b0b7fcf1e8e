-- Zones, their states and rates, and the all-Full mode.
use Rattle.std.specs.Prelude.{◌≡◌, true, false, List, [], ◌∷◌, ◌++◌, None}
use Rattle.kube_objects.specs.declared.deed.Act.TheVariants as act
use Rattle.kube_objects.specs.declared.deed.Deed.{Deed}
use Rattle.kube_objects.specs.declared.key.Key.{Key}
use Rattle.kube_objects.specs.declared.node.ReadyStatus.TheVariants as ready
use Rattle.kube_objects.specs.declared.node.ZoneState.TheVariants as zone
use Rattle.kube_objects.specs.declared.object.Object.{Object}
use Rattle.kube_objects.specs.declared.settings.RatePolicy.TheVariants as policy
use Rattle.kube_objects.specs.declared.settings.Settings.{Settings}
use Rattle.kube_objects.specs.Document.{Doc}
use Rattle.kube_objects.specs.Stored.{node_key, node_lease}
use Rattle.kube_objects.specs.Tainting.{not_ready, unreachable}
use Rattle.history.specs.History.{whole_history}
use Rattle.history.specs.Printed.{printed}
use Rattle.history_examples.specs.Documents.{settings, at_beat, line, script_line, update, elected}
use Rattle.history_examples.specs.Clusters.{n1, n2, n3, n4, m1, r1, zone_a, zone_b, default, in_normal_zone, p1, p2, cluster}
use Rattle.history_examples.specs.Clusters.{second, at_second, condition, beating, node, without_heartbeat, bare_node}
use Rattle.history_examples.specs.Clusters.{unready_node, renewed, pod_at, pod, puts, removes, watch, version, done}

-- Both nodes are not ready: the all-Full mode takes the taint away, and nobody is tainted. A pass ends it; the zone has a rate from then
-- on, so its token comes an interval later.
abbrev pub mode_ends : Doc
mode_ends = cluster (settings 154)
    (node n1 zone_a ready.False (condition not_ready 0 ∷ [])
    ∷ node n2 zone_a ready.False []
    ∷ pod p1 n1 []
    ∷ pod p2 n2 []
    ∷ [])
    (puts 40 (node n1 zone_a ready.True [])
    ∷ [])

abbrev pub ModeEnds : Type 0
ModeEnds = printed (whole_history mode_ends) ≡
    elected 5
    ++ line 4 0 1 (act.Mode true)
    ∷ line 4 0 1 (act.Zone r1 zone_a zone.Full 0)
    ∷ line 4 0 1 (act.Untainted n1 (done 6))
    ∷ line 7 0 1 (update 7 0)
    ∷ script_line 40 (act.Put (node_key n1) (version 8))
    ∷ line 54 0 1 (act.Mode false)
    ∷ line 54 0 1 (act.Zone r1 zone_a zone.Normal 100)
    ∷ line 154 0 1 (act.Tainted n2 not_ready (done 9))
    ∷ line 154 0 1 (act.Evicted (pod_at default p2) (second 15) (done 10))
    ∷ []

-- Under the policy gentle a Full zone has the secondary rate, so its token comes after a hundred seconds.
abbrev pub gentle_policy : Doc
gentle_policy = cluster (record (settings 1004) { grace_period_millis = 600000; rate_policy = policy.Gentle })
    (node n1 zone_a ready.False []
    ∷ node m1 zone_b ready.True []
    ∷ [])
    []

abbrev pub GentlePolicy : Type 0
GentlePolicy = printed (whole_history gentle_policy) ≡
    elected 3
    ++ line 4 0 1 (act.Zone r1 zone_a zone.Full 10)
    ∷ line 4 0 1 (act.Zone r1 zone_b zone.Normal 100)
    ∷ line 7 0 1 (update 4 0)
    ∷ line 1004 0 1 (act.Tainted n1 not_ready (done 5))
    ∷ []

-- A zone gets another rate at beat 54 and its first one back at beat 104: each empties the limiter, so the token comes at beat 204.
abbrev pub rate_changes : Doc
rate_changes = cluster (record (settings 210) { secondary_rate = 50; large_zone = 3; unhealthy_percent = 50 })
    (node n1 zone_a ready.False []
    ∷ node n2 zone_a ready.True []
    ∷ node n3 zone_a ready.True []
    ∷ node n4 zone_a ready.True []
    ∷ [])
    (puts 50 (node n2 zone_a ready.False [])
    ∷ puts 50 (node n3 zone_a ready.False [])
    ∷ puts 100 (node n2 zone_a ready.True [])
    ∷ [])

abbrev pub RateChanges : Type 0
RateChanges = printed (whole_history rate_changes) ≡
    in_normal_zone 5
    ++ script_line 50 (act.Put (node_key n2) (version 7))
    ∷ script_line 50 (act.Put (node_key n3) (version 8))
    ∷ line 54 0 1 (act.Zone r1 zone_a zone.Partial 50)
    ∷ script_line 100 (act.Put (node_key n2) (version 9))
    ∷ line 104 0 1 (act.Zone r1 zone_a zone.Normal 100)
    ∷ line 204 0 1 (act.Tainted n1 not_ready (done 10))
    ∷ []

-- Zone b has no node at the pass of beat 54. Two nodes wait in it before the pass of beat 104 rates it again, with an empty limiter.
abbrev pub zone_returns : Doc
zone_returns = cluster (settings 210)
    (node n1 zone_a ready.True []
    ∷ node n2 zone_b ready.False []
    ∷ [])
    (removes 50 (node_key n2)
    ∷ puts 75 (node n3 zone_b ready.False [])
    ∷ puts 80 (node n2 zone_b ready.False [])
    ∷ [])

abbrev pub ZoneReturns : Type 0
ZoneReturns = printed (whole_history zone_returns) ≡
    elected 3
    ++ line 4 0 1 (act.Zone r1 zone_a zone.Normal 100)
    ∷ line 4 0 1 (act.Zone r1 zone_b zone.Full 100)
    ∷ line 7 0 1 (update 4 0)
    ∷ script_line 50 (act.Removed (node_key n2) (version 5))
    ∷ script_line 75 (act.Put (node_key n3) (version 6))
    ∷ script_line 80 (act.Put (node_key n2) (version 7))
    ∷ line 104 0 1 (act.Zone r1 zone_b zone.Full 100)
    ∷ line 204 0 1 (act.Tainted n3 not_ready (done 8))
    ∷ []

-- The first of two nodes is untainted as the all-Full mode begins, and again when it is put with its taint in it; the second is put
-- ready, which ends the mode at the pass of beat 54.
abbrev pub through_the_mode : List Deed
through_the_mode =
    elected 3
    ++ line 4 0 1 (act.Mode true)
    ∷ line 4 0 1 (act.Zone r1 zone_a zone.Full 0)
    ∷ line 4 0 1 (act.Untainted n1 (done 4))
    ∷ line 7 0 1 (update 5 0)
    ∷ script_line 20 (act.Put (node_key n1) (version 6))
    ∷ line 20 0 1 (act.Untainted n1 (done 7))
    ∷ script_line 50 (act.Put (node_key n2) (version 8))
    ∷ line 54 0 1 (act.Mode false)
    ∷ line 54 0 1 (act.Zone r1 zone_a zone.Normal 100)
    ∷ []

-- In the all-Full mode a node that is Unknown and has not-ready is untainted. After it the same node is swapped to unreachable at
-- once, without a token.
abbrev pub swap_after_the_mode : Doc
swap_after_the_mode = cluster (settings 70)
    (node n1 zone_a ready.False (condition not_ready 0 ∷ [])
    ∷ node n2 zone_a ready.False []
    ∷ [])
    (puts 20 (node n1 zone_a ready.Unknown (condition not_ready 0 ∷ []))
    ∷ puts 50 (node n2 zone_a ready.True [])
    ∷ puts 60 (node n1 zone_a ready.Unknown (condition not_ready 0 ∷ []))
    ∷ [])

abbrev pub SwapAfterTheMode : Type 0
SwapAfterTheMode = printed (whole_history swap_after_the_mode) ≡
    through_the_mode
    ++ script_line 60 (act.Put (node_key n1) (version 9))
    ∷ line 60 0 1 (act.Swapped n1 unreachable (done 10))
    ∷ []

-- a node that isn't heard of for ten seconds is marked
abbrev pub short_grace : Settings
short_grace = record (settings 160) { grace_period_millis = 10000 }

abbrev pub two_ready_nodes : List (Key × Object)
two_ready_nodes = node n1 zone_a ready.True [] ∷ node n2 zone_a ready.True [] ∷ []

-- The renew time is missing at the pass of beat 54 and back at that of 104: no news, so the node's probe stays at beat 4. The other
-- node's heartbeat moves.
abbrev pub renew_time_returns : Doc
renew_time_returns = cluster short_grace
    (two_ready_nodes ++ renewed n1 (at_second 0) ∷ [])
    (puts 50 (renewed n1 None)
    ∷ puts 100 (renewed n1 (at_second 0))
    ∷ puts 100 (beating n2 zone_a ready.True [] 10)
    ∷ [])

abbrev pub RenewTimeReturns : Type 0
RenewTimeReturns = printed (whole_history renew_time_returns) ≡
    in_normal_zone 4
    ++ script_line 50 (act.Put (node_lease n1) (version 6))
    ∷ script_line 100 (act.Put (node_lease n1) (version 7))
    ∷ script_line 100 (act.Put (node_key n2) (version 8))
    ∷ line 154 0 1 (act.Marked n1 3 (done 9))
    ∷ line 154 0 1 (act.Tainted n1 unreachable (done 10))
    ∷ []

-- So with a heartbeat that is missing at the pass of beat 54 and back at that of 104: neither is news.
abbrev pub heartbeat_returns : Doc
heartbeat_returns = cluster short_grace
    two_ready_nodes
    (puts 50 (without_heartbeat n1 zone_a ready.True)
    ∷ puts 100 (node n1 zone_a ready.True [])
    ∷ puts 100 (beating n2 zone_a ready.True [] 10)
    ∷ [])

abbrev pub HeartbeatReturns : Type 0
HeartbeatReturns = printed (whole_history heartbeat_returns) ≡
    in_normal_zone 3
    ++ script_line 50 (act.Put (node_key n1) (version 5))
    ∷ script_line 100 (act.Put (node_key n1) (version 6))
    ∷ script_line 100 (act.Put (node_key n2) (version 7))
    ∷ line 154 0 1 (act.Marked n1 3 (done 8))
    ∷ line 154 0 1 (act.Tainted n1 unreachable (done 9))
    ∷ []

-- A node is removed, and put again as it was after a pass without it: the pass of beat 104 hears of it.
abbrev pub node_comes_back : Doc
node_comes_back = cluster short_grace
    two_ready_nodes
    (removes 50 (node_key n1)
    ∷ puts 60 (node n1 zone_a ready.True [])
    ∷ puts 100 (beating n2 zone_a ready.True [] 10)
    ∷ [])

abbrev pub NodeComesBack : Type 0
NodeComesBack = printed (whole_history node_comes_back) ≡
    in_normal_zone 3
    ++ script_line 50 (act.Removed (node_key n1) (version 5))
    ∷ script_line 60 (act.Put (node_key n1) (version 6))
    ∷ script_line 100 (act.Put (node_key n2) (version 7))
    ∷ []

-- A node without Ready has the startup grace; it is marked with a reason of its own.
abbrev pub never_ready : Doc
never_ready = cluster (record (settings 160) { startup_grace_millis = 10000 })
    (bare_node n1
    ∷ node n2 zone_a ready.True []
    ∷ [])
    []

abbrev pub NeverReady : Type 0
NeverReady = printed (whole_history never_ready) ≡
    elected 3
    ++ line 4 0 1 (act.Zone 0 0 zone.Full 100)
    ∷ line 4 0 1 (act.Zone r1 zone_a zone.Normal 100)
    ∷ line 7 0 1 (update 4 0)
    ∷ line 154 0 1 (act.Marked n1 4 (done 5))
    ∷ line 154 0 1 (act.Tainted n1 unreachable (done 6))
    ∷ []

-- The end of the all-Full mode at beat 54 counts as having heard of every node, so n2 is not marked at beat 154.
abbrev pub mode_end_is_heard : Doc
mode_end_is_heard = cluster short_grace
    (node n1 zone_a ready.False []
    ∷ node n2 zone_a ready.False []
    ∷ [])
    (puts 50 (beating n1 zone_a ready.True [] 5)
    ∷ [])

abbrev pub ModeEndIsHeard : Type 0
ModeEndIsHeard = printed (whole_history mode_end_is_heard) ≡
    elected 3
    ++ line 4 0 1 (act.Mode true)
    ∷ line 4 0 1 (act.Zone r1 zone_a zone.Full 0)
    ∷ line 7 0 1 (update 4 0)
    ∷ script_line 50 (act.Put (node_key n1) (version 5))
    ∷ line 54 0 1 (act.Mode false)
    ∷ line 54 0 1 (act.Zone r1 zone_a zone.Normal 100)
    ∷ line 154 0 1 (act.Tainted n2 not_ready (done 6))
    ∷ []

-- A node without Ready has its condition taint taken away in the all-Full mode, and is left alone outside it.
abbrev pub unready_left_alone : Doc
unready_left_alone = cluster (settings 60)
    (unready_node n1 zone_a (condition not_ready 0 ∷ [])
    ∷ node n2 zone_a ready.False []
    ∷ [])
    (puts 20 (unready_node n1 zone_a (condition not_ready 0 ∷ []))
    ∷ puts 50 (node n2 zone_a ready.True [])
    ∷ puts 58 (unready_node n1 zone_a (condition not_ready 0 ∷ []))
    ∷ [])

abbrev pub UnreadyLeftAlone : Type 0
UnreadyLeftAlone = printed (whole_history unready_left_alone) ≡
    through_the_mode
    ++ script_line 58 (act.Put (node_key n1) (version 9))
    ∷ []

-- The watch comes on at beat 30: the first sync and the first pass are then.
abbrev pub late_watch : Doc
late_watch = cluster (settings 35)
    (node n1 zone_a ready.True []
    ∷ [])
    (at_beat 0 (watch 0 false)
    ∷ at_beat 30 (watch 0 true)
    ∷ [])

abbrev pub LateWatch : Type 0
LateWatch = printed (whole_history late_watch) ≡
    elected 2
    ++ line 7 0 1 (update 3 0)
    ∷ line 30 0 1 (act.Zone r1 zone_a zone.Normal 100)
    ∷ []
