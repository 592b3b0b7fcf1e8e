use Rattle.history_examples.proofs.Zones as worked
use Rattle.history_examples.proofs.worked_zones.Goals as goal

pub returns-clause-mode_ends : goal.returns-clause-mode_ends
returns-clause-mode_ends c = worked.mode_ends

pub returns-clause-gentle_policy : goal.returns-clause-gentle_policy
returns-clause-gentle_policy c = worked.gentle_policy

pub returns-clause-rate_changes : goal.returns-clause-rate_changes
returns-clause-rate_changes c = worked.rate_changes

pub returns-clause-zone_returns : goal.returns-clause-zone_returns
returns-clause-zone_returns c = worked.zone_returns

pub returns-clause-swap_after_the_mode : goal.returns-clause-swap_after_the_mode
returns-clause-swap_after_the_mode c = worked.swap_after_the_mode

pub returns-clause-renew_time_returns : goal.returns-clause-renew_time_returns
returns-clause-renew_time_returns c = worked.renew_time_returns

pub returns-clause-heartbeat_returns : goal.returns-clause-heartbeat_returns
returns-clause-heartbeat_returns c = worked.heartbeat_returns

pub returns-clause-node_comes_back : goal.returns-clause-node_comes_back
returns-clause-node_comes_back c = worked.node_comes_back

pub returns-clause-never_ready : goal.returns-clause-never_ready
returns-clause-never_ready c = worked.never_ready

pub returns-clause-mode_end_is_heard : goal.returns-clause-mode_end_is_heard
returns-clause-mode_end_is_heard c = worked.mode_end_is_heard

pub returns-clause-unready_left_alone : goal.returns-clause-unready_left_alone
returns-clause-unready_left_alone c = worked.unready_left_alone

pub returns-clause-late_watch : goal.returns-clause-late_watch
returns-clause-late_watch c = worked.late_watch
