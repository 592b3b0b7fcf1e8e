use Rattle.history_examples.proofs.Queues as worked
use Rattle.history_examples.proofs.worked_queues.Goals as goal

pub returns-clause-taint_after_failover : goal.returns-clause-taint_after_failover
returns-clause-taint_after_failover c = worked.taint_after_failover

pub returns-clause-swap_needs_no_token : goal.returns-clause-swap_needs_no_token
returns-clause-swap_needs_no_token c = worked.swap_needs_no_token

pub returns-clause-zones_apart : goal.returns-clause-zones_apart
returns-clause-zones_apart c = worked.zones_apart

pub returns-clause-ready_and_marked_at_once : goal.returns-clause-ready_and_marked_at_once
returns-clause-ready_and_marked_at_once c = worked.ready_and_marked_at_once

pub returns-clause-waiting_in_another_zone : goal.returns-clause-waiting_in_another_zone
returns-clause-waiting_in_another_zone c = worked.waiting_in_another_zone

pub returns-clause-lost_taint_goes_back : goal.returns-clause-lost_taint_goes_back
returns-clause-lost_taint_goes_back c = worked.lost_taint_goes_back
