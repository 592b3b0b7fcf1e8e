use Rattle.history_examples.proofs.Elections as worked
use Rattle.history_examples.proofs.worked_elections.Goals as goal

pub returns-clause-first_election : goal.returns-clause-first_election
returns-clause-first_election c = worked.first_election

pub returns-clause-double_speed : goal.returns-clause-double_speed
returns-clause-double_speed c = worked.double_speed

pub returns-clause-second_create_is_refused : goal.returns-clause-second_create_is_refused
returns-clause-second_create_is_refused c = worked.second_create_is_refused

pub returns-clause-second_takeover_is_refused : goal.returns-clause-second_takeover_is_refused
returns-clause-second_takeover_is_refused c = worked.second_takeover_is_refused

pub returns-clause-versions_count_every_write : goal.returns-clause-versions_count_every_write
returns-clause-versions_count_every_write c = worked.versions_count_every_write

pub returns-clause-storm_in_one_beat : goal.returns-clause-storm_in_one_beat
returns-clause-storm_in_one_beat c = worked.storm_in_one_beat

pub returns-clause-reply_to_an_old_incarnation : goal.returns-clause-reply_to_an_old_incarnation
returns-clause-reply_to_an_old_incarnation c = worked.reply_to_an_old_incarnation
