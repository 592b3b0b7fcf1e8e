use Rattle.history_examples.proofs.Releases as worked
use Rattle.history_examples.proofs.worked_releases.Goals as goal

pub returns-clause-stop_and_look : goal.returns-clause-stop_and_look
returns-clause-stop_and_look c = worked.stop_and_look

pub returns-clause-stop_and_check : goal.returns-clause-stop_and_check
returns-clause-stop_and_check c = worked.stop_and_check

pub returns-clause-stop_without_look : goal.returns-clause-stop_without_look
returns-clause-stop_without_look c = worked.stop_without_look

pub returns-clause-rival_is_emptied : goal.returns-clause-rival_is_emptied
returns-clause-rival_is_emptied c = worked.rival_is_emptied

pub returns-clause-own_is_emptied : goal.returns-clause-own_is_emptied
returns-clause-own_is_emptied c = worked.own_is_emptied

pub returns-clause-late_emptying_is_refused : goal.returns-clause-late_emptying_is_refused
returns-clause-late_emptying_is_refused c = worked.late_emptying_is_refused

pub returns-clause-crash_in_a_release : goal.returns-clause-crash_in_a_release
returns-clause-crash_in_a_release c = worked.crash_in_a_release

pub returns-clause-two_act_after_an_emptying : goal.returns-clause-two_act_after_an_emptying
returns-clause-two_act_after_an_emptying c = worked.two_act_after_an_emptying

pub returns-clause-answer_in_time : goal.returns-clause-answer_in_time
returns-clause-answer_in_time c = worked.answer_in_time

pub returns-clause-answer_too_late : goal.returns-clause-answer_too_late
returns-clause-answer_too_late c = worked.answer_too_late

pub returns-clause-cut_off : goal.returns-clause-cut_off
returns-clause-cut_off c = worked.cut_off

pub returns-clause-cut_off_and_acting : goal.returns-clause-cut_off_and_acting
returns-clause-cut_off_and_acting c = worked.cut_off_and_acting

pub returns-clause-cut_off_and_stopped : goal.returns-clause-cut_off_and_stopped
returns-clause-cut_off_and_stopped c = worked.cut_off_and_stopped

pub returns-clause-no_release : goal.returns-clause-no_release
returns-clause-no_release c = worked.no_release

pub returns-clause-own_version_is_refused : goal.returns-clause-own_version_is_refused
returns-clause-own_version_is_refused c = worked.own_version_is_refused

pub returns-clause-check_finds_another : goal.returns-clause-check_finds_another
returns-clause-check_finds_another c = worked.check_finds_another

pub returns-clause-premise_counts_the_release : goal.returns-clause-premise_counts_the_release
returns-clause-premise_counts_the_release c = worked.premise_counts_the_release

pub returns-clause-premise_asks_for_answers : goal.returns-clause-premise_asks_for_answers
returns-clause-premise_asks_for_answers c = worked.premise_asks_for_answers

pub returns-clause-premise_counts_two_pauses : goal.returns-clause-premise_counts_two_pauses
returns-clause-premise_counts_two_pauses c = worked.premise_counts_two_pauses
