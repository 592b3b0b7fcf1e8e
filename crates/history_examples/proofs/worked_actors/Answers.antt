use Rattle.history_examples.proofs.Actors as worked
use Rattle.history_examples.proofs.worked_actors.Goals as goal

pub returns-clause-two_act_without_premise : goal.returns-clause-two_act_without_premise
returns-clause-two_act_without_premise c = worked.two_act_without_premise

pub returns-clause-one_acts_under_premise : goal.returns-clause-one_acts_under_premise
returns-clause-one_acts_under_premise c = worked.one_acts_under_premise
