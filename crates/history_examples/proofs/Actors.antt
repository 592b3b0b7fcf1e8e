-- Who acts, shown by computation.
use Rattle.std.specs.Prelude.{refl}
use Rattle.kube_objects.specs.Document.{of_seconds, of_millis}
use Rattle.history_examples.specs.Actors.{TwoActWithoutPremise, OneActsUnderPremise}

pub two_act_without_premise : TwoActWithoutPremise
unfolding of_seconds of_millis
two_act_without_premise = (refl, (refl, refl), (refl, refl))

pub one_acts_under_premise : OneActsUnderPremise
unfolding of_seconds of_millis
one_acts_under_premise = (refl, (refl, refl))
