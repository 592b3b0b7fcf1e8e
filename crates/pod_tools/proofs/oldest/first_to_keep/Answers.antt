use Rattle.pod_tools.proofs.Ages.{first-kept}
use Rattle.pod_tools.specs.Collected.{ages_from}
use Rattle.pod_tools.proofs.oldest.first_to_keep.Goals as goal

pub returns : goal.returns
returns c = λ age. first-kept age (ages_from 0 c.args.pods.now) c.in_ok-ages.ages.items c.sort_unstable.new.self.items c.deref.result.now c.args.threshold c.age_over.result c.in_ok-ages.ensures c.sort_unstable.ensures.permutation c.sort_unstable.ensures.sorted c.deref.ensures.value c.age_over.ensures
