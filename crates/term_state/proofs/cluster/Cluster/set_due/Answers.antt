use Rattle.std.proofs.lemmas.Result.{on_ok_weaker}
use Rattle.term_state.proofs.Judging.{due_set}
use Rattle.term_state.proofs.cluster.Cluster.set_due.Goals as goal

pub returns-clause-stands : goal.returns-clause-stands
returns-clause-stands c q h nodes pods s is =
    on_ok_weaker c.set.result (due_set q h nodes pods c.args.self.now c.set.new.self c.args.key c.args.due s is) c.set.ensures.ok
