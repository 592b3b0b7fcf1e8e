use Rattle.std.proofs.Common.{◌∙◌, Some, ap, sym}
use Rattle.history.specs.Printed.{map_answer}
use Rattle.term_state.specs.Writes.{act_for}
use Rattle.term_state.proofs.Telling.{told_beside}
use Rattle.term_state.proofs.writes.tell.Goals as goal

pub returns-in-None : goal.returns-in-None
returns-in-None c q k before h tick told says =
    told_beside q k before h tick c.args.told.now (says ∙ ap (map_answer (λ a. act_for c.args.write c.args.name a)) c.in-None.is) told

pub returns-in-Some : goal.returns-in-Some
returns-in-Some c q k before h tick told says =
    c.add.ensures q k before h tick told (says ∙ ap (map_answer (λ a. act_for c.args.write c.args.name a)) c.in-Some.is ∙ ap Some (sym c.act_for.ensures))
