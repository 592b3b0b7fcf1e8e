use Rattle.beat_laws.proofs.Names as names
use Rattle.beat_laws.proofs.nodes_are_few.Goals as goal

pub returns-clause-few : goal.returns-clause-few
returns-clause-few c = names.nodes_are_few

pub returns-clause-throughout : goal.returns-clause-throughout
returns-clause-throughout c = names.few_throughout

pub returns-clause-grow : goal.returns-clause-grow
returns-clause-grow c = names.names_only_grow

pub returns-clause-next : goal.returns-clause-next
returns-clause-next c e h = names.next_more e h

pub returns-clause-named : goal.returns-clause-named
returns-clause-named c = names.nodes_are_named
