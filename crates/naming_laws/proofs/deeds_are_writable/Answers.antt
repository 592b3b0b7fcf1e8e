use Rattle.naming_laws.proofs.Kept.{states_readable}
use Rattle.naming_laws.proofs.Naming.{deeds_writable, items_well_formed, items_writable}
use Rattle.naming_laws.proofs.Readings.{item_timely}
use Rattle.naming_laws.proofs.deeds_are_writable.Goals as goal

pub returns-clause-deeds : goal.returns-clause-deeds
returns-clause-deeds c = deeds_writable

pub returns-clause-well_formed : goal.returns-clause-well_formed
returns-clause-well_formed c = items_well_formed

pub returns-clause-readable : goal.returns-clause-readable
returns-clause-readable c = states_readable

pub returns-clause-items : goal.returns-clause-items
returns-clause-items c = items_writable

pub returns-clause-timely : goal.returns-clause-timely
returns-clause-timely c = item_timely
