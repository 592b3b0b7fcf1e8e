use Rattle.lease_laws.proofs.Claims as claims
use Rattle.lease_laws.proofs.Premises.{premise_of}
use Rattle.lease_laws.proofs.Windows as windows
use Rattle.lease_laws.proofs.lease_is_safe.Goals as goal

pub returns-clause-holder : goal.returns-clause-holder
returns-clause-holder c doc part sound = claims.all_hold doc (premise_of doc part) sound

pub returns-clause-exclusive : goal.returns-clause-exclusive
returns-clause-exclusive c doc premise sound = windows.exclusive doc premise sound

pub returns-clause-until_emptied : goal.returns-clause-until_emptied
returns-clause-until_emptied c doc part sound = claims.until_emptied doc (premise_of doc part) sound
