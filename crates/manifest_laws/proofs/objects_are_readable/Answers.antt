use Rattle.manifest_laws.proofs.FittingItems.{keys-apart, kinds-few}
use Rattle.manifest_laws.proofs.ReadItems.{list-reads, object-reads, writable-items}
use Rattle.manifest_laws.proofs.objects_are_readable.Goals as goal

pub returns-clause-lists : goal.returns-clause-lists
returns-clause-lists c = λ scale names new known path value items skipped held is. ((list-reads scale names known path value held).at ((items, skipped), new) is).1

pub returns-clause-objects : goal.returns-clause-objects
returns-clause-objects c = λ names new known path value found held is. ((object-reads names known path value held).at (found, new) is).1

pub returns-clause-writable : goal.returns-clause-writable
returns-clause-writable c = λ scale names known items h. writable-items names known items h.each

pub returns-clause-apart : goal.returns-clause-apart
returns-clause-apart c = λ scale items fit. (keys-apart scale items fit, λ kind. kinds-few scale kind items fit)
