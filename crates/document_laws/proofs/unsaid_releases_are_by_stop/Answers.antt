use Rattle.document_laws.proofs.UnsaidReleases.{unsaid-stops}
use Rattle.document_laws.proofs.unsaid_releases_are_by_stop.Goals as goal

pub returns : goal.returns
returns c = unsaid-stops
