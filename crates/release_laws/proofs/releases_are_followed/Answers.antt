use Rattle.release_laws.proofs.Following as following
use Rattle.release_laws.proofs.releases_are_followed.Goals as goal

pub returns-clause-follow : goal.returns-clause-follow
returns-clause-follow c = following.releases_are_followed

pub returns-clause-told : goal.returns-clause-told
returns-clause-told c = following.releases_are_told
