-- How many calls and starts there are at any position of a history.
use Rattle.std.proofs.Common.{ℕ, suc, ◌+◌, ◌≤◌, List, length, arith}
use Rattle.kube_objects.specs.Document.{Doc}
use Rattle.kube_objects.specs.Entry.{Entry, Identity}
use Rattle.kube_objects.specs.Process.{starts, begun}
use Rattle.history.specs.History.{history}
use Rattle.history_laws.specs.Tails.{IsTail}
use Rattle.history_laws.proofs.Once.{calls_are_few}
use Rattle.history_laws.proofs.Starts.{starts_are_few}
use Rattle.history_laws.proofs.Tailed.{begun_tail, starts_tail}

-- at a position of the history with beat k
pub begun_within : (doc : Doc) (q : Identity) (k : ℕ) (g : List Entry) → IsTail g (history doc (suc k)) → begun q g ≤ k + k + 2
begun_within doc q k g at = omega (arith, begun_tail q g (history doc (suc k)) at, calls_are_few doc q (suc k))

pub starts_within : (doc : Doc) (p k : ℕ) (g : List Entry) → IsTail g (history doc (suc k)) → starts p g ≤ k + length doc.events + 2
starts_within doc p k g at = omega (arith, starts_tail p g (history doc (suc k)) at, starts_are_few doc p (suc k))
