-- How many incarnations a process has.
use Rattle.std.specs.Prelude.{ℕ, ◌+◌, ◌≤◌, length}
use Rattle.kube_objects.specs.Document.{Doc}
use Rattle.kube_objects.specs.Process.{starts}
use Rattle.history.specs.History.{history}

-- before a beat a process has started at most once at first, once for each event and once in each beat
abbrev pub StartsAreFew : Type 0
StartsAreFew = (doc : Doc) (p k : ℕ) → starts p (history doc k) ≤ k + length doc.events + 1
