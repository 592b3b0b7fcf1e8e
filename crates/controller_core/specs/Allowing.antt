-- What a term may still delete stands for a history, where there is a limit.
use Rattle.std.specs.Prelude.{◌≡◌, ◌≤◌, ℕ, List}
use Rattle.kube_objects.specs.Document.{Doc}
use Rattle.kube_objects.specs.Entry.{Entry, Identity}
use Rattle.rate_bucket.specs.Allowing.{Allowed, owed_at}
use Rattle.tick_laws.specs.Room.{owed}

-- at each reading it owes what the term's deletes do; without a limit nothing is kept of them
pub record AllowanceStands (doc : Doc) (q : Identity) (h : List Entry) (a : Allowed) : Type 0 where
  pub burst : a.burst ≡ doc.settings.rules.evict_burst
  pub rate : a.rate ≡ doc.settings.rules.evict_rate
  pub owed : 1 ≤ doc.settings.rules.evict_burst → (now : ℕ) → owed_at a now ≡ owed doc q now h
