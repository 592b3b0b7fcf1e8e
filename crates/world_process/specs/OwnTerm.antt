-- A controller's term stands for a history.
use Rattle.std.specs.Prelude.{◌≡◌, ◌<◌, ℕ, Bool, true, false, List, length, Some}
use Rattle.kube_objects.specs.Document.{Doc, is_controller}
use Rattle.kube_objects.specs.Entry as entry
use Rattle.kube_objects.specs.Entry.{Entry, Identity, Starts, Leads, Ticks}
use Rattle.kube_objects.specs.Health.{is_pass_tick, last_pass}
use Rattle.kube_objects.specs.Identities.{identity}
use Rattle.kube_objects.specs.Modes.{nodes}
use Rattle.kube_objects.specs.Newest.{has}
use Rattle.kube_objects.specs.Process.{alive}
use Rattle.kube_objects.specs.Seen.{is_synced}
use Rattle.kube_objects.specs.Stalls.{is_stalled}
use Rattle.kube_objects.specs.Tainting.{before_tick}
use Rattle.kube_objects.specs.Tick.{sync}
use Rattle.tick_laws.specs.Room.{AreInBeats, AreUpTo}
use Rattle.watch_cache.specs.Stands.{ticks}
use Rattle.zone_counts.specs.Settings.{AreSettings}
use Rattle.controller_core.specs.declared.term.Term.{Term}
use Rattle.controller_core.specs.TermStands.{TermStands}

-- a term's ticks begin with a sync, and its first synced tick has a pass
pub record HasBegun (q : Identity) (h : List Entry) : Type 0 where
  pub unsynced : is_synced q h ≡ false → ticks q h ≡ 0
  pub passed : is_synced q h ≡ true → has (last_pass q h) ≡ true

-- a term stands for a history in which the identity ticked as a leader does
pub record IsTermOf (doc : Doc) (q : Identity) (h : List Entry) (t : Term) : Type 0 where
  pub term : TermStands doc q h t
  pub begun : HasBegun q h

-- where the process is up, the term is that of its incarnation; of one that is down only the settings are known
pub record OwnsTerm (doc : Doc) (p : ℕ) (h : List Entry) (t : Term) : Type 0 where
  pub settings : AreSettings doc t.settings
  pub each : (i : ℕ) → alive p h ≡ Some i → IsTermOf doc (identity p i) h t

-- the identity in which this controller is up
pub record IsUpAs (doc : Doc) (q : Identity) (h : List Entry) : Type 0 where
  pub sort : is_controller doc q.process ≡ true
  pub up : alive q.process h ≡ Some q.incarnation

-- what the tick of process p at beat k finds: no entry of a tick of its own on top, no pass of its own at the beat, no more nodes than can be counted, a store that goes, and
-- entries in the order of their beats, none of a later one
pub record CanTick (doc : Doc) (k p : ℕ) (h : List Entry) : Type 0 where
  pub fresh : (q : Identity) → q.process ≡ p → before_tick q k h ≡ h
  pub unpassed : (q : Identity) → q.process ≡ p → is_pass_tick k q h ≡ false
  pub few : (q : Identity) → length (nodes q (sync doc k q h)) < 4294967296
  pub goes : is_stalled doc k ≡ false
  pub in_beats : AreInBeats h
  pub upto : AreUpTo k h

-- no start, no lead and no entry of a tick
abbrev pub is_beside : entry.Fact → Bool
is_beside Starts = false
is_beside (Leads version) = false
is_beside (Ticks tick) = false
is_beside _ = true
