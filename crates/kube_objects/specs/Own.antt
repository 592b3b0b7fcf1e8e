-- A document that goes by the project's own rules, as every one of versions 1 to 3 does: in releases, in its elections, in a term's first
-- sync, in when nodes are silent and when it judges them, in how zones' buckets start, in its evictions, or in what a pass takes. Source:
-- profile.
use Rattle.std.specs.Prelude.{◌≡◌, List, [], ◌∷◌, None}
use Rattle.kube_objects.specs.declared.rules.RetryRule.TheVariants as retries
use Rattle.kube_objects.specs.declared.rules.RespectRule.TheVariants as respects
use Rattle.kube_objects.specs.declared.rules.JudgeRule.TheVariants as judges
use Rattle.kube_objects.specs.declared.rules.SightRule.TheVariants as sights
use Rattle.kube_objects.specs.declared.rules.BucketRule.TheVariants as buckets
use Rattle.kube_objects.specs.declared.rules.EvictRule.TheVariants as evictions
use Rattle.kube_objects.specs.declared.rules.ProbeRule.TheVariants as probes
use Rattle.kube_objects.specs.declared.rules.ReleaseRule.TheVariants as releases
use Rattle.kube_objects.specs.declared.rules.ReleaseActing.TheVariants as acting
use Rattle.kube_objects.specs.declared.script.Event.{Event}
use Rattle.kube_objects.specs.Document.{Doc, own_waits_each}
use Rattle.kube_objects.specs.Stalls.{stall_of}

-- a script that doesn't stop the store
abbrev pub AreUnstalled : List Event → Type 0
AreUnstalled [] = Unit {0}
AreUnstalled (e ∷ es) = (stall_of e.what ≡ None) × AreUnstalled es

-- leaders give up their Leases at stops alone, each by one update, and nobody acts meanwhile
pub record ReleasesByStop (doc : Doc) : Type 0 where
  pub release : doc.settings.rules.release ≡ releases.Stop
  pub still : doc.settings.rules.in_release ≡ acting.Still

-- when failed attempts are made again, and whose lease duration is respected
pub record ElectsByOwn (doc : Doc) : Type 0 where
  pub retries : doc.settings.rules.retries ≡ retries.After
  pub waits : doc.waits ≡ own_waits_each doc.controllers
  pub respect : doc.settings.rules.respect ≡ respects.Record

-- no term waits with its first sync
abbrev pub SettlesAtOnce : Doc → Type 0
SettlesAtOnce doc = doc.settings.rules.first_sync_millis ≡ 0

-- a node's silence counts from when it was last heard of in the run
abbrev pub ProbesByRun : Doc → Type 0
ProbesByRun doc = doc.settings.rules.probe ≡ probes.Run

-- nodes are judged at each tick, and keep their condition taints as they are first seen
pub record JudgesByOwn (doc : Doc) : Type 0 where
  pub judge : doc.settings.rules.judge ≡ judges.Tick
  pub sight : doc.settings.rules.first_sight ≡ sights.Keep

-- a zone's bucket starts empty
abbrev pub StartsEmpty : Doc → Type 0
StartsEmpty doc = doc.settings.rules.bucket ≡ buckets.Empty

-- the writes of a pass take no time
abbrev pub PassesTakeNoWork : Doc → Type 0
PassesTakeNoWork doc = doc.settings.rules.ready_millis ≡ 0

-- pods are due by the time of their nodes' taints, and as many go at once as are due
pub record EvictsByOwn (doc : Doc) : Type 0 where
  pub from : doc.settings.rules.evict_from ≡ evictions.Added
  pub burst : doc.settings.rules.evict_burst ≡ 0
