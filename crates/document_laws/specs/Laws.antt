-- What holds of every document that is read.
use Rattle.std.specs.Prelude.{◌≡◌, ℕ, false, List, codes, Ok, Option, Some, None, if◌then◌else◌}
use Rattle.serde_json.specs.Data.{Data}
use Rattle.serde_json.specs.Find.{get}
use Rattle.kube_objects.specs.Document.{Doc}
use Rattle.kube_objects.specs.Own.{ReleasesByStop, ElectsByOwn, EvictsByOwn, JudgesByOwn, SettlesAtOnce, PassesTakeNoWork, ProbesByRun, StartsEmpty, AreUnstalled}
use Rattle.history.specs.Sound.{IsSound}
use Rattle.manifest_json.specs.declared.scale.Scale.{Scale}
use Rattle.manifest_json.specs.declared.scale.Scale.TheVariants as scales
use Rattle.script_reader.specs.declared.choice.Preset.TheVariants.{Upstream136}
use Rattle.script_reader.specs.declared.document.Document.{Document}
use Rattle.script_reader.specs.Choices.{preset_at}
use Rattle.script_reader.specs.Documents.{doc_of}
use Rattle.script_reader.specs.Lawful.{IsLawfulDoc, IsWellNamed}
use Rattle.script_reader.specs.Limits.{IsWithin}
use Rattle.script_reader.specs.Walk.{says_four, data_of, document_walk}

-- whatever the bytes are, a document that the walk gives is lawful
abbrev pub DocumentsAreLawful : Type 0
DocumentsAreLawful = (bytes : List ℕ) (d : Document) → document_walk bytes ≡ Ok d → IsLawfulDoc (doc_of d)

-- and its names hold its numbers
abbrev pub DocumentsAreWellNamed : Type 0
DocumentsAreWellNamed = (bytes : List ℕ) (d : Document) → document_walk bytes ≡ Ok d → IsWellNamed d.names (doc_of d)

-- how large a cluster the version under this key allows
abbrev pub scale_under : Option Data → Scale
scale_under version = if says_four version then scales.Large else scales.Usual

abbrev pub scale_said : Data → Scale
scale_said value = scale_under (get (codes "version") value)

-- and it passes no limit of the version that it says
abbrev pub DocumentsAreWithin : Type 0
DocumentsAreWithin =
    (bytes : List ℕ) (value : Data) (d : Document) → data_of bytes ≡ Ok value → document_walk bytes ≡ Ok d
    → IsWithin (scale_said value) (doc_of d)

-- a document whose version isn't 4 has the project's own rules of releases, of elections, of when nodes are judged and of evictions, its terms sync
-- at once, nodes are silent by the run, buckets start empty, the writes of its passes take no time, and its script never stops the store, since it
-- has no key or type of an event that says otherwise. Source: profile
abbrev pub EarlierGoByOwn : Type 0
EarlierGoByOwn =
    (bytes : List ℕ) (value : Data) (d : Document) → data_of bytes ≡ Ok value → says_four (get (codes "version") value) ≡ false
    → document_walk bytes ≡ Ok d
    → ReleasesByStop (doc_of d) × ElectsByOwn (doc_of d) × SettlesAtOnce (doc_of d) × ProbesByRun (doc_of d) × JudgesByOwn (doc_of d)
    × StartsEmpty (doc_of d) × EvictsByOwn (doc_of d) × PassesTakeNoWork (doc_of d) × AreUnstalled (doc_of d).events

-- a document of any version whose settings have neither key of releases, and whose rules aren't those of 1.36, has releases at stops alone too.
-- Source: profile
abbrev pub UnsaidReleasesAreByStop : Type 0
UnsaidReleasesAreByStop =
    (bytes : List ℕ) (value settings : Data) (d : Document) → data_of bytes ≡ Ok value → get (codes "settings") value ≡ Some settings
    → get (codes "release") settings ≡ None → get (codes "inRelease") settings ≡ None
    → ¬ (preset_at (codes "/settings") settings ≡ Ok Upstream136)
    → document_walk bytes ≡ Ok d → ReleasesByStop (doc_of d)

-- a lawful document leaves the election Lease alone, stops controllers only, has delays of at least one beat, and a beat between two pauses of a
-- process
abbrev pub LawfulIsSound : Type 0
LawfulIsSound = (doc : Doc) → IsLawfulDoc doc → IsSound doc
