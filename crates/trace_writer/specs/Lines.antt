-- The lines of a trace. Source: the trace's format (profile).
use Rattle.std.specs.Prelude.{ℕ, List, [], ◌++◌, ◌==◌, codes, decimal, flat_map, Bool, true, false, if◌then◌else◌}
use Rattle.kube_base.specs.declared.fixed.TheConstants.{NOT_READY}
use Rattle.kube_base.specs.declared.numbers.Version.{Version}
use Rattle.kube_base.specs.declared.numbers.Wall.{Wall}
use Rattle.kube_base.specs.Times.{seconds_text}
use Rattle.kube_objects.specs.declared.call.Answer.{Answer}
use Rattle.kube_objects.specs.declared.call.Answer.TheVariants as answer
use Rattle.kube_objects.specs.declared.deed.Act.{Act}
use Rattle.kube_objects.specs.declared.deed.Act.TheVariants as act
use Rattle.kube_objects.specs.declared.deed.Actor.{Actor}
use Rattle.kube_objects.specs.declared.deed.Actor.TheVariants as actor
use Rattle.kube_objects.specs.declared.deed.Deed.{Deed}
use Rattle.kube_objects.specs.declared.key.Key.{Key}
use Rattle.kube_objects.specs.declared.key.Kind.{Kind}
use Rattle.kube_objects.specs.declared.key.Kind.TheVariants as kind
use Rattle.kube_objects.specs.declared.node.ReadyStatus.{ReadyStatus}
use Rattle.kube_objects.specs.declared.node.ReadyStatus.TheVariants as ready
use Rattle.kube_objects.specs.declared.node.ZoneState.{ZoneState}
use Rattle.kube_objects.specs.declared.node.ZoneState.TheVariants as state
use Rattle.kube_objects.specs.Keys.{key_eq}
use Rattle.kube_objects.specs.Stored.{election}
use Rattle.trace_writer.specs.declared.writing.FirstLine.{FirstLine}
use Rattle.trace_writer.specs.Names.{text_of}

-- the script, or an identity: the process's name with its incarnation
abbrev pub actor_text : List (List ℕ) → Actor → List ℕ
actor_text processes actor.Script = codes "script"
actor_text processes (actor.Proc process incarnation) = text_of processes process.0 ++ codes "_" ++ decimal incarnation

-- how a write was answered
abbrev pub answer_text : Answer → List ℕ
answer_text (answer.Done version) = codes "v=" ++ decimal version.0
answer_text answer.Absent = codes "absent"
answer_text answer.Exists = codes "exists"
answer_text (answer.Conflict version) = codes "conflict v=" ++ decimal version.0

-- the transitions of a Lease that was written
abbrev pub transitions_text : Answer → ℕ → List ℕ
transitions_text (answer.Done version) transitions = codes " t=" ++ decimal transitions
transitions_text _ transitions = []

abbrev pub election_text : Answer → ℕ → List ℕ
election_text a transitions = codes "election " ++ answer_text a ++ transitions_text a transitions

abbrev pub node_lease_text : List (List ℕ) → ℕ → Answer → List ℕ
node_lease_text names node a = codes "nodelease " ++ text_of names node ++ codes " " ++ answer_text a

-- which Lease was written: the election Lease, or that of the node of its name
abbrev pub lease_text : List (List ℕ) → Key → Answer → ℕ → List ℕ
lease_text names key a transitions = if key_eq key election then election_text a transitions else node_lease_text names key.name a

abbrev pub spaced_name : List (List ℕ) → Key → List ℕ
spaced_name names key = text_of names key.space ++ codes "/" ++ text_of names key.name

abbrev pub kind_text : List (List ℕ) → Key → Kind → List ℕ
kind_text names key kind.Node = codes "node/" ++ text_of names key.name
kind_text names key kind.Lease = codes "lease/" ++ spaced_name names key
kind_text names key kind.Pod = codes "pod/" ++ spaced_name names key

-- a key by its kind, namespace and name; a Node has no namespace
abbrev pub key_text : List (List ℕ) → Key → List ℕ
key_text names key = kind_text names key key.kind

abbrev pub status_text : ReadyStatus → List ℕ
status_text ready.True = codes "True"
status_text ready.False = codes "False"
status_text ready.Unknown = codes "Unknown"

abbrev pub state_text : ZoneState → List ℕ
state_text state.Normal = codes "Normal"
state_text state.Partial = codes "PartialDisruption"
state_text state.Full = codes "FullDisruption"

-- a condition taint by the number of its key: `node.kubernetes.io/not-ready`, else `node.kubernetes.io/unreachable`
abbrev pub taint_text : ℕ → List ℕ
taint_text key = if key == NOT_READY then codes "not-ready" else codes "unreachable"

abbrev pub mode_text : Bool → List ℕ
mode_text true = codes "mode on"
mode_text false = codes "mode off"

-- a name with a word more and how its write was answered
abbrev pub noted_text : List ℕ → List ℕ → Answer → List ℕ
noted_text name word a = name ++ codes " " ++ word ++ codes " " ++ answer_text a

-- the same of a node
abbrev pub node_text : List (List ℕ) → ℕ → List ℕ → Answer → List ℕ
node_text names node word a = noted_text (text_of names node) word a

abbrev pub posted_text : List (List ℕ) → ℕ → ReadyStatus → Answer → List ℕ
posted_text names node status a = codes "status " ++ node_text names node (status_text status) a

abbrev pub marked_text : List (List ℕ) → ℕ → ℕ → Answer → List ℕ
marked_text names node reason a = codes "unknown " ++ node_text names node (text_of names reason) a

abbrev pub untaint_text : List (List ℕ) → ℕ → Answer → List ℕ
untaint_text names node a = codes "untaint " ++ text_of names node ++ codes " " ++ answer_text a

-- a write of the script, by the word for it
abbrev pub script_text : List ℕ → List (List ℕ) → Key → Version → List ℕ
script_text word names key version = word ++ key_text names key ++ codes " v=" ++ decimal version.0

abbrev pub zone_text : List (List ℕ) → ℕ → ℕ → ZoneState → ℕ → List ℕ
zone_text names region zone s rate =
    text_of names region ++ codes "/" ++ text_of names zone ++ codes " " ++ state_text s ++ codes " rate=" ++ decimal rate

abbrev pub eviction_text : List (List ℕ) → Key → Wall → Answer → List ℕ
eviction_text names key due a = spaced_name names key ++ codes " due=" ++ seconds_text due ++ codes " " ++ answer_text a

-- what was done, with the texts of its numbers
unfoldable pub act_text : List (List ℕ) → Act → List ℕ
act_text names act.Start = codes "start"
act_text names act.Crash = codes "crash"
act_text names act.Stop = codes "stop"
act_text names act.End = codes "end"
act_text names (act.Pause beats) = codes "pause beats=" ++ decimal beats
act_text names (act.Stall beats) = codes "stall beats=" ++ decimal beats
act_text names (act.Lead version) = codes "lead v=" ++ decimal version.0
act_text names (act.Create key a transitions) = codes "create " ++ lease_text names key a transitions
act_text names (act.Update key a transitions) = codes "update " ++ lease_text names key a transitions
act_text names (act.Posted node status a) = posted_text names node status a
act_text names (act.Put key version) = script_text (codes "put ") names key version
act_text names (act.Removed key version) = script_text (codes "remove ") names key version
act_text names (act.Marked node reason a) = marked_text names node reason a
act_text names (act.Mode on) = mode_text on
act_text names (act.Zone region zone s rate) = codes "zone " ++ zone_text names region zone s rate
act_text names (act.Tainted node key a) = codes "taint " ++ node_text names node (taint_text key) a
act_text names (act.Swapped node key a) = codes "swap " ++ node_text names node (taint_text key) a
act_text names (act.Untainted node a) = untaint_text names node a
act_text names (act.Evicted key due a) = codes "evict " ++ eviction_text names key due a

-- the line of a deed
abbrev pub line_of : List (List ℕ) → List (List ℕ) → Deed → List ℕ
line_of names processes d = decimal d.beat.0 ++ codes " " ++ actor_text processes d.actor ++ codes " " ++ act_text names d.act ++ codes "\n"

abbrev pub lines_of : List (List ℕ) → List (List ℕ) → List Deed → List ℕ
lines_of names processes = flat_map (line_of names processes)

-- whether the lease premise holds, at the end of a line
abbrev pub premise_text : Bool → List ℕ
premise_text true = codes " premise=yes\n"
premise_text false = codes " premise=no\n"

unfoldable pub first_line : FirstLine → Bool → List ℕ
first_line s premise = codes "trace 1 beat=" ++ decimal s.beat_millis ++ codes " end=" ++ decimal s.end.0 ++ premise_text premise
