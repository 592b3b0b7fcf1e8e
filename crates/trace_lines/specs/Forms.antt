-- The lines of a trace behind the first, each of one form.
use Rattle.std.specs.Prelude.{ℕ, ◌==◌, ◌&&◌, ◌||◌, Bool, true, false, List, codes, Option, Some, None, if◌then◌else◌}
use Rattle.std.specs.Str.{bytes_eq}
use Rattle.kube_base.specs.Times.{◌>>=◌}
use Rattle.trace_lines.specs.declared.line.Answer.{Answer}
use Rattle.trace_lines.specs.declared.line.Answer.TheVariants.{Done, Conflict, Absent, Exists}
use Rattle.trace_lines.specs.declared.line.Verb.{Verb}
use Rattle.trace_lines.specs.declared.line.Verb.TheVariants.{Create, Update}
use Rattle.trace_lines.specs.declared.line.Line.{Line}
use Rattle.trace_lines.specs.declared.line.Says.{Says}
use Rattle.trace_lines.specs.declared.line.Says.TheVariants as says
use Rattle.trace_lines.specs.declared.forms.Sort.{Sort}
use Rattle.trace_lines.specs.declared.forms.Sort.TheVariants.{Script, Controller, Kubelet}
use Rattle.trace_lines.specs.Grammar.{cut, number, labelled_number, is_name, is_spaced, is_zone, is_key, is_second}
use Rattle.trace_lines.specs.Headers.{behind}

-- ---- answers

-- `v=N`
abbrev pub version : List ℕ → Option ℕ
version text = labelled_number (codes "v") 18446744073709551615 text

abbrev pub one_word : List ℕ → Option Answer
one_word text =
    if bytes_eq text (codes "absent") then Some Absent
    else (if bytes_eq text (codes "exists") then Some Exists else (version text >>= λ v. Some (Done v)))

abbrev pub answer_from : List ℕ → Option (List ℕ × List ℕ) → Option Answer
answer_from text None = one_word text
answer_from text (Some parts) = if bytes_eq parts.0 (codes "conflict") then (version parts.1 >>= λ v. Some (Conflict v)) else None

-- `v=N`, `conflict v=N`, `absent` or `exists`
unfoldable pub answer_of : List ℕ → Option Answer
answer_of text = answer_from text (cut 32 text)

-- what refuses a Create, and what refuses an Update
abbrev pub refuses : Verb → Answer → Bool
refuses Create Exists = true
refuses Create _ = false
refuses Update (Conflict v) = true
refuses Update Absent = true
refuses Update _ = false

-- the Create of a node's Lease is told, its Update only where it is refused
abbrev pub is_told : Verb → Answer → Bool
is_told Create (Done v) = true
is_told verb answer = refuses verb answer

abbrev pub is_posted : Answer → Bool
is_posted (Done v) = true
is_posted Absent = true
is_posted _ = false

abbrev pub unless_exists : Answer → Option Answer
unless_exists Exists = None
unless_exists answer = Some answer

-- the answer to a controller's write to a node or a pod
unfoldable pub change_of : List ℕ → Option Answer
change_of text = do
  answer ← answer_of text
  unless_exists answer

-- ---- forms

unfoldable pub lead : List ℕ → Option (Says (List ℕ))
lead text = do
  v ← version text
  Some (says.Lead v)

-- `v=N t=T`
unfoldable pub version_and_transitions : List ℕ → Option (ℕ × ℕ)
version_and_transitions text = do
  parts ← cut 32 text
  v ← version parts.0
  transitions ← labelled_number (codes "t") 2147483647 parts.1
  Some (v, transitions)

unfoldable pub refused_election : Verb → List ℕ → Option (Says (List ℕ))
refused_election verb text = do
  answer ← answer_of text
  if refuses verb answer then Some (says.Election verb answer 0) else None

abbrev pub election_from : Verb → List ℕ → Option (ℕ × ℕ) → Option (Says (List ℕ))
election_from verb text (Some w) = Some (says.Election verb (Done w.0) w.1)
election_from verb text None = refused_election verb text

-- `election v=N t=T`, or how it was refused
unfoldable pub election : Verb → List ℕ → Option (Says (List ℕ))
election verb text = do
  rest ← behind (codes "election") text
  election_from verb rest (version_and_transitions rest)

-- `nodelease NODE A`
unfoldable pub node_lease : Verb → List ℕ → Option (Says (List ℕ))
node_lease verb text = do
  rest ← behind (codes "nodelease") text
  node ← cut 32 rest
  answer ← answer_of node.1
  if is_name node.0 && is_told verb answer then Some (says.NodeLease verb node.0 answer) else None

abbrev pub truth : List ℕ → Option Bool
truth text = if bytes_eq text (codes "True") then Some true else (if bytes_eq text (codes "False") then Some false else None)

-- `NODE True A` or `NODE False A`
unfoldable pub status : List ℕ → Option (Says (List ℕ))
status text = do
  node ← cut 32 text
  word ← cut 32 node.1
  ready ← truth word.0
  answer ← answer_of word.1
  if is_name node.0 && is_posted answer then Some (says.Status node.0 ready answer) else None

-- `KEY v=N`
unfoldable pub script_write : List ℕ → Option (List ℕ × ℕ)
script_write text = do
  key ← cut 32 text
  v ← version key.1
  if is_key key.0 then Some (key.0, v) else None

-- `NODE WORD A`
unfoldable pub node_word : List ℕ → Option (List ℕ × List ℕ × Answer)
node_word text = do
  node ← cut 32 text
  word ← cut 32 node.1
  answer ← change_of word.1
  if is_name node.0 then Some (node.0, word.0, answer) else None

abbrev pub is_reason : List ℕ → Bool
is_reason text = bytes_eq text (codes "NodeStatusUnknown") || bytes_eq text (codes "NodeStatusNeverUpdated")

abbrev pub is_taint : List ℕ → Bool
is_taint text = bytes_eq text (codes "not-ready") || bytes_eq text (codes "unreachable")

abbrev pub is_state : List ℕ → Bool
is_state text = bytes_eq text (codes "Normal") || bytes_eq text (codes "PartialDisruption") || bytes_eq text (codes "FullDisruption")

unfoldable pub unknown : List ℕ → Option (Says (List ℕ))
unknown text = do
  parts ← node_word text
  if is_reason parts.1 then Some (says.Unknown parts.0 parts.1 parts.2) else None

-- `NODE W A`
unfoldable pub node_taint : List ℕ → Option (List ℕ × List ℕ × Answer)
node_taint text = do
  parts ← node_word text
  if is_taint parts.1 then Some parts else None

unfoldable pub taint : List ℕ → Option (Says (List ℕ))
taint text = do
  parts ← node_taint text
  Some (says.Taint parts.0 parts.1 parts.2)

unfoldable pub swap : List ℕ → Option (Says (List ℕ))
swap text = do
  parts ← node_taint text
  Some (says.Swap parts.0 parts.1 parts.2)

unfoldable pub mode : List ℕ → Option (Says (List ℕ))
mode text =
    if bytes_eq text (codes "on") then Some (says.Mode true)
    else (if bytes_eq text (codes "off") then Some (says.Mode false) else None)

-- `REGION/ZONE STATE rate=R`
unfoldable pub zone : List ℕ → Option (Says (List ℕ))
zone text = do
  place ← cut 32 text
  state ← cut 32 place.1
  rate ← labelled_number (codes "rate") 1000000 state.1
  if is_zone place.0 && is_state state.0 then Some (says.Zone place.0 state.0 rate) else None

-- `NODE A`
unfoldable pub untaint : List ℕ → Option (Says (List ℕ))
untaint text = do
  node ← cut 32 text
  answer ← change_of node.1
  if is_name node.0 then Some (says.Untaint node.0 answer) else None

-- `due=TIME`
unfoldable pub due : List ℕ → Option (List ℕ)
due text = do
  parts ← cut 61 text
  if bytes_eq parts.0 (codes "due") && is_second parts.1 then Some parts.1 else None

-- `NAMESPACE/NAME due=TIME A`
unfoldable pub evict : List ℕ → Option (Says (List ℕ))
evict text = do
  pod ← cut 32 text
  word ← cut 32 pod.1
  time ← due word.0
  answer ← change_of word.1
  if is_spaced pod.0 then Some (says.Evict pod.0 time answer) else None

-- `beats=N`, 1 to 604,800,000
unfoldable pub some_beats : List ℕ → Option ℕ
some_beats text = do
  beats ← labelled_number (codes "beats") 604800000 text
  if beats == 0 then None else Some beats

unfoldable pub pause : List ℕ → Option (Says (List ℕ))
pause text = do
  beats ← some_beats text
  Some (says.Pause beats)

unfoldable pub stall : List ℕ → Option (Says (List ℕ))
stall text = do
  beats ← some_beats text
  Some (says.Stall beats)

-- ---- what is said, by the sort of the actor

abbrev pub bare : Sort → List ℕ → Option (Says (List ℕ))
bare Script word = None
bare Kubelet word =
    if bytes_eq word (codes "start") then Some says.Start
    else (if bytes_eq word (codes "crash") then Some says.Crash else None)
bare Controller word =
    if bytes_eq word (codes "start") then Some says.Start
    else (if bytes_eq word (codes "crash") then Some says.Crash
    else (if bytes_eq word (codes "stop") then Some says.Stop
    else (if bytes_eq word (codes "end") then Some says.End else None)))

unfoldable pub put : List ℕ → Option (Says (List ℕ))
put text = do
  write ← script_write text
  Some (says.Put write.0 write.1)

unfoldable pub remove : List ℕ → Option (Says (List ℕ))
remove text = do
  write ← script_write text
  Some (says.Remove write.0 write.1)

unfoldable pub by_script : List ℕ → List ℕ → Option (Says (List ℕ))
by_script word text =
    if bytes_eq word (codes "put") then put text
    else (if bytes_eq word (codes "remove") then remove text
    else (if bytes_eq word (codes "stall") then stall text else None))

unfoldable pub by_kubelet : List ℕ → List ℕ → Option (Says (List ℕ))
by_kubelet word text =
    if bytes_eq word (codes "status") then status text
    else (if bytes_eq word (codes "create") then node_lease Create text
    else (if bytes_eq word (codes "update") then node_lease Update text
    else (if bytes_eq word (codes "pause") then pause text else None)))

-- the lines that only a leader writes
unfoldable pub by_leader : List ℕ → List ℕ → Option (Says (List ℕ))
by_leader word text =
    if bytes_eq word (codes "taint") then taint text
    else (if bytes_eq word (codes "evict") then evict text
    else (if bytes_eq word (codes "unknown") then unknown text
    else (if bytes_eq word (codes "untaint") then untaint text
    else (if bytes_eq word (codes "swap") then swap text
    else (if bytes_eq word (codes "zone") then zone text
    else (if bytes_eq word (codes "mode") then mode text else None))))))

unfoldable pub by_controller : List ℕ → List ℕ → Option (Says (List ℕ))
by_controller word text =
    if bytes_eq word (codes "update") then election Update text
    else (if bytes_eq word (codes "create") then election Create text
    else (if bytes_eq word (codes "lead") then lead text
    else (if bytes_eq word (codes "pause") then pause text else by_leader word text)))

abbrev pub form : Sort → List ℕ → List ℕ → Option (Says (List ℕ))
form Script word text = by_script word text
form Kubelet word text = by_kubelet word text
form Controller word text = by_controller word text

abbrev pub says_from : Sort → List ℕ → Option (List ℕ × List ℕ) → Option (Says (List ℕ))
says_from sort text None = bare sort text
says_from sort text (Some parts) = form sort parts.0 parts.1

unfoldable pub says_of : Sort → List ℕ → Option (Says (List ℕ))
says_of sort text = says_from sort text (cut 32 text)

-- ---- actors

abbrev pub process_from : List ℕ → Option (List ℕ × List ℕ) → Option Sort
process_from name None = if is_name name then Some Controller else None
process_from name (Some parts) = if bytes_eq parts.0 (codes "kubelet") && is_name parts.1 then Some Kubelet else None

-- an identity: a controller's name or `kubelet/NODE`, then `_` and the number of its start, 1 to 4,294,967,295
unfoldable pub identity : List ℕ → Option Sort
identity text = do
  parts ← cut 95 text
  start ← number 4294967295 parts.1
  if start == 0 then None else process_from parts.0 (cut 47 parts.0)

unfoldable pub sort_of : List ℕ → Option Sort
sort_of actor = if bytes_eq actor (codes "script") then Some Script else identity actor

-- ---- lines

-- `BEAT ACTOR REST`
unfoldable pub line_of : List ℕ → Option (Line (List ℕ))
line_of text = do
  beat ← cut 32 text
  at ← number 604800000 beat.0
  actor ← cut 32 beat.1
  sort ← sort_of actor.0
  words ← says_of sort actor.1
  Some (record { beat = at; actor = actor.0; says = words })
