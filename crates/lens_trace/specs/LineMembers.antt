-- The members of a line's object, in the order of the line's words. docs/trace.md has the forms of lines.
use Rattle.std.specs.Prelude.{ℕ, Bool, List, [], ◌∷◌, codes, if◌then◌else◌}
use Rattle.lens_json.specs.Members.{Named, nat, text}
use Rattle.trace_lines.specs.declared.header.Header.{Header}
use Rattle.trace_lines.specs.declared.line.Answer.{Answer}
use Rattle.trace_lines.specs.declared.line.Answer.TheVariants.{Done, Conflict, Absent, Exists}
use Rattle.trace_lines.specs.declared.line.Line.{Line}
use Rattle.trace_lines.specs.declared.line.Says.{Says}
use Rattle.trace_lines.specs.declared.line.Says.TheVariants as says
use Rattle.trace_lines.specs.declared.line.Verb.{Verb}
use Rattle.trace_lines.specs.declared.line.Verb.TheVariants.{Create, Update}

-- ---- members

-- `v=N`, `conflict v=N`, `absent` or `exists`
abbrev pub answer_members : Answer → List Named
answer_members (Done v) = nat (codes "v") v ∷ []
answer_members (Conflict v) = text (codes "answer") (codes "conflict") ∷ nat (codes "v") v ∷ []
answer_members Absent = text (codes "answer") (codes "absent") ∷ []
answer_members Exists = text (codes "answer") (codes "exists") ∷ []

-- `v=N t=T`, or how it was refused
abbrev pub election_members : Answer → ℕ → List Named
election_members (Done v) transitions = nat (codes "v") v ∷ nat (codes "t") transitions ∷ []
election_members answer transitions = answer_members answer

abbrev pub truth_word : Bool → List ℕ
truth_word ready = if ready then codes "True" else codes "False"

abbrev pub mode_word : Bool → List ℕ
mode_word on = if on then codes "on" else codes "off"

-- ---- a line

abbrev pub verb_word : Verb → List ℕ
verb_word Create = codes "create"
verb_word Update = codes "update"

-- the word behind the actor
abbrev pub kind_word : {T : Type 0} → Says T → List ℕ
kind_word says.Start = codes "start"
kind_word says.Crash = codes "crash"
kind_word says.Stop = codes "stop"
kind_word says.End = codes "end"
kind_word (says.Pause beats) = codes "pause"
kind_word (says.Stall beats) = codes "stall"
kind_word (says.Lead version) = codes "lead"
kind_word (says.Election verb answer transitions) = verb_word verb
kind_word (says.NodeLease verb node answer) = verb_word verb
kind_word (says.Status node ready answer) = codes "status"
kind_word (says.Put key version) = codes "put"
kind_word (says.Remove key version) = codes "remove"
kind_word (says.Unknown node reason answer) = codes "unknown"
kind_word (says.Mode on) = codes "mode"
kind_word (says.Zone zone state rate) = codes "zone"
kind_word (says.Taint node taint answer) = codes "taint"
kind_word (says.Swap node taint answer) = codes "swap"
kind_word (says.Untaint node answer) = codes "untaint"
kind_word (says.Evict pod due answer) = codes "evict"

-- the members of what stands behind that word
abbrev pub said_members : Says (List ℕ) → List Named
said_members says.Start = []
said_members says.Crash = []
said_members says.Stop = []
said_members says.End = []
said_members (says.Pause beats) = nat (codes "beats") beats ∷ []
said_members (says.Stall beats) = nat (codes "beats") beats ∷ []
said_members (says.Lead version) = nat (codes "v") version ∷ []
said_members (says.Election verb answer transitions) = text (codes "object") (codes "election") ∷ election_members answer transitions
said_members (says.NodeLease verb node answer) = text (codes "object") (codes "nodelease") ∷ text (codes "node") node ∷ answer_members answer
said_members (says.Status node ready answer) = text (codes "node") node ∷ text (codes "ready") (truth_word ready) ∷ answer_members answer
said_members (says.Put key version) = text (codes "key") key ∷ nat (codes "v") version ∷ []
said_members (says.Remove key version) = text (codes "key") key ∷ nat (codes "v") version ∷ []
said_members (says.Unknown node reason answer) = text (codes "node") node ∷ text (codes "reason") reason ∷ answer_members answer
said_members (says.Mode on) = text (codes "mode") (mode_word on) ∷ []
said_members (says.Zone zone state rate) = text (codes "zone") zone ∷ text (codes "state") state ∷ nat (codes "rate") rate ∷ []
said_members (says.Taint node taint answer) = text (codes "node") node ∷ text (codes "taint") taint ∷ answer_members answer
said_members (says.Swap node taint answer) = text (codes "node") node ∷ text (codes "taint") taint ∷ answer_members answer
said_members (says.Untaint node answer) = text (codes "node") node ∷ answer_members answer
said_members (says.Evict pod due answer) = text (codes "pod") pod ∷ text (codes "due") due ∷ answer_members answer

abbrev pub line_members : Line (List ℕ) → List Named
line_members l = nat (codes "beat") l.beat ∷ text (codes "actor") l.actor ∷ text (codes "kind") (kind_word l.says) ∷ said_members l.says

-- ---- the first line

abbrev pub premise_word : Bool → List ℕ
premise_word premise = if premise then codes "yes" else codes "no"

-- `trace 1 beat=MILLIS end=BEAT premise=P`
abbrev pub header_members : Header → List Named
header_members header =
    text (codes "kind") (codes "trace") ∷ nat (codes "version") 1 ∷ nat (codes "beatMillis") header.beat_millis ∷ nat (codes "end") header.end
    ∷ text (codes "premise") (premise_word header.premise) ∷ []
