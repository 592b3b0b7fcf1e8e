-- What a document is answered.
use Rattle.serde_json.specs.Written.{compact_text}
use Rattle.std.specs.Prelude.{ℕ, zero, suc, ◌*◌, Bool, List, [], ◌∷◌, ◌++◌, length, map, slice_get, codes, Option, Some, None, Result, Ok, Err}
use Rattle.history.specs.Premise.{lease_premise}
use Rattle.kube_objects.specs.declared.script.Proc.{Proc}
use Rattle.kube_objects.specs.Document.{Doc}
use Rattle.lens_bounds.specs.declared.calm.Calm.{Calm}
use Rattle.lens_bounds.specs.declared.elections.Election.{Election}
use Rattle.lens_bounds.specs.declared.outages.Outage.{Outage}
use Rattle.lens_bounds.specs.Documents.{calm_of, outage_of}
use Rattle.lens_bounds.specs.Elections.{election_of, stay}
use Rattle.lens_bounds.specs.Outages.{until_unknown, until_tainted, until_gone}
use Rattle.run_edge.specs.Outcome.{Reply, refusal}
use Rattle.lens_json.specs.Members.{Named, nat, object_of}
use Rattle.lens_json.specs.Parts.{list_of}
use Rattle.lens_room.specs.Replies.{verdict_of}
use Rattle.manifest_json.specs.declared.fault.Refusal.{Refusal}
use Rattle.script_reader.specs.declared.document.Document.{Document}
use Rattle.script_reader.specs.Documents.{doc_of}
use Rattle.trace_writer.specs.Names.{text_of}
use Rattle.lens_calm.specs.Lines.{delay_text, election_text, unknown_line, tainted_line, gone_line, stays_text}
use Rattle.lens_calm.specs.Objects.{leader_members, node_members, gone_members, end_members}
use Rattle.lens_calm.specs.Tolerated.{times}

abbrev pub stays_in : Document → Bool
stays_in d = stay (calm_of (doc_of d)) d.controllers

abbrev pub times_in : Document → List ℕ
times_in d = times d.objects.items d.events

abbrev pub election_in : Document → ℕ → Proc → Election
election_in d p leader = election_of (calm_of (doc_of d)) p leader d.controllers

-- ---- lines

-- the lines of the controller at a place
unfoldable pub leader_text : Document → Bool → ℕ → Proc → List ℕ
leader_text d safe p leader = election_text (text_of d.names leader.name ++ codes " ") safe (election_in d p leader)

abbrev pub leader_by : Document → Bool → ℕ → Option Proc → List ℕ
leader_by d safe p None = []
leader_by d safe p (Some leader) = leader_text d safe p leader

-- of the controllers below a place
abbrev pub leaders_below : Document → Bool → ℕ → List ℕ
leaders_below d safe zero = []
leaders_below d safe (suc p) = leaders_below d safe p ++ leader_by d safe p (slice_get d.controllers p)

abbrev pub gone_lines : Outage → List ℕ → List ℕ
gone_lines o [] = []
gone_lines o (seconds ∷ more) = gone_line seconds (until_gone o seconds) ++ gone_lines o more

unfoldable pub spread_text : Calm → List ℕ
spread_text c = delay_text (c.near * c.beat_millis) (c.far * c.beat_millis) ++ codes "\n"

unfoldable pub nodes_text : Outage → List ℕ → List ℕ
nodes_text o seconds = unknown_line (until_unknown o) ++ tainted_line 0 (until_tainted o) ++ gone_lines o seconds

unfoldable pub bounds_text : Document → Bool → List ℕ
bounds_text d safe =
    spread_text (calm_of (doc_of d)) ++ leaders_below d safe (length d.controllers) ++ nodes_text (outage_of (doc_of d)) (times_in d) ++ stays_text (stays_in d)

-- it ends well exactly where a leader stays
abbrev pub bounds : Document → Reply
bounds d = record { verdict = verdict_of (stays_in d); text = bounds_text d (lease_premise (doc_of d)) }

-- ---- JSON

abbrev pub members_by : Document → ℕ → Option Proc → List (List Named)
members_by d p None = []
members_by d p (Some leader) = leader_members (text_of d.names leader.name) (election_in d p leader) ∷ []

abbrev pub members_below : Document → ℕ → List (List Named)
members_below d zero = []
members_below d (suc p) = members_below d p ++ members_by d p (slice_get d.controllers p)

abbrev pub gone_objects : Outage → List ℕ → List (List Named)
gone_objects o [] = []
gone_objects o (seconds ∷ more) = gone_members seconds (until_gone o seconds) ∷ gone_objects o more

unfoldable pub spread_members : Calm → List Named
spread_members c =
    nat (codes "beatMillis") c.beat_millis ∷ nat (codes "leastDelayMillis") (c.near * c.beat_millis) ∷ nat (codes "delayMillis") (c.far * c.beat_millis) ∷ []

abbrev pub gone_list : Outage → List ℕ → List Named
gone_list o seconds = (codes "gone", list_of (gone_objects o seconds)) ∷ []

unfoldable pub nodes_members : Outage → List ℕ → List Named
nodes_members o seconds = node_members 0 (until_unknown o) (until_tainted o) ++ gone_list o seconds

unfoldable pub leaders_members : Document → List Named
leaders_members d = (codes "controllers", list_of (members_below d (length d.controllers))) ∷ []

abbrev pub document_members : Document → Bool → List Named
document_members d safe =
    spread_members (calm_of (doc_of d)) ++ leaders_members d ++ nodes_members (outage_of (doc_of d)) (times_in d) ++ end_members (stays_in d) safe

unfoldable pub document_json : Document → Bool → List ℕ
document_json d safe = compact_text (object_of (document_members d safe)) ++ codes "\n"

abbrev pub bounds_json : Document → Reply
bounds_json d = record { verdict = verdict_of (stays_in d); text = document_json d (lease_premise (doc_of d)) }

-- ---- what the bytes of an input are answered, or their refusal

abbrev pub found : Result Document Refusal → Reply
found (Ok d) = bounds d
found (Err r) = refusal r.code r.path

abbrev pub found_json : Result Document Refusal → Reply
found_json (Ok d) = bounds_json d
found_json (Err r) = refusal r.code r.path
