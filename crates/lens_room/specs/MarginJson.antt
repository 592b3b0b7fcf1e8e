-- What `margin --json` answers: one object of the numbers that `margin` tells of each controller.
use Rattle.std.specs.Prelude.{ℕ, zero, suc, ◌-◌, ◌++◌, pos, neg_ℤ, nat_le, Bool, List, [], ◌∷◌, length, codes, Option, Some, None, Result, Ok, Err, if◌then◌else◌}
use Rattle.serde_json.specs.Data.{Data, null, boolean, number, unsigned, negative}
use Rattle.serde_json.specs.Written.{compact_text}
use Rattle.history.specs.Premise.{lease_premise}
use Rattle.kube_objects.specs.Document.{field, process_at}
use Rattle.run_edge.specs.Outcome.{Reply, refusal}
use Rattle.lens_json.specs.Members.{Named, nat, text, object_of}
use Rattle.lens_margin.specs.declared.margin.Margin.{Margin}
use Rattle.lens_margin.specs.Margins.{margin_of}
use Rattle.lens_room.specs.declared.late.Late.{Late}
use Rattle.lens_room.specs.Late.{late_reply}
use Rattle.lens_room.specs.Replies.{verdict_of}
use Rattle.lens_json.specs.Parts.{list_of}
use Rattle.manifest_json.specs.declared.fault.Refusal.{Refusal}
use Rattle.script_reader.specs.declared.document.Document.{Document}
use Rattle.script_reader.specs.Documents.{doc_of}
use Rattle.trace_writer.specs.Names.{text_of}

-- ---- numbers

abbrev pub whole : ℕ → Data
whole n = number (unsigned n)

abbrev pub number_if : Option ℕ → Data
number_if None = null
number_if (Some n) = whole n

-- a lease less what it must exceed
abbrev pub slack : ℕ → ℕ → Data
slack lease must = if nat_le must lease then whole (lease - must) else number (negative (neg_ℤ (pos (must - lease))))

-- ---- controllers

-- the numbers of a margin
abbrev pub number_members : Margin → List Named
number_members m =
    (codes "leaseMillis", whole m.lease) ∷ (codes "mustExceedMillis", whole m.must_exceed) ∷ (codes "slackMillis", slack m.lease m.must_exceed)
    ∷ (codes "leastLeaseSeconds", number_if m.least_seconds) ∷ (codes "longestStallMillis", number_if m.longest_stall) ∷ []

-- a controller's name and its numbers
abbrev pub margin_members : List ℕ → Margin → List Named
margin_members name m = text (codes "name") name ∷ number_members m

-- of the controller at a place
abbrev pub members_at : Document → ℕ → List Named
members_at d p = margin_members (text_of d.names (field (λ x. x.name) 0 (process_at (doc_of d) p))) (margin_of (doc_of d) p)

-- of the controllers below a place
abbrev pub controllers_below : Document → ℕ → List (List Named)
controllers_below d zero = []
controllers_below d (suc p) = controllers_below d p ++ members_at d p ∷ []

-- ---- the answer

-- the reply for which no lease is enough, if there is one
abbrev pub late_members : Late → List ℕ → List Named
late_members late name = nat (codes "event") late.place ∷ nat (codes "beat") late.beat.0 ∷ text (codes "name") name ∷ []

abbrev pub late_data : Document → Option Late → Data
late_data d None = null
late_data d (Some late) = object_of (late_members late (text_of d.names (field (λ x. x.name) 0 (process_at (doc_of d) late.who.0))))

abbrev pub room_members : Document → Bool → List Named
room_members d safe =
    (codes "controllers", list_of (controllers_below d (length d.controllers))) ∷ (codes "lateReply", late_data d (late_reply (doc_of d)))
    ∷ (codes "safe", boolean safe) ∷ []

unfoldable pub room_json : Document → Bool → List ℕ
room_json d safe = compact_text (object_of (room_members d safe))

-- a document's object; it is safe exactly where its lease premise holds
abbrev pub room : Document → Reply
room d = record { verdict = verdict_of (lease_premise (doc_of d)); text = room_json d (lease_premise (doc_of d)) ++ codes "\n" }

-- what a document is answered, or its refusal
abbrev pub found : Result Document Refusal → Reply
found (Ok d) = room d
found (Err r) = refusal r.code r.path
