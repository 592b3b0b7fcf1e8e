-- The first entries of a history, written out.
use Rattle.std.specs.Prelude.{◌≡◌, ℕ, true, [], ◌∷◌, Some, None}
use Rattle.kube_objects.specs.declared.call.Reply.TheVariants as reply
use Rattle.kube_objects.specs.declared.call.Request.{Request}
use Rattle.kube_objects.specs.declared.call.Request.TheVariants as request
use Rattle.kube_objects.specs.declared.lease.Lease.{Lease}
use Rattle.kube_objects.specs.declared.object.Object.TheVariants as object
use Rattle.kube_objects.specs.Entry.{Identity, Call, Plain, Starts, Sends, Answers, Delivers, Leads, Ticks, Sync, Pass, entry}
use Rattle.kube_objects.specs.Identities.{identity, holder_of}
use Rattle.kube_objects.specs.Stored.{election}
use Rattle.history.specs.History.{history}
use Rattle.history_examples.specs.Documents.{alone}

abbrev pub me : Identity
me = identity 0 1

-- the record that is created in beat 2, which begins 200 milliseconds after 2024-01-01T00:00:00Z
abbrev pub first_record : Lease
first_record =
    record {
      holder = holder_of me;
      duration = Some 15;
      acquired = Some (record { 0 = 1704067200200000 });
      renewed = Some (record { 0 = 1704067200200000 });
      transitions = Some 0;
    }

abbrev pub call : ℕ → ℕ → Request → Call
call number sent asked = record { number = number; request = asked; sent = sent; kind = Plain }

-- the newest entry first
abbrev pub TwelveEntries : Type 0
TwelveEntries = history (alone 60 [] []) 6 ≡
    entry 5 2 me (Answers (call 3 4 (request.Get election)) (reply.Found (record { 0 = 1 }) first_record) (Some 6) None)
    ∷ entry 4 4 me (Ticks Pass)
    ∷ entry 4 4 me (Ticks Sync)
    ∷ entry 4 4 me (Sends (call 3 4 (request.Get election)) (Some 5))
    ∷ entry 4 3 me (Leads (record { 0 = 1 }))
    ∷ entry 4 3 me (Delivers (call 2 2 (request.Create election first_record)) (reply.Done (record { 0 = 1 })) true)
    ∷ entry 3 2 me (Answers (call 2 2 (request.Create election first_record)) (reply.Done (record { 0 = 1 })) (Some 4)
    (Some (object.Lease first_record)))
    ∷ entry 2 3 me (Sends (call 2 2 (request.Create election first_record)) (Some 3))
    ∷ entry 2 3 me (Delivers (call 1 0 (request.Get election)) reply.Absent true)
    ∷ entry 1 2 me (Answers (call 1 0 (request.Get election)) reply.Absent (Some 2) None)
    ∷ entry 0 4 me (Sends (call 1 0 (request.Get election)) (Some 1))
    ∷ entry 0 1 me Starts
    ∷ []
