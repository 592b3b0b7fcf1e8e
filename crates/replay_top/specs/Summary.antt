-- The line on a document that was read.
use Rattle.std.specs.Prelude.{ℕ, ◌==◌, List, ◌++◌, codes, decimal, length}
use Rattle.std.specs.List.{filter}
use Rattle.kube_objects.specs.declared.key.Key.{Key}
use Rattle.kube_objects.specs.declared.key.Kind.{Kind}
use Rattle.kube_objects.specs.declared.key.Kind.TheVariants as kind
use Rattle.kube_objects.specs.declared.object.Object.{Object}
use Rattle.kube_objects.specs.Keys.{kind_rank}
use Rattle.kube_objects.specs.Document.{Doc}
use Rattle.manifest_json.specs.declared.list.Objects.{Objects}
use Rattle.script_reader.specs.declared.document.Document.{Document}
use Rattle.script_reader.specs.Documents.{doc_of}
use Rattle.history.specs.Premise.{lease_premise}
use Rattle.trace_writer.specs.Lines.{premise_text}

-- how many objects are of a kind
unfoldable pub count_of : Kind → List (Key × Object) → ℕ
count_of k items = length (filter (λ item. kind_rank item.0.kind == kind_rank k) items)

-- the objects by their kinds, and the items that were skipped
unfoldable pub objects_text : Objects → List ℕ
objects_text o =
    codes " nodes=" ++ decimal (count_of kind.Node o.items) ++ codes " leases=" ++ decimal (count_of kind.Lease o.items)
    ++ codes " pods=" ++ decimal (count_of kind.Pod o.items) ++ codes " skipped=" ++ decimal o.skipped

-- the processes
unfoldable pub processes_text : Doc → List ℕ
processes_text doc = codes "controllers=" ++ decimal (length doc.controllers) ++ codes " kubelets=" ++ decimal (length doc.kubelets)

unfoldable pub events_text : Doc → List ℕ
events_text doc = codes " events=" ++ decimal (length doc.events)

-- what the document has, and whether the lease premise holds
unfoldable pub summary : Document → List ℕ
summary d =
    codes "ok " ++ processes_text (doc_of d) ++ objects_text d.objects ++ events_text (doc_of d) ++ premise_text (lease_premise (doc_of d))
