-- The names of a document's processes.
use Rattle.std.specs.Prelude.{ℕ, List, ◌++◌, codes, map}
use Rattle.kube_objects.specs.Document.{Doc}
use Rattle.trace_writer.specs.Names.{text_of}

-- the names of processes in order: those of the controllers, then `kubelet/NODE`
abbrev pub process_names : List (List ℕ) → Doc → List (List ℕ)
process_names names doc =
    map (λ p. text_of names p.name) doc.controllers ++ map (λ p. codes "kubelet/" ++ text_of names p.name) doc.kubelets
