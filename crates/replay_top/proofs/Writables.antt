-- What a running world asks of its lines.
use Rattle.std.proofs.Common.{◌≡◌, ℕ, ◌+◌, ◌++◌, List, codes, map, length, sym, subst, arith, length-append}
use Rattle.std.proofs.lemmas.List.{length-map}
use Rattle.std.proofs.lemmas.List.Elements.{All-from_recursion}
use Rattle.std.specs.List.{All, AllByRecursion}
use Rattle.kube_objects.specs.declared.deed.Deed.{Deed}
use Rattle.kube_objects.specs.declared.script.Proc.{Proc}
use Rattle.kube_objects.specs.Document.{Doc, processes}
use Rattle.kube_objects.specs.Writable.{IsWritable}
use Rattle.trace_writer.specs.Names.{text_of}
use Rattle.replay_top.specs.Names.{process_names}

-- deeds that are writable are so by other names for the same values
pub writable-shown : (names shown : List (List ℕ)) (count n : ℕ) (deeds given : List Deed) → shown ≡ names → count ≡ n → given ≡ deeds → AllByRecursion (IsWritable names n) deeds
    → All (IsWritable shown count) given
writable-shown names shown count n deeds given named counted is each =
    subst (All (IsWritable shown count)) (sym is)
    (All-from_recursion (IsWritable shown count) deeds
    (subst (λ m. AllByRecursion (IsWritable shown m) deeds) (sym counted) (subst (λ ns. AllByRecursion (IsWritable ns n) deeds) (sym named) each)))

pub process_names-count : (names : List (List ℕ)) (doc : Doc) → length (process_names names doc) ≡ processes doc
process_names-count names doc =
    let controller : Proc → List ℕ = λ p. text_of names p.name in
    let kubelet : Proc → List ℕ = λ p. codes "kubelet/" ++ text_of names p.name in
    omega (
      arith,
      length-append (map controller doc.controllers) (map kubelet doc.kubelets),
      length-map doc.controllers controller,
      length-map doc.kubelets kubelet,
      length-append doc.controllers doc.kubelets,
    )
