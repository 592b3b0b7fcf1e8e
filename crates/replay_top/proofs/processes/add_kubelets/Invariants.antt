use Rattle.std.proofs.Common.{◌≡◌, ◌++◌, codes, map, take}
use Rattle.trace_writer.specs.Names.{text_of}
use Rattle.replay_top.proofs.processes.add_kubelets.Given as goal

abbrev pub invariant-loop-kubelet : goal.invariant-loop-kubelet
invariant-loop-kubelet l = l.processes ≡ l.fn.processes ++ map (λ p. codes "kubelet/" ++ text_of l.names p.name) (take l.kubelet-index l.kubelets)
