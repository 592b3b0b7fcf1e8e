use Rattle.history_examples.proofs.Kubelets as worked
use Rattle.history_examples.proofs.worked_kubelets.Goals as goal

pub returns-clause-silent_kubelet : goal.returns-clause-silent_kubelet
returns-clause-silent_kubelet c = worked.silent_kubelet

pub returns-clause-lost_calls : goal.returns-clause-lost_calls
returns-clause-lost_calls c = worked.lost_calls
