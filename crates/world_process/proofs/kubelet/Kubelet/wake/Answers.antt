use Rattle.std.proofs.Common.{Some, None}
use Rattle.kube_objects.specs.Identities.{identity}
use Rattle.world_process.proofs.Kubelets.{rounds-at}
use Rattle.world_process.proofs.Wakes.{absent-reading, rounds-reading}
use Rattle.world_process.proofs.kubelet.Kubelet.wake.Goals as goal

pub returns-in-None : goal.returns-in-None
returns-in-None c doc p h s =
    let self = c.args.self.now in
    absent-reading doc p self.incarnation h (rounds-at doc p h self None s c.in-None.is)

pub returns-in-Some : goal.returns-in-Some
returns-in-Some c doc p h s =
    let self = c.args.self.now in
    let was = rounds-at doc p h self (Some c.in-Some.rounds) s c.in-Some.is in
    rounds-reading doc p self.incarnation c.wake.result.0 h c.in-Some.rounds was (c.wake.ensures.reading doc (identity p self.incarnation) h was.1)
