use Rattle.std.proofs.Common.{◌∙◌, None, refl}
use Rattle.kube_objects.specs.declared.key.Kind.TheVariants.{Node, Lease, Pod}
use Rattle.key_map.proofs.Keyed.{lease_changed, node_changed, pod_changed, value_is}
use Rattle.key_map.proofs.map.KeyMap.remove.Goals as goal

pub returns-in-Node-clause-old : goal.returns-in-Node-clause-old
returns-in-Node-clause-old g c = c.remove.ensures.old ∙ value_is c.args.self.now c.args.key.now Node c.in-Node.is

pub returns-in-Node-clause-taken : goal.returns-in-Node-clause-taken
returns-in-Node-clause-taken g c = node_changed c.args.self.now _ c.args.key.now None c.in-Node.is c.remove.ensures.taken refl refl

pub returns-in-Lease-clause-old : goal.returns-in-Lease-clause-old
returns-in-Lease-clause-old g c = c.remove-in-Lease.ensures.old ∙ value_is c.args.self.now c.args.key.now Lease c.in-Lease.is

pub returns-in-Lease-clause-taken : goal.returns-in-Lease-clause-taken
returns-in-Lease-clause-taken g c = lease_changed c.args.self.now _ c.args.key.now None c.in-Lease.is c.remove-in-Lease.ensures.taken refl refl

pub returns-in-Pod-clause-old : goal.returns-in-Pod-clause-old
returns-in-Pod-clause-old g c = c.remove-in-Pod.ensures.old ∙ value_is c.args.self.now c.args.key.now Pod c.in-Pod.is

pub returns-in-Pod-clause-taken : goal.returns-in-Pod-clause-taken
returns-in-Pod-clause-taken g c = pod_changed c.args.self.now _ c.args.key.now None c.in-Pod.is c.remove-in-Pod.ensures.taken refl refl
