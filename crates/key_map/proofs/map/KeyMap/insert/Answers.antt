use Rattle.std.proofs.Common.{◌∙◌, Some, refl, sym}
use Rattle.std.proofs.lemmas.Result.{IfOk-weaker, on_err_weaker, on_ok_weaker}
use Rattle.kube_objects.specs.declared.key.Kind.TheVariants.{Node, Lease, Pod}
use Rattle.key_map.proofs.Keyed.{lease_changed, node_changed, pod_changed, same_of, value_is}
use Rattle.key_map.proofs.map.KeyMap.insert.Goals as goal

pub returns-in-Node-clause-old : goal.returns-in-Node-clause-old
returns-in-Node-clause-old g c = IfOk-weaker c.insert.result _ _ (λ o h. h ∙ value_is c.args.self.now c.args.key Node c.in-Node.is) c.insert.ensures.old

pub returns-in-Node-clause-put : goal.returns-in-Node-clause-put
returns-in-Node-clause-put g c = on_ok_weaker c.insert.result (λ put. node_changed c.args.self.now _ c.args.key (Some c.args.value) c.in-Node.is put refl refl) c.insert.ensures.put

pub returns-in-Node-clause-absent : goal.returns-in-Node-clause-absent
returns-in-Node-clause-absent g c = on_err_weaker c.insert.result (λ none. sym (value_is c.args.self.now c.args.key Node c.in-Node.is) ∙ none) c.insert.ensures.absent

pub returns-in-Node-clause-same : goal.returns-in-Node-clause-same
returns-in-Node-clause-same g c = on_err_weaker c.insert.result (λ put. same_of c.args.self.now _ put (λ s n. refl) (λ s n. refl)) c.insert.ensures.same

pub returns-in-Lease-clause-old : goal.returns-in-Lease-clause-old
returns-in-Lease-clause-old g c = IfOk-weaker c.insert-in-Lease.result _ _ (λ o h. h ∙ value_is c.args.self.now c.args.key Lease c.in-Lease.is) c.insert-in-Lease.ensures.old

pub returns-in-Lease-clause-put : goal.returns-in-Lease-clause-put
returns-in-Lease-clause-put g c = on_ok_weaker c.insert-in-Lease.result (λ put. lease_changed c.args.self.now _ c.args.key (Some c.args.value) c.in-Lease.is put refl refl) c.insert-in-Lease.ensures.put

pub returns-in-Lease-clause-absent : goal.returns-in-Lease-clause-absent
returns-in-Lease-clause-absent g c = on_err_weaker c.insert-in-Lease.result (λ none. sym (value_is c.args.self.now c.args.key Lease c.in-Lease.is) ∙ none) c.insert-in-Lease.ensures.absent

pub returns-in-Lease-clause-same : goal.returns-in-Lease-clause-same
returns-in-Lease-clause-same g c = on_err_weaker c.insert-in-Lease.result (λ put. same_of c.args.self.now _ (λ s n. refl) put (λ s n. refl)) c.insert-in-Lease.ensures.same

pub returns-in-Pod-clause-old : goal.returns-in-Pod-clause-old
returns-in-Pod-clause-old g c = IfOk-weaker c.insert-in-Pod.result _ _ (λ o h. h ∙ value_is c.args.self.now c.args.key Pod c.in-Pod.is) c.insert-in-Pod.ensures.old

pub returns-in-Pod-clause-put : goal.returns-in-Pod-clause-put
returns-in-Pod-clause-put g c = on_ok_weaker c.insert-in-Pod.result (λ put. pod_changed c.args.self.now _ c.args.key (Some c.args.value) c.in-Pod.is put refl refl) c.insert-in-Pod.ensures.put

pub returns-in-Pod-clause-absent : goal.returns-in-Pod-clause-absent
returns-in-Pod-clause-absent g c = on_err_weaker c.insert-in-Pod.result (λ none. sym (value_is c.args.self.now c.args.key Pod c.in-Pod.is) ∙ none) c.insert-in-Pod.ensures.absent

pub returns-in-Pod-clause-same : goal.returns-in-Pod-clause-same
returns-in-Pod-clause-same g c = on_err_weaker c.insert-in-Pod.result (λ put. same_of c.args.self.now _ (λ s n. refl) (λ s n. refl) put) c.insert-in-Pod.ensures.same
