use Rattle.std.proofs.Common.{◌∙◌, sym, ap, Some}
use Rattle.kube_objects.specs.declared.call.Reply.TheVariants as reply
use Rattle.kube_objects.specs.declared.call.Request.TheVariants.{PostStatus}
use Rattle.kube_objects.specs.declared.key.Key.{Key}
use Rattle.kube_objects.specs.declared.node.Node.{Node}
use Rattle.kube_objects.specs.declared.object.Object.TheVariants as object
use Rattle.kube_objects.specs.Answers.{answer_post, as_kind, node_in, node_object, posted_ready, with_ready}
use Rattle.kube_objects.specs.Stored.{Write, stored, next_version, node_key, request_write}
use Rattle.object_store.specs.Stands.{node_in_pair}
use Rattle.object_store.specs.StoreAnswers.{kept_of}
use Rattle.object_store.proofs.Keeps.{next-version, stands_after, store-beside}
use Rattle.object_store.proofs.Told.{post-node, post-told}
use Rattle.object_store.proofs.store.Store.post_status.Goals as goal

pub returns-in_default-ready_after-clause-ok : goal.returns-in_default-ready_after-clause-ok
returns-in_default-ready_after-clause-ok c h e s is =
    let node = c.in-Some.stored.now in
    let held = ap (λ k. node_in_pair (kept_of (stored k h))) (sym c.node-key.ensures) ∙ sym (c.in-Some.ensures ∙ ap node_in_pair (s.objects c.node-key.result)) in
    let ready = ap (λ n. posted_ready c.args.status n node.ready) (sym c.whole_second.ensures) ∙ sym c.in_default-ready_after.ensures in
    store-beside h e c.args.self.now s (is ∙ ap (λ w. request_write (PostStatus c.args.node c.args.status c.args.at) (node_object w)) (post-node c.args.status c.args.at.0 node (stored (node_key c.args.node) h) held ∙ ap (with_ready node) ready))

pub returns-in-Ok-write_or_fault-clause-answer : goal.returns-in-Ok-write_or_fault-clause-answer
returns-in-Ok-write_or_fault-clause-answer c h s =
    let node = c.in-Some.stored.now in
    let held = ap (λ k. node_in_pair (kept_of (stored k h))) (sym c.node-key.ensures) ∙ sym (c.in-Some.ensures ∙ ap node_in_pair (s.objects c.node-key.result)) in
    let ready = ap (λ n. posted_ready c.args.status n node.ready) (sym c.whole_second.ensures) ∙ sym c.in-Some-ready_after.ensures in
    ap (answer_post (next_version h) (as_kind node_in (stored (node_key c.args.node) h))) (post-node c.args.status c.args.at.0 node (stored (node_key c.args.node) h) held ∙ ap (with_ready node) ready)
    ∙ post-told (next_version h) node (record node { ready = Some c.in-Some-ready_after.ready }) (stored (node_key c.args.node) h) held
    ∙ ap (λ v. reply.Done v) (sym (next-version h c.args.self.now c.in-Ok-write_or_fault.version s c.in-Ok-write_or_fault.ensures.ok.1))

pub returns-in-Ok-write_or_fault-clause-ok : goal.returns-in-Ok-write_or_fault-clause-ok
returns-in-Ok-write_or_fault-clause-ok c h e s is =
    let node = c.in-Some.stored.now in
    let held = ap (λ k. node_in_pair (kept_of (stored k h))) (sym c.node-key.ensures) ∙ sym (c.in-Some.ensures ∙ ap node_in_pair (s.objects c.node-key.result)) in
    let ready = ap (λ n. posted_ready c.args.status n node.ready) (sym c.whole_second.ensures) ∙ sym c.in-Some-ready_after.ensures in
    let as_write : Key → Node → Write = λ k n. (k, Some (object.Node n)) in
    stands_after h e c.args.self.now c.write_or_fault.new.self c.node-key.result (Some (object.Node c.in-Ok.written)) s c.in-Ok-write_or_fault.ensures.ok.0
    (is ∙ ap (λ w. request_write (PostStatus c.args.node c.args.status c.args.at) (node_object w)) (post-node c.args.status c.args.at.0 node (stored (node_key c.args.node) h) held ∙ ap (with_ready node) ready)
    ∙ ap (λ k. Some (as_write k (record node { ready = Some c.in-Some-ready_after.ready }))) (sym c.node-key.ensures)
    ∙ ap (λ n. Some (as_write c.node-key.result n)) (sym c.in-Ok.ensures))
