use Rattle.std.proofs.Common.{◌≡◌, ◌==◌, ◌∙◌, true, sym, ap, rules}
use Rattle.kube_objects.specs.Stored.{stored, next_version}
use Rattle.kube_objects.specs.declared.call.Reply.TheVariants as reply
use Rattle.object_store.specs.Stands.{version_in}
use Rattle.object_store.proofs.Keeps.{next-version}
use Rattle.object_store.proofs.Told.{delete-told}
use Rattle.object_store.proofs.store.Store.delete_pod.Goals as goal

pub returns-in-Ok-clause-answer : goal.returns-in-Ok-clause-answer
returns-in-Ok-clause-answer c h s =
    let same : (c.in-Some.pod_held.0 == c.args.pod_version.0) ≡ true = search rules in
    let node_same : (c.in-Some-version_at.node_held.0 == c.args.node_version.0) ≡ true = search rules in
    delete-told (next_version h) c.args.pod_version c.args.node_version c.in-Some.pod_held c.in-Some-version_at.node_held (stored c.args.pod h) (stored c.args.node h) (sym (c.in-Some.ensures ∙ ap version_in (s.objects c.args.pod))) (sym (c.in-Some-version_at.ensures ∙ ap version_in (s.objects c.args.node))) same node_same
    ∙ ap (λ v. reply.Done v) (sym (next-version h c.args.self.now c.in-Ok.version s c.in-Ok.ensures.ok.1))
