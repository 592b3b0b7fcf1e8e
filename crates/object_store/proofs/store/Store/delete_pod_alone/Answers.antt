use Rattle.std.proofs.Common.{◌≡◌, ◌==◌, ◌∙◌, true, sym, ap, rules}
use Rattle.kube_objects.specs.Stored.{stored, next_version}
use Rattle.kube_objects.specs.declared.call.Reply.TheVariants as reply
use Rattle.object_store.specs.Stands.{version_in}
use Rattle.object_store.proofs.Keeps.{next-version}
use Rattle.object_store.proofs.Told.{delete-alone-told}
use Rattle.object_store.proofs.store.Store.delete_pod_alone.Goals as goal

pub returns-in-Ok-clause-answer : goal.returns-in-Ok-clause-answer
returns-in-Ok-clause-answer c h s =
    let same : (c.in-Some.held.0 == c.args.given.0) ≡ true = search rules in
    delete-alone-told (next_version h) c.args.given c.in-Some.held (stored c.args.pod h) (sym (c.in-Some.ensures ∙ ap version_in (s.objects c.args.pod))) same
    ∙ ap (λ v. reply.Done v) (sym (next-version h c.args.self.now c.in-Ok.version s c.in-Ok.ensures.ok.1))
