use Rattle.std.proofs.Common.{◌∷◌, ◌∙◌, ap, sym, subst, OnOk}
use Rattle.kube_objects.specs.declared.call.Request.TheVariants.{Create, Update, PostStatus}
use Rattle.kube_objects.specs.declared.object.Object.TheVariants as object
use Rattle.kube_objects.specs.Answers.{answer, written, as_kind, node_in}
use Rattle.kube_objects.specs.Stored.{stored, next_version, node_key, request_write}
use Rattle.object_store.specs.Stands.{StoreStands}
use Rattle.object_store.proofs.Told.{answered-stands, posted-stands}
use Rattle.object_store.proofs.store.Store.answer.Goals as goal

pub returns-in-Create-clause-ok : goal.returns-in-Create-clause-ok
returns-in-Create-clause-ok c h e s is =
    let request = Create c.in-Create.key c.in-Create.lease in
    let is_write = is ∙ ap (λ r. request_write r (written r h)) c.in-Create.is in
    subst (λ r. OnOk r (StoreStands (e ∷ h) c.create.new.self)) (sym c.write_reply.ensures)
    (answered-stands h e c.create.new.self request (object.Lease c.in-Create.lease) (answer request h) c.create.result (c.create.ensures.answer h s) is_write (c.create.ensures.ok h e s) (c.create.ensures.err h s))

pub returns-in-Update-clause-ok : goal.returns-in-Update-clause-ok
returns-in-Update-clause-ok c h e s is =
    let request = Update c.in-Update.key c.in-Update.version c.in-Update.lease in
    let is_write = is ∙ ap (λ r. request_write r (written r h)) c.in-Update.is in
    subst (λ r. OnOk r (StoreStands (e ∷ h) c.update.new.self)) (sym c.write_reply-in-Update.ensures)
    (answered-stands h e c.update.new.self request (object.Lease c.in-Update.lease) (answer request h) c.update.result (c.update.ensures.answer h s) is_write (c.update.ensures.ok h e s) (c.update.ensures.err h s))

pub returns-in-PostStatus-clause-ok : goal.returns-in-PostStatus-clause-ok
returns-in-PostStatus-clause-ok c h e s is =
    let post = c.in-PostStatus in
    let is_write = is ∙ ap (λ r. request_write r (written r h)) c.in-PostStatus.is in
    subst (λ r. OnOk r (StoreStands (e ∷ h) c.post_status.new.self)) (sym c.post_reply.ensures)
    (posted-stands h e c.post_status.new.self (PostStatus post.node post.status post.at) (next_version h) post.status post.at.0 (as_kind node_in (stored (node_key post.node) h)) c.post_status.result (c.post_status.ensures.answer h s) is_write (c.post_status.ensures.ok h e s is_write) (c.post_status.ensures.same h s))
