use Rattle.std.proofs.Common.{◌≡◌, ◌==◌, ◌∙◌, true, sym, ap, subst, Some, rules}
use Rattle.kube_objects.specs.Stored.{stored, next_version}
use Rattle.object_store.specs.Stands.{version_in}
use Rattle.object_store.specs.StoreAnswers.{IsReply}
use Rattle.object_store.proofs.Keeps.{written-told, written-stands}
use Rattle.object_store.proofs.Told.{update-told}
use Rattle.object_store.proofs.store.Store.update.Goals as goal

pub returns-else-ne-clause-answer : goal.returns-else-ne-clause-answer
returns-else-ne-clause-answer c h s =
    let same : (c.in-Some.held.0 == c.args.version.0) ≡ true = search rules in
    subst (IsReply c.write_or_fault.result) (sym (update-told (next_version h) c.args.version c.in-Some.held (stored c.args.key h) (sym (c.in-Some.ensures ∙ ap version_in (s.objects c.args.key))) same))
    (written-told h c.args.self.now c.write_or_fault.new.self c.args.key (Some c.args.object) c.write_or_fault.result s c.write_or_fault.ensures.ok c.write_or_fault.ensures.err)

pub returns-else-ne-clause-ok : goal.returns-else-ne-clause-ok
returns-else-ne-clause-ok c h e s is = written-stands h e c.args.self.now c.write_or_fault.new.self c.args.key (Some c.args.object) c.write_or_fault.result s c.write_or_fault.ensures.ok is
