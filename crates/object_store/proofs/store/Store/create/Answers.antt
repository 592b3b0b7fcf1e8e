use Rattle.std.proofs.Common.{◌∙◌, sym, ap, subst, Some}
use Rattle.kube_objects.specs.Stored.{stored, next_version}
use Rattle.object_store.specs.Stands.{version_in}
use Rattle.object_store.specs.StoreAnswers.{IsReply}
use Rattle.object_store.proofs.Keeps.{written-told, written-stands}
use Rattle.object_store.proofs.Told.{create-told}
use Rattle.object_store.proofs.store.Store.create.Goals as goal

pub returns-in-None-clause-answer : goal.returns-in-None-clause-answer
returns-in-None-clause-answer c h s =
    subst (IsReply c.write_or_fault.result) (sym (create-told (next_version h) (stored c.args.key h) (sym (c.in-None.ensures ∙ ap version_in (s.objects c.args.key)))))
    (written-told h c.args.self.now c.write_or_fault.new.self c.args.key (Some c.args.object) c.write_or_fault.result s c.write_or_fault.ensures.ok c.write_or_fault.ensures.err)

pub returns-in-None-clause-ok : goal.returns-in-None-clause-ok
returns-in-None-clause-ok c h e s is = written-stands h e c.args.self.now c.write_or_fault.new.self c.args.key (Some c.args.object) c.write_or_fault.result s c.write_or_fault.ensures.ok is
