use Rattle.std.proofs.Common.{◌∙◌, sym, ap, Some}
use Rattle.kube_objects.specs.declared.object.Object.{Object}
use Rattle.kube_objects.specs.Stamps.{stamped}
use Rattle.kube_objects.specs.Stored.{Write}
use Rattle.object_store.proofs.Keeps.{written-version, written-stands}
use Rattle.object_store.proofs.store.Store.put.Goals as goal

pub returns-clause-answer : goal.returns-clause-answer
returns-clause-answer c h s = written-version h c.args.self.now c.write.new.self c.args.key (Some c.in_ok-stamped.stamped) c.write.result s c.write.ensures.ok

pub returns-clause-ok : goal.returns-clause-ok
returns-clause-ok c h e s is =
    let as_write : Object → Write = λ x. (c.args.key, Some x) in
    let is_stamped = c.in_ok-stamped.ensures ∙ ap (λ n. stamped n c.args.object) c.whole_second.ensures in
    written-stands h e c.args.self.now c.write.new.self c.args.key (Some c.in_ok-stamped.stamped) c.write.result s c.write.ensures.ok (is ∙ ap (λ x. Some (as_write x)) (sym is_stamped))
