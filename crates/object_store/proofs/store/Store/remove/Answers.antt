use Rattle.std.proofs.Common.{◌∙◌, sym, ap, Some}
use Rattle.kube_base.specs.declared.numbers.Version.{Version}
use Rattle.kube_objects.specs.Newest.{when}
use Rattle.kube_objects.specs.Stored.{stored, next_version}
use Rattle.object_store.specs.Stands.{version_in}
use Rattle.object_store.proofs.Keeps.{next-version}
use Rattle.object_store.proofs.Told.{has-shown}
use Rattle.object_store.proofs.store.Store.remove.Goals as goal

pub returns-in_ok-take_out-in-Some-clause-answer : goal.returns-in_ok-take_out-in-Some-clause-answer
returns-in_ok-take_out-in-Some-clause-answer c h s =
    ap (λ (v : Version). Some v) (next-version h c.args.self.now c.in_ok-take_out-in-Some.field-0 s c.in_ok-take_out-in-Some.ensures.ok.1)
    ∙ ap (λ b. when b (next_version h)) (sym (has-shown c.in-Some.field-0 (stored c.args.key h) (sym (c.in-Some.ensures ∙ ap version_in (s.objects c.args.key)))))
