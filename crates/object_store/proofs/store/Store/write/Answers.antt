use Rattle.std.proofs.Common.{◌≡◌, ◌+◌, ◌∙◌, sym, ap, vec_len, Some, arith}
use Rattle.std.proofs.lemmas.Grind.{common_steps}
use Rattle.kube_objects.specs.Feeds.{is_among}
use Rattle.kube_objects.specs.Newest.{has}
use Rattle.object_store.proofs.Keeps.{not_written, written, writes_map}
use Rattle.object_store.proofs.KeptLaws.{among-after, kinds-after}
use Rattle.object_store.proofs.store.Store.write.Goals as goal
use Rattle.object_store.proofs.store.Store.write.Goals.{in-Ok, in-Err}

pub returns-clause-ok : goal.returns-clause-ok
returns-clause-ok c =
    let old = c.args.self.now in
    let key = c.args.key in
    let content = Some c.args.object in
    let is : c.len.result ≡ vec_len old.changes + 1 = c.len.ensures ∙ c.in_ok-push.ensures.len in
    elim c.match-insert.branch [
      | in-Ok w ↦ written old _ c.match-insert.self key content c.match-insert.result _ w.result-is w.self-is
          (writes_map old _ key content c.len.result is (sym c.len.ensures) c.in_ok-push.ensures.items w.in-Ok.ensures.put, is)
      | in-Err w ↦ not_written old c.match-insert.self key content c.match-insert.result _ w.result-is
    ]

pub invariant_of-self-in-Ok : goal.invariant_of-self-in-Ok
invariant_of-self-in-Ok c =
    let old = c.args.self.now in
    record {
      kinds = kinds-after old.objects c.insert.new.self c.args.key _ c.requires.kind c.in-Ok.ensures.put old.kinds;
      among = λ key is.
          ap (λ keys. is_among keys key) c.in_ok-push.ensures.items
          ∙ among-after old.objects c.insert.new.self c.args.key _ old.changes.items c.in-Ok.ensures.put old.among key is;
    }

-- the key that was added is taken out again
back : (c : goal.After-pop) → c.pop.new.self.items ≡ c.args.self.now.changes.items
back c = grind (arith, common_steps)

pub invariant_of-self-in-Err : goal.invariant_of-self-in-Err
invariant_of-self-in-Err c =
    let old = c.args.self.now in
    record {
      kinds = λ key version object is. old.kinds key version object (sym (c.in-Err.ensures.same key) ∙ is);
      among = λ key is. ap (λ keys. is_among keys key) (back c) ∙ old.among key (ap has (sym (c.in-Err.ensures.same key)) ∙ is);
    }
