use Rattle.std.proofs.Common.{◌≡◌, ◌+◌, ◌∙◌, sym, ap, vec_len, None}
use Rattle.kube_objects.specs.Feeds.{is_among}
use Rattle.object_store.proofs.Keeps.{writes_map}
use Rattle.object_store.proofs.KeptLaws.{among-after, kinds-after}
use Rattle.object_store.proofs.store.Store.take_out.Goals as goal

pub returns-clause-ok : goal.returns-clause-ok
returns-clause-ok c =
    let is : c.len.result ≡ vec_len c.args.self.now.changes + 1 = c.len.ensures ∙ c.in_ok-push.ensures.len in (
      writes_map c.args.self.now _ c.args.key None c.len.result is (sym c.len.ensures) c.in_ok-push.ensures.items c.remove.ensures.taken,
      is,
    )

pub invariant_of-self-2 : goal.invariant_of-self-2
invariant_of-self-2 c =
    let old = c.args.self.now in
    record {
      kinds = kinds-after old.objects c.remove.new.self c.args.key None tt c.remove.ensures.taken old.kinds;
      among = λ key is.
          ap (λ keys. is_among keys key) c.in_ok-push.ensures.items
          ∙ among-after old.objects c.remove.new.self c.args.key None old.changes.items c.remove.ensures.taken old.among key is;
    }
