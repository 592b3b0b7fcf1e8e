use Rattle.std.proofs.Common.{◌∙◌, ◌∷◌, [], ◌++◌, length, Some, sym, ap, subst, arith, length-append}
use Rattle.std.specs.BTreeMap.{Updates}
use Rattle.std.specs.Ordering.{nat_cmp}
use Rattle.script_reader.specs.Walk.{numbers_of}
use Rattle.script_reader.proofs.Named.{numbers-push, places-push}
use Rattle.script_reader.proofs.cast.Named.push.Goals as goal

pub returns-clause-stands : goal.returns-clause-stands
returns-clause-stands c =
    let update = subst (λ xs. Updates nat_cmp c.args.self.now.places c.insert.new.self c.args.proc.name (Some (length xs))) c.as_slice.ensures c.in_ok-insert.ensures.updates in
    record {
      numbers = c.in_ok-push.ensures.ok ∙ ap (λ ns. ns ++ c.args.proc.name ∷ []) c.requires.stands.numbers ∙ sym (numbers-push c.args.self.now.procs c.args.proc) ∙ ap numbers_of (sym c.in_ok-push-2.ensures.ok);
      places = λ q. places-push c.args.self.now.places c.insert.new.self c.args.self.now.procs c.push-2.new.self c.args.proc q c.requires.stands.places c.requires.fresh c.in_ok-push-2.ensures.ok update;
      few = omega (arith, c.requires.few, ap length c.in_ok-push-2.ensures.ok, length-append c.args.self.now.procs (c.args.proc ∷ []));
    }
