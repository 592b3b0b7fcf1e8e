use Rattle.std.proofs.Common.{sym, subst}
use Rattle.kube_base.specs.Names.{AreNames}
use Rattle.kube_base.proofs.NameLemmas.{ten_names-fixed, AreNames-fixed}
use Rattle.kube_base.proofs.names.Names.keyed.Goals as goal

pub returns : goal.returns
returns c = rw (c.in_ok-add-10.ensures.held, c.in_ok-add-9.ensures.held, c.in_ok-add-8.ensures.held, c.in_ok-add-7.ensures.held, c.in_ok-add-6.ensures.held, c.in_ok-add-5.ensures.held, c.in_ok-add-4.ensures.held, c.in_ok-add-3.ensures.held, c.in_ok-add-2.ensures.held, c.in_ok-add.ensures.held, c.with_hasher-texts.ensures.empty) ten_names-fixed

pub invariant_of-result : goal.invariant_of-result
invariant_of-result c = subst AreNames (sym (returns c)) AreNames-fixed
