use Rattle.std.proofs.Common.{◌≡◌, IfOk, sym, ap, subst}
use Rattle.run_edge.specs.Outcome.{reply_of}
use Rattle.lens_calm.specs.Documents.{found}
use Rattle.lens_calm.proofs.document.bounds_in.Goals as goal

pub bounds_of-requires-clause-lawful : goal.bounds_of-requires-clause-lawful
bounds_of-requires-clause-lawful c = c.documents_are_lawful.ensures.lawful c.args.input.now c.in-Ok.document c.in-Ok.ensures

pub bounds_of-requires-clause-named : goal.bounds_of-requires-clause-named
bounds_of-requires-clause-named c = c.documents_are_lawful.ensures.named c.args.input.now c.in-Ok.document c.in-Ok.ensures

pub returns-in-Ok : goal.returns-in-Ok
returns-in-Ok c = subst (λ w. IfOk c.bounds_of.result (λ a. reply_of a ≡ found w)) (sym c.in-Ok.ensures) c.bounds_of.ensures

pub returns-in-Err-Refused : goal.returns-in-Err-Refused
returns-in-Err-Refused c =
    let told = rw c.in-Err-Refused.field-0-is at c.in-Err-Refused.ensures in
    subst (λ r. IfOk c.refuse_as.result (λ a. reply_of a ≡ r)) (sym (ap found told)) c.refuse_as.ensures
