use Rattle.std.proofs.Common.{◌≡◌, IfOk, sym, ap, subst}
use Rattle.run_edge.specs.Outcome.{reply_of}
use Rattle.lens_calm.specs.Documents.{found_json}
use Rattle.lens_calm.proofs.document_json.json_in.Goals as goal

pub json_of-requires-clause-lawful : goal.json_of-requires-clause-lawful
json_of-requires-clause-lawful c = c.documents_are_lawful.ensures.lawful c.args.input.now c.in-Ok.document c.in-Ok.ensures

pub json_of-requires-clause-named : goal.json_of-requires-clause-named
json_of-requires-clause-named c = c.documents_are_lawful.ensures.named c.args.input.now c.in-Ok.document c.in-Ok.ensures

pub returns-in-Ok : goal.returns-in-Ok
returns-in-Ok c = subst (λ w. IfOk c.json_of.result (λ a. reply_of a ≡ found_json w)) (sym c.in-Ok.ensures) c.json_of.ensures

pub returns-in-Err-Refused : goal.returns-in-Err-Refused
returns-in-Err-Refused c =
    let told = rw c.in-Err-Refused.field-0-is at c.in-Err-Refused.ensures in
    subst (λ r. IfOk c.refuse_as.result (λ a. reply_of a ≡ r)) (sym (ap found_json told)) c.refuse_as.ensures
