use Rattle.std.proofs.Common.{◌≡◌, IfOk, sym, ap, subst}
use Rattle.run_edge.specs.Outcome.{reply_of}
use Rattle.script_reader.specs.Documents.{doc_of}
use Rattle.lens_margin.proofs.Numbers.{margin-law}
use Rattle.lens_room.specs.Replies.{found}
use Rattle.lens_room.proofs.margins.margins_in.Goals as goal

pub margins_of-requires-clause-lawful : goal.margins_of-requires-clause-lawful
margins_of-requires-clause-lawful c = c.documents_are_lawful.ensures.lawful c.args.input.now c.in-Ok.document c.in-Ok.ensures

pub margins_of-requires-clause-named : goal.margins_of-requires-clause-named
margins_of-requires-clause-named c = c.documents_are_lawful.ensures.named c.args.input.now c.in-Ok.document c.in-Ok.ensures

pub returns-in-Ok-clause-reply : goal.returns-in-Ok-clause-reply
returns-in-Ok-clause-reply c = subst (λ w. IfOk c.margins_of.result (λ a. reply_of a ≡ found w)) (sym c.in-Ok.ensures) c.margins_of.ensures

pub returns-in-Err-Refused-clause-reply : goal.returns-in-Err-Refused-clause-reply
returns-in-Err-Refused-clause-reply c =
    let told = rw c.in-Err-Refused.field-0-is at c.in-Err-Refused.ensures in
    subst (λ r. IfOk c.refuse_as.result (λ a. reply_of a ≡ r)) (sym (ap found told)) c.refuse_as.ensures

pub returns-in-Ok-clause-margins : goal.returns-in-Ok-clause-margins
returns-in-Ok-clause-margins c bytes d read p inside = margin-law (doc_of d) (c.documents_are_lawful.ensures.lawful bytes d read) p inside

pub returns-in-Err-Refused-clause-margins : goal.returns-in-Err-Refused-clause-margins
returns-in-Err-Refused-clause-margins c bytes d read p inside = margin-law (doc_of d) (c.documents_are_lawful.ensures.lawful bytes d read) p inside

pub returns-in-Err-NoMemory-clause-margins : goal.returns-in-Err-NoMemory-clause-margins
returns-in-Err-NoMemory-clause-margins c bytes d read p inside = margin-law (doc_of d) (c.documents_are_lawful.ensures.lawful bytes d read) p inside
