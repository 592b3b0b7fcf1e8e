use Rattle.script_reader.specs.Documents.{doc_of}
use Rattle.replay_top.proofs.running.documents_are_safe.Goals as goal

pub returns : goal.returns
returns c =
    let lawful = c.documents_are_lawful.ensures.lawful in
    let are = c.lawful_documents_are_safe.ensures in
    record {
      holder = λ bytes d read premise. (are.safe (doc_of d) (lawful bytes d read) premise).holder;
      exclusive = λ bytes d read premise. (are.safe (doc_of d) (lawful bytes d read) premise).exclusive;
      spacing = λ bytes d read premise. (are.safe (doc_of d) (lawful bytes d read) premise).spacing;
      until_emptied = λ bytes d read. are.until_emptied (doc_of d) (lawful bytes d read);
      spacing_in_rows = λ bytes d read. are.spacing_in_rows (doc_of d) (lawful bytes d read);
      not_early = λ d. are.not_early (doc_of d);
      prompt = λ bytes d read. are.prompt (doc_of d);
      limit = λ d. are.limit (doc_of d);
      timely = λ bytes d read. are.timely (doc_of d) (lawful bytes d read);
    }
