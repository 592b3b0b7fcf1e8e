use Rattle.replay_top.specs.Generated.{document_of}
use Rattle.replay_top.proofs.generating.generated_documents_are_safe.Goals as goal

pub returns-clause-safe : goal.returns-clause-safe
returns-clause-safe c s within =
    let are = c.generated_documents_are_lawful.ensures in
    c.lawful_documents_are_safe.ensures.safe (document_of s) (are.lawful s.seed s.nodes s.pods s.beats within.nodes within.pods within.beats)
    (are.premise s.seed s.nodes s.pods s.beats)

pub returns-clause-timely : goal.returns-clause-timely
returns-clause-timely c s within =
    c.lawful_documents_are_safe.ensures.timely (document_of s)
    (c.generated_documents_are_lawful.ensures.lawful s.seed s.nodes s.pods s.beats within.nodes within.pods within.beats)
