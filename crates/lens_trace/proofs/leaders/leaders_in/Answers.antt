use Rattle.lens_trace.proofs.AgreeLaws.{terms-agree}
use Rattle.lens_trace.proofs.SpanLaws.{nobody-acts}
use Rattle.lens_trace.proofs.ActingLaws.{stretches-are-acts}
use Rattle.lens_trace.proofs.leaders.leaders_in.Goals as goal

pub returns-clause-terms : goal.returns-clause-terms
returns-clause-terms c end texts right = terms-agree end texts right

pub returns-clause-spans : goal.returns-clause-spans
returns-clause-spans c end ls beat within = nobody-acts end ls beat within

pub returns-clause-acts : goal.returns-clause-acts
returns-clause-acts c end texts right beat within who = stretches-are-acts end texts right beat within who
