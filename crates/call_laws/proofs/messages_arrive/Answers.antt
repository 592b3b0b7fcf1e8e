use Rattle.call_laws.proofs.Answering.{requests_are_answered, replies_are_delivered}
use Rattle.call_laws.proofs.messages_arrive.Goals as goal

pub returns-clause-answered : goal.returns-clause-answered
returns-clause-answered c = requests_are_answered

pub returns-clause-delivered : goal.returns-clause-delivered
returns-clause-delivered c = replies_are_delivered
