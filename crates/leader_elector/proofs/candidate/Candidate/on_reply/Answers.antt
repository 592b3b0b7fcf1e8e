use Rattle.std.proofs.Common.{sym, subst}
use Rattle.kube_objects.specs.Turns.{with_reply}
use Rattle.leader_elector.specs.Calls.{BeginsTerm}
use Rattle.leader_elector.specs.Stands.{LeadingStands}
use Rattle.leader_elector.proofs.candidate.Candidate.on_reply.Goals as goal

pub returns-in-Stays-clause-uncounted : goal.returns-in-Stays-clause-uncounted
returns-in-Stays-clause-uncounted c doc q h k s now up none call = (c.in-Stays.ensures.uncounted doc q h k s now up none call).1

pub returns-in-Asks-clause-uncounted : goal.returns-in-Asks-clause-uncounted
returns-in-Asks-clause-uncounted c doc q h k s now up none call = let no = (c.in-Asks.ensures.uncounted doc q h k s now up none call).0 in cc

pub returns-in-Wins-clause-uncounted : goal.returns-in-Wins-clause-uncounted
returns-in-Wins-clause-uncounted c doc q h k s now up none call = let no = (c.in-Wins.ensures.uncounted doc q h k s now up none call).0 in cc

pub returns-in-Wins-clause-counts : goal.returns-in-Wins-clause-counts
returns-in-Wins-clause-counts c doc q h k call s waits_are now wall room is =
    let t = c.in-Wins.ensures.counts doc q h k call s waits_are now wall room is in
    (t.0, t.1, subst (λ x. LeadingStands doc q x c.lead.result) (sym t.1) (c.lead.ensures.stands doc q (with_reply k q call c.args.reply h) k 3 t.0 t.2))

pub returns-in-Wins-clause-follows : goal.returns-in-Wins-clause-follows
returns-in-Wins-clause-follows c w counts waits = let t = c.in-Wins.ensures.takes w counts waits in (c.in-Wins.won.elector, t.0, subst (λ n. BeginsTerm c.in-Wins.won.elector n c.lead.result) t.1 c.lead.ensures.begins)
