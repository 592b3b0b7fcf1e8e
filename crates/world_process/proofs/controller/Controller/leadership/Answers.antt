use Rattle.world_process.proofs.controller.Controller.leadership.Goals as goal

pub returns-clause-leads : goal.returns-clause-leads
returns-clause-leads c doc k p h s at = c.acting.ensures.leads doc k p c.args.self.now.incarnation h s.role s.clock at

pub returns-clause-identity : goal.returns-clause-identity
returns-clause-identity c doc p h s = c.acting.ensures.identity doc p c.args.self.now.incarnation h s.role

pub returns-clause-up : goal.returns-clause-up
returns-clause-up c doc p h s = c.acting.ensures.up doc p c.args.self.now.incarnation h s.role
