use Rattle.std.proofs.Common.{arith}
use Rattle.world_agenda.proofs.agenda.held_until.Goals as goal

pub returns-then-resumes-wakes : goal.returns-then-resumes-wakes
returns-then-resumes-wakes c doc k h stands end =
    omega (arith, c.if-resumes-wakes.true, c.resume-resumes.ensures doc k h stands end, c.awake-wakes.ensures doc k h stands end)

pub returns-else-resumes-wakes : goal.returns-else-resumes-wakes
returns-else-resumes-wakes c doc k h stands end =
    omega (arith, c.if-resumes-wakes.false, c.resume-resumes.ensures doc k h stands end, c.awake-wakes.ensures doc k h stands end)
