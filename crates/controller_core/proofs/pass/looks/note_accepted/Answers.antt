use Rattle.std.proofs.Common.{◌∙◌, sym}
use Rattle.node_health.proofs.Frames.{pass-mark-refused}
use Rattle.controller_core.proofs.pass.looks.note_accepted.Goals as goal

pub returns-then-is_accepted : goal.returns-then-is_accepted
returns-then-is_accepted c doc k q h g looked given written s there noted =
    c.note_mark.ensures.stands doc k q h g looked given written c.args.answer s there (sym c.is_accepted.ensures ∙ c.if-is_accepted.true) noted

pub returns-else-is_accepted : goal.returns-else-is_accepted
returns-else-is_accepted c doc k q h g looked given written s there noted =
    pass-mark-refused doc k q h g looked c.args.name given written c.args.answer c.args.health.now (sym c.is_accepted.ensures ∙ c.if-is_accepted.false) s
