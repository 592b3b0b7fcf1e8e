use Rattle.std.proofs.Common.{◌∙◌, ap}
use Rattle.kube_base.specs.Names.{with_name}
use Rattle.world_gen.proofs.Fresh.{named-last}
use Rattle.world_gen.proofs.names.add_new.Goals as goal

pub returns : goal.returns
returns c =
    c.in_ok-number.ensures.held ∙ ap (with_name c.args.names.now) c.as_bytes.ensures.value
    ∙ named-last c.args.names.now c.args.text.now c.requires.fresh
