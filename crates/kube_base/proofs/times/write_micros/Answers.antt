use Rattle.kube_base.proofs.TimeTexts.{IsUtf8-micros_text}
use Rattle.kube_base.proofs.times.write_micros.Goals as goal

pub returns-in_err-text-clause-utf8 : goal.returns-in_err-text-clause-utf8
returns-in_err-text-clause-utf8 c = IsUtf8-micros_text c.args.at

pub returns-in_err-extend_from_slice-clause-utf8 : goal.returns-in_err-extend_from_slice-clause-utf8
returns-in_err-extend_from_slice-clause-utf8 c = IsUtf8-micros_text c.args.at

pub returns-clause-utf8 : goal.returns-clause-utf8
returns-clause-utf8 c = IsUtf8-micros_text c.args.at
