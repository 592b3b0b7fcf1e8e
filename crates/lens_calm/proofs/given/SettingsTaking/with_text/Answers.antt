use Rattle.std.proofs.Common.{sym, subst}
use Rattle.lens_calm.specs.Settings.{AreGiven}
use Rattle.lens_calm.proofs.InRange.{number-given}
use Rattle.lens_calm.proofs.given.SettingsTaking.with_text.Goals as goal

pub returns-clause-fit : goal.returns-clause-fit
returns-clause-fit c = subst AreGiven (sym c.with.ensures) (number-given c.args.flag c.in_ok-number.number c.args.self c.in_ok-number.ensures.fit c.requires)
