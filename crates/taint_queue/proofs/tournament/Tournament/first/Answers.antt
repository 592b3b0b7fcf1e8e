use Rattle.std.proofs.Common.{◌≡◌, rules}
use Rattle.std.specs.List.{slice_get}
use Rattle.taint_queue.proofs.Slots.{first_there, first_least}
use Rattle.taint_queue.proofs.tournament.Tournament.first.Goals as goal

pub returns-clause-there : goal.returns-clause-there
returns-clause-there c =
    let is : c.copied.result ≡ slice_get c.args.self.now.least.items 0 = search rules in
    first_there c.args.self.now.waiting.items c.args.self.now.least.items c.args.self.now.tidy c.copied.result is

pub returns-clause-first : goal.returns-clause-first
returns-clause-first c =
    let is : c.copied.result ≡ slice_get c.args.self.now.least.items 0 = search rules in
    first_least c.args.self.now.waiting.items c.args.self.now.least.items c.args.self.now.tidy c.copied.result is
