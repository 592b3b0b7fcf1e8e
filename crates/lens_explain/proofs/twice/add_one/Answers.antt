use Rattle.std.proofs.Common.{◌≤◌, [], ◌∷◌, length, arith}
use Rattle.lens_explain.proofs.Doubling.{full_stays}
use Rattle.lens_explain.proofs.twice.add_one.Goals as goal

pub returns-else-len-lt-MOST : goal.returns-else-len-lt-MOST
returns-else-len-lt-MOST c =
    let many : 20 ≤ length c.args.found.now.items = omega arith in
    full_stays 20 c.args.found.now.items (c.args.twice ∷ []) c.requires many
