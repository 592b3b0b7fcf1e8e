use Rattle.std.proofs.Common.{◌≡◌, set, subst, rules}
use Rattle.taint_queue.specs.Tidy.{IsTidyBut}
use Rattle.taint_queue.proofs.Slots.{put_tidy}
use Rattle.taint_queue.proofs.tournament.Tournament.put.Goals as goal

pub refresh-requires-clause-tidy : goal.refresh-requires-clause-tidy
refresh-requires-clause-tidy c =
    let waiting = c.args.self.now.waiting.items in
    let least = c.args.self.now.least.items in
    let new = set waiting c.args.slot c.args.entry in
    let ws : new ≡ c.as_slice.result.now = search rules in
    let ls : least ≡ c.as_mut_slice.result.now = search rules in
    subst (λ xs. IsTidyBut c.as_slice.result.now xs c.args.slot) ls
    (subst (λ xs. IsTidyBut xs least c.args.slot) ws (put_tidy waiting least c.args.slot c.args.entry c.args.self.now.tidy))
