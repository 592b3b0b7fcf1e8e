use Rattle.std.proofs.Common.{◌≡◌, ◌-◌, ◌/◌, ◌<◌, [], ◌∷◌, ◌++◌, length, subst, rules, arith}
use Rattle.taint_queue.specs.Tidy.{IsTidyBut}
use Rattle.taint_queue.proofs.Slots.{pushed_tidy}
use Rattle.taint_queue.proofs.tournament.Tournament.push.Goals as goal

pub refresh-requires-clause-tidy : goal.refresh-requires-clause-tidy
refresh-requires-clause-tidy c =
    let waiting = c.args.self.now.waiting.items in
    let least = c.args.self.now.least.items in
    let n = c.len-slot.result in
    let wn : n ≡ length waiting = search rules in
    let ln : n ≡ length least = search rules in
    let up : 0 < n = omega arith in
    let ws : waiting ++ c.args.entry ∷ [] ≡ c.as_slice.result.now = search rules in
    let ls : least ++ c.args.entry ∷ [] ≡ c.as_mut_slice.result.now = search rules in
    subst (λ xs. IsTidyBut c.as_slice.result.now xs ((n - 1) / 2)) ls
    (subst (λ xs. IsTidyBut xs (least ++ c.args.entry ∷ []) ((n - 1) / 2)) ws (pushed_tidy waiting least c.args.entry n c.args.self.now.tidy wn ln up))
