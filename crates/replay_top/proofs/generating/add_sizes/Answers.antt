use Rattle.std.proofs.Common.{◌≡◌, ℕ, List, ◌++◌, codes, decimal}
use Rattle.replay_top.specs.Generated.{sizes_text}
use Rattle.trace_writer.proofs.Added.{added-both, where-ok}
use Rattle.replay_top.proofs.generating.add_sizes.Goals as goal

pub returns : goal.returns
unfolding sizes_text
returns c =
    let old = c.args.text.now.items in
    let one = c.add_count.new.text.items in
    let two = c.add_count-2.new.text.items in
    let three = c.add_count-3.new.text.items in
    let nodes : List ℕ = codes "generated controllers=3 nodes=" ++ decimal c.args.sizes.nodes in
    let pods : List ℕ = decimal c.args.sizes.pods in
    let beats : List ℕ = decimal c.args.sizes.beats in
    let front : two ≡ old ++ ((nodes ++ codes " pods=") ++ pods)
    = added-both old one two nodes (codes " pods=") pods c.in_ok-add_count.ensures c.in_ok-add_count-2.ensures in
    where-ok c.add_count-3.result (three ≡ two ++ (codes " beats=" ++ beats)) (three ≡ old ++ sizes_text c.args.sizes)
    (added-both old two three ((nodes ++ codes " pods=") ++ pods) (codes " beats=") beats front) c.add_count-3.ensures
