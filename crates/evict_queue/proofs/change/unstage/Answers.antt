use Rattle.std.proofs.Common.{◌≡◌, false, ◌∷◌, sym, ◌∙◌, subst, rules}
use Rattle.evict_queue.specs.Ahead.{IsWithin}
use Rattle.evict_queue.proofs.QueueLaws.{unstaged}
use Rattle.evict_queue.proofs.change.unstage.Goals as goal

pub loop-pair-preserved-then-not-is_due_at : goal.loop-pair-preserved-then-not-is_due_at
loop-pair-preserved-then-not-is_due_at c =
    let dues = c.args.dues.now in
    let timed = c.loop-pair.timed in
    let pair = c.in-Some.pair.now in
    let split : c.loop-pair.rest.now ≡ pair ∷ c.in-Some.others.now = search rules in
    let off : c.is_due_at.result ≡ false = search rules in
    unstaged dues timed c.remove.new.self pair.0 pair.1 c.in-At.time c.in-Some.others.now
    (subst (λ xs. IsWithin dues timed xs) split c.loop-pair.invariant)
    c.in-At.is
    (sym c.is_due_at.ensures ∙ off)
    c.remove.ensures
