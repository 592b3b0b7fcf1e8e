use Rattle.std.proofs.Common.{◌≡◌, ◌+◌, ◌-◌, ◌*◌, ◌<◌, ◌≤◌, ℕ, not, Some, None, refl, sym, ap, ◌∙◌, subst, arith}
use Rattle.beat_tree.specs.Tidy.{beat_at}
use Rattle.beat_tree.proofs.Searching.{goes_on, least_is, least_there, none_at_all, none_of, read_slot, some_of}
use Rattle.beat_tree.proofs.tree.BeatTree.least.Goals as goal

pub index-requires : goal.index-requires
index-requires c = let t = c.args.self.now in omega (arith, t.some, t.long)

pub returns-then-is_none-clause-none : goal.returns-then-is_none-clause-none
returns-then-is_none-clause-none c =
    let t = c.args.self.now in
    let root = read_slot t 1 c.index.result.now (omega (arith, t.some)) c.index.ensures in
    none_at_all t (sym root ∙ none_of c.index.result.now (c.is_none.ensures ∙ ap not c.if-is_none.true))

pub loop-slot-init : goal.loop-slot-init
loop-slot-init c = let t = c.args.self.now in record { some = omega arith; within = omega (arith, t.some); same = refl }

pub loop-slot-preserved : goal.loop-slot-preserved
loop-slot-preserved c =
    (goes_on c.args.self.now c.loop-slot.slot c.index-in-loop-slot-2.result.now c.index-in-loop-slot.result.now c.comes_before.result c.loop-slot.invariant c.loop-slot-test.true c.index-in-loop-slot-2.ensures c.index-in-loop-slot.ensures c.comes_before.ensures).0
    c.if-comes_before.false

pub loop-slot-preserved-then-comes_before : goal.loop-slot-preserved-then-comes_before
loop-slot-preserved-then-comes_before c =
    (goes_on c.args.self.now c.loop-slot.slot c.index-in-loop-slot-2.result.now c.index-in-loop-slot.result.now c.comes_before.result c.loop-slot.invariant c.loop-slot-test.true c.index-in-loop-slot-2.ensures c.index-in-loop-slot.ensures c.comes_before.ensures).1
    c.if-comes_before.true

pub returns-clause-there : goal.returns-clause-there
returns-clause-there c =
    let t = c.args.self.now in
    let root = read_slot t 1 c.index.result.now (omega (arith, t.some)) c.index.ensures in
    least_there t c.loop-slot.slot c.loop-slot-test.false c.loop-slot.invariant (λ none. some_of c.index.result.now (c.is_none.ensures ∙ ap not c.if-is_none.false) (root ∙ none))

pub returns-clause-least : goal.returns-clause-least
returns-clause-least c = least_is c.args.self.now c.loop-slot.slot c.loop-slot-test.false c.loop-slot.invariant
