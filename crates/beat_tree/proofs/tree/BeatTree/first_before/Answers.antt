use Rattle.std.proofs.Common.{◌≡◌, ◌+◌, ◌-◌, ◌*◌, ◌/◌, ◌%◌, ◌<◌, ◌≤◌, ℕ, true, false, None, length, vec_len, refl, sym, ap, ◌∙◌, subst, arith}
use Rattle.std.proofs.lemmas.Bool.{cases_lt}
use Rattle.beat_tree.specs.Tidy.{beat_at, comes_before, earlier}
use Rattle.beat_tree.proofs.Searching.{across_next, found, long_is, passed_all, passed_past, passed_root, read_sooner, stepped_left, stepped_right}
use Rattle.beat_tree.proofs.Ways.{across_smaller, here_first}
use Rattle.beat_tree.proofs.tree.BeatTree.first_before.Goals.{then-from-self-via-then-from-self, then-from-self-via-else-from-self+then-not-comes_before}
use Rattle.beat_tree.proofs.tree.BeatTree.first_before.Goals as goal

pub returns-then-from-self : goal.returns-then-from-self
returns-then-from-self c =
    let t = c.args.self.now in
    elim c.then-from-self.branch [
      | then-from-self-via-then-from-self w ↦ passed_past t c.args.from c.args.before w.if-from-self.true
      | then-from-self-via-else-from-self+then-not-comes_before w ↦ passed_root t c.args.from c.args.before
          (read_sooner t 1 w.index.result.now c.args.before false (omega (arith, t.some)) w.index.ensures (sym w.comes_before.ensures ∙ w.if-not-comes_before.true))
    ]

pub across-init : goal.across-init
across-init c =
    let t = c.args.self.now in
    record {
      some = omega (arith, t.some);
      within = omega (arith, c.if-from-self.false);
      here = (0, here_first t.slots.items c.args.before (2 * t.width - 1) (t.width + c.args.from) (omega (arith, c.if-from-self.false)));
    }

pub next_across-slot-requires : goal.next_across-slot-requires
next_across-slot-requires c = omega (arith, c.across.invariant.within, c.args.self.now.narrow)

pub across-smaller : goal.across-smaller
across-smaller c = across_smaller c.across.slot c.next_across-slot.result c.next_across-slot.ensures c.if-slot-eq1.false c.across.invariant.some

pub across-preserved : goal.across-preserved
across-preserved c =
    let t = c.args.self.now in
    let inv = c.across.invariant in
    across_next t c.args.from c.args.before c.across.slot c.next_across-slot.result inv.some inv.within inv.here
    (read_sooner t c.across.slot c.index-in-across.result.now c.args.before false inv.within c.index-in-across.ensures (sym c.comes_before-in-across.ensures ∙ c.across-test.true))
    c.next_across-slot.ensures c.if-slot-eq1.false

pub returns-then-slot-eq1 : goal.returns-then-slot-eq1
returns-then-slot-eq1 c =
    let t = c.args.self.now in
    let inv = c.across.invariant in
    passed_all t c.args.from c.args.before c.across.slot c.next_across-slot.result inv.some inv.within inv.here
    (read_sooner t c.across.slot c.index-in-across.result.now c.args.before false inv.within c.index-in-across.ensures (sym c.comes_before-in-across.ensures ∙ c.across-test.true))
    c.next_across-slot.ensures c.if-slot-eq1.true

pub down-init : goal.down-init
down-init c =
    let t = c.args.self.now in
    let inv = c.across.invariant in
    record {
      some = inv.some;
      within = inv.within;
      sooner = read_sooner t c.across.slot c.index-in-across.result.now c.args.before true inv.within c.index-in-across.ensures (sym c.comes_before-in-across.ensures ∙ c.across-test.false);
      here = inv.here;
    }

pub down-preserved : goal.down-preserved
down-preserved c =
    let t = c.args.self.now in
    let inv = c.down.invariant in
    let within : c.down.slot * 2 < 2 * t.width = omega (arith, c.down-test.true) in
    stepped_left t c.args.from c.args.before c.down.slot inv.some c.down-test.true inv.here
    (read_sooner t (c.down.slot * 2) c.index-in-down.result.now c.args.before true within c.index-in-down.ensures (sym c.comes_before-in-down.ensures ∙ c.if-not-comes_before-2.false))

pub down-preserved-then-not-comes_before-2 : goal.down-preserved-then-not-comes_before-2
down-preserved-then-not-comes_before-2 c =
    let t = c.args.self.now in
    let inv = c.down.invariant in
    let within : c.down.slot * 2 < 2 * t.width = omega (arith, c.down-test.true) in
    stepped_right t c.args.from c.args.before c.down.slot inv.some c.down-test.true inv.sooner inv.here
    (read_sooner t (c.down.slot * 2) c.index-in-down.result.now c.args.before false within c.index-in-down.ensures (sym c.comes_before-in-down.ensures ∙ c.if-not-comes_before-2.true))

pub returns : goal.returns
returns c =
    let inv = c.down.invariant in
    found c.args.self.now c.args.from c.args.before c.down.slot c.down-test.false inv.within inv.sooner inv.here
