use Rattle.std.proofs.Common.{◌≡◌, ◌+◌, ◌<◌, ◌≤◌, ◌++◌, ℕ, List, [], ◌∷◌, length, take, drop, get_or, Option, Some, None, option_map, arith, refl, sym, ap, subst, ◌∙◌, IfOk, OnOk}
use Rattle.lens_explain.specs.declared.twice.Twice.{Twice}
use Rattle.lens_explain.specs.Keys.{KeyAt, doubled, key_at, key_of, keys_from, place_among, twice_at, twice_behind}
use Rattle.lens_explain.specs.Kept.{Keeps}
use Rattle.lens_explain.specs.Marks.{mark_of}
use Rattle.lens_explain.proofs.Doubling.{few-of, none-more, some-more, whole-of}
use Rattle.lens_explain.proofs.twice.twice_in.Goals as goal
use Rattle.lens_explain.proofs.twice.twice_in.Goals.{in-Some+in_ok-before+in_ok-add_twice, in_default}

pub loop-place-preserved : goal.loop-place-preserved
loop-place-preserved c =
    let input = c.args.input.now in
    let place = c.loop-place.place in
    let keys = c.loop-place.keys in
    let next = c.key_at.new.self in
    let inv = c.loop-place.invariant in
    let byte : ℕ = get_or input place 0 in
    let within : place < length input = omega arith in
    let here = key_at input (mark_of keys.scan.side byte) keys.scan.last keys.outer.items in
    elim c.match-branch-2.branch [
      | in-Some+in_ok-before+in_ok-add_twice w ↦
          let k : KeyAt = key_of w.in-Some.key in
          let some : Some k ≡ here = ap (option_map key_of) (sym w.in-Some.is) ∙ c.in_ok-key.ensures.key in
          let known = w.in_ok-before.ensures.before inv.0 inv.1 in
          let kept : Keeps w.keep.new.self.kept (k ∷ inv.0) = w.in_ok-before.ensures.kept inv.0 inv.1 in
          let so_far = some-more input place byte keys.scan next.scan keys.outer.items next.outer.items inv.0 within refl c.in_ok-key.ensures.scan c.in_ok-key.ensures.outer
          k _ c.loop-place.found.items w.add_twice.new.found.items (doubled input) some known w.in_ok-add_twice.ensures inv.3 in (
            k ∷ inv.0,
            subst (λ p. Keeps p.kept (k ∷ inv.0)) (sym w.places-is) kept,
            subst (λ f. length f.items ≤ 20) (sym w.found-is) (few-of _ _ w.in_ok-add_twice.ensures),
            subst (λ f. take 20 (f.items ++ twice_behind (k ∷ inv.0) (keys_from input (place + 1) (drop (place + 1) input) next.scan next.outer.items)) ≡ doubled input) (sym w.found-is) so_far,
          )
      | in_default w ↦
          let none : None ≡ here = ap (option_map key_of) (sym w.in_default.is) ∙ c.in_ok-key.ensures.key in
          let so_far = none-more input place byte keys.scan next.scan keys.outer.items next.outer.items inv.0 within refl c.in_ok-key.ensures.scan c.in_ok-key.ensures.outer
          c.loop-place.found.items (doubled input) none inv.3 in (
            inv.0,
            subst (λ p. Keeps p.kept inv.0) (sym w.places-is) inv.1,
            subst (λ f. length f.items ≤ 20) (sym w.found-is) inv.2,
            subst (λ f. take 20 (f.items ++ twice_behind inv.0 (keys_from input (place + 1) (drop (place + 1) input) next.scan next.outer.items)) ≡ doubled input) (sym w.found-is) so_far,
          )
    ]

pub returns : goal.returns
returns c = whole-of c.args.input.now c.loop-place.place c.loop-place.keys.scan c.loop-place.keys.outer.items c.loop-place.invariant.0 c.loop-place.found.items (doubled c.args.input.now) (omega arith) c.loop-place.invariant.2 c.loop-place.invariant.3
