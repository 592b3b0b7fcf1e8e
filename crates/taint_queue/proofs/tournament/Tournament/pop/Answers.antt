use Rattle.std.proofs.Common.{◌≡◌, ℕ, ◌+◌, ◌-◌, ◌/◌, ◌<◌, ◌≤◌, ◌++◌, Option, Some, None, MatchOption, length, vec_len, ap, sym, subst, rules, arith}
use Rattle.std.specs.Option.{option_to_list}
use Rattle.taint_queue.specs.Tidy.{IsTidy, IsTidyBut}
use Rattle.taint_queue.specs.declared.waiting.Waiting.{Waiting}
use Rattle.taint_queue.proofs.Slots.{popped_tidy}
use Rattle.taint_queue.proofs.tournament.Tournament.pop.Goals as goal

-- a list that is not empty is one longer before its end is taken out
one_less : (r : Option Waiting) (old new : ℕ) → MatchOption r ((old ≡ 0) × (new ≡ 0)) (λ _. new + 1 ≡ old) → 0 < old → new + 1 ≡ old
one_less None old new h some = absurd (omega (arith, h.0, some))
one_less (Some x) old new h some = h

none_left : (r : Option Waiting) (x : Waiting) (old new : ℕ) → r ≡ Some x → MatchOption r ((old ≡ 0) × (new ≡ 0)) (λ _. new + 1 ≡ old) → new + 1 ≡ old
none_left r x old new e h = subst (λ o. MatchOption o ((old ≡ 0) × (new ≡ 0)) (λ _. new + 1 ≡ old)) e h

pub refresh-requires-clause-tidy : goal.refresh-requires-clause-tidy
refresh-requires-clause-tidy c =
    let waiting = c.args.self.now.waiting.items in
    let least = c.args.self.now.least.items in
    let ws = c.pop.new.self.items in
    let ls = c.pop-2.new.self.items in
    let wr = option_to_list c.pop.result in
    let lr = option_to_list c.pop-2.result in
    let n = c.len-slot.result in
    let w : waiting ≡ ws ++ wr = search rules in
    let l : least ≡ ls ++ lr = search rules in
    let wn : n ≡ length ws = search rules in
    let w_long : length waiting ≡ vec_len c.args.self.now.waiting = search rules in
    let l_long : length least ≡ vec_len c.args.self.now.least = search rules in
    let ws_long : length ws ≡ vec_len c.pop.new.self = search rules in
    let ls_long : length ls ≡ vec_len c.pop-2.new.self = search rules in
    let as_long : vec_len c.args.self.now.least ≡ vec_len c.args.self.now.waiting = c.args.self.now.as_long in
    let taken : c.pop.result ≡ Some c.in_ok-entry.entry = search rules in
    let w_less : vec_len c.pop.new.self + 1 ≡ vec_len c.args.self.now.waiting = none_left c.pop.result c.in_ok-entry.entry (vec_len c.args.self.now.waiting) (vec_len c.pop.new.self) taken c.pop.ensures.cases in
    let l_less : vec_len c.pop-2.new.self + 1 ≡ vec_len c.args.self.now.least = one_less c.pop-2.result (vec_len c.args.self.now.least) (vec_len c.pop-2.new.self) c.pop-2.ensures.cases (omega (arith, as_long, w_less)) in
    let ln : n ≡ length ls = omega (arith, wn, ws_long, ls_long, as_long, w_less, l_less) in
    let wl : length (ws ++ wr) ≤ length ws + 1 = omega (arith, ap length w, w_long, ws_long, w_less) in
    let ll : length (ls ++ lr) ≤ length ls + 1 = omega (arith, ap length l, l_long, ls_long, l_less) in
    let up : 0 < n = c.if-slot-gt0.true in
    let tidy = subst (λ xs. IsTidy (ws ++ wr) xs) l (subst (λ xs. IsTidy xs least) w c.args.self.now.tidy) in
    let wv : ws ≡ c.as_slice.result.now = sym c.as_slice.ensures.value in
    let lv : ls ≡ c.as_mut_slice.result.now = sym c.as_mut_slice.ensures.value in
    subst (λ xs. IsTidyBut c.as_slice.result.now xs ((n - 1) / 2)) lv
    (subst (λ xs. IsTidyBut xs ls ((n - 1) / 2)) wv (popped_tidy ws ls wr lr n tidy wn ln wl ll up))
