use Rattle.std.proofs.Common.{◌<◌, ◌+◌, List, [], ◌∷◌, ◌++◌, length, take, arith, sym, subst}
use Rattle.std.proofs.lemmas.List.{take_more}
use Rattle.std.specs.List.{AllZip}
use Rattle.lens_explain.specs.declared.twice.Warning.{Warning}
use Rattle.lens_explain.specs.Warnings.{IsWarning}
use Rattle.lens_explain.proofs.Doubling.{zip-push}
use Rattle.lens_explain.proofs.twice.warnings_of.Goals as goal

pub loop-twice-preserved : goal.loop-twice-preserved
loop-twice-preserved c =
    let input = c.args.input.now in
    let found = c.args.found.now in
    let place = c.loop-twice.twice-index in
    let within : place < length found = omega arith in
    let one : Warning = record { first = c.shown_at.result; again = c.shown_at-in-loop-twice.result } in
    subst (λ ws. AllZip (IsWarning input) (take (place + 1) found) ws) (sym c.in_ok-push.ensures.items)
    (subst (λ ts. AllZip (IsWarning input) ts (c.loop-twice.warnings.items ++ one ∷ [])) (sym (take_more found place _ within))
    (zip-push (IsWarning input) (take place found) c.loop-twice.warnings.items _ one c.loop-twice.invariant (c.shown_at.ensures, c.shown_at-in-loop-twice.ensures)))
