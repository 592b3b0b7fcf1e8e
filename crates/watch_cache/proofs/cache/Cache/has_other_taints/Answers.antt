use Rattle.std.proofs.Common.{◌≡◌, ◌∙◌, Bool, false, true, not, refl, ap, sym}
use Rattle.watch_cache.specs.TaintChanges.{taints_eq, taints_in}
use Rattle.watch_cache.proofs.Same.{own_taints, same_taints, taints_tests}
use Rattle.watch_cache.proofs.cache.Cache.has_other_taints.Goals as goal

not_false : (b : Bool) → not b ≡ false → b ≡ true
not_false true is = refl
not_false false is = absurd (cc)

not_both : (b : Bool) → b ≡ true → not b ≡ true → ⊥
not_both true is out = absurd (cc)
not_both false is out = absurd (cc)

pub returns-clause-same : goal.returns-clause-same
returns-clause-same c out =
    let given = c.args.taints.now in
    let found = c.taints_of.result.now in
    sym (c.taints_of.ensures ∙ ap taints_in c.get.ensures) ∙ same_taints found given (not_false _ (ap not (sym (taints_tests found given)) ∙ sym c.ne.ensures ∙ out))

pub returns-clause-other : goal.returns-clause-other
returns-clause-other c out same =
    let given = c.args.taints.now in
    let found = c.taints_of.result.now in
    not_both (taints_eq found given) (ap (λ xs. taints_eq xs given) (c.taints_of.ensures ∙ ap taints_in c.get.ensures ∙ same) ∙ own_taints given)
    (ap not (sym (taints_tests found given)) ∙ sym c.ne.ensures ∙ out)
