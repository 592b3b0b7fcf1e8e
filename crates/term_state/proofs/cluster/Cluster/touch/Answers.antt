use Rattle.std.proofs.Common.{◌≡◌, ◌∙◌, ◌||◌, Bool, true, false, cond, refl, subst}
use Rattle.std.specs.BTreeSet.{Updates, contains}
use Rattle.kube_objects.specs.declared.key.Key.{Key}
use Rattle.kube_objects.specs.Keys.{key_cmp, key_eq}
use Rattle.kube_objects.proofs.KeyOrder.{key_order}
use Rattle.term_state.proofs.cluster.Cluster.touch.Goals as goal

or_cond : (a b : Bool) → cond a true b ≡ (a || b)
or_cond true b = refl
or_cond false b = refl

pub returns-clause-touched : goal.returns-clause-touched
returns-clause-touched c key =
    let old = c.args.self.now.touched in
    let has : (p : Key) → contains key_cmp c.insert.new.self p ≡ cond (key_eq c.args.pod p) true (contains key_cmp old p) =
    (subst (λ cmp. Updates cmp old c.insert.new.self c.args.pod true) key_order c.in_ok-insert.ensures.updates).0 in
    has key ∙ or_cond (key_eq c.args.pod key) (contains key_cmp old key)
