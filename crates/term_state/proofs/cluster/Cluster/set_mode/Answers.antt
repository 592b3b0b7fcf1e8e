use Rattle.std.proofs.Common.{◌∙◌, Bool, refl}
use Rattle.std.proofs.lemmas.Result.{on_ok_weaker}
use Rattle.term_state.specs.declared.cluster.Cluster.{Cluster}
use Rattle.term_state.specs.Sights.{IsRetained}
use Rattle.term_state.proofs.Aside.{mode_aside, mode_moved}
use Rattle.term_state.proofs.Sighted.{mode_alike, retained_more, sighted_still}
use Rattle.term_state.proofs.Writing.{both_ok}
use Rattle.term_state.proofs.cluster.Cluster.set_mode.Goals as goal

pub returns-clause-stands : goal.returns-clause-stands
returns-clause-stands c q h g s synced d = c.judge_nodes.ensures.stands q g (mode_aside q h g c.args.on c.args.self.now d s) (d.synced ∙ synced)

pub returns-clause-moved : goal.returns-clause-moved
returns-clause-moved c q k h g s synced m beneath d =
    on_ok_weaker c.judge_nodes.result
    (λ more. mode_moved q h g c.args.on d k c.args.self.now c.judge_nodes.new.self beneath more m)
    (c.judge_nodes.ensures.moved q g (mode_aside q h g c.args.on c.args.self.now d s) (d.synced ∙ synced))

-- the mode is no part of it
mode_set : (c : Cluster) (on : Bool) → IsRetained c (record c { mode = on })
mode_set c on = record { from = refl; rows = λ key. refl; dues = λ seen key. refl }

pub returns-clause-sights : goal.returns-clause-sights
returns-clause-sights c doc q k h g d beneath sighted =
    let old = c.args.self.now in
    on_ok_weaker c.judge_nodes.result
    (λ both. sighted_still old.evict_from doc k q h g old c.judge_nodes.new.self refl beneath (retained_more old (record old { mode = c.args.on }) c.judge_nodes.new.self (mode_set old c.args.on) both.0) both.1
    (mode_alike q h g c.args.on d) sighted)
    (both_ok c.judge_nodes.result _ _ c.judge_nodes.ensures.retained c.judge_nodes.ensures.touched)

pub returns-clause-retained : goal.returns-clause-retained
returns-clause-retained c =
    let old = c.args.self.now in
    on_ok_weaker c.judge_nodes.result (retained_more old (record old { mode = c.args.on }) c.judge_nodes.new.self (mode_set old c.args.on)) c.judge_nodes.ensures.retained
