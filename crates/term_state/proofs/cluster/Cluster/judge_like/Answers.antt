use Rattle.std.proofs.Common.{◌≡◌, ◌∙◌, ◌&&◌, ◌||◌, sym, ap, arith}
use Rattle.std.proofs.lemmas.Result.{on_ok_weaker}
use Rattle.kube_objects.specs.Keys.{key_eq}
use Rattle.kube_objects.specs.declared.rules.EvictRule.TheVariants.{Added, Seen}
use Rattle.term_state.specs.ClusterStands.{but_pod}
use Rattle.term_state.specs.Sights.{has_touched, is_by_sight}
use Rattle.term_state.proofs.Judging.{seen_but}
use Rattle.term_state.proofs.Writing.{ok_always}
use Rattle.term_state.proofs.cluster.Cluster.judge_like.Goals as goal

differ : Added ≡ Seen → ⊥
differ is = cc

-- by the stored taints
pub returns-in_ok-due-in-Added-clause-stands : goal.returns-in_ok-due-in-Added-clause-stands
returns-in_ok-due-in-Added-clause-stands g c q h nodes pods s synced last = c.set_due.ensures.stands q h nodes pods s (λ added. c.in_ok-due-in-Added.ensures.due q h nodes pods s synced last)

pub returns-in_ok-due-in-Added-clause-retained : goal.returns-in_ok-due-in-Added-clause-retained
returns-in_ok-due-in-Added-clause-retained g c =
    ok_always c.set_due.result _ (record { from = c.set_due.ensures.from; rows = c.set_due.ensures.rows; dues = λ seen. absurd (differ (sym c.in-Added.is ∙ seen)) })

pub returns-in_ok-due-in-Added-clause-touched : goal.returns-in_ok-due-in-Added-clause-touched
returns-in_ok-due-in-Added-clause-touched g c =
    ok_always c.set_due.result _ (λ p. c.set_due.ensures.touched p ∙ ap (λ rule. (is_by_sight rule && key_eq c.args.key p) || has_touched c.args.self.now p) (sym c.in-Added.is))

pub returns-in_ok-due-in-Added-clause-counted : goal.returns-in_ok-due-in-Added-clause-counted
returns-in_ok-due-in-Added-clause-counted g c = ok_always c.set_due.result _ (omega (arith, c.in_ok-due-in-Added.ensures.counted, c.set_due.ensures.untouched))

pub returns-in_ok-due-in-Added-clause-last : goal.returns-in_ok-due-in-Added-clause-last
returns-in_ok-due-in-Added-clause-last g c q h nodes pods s synced last = ok_always c.set_due.result _ (c.in_ok-due-in-Added.ensures.last q h nodes pods s synced last)

-- by what is seen
pub returns-in-Seen-clause-stands : goal.returns-in-Seen-clause-stands
returns-in-Seen-clause-stands g c q h nodes pods s synced last =
    on_ok_weaker c.touch.result (seen_but q h nodes pods (but_pod c.args.key pods) c.touch.new.self (c.touch.ensures.retained.from ∙ c.in-Seen.is)) (c.touch.ensures.stands q h nodes pods s)

pub returns-in-Seen-clause-touched : goal.returns-in-Seen-clause-touched
returns-in-Seen-clause-touched g c =
    on_ok_weaker c.touch.result (λ t p. t p ∙ ap (λ rule. (is_by_sight rule && key_eq c.args.key p) || has_touched c.args.self.now p) (sym c.in-Seen.is)) c.touch.ensures.touched

pub returns-in-Seen-clause-last : goal.returns-in-Seen-clause-last
returns-in-Seen-clause-last g c q h nodes pods s synced last = ok_always c.touch.result _ last
