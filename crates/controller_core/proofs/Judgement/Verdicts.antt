-- The verdict of a node by how it was looked at and how it is after the marks is that of the definitions.
use Rattle.std.proofs.Common.{◌≡◌, ◌∙◌, ◌&&◌, ◌||◌, not, ℕ, Bool, true, false, refl, sym, ap}
use Rattle.std.specs.List.{list_any}
use Rattle.kube_objects.specs.declared.node.Node.{Node}
use Rattle.kube_objects.specs.declared.rules.QueueRule.{QueueRule}
use Rattle.kube_objects.specs.Document.{Doc}
use Rattle.kube_objects.specs.Entry.{Identity}
use Rattle.kube_objects.specs.Judgement as model
use Rattle.kube_objects.specs.Judgement.{Passed, is_crossed, is_healthy, is_new, is_short, is_wanting, judged, pushes_again}
use Rattle.kube_objects.specs.Newest.{has}
use Rattle.kube_objects.specs.Tainting.{Wants, Nothing, Wanted, Whatever, is_opposite, is_wanted, wants_ready}
use Rattle.node_taints.specs.Wanting.{wants_of}
use Rattle.controller_core.specs.Looking.{IsSeenSo}
use Rattle.controller_core.specs.Verdicts.{IsVerdict, judged_so, said}
use Rattle.controller_core.specs.declared.judging.verdict.Verdict.{Verdict}
use Rattle.controller_core.specs.declared.pass.found.Look.{Look}

crossed_kept : (w : Wants) (y z : Node) → z.taints ≡ y.taints → is_crossed w z ≡ is_crossed w y
crossed_kept Nothing y z same = refl
crossed_kept (Wanted wanted) y z same = ap (list_any (is_opposite wanted)) same
crossed_kept Whatever y z same = refl

short_kept : (w : Wants) (y z : Node) → z.taints ≡ y.taints → is_short w z ≡ is_short w y
short_kept Nothing y z same = refl
short_kept (Wanted wanted) y z same = ap (λ taints. not (list_any (is_wanted wanted) taints)) same
short_kept Whatever y z same = refl

or_other : (a b : Bool) → (a || b) ≡ (b || a)
or_other true true = refl
or_other true false = refl
or_other false true = refl
or_other false false = refl

or_later : (a b c : Bool) → (a || (b || c)) ≡ ((a || b) || c)
or_later true b c = refl
or_later false b c = refl

-- y is the node before the marks, and z after them
module _ (doc : Doc) (q : Identity) (x : Passed) (name : ℕ) (look : Look) (rule : QueueRule) (y z : Node) (v : Verdict)
    (looked : wants_of look.wants ≡ wants_ready y.ready) (fresh : look.fresh ≡ is_new doc q name x.before) (s : IsSeenSo q x name y z) (ruled : rule ≡ doc.settings.rules.queue) (is : IsVerdict look rule z v) where
  pub wants_is : wants_of v.wants ≡ judged q name x y
  wants_is = is.wants ∙ ap (λ w. judged_so w (has z.ready)) looked ∙ sym s.wants

  short_is : (look.fresh || is_short (wants_of v.wants) z) ≡ (is_short (judged q name x y) y || is_new doc q name x.before)
  short_is = (λ i. fresh i || (short_kept (wants_of v.wants) y z s.taints ∙ ap (λ w. is_short w y) wants_is) i) ∙ or_other (is_new doc q name x.before) (is_short (judged q name x y) y)

  crossed_is : v.crossed ≡ is_crossed (judged q name x y) y
  crossed_is = is.crossed ∙ crossed_kept (wants_of v.wants) y z s.taints ∙ ap (λ w. is_crossed w y) wants_is

  -- whether it is crossed is asked of the node as it is
  pub crossed_now : v.crossed ≡ is_crossed (wants_of v.wants) z
  crossed_now = is.crossed

  pub verdict_is : said v ≡ model.verdict doc q name x y
  verdict_is = λ i. record {
    cleared = (is.cleared ∙ (λ j. fresh j || is_healthy (wants_is j))) i;
    queued = (is.queued
        ∙ (λ j. (is_wanting (wants_is j) && not (crossed_is j)) && (pushes_again (ruled j) || (is.pushed ∙ short_is) j))
        ∙ ap (λ b. (is_wanting (judged q name x y) && not (is_crossed (judged q name x y) y)) && b)
        (or_later (pushes_again doc.settings.rules.queue) (is_short (judged q name x y) y) (is_new doc q name x.before))) i;
    pushed = (is.pushed ∙ short_is) i;
  }
