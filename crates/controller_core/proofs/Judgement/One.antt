-- Judging one node.
use Rattle.std.proofs.Common.{◌≡◌, ◌∙◌, ℕ, Bool, true, false, List, ◌∷◌, Option, Some, None, refl, sym, ap, subst}
use Rattle.kube_base.specs.declared.numbers.Version.{Version}
use Rattle.kube_objects.specs.declared.node.Node.{Node}
use Rattle.kube_objects.specs.declared.rules.QueueRule.{QueueRule}
use Rattle.kube_objects.specs.Document.{Doc}
use Rattle.kube_objects.specs.Entry.{Entry, Identity}
use Rattle.kube_objects.specs.Judgement as model
use Rattle.kube_objects.specs.Judgement.{Passed, has_turned_on}
use Rattle.kube_objects.specs.Newest.{has}
use Rattle.kube_objects.specs.Seen.{is_stale, seen_node}
use Rattle.kube_objects.specs.Stored.{node_key}
use Rattle.kube_objects.specs.Tainting.{wants_ready}
use Rattle.kube_objects.specs.Tick.{judge, judge_as, judge_seen}
use Rattle.history_laws.proofs.Plainly.{false_is, some_is}
use Rattle.node_taints.specs.Wanting.{wants_of}
use Rattle.taint_zones.specs.Places.{of_place}
use Rattle.taint_zones.specs.declared.place.Place as zones
use Rattle.taint_zones.specs.declared.pushes.ZonePushes.{ZonePushes}
use Rattle.controller_core.specs.Looking.{IsAsMarked, IsLook, IsSeenSo, wants_seen}
use Rattle.controller_core.specs.Pushing.{JudgingStand, is_left}
use Rattle.controller_core.specs.Verdicts.{IsVerdict, said}
use Rattle.controller_core.specs.declared.judging.verdict.Verdict.{Verdict}
use Rattle.controller_core.specs.declared.pass.found.Look.{Look}
use Rattle.controller_core.proofs.Judgement.Standing.{IsQueued, judging_next}
use Rattle.controller_core.proofs.Judgement.Steps.{judge_is}
use Rattle.controller_core.proofs.Judgement.Verdicts.{verdict_is, wants_is}

-- as it was before the marks
pub record WasSeen (q : Identity) (x : Passed) (name : ℕ) (node : Node) : Type 0 where
  pub y : Version × Node
  pub was : seen_node q name x.before ≡ Some y
  pub so : IsSeenSo q x name y.1 node

module _ (q : Identity) (x : Passed) (name : ℕ) (h : List Entry) (there : has (seen_node q name x.before) ≡ true) (marked : IsAsMarked q x name h) where
  pub one_seen : (given : Version) (node : Node) → Some (given, node) ≡ seen_node q name h → WasSeen q x name node
  one_seen given node sees = by_seen (seen_node q name x.before) refl there
    where
      by_seen : (o : Option (Version × Node)) → seen_node q name x.before ≡ o → has o ≡ true → WasSeen q x name node
      by_seen None was is = absurd (false_is is)
      by_seen (Some y) was is =
          let z = marked y was in
          record { y = y; was = was; so = subst (λ (w : Version × Node). IsSeenSo q x name y.1 w.1) (some_is z.0 (given, node) (sym z.1.0 ∙ sym sees)) z.1.1 }

  pub not_missing : None ≡ seen_node q name h → ⊥
  not_missing none = by_seen (seen_node q name x.before) refl there
    where
      by_seen : (o : Option (Version × Node)) → seen_node q name x.before ≡ o → has o ≡ true → ⊥
      by_seen None was is = false_is is
      by_seen (Some y) was is = let z = marked y was in false_is (ap has (none ∙ z.1.0))

-- one that is stale isn't tried
pub stale_is : (doc : Doc) (k : ℕ) (q : Identity) (x : Passed) (name : ℕ) (h : List Entry) → is_stale q (node_key name) h ≡ true → judge doc k q x name h ≡ h
stale_is doc k q x name h stale = ap (λ b. judge_seen doc k q name x b (seen_node q name x.before) (seen_node q name h) h) stale

module _ (doc : Doc) (q : Identity) (x : Passed) (name : ℕ) (h : List Entry) (look : Look) (rule : QueueRule) (given : Version) (node : Node) (v : Verdict) (s : WasSeen q x name node)
    (l : IsLook doc q x.before name look) (ruled : rule ≡ doc.settings.rules.queue) (is : IsVerdict look rule node v) where
  looked : wants_of look.wants ≡ wants_ready s.y.1.ready
  looked = l.wants ∙ ap wants_seen s.was

  -- its try is by this verdict
  pub tried_is : (k : ℕ) → is_stale q (node_key name) h ≡ false → Some (given, node) ≡ seen_node q name h → judge_as doc k q name x given node (wants_of v.wants) h ≡ judge doc k q x name h
  tried_is k fresh sees =
      ap (λ w. judge_as doc k q name x given node w h) (wants_is doc q x name look rule s.y.1 node v looked l.fresh s.so ruled is)
      ∙ sym (judge_is doc k q x name h s.y (given, node) s.was (sym sees) (is_stale q (node_key name) h) fresh)

  -- and so are its pushes
  pub pushed_is : (xs : List Passed) (rest : List ℕ) (turned : Bool) (old new : ZonePushes) → turned ≡ has_turned_on q x → JudgingStand doc q x xs (name ∷ rest) old → is_left rest name ≡ false
      → IsQueued rule turned (record { region = node.region; zone = node.zone }) name (said v) old new → JudgingStand doc q x xs rest new
  pushed_is xs rest turned old new turns stand last queued =
      judging_next doc q x xs name rest old new stand last s.y s.was
      (subst (λ (a : QueueRule × Bool × zones.Place × model.Verdict). IsQueued a.0 a.1 a.2 name a.3 old new)
      (λ i. (ruled i, turns i, of_place (s.so.place i), verdict_is doc q x name look rule s.y.1 node v looked l.fresh s.so ruled is i)) queued)
