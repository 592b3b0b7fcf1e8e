use Rattle.std.proofs.Common.{◌≡◌, ◌∙◌, [], ◌∷◌, MatchOption, true, sym, ap, subst}
use Rattle.std.specs.BTreeMap.{get}
use Rattle.std.specs.Option.{option_copied}
use Rattle.kube_objects.specs.Judgement.{taken}
use Rattle.taint_zones.specs.Pushing.{names_of}
use Rattle.taint_zones.proofs.pushes.ZonePushes.head.Goals as goal

pub returns-in-None : goal.returns-in-None
returns-in-None c = ap names_of (sym c.get.ensures.value ∙ ap option_copied c.in-None.is)

pub returns-in-Some : goal.returns-in-Some
returns-in-Some c =
    subst (λ o. MatchOption c.head.result (names_of o ≡ []) (λ node. names_of o ≡ node ∷ taken true (names_of o))) (sym (sym c.get.ensures.value ∙ ap option_copied c.in-Some.is)) c.head.ensures
