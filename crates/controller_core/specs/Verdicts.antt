-- What a pass says of a node, by what it wanted before the marks.
use Rattle.std.specs.Prelude.{◌≡◌, ◌||◌, ◌&&◌, not, Bool, true, false, Some}
use Rattle.kube_objects.specs.declared.node.Node.{Node}
use Rattle.kube_objects.specs.declared.rules.QueueRule.{QueueRule}
use Rattle.kube_objects.specs.Judgement as model
use Rattle.kube_objects.specs.Newest.{has, or_else}
use Rattle.kube_objects.specs.Tainting.{Wants, Nothing, Wanted, Whatever, unreachable}
use Rattle.node_taints.specs.Wanting.{wants_of}
use Rattle.controller_core.specs.declared.judging.verdict.Verdict.{Verdict}
use Rattle.controller_core.specs.declared.pass.found.Look.{Look}

-- a node that had no Ready and has one was marked
abbrev pub judged_so : Wants → (has : Bool) → Wants
judged_so Nothing there = Nothing
judged_so (Wanted key) there = Wanted key
judged_so Whatever true = Wanted unreachable
judged_so Whatever false = Whatever

pub record IsVerdict (look : Look) (rule : QueueRule) (node : Node) (v : Verdict) : Type 0 where
  pub wants : wants_of v.wants ≡ judged_so (wants_of look.wants) (has node.ready)
  pub crossed : v.crossed ≡ model.is_crossed (wants_of v.wants) node
  pub pushed : v.pushed ≡ (look.fresh || model.is_short (wants_of v.wants) node)
  pub cleared : v.cleared ≡ (look.fresh || model.is_healthy (wants_of v.wants))
  pub queued : v.queued ≡ ((model.is_wanting (wants_of v.wants) && not v.crossed) && (model.pushes_again rule || v.pushed))

-- as the definitions have it
abbrev pub said : Verdict → model.Verdict
said v = record { cleared = v.cleared; queued = v.queued; pushed = v.pushed }

-- whether a node counts as pushed after this
abbrev pub counts_after : (turned : Bool) → model.Verdict → (counted : Bool) → Bool
counts_after turned v counted = or_else counted (model.counts_by turned (Some v))
