use Rattle.std.proofs.Common.{◌≡◌, ◌∙◌, ℕ, ◌≤◌, Option, Some, None, IfSome, IfNone, true, false, not, ap}
use Rattle.kube_base.specs.declared.numbers.Local.{Local}
use Rattle.kube_objects.specs.Clocks.{local}
use Rattle.rate_bucket.specs.Allowing.{Allowed, has_room}
use Rattle.controller_core.specs.Passing.{reading_of}
use Rattle.controller_core.specs.Wakes.{is_before}
use Rattle.controller_core.proofs.Allowed.{room_or_free, wakes_by}
use Rattle.controller_core.proofs.term.Term.delete_wake.Goals as goal

wakes_local : (a : Allowed) (at : Option Local) → IfSome at (λ x. (now : ℕ) → x.0 ≤ now → has_room a now ≡ true) → IfSome at (λ x. (now : ℕ) → has_room a now ≡ true → x.0 ≤ now) → IfNone at ((now : ℕ) → has_room a now ≡ false)
    → (now : ℕ) → is_before now (reading_of at) ≡ not (has_room a now)
wakes_local a None there least none = wakes_by a None there least none
wakes_local a (Some x) there least none = wakes_by a (Some x.0) there least none

pub returns : goal.returns
returns c doc q h s beats k upto =
    wakes_local c.args.self.now.allowance c.ready_at.result c.ready_at.ensures.there c.ready_at.ensures.least c.ready_at.ensures.none (local doc q.process k)
    ∙ ap not (room_or_free doc k q h c.args.self.now.allowance s.parts.allowance beats upto)
