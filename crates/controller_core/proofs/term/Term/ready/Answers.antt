use Rattle.std.proofs.Common.{◌≡◌, Some, None, IfNone, subst, rules}
use Rattle.taint_zones.specs.Limits.{LimitStands, limit_at}
use Rattle.taint_zones.specs.Places.{entry_place}
use Rattle.controller_core.specs.HeadsStand.{HasHead}
use Rattle.controller_core.proofs.Readying.{bucket_none, bucket_reading, no_limit_none}
use Rattle.controller_core.proofs.term.Term.ready.Goals as goal

pub returns-in_default-clause-none : goal.returns-in_default-clause-none
returns-in_default-clause-none c doc q h s at r =
    absurd (subst (λ o. IfNone o (¬ HasHead doc q h (entry_place c.args.place))) c.in_default.is (c.head.ensures.none doc q h s) r.head)

pub returns-in-None-clause-none : goal.returns-in-None-clause-none
returns-in-None-clause-none c doc q h s at r =
    let none : limit_at c.args.self.now.zones (entry_place c.args.place) ≡ None = search rules in
    absurd (no_limit_none doc q h (entry_place c.args.place) at (subst (LimitStands doc q h (entry_place c.args.place)) none (s.parts.limits (entry_place c.args.place))) r.there)

pub returns-in-Some-get-clause-reading : goal.returns-in-Some-get-clause-reading
returns-in-Some-get-clause-reading c doc q h s =
    let place = entry_place c.args.place in
    let limit = c.in-Some-get.limit.now in
    let found : limit_at c.args.self.now.zones place ≡ Some limit = search rules in
    let stands = subst (LimitStands doc q h place) found (s.parts.limits place) in
    bucket_reading doc q h place limit c.ready_at.result stands (c.in-Some.ensures.some doc q h s) c.ready_at.ensures.there c.ready_at.ensures.least

pub returns-in-Some-get-clause-none : goal.returns-in-Some-get-clause-none
returns-in-Some-get-clause-none c doc q h s =
    let place = entry_place c.args.place in
    let limit = c.in-Some-get.limit.now in
    let found : limit_at c.args.self.now.zones place ≡ Some limit = search rules in
    bucket_none doc q h place limit c.ready_at.result (subst (LimitStands doc q h place) found (s.parts.limits place)) c.ready_at.ensures.never
