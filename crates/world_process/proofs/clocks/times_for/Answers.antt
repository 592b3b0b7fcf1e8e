use Rattle.std.proofs.Common.{◌≤◌, w64, pos, ◌*ℤ◌, ap, ◌∙◌, subst}
use Rattle.std.proofs.Math.Facts.{to_z-of_z}
use Rattle.kube_base.specs.Bounds.{most_local}
use Rattle.skew_clock.specs.Clocking.{reading}
use Rattle.world_process.proofs.Firsts.{clock-first, offset-fits, pauses-first}
use Rattle.world_process.proofs.clocks.times_for.Goals as goal

pub returns-clause-clock : goal.returns-clause-clock
returns-clause-clock c doc p made =
    let offset = c.args.process.now.offset_millis in
    let fits = offset-fits offset c.requires.process.offset_least c.requires.process.offset_most in
    let is = to_z-of_z {w = w64} (record { sfits = c.microseconds.type_inv }) ∙ c.microseconds.ensures ∙ ap (λ z. z *ℤ pos 1000) (to_z-of_z fits) in
    let clock = c.take_events.new.clock in
    let most = subst (λ n. n ≤ most_local) c.local-most.ensures.value c.local-most.ensures.range in
    let last = subst (λ n. reading clock n ≤ most_local) c.end.ensures most in
    clock-first doc p c.args.me.0 c.args.settings.now c.args.process.now c.args.events.now c.in_ok-clock.clock clock _ is made.me made.settings made.process made.events
    c.in_ok-clock.ensures c.in_ok-take_events.ensures.same c.in_ok-take_events.ensures.rates last

pub returns-clause-pauses : goal.returns-clause-pauses
returns-clause-pauses c doc p made =
    pauses-first doc p c.args.me.0 c.args.events.now c.new-pauses.result c.take_events.new.pauses made.me made.events c.requires.apart c.new-pauses.ensures c.in_ok-take_events.ensures.pauses
