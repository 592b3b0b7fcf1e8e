use Rattle.skew_clock.proofs.Keeping.{kept-push}
use Rattle.skew_clock.proofs.clock.Clock.set_rate.Goals as goal

pub invariant_of-self-2 : goal.invariant_of-self-2
invariant_of-self-2 c =
    let later = rw (← c.self.view_is) at c.requires.later in
    let within = rw (← c.self.view_is) at c.requires.within in
    let begins = rw (← c.self.view_is) at c.local-reading.ensures.value in
    kept-push c.self.inside c.push.new.self _ c.self.invariant c.in_ok-push.ensures.items later within c.requires.rate begins
