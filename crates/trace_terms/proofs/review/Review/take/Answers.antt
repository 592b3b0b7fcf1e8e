use Rattle.std.proofs.Common.{refl, ap}
use Rattle.trace_terms.specs.declared.role.Role.TheVariants.{Ends, Zones, Acts}
use Rattle.trace_terms.specs.Entries.{played}
use Rattle.trace_terms.proofs.ReviewLaws.{review-idles, review-led, plays-as, taints-as}
use Rattle.trace_terms.proofs.review.Review.take.Goals as goal

pub returns-in-Idles-clause-stands : goal.returns-in-Idles-clause-stands
returns-in-Idles-clause-stands c millis end es h later =
    review-idles millis end (record { line = c.args.number; beat = c.args.beat; actor = c.args.actor.now; role = played c.args.role }) es c.args.self.now
    (ap (λ r. played r) c.in-Idles.is) later h

pub returns-in_ok-place-in-Leads-clause-stands : goal.returns-in_ok-place-in-Leads-clause-stands
returns-in_ok-place-in-Leads-clause-stands c millis end es h later =
    review-led millis end c.in_ok-place-in-Leads.place (record { line = c.args.number; beat = c.args.beat; actor = c.args.actor.now; role = played c.args.role }) es
    c.place.new.self c.lead.new.self (ap (λ r. played r) c.in-Leads.is) later c.in_ok-place-in-Leads.ensures.at c.lead.ensures.led
    (c.in_ok-place-in-Leads.ensures.stands millis end es h)

pub returns-in_ok-place-in-Ends-clause-stands : goal.returns-in_ok-place-in-Ends-clause-stands
returns-in_ok-place-in-Ends-clause-stands c millis end es h later =
    plays-as millis end c.in_ok-place-in-Ends.place c.args.number c.args.beat c.args.actor.now (played c.args.role) Ends es
    c.place-in-Ends.new.self c.play-in-Ends.new.self c.play-in-Ends.result (ap (λ r. played r) c.in-Ends.is) refl refl later
    c.in_ok-place-in-Ends.ensures.at (c.in_ok-place-in-Ends.ensures.stands millis end es h) c.play-in-Ends.ensures.played

pub returns-in_ok-place-in-Acts-clause-stands : goal.returns-in_ok-place-in-Acts-clause-stands
returns-in_ok-place-in-Acts-clause-stands c millis end es h later =
    plays-as millis end c.in_ok-place-in-Acts.place c.args.number c.args.beat c.args.actor.now (played c.args.role) Acts es
    c.place-in-Acts.new.self c.play-in-Acts.new.self c.play-in-Acts.result (ap (λ r. played r) c.in-Acts.is) refl refl later
    c.in_ok-place-in-Acts.ensures.at (c.in_ok-place-in-Acts.ensures.stands millis end es h) c.play-in-Acts.ensures.played

pub returns-in_ok-place-in-Zones-clause-stands : goal.returns-in_ok-place-in-Zones-clause-stands
returns-in_ok-place-in-Zones-clause-stands c millis end es h later =
    plays-as millis end c.in_ok-place-in-Zones.place c.args.number c.args.beat c.args.actor.now (played c.args.role) (Zones c.in-Zones.zone.now c.in-Zones.rate) es
    c.place-in-Zones.new.self c.play-in-Zones.new.self c.play-in-Zones.result (ap (λ r. played r) c.in-Zones.is) refl refl later
    c.in_ok-place-in-Zones.ensures.at (c.in_ok-place-in-Zones.ensures.stands millis end es h) c.play-in-Zones.ensures.played

pub returns-in_ok-play-in-Taints-clause-stands : goal.returns-in_ok-play-in-Taints-clause-stands
returns-in_ok-play-in-Taints-clause-stands c millis end es h later =
    taints-as millis end c.in_ok-place-in-Taints.place c.args.number c.args.beat c.args.actor.now (played c.args.role) es c.place-in-Taints.new.self c.play.new.self
    (ap (λ r. played r) c.in-Taints.is) later c.in_ok-place-in-Taints.ensures.at c.in_ok-play-in-Taints.ensures.played
    (c.in_ok-place-in-Taints.ensures.stands millis end es h)
