use Rattle.std.proofs.Common.{refl, sym, ap, ◌∙◌}
use Rattle.std.proofs.lemmas.Result.{on_ok_weaker}
use Rattle.trace_lines.specs.Reads.{seen}
use Rattle.lens_terms.proofs.TermLaws.{stands-led, stands-ended, stands-paused, stands-kept}
use Rattle.lens_terms.proofs.gathering.Gathering.take.Goals as goal

pub returns-in_ok-push-in-Leads : goal.returns-in_ok-push-in-Leads
returns-in_ok-push-in-Leads c ls h =
    let line = c.args.line.now in
    stands-led c.args.number (seen line) ls (record { line = c.args.number; actor = line.actor; from = line.beat; closing = c.get-closing.result }) c.args.self.now _
    (sym c.turn_of.ensures ∙ c.in-Leads.is) h refl c.in_ok-push-in-Leads.ensures.items
    (ap (λ x. record { line = c.args.number; actor = line.actor.now; from = line.beat; closing = x }) (c.get-closing.ensures ∙ h.closings line.actor))

pub returns-in-Ends : goal.returns-in-Ends
returns-in-Ends c ls h =
    let line = c.args.line.now in
    on_ok_weaker c.insert.result
    (λ put. stands-ended c.args.number (seen line) ls c.in-Ends.how c.args.self.now (record { closings = c.insert.new.self; terms = c.args.self.now.terms })
    (sym c.turn_of.ensures ∙ c.in-Ends.is) h refl put)
    c.insert.ensures

pub returns-in-Keeps : goal.returns-in-Keeps
returns-in-Keeps c ls h = stands-kept c.args.number (seen c.args.line.now) ls c.args.self.now (sym c.turn_of.ensures ∙ c.in-Keeps.is) h

pub returns-in-Pauses : goal.returns-in-Pauses
returns-in-Pauses c ls h = stands-paused c.args.number (seen c.args.line.now) ls c.in-Pauses.field-0 c.args.self.now (sym c.turn_of.ensures ∙ c.in-Pauses.is) h
