use Rattle.std.proofs.Common.{refl, sym, ap, ◌∙◌, cond, min}
use Rattle.std.specs.Str.{bytes_eq}
use Rattle.std.proofs.lemmas.Result.{on_ok_weaker}
use Rattle.trace_lines.specs.Reads.{seen}
use Rattle.lens_terms.specs.declared.turn.Turn.TheVariants.{Leads, Ends, Pauses, Keeps}
use Rattle.lens_terms.specs.Gathered.{interruption}
use Rattle.lens_terms.proofs.StretchLaws.{interrupted-more, not-interrupted}
use Rattle.lens_terms.proofs.interruptions.Interruptions.take.Goals as goal

pub returns-in-Ends : goal.returns-in-Ends
returns-in-Ends c ls h =
    let line = seen c.args.line.now in
    on_ok_weaker c.insert.result
    (λ put who. put who ∙ ap (λ n. cond (bytes_eq line.actor who.now) n (interruption c.args.stop c.args.self.now who)) c.min.ensures
    ∙ ap (λ n. cond (bytes_eq line.actor who.now) (min line.beat c.args.stop) n) (h who)
    ∙ sym (interrupted-more c.args.stop who.now line ls (Ends _) (sym c.turn_of.ensures ∙ c.in-Ends.is)))
    (c.insert.ensures c.args.stop)

pub returns-in-Pauses : goal.returns-in-Pauses
returns-in-Pauses c ls h =
    let line = seen c.args.line.now in
    on_ok_weaker c.insert-in-Pauses.result
    (λ put who. put who ∙ ap (λ n. cond (bytes_eq line.actor who.now) n (interruption c.args.stop c.args.self.now who)) c.min-in-Pauses.ensures
    ∙ ap (λ n. cond (bytes_eq line.actor who.now) (min line.beat c.args.stop) n) (h who)
    ∙ sym (interrupted-more c.args.stop who.now line ls (Pauses _) (sym c.turn_of.ensures ∙ c.in-Pauses.is)))
    (c.insert-in-Pauses.ensures c.args.stop)

pub returns-in-Leads : goal.returns-in-Leads
returns-in-Leads c ls h who = h who ∙ sym (not-interrupted c.args.stop who.now (seen c.args.line.now) ls Leads (sym c.turn_of.ensures ∙ c.in-Leads.is) refl)

pub returns-in-Keeps : goal.returns-in-Keeps
returns-in-Keeps c ls h who = h who ∙ sym (not-interrupted c.args.stop who.now (seen c.args.line.now) ls Keeps (sym c.turn_of.ensures ∙ c.in-Keeps.is) refl)
