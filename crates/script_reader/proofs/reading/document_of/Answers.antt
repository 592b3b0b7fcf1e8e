use Rattle.serde_json.specs.View.{view}
use Rattle.script_reader.specs.Walk.{document_at}
use Rattle.script_reader.proofs.Walks.{failed, events-fail}
use Rattle.script_reader.proofs.reading.document_of.Goals as goal

pub returns-in_err-events : goal.returns-in_err-events
returns-in_err-events c =
    let d = view c.args.value.now in
    let team = c.in_ok-team.team in
    let fault = c.in_err-events.field-0.0 in
    failed fault c.from_residual-in_err-events.result (document_at d) c.from_residual-in_err-events.ensures.0 c.from_residual-in_err-events.ensures.1
    (events-fail fault d c.in_ok-version.version c.in_ok-given.given ((team.named.procs, team.waits), c.controllers_at.new.names) (c.in_ok-kubelets.kubelets.procs, c.kubelets_at.new.names)
    (c.in_ok-objects.objects, c.objects_at.new.names) c.in_ok-names.names c.known.result.now c.in_ok-names.ensures c.known.ensures.value c.in_ok-top_in.ensures c.in_ok-version.ensures c.in_ok-given.ensures c.in_ok-team.ensures.gives
    c.in_ok-kubelets.ensures.gives c.in_ok-objects.ensures c.in_err-events.ensures)
