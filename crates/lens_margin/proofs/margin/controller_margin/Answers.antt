use Rattle.std.proofs.Common.{◌≡◌, ◌∙◌, sym, subst}
use Rattle.script_reader.specs.Documents.{doc_of}
use Rattle.lens_margin.specs.Laws.{IsMargin}
use Rattle.lens_margin.specs.Margins.{margin_of}
use Rattle.lens_margin.proofs.Positive.{slowest-some, fastest-some}
use Rattle.lens_margin.proofs.Numbers.{margin-law, numbers-are}
use Rattle.lens_margin.proofs.margin.controller_margin.Goals as goal

pub margin_at-requires-clause-slowest : goal.margin_at-requires-clause-slowest
margin_at-requires-clause-slowest c = rw c.rates_of.ensures.least (slowest-some (doc_of c.args.document.now) c.requires.lawful c.args.controller c.requires.controller)

pub margin_at-requires-clause-fastest : goal.margin_at-requires-clause-fastest
margin_at-requires-clause-fastest c = rw c.fastest.ensures (fastest-some (doc_of c.args.document.now) c.requires.lawful)

pub returns-clause-is : goal.returns-clause-is
returns-clause-is c =
    let demand = c.demand_of.result in
    c.margin_at.ensures
    ∙ numbers-are (doc_of c.args.document.now) c.args.controller c.answers_come.result c.waited_seconds-lease_seconds.result demand.acting_millis demand.stall demand.beside
    c.rates_of.result.least c.fastest.result c.answers_come.ensures c.waited_seconds-lease_seconds.ensures c.demand_of.ensures.acting c.demand_of.ensures.stall
    c.demand_of.ensures.beside c.rates_of.ensures.least c.fastest.ensures

pub returns-clause-law : goal.returns-clause-law
returns-clause-law c =
    let doc = doc_of c.args.document.now in
    let demand = c.demand_of.result in
    let is : c.margin_at.result ≡ margin_of doc c.args.controller
    = c.margin_at.ensures
    ∙ numbers-are doc c.args.controller c.answers_come.result c.waited_seconds-lease_seconds.result demand.acting_millis demand.stall demand.beside
    c.rates_of.result.least c.fastest.result c.answers_come.ensures c.waited_seconds-lease_seconds.ensures c.demand_of.ensures.acting c.demand_of.ensures.stall
    c.demand_of.ensures.beside c.rates_of.ensures.least c.fastest.ensures in
    subst (IsMargin doc c.args.controller) (sym is) (margin-law doc c.requires.lawful c.args.controller c.requires.controller)
