use Rattle.std.proofs.Common.{sym, subst, ap, ◌∙◌}
use Rattle.history.specs.Premise.{lease_premise}
use Rattle.script_reader.specs.Lawful.{IsLawfulDoc, IsWellNamed}
use Rattle.world_gen.specs.Generated.{generated}
use Rattle.world_gen.proofs.Lawful.{generated-lawful}
use Rattle.world_gen.proofs.Named.{generated-named}
use Rattle.world_gen.proofs.Premised.{generated-premise}
use Rattle.world_gen.proofs.generating.generate.Goals as goal

pub returns-clause-lawful : goal.returns-clause-lawful
returns-clause-lawful c =
    let a = c.args in
    let r = c.requires in
    subst IsLawfulDoc (sym c.in_ok-document.ensures.document)
    (generated-lawful a.seed a.nodes a.pods a.beats r.nodes r.pods r.beats c.objects_are_readable.ensures.apart)

pub returns-clause-well_named : goal.returns-clause-well_named
returns-clause-well_named c =
    let a = c.args in
    let r = c.requires in
    subst (IsWellNamed c.in_ok-document.document.names) (sym c.in_ok-document.ensures.document)
    (subst (λ names. IsWellNamed names (generated a.seed a.nodes a.pods a.beats)) (sym c.in_ok-document.ensures.names)
    (generated-named a.seed a.nodes a.pods a.beats r.some r.nodes r.pods))

pub returns-clause-premise : goal.returns-clause-premise
returns-clause-premise c =
    ap lease_premise c.in_ok-document.ensures.document ∙ generated-premise c.args.seed c.args.nodes c.args.pods c.args.beats
