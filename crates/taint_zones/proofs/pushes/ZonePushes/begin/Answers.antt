use Rattle.std.proofs.Common.{◌≡◌, ◌∙◌, ◌==◌, ◌||◌, ◌∷◌, [], Bool, true, false, ap, refl}
use Rattle.taint_zones.specs.Pushing.{names_of}
use Rattle.taint_zones.proofs.PushMaps.{alone, alone_counts, begun}
use Rattle.taint_zones.proofs.pushes.ZonePushes.begin.Goals as goal

or_false : (b : Bool) → (b || false) ≡ b
or_false true = refl
or_false false = refl

pub returns-clause-names : goal.returns-clause-names
returns-clause-names c = λ zone.
    begun names_of (c.args.node ∷ []) c.args.self.now.zones c.insert.new.self c.args.place c.want.new.self c.in_ok-insert.ensures.updates
    (alone c.args.node c.args.anew c.args.again c.new-pushes.result c.want.new.self c.new-pushes.ensures.names (c.new-pushes.ensures.counts c.args.node) c.in_ok-want.ensures.names) zone

pub returns-clause-counts : goal.returns-clause-counts
returns-clause-counts c = λ zone other.
    alone_counts c.args.self.now.zones c.insert.new.self c.args.place c.args.node other c.want.new.self c.requires c.in_ok-insert.ensures.updates
    (c.in_ok-want.ensures.counts other ∙ ap (λ b. (c.args.node == other) || b) (c.new-pushes.ensures.counts other) ∙ or_false (c.args.node == other)) zone
