use Rattle.std.proofs.Common.{rules, ◌∙◌}
use Rattle.std.proofs.lemmas.Map.Made.{filter_same_pairs}
use Rattle.std.specs.BTreeMap.{get}
use Rattle.kube_objects.specs.Newest.{has}
use Rattle.taint_zones.specs.Places.{zone_cmp}
use Rattle.taint_zones.specs.Pushing.{counts_of, names_of}
use Rattle.taint_zones.proofs.PushMaps.{forgotten, kept_or_none}
use Rattle.taint_zones.proofs.pushes.ZonePushes.forget_others.Goals as goal

pub returns-clause-names : goal.returns-clause-names
returns-clause-names c = λ zone.
    forgotten names_of c.args.self.now.zones c.retain.new.self (λ place. has (get zone_cmp c.args.limits.now place))
    (filter_same_pairs _ (λ e. has (get zone_cmp c.args.limits.now e.0)) _ (λ k v b w f' t. search rules) _ _ c.retain.ensures.filtered) zone

pub returns-clause-counts : goal.returns-clause-counts
returns-clause-counts c = λ zone node.
    forgotten (λ o. counts_of o node) c.args.self.now.zones c.retain.new.self (λ place. has (get zone_cmp c.args.limits.now place))
    (filter_same_pairs _ (λ e. has (get zone_cmp c.args.limits.now e.0)) _ (λ k v b w f' t. search rules) _ _ c.retain.ensures.filtered) zone
    ∙ kept_or_none (has (get zone_cmp c.args.limits.now zone)) (counts_of (get zone_cmp c.args.self.now.zones zone) node)
