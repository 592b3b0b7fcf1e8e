use Rattle.std.proofs.Common.{rules, ◌∙◌, ◌==◌, ◌&&◌, ◌||◌, ◌∷◌, ◌++◌, not, Bool, cond, Option, [], sym, ap}
use Rattle.std.specs.BTreeMap.{get}
use Rattle.std.specs.Option.{option_copied_mut}
use Rattle.std.proofs.lemmas.Result.{on_ok_weaker}
use Rattle.kube_objects.specs.Judgement.{holds_name}
use Rattle.taint_queue.specs.declared.pushes.Pushes.{Pushes}
use Rattle.taint_zones.specs.Places.{zone_cmp, zone_eq}
use Rattle.taint_zones.specs.Pushing.{counts_of, names_of}
use Rattle.taint_zones.proofs.PushMaps.{both, changed, either, wanted_anew}
use Rattle.taint_zones.proofs.pushes.ZonePushes.want.Goals as goal

pub begin-requires : goal.begin-requires
begin-requires c = ap (λ m. get zone_cmp m c.args.place) c.get_mut.follows.holds-at-none ∙ sym c.get_mut.ensures.value ∙ ap option_copied_mut c.in-None.is

pub returns-in-Some-clause-names : goal.returns-in-Some-clause-names
returns-in-Some-clause-names c =
    let zones = c.args.self.now.zones in
    let node = c.args.node in
    let asked : Option Pushes → Bool = λ o. (c.args.anew || not (counts_of o node)) && (c.args.again || not (holds_name node (names_of o))) in
    on_ok_weaker c.want.result
    (λ is zone. changed names_of (λ o. cond (asked o) (names_of o ++ node ∷ []) (names_of o)) zones (c.get_mut.follows.lender c.want.new.self) c.args.place c.in-Some.pushes.now c.want.new.self
    (sym c.get_mut.ensures.value ∙ ap option_copied_mut c.in-Some.is) ((c.get_mut.follows.holds c.want.new.self).3 (search rules)) is zone
    ∙ both (zone_eq c.args.place zone) (asked (get zone_cmp zones zone)) (names_of (get zone_cmp zones zone) ++ node ∷ []) (names_of (get zone_cmp zones zone)))
    c.want.ensures.names

pub returns-in-Some-clause-counts : goal.returns-in-Some-clause-counts
returns-in-Some-clause-counts c =
    let zones = c.args.self.now.zones in
    let node = c.args.node in
    on_ok_weaker c.want.result
    (λ is zone other. changed (λ o. counts_of o other) (λ o. (node == other) || counts_of o other) zones (c.get_mut.follows.lender c.want.new.self) c.args.place c.in-Some.pushes.now c.want.new.self
    (sym c.get_mut.ensures.value ∙ ap option_copied_mut c.in-Some.is) ((c.get_mut.follows.holds c.want.new.self).3 (search rules)) (is other) zone
    ∙ either (zone_eq c.args.place zone) (node == other) (counts_of (get zone_cmp zones zone) other))
    c.want.ensures.counts

pub returns-in-None-clause-names : goal.returns-in-None-clause-names
returns-in-None-clause-names c =
    on_ok_weaker c.begin.result
    (λ is zone. is zone ∙ wanted_anew c.args.self.now.zones c.get_mut.follows.lender-at-none c.args.place c.args.node c.args.anew c.args.again c.get_mut.follows.holds-at-none
    (sym c.get_mut.ensures.value ∙ ap option_copied_mut c.in-None.is) zone)
    c.begin.ensures.names

pub returns-in-None-clause-counts : goal.returns-in-None-clause-counts
returns-in-None-clause-counts c =
    on_ok_weaker c.begin.result
    (λ is zone other. is zone other ∙ ap (λ m. zone_eq c.args.place zone && (c.args.node == other) || counts_of (get zone_cmp m zone) other) c.get_mut.follows.holds-at-none)
    c.begin.ensures.counts
