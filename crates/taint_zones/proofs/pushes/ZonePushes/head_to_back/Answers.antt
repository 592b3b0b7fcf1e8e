use Rattle.std.proofs.Common.{rules, ◌∙◌, sym, ap, refl, Result, Ok, Err}
use Rattle.std.specs.BTreeMap.{get}
use Rattle.std.specs.Option.{option_copied_mut}
use Rattle.std.specs.Result.{OnOk}
use Rattle.std.proofs.lemmas.Result.{on_ok_weaker}
use Rattle.kube_objects.specs.Judgement.{to_back}
use Rattle.taint_zones.specs.Places.{zone_cmp, zone_eq}
use Rattle.taint_zones.specs.Pushing.{counts_of, names_of}
use Rattle.taint_zones.proofs.PushMaps.{absent, changed, same_both}
use Rattle.taint_zones.proofs.pushes.ZonePushes.head_to_back.Goals as goal

-- what is so either way
on_ok : {A B : Type 0} (r : Result A B) {P : Type 0} → P → OnOk r P
on_ok (Ok a) p = p
on_ok (Err b) p = tt

pub returns-in-Some-clause-names : goal.returns-in-Some-clause-names
returns-in-Some-clause-names c =
    on_ok_weaker c.head_to_back.result
    (λ is. changed names_of (λ o. to_back (names_of o)) c.args.self.now.zones (c.get_mut.follows.lender c.head_to_back.new.self) c.args.place c.in-Some.pushes.now c.head_to_back.new.self
    (sym c.get_mut.ensures.value ∙ ap option_copied_mut c.in-Some.is) ((c.get_mut.follows.holds c.head_to_back.new.self).3 (search rules)) is)
    c.head_to_back.ensures.names

pub returns-in-Some-clause-counts : goal.returns-in-Some-clause-counts
returns-in-Some-clause-counts c =
    on_ok c.head_to_back.result
    (λ zone other.
    changed (λ o. counts_of o other) (λ o. counts_of o other) c.args.self.now.zones (c.get_mut.follows.lender c.head_to_back.new.self) c.args.place c.in-Some.pushes.now
    c.head_to_back.new.self (sym c.get_mut.ensures.value ∙ ap option_copied_mut c.in-Some.is) ((c.get_mut.follows.holds c.head_to_back.new.self).3 (search rules)) (c.head_to_back.ensures.counts other) zone
    ∙ same_both (zone_eq c.args.place zone) (counts_of (get zone_cmp c.args.self.now.zones zone) other))

pub returns-in-None-clause-names : goal.returns-in-None-clause-names
returns-in-None-clause-names c = λ zone.
    absent names_of (λ o. to_back (names_of o)) c.args.self.now.zones c.get_mut.follows.lender-at-none c.args.place (sym c.get_mut.ensures.value ∙ ap option_copied_mut c.in-None.is)
    (λ zone. ap (λ m. get zone_cmp m zone) c.get_mut.follows.holds-at-none) refl zone

pub returns-in-None-clause-counts : goal.returns-in-None-clause-counts
returns-in-None-clause-counts c = λ zone other. ap (λ m. counts_of (get zone_cmp m zone) other) c.get_mut.follows.holds-at-none
