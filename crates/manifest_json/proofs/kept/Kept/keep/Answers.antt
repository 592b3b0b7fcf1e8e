use Rattle.std.proofs.Common.{is_some, ◌≡◌, ◌∙◌, sym, ap, true, false, Ok}
use Rattle.manifest_json.specs.declared.codes.TheConstants.{DUPLICATE, TOO_MANY}
use Rattle.manifest_json.specs.Kept.{counts_of, with_one}
use Rattle.manifest_json.specs.Walk.{has_key}
use Rattle.key_map.specs.Values.{value_at}
use Rattle.manifest_json.proofs.KeptLemmas.{fails-by, with_found-there, with_found-full, with_found-new, counts_of-push, key-push}
use Rattle.manifest_json.proofs.kept.Kept.keep.Goals as goal

pub returns-in-Ok-Some-clause-gives : goal.returns-in-Ok-Some-clause-gives
returns-in-Ok-Some-clause-gives c =
    let there : has_key c.args.found.0 c.args.self.now.items ≡ true = sym (c.requires.keys c.args.found.0) ∙ ap is_some (sym c.in-Ok-Some.ensures.old ∙ c.in-Ok-Some.field-0-is) in
    fails-by DUPLICATE c.args.path.now c.fault.result _ c.fault.ensures (with_found-there c.args.self.now.scale c.args.path.now c.args.self.now.items c.args.found there)

pub returns-in_default-clause-gives : goal.returns-in_default-clause-gives
returns-in_default-clause-gives c =
    let new : has_key c.args.found.0 c.args.self.now.items ≡ false = sym (c.requires.keys c.args.found.0) ∙ ap is_some (sym c.in-Ok-None.ensures.old ∙ c.in-Ok-None.field-0-is) in
    fails-by TOO_MANY c.args.path.now c.fault-in_default.result _ c.fault-in_default.ensures (with_found-full c.args.self.now.scale c.args.path.now c.args.self.now.items c.args.found new (ap (λ n. with_one c.args.self.now.scale n c.args.found.0.kind) (sym c.requires.counts) ∙ sym c.one_more.ensures ∙ c.in_default.is))

pub returns-in-Ok-clause-gives : goal.returns-in-Ok-clause-gives
returns-in-Ok-clause-gives c =
    let new : has_key c.args.found.0 c.args.self.now.items ≡ false = sym (c.requires.keys c.args.found.0) ∙ ap is_some (sym c.in-Ok-None.ensures.old ∙ c.in-Ok-None.field-0-is) in
    with_found-new c.args.self.now.scale c.args.path.now c.args.self.now.items c.args.found c.in-Some.counts new (ap (λ n. with_one c.args.self.now.scale n c.args.found.0.kind) (sym c.requires.counts) ∙ sym c.one_more.ensures ∙ c.in-Some.is)
    ∙ ap (λ xs. Ok xs) (sym c.in-Ok.ensures.ok)

pub returns-in-Ok-clause-stands : goal.returns-in-Ok-clause-stands
returns-in-Ok-clause-stands c = record {
  keys = λ q. key-push (value_at c.args.self.now.keys q) (value_at c.insert.new.self q) _ q c.args.self.now.items c.args.found c.push.new.self (c.in-Ok-None.ensures.put q) (c.requires.keys q) c.in-Ok.ensures.ok;
  counts = counts_of-push c.args.self.now.scale c.args.self.now.items c.args.found.0.kind c.args.found.0.space c.args.found.0.name c.args.found.1 c.in-Some.counts (ap (λ n. with_one c.args.self.now.scale n c.args.found.0.kind) (sym c.requires.counts) ∙ sym c.one_more.ensures ∙ c.in-Some.is) ∙ ap counts_of (sym c.in-Ok.ensures.ok);
}
