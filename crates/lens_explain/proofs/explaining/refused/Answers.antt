use Rattle.std.proofs.Common.{◌≡◌, IfOk, sym, subst}
use Rattle.run_edge.specs.Outcome.{reply_of}
use Rattle.lens_explain.specs.Places.{IsShownOf}
use Rattle.lens_explain.specs.Replies.{refused}
use Rattle.lens_explain.proofs.Parts.{shown-as}
use Rattle.lens_explain.proofs.Told.{refused_with}
use Rattle.lens_explain.proofs.explaining.refused.Goals as goal

pub returns-then-as_json : goal.returns-then-as_json
returns-then-as_json c =
    let r = c.args.refusal.now in
    let told = subst (λ p. IsShownOf c.args.input.now r.code p c.in_ok-why.why.shown) c.as_slice.ensures c.in_ok-why.ensures in
    refused_with c.args.as_json c.args.input.now r c.in_utf8.result c.deref.result.now c.refused_object.result
    (shown-as c.args.input.now r.code r.path c.in_ok-why.why.shown c.in_utf8.result (c.in_utf8.ensures c.args.input.now) told)
    (subst (λ b. IfOk c.refused_object.result (λ a. reply_of a ≡ refused b r c.in_utf8.result c.deref.result.now)) (sym c.if-as_json.true) c.refused_object.ensures)

pub returns : goal.returns
returns c =
    let r = c.args.refusal.now in
    let told = subst (λ p. IsShownOf c.args.input.now r.code p c.in_ok-why.why.shown) c.as_slice.ensures c.in_ok-why.ensures in
    refused_with c.args.as_json c.args.input.now r c.in_ok-why.why.shown c.deref-else-as_json.result.now c.refused_lines.result told
    (subst (λ b. IfOk c.refused_lines.result (λ a. reply_of a ≡ refused b r c.in_ok-why.why.shown c.deref-else-as_json.result.now)) (sym c.if-as_json.false) c.refused_lines.ensures)
