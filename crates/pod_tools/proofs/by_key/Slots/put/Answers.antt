use Rattle.std.proofs.Common.{◌∙◌, ap, ◌||◌, refl, slice_set}
use Rattle.std.proofs.lemmas.Result.{on_ok_weaker}
use Rattle.pod_tools.specs.ByKey.{in_slot, slot}
use Rattle.pod_tools.proofs.Slots.{has_key, put_keyless, put_at, told}
use Rattle.pod_tools.proofs.by_key.Slots.put.Goals as goal

pub returns-then-toleration-eq0 : goal.returns-then-toleration-eq0
returns-then-toleration-eq0 c taint =
    let self = c.args.self.now in
    let others = in_slot self.slots.items (slot self.mix taint.key) in
    on_ok_weaker c.push.result (λ pushed. ap (λ ts. told taint ts || told taint others) pushed ∙ put_keyless taint self.keyless others c.args.toleration) c.push.ensures.ok

pub returns-in-Some : goal.returns-in-Some
returns-in-Some c taint =
    let self = c.args.self.now in
    on_ok_weaker c.push-in-Some.result (λ pushed.
    ap (λ ts. told taint self.keyless || told taint (in_slot (slice_set self.slots.items c.slot_of.result ts) (slot self.mix taint.key))) pushed
    ∙ put_at taint self.mix self.keyless self.slots.items c.args.toleration c.in-Some.slot.now c.slot_of.result self.slots.len c.slot_of.ensures
    (has_key c.args.toleration.key c.if-toleration-eq0.false) self.slots.ok.0 (c.in-Some.ensures.variant.0 refl) c.in-Some.ensures.value)
    c.push-in-Some.ensures.ok

pub returns-in-None : goal.returns-in-None
returns-in-None c taint =
    let self = c.args.self.now in
    let others = in_slot self.slots.items (slot self.mix taint.key) in
    on_ok_weaker c.push-in-None.result (λ pushed. ap (λ ts. told taint ts || told taint others) pushed ∙ put_keyless taint self.keyless others c.args.toleration) c.push-in-None.ensures.ok
