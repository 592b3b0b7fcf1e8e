use Rattle.std.proofs.Common.{[], ◌∷◌, ◌++◌, map, ap, ◌∙◌, add-one}
use Rattle.lens_json.specs.Parts.{members_in}
use Rattle.lens_room.specs.MarginJson.{members_at}
use Rattle.lens_room.proofs.margin_json.parts.controllers_in.Goals as goal

pub loop-controller-preserved : goal.loop-controller-preserved
loop-controller-preserved c =
    let d = c.args.document.now in
    let k = c.loop-controller.controller in
    let old = map members_in c.loop-controller.objects.items in
    rw add-one (c.in_ok-add.ensures ∙ ap (λ ms. old ++ ms ∷ []) c.in_ok-members.ensures ∙ ap (λ objects. objects ++ members_at d k ∷ []) c.loop-controller.invariant)
