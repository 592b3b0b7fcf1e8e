use Rattle.std.proofs.Common.{◌≡◌, Ok}
use Rattle.pod_inputs.specs.Walk.{place_walk}
use Rattle.pod_inputs.proofs.reading.read_place.Goals as goal

pub returns-clause-few : goal.returns-clause-few
unfolding place_walk
returns-clause-few c =
    let read : place_walk c.args.bytes.now ≡ Ok c.in_ok-input.input = rw c.in_ok-value.ensures c.in_ok-input.ensures in
    c.inputs_are_few.ensures.place c.args.bytes.now c.in_ok-input.input read
