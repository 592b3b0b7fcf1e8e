use Rattle.std.proofs.Common.{◌<◌, length, refl, sym, ◌∙◌, arith}
use Rattle.std.proofs.lemmas.Option.{slice_get_read}
use Rattle.script_reader.specs.Documents.{doc_of}
use Rattle.skew_clock.specs.Clocking.{reading}
use Rattle.world_process.proofs.Readings.{reading-local, wall-when}
use Rattle.lens_lateness.proofs.ClockLaws.{own-is}
use Rattle.lens_lateness.proofs.clocks.own_time.Goals as goal

pub wall-requires : goal.wall-requires
wall-requires c =
    let p = c.in_ok-controller.controller in
    let clock = c.index-clocks-controller.result in
    let count = c.requires.count in
    let below = c.in_ok-controller.ensures.within in
    let within : p < length c.args.clocks.now = omega (arith, count, below) in
    let stands = c.requires.each p clock (slice_get_read c.args.clocks.now _ p clock refl within c.index-clocks-controller.is) in
    let end = stands.end in
    let up = c.if-beat-document.true in
    omega (arith, end, up)

pub returns-then-beat-document : goal.returns-then-beat-document
returns-then-beat-document c =
    let d = c.args.document.now in
    let p = c.in_ok-controller.controller in
    let k = c.args.beat in
    let clock = c.index-clocks-controller.result in
    let count = c.requires.count in
    let below = c.in_ok-controller.ensures.within in
    let within : p < length c.args.clocks.now = omega (arith, count, below) in
    let stands = c.requires.each p clock (slice_get_read c.args.clocks.now _ p clock refl within c.index-clocks-controller.is) in
    own-is d c.args.actor.now k p c.wall.result.0 (sym c.controller_of.ensures.place ∙ c.in_ok-controller.was) c.if-beat-document.true
    (c.wall.ensures.value ∙ wall-when (doc_of d) p k (reading clock k) clock stands (reading-local (doc_of d) p k clock stands))
