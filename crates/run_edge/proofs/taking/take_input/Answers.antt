use Rattle.std.proofs.Common.{◌≡◌, ◌≤◌, length}
use Rattle.byte_edge.specs.Bytes.{TookAll, IsTooLarge}
use Rattle.byte_edge.specs.declared.taking.TakeFault.TheVariants.{TooLarge}
use Rattle.run_edge.specs.Inputs.{IsInput, IsTooLong}
use Rattle.run_edge.proofs.Inputs.{ok-map, err-map, input-taken, input-long}
use Rattle.run_edge.proofs.taking.take_input.Goals as goal

pub returns-clause-whole : goal.returns-clause-whole
returns-clause-whole g c bytes told =
    let now = g.S.Source.left c.args.source.now in
    let left = g.S.Source.left c.take_all.new.source in
    ok-map c.take_all.result (λ v. TookAll now left v.items × (length v.items ≤ 16777216)) (λ v. IsInput bytes left v.items)
    (λ v took. input-taken now left bytes v.items told took) c.take_all.ensures.all

pub returns-clause-long : goal.returns-clause-long
returns-clause-long g c bytes told =
    let now = g.S.Source.left c.args.source.now in
    let left = g.S.Source.left c.take_all.new.source in
    err-map c.take_all.result (λ fault. fault ≡ TooLarge → IsTooLarge 16777216 now left) (λ fault. fault ≡ TooLarge → IsTooLong bytes left)
    (λ fault large is. input-long now left bytes told (large is)) c.take_all.ensures.large
