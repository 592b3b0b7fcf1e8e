use Rattle.std.proofs.Common.{◌∙◌, replicate, ap, rules}
use Rattle.wire_calls.specs.WireStands.{link_at}
use Rattle.wire_calls.proofs.Frames.{wire-untouched}
use Rattle.wire_calls.proofs.Links.{link_at-replicate}
use Rattle.wire_calls.proofs.wire.Wire.new.Goals as goal

pub returns : goal.returns
returns c k h none =
    wire-untouched c.args.processes k h _
    (record {
      count = search rules;
      links = λ p. ap (λ links. link_at links p) (c.in_ok-vec.ensures.items_if_clones_equal (λ y same. same) ∙ ap (replicate c.args.processes) c.first.ensures) ∙ link_at-replicate c.args.processes p;
      requests = record { before = λ j below. c.new.ensures.nothing j; present = c.new.ensures.nothing k; after = λ j above. c.new.ensures.nothing j };
      replies = record { before = λ j below. c.new-2.ensures.nothing j; present = c.new-2.ensures.nothing k; after = λ j above. c.new-2.ensures.nothing j };
      live_requests = c.new.ensures.live;
      live_replies = c.new-2.ensures.live;
      delays = search rules;
    })
    none
