use Rattle.std.proofs.Common.{◌==◌, ◌∙◌}
use Rattle.wire_calls.specs.declared.link.Link.{Link}
use Rattle.wire_calls.proofs.Links.{other-link, same-count, set-losses}
use Rattle.wire_calls.proofs.wire.Wire.set_loss.Goals as goal

pub returns-in-Some : goal.returns-in-Some
returns-in-Some c processes k step beat arriving coming h version s below =
    let links = c.args.self.now.links.items in
    let who = c.args.who.0 in
    let link = c.in-Some.link.now in
    let f : Link → Link = λ l. record l { loses_requests = c.args.requests; loses_replies = c.args.replies } in
    record {
      count = same-count links who link f processes h s.count s.links below c.in-Some.ensures.value;
      links = λ p.
          other-link links who link f processes h s.count s.links below c.in-Some.ensures.value p
          ∙ set-losses p c.args.requests c.args.replies h (who == p);
      requests = s.requests;
      replies = s.replies;
      live_requests = s.live_requests;
      live_replies = s.live_replies;
      delays = s.delays;
    }
