use Rattle.std.proofs.Common.{◌==◌, ◌∙◌}
use Rattle.kube_objects.specs.Wire.{in_force, request_delay_of, reply_delay_of}
use Rattle.wire_calls.specs.declared.link.Link.{Link}
use Rattle.wire_calls.proofs.Links.{delay-set, other-link, same-count, set-delays}
use Rattle.wire_calls.proofs.wire.Wire.set_delay.Goals as goal

pub returns-in-Some : goal.returns-in-Some
returns-in-Some c processes k step beat arriving coming h version s below =
    let links = c.args.self.now.links.items in
    let who = c.args.who.0 in
    let link = c.in-Some.link.now in
    let f : Link → Link = λ l. record l { request_delay = c.args.request; reply_delay = c.args.reply } in
    record {
      count = same-count links who link f processes h s.count s.links below c.in-Some.ensures.value;
      links = λ p.
          other-link links who link f processes h s.count s.links below c.in-Some.ensures.value p
          ∙ set-delays p c.args.request c.args.reply h (who == p);
      requests = s.requests;
      replies = s.replies;
      live_requests = s.live_requests;
      live_replies = s.live_replies;
      delays = λ p. (
        delay-set 1 (who == p) c.args.request (in_force (request_delay_of p) h) c.requires.request (s.delays p).0,
        delay-set 1 (who == p) c.args.reply (in_force (reply_delay_of p) h) c.requires.reply (s.delays p).1,
      );
    }
