use Rattle.std.proofs.Common.{refl, ◌∙◌, ap, cond, ◌==◌, ◌+◌, Some, None}
use Rattle.kube_objects.specs.Document.{of_millis}
use Rattle.kube_objects.specs.Entry.{Leads, entry}
use Rattle.controller_core.proofs.FirstSync.{settles_led}
use Rattle.controller_core.proofs.Others.{others_with}
use Rattle.controller_core.proofs.term.Term.lead.Goals as goal

pub returns : goal.returns
returns c doc k step q version h s is =
    let self = c.args.self.now in
    let settles = c.settles_after-self.ensures ∙ ap (λ n. cond (n == 0) None (Some (c.args.now.0 + of_millis n))) s.parts.settings.first_sync in
    let led = others_with doc q h (entry k step q (Leads version)) self c.settles_after-self.result refl (settles_led doc k step q version h c.args.now.0 c.settles_after-self.result is settles) s in
    record {
      cluster = led.cluster;
      from = led.from;
      sights = led.sights;
      reached = led.reached;
      parts = record {
        allowance = led.parts.allowance;
        health = led.parts.health;
        limits = led.parts.limits;
        queues = led.parts.queues;
        held = led.parts.held;
        last = led.parts.last;
        range = led.parts.range;
        settles = led.parts.settles;
        settings = led.parts.settings;
      };
    }
