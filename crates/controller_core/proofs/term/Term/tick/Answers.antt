use Rattle.std.proofs.Common.{◌≡◌, ◌∙◌, ◌++◌, ap, subst}
use Rattle.history.specs.Printed.{printed}
use Rattle.kube_objects.specs.declared.deed.Actor.TheVariants as actor
use Rattle.kube_objects.specs.Entry.{actor_of}
use Rattle.kube_objects.specs.Tick.{tick}
use Rattle.leader_elector.specs.Stands.{Names}
use Rattle.term_state.specs.ClusterStands.{no_node, no_pod}
use Rattle.term_state.specs.MidTick.{IsTold}
use Rattle.controller_core.proofs.Evicting.Settled.{settled_kept}
use Rattle.controller_core.proofs.term.Term.tick.Goals as goal

pub returns : goal.returns
returns g c doc k q h s st v acts beats upto led start unpassed small =
    let names = subst (λ x. Names x c.identity-incarnation.result) acts c.identity-incarnation.ensures in
    let who : actor.Proc c.identity-incarnation.result.0 c.identity-incarnation.result.1 ≡ actor_of q = λ i. actor.Proc (record { 0 = names.0 i }) (names.1 i) in
    let told = subst (λ n. IsTold q n (printed h) h c.new-told.result) v.beat (c.new-told.ensures.stands q h who) in
    let both = c.in_ok-begin.ensures doc k q (printed h) h s st told v beats upto led start unpassed small in
    let w = both.0 in (
      record {
        term = record {
          cluster = c.forget_moved.ensures.stands q (tick doc k q h) no_node no_pod w.term.cluster;
          from = c.forget_moved.ensures.retained.from ∙ w.term.from;
          sights = settled_kept doc.settings.rules.evict_from doc q (tick doc k q h) no_pod _ _ w.term.from c.forget_moved.ensures.retained c.forget_moved.ensures.touched w.term.sights;
          reached = w.term.reached;
          parts = record {
            allowance = w.term.parts.allowance;
            health = w.term.parts.health;
            limits = w.term.parts.limits;
            queues = w.term.parts.queues;
            held = w.term.parts.held;
            last = w.term.parts.last;
            range = w.term.parts.range;
            settles = w.term.parts.settles;
            settings = w.term.parts.settings;
          };
        };
        store = w.store;
        told = ap (λ xs. printed h ++ xs) c.into_deeds.ensures ∙ w.told.told;
      },
      both.1,
    )
