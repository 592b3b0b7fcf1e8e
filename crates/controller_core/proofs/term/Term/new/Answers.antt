use Rattle.std.proofs.Common.{◌≡◌, ◌∙◌, ◌-◌, ◌*◌, IfSome, ap, sym, subst, option_map, arith}
use Rattle.kube_objects.specs.Clocks.{local}
use Rattle.kube_objects.specs.Tokens.{base, is_full_by}
use Rattle.history_laws.proofs.Plainly.{false_is}
use Rattle.taint_zones.specs.Limits.{rated_of}
use Rattle.term_state.specs.ClusterStands.{no_pod}
use Rattle.term_state.specs.Sights.{SettledBy}
use Rattle.controller_core.specs.Allowing.{AllowanceStands}
use Rattle.controller_core.specs.Looking.{HeldStand}
use Rattle.controller_core.proofs.Starting.{no_debt, no_pass, no_heads_yet, no_rate, none_held, none_reached, unlooked}
use Rattle.controller_core.proofs.term.Term.new.Goals as goal

pub returns : goal.returns
returns c doc q h none unled s = record {
  cluster = c.new.ensures.stands q h none;
  from = c.new.ensures.from ∙ s.evict_from;
  sights = subst (λ r. SettledBy r doc q h no_pod c.new.result) s.evict_from (c.new.ensures.sights doc q h none);
  reached = none_reached q h none;
  parts = record {
    allowance = subst (AllowanceStands doc q h) (sym c.full.ensures) (record {
      burst = s.evict_burst;
      rate = s.evict_rate;
      owed = λ some now. let nothing : 0 - (now - 0) * c.args.settings.now.evict_rate ≡ 0 = omega arith in nothing ∙ sym (no_debt doc q now h none);
    });
    health = c.new-2.ensures.stands doc q h s.probe (unlooked q h none);
    limits = λ place. record {
      rated = ap rated_of (c.new-3.ensures.limits place) ∙ sym (no_rate q place h none);
      rate = subst (λ x. IfSome x (λ limit. limit.bucket.rate ≡ limit.rate)) (sym (c.new-3.ensures.limits place)) tt;
      base = subst (λ x. IfSome x (λ limit. limit.bucket.base ≡ local doc q.process (base q place h))) (sym (c.new-3.ensures.limits place)) tt;
      full = subst (λ x. IfSome x (λ limit. limit.bucket.full ≡ is_full_by doc.settings.rules.bucket doc q place h)) (sym (c.new-3.ensures.limits place)) tt;
    };
    queues = no_heads_yet doc q h c.new-3.result none c.new-3.ensures.queues c.new-3.ensures.pushes c.new-3.ensures.counts;
    held = subst (HeldStand q h) (sym c.new-4.ensures) (none_held q h none);
    last = record { reading = sym (ap (option_map (local doc q.process)) (no_pass q h none)); period = tt };
    range = tt;
    settles = λ led. absurd (false_is (sym unled ∙ led));
    settings = s;
  };
}
