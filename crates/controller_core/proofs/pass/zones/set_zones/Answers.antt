use Rattle.std.proofs.Common.{◌≡◌, length, refl, rules}
use Rattle.kube_objects.specs.Modes.{nodes}
use Rattle.controller_core.proofs.Passing.ZoneWalk.{zone_step, zoning_begins, zoning_ends}
use Rattle.controller_core.proofs.pass.zones.set_zones.Goals as goal

pub loop-zone-init : goal.loop-zone-init
loop-zone-init g c =
    record {
      zoning = λ doc k q before h owed. zoning_begins doc k q before h _ _ _ _ _ _ c.new-kept.result owed (λ p. search rules);
      queues = refl;
      pushes = refl;
    }

pub loop-zone-preserved : goal.loop-zone-preserved
loop-zone-preserved g c =
    record {
      zoning = λ doc k q before h owed.
          zone_step doc k q before h _ _ _ _ _ _ owed c.loop-zone.rest.now c.in-Some.others.now c.in-Some.zone.now c.loop-zone.kept c.insert.new.self c.loop-zone.zones _ c.loop-zone.told c.tell.new.told
          (c.loop-zone.invariant.zoning doc k q before h owed) (search rules) c.remove-old.result c.remove-old.ensures.value c.remove-old.ensures.updates.0
          c.state-state.result c.rate-rate.result c.limit_after-limit.result c.is_rated.result
          (λ place is. c.state-state.ensures doc (nodes q h) place is owed.settings_are.percent)
          (λ place is. c.rate-rate.ensures doc (nodes q h) place is owed.settings_are owed.few)
          (λ g place s. c.is_rated.ensures doc q g place s)
          (λ g place s. c.limit_after-limit.ensures doc k q g place s owed.settings_are.bucket owed.time)
          c.in_ok-insert.ensures.updates.0
          (λ g s. c.in_ok-tell.ensures k q before g s);
      queues = c.loop-zone.invariant.queues;
      pushes = c.loop-zone.invariant.pushes;
    }

pub returns-clause-stands : goal.returns-clause-stands
returns-clause-stands g c doc k q before h told passed counted few on settings time =
    let none : length c.loop-zone.rest.now ≡ 0 = search rules in
    zoning_ends doc k q before h c.loop-zone.rest.now c.loop-zone.kept c.loop-zone.zones (record { limits = c.loop-zone.kept; queues = c.loop-zone.zones.queues; pushes = c.loop-zone.zones.pushes }) c.loop-zone.told none refl
    (c.loop-zone.invariant.zoning doc k q before h (record { printed = told; passed = passed; counted = counted; few = few; on_is = on; settings_are = settings; time = time }))
