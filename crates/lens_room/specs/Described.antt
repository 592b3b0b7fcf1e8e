-- The document that settings describe: two controllers of the same timings, one with a clock as slow and one as fast as the skew lets it be.
-- Settings say nothing of the network, so replies may be lost. What a lease premise doesn't read is as in a document that doesn't say it.
use Rattle.std.specs.Prelude.{ℕ, pos, ◌+◌, ◌-◌, true, false, List, [], ◌∷◌}
use Rattle.kube_objects.specs.declared.node.ReadyStatus.TheVariants.{True}
use Rattle.kube_objects.specs.declared.script.Event.{Event}
use Rattle.kube_objects.specs.declared.script.Proc.{Proc}
use Rattle.kube_objects.specs.declared.script.What.TheVariants.{Loss, Delay}
use Rattle.kube_objects.specs.declared.settings.RatePolicy.TheVariants.{Standard}
use Rattle.kube_objects.specs.declared.settings.Settings.{Settings}
use Rattle.kube_objects.specs.Document.{Doc}
use Rattle.kube_objects.specs.Rules.{own_rules, own_waits}
use Rattle.lens_room.specs.declared.by_flags.flags.Flags.{Flags}
use Rattle.lens_room.specs.Flags.{timeout_of}

abbrev pub slow : Flags → ℕ
slow flags = 1000000 - flags.skew_ppm

abbrev pub fast : Flags → ℕ
fast flags = 1000000 + flags.skew_ppm

-- a controller with these timings, by the number of its name and its clock's rate
abbrev pub controller : Flags → ℕ → ℕ → Proc
controller flags name rate = record {
  name = name;
  rate_ppm = rate;
  offset_millis = pos 0;
  up = true;
  watch = true;
  ready = True;
  lease_seconds = flags.lease_seconds;
  renew_millis = flags.renew_millis;
  retry_millis = flags.retry_millis;
  timeout_millis = timeout_of flags;
}

abbrev pub settings_of : Flags → Settings
settings_of flags = record {
  beat_millis = flags.beat_millis;
  end_beat = record { 0 = 0 };
  epoch = record { 0 = 1577836800000000 };
  lease_duration_seconds = flags.lease_seconds;
  renew_deadline_millis = flags.renew_millis;
  retry_period_millis = flags.retry_millis;
  call_timeout_millis = timeout_of flags;
  restart_millis = 1000;
  monitor_period_millis = 5000;
  grace_period_millis = 40000;
  startup_grace_millis = 60000;
  node_lease_duration_seconds = 40;
  primary_rate = 100;
  secondary_rate = 10;
  large_zone = 50;
  unhealthy_percent = 55;
  fast_renew = true;
  rate_policy = Standard;
  rules = record own_rules { release = flags.release; in_release = flags.in_release };
}

-- from the start on replies to the first controller are lost
abbrev pub lost : Event
lost = record { beat = record { 0 = 0 }; what = Loss (record { 0 = 0 }) false true }

abbrev pub described : Flags → Doc
described flags = record {
  settings = settings_of flags;
  controllers = controller flags 0 (slow flags) ∷ controller flags 1 (fast flags) ∷ [];
  kubelets = [];
  waits = own_waits ∷ own_waits ∷ [];
  objects = [];
  events = lost ∷ [];
}

-- the same where no reply is lost, and each comes within so many beats
abbrev pub delayed : ℕ → ℕ → Event
delayed id beats = record { beat = record { 0 = 0 }; what = Delay (record { 0 = id }) 0 beats }

abbrev pub with_events : List Event → Doc → Doc
with_events events doc = record doc { events = events }

abbrev pub answered : Flags → ℕ → Doc
answered flags beats = with_events (delayed 0 beats ∷ delayed 1 beats ∷ []) (described flags)
