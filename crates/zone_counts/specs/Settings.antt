-- The settings of a tick are the document's.
use Rattle.std.specs.Prelude.{◌≡◌}
use Rattle.kube_objects.specs.declared.settings.TickSettings.{TickSettings}
use Rattle.kube_objects.specs.Document.{Doc}

pub record AreSettings (doc : Doc) (s : TickSettings) : Type 0 where
  pub first_sync : s.first_sync_millis ≡ doc.settings.rules.first_sync_millis
  pub probe : s.probe ≡ doc.settings.rules.probe
  pub monitor : s.monitor_period_millis ≡ doc.settings.monitor_period_millis
  pub grace : s.grace_period_millis ≡ doc.settings.grace_period_millis
  pub startup : s.startup_grace_millis ≡ doc.settings.startup_grace_millis
  pub primary : s.primary_rate ≡ doc.settings.primary_rate
  pub secondary : s.secondary_rate ≡ doc.settings.secondary_rate
  pub large : s.large_zone ≡ doc.settings.large_zone
  pub percent : s.unhealthy_percent ≡ doc.settings.unhealthy_percent
  pub policy : s.rate_policy ≡ doc.settings.rate_policy
  pub judge : s.judge ≡ doc.settings.rules.judge
  pub first_sight : s.first_sight ≡ doc.settings.rules.first_sight
  pub queue : s.queue ≡ doc.settings.rules.queue
  pub bucket : s.bucket ≡ doc.settings.rules.bucket
  pub evict_from : s.evict_from ≡ doc.settings.rules.evict_from
  pub evict_burst : s.evict_burst ≡ doc.settings.rules.evict_burst
  pub evict_rate : s.evict_rate ≡ doc.settings.rules.evict_rate
  pub ready_millis : s.ready_millis ≡ doc.settings.rules.ready_millis
  pub ready_burst : s.ready_burst ≡ doc.settings.rules.ready_burst
