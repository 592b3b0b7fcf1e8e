-- Entries of others leave what a term stands for.
use Rattle.std.proofs.Common.{◌≡◌, false, List, ◌∷◌, Option, None}
use Rattle.kube_base.specs.declared.numbers.Local.{Local}
use Rattle.kube_objects.specs.Document.{Doc}
use Rattle.kube_objects.specs.Elector.{lead_says}
use Rattle.kube_objects.specs.Entry.{Entry, Identity}
use Rattle.node_health.proofs.Frames.{health-same}
use Rattle.term_state.specs.ClusterStands.{no_node, no_pod}
use Rattle.term_state.proofs.Aside.{same_aside}
use Rattle.tick_laws.proofs.Foreign.{foreign_change, foreign_reached}
use Rattle.tick_laws.proofs.Phases.{foreign_limits}
use Rattle.watch_cache.specs.Stands.{is_tick_by}
use Rattle.controller_core.specs.declared.term.Term.{Term}
use Rattle.controller_core.specs.TermStands.{TermStands}
use Rattle.controller_core.specs.FirstSync.{SettlesStand}
use Rattle.controller_core.proofs.Allowed.{allowance_foreign}
use Rattle.controller_core.proofs.Between.{held_stands, last_stands, limits_stand}
use Rattle.controller_core.proofs.HeadsKept.{heads_foreign}
use Rattle.controller_core.proofs.Starting.{others_health}
use Rattle.controller_core.proofs.Evicting.Settled.{settled_foreign}
use Rattle.controller_core.proofs.FirstSync.{settles_beside}

-- an entry that is no tick of the term's own, and the reading from which it may sync
pub others_with : (doc : Doc) (q : Identity) (h : List Entry) (e : Entry) (t : Term) (at : Option Local) → is_tick_by q e.actor e.fact ≡ false → SettlesStand doc q (e ∷ h) at → TermStands doc q h t
    → TermStands doc q (e ∷ h) (record t { settles = at })
others_with doc q h e t at other settles s = record {
  cluster = same_aside q h (e ∷ h) no_node no_pod t.cluster (foreign_change q h e other) s.cluster;
  from = s.from;
  sights = settled_foreign doc.settings.rules.evict_from doc q h e no_pod t.cluster other s.sights;
  reached = foreign_reached q h e other s.reached;
  parts = record {
    allowance = allowance_foreign doc q h e t.allowance other s.parts.allowance;
    health = health-same doc q h (e ∷ h) t.health (others_health q h e other) s.parts.health;
    limits = limits_stand doc q h (e ∷ h) t.zones (foreign_limits q h e other) s.parts.limits;
    queues = heads_foreign doc q h e t.zones other s.parts.queues;
    held = held_stands q h (e ∷ h) t.held (foreign_limits q h e other).known s.parts.held;
    last = last_stands doc q h (e ∷ h) t.last (foreign_limits q h e other).passed ((foreign_limits q h e other).period doc) s.parts.last;
    range = s.parts.range;
    settles = settles;
    settings = s.parts.settings;
  };
}

-- nor its lead
pub others_kept : (doc : Doc) (q : Identity) (h : List Entry) (e : Entry) (t : Term) → is_tick_by q e.actor e.fact ≡ false → lead_says q e.actor e.fact ≡ None → TermStands doc q h t → TermStands doc q (e ∷ h) t
others_kept doc q h e t other unled s = others_with doc q h e t t.settles other (settles_beside doc q h e t.settles unled s.parts.settles) s
