-- A pass leaves who is seen.
use Rattle.std.proofs.Common.{◌≡◌, ◌∙◌, ℕ, Bool, true, false, List, None, refl, ap}
use Rattle.std.specs.Prelude.{if◌then◌else◌}
use Rattle.kube_objects.specs.declared.node.Node.{Node}
use Rattle.kube_objects.specs.declared.node.ZoneState.{ZoneState}
use Rattle.kube_objects.specs.Document.{Doc}
use Rattle.kube_objects.specs.Entry.{Entry, Identity, Mode, Pass, Place, Zone}
use Rattle.kube_objects.specs.Health.{is_pass_due}
use Rattle.kube_objects.specs.Modes.{all_full, mode, nodes, places, rate_in, state_in}
use Rattle.kube_objects.specs.Newest.{has}
use Rattle.kube_objects.specs.Seen.{node_names, seen_node}
use Rattle.kube_objects.specs.Stored.{node_key}
use Rattle.kube_objects.specs.Tick.{add, is_same_mode, marks, mode_as, pass, set_mode, whole_pass, zone, zone_as}
use Rattle.kube_objects.specs.Tokens.{is_rated, rated}
use Rattle.tick_laws.proofs.Frames.{kept_node, mode_change, pass_change, same_node, zone_change}
use Rattle.tick_laws.proofs.Marking.{marks_keep, seen_too}
use Rattle.history_laws.proofs.Ticks.{every}

module _ (doc : Doc) (k : ℕ) (q : Identity) (h : List Entry) where
  abbrev Leaves : List Entry → Type 0
  Leaves g = (n : ℕ) → has (seen_node q n g) ≡ has (seen_node q n h)

  passed : Leaves (add k q Pass h)
  passed n = ap has (kept_node q h (add k q Pass h) None (pass_change q k h) n)

  marked : Leaves (marks doc k q (add k q Pass h))
  marked n = seen_too q (add k q Pass h) (marks doc k q (add k q Pass h)) (marks_keep doc k q (node_names (add k q Pass h)) (add k q Pass h)) n ∙ passed n

  moded : (g : List Entry) → Leaves g → Leaves (set_mode doc k q g)
  moded g s = by_mode (all_full doc (nodes q g))
    where
      by_test : (on b : Bool) → Leaves (if b then g else add k q (Mode on) g)
      by_test on true = s
      by_test on false = λ n. ap has (same_node q n g (add k q (Mode on) g) ((mode_change q k g on).shown (node_key n))) ∙ s n

      by_mode : (on : Bool) → Leaves (mode_as k q on g)
      by_mode on = by_test on (is_same_mode on (mode q g))

  zoned : (seen : List Node) (place : Place) (g : List Entry) → Leaves g → Leaves (zone doc k q seen place g)
  zoned seen place g s = by_state (state_in doc seen place) (rate_in doc (mode q g) seen place)
    where
      by_test : (state : ZoneState) (rate : ℕ) (b : Bool) → Leaves (if b then g else add k q (Zone place state rate) g)
      by_test state rate true = s
      by_test state rate false = λ n. ap has (kept_node q g (add k q (Zone place state rate) g) None (zone_change q k g place state rate) n) ∙ s n

      by_state : (state : ZoneState) (rate : ℕ) → Leaves (zone_as k q place state rate g)
      by_state state rate = by_test state rate (is_rated state rate (rated q place g))

  pub pass_seen : (n : ℕ) → has (seen_node q n (pass doc k q h)) ≡ has (seen_node q n h)
  pass_seen = by_due (is_pass_due doc k q h)
    where
      by_due : (b : Bool) → Leaves (if b then whole_pass doc k q h else h)
      by_due false = λ n. refl
      by_due true =
          let g = set_mode doc k q (marks doc k q (add k q Pass h)) in
          every (zone doc k q (nodes q g)) Leaves (zoned (nodes q g)) (places (nodes q g)) g (moded (marks doc k q (add k q Pass h)) marked)
