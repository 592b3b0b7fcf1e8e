-- A pass begins, and what it leaves.
use Rattle.std.proofs.Common.{◌≡◌, ◌∙◌, ◌≤◌, ℕ, ◌+◌, ◌-◌, ◌*◌, ◌==◌, nat_lt, Bool, true, false, cond, List, [], ◌∷◌, map, length, Some, None, IfSome, refl, sym, ap, subst, arith}
use Rattle.std.specs.Prelude.{if◌then◌else◌}
use Rattle.std.proofs.lemmas.Bool.Decides.{nat_tests}
use Rattle.kube_objects.specs.declared.node.Node.{Node}
use Rattle.kube_objects.specs.declared.node.ZoneState.{ZoneState}
use Rattle.kube_objects.specs.declared.deed.Deed.{Deed}
use Rattle.kube_objects.specs.declared.rules.BucketRule.{BucketRule}
use Rattle.kube_objects.specs.declared.rules.BucketRule.TheVariants.{Empty, Full}
use Rattle.kube_objects.specs.Clocks.{local}
use Rattle.kube_objects.specs.Document.{Doc, of_millis}
use Rattle.kube_objects.specs.Entry.{Entry, Identity, Place, Tick, Pass, Zone, entry, Ticks, Mode}
use Rattle.kube_objects.specs.Health.{at_pass, before_pass, is_found, is_of_beat, is_pass_due, is_pass_tick, last_pass, marked_since, pass_period, pods_to_write, work_of}
use Rattle.kube_objects.specs.Modes.{all_full, mode, nodes, place_of, places, rate_in, size_in, state_in}
use Rattle.kube_objects.specs.Newest.{has, newest, only_if, or_else, when}
use Rattle.kube_objects.specs.Seen.{is_synced, node_names, seen_node}
use Rattle.kube_objects.specs.Tick.{add, is_same_mode, mark, marks, pass, set_mode, set_zones, zone, whole_pass}
use Rattle.kube_objects.specs.Tokens.{base, is_full, is_full_by, is_rated, is_zone, rated}
use Rattle.node_health.proofs.Frames.{health-same, unheard-kind}
use Rattle.node_health.specs.Kept.{is_listed}
use Rattle.node_health.specs.Stands.{HealthStands}
use Rattle.node_health.specs.declared.health.Health.{Health}
use Rattle.object_store.proofs.Keeps.{store-beside}
use Rattle.object_store.specs.Stands.{StoreStands}
use Rattle.object_store.specs.declared.store.Store.{Store}
use Rattle.taint_zones.specs.Limits.{LimitsStand, limit_at}
use Rattle.taint_zones.specs.declared.zones.Zones.{Zones}
use Rattle.controller_core.specs.Working.{pods_counted, pods_passed}
use Rattle.controller_core.specs.Zoned.{ArePassed}
use Rattle.controller_core.proofs.Passing.Looking.{named_passed}
use Rattle.controller_core.proofs.Passing.Marks.{mark_either, mark_view}
use Rattle.term_state.proofs.Aside.{same_aside, refused_moved}
use Rattle.term_state.proofs.Sighted.{sighted_same}
use Rattle.term_state.proofs.Telling.{told_beside}
use Rattle.term_state.specs.ClusterStands.{ClusterStands, no_node, no_pod}
use Rattle.term_state.specs.MidTick.{IsMoved, IsView, MidTick}
use Rattle.term_state.specs.Sights.{SightedBy}
use Rattle.term_state.specs.declared.cluster.Cluster.{Cluster}
use Rattle.term_state.specs.declared.told.Told.{Told}
use Rattle.term_state.specs.declared.view.View.{View}
use Rattle.tick_laws.specs.Steps.{tick_cost}
use Rattle.tick_laws.proofs.Frames.{pass_change, zone_change}
use Rattle.history_laws.proofs.Ticks.{every}
use Rattle.tick_laws.proofs.Phases.{is_passing, mode_step, pass_rest, zone_step}
use Rattle.tick_laws.proofs.Steps.{cost_grows}
use Rattle.tick_laws.proofs.Marking.{KeepsPlaces, marks_keep, seen_too}
use Rattle.tick_laws.proofs.Zoning.{base_passed, nodes_moded, nodes_passed, nodes_placed, rated_passed, size_kept}
use Rattle.tick_laws.proofs.Ticked.{own_before}
use Rattle.watch_cache.proofs.Frames.{upper}
use Rattle.watch_cache.proofs.Ticks.{same_self}
use Rattle.watch_cache.specs.Told.{AreNamed}

-- after the pass's own entry
pub run_pass : (doc : Doc) (q : Identity) (k : ℕ) (before : List Deed) (h : List Entry) (c : Cluster) (s : Store) (t : Told) → MidTick doc q k before h c s t → MidTick doc q k before (add k q Pass h) c s t
run_pass doc q k before h c s t r =
    let change = pass_change q k h in
    record {
      cluster = same_aside q h (add k q Pass h) no_node no_pod c change r.cluster;
      from = r.from;
      sights = sighted_same doc.settings.rules.evict_from doc k q h (add k q Pass h) c (own_before q k Pass h) change r.sights;
      moved = refused_moved q h (add k q Pass h) None change k c c (own_before q k Pass h) (λ n. refl) r.moved;
      store = store-beside h (entry k 4 q (Ticks Pass)) s r.store refl;
      told = told_beside q k before h Pass t refl r.told;
      synced = change.synced ∙ r.synced;
    }

-- the nodes that are found are those that are named
pub found_named : (q : Identity) (h : List Entry) (names : List ℕ) → AreNamed (λ n. has (seen_node q n h)) names → (n : ℕ) → is_found q n h ≡ is_listed names n
found_named q h names are n = sym (are.named n)

-- what a pass adds, where one is due
pub pass_is : (doc : Doc) (k : ℕ) (q : Identity) (h : List Entry) → is_pass_due doc k q h ≡ true → pass doc k q h ≡ set_zones doc k q (set_mode doc k q (marks doc k q (add k q Pass h)))
pass_is doc k q h due = ap (λ b. (if b then whole_pass doc k q h else h)) due

-- ---- the limits of zones, once the marks and the mode are done

positive : (n : ℕ) → (n ≡ 0 → ⊥) → nat_lt 0 n ≡ true
positive n some = grind (arith, nat_tests, some)

module _ (doc : Doc) (k : ℕ) (q : Identity) (h : List Entry) where
  abbrev pub moded : List Entry
  moded = set_mode doc k q (marks doc k q (add k q Pass h))

  marks_left : KeepsPlaces q (add k q Pass h) (marks doc k q (add k q Pass h))
  marks_left = marks_keep doc k q (node_names (add k q Pass h)) (add k q Pass h)

  mode_rated : (on b : Bool) (g : List Entry) (place : Place) → rated q place (if b then g else add k q (Mode on) g) ≡ rated q place g
  mode_rated on true g place = refl
  mode_rated on false g place = refl

  mode_base : (on b : Bool) (g : List Entry) (place : Place) → base q place (if b then g else add k q (Mode on) g) ≡ base q place g
  mode_base on true g place = refl
  mode_base on false g place = refl

  mode_full : (on b : Bool) (g : List Entry) (place : Place) → is_full doc q place (if b then g else add k q (Mode on) g) ≡ is_full doc q place g
  mode_full on true g place = refl
  mode_full on false g place = refl

  marks_full : (g : List Entry) (place : Place) → is_full doc q place (marks doc k q g) ≡ is_full doc q place g
  marks_full g place =
      every (mark doc k q) (λ f. is_full doc q place f ≡ is_full doc q place g)
      (λ name f s. mark_either doc k q name f (λ x. is_full doc q place x ≡ is_full doc q place g) s (λ given written. s))
      (node_names g) g refl

  mode_nodes : (on b : Bool) (g : List Entry) → nodes q (if b then g else add k q (Mode on) g) ≡ nodes q g
  mode_nodes on true g = refl
  mode_nodes on false g = nodes_moded q k g on

  pub moded_size : (place : Place) → size_in place (nodes q moded) ≡ size_in place (nodes q h)
  moded_size place =
      let g = marks doc k q (add k q Pass h) in
      let on = all_full doc (nodes q g) in
      ap (size_in place) (mode_nodes on (is_same_mode on (mode q g)) g) ∙ size_kept q (add k q Pass h) g marks_left place ∙ ap (size_in place) (nodes_passed q k h)

  pub moded_rated : (place : Place) → rated q place moded ≡ cond (is_zone q place h) (rated q place h) None
  moded_rated place =
      let g = marks doc k q (add k q Pass h) in
      let on = all_full doc (nodes q g) in
      mode_rated on (is_same_mode on (mode q g)) g place ∙ marks_left.rated place ∙ rated_passed q k h place

  pub moded_base : (place : Place) → base q place moded ≡ base q place h
  moded_base place =
      let g = marks doc k q (add k q Pass h) in
      let on = all_full doc (nodes q g) in
      mode_base on (is_same_mode on (mode q g)) g place ∙ marks_left.base place ∙ base_passed q k h place

  moded_full : (rule : BucketRule) (place : Place) → is_full_by rule doc q place moded ≡ is_full_by rule doc q place h
  moded_full Empty place = refl
  moded_full Full place =
      let g = marks doc k q (add k q Pass h) in
      let on = all_full doc (nodes q g) in
      mode_full on (is_same_mode on (mode q g)) g place ∙ marks_full (add k q Pass h) place

  pub are_passed : (zones : Zones) → LimitsStand doc q h zones → ArePassed doc q moded zones
  are_passed zones s =
      record {
        there = λ place some.
            let zone : is_zone q place h ≡ true = positive (size_in place (nodes q h)) (λ none. some (moded_size place ∙ none)) in
            record {
              rated = (s place).rated ∙ sym (moded_rated place ∙ ap (λ b. cond b (rated q place h) None) zone);
              rate = (s place).rate;
              base = subst (λ (b : ℕ). IfSome (limit_at zones place) (λ limit. limit.bucket.base ≡ local doc q.process b)) (sym (moded_base place)) (s place).base;
              full = subst (λ b. IfSome (limit_at zones place) (λ limit. limit.bucket.full ≡ b)) (sym (moded_full doc.settings.rules.bucket place)) (s place).full;
            };
        gone = λ place none. moded_rated place ∙ ap (λ (n : ℕ). cond (nat_lt 0 n) (rated q place h) None) (sym (moded_size place) ∙ none);
      }

-- ---- health through the zones' entries

-- the view is that of the marks
pub marks_view : (doc : Doc) (k : ℕ) (q : Identity) (h : List Entry) (v : View) → IsView doc k q h v → IsView doc k q (marks doc k q h) v
marks_view doc k q h v s = every (mark doc k q) (λ g. IsView doc k q g v) (λ name g. mark_view doc k q name g v) (node_names h) h s

-- the names are those of the nodes after the marks, and there are as many nodes
pub marks_named : (doc : Doc) (k : ℕ) (q : Identity) (h : List Entry) (names : List ℕ) → AreNamed (λ n. has (seen_node q n h)) names → AreNamed (λ n. has (seen_node q n (marks doc k q (add k q Pass h)))) names
marks_named doc k q h names are =
    let passed = named_passed q k h names are in
    record { ascend = are.ascend; named = λ n. passed.named n ∙ sym (seen_too q (add k q Pass h) (marks doc k q (add k q Pass h)) (marks_left doc k q h) n) }

as_many : (xs : List Node) → length (map place_of xs) ≡ length xs
as_many [] = refl
as_many (x ∷ xs) = omega (arith, as_many xs)

pub marks_many : (doc : Doc) (k : ℕ) (q : Identity) (h : List Entry) → length (nodes q (marks doc k q (add k q Pass h))) ≡ length (nodes q h)
marks_many doc k q h =
    let g = marks doc k q (add k q Pass h) in
    sym (as_many (nodes q g))
    ∙ ap length (nodes_placed q (add k q Pass h) g (marks_left doc k q h))
    ∙ as_many (nodes q (add k q Pass h))
    ∙ ap length (nodes_passed q k h)

pub moded_nodes : (doc : Doc) (k : ℕ) (q : Identity) (h : List Entry) → nodes q (moded doc k q h) ≡ nodes q (marks doc k q (add k q Pass h))
moded_nodes doc k q h =
    let g = marks doc k q (add k q Pass h) in
    let on = all_full doc (nodes q g) in
    mode_nodes doc k q h on (is_same_mode on (mode q g)) g

-- ---- what the zones' entries leave

pub record Zoned (doc : Doc) (q : Identity) (k : ℕ) (h : List Entry) (c : Cluster) (s : Store) (x : Health) : Type 0 where
  pub cluster : ClusterStands q h c
  pub from : c.evict_from ≡ doc.settings.rules.evict_from
  pub sights : SightedBy doc.settings.rules.evict_from doc k q h c
  pub moved : IsMoved q k h c
  pub store : StoreStands h s
  pub synced : is_synced q h ≡ true
  pub health : HealthStands doc q h x

zone_more : (doc : Doc) (q : Identity) (k : ℕ) (h : List Entry) (place : Place) (state : ZoneState) (rate : ℕ) (c : Cluster) (s : Store) (x : Health) → Zoned doc q k h c s x → Zoned doc q k (add k q (Zone place state rate) h) c s x
zone_more doc q k h place state rate c s x r =
    let t = Zone place state rate in
    let change = zone_change q k h place state rate in
    record {
      cluster = same_aside q h (add k q t h) no_node no_pod c change r.cluster;
      from = r.from;
      sights = sighted_same doc.settings.rules.evict_from doc k q h (add k q t h) c (own_before q k t h) change r.sights;
      moved = refused_moved q h (add k q t h) None change k c c (own_before q k t h) (λ n. refl) r.moved;
      store = store-beside h (entry k 4 q (Ticks t)) s r.store refl;
      synced = change.synced ∙ r.synced;
      health = health-same doc q h (add k q t h) x (unheard-kind q h (entry k 4 q (Ticks t)) refl) r.health;
    }

pub zones_leave : (doc : Doc) (k : ℕ) (q : Identity) (h : List Entry) (c : Cluster) (s : Store) (x : Health) → Zoned doc q k h c s x → Zoned doc q k (set_zones doc k q h) c s x
zones_leave doc k q h c s x r = every (zone doc k q (nodes q h)) (λ g. Zoned doc q k g c s x) each (places (nodes q h)) h r
  where
    by_test : (place : Place) (g : List Entry) → Zoned doc q k g c s x → (state : ZoneState) (rate : ℕ) (b : Bool) → Zoned doc q k (if b then g else add k q (Zone place state rate) g) c s x
    by_test place g r state rate true = r
    by_test place g r state rate false = zone_more doc q k g place state rate c s x r

    each : (place : Place) (g : List Entry) → Zoned doc q k g c s x → Zoned doc q k (zone doc k q (nodes q h) place g) c s x
    each place g r =
        let state = state_in doc (nodes q h) place in
        let rate = rate_in doc (mode q g) (nodes q h) place in
        by_test place g r state rate (is_rated state rate (rated q place g))

-- ---- the last pass, and the cost

pub pass_last : (doc : Doc) (k : ℕ) (q : Identity) (h : List Entry) → last_pass q (set_zones doc k q (set_mode doc k q (marks doc k q (add k q Pass h)))) ≡ Some k
pass_last doc k q h = pass_rest doc k q (λ g. last_pass q g ≡ Some k) more (add k q Pass h) (now h)
  where
    now : (g : List Entry) → last_pass q (add k q Pass g) ≡ Some k
    now g = ap (λ b. upper (when b k) (last_pass q g)) (same_self q)

    more : (t : Tick) (g : List Entry) → is_passing t ≡ true → last_pass q g ≡ Some k → last_pass q (add k q t g) ≡ Some k
    more Pass g is last = now g
    more t g is last = last

pub pass_tick : (doc : Doc) (k : ℕ) (q : Identity) (h : List Entry) → is_pass_tick k q (whole_pass doc k q h) ≡ true
pass_tick doc k q h = ap (is_of_beat k) (pass_last doc k q h) ∙ (let itself : (k == k) ≡ true = grind (arith, nat_tests) in itself)

pub rest_cost : (doc : Doc) (k : ℕ) (q : Identity) (g : List Entry) → tick_cost q k g ≤ tick_cost q k (set_zones doc k q (set_mode doc k q g))
rest_cost doc k q g =
    every (zone doc k q (nodes q moded_g)) (λ f. tick_cost q k g ≤ tick_cost q k f) (zone_step doc k q (λ f. tick_cost q k g ≤ tick_cost q k f) grows (nodes q moded_g)) (places (nodes q moded_g)) moded_g
    (mode_step doc k q (λ f. tick_cost q k g ≤ tick_cost q k f) grows g (omega arith))
  where
    moded_g : List Entry
    moded_g = set_mode doc k q g

    grows : (t : Tick) (f : List Entry) → is_passing t ≡ true → tick_cost q k g ≤ tick_cost q k f → tick_cost q k g ≤ tick_cost q k (add k q t f)
    grows t f is le = omega (arith, le, cost_grows q k f t)

-- ---- the pass's work

module _ (doc : Doc) (k : ℕ) (q : Identity) where
  -- the mode and the zones say nothing of it
  abbrev WorksAlike : List Entry → List Entry → Type 0
  WorksAlike m g = (before_pass q g ≡ before_pass q m) × (marked_since q g ≡ marked_since q m)

  moded_works : (m : List Entry) → WorksAlike m (set_mode doc k q m)
  moded_works m = by_test (all_full doc (nodes q m)) (is_same_mode (all_full doc (nodes q m)) (mode q m))
    where
      by_test : (on b : Bool) → WorksAlike m (if b then m else add k q (Mode on) m)
      by_test on true = (refl, refl)
      by_test on false = (refl, refl)

  zoned_works : (m : List Entry) → WorksAlike m (set_zones doc k q (set_mode doc k q m))
  zoned_works m = every (zone doc k q (nodes q (set_mode doc k q m))) (WorksAlike m) each (places (nodes q (set_mode doc k q m))) (set_mode doc k q m) (moded_works m)
    where
      by_test : (place : Place) (g : List Entry) → WorksAlike m g → (state : ZoneState) (rate : ℕ) (b : Bool) → WorksAlike m (if b then g else add k q (Zone place state rate) g)
      by_test place g s state rate true = s
      by_test place g s state rate false = s

      each : (place : Place) (g : List Entry) → WorksAlike m g → WorksAlike m (zone doc k q (nodes q (set_mode doc k q m)) place g)
      each place g s =
          let state = state_in doc (nodes q (set_mode doc k q m)) place in
          let rate = rate_in doc (mode q g) (nodes q (set_mode doc k q m)) place in
          by_test place g s state rate (is_rated state rate (rated q place g))

  marked_before : (h : List Entry) → before_pass q (marks doc k q (add k q Pass h)) ≡ h
  marked_before h =
      every (mark doc k q) (λ g. before_pass q g ≡ h) (λ name g s. mark_either doc k q name g (λ f. before_pass q f ≡ h) s (λ given written. s)) (node_names (add k q Pass h)) (add k q Pass h)
      (ap (λ b. or_else [] (upper (only_if b (Some h)) (newest (λ e T. at_pass q (λ T. Some T) e.actor e.fact T) h))) (same_self q))

no_pods : (millis burst : ℕ) → work_of millis burst 0 ≡ 0
unfolding of_millis
no_pods millis burst =
    ap (λ n. of_millis (millis * n)) (let none : 0 - burst ≡ 0 = omega arith in none)
    ∙ ap of_millis (let none : millis * 0 ≡ 0 = omega arith in none)

-- how long after a pass the next one is due, by the pods that it counted
pub period_is : (doc : Doc) (k : ℕ) (q : Identity) (h : List Entry) → pass_period doc q (set_zones doc k q (set_mode doc k q (marks doc k q (add k q Pass h))))
    ≡ of_millis doc.settings.monitor_period_millis + work_of doc.settings.rules.ready_millis doc.settings.rules.ready_burst (pods_counted doc q h (marks doc k q (add k q Pass h)))
period_is doc k q h =
    let m = marks doc k q (add k q Pass h) in
    let alike = zoned_works doc k q m in
    ap (λ ns. period (doc.settings.rules.ready_millis == 0) ns (before_pass q (set_zones doc k q (set_mode doc k q m)))) alike.1
    ∙ ap (period (doc.settings.rules.ready_millis == 0) (marked_since q m)) (alike.0 ∙ marked_before doc k q h)
    ∙ by_test (doc.settings.rules.ready_millis == 0)
  where
    period : Bool → List ℕ → List Entry → ℕ
    period b names g =
        elim b [
          | true ↦ of_millis doc.settings.monitor_period_millis
          | false ↦ of_millis doc.settings.monitor_period_millis + work_of doc.settings.rules.ready_millis doc.settings.rules.ready_burst (pods_to_write q names g)
        ]

    by_test : (b : Bool) → period b (marked_since q (marks doc k q (add k q Pass h))) h
        ≡ of_millis doc.settings.monitor_period_millis
        + work_of doc.settings.rules.ready_millis doc.settings.rules.ready_burst (cond b 0 (pods_to_write q (marked_since q (marks doc k q (add k q Pass h))) h))
    by_test true =
        let none = no_pods doc.settings.rules.ready_millis doc.settings.rules.ready_burst in
        omega (arith, none)
    by_test false = refl

-- how many it counted
pub passed_pods : (doc : Doc) (k : ℕ) (q : Identity) (h : List Entry) → is_pass_due doc k q h ≡ true → pods_passed doc k q h ≡ pods_counted doc q h (marks doc k q (add k q Pass h))
passed_pods doc k q h due =
    let m = marks doc k q (add k q Pass h) in
    ap (λ b. cond b (pods_counted doc q h (if b then whole_pass doc k q h else h)) 0) due
    ∙ ap (λ ns. cond (doc.settings.rules.ready_millis == 0) 0 (pods_to_write q ns h)) (zoned_works doc k q m).1
