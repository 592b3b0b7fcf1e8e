-- A tick of a controller keeps a history of which all can be written.
use Rattle.std.proofs.Common.{◌≡◌, ℕ, nat_le, ◌≤◌, ◌==◌, ◌&&◌, ◌||◌, not, Bool, true, false, cond, List, [], ◌∷◌, ◌++◌, map, filter, Option, Some, None, refl, sym, subst, arith}
use Rattle.std.specs.Prelude.{if◌then◌else◌}
use Rattle.std.proofs.lemmas.Bool.{eqb-true, leb-true}
use Rattle.std.specs.List.{AllByRecursion, list_any}
use Rattle.kube_base.specs.Times.{last_wall}
use Rattle.kube_base.specs.declared.fixed.TheConstants.{NOT_READY, UNREACHABLE}
use Rattle.kube_base.specs.declared.numbers.Version.{Version}
use Rattle.kube_objects.specs.declared.call.Answer.{Answer}
use Rattle.kube_objects.specs.declared.call.Answer.TheVariants as answers
use Rattle.kube_objects.specs.declared.call.Reply.{Reply}
use Rattle.kube_objects.specs.declared.call.Reply.TheVariants as reply
use Rattle.kube_objects.specs.declared.deed.Act.{Act}
use Rattle.kube_objects.specs.declared.deed.Act.TheVariants as act
use Rattle.kube_objects.specs.declared.key.Key.{Key}
use Rattle.kube_objects.specs.declared.node.Node.{Node}
use Rattle.kube_objects.specs.declared.node.Ready.{Ready}
use Rattle.kube_objects.specs.declared.node.ReadyStatus.{ReadyStatus}
use Rattle.kube_objects.specs.declared.node.ReadyStatus.TheVariants as ready
use Rattle.kube_objects.specs.declared.node.Taint.{Taint}
use Rattle.kube_objects.specs.declared.node.ZoneState.{ZoneState}
use Rattle.kube_objects.specs.declared.pod.Pod.{Pod}
use Rattle.kube_objects.specs.declared.rules.EvictRule.{EvictRule}
use Rattle.kube_objects.specs.declared.rules.EvictRule.TheVariants.{Added, Seen}
use Rattle.kube_objects.specs.Answers.{as_kind, answer_update}
use Rattle.kube_objects.specs.Clocks.{wall, whole_second}
use Rattle.kube_objects.specs.Deletes.{delete_at_node, delete_over, delete_alone_over}
use Rattle.kube_objects.specs.Document.{Doc}
use Rattle.kube_objects.specs.Entry.{Entry, Identity, Place, Ticks, Tick, Sync, Pass, Mark, Mode, Zone, Untaint, Swap, Head, Delete, Skip, actor_of}
use Rattle.kube_objects.specs.Health.{is_pass_due, is_unknown, is_silent, marked, with_mark}
use Rattle.kube_objects.specs.InForce.{watches}
use Rattle.kube_objects.specs.Judgement.{Passed, has_marked, judged_by, is_new}
use Rattle.kube_objects.specs.Modes.{is_in, and_node, nodes_among, nodes, place_of, place_cmp, places, state_in, rate_in, all_full, mode}
use Rattle.kube_objects.specs.Newest.{when, only_if}
use Rattle.kube_objects.specs.Seen.{seen, pod_in, seen_node, seen_pod, is_fresh, is_synced, is_stale, node_names, is_pod}
use Rattle.kube_objects.specs.Stored.{Held, node_key, stored, next_version, node_write, try_write, tick_write}
use Rattle.kube_objects.specs.Tainting.{Wants, Nothing, Wanted, Whatever, wants_by, wants_ready, wants, is_condition, has_condition, is_wanted, is_opposite, wanted_key, lacks, lacks_in, waits, Queued, head_of}
use Rattle.kube_objects.specs.Tick.{add, for_each, has_settled, is_stripped, sync, mark_as, mark_seen, mark, is_same_mode, mode_as, set_mode, zone_as, zone, set_zones, marks, pass, new_taint, with_taints, untainted, and_taint, swapped, clean_as, clean_seen, clean, cleaned, retainted, crossed, judge, tainted_with, taint_as, taint_head, taint, restamped, push, tainted, evict, tick, whole_pass, add_untaint, add_swap, taint_first, phases}
use Rattle.kube_objects.specs.Tokens.{rated, is_rated, has_token}
use Rattle.kube_objects.specs.Tries.{as_answer, tried, try_node, try_delete, try_delete_alone}
use Rattle.kube_objects.specs.Wire.{loses_requests}
use Rattle.kube_objects.specs.Writable.{answers_write, is_condition_key}
use Rattle.history.specs.Printed.{map_answer, tick_act}
use Rattle.history_laws.proofs.Counting.{only_test, only_value}
use Rattle.history_laws.proofs.Plainly.{some_is, none_is, false_is, and_both, not_true}
use Rattle.history_laws.proofs.Ticks.{IsPodKey, IsDeleteBy, every, mark_step, mode_step, zone_step, clean_step, judge_step, taint_step, push_step, evict_step, cleaned_each, tainted_each, evicted_each, kept_sync, kept_pass, kept_tick}
use Rattle.manifest_json.specs.Fields.{Texts}
use Rattle.manifest_json.specs.Readable.{IsHeld, IsFilled, IsNameNumber, IsWholeSecond, IsReadableTaint, IsReadableReady, taints_differ}
use Rattle.naming_laws.specs.WellFormed.{IsWellFormedNode}
use Rattle.naming_laws.proofs.Answered.{second_whole}
use Rattle.naming_laws.proofs.Fits.{IsFitWrite, IsTold, IsFitFact, AreFit, IsFitFound, seen_fit, node_seen_fit}
use Rattle.naming_laws.proofs.Lists.{all_append, all_filter, all_map, all_once}
use Rattle.naming_laws.proofs.Readings.{space_held}
use Rattle.naming_laws.proofs.Requests.{IsEarly}
use Rattle.naming_laws.proofs.Taints.{differ_filter, differ_added, replaced, differ_replaced, none_replaced, none_wanted, none_left, none_filtered}
use Rattle.naming_laws.proofs.Texts.{HoldsFixed}

-- ---- answers of tries

-- a try is answered as a write is
abbrev IsTried : Option Answer → Type 0
IsTried None = Unit {0}
IsTried (Some a) = answers_write a ≡ true

tried_fit : (q : Identity) (replied : Reply) (h : List Entry) → IsTried (as_answer replied) → IsTried (tried q replied h)
tried_fit q replied h fit = by_loss (not (loses_requests q.process h))
  where
    by_loss : (b : Bool) → IsTried (only_if b (as_answer replied))
    by_loss true = fit
    by_loss false = tt

update_tried : (next given : Version) (o : Option Held) → IsTried (as_answer (answer_update next given o))
update_tried next given None = refl
update_tried next given (Some x) = by_version (x.version.0 == given.0)
  where
    by_version : (b : Bool) → IsTried (as_answer (cond b (reply.Done next) (reply.Conflict x.version)))
    by_version true = refl
    by_version false = refl

delete_tried : (next given node_given : Version) (pod node : Option Held) → IsTried (as_answer (delete_over next given node_given pod node))
delete_tried next given node_given None at = refl
delete_tried next given node_given (Some pod) None = refl
delete_tried next given node_given (Some pod) (Some node) = by_version (pod.version.0 == given.0)
  where
    at_node : (b : Bool) → IsTried (as_answer (cond b (reply.Done next) (reply.Conflict node.version)))
    at_node true = refl
    at_node false = refl

    by_version : (b : Bool) → IsTried (as_answer (cond b (delete_at_node next node_given (Some node)) (reply.Conflict pod.version)))
    by_version true = at_node (node.version.0 == node_given.0)
    by_version false = refl

node_tried : (q : Identity) (name : ℕ) (given : Version) (h : List Entry) → IsTried (try_node q name given h)
node_tried q name given h = tried_fit q (answer_update (next_version h) given (stored (node_key name) h)) h (update_tried (next_version h) given (stored (node_key name) h))

pod_tried : (q : Identity) (pod : Key) (given : Version) (node : ℕ) (node_given : Version) (h : List Entry) → IsTried (try_delete q pod given node node_given h)
pod_tried q pod given node node_given h =
    tried_fit q (delete_over (next_version h) given node_given (stored pod h) (stored (node_key node) h)) h (delete_tried (next_version h) given node_given (stored pod h) (stored (node_key node) h))

alone_tried : (next given : Version) (a : Option Held) → IsTried (as_answer (delete_alone_over next given a))
alone_tried next given None = refl
alone_tried next given (Some a) = by_version (a.version.0 == given.0)
  where
    by_version : (b : Bool) → IsTried (as_answer (cond b (reply.Done next) (reply.Conflict a.version)))
    by_version true = refl
    by_version false = refl

pod_tried_alone : (q : Identity) (pod : Key) (given : Version) (h : List Entry) → IsTried (try_delete_alone q pod given h)
pod_tried_alone q pod given h = tried_fit q (delete_alone_over (next_version h) given (stored pod h)) h (alone_tried (next_version h) given (stored pod h))

-- ---- wanted taints

abbrev IsWantedKey : Option ℕ → Type 0
IsWantedKey None = Unit {0}
IsWantedKey (Some key) = is_condition_key key ≡ true

by_ready : (o : Option Ready) → IsWantedKey (wanted_key (wants_ready o))
by_ready None = tt
by_ready (Some r) = by_status r.status
  where
    by_status : (s : ReadyStatus) → IsWantedKey (wanted_key (wants_by s))
    by_status ready.True = tt
    by_status ready.False = refl
    by_status ready.Unknown = refl

judged_fit : (marked : Bool) (o : Option Ready) (wanted : ℕ) → judged_by marked o ≡ Wanted wanted → is_condition_key wanted ≡ true
judged_fit marked o wanted is = subst (λ w. IsWantedKey (wanted_key w)) is (by_old marked o)
  where
    by_old : (marked : Bool) (o : Option Ready) → IsWantedKey (wanted_key (judged_by marked o))
    by_old marked (Some r) = by_ready (Some r)
    by_old true None = refl
    by_old false None = tt

wanted_fit : (on : Bool) (node : Node) → IsWantedKey (wanted_key (wants on node))
wanted_fit true node = tt
wanted_fit false node = by_ready node.ready

waits_fit : (on : Bool) (place : Place) (o : Option (Version × Node)) (wanted : ℕ) → lacks_in on place o ≡ Some wanted → is_condition_key wanted ≡ true
waits_fit on place None wanted is = absurd (none_is wanted is)
waits_fit on place (Some x) wanted is =
    let lacked : lacks on x.1 ≡ Some wanted = only_value (is_in place x.1) (lacks on x.1) wanted is in
    subst IsWantedKey (only_value (not (has_condition x.1)) (wanted_key (wants on x.1)) wanted lacked) (wanted_fit on x.1)

-- who waits has no condition taint
bare_fit : (on : Bool) (place : Place) (o : Option (Version × Node)) (x : Version × Node) (wanted : ℕ) → o ≡ Some x → lacks_in on place o ≡ Some wanted → has_condition x.1 ≡ false
bare_fit on place None x wanted at is = absurd (none_is x at)
bare_fit on place (Some y) x wanted at is =
    let lacked : lacks on y.1 ≡ Some wanted = only_value (is_in place y.1) (lacks on y.1) wanted is in
    subst (λ (z : Version × Node). has_condition z.1 ≡ false) (some_is y x at) (not_true (has_condition y.1) (only_test (not (has_condition y.1)) (wanted_key (wants on y.1)) wanted lacked))

-- ---- the tick

module _ (names : Texts) (known : List ℕ) (fixed : HoldsFixed names) (doc : Doc) (k : ℕ) (q : Identity) (early : IsEarly doc q.process k) where
  abbrev Fit : List Entry → Type 0
  Fit h = AreFit names known h

  condition_held : (key : ℕ) → is_condition_key key ≡ true → IsHeld names key × IsFilled names key
  condition_held key is = by_both (key == NOT_READY) (key == UNREACHABLE) refl refl is
    where
      by_both : (a b : Bool) → (key == NOT_READY) ≡ a → (key == UNREACHABLE) ≡ b → (a || b) ≡ true → IsHeld names key × IsFilled names key
      by_both true b first second is =
          let same = eqb-true key NOT_READY first in (omega (arith, fixed.held, same), subst (IsFilled names) (sym same) fixed.not_ready)
      by_both false true first second is =
          let same = eqb-true key UNREACHABLE second in (omega (arith, fixed.held, same), subst (IsFilled names) (sym same) fixed.unreachable)
      by_both false false first second is = absurd (false_is is)

  second_early : IsWholeSecond (Some (record { 0 = whole_second (wall doc q.process k) }))
  second_early = second_whole (wall doc q.process k) early

  -- ---- nodes that are written

  marked_fit : (node : Node) → IsWellFormedNode names node → IsWellFormedNode names (with_mark (whole_second (wall doc q.process k)) node)
  marked_fit node fit = record { region = fit.region; zone = fit.zone; taints = fit.taints; differ = fit.differ; ready = by_old node.ready fit.ready }
    where
      by_old : (o : Option Ready) → IsReadableReady names o → IsReadableReady names (Some (marked (whole_second (wall doc q.process k)) o))
      by_old None old = record { reason = omega (arith, fixed.held); heartbeat = tt; transition = second_early }
      by_old (Some r) old = record { reason = omega (arith, fixed.held); heartbeat = old.heartbeat; transition = second_early }

  new_fit : (wanted : ℕ) → is_condition_key wanted ≡ true → IsReadableTaint names (new_taint doc k q wanted)
  new_fit wanted key = let held = condition_held wanted key in record { key = held.0; filled = held.1; value = omega (arith, fixed.held); added = second_early }

  taints_fit : (node : Node) (taints : List Taint) → IsWellFormedNode names node → AllByRecursion (IsReadableTaint names) taints → taints_differ [] taints ≡ true
      → IsWellFormedNode names (with_taints node taints)
  taints_fit node taints fit all differ = record { region = fit.region; zone = fit.zone; taints = all; differ = differ; ready = fit.ready }

  untainted_fit : (node : Node) → IsWellFormedNode names node → IsWellFormedNode names (untainted node)
  untainted_fit node fit =
      taints_fit node _ fit (all_filter (IsReadableTaint names) (λ taint. not (is_condition taint)) node.taints fit.taints)
      (differ_filter (λ taint. not (is_condition taint)) node.taints fit.differ)

  swapped_fit : (wanted : ℕ) (node : Node) → is_condition_key wanted ≡ true → IsWellFormedNode names node → IsWellFormedNode names (swapped (new_taint doc k q wanted) node)
  swapped_fit wanted node key fit =
      let both = by_there (list_any (is_wanted wanted) node.taints) refl in
      taints_fit node _ fit both.0 both.1
    where
      others : List Taint
      others = filter (λ other. not (is_opposite wanted other)) node.taints

      left : AllByRecursion (IsReadableTaint names) others
      left = all_filter (IsReadableTaint names) (λ other. not (is_opposite wanted other)) node.taints fit.taints

      apart : taints_differ [] others ≡ true
      apart = differ_filter (λ other. not (is_opposite wanted other)) node.taints fit.differ

      AreGood : List Taint → Type 0
      AreGood taints = AllByRecursion (IsReadableTaint names) taints × (taints_differ [] taints ≡ true)

      by_there : (b : Bool) → list_any (is_wanted wanted) node.taints ≡ b → AreGood (and_taint b (new_taint doc k q wanted) others)
      by_there true is = (left, apart)
      by_there false is = (
        all_append (IsReadableTaint names) others (new_taint doc k q wanted ∷ []) left (new_fit wanted key, tt),
        differ_added doc k q wanted key others (none_filtered (is_wanted wanted) (λ other. not (is_opposite wanted other)) node.taints is) apart,
      )

  retainted_fit : (wanted : ℕ) (node : Node) → is_condition_key wanted ≡ true → IsWellFormedNode names node → IsWellFormedNode names (retainted (new_taint doc k q wanted) node)
  retainted_fit wanted node key fit =
      let bare = untainted_fit node fit in
      taints_fit node _ fit (all_append (IsReadableTaint names) (untainted node).taints (new_taint doc k q wanted ∷ []) bare.taints (new_fit wanted key, tt))
      (differ_added doc k q wanted key (untainted node).taints (none_wanted wanted (untainted node).taints (none_left node.taints)) bare.differ)

  restamped_fit : (wanted : ℕ) (node : Node) → is_condition_key wanted ≡ true → IsWellFormedNode names node → IsWellFormedNode names (restamped (new_taint doc k q wanted) node)
  restamped_fit wanted node key fit =
      let both = by_there (list_any (is_wanted wanted) node.taints) refl in
      taints_fit node _ fit both.0 both.1
    where
      others : List Taint
      others = filter (λ other. not (is_opposite wanted other)) node.taints

      replace : Taint → Taint
      replace other = replaced doc k q wanted key other

      left : AllByRecursion (IsReadableTaint names) others
      left = all_filter (IsReadableTaint names) (λ other. not (is_opposite wanted other)) node.taints fit.taints

      apart : taints_differ [] others ≡ true
      apart = differ_filter (λ other. not (is_opposite wanted other)) node.taints fit.differ

      by_one : (t : Taint) → IsReadableTaint names t → (b : Bool) → IsReadableTaint names (if b then new_taint doc k q wanted else t)
      by_one t old true = new_fit wanted key
      by_one t old false = old

      all : AllByRecursion (IsReadableTaint names) (map replace others)
      all = all_map (IsReadableTaint names) replace others (λ t old. by_one t old (is_wanted wanted t)) left

      AreGood : List Taint → Type 0
      AreGood taints = AllByRecursion (IsReadableTaint names) taints × (taints_differ [] taints ≡ true)

      by_there : (b : Bool) → list_any (is_wanted wanted) node.taints ≡ b → AreGood (and_taint b (new_taint doc k q wanted) (map replace others))
      by_there true is = (all, differ_replaced doc k q wanted key others apart)
      by_there false is =
          let none = none_filtered (is_wanted wanted) (λ other. not (is_opposite wanted other)) node.taints is in
          let same = none_replaced doc k q wanted key others none in (
            all_append (IsReadableTaint names) (map replace others) (new_taint doc k q wanted ∷ []) all (new_fit wanted key, tt),
            subst (λ ts. taints_differ [] (ts ++ new_taint doc k q wanted ∷ []) ≡ true) (sym same) (differ_added doc k q wanted key others none apart),
          )

  tainted_fit : (wanted : ℕ) (node : Node) → is_condition_key wanted ≡ true → has_condition node ≡ false → IsWellFormedNode names node
      → IsWellFormedNode names (tainted_with (new_taint doc k q wanted) node)
  tainted_fit wanted node key none fit =
      taints_fit node _ fit (all_append (IsReadableTaint names) node.taints (new_taint doc k q wanted ∷ []) fit.taints (new_fit wanted key, tt))
      (differ_added doc k q wanted key node.taints (none_wanted wanted node.taints none) fit.differ)

  -- ---- entries of tries

  told_by : (make : Answer → Act) → ((a : Answer) → answers_write a ≡ true → IsTold names (actor_of q) (Some (make a))) → (o : Option Answer) → IsTried o → IsTold names (actor_of q) (map_answer make o)
  told_by make each None is = tt
  told_by make each (Some a) is = each a is

  wrote_by : (name : ℕ) (written : Node) → IsNameNumber names name → IsWellFormedNode names written → (o : Option Answer) → IsFitWrite names known (try_write (node_write name written) o)
  wrote_by name written held fit None = tt
  wrote_by name written held fit (Some (answers.Done version)) = record { kind = refl; named = (held, refl); object = fit }
  wrote_by name written held fit (Some answers.Absent) = tt
  wrote_by name written held fit (Some answers.Exists) = tt
  wrote_by name written held fit (Some (answers.Conflict version)) = tt

  mark_fact : (name : ℕ) (given : Version) (node : Node) (h : List Entry) → IsFitFound names known name node
      → IsFitFact names known (actor_of q) (Ticks (Mark name given (with_mark (whole_second (wall doc q.process k)) node) (try_node q name given h)))
  mark_fact name given node h found = record {
    told = by_reason node.ready (try_node q name given h) (node_tried q name given h);
    wrote = wrote_by name (with_mark (whole_second (wall doc q.process k)) node) found.held (marked_fit node found.fit) (try_node q name given h);
    carries = tt;
  }
    where
      by_reason : (r : Option Ready) (o : Option Answer) → IsTried o → IsTold names (actor_of q) (map_answer (λ a. act.Marked name (marked (whole_second (wall doc q.process k)) r).reason a) o)
      by_reason None o tried = told_by _ (λ a is. (record { form = is; held = (found.held.0, (omega (arith, fixed.held), tt)); timely = tt }, refl)) o tried
      by_reason (Some r) o tried = told_by _ (λ a is. (record { form = is; held = (found.held.0, (omega (arith, fixed.held), tt)); timely = tt }, refl)) o tried

  untaint_fact : (name : ℕ) (given : Version) (node : Node) (h : List Entry) → IsFitFound names known name node
      → IsFitFact names known (actor_of q) (Ticks (Untaint name given (untainted node) (try_node q name given h)))
  untaint_fact name given node h found = record {
    told = told_by (λ a. act.Untainted name a) (λ a is. (record { form = is; held = (found.held.0, tt); timely = tt }, refl)) (try_node q name given h) (node_tried q name given h);
    wrote = wrote_by name (untainted node) found.held (untainted_fit node found.fit) (try_node q name given h);
    carries = tt;
  }

  swap_as : (name wanted : ℕ) (given : Version) (node written : Node) (h : List Entry) → is_condition_key wanted ≡ true → IsFitFound names known name node → IsWellFormedNode names written
      → IsFitFact names known (actor_of q) (Ticks (Swap name wanted given written (try_node q name given h)))
  swap_as name wanted given node written h key found fit = let held = condition_held wanted key in record {
    told = told_by (λ a. act.Swapped name wanted a) (λ a is. (record { form = and_both (is_condition_key wanted) (answers_write a) key is; held = (found.held.0, (held.0, tt)); timely = tt }, refl))
        (try_node q name given h) (node_tried q name given h);
    wrote = wrote_by name written found.held fit (try_node q name given h);
    carries = tt;
  }

  swap_fact : (name wanted : ℕ) (given : Version) (node : Node) (h : List Entry) → is_condition_key wanted ≡ true → IsFitFound names known name node
      → IsFitFact names known (actor_of q) (Ticks (Swap name wanted given (swapped (new_taint doc k q wanted) node) (try_node q name given h)))
  swap_fact name wanted given node h key found = swap_as name wanted given node (swapped (new_taint doc k q wanted) node) h key found (swapped_fit wanted node key found.fit)

  -- a swap of a pass, of a node that may be new
  crossed_fact : (new : Bool) (name wanted : ℕ) (given : Version) (node : Node) (h : List Entry) → is_condition_key wanted ≡ true → IsFitFound names known name node
      → IsFitFact names known (actor_of q) (Ticks (Swap name wanted given (crossed new (new_taint doc k q wanted) node) (try_node q name given h)))
  crossed_fact false name wanted given node h key found = swap_fact name wanted given node h key found
  crossed_fact true name wanted given node h key found = swap_as name wanted given node (retainted (new_taint doc k q wanted) node) h key found (retainted_fit wanted node key found.fit)

  head_as : (place : Place) (name wanted : ℕ) (given : Version) (node written : Node) (h : List Entry) → is_condition_key wanted ≡ true → IsFitFound names known name node → IsWellFormedNode names written
      → IsFitFact names known (actor_of q) (Ticks (Head place name wanted given written (try_node q name given h)))
  head_as place name wanted given node written h key found fit = let held = condition_held wanted key in record {
    told = told_by (λ a. act.Tainted name wanted a) (λ a is. (record { form = and_both (is_condition_key wanted) (answers_write a) key is; held = (found.held.0, (held.0, tt)); timely = tt }, refl))
        (try_node q name given h) (node_tried q name given h);
    wrote = wrote_by name written found.held fit (try_node q name given h);
    carries = tt;
  }

  head_fact : (place : Place) (name wanted : ℕ) (given : Version) (node : Node) (h : List Entry) → is_condition_key wanted ≡ true → has_condition node ≡ false → IsFitFound names known name node
      → IsFitFact names known (actor_of q) (Ticks (Head place name wanted given (tainted_with (new_taint doc k q wanted) node) (try_node q name given h)))
  head_fact place name wanted given node h key none found =
      head_as place name wanted given node (tainted_with (new_taint doc k q wanted) node) h key found (tainted_fit wanted node key none found.fit)

  -- a push, of a node that may have condition taints
  pushed_fact : (place : Place) (name wanted : ℕ) (given : Version) (node : Node) (h : List Entry) → is_condition_key wanted ≡ true → IsFitFound names known name node
      → IsFitFact names known (actor_of q) (Ticks (Head place name wanted given (restamped (new_taint doc k q wanted) node) (try_node q name given h)))
  pushed_fact place name wanted given node h key found =
      head_as place name wanted given node (restamped (new_taint doc k q wanted) node) h key found (restamped_fit wanted node key found.fit)

  delete_wrote : (pod : Key) (o : Option Answer) → IsFitWrite names known (try_write (pod, None) o)
  delete_wrote pod None = tt
  delete_wrote pod (Some (answers.Done version)) = tt
  delete_wrote pod (Some answers.Absent) = tt
  delete_wrote pod (Some answers.Exists) = tt
  delete_wrote pod (Some (answers.Conflict version)) = tt

  pod_seen : (pod : Key) (given : Version) (x : Pod) (h : List Entry) → Fit h → seen_pod q pod h ≡ Some (given, x) → IsHeld names pod.space × IsHeld names pod.name
  pod_seen pod given x h fit is = by_seen (seen q pod h) refl is
    where
      by_seen : (o : Option Held) → seen q pod h ≡ o → as_kind pod_in o ≡ Some (given, x) → IsHeld names pod.space × IsHeld names pod.name
      by_seen None at is = absurd (none_is (given, x) is)
      by_seen (Some y) at is = let item = seen_fit names known q h fit pod y at in (space_held names fixed pod item.named, item.named.0.0)

  deleted_fact : (pod : Key) (given node_given : Version) (at : ℕ) (a : Option Answer) (x : Pod) (h : List Entry) → Fit h → is_pod pod.kind ≡ true → seen_pod q pod h ≡ Some (given, x)
      → nat_le at (wall doc q.process k) ≡ true → IsTried a → IsFitFact names known (actor_of q) (Ticks (Delete pod given node_given at a))
  deleted_fact pod given node_given at a x h fit kind sees test tried = record {
    told = told_by (λ a. act.Evicted pod (record { 0 = at }) a) (λ a is. (record { form = and_both (is_pod pod.kind) (answers_write a) kind is; held = (held.0, (held.1, tt)); timely = due }, refl)) a tried;
    wrote = delete_wrote pod a;
    carries = tt;
  }
    where
      held : IsHeld names pod.space × IsHeld names pod.name
      held = pod_seen pod given x h fit sees

      due : at ≤ last_wall
      due = omega (arith, early, leb-true at (wall doc q.process k) test)

  delete_fits : (rule : EvictRule) (pod : Key) (given node_given : Version) (at : ℕ) (a : Option Answer) (h : List Entry) → Fit h → IsDeleteBy rule doc k q pod given node_given at a h
      → IsFitFact names known (actor_of q) (Ticks (Delete pod given node_given at a))
  delete_fits Added pod given node_given at a h fit made =
      deleted_fact pod given node_given at a made.x h fit made.kind made.sees made.test (subst IsTried (sym made.is) (pod_tried q pod given made.x.node node_given h))
  delete_fits Seen pod given node_given at a h fit made = deleted_fact pod given node_given at a made.x h fit made.kind made.sees made.test (subst IsTried (sym made.is) (pod_tried_alone q pod given h))

  -- ---- zones

  abbrev IsHeldPlace : Place → Type 0
  IsHeldPlace place = IsHeld names place.region × IsHeld names place.zone

  among_fit : (h : List Entry) → Fit h → (ns : List ℕ) → AllByRecursion (IsWellFormedNode names) (nodes_among q ns h)
  among_fit h fit [] = tt
  among_fit h fit (n ∷ ns) = by_seen (among_fit h fit ns) (seen_node q n h) refl
    where
      by_seen : AllByRecursion (IsWellFormedNode names) (nodes_among q ns h) → (o : Option (Version × Node)) → seen_node q n h ≡ o → AllByRecursion (IsWellFormedNode names) (and_node o (nodes_among q ns h))
      by_seen rest None is = rest
      by_seen rest (Some x) is = ((node_seen_fit names known q h fit n x is).fit, rest)

  places_held : (ns : List Node) → AllByRecursion (IsWellFormedNode names) ns → AllByRecursion IsHeldPlace (places ns)
  places_held [] all = tt
  places_held (n ∷ ns) all = all_once place_cmp IsHeldPlace (place_of n) (places ns) (all.0.region.0, all.0.zone.0) (places_held ns all.1)

  -- ---- the walk

  those : {A : Type 0} (f : A → List Entry → List Entry) (Q : A → Type 0) → ((a : A) (h : List Entry) → Q a → Fit h → Fit (f a h)) → (xs : List A) (h : List Entry) → AllByRecursion Q xs → Fit h → Fit (for_each f xs h)
  those f Q keeps [] h all fit = fit
  those f Q keeps (x ∷ xs) h all fit = those f Q keeps xs (f x h) all.1 (keeps x h all.0 fit)

  silent : (t : Tick) (h : List Entry) → IsTold names (actor_of q) (tick_act t) → IsFitWrite names known (tick_write t) → Fit h → Fit (add k q t h)
  silent t h told wrote fit = (record { told = told; wrote = wrote; carries = tt }, fit)

  keeps_mark : (name : ℕ) (h : List Entry) → Fit h → Fit (mark doc k q name h)
  keeps_mark name h fit = mark_step doc k q (AreFit names known) name h fit (λ x is. (mark_fact name x.0 x.1 h (node_seen_fit names known q h fit name x is), fit))

  keeps_mode : (h : List Entry) → Fit h → Fit (set_mode doc k q h)
  keeps_mode h fit = mode_step doc k q (AreFit names known) h fit (λ on. silent (Mode on) h (record { form = refl; held = tt; timely = tt }, refl) tt fit)

  keeps_zone : (ns : List Node) (place : Place) (h : List Entry) → IsHeldPlace place → Fit h → Fit (zone doc k q ns place h)
  keeps_zone ns place h held fit =
      zone_step doc k q (AreFit names known) ns place h fit
      (λ s rate most. silent (Zone place s rate) h (record { form = refl; held = (held.0, (held.1, tt)); timely = tt }, refl) tt fit)

  keeps_zones : (h : List Entry) → Fit h → Fit (set_zones doc k q h)
  keeps_zones h fit =
      those (zone doc k q (nodes q h)) IsHeldPlace (λ place g held fit. keeps_zone (nodes q h) place g held fit) (places (nodes q h)) h
      (places_held (nodes q h) (among_fit h fit (node_names h))) fit

  keeps_clean : (name : ℕ) (h : List Entry) → Fit h → Fit (clean doc k q name h)
  keeps_clean name h fit =
      clean_step doc k q (AreFit names known) name h fit (λ x is. (untaint_fact name x.0 x.1 h (node_seen_fit names known q h fit name x is), fit))
      (λ x is wanted want. (swap_fact name wanted x.0 x.1 h (subst (λ w. IsWantedKey (wanted_key w)) want (wanted_fit (is_stripped doc.settings.rules.first_sight k q name h || mode q h) x.1)) (node_seen_fit names known q h fit name x is), fit))

  keeps_judge : (x : Passed) (name : ℕ) (h : List Entry) → Fit h → Fit (judge doc k q x name h)
  keeps_judge x name h fit =
      judge_step doc k q (AreFit names known) x name h fit (λ z is. (untaint_fact name z.0 z.1 h (node_seen_fit names known q h fit name z is), fit))
      (λ y z was is wanted wants. (crossed_fact (is_new doc q name x.before) name wanted z.0 z.1 h (judged_fit (has_marked q name x) y.1.ready wanted wants) (node_seen_fit names known q h fit name z is), fit))

  keeps_taint : (place : Place) (h : List Entry) → Fit h → Fit (taint doc k q place h)
  keeps_taint place h fit =
      taint_step doc k q (AreFit names known) place h fit
      (λ name wanted x token waiting is.
      (head_fact place name wanted x.0 x.1 h (waits_fit (mode q h) place (seen_node q name h) wanted waiting) (bare_fit (mode q h) place (seen_node q name h) x wanted is waiting) (node_seen_fit names known q h fit name x is), fit))

  keeps_push : (place : Place) (h : List Entry) → Fit h → Fit (push doc k q place h)
  keeps_push place h fit =
      push_step doc k q (AreFit names known) place h fit (λ name token. silent (Skip place name) h tt tt fit)
      (λ name x token is wanted wants. (pushed_fact place name wanted x.0 x.1 h (subst (λ w. IsWantedKey (wanted_key w)) wants (by_ready x.1.ready)) (node_seen_fit names known q h fit name x is), fit))

  keeps_evict : (pod : Key) (h : List Entry) → IsPodKey pod → Fit h → Fit (evict doc k q pod h)
  keeps_evict pod h kind fit =
      evict_step doc k q (AreFit names known) pod h kind fit (λ given node_given at a made. (delete_fits doc.settings.rules.evict_from pod given node_given at a h fit made, fit))

  pub keeps_tick : (h : List Entry) → Fit h → Fit (tick doc k q h)
  keeps_tick =
      kept_tick doc k q (AreFit names known) (kept_sync doc k q (AreFit names known) (λ h fit. silent Sync h tt tt fit))
      (kept_pass doc k q (AreFit names known) (λ h fit. silent Pass h tt tt fit)
      (λ h fit. keeps_zones (set_mode doc k q (marks doc k q h)) (keeps_mode (marks doc k q h) (every (mark doc k q) (AreFit names known) keeps_mark (node_names h) h fit))))
      (cleaned_each doc k q (AreFit names known) keeps_clean keeps_judge) (tainted_each doc k q (AreFit names known) keeps_taint keeps_push) (evicted_each doc k q (AreFit names known) keeps_evict)
