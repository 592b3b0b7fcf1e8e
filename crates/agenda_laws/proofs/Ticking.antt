-- What a tick adds something for.
use Rattle.std.proofs.Common.{◌≡◌, ◌↔◌, ◌⊎◌, ℕ, zero, suc, ◌+◌, ◌-◌, ◌*◌, ◌<◌, ◌≤◌, ◌==◌, ◌&&◌, ◌||◌, not, max, nat_lt, nat_le, Bool, true, false, cond, List, [], ◌∷◌, Option, Some, None, refl, sym, ap, ◌∙◌, subst, inl, inr, ⊎_elim, arith}
use Rattle.std.specs.Prelude.{if◌then◌else◌}
use Rattle.std.specs.Int.{div_ceil}
use Rattle.std.specs.List.{list_any}
use Rattle.std.proofs.Math.Nat.{mul-le-mul_right}
use Rattle.std.proofs.lemmas.Bool.{cases_lt, eqb-true, leb-false, le-leb, ltb-true, lt-ltb, lt-leb}
use Rattle.std.proofs.lemmas.Bool.Decides.{nat_tests}
use Rattle.std.proofs.lemmas.Grind.{div_ceil_times}
use Rattle.kube_base.specs.declared.numbers.Version.{Version}
use Rattle.kube_objects.specs.declared.key.Key.{Key}
use Rattle.kube_objects.specs.declared.node.Node.{Node}
use Rattle.kube_objects.specs.declared.node.ZoneState.{ZoneState}
use Rattle.kube_objects.specs.declared.pod.Due.{Due}
use Rattle.kube_objects.specs.declared.pod.Due.TheVariants.{Never, At}
use Rattle.kube_objects.specs.declared.pod.Pod.{Pod}
use Rattle.kube_objects.specs.declared.rules.EvictRule.{EvictRule}
use Rattle.kube_objects.specs.declared.rules.EvictRule.TheVariants as evictions
use Rattle.kube_objects.specs.declared.rules.JudgeRule.{JudgeRule}
use Rattle.kube_objects.specs.declared.rules.JudgeRule.TheVariants as judges
use Rattle.kube_objects.specs.declared.rules.SightRule.{SightRule}
use Rattle.kube_objects.specs.declared.rules.SightRule.TheVariants.{Keep, Strip}
use Rattle.kube_objects.specs.Clocks.{local, wall}
use Rattle.kube_objects.specs.Deletes.{no_version}
use Rattle.kube_objects.specs.Document.{Doc, of_millis}
use Rattle.kube_objects.specs.Elector.{led_at}
use Rattle.kube_objects.specs.Entry.{Entry, Identity, Place, Pass, Sync, Mode, Zone, Delete}
use Rattle.kube_objects.specs.Health.{mark_of, before_pass, is_known, is_pass_tick, last_pass, pass_period, is_after_pass, is_pass_due}
use Rattle.kube_objects.specs.Judgement.{passes, queue}
use Rattle.kube_objects.specs.Modes.{nodes, places, mode, state_in, rate_in, all_full}
use Rattle.kube_objects.specs.Newest.{only_if, has}
use Rattle.kube_objects.specs.Seen.{seen_node, seen_pod, is_synced, is_stale, node_names, pod_keys}
use Rattle.kube_objects.specs.Sightings.{sighted_due}
use Rattle.kube_objects.specs.Stored.{node_key}
use Rattle.kube_objects.specs.Tainting.{Wants, Nothing, Wanted, Whatever, wants, wants_ready, has_condition, is_opposite, lacks_in, waits, Queued, queued, queued_as, first, head_of}
use Rattle.kube_objects.specs.Tick.{add, has_settled, sync, is_stripped, mark_as, mark_seen, mark, marks, is_same_mode, set_mode, zone, set_zones, pass, clean_as, clean_seen, clean, cleaned, cleaned_by, judge_all, push_as, push_seen, push_first, push, tainted, tainted_by, taint_as, taint_head, taint, evict_due, evict_on, evict_seen, evict_sighted, evict_by, evict, evict_within, evicted, tick, whole_pass, add_untaint, add_swap, taint_first, add_delete, for_each, due_on_seen, due_seen as in_cache, due_by, insert_due, and_due, dues, has_room, spends}
use Rattle.kube_objects.specs.Tokens.{Rated, rated, is_rated, base, token_size, is_full_by, is_grown, is_there, has_token}
use Rattle.kube_objects.specs.Tolerations.{due}
use Rattle.kube_objects.specs.Tries.{try_delete_alone}
use Rattle.history_laws.specs.Tails.{IsTail, Among}
use Rattle.history_laws.proofs.Plainly.{true_is, false_is, some_is, none_is}
use Rattle.history_laws.proofs.Tailed.{tail_all, tail_trans}
use Rattle.history_laws.proofs.Ticks.{pods_of_dues}
use Rattle.agenda_laws.specs.Parts.{IsStillSynced}
use Rattle.agenda_laws.specs.Ticking.{is_sync_due, is_sync_at_once, sync_at, IsEarlySync, SyncsWake, synced_reading, is_unclean, is_unclean_seen, is_clean_due, CleansWake, has_clean_due_by, has_clean_due, minds_passes, HadNoPass, JudgesWake, pass_after, pass_at, PassesWake, token_after, token_from, token_at, has_first, has_head_by, has_head, head_at, turn_by, HeadsWake, heads_at, queue_places_by, queue_places, time_of, due_on, due_seen, due_sighted, due_at_by, due_at, DeletesWake, dues_at, later, room_after, room_from, RoomsWake, room_at, IsEarlyTick, TicksWake}
use Rattle.agenda_laws.specs.Times.{is_early, sooner}
use Rattle.agenda_laws.proofs.Between.{longer, grew, each_adds, each_still, still_each, or_none, none_or, and_none, none_and, sooner_both, both_sooner}
use Rattle.agenda_laws.proofs.Parts.{ticks_add_by_parts}
use Rattle.agenda_laws.proofs.Times.{Waits, never}
use Rattle.kube_objects.proofs.Tokens.{empty_grown, token_is_there}

-- what adds nothing exactly where a test fails
abbrev Needs : List Entry → List Entry → Bool → Type 0
Needs next h test = next ≡ h ↔ test ≡ false

idle : (h : List Entry) → Needs h h false
idle h = (λ is. refl, λ is. refl)

busy : (x : Entry) (h : List Entry) → Needs (x ∷ h) h true
busy x h = (λ is. absurd (grew x h is), λ is. absurd (true_is is))

-- ---- some of many

any_none : {A : Type 0} (f : A → Bool) (xs : List A) → list_any f xs ≡ false → (x : A) → Among x xs → f x ≡ false
any_none f [] is x at = absurd at
any_none f (y ∷ ys) is x (inl same) = subst (λ z. f z ≡ false) (sym same) (or_none (f y) (list_any f ys) is).0
any_none f (y ∷ ys) is x (inr at) = any_none f ys (or_none (f y) (list_any f ys) is).1 x at

none_any : {A : Type 0} (f : A → Bool) (xs : List A) → ((x : A) → Among x xs → f x ≡ false) → list_any f xs ≡ false
none_any f [] none = refl
none_any f (y ∷ ys) none = none_or (f y) (list_any f ys) (none y (inl refl)) (none_any f ys (λ x at. none x (inr at)))

-- ---- the token

token_some : 0 < token_size
unfolding token_size
token_some = omega arith

-- a span at a rate makes up a size exactly from the size, divided by the rate and rounded up, on
span_is : (size span rate : ℕ) → 0 < rate → (size ≤ span * rate → div_ceil size rate ≤ span) × (div_ceil size rate ≤ span → size ≤ span * rate)
span_is size span rate some =
    let times = div_ceil_times size rate some in (
      λ full. by_less full times (cases_lt span (div_ceil size rate)),
      λ long. let more : div_ceil size rate * rate ≤ span * rate = mul-le-mul_right rate long in omega (arith, times.0, more),
    )
  where
    by_less : size ≤ span * rate → (size ≤ div_ceil size rate * rate) × (div_ceil size rate * rate < size + rate) → (span < div_ceil size rate) ⊎ (div_ceil size rate ≤ span) → div_ceil size rate ≤ span
    by_less full times (inr long) = long
    by_less full times (inl short) = let more : suc span * rate ≤ div_ceil size rate * rate = mul-le-mul_right rate short in absurd (omega (arith, full, times.1, more))

span_some : (size rate span : ℕ) → 0 < size → size ≤ span * rate → 0 < span
span_some size rate zero some is = absurd (omega (arith, some, is))
span_some size rate (suc span) some is = omega arith

module _ (size reads from rate : ℕ) (some : 0 < size) where
  abbrev ready : ℕ
  ready = from + div_ceil size rate

  grown_early : 0 < rate → nat_le size ((reads - from) * rate) ≡ false → nat_lt reads ready ≡ true
  grown_early runs is = lt-ltb reads ready (by_less (cases_lt reads ready))
    where
      by_less : (reads < ready) ⊎ (ready ≤ reads) → reads < ready
      by_less (inl before) = before
      by_less (inr after) =
          let full = (span_is size (reads - from) rate runs).1 (omega (arith, after)) in
          absurd (omega (arith, full, leb-false size ((reads - from) * rate) is))

  early_grown : 0 < rate → nat_lt reads ready ≡ true → nat_le size ((reads - from) * rate) ≡ false
  early_grown runs is = lt-leb size ((reads - from) * rate) (by_less (cases_lt ((reads - from) * rate) size))
    where
      by_less : ((reads - from) * rate < size) ⊎ (size ≤ (reads - from) * rate) → (reads - from) * rate < size
      by_less (inl short) = short
      by_less (inr full) =
          let long = (span_is size (reads - from) rate runs).0 full in
          let more = span_some size rate (div_ceil size rate) some (div_ceil_times size rate runs).0 in
          absurd (omega (arith, long, more, ltb-true reads ready is))

  grown_none : rate ≡ 0 → nat_le size ((reads - from) * rate) ≡ false
  grown_none none = rw none (lt-leb size ((reads - from) * 0) (omega (arith, some)))

  grown_by : (b : Bool) → (rate == 0) ≡ b → nat_le size ((reads - from) * rate) ≡ false ↔ is_early reads (cond b None (Some ready)) ≡ true
  grown_by true is = (λ x. refl, λ x. grown_none (eqb-true rate 0 is))
  grown_by false is =
      let runs : 0 < rate = grind (arith, nat_tests) in
      (grown_early runs, early_grown runs)

pub grown_waits : (reads from : ℕ) (o : Option Rated) → is_grown (reads - from) o ≡ false ↔ is_early reads (token_after from o) ≡ true
grown_waits reads from None = (λ is. refl, λ is. refl)
grown_waits reads from (Some x) = grown_by token_size reads from x.1 token_some (x.1 == 0) refl

zero_never : (reads : ℕ) → nat_lt reads 0 ≡ false
zero_never reads = grind (arith, nat_tests)

-- the same of a bucket that may be full
pub full_waits : (full : Bool) (reads from : ℕ) (o : Option Rated) → is_there full (reads - from) o ≡ false ↔ is_early reads (token_from full from o) ≡ true
full_waits false reads from o = subst (λ b. b ≡ false ↔ is_early reads (token_after from o) ≡ true) (sym (empty_grown (reads - from) o)) (grown_waits reads from o)
full_waits true reads from None = (λ is. refl, λ is. refl)
full_waits true reads from (Some x) = by_rate (x.1 == 0)
  where
    by_rate : (none : Bool) → (not none && true) ≡ false ↔ is_early reads (cond none None (Some 0)) ≡ true
    by_rate true = (λ is. refl, λ is. refl)
    by_rate false = (λ is. absurd (true_is is), λ is. absurd (true_is (sym is ∙ zero_never reads)))

-- ---- a further delete within the limit

later_early : (reads : ℕ) (a b : Option ℕ) (x y : Bool) → (x ≡ false ↔ is_early reads a ≡ true) → (y ≡ false ↔ is_early reads b ≡ true) → (x && y) ≡ false ↔ is_early reads (later a b) ≡ true
later_early reads a b x y one other = (λ is. by_left x y a b one.0 other.0 is, λ is. by_right x y a b one.1 other.1 is)
  where
    most : (m n : ℕ) → (nat_lt reads m ≡ true) ⊎ (nat_lt reads n ≡ true) → nat_lt reads (max m n) ≡ true
    most m n (inl is) = grind (arith, nat_tests)
    most m n (inr is) = grind (arith, nat_tests)

    of_most : (m n : ℕ) → nat_lt reads (max m n) ≡ true → (nat_lt reads m ≡ true) ⊎ (nat_lt reads n ≡ true)
    of_most m n is = by_first (nat_lt reads m) refl
      where
        by_first : (t : Bool) → nat_lt reads m ≡ t → (t ≡ true) ⊎ (nat_lt reads n ≡ true)
        by_first true first = inl refl
        by_first false first = inr (grind (arith, nat_tests))

    one_of : (a b : Option ℕ) → (is_early reads a ≡ true) ⊎ (is_early reads b ≡ true) → is_early reads (later a b) ≡ true
    one_of None b is = refl
    one_of (Some m) None is = refl
    one_of (Some m) (Some n) is = most m n is

    of_one : (a b : Option ℕ) → is_early reads (later a b) ≡ true → (is_early reads a ≡ true) ⊎ (is_early reads b ≡ true)
    of_one None b is = inl refl
    of_one (Some m) None is = inr refl
    of_one (Some m) (Some n) is = of_most m n is

    by_left : (x y : Bool) (a b : Option ℕ) → (x ≡ false → is_early reads a ≡ true) → (y ≡ false → is_early reads b ≡ true) → (x && y) ≡ false → is_early reads (later a b) ≡ true
    by_left true y a b one other is = one_of a b (inr (other is))
    by_left false y a b one other is = one_of a b (inl (one refl))

    by_right : (x y : Bool) (a b : Option ℕ) → (is_early reads a ≡ true → x ≡ false) → (is_early reads b ≡ true → y ≡ false) → is_early reads (later a b) ≡ true → (x && y) ≡ false
    by_right true y a b one other is = ⊎_elim (λ first. absurd (true_is (one first))) (λ second. other second) (of_one a b is)
    by_right false y a b one other is = refl

room_waits : (reads from owed rate : ℕ) → nat_le owed ((reads - from) * rate) ≡ false ↔ is_early reads (room_after from owed rate) ≡ true
room_waits reads from zero rate = (λ is. absurd (true_is (sym (le-leb 0 ((reads - from) * rate) (omega arith)) ∙ is)), λ is. absurd (false_is (sym (zero_never reads) ∙ is)))
room_waits reads from (suc owed) rate = grown_by (suc owed) reads from rate (omega arith) (rate == 0) refl

rooms_wait : RoomsWake
rooms_wait doc k q after [] = (λ is. absurd (true_is is), λ is. absurd (false_is (sym (zero_never (local doc q.process k)) ∙ is)))
rooms_wait doc k q after (e ∷ h) = by_spent (rooms_wait doc k q after h) (rooms_wait doc k q (after + 1) h) (spends q e.actor e.fact)
  where
    at : ℕ
    at = local doc q.process e.beat

    owed : ℕ
    owed = (after + 2 - doc.settings.rules.evict_burst) * token_size

    Wakes : ℕ → Type 0
    Wakes after = has_room doc q k after h ≡ false ↔ is_early (local doc q.process k) (room_from doc q after h) ≡ true

    by_spent : Wakes after → Wakes (after + 1) → (b : Bool)
        → elim b [ true ↦ nat_le owed ((local doc q.process k - at) * doc.settings.rules.evict_rate) && has_room doc q k (after + 1) h | false ↦ has_room doc q k after h ] ≡ false
        ↔ is_early (local doc q.process k) (elim b [ true ↦ later (room_after at owed doc.settings.rules.evict_rate) (room_from doc q (after + 1) h) | false ↦ room_from doc q after h ]) ≡ true
    by_spent same more false = same
    by_spent same more true =
        later_early (local doc q.process k) (room_after at owed doc.settings.rules.evict_rate) (room_from doc q (after + 1) h)
        (nat_le owed ((local doc q.process k - at) * doc.settings.rules.evict_rate)) (has_room doc q k (after + 1) h)
        (room_waits (local doc q.process k) at owed doc.settings.rules.evict_rate) more

-- ---- the heads of all zones

-- before the soonest is before each
module _ (doc : Doc) (q : Identity) where
  pub heads_early : (reads : ℕ) (xs : List Place) (h : List Entry) → is_early reads (heads_at doc q xs h) ≡ true → (place : Place) → Among place xs → is_early reads (head_at doc q place h) ≡ true
  heads_early reads [] h is place at = absurd at
  heads_early reads (x ∷ xs) h is place (inl same) = subst (λ z. is_early reads (head_at doc q z h) ≡ true) (sym same) (sooner_both reads (head_at doc q x h) (heads_at doc q xs h) is).0
  heads_early reads (x ∷ xs) h is place (inr at) = heads_early reads xs h (sooner_both reads (head_at doc q x h) (heads_at doc q xs h) is).1 place at

  pub early_heads : (reads : ℕ) (xs : List Place) (h : List Entry) → ((place : Place) → Among place xs → is_early reads (head_at doc q place h) ≡ true) → is_early reads (heads_at doc q xs h) ≡ true
  early_heads reads [] h each = refl
  early_heads reads (x ∷ xs) h each = both_sooner reads (head_at doc q x h) (heads_at doc q xs h) (each x (inl refl)) (early_heads reads xs h (λ place at. each place (inr at)))

-- ---- the parts

due_is : (at reads : ℕ) → nat_le at reads ≡ false ↔ nat_lt reads at ≡ true
due_is at reads = (λ late. grind (arith, nat_tests), λ early. grind (arith, nat_tests))

module _ (doc : Doc) (k : ℕ) (q : Identity) where
  -- the sync

  sync_needs : (b : Bool) (h : List Entry) → Needs (if b then add k q Sync h else h) h b
  sync_needs true h = busy _ h
  sync_needs false h = idle h

  -- none is due exactly where none is at once, and the reading is before that of one
  sync_is : (at reads : ℕ) (none due : Bool)
      → ((none || nat_le at reads) && due) ≡ false ↔ (((none && due) ≡ false) × (is_early reads (only_if due (cond none None (Some at))) ≡ true))
  sync_is at reads true true = (λ is. absurd (true_is is), λ s. s.0)
  sync_is at reads true false = (λ is. (refl, refl), λ s. refl)
  sync_is at reads false due = by_test (nat_le at reads) refl due
    where
      by_test : (b : Bool) → nat_le at reads ≡ b → (due : Bool) → (b && due) ≡ false ↔ (((false && due) ≡ false) × (is_early reads (only_if due (Some at)) ≡ true))
      by_test true is true = (λ no. absurd (true_is no), λ s. sym is ∙ (due_is at reads).1 s.1)
      by_test true is false = (λ no. (refl, refl), λ s. refl)
      by_test false is true = (λ no. (refl, (due_is at reads).0 is), λ s. refl)
      by_test false is false = (λ no. (refl, refl), λ s. refl)

  sync_waits : (h : List Entry) → sync doc k q h ≡ h ↔ IsEarlySync doc k q h
  sync_waits h =
      let needs = sync_needs (has_settled doc k q h && is_sync_due doc q h) h in
      let tells = sync_is (local doc q.process (led_at q h) + of_millis doc.settings.rules.first_sync_millis) (local doc q.process k) (doc.settings.rules.first_sync_millis == 0) (is_sync_due doc q h) in (
        λ is. let s = tells.0 (needs.0 is) in record { at_once = s.0; reading = s.1 },
        λ s. needs.1 (tells.1 (s.at_once, s.reading)),
      )

  -- the pass

  mark_as_adds : (name : ℕ) (given : Version) (o : Option Node) (h : List Entry) → IsTail h (mark_as k q name given o h)
  mark_as_adds name given None h = tail_all h
  mark_as_adds name given (Some node) h = inr (tail_all h)

  mark_seen_adds : (name : ℕ) (o : Option (Version × Node)) (h : List Entry) → IsTail h (mark_seen doc k q name o h)
  mark_seen_adds name None h = tail_all h
  mark_seen_adds name (Some x) h = mark_as_adds name x.0 (mark_of doc q k name x.1 h) h

  mark_adds : (name : ℕ) (h : List Entry) → IsTail h (mark doc k q name h)
  mark_adds name h = mark_seen_adds name (seen_node q name h) h

  mode_if_adds : (on b : Bool) (h : List Entry) → IsTail h (if b then h else add k q (Mode on) h)
  mode_if_adds on true h = tail_all h
  mode_if_adds on false h = inr (tail_all h)

  mode_adds : (h : List Entry) → IsTail h (set_mode doc k q h)
  mode_adds h = mode_if_adds (all_full doc (nodes q h)) (is_same_mode (all_full doc (nodes q h)) (mode q h)) h

  zone_if_adds : (place : Place) (state : ZoneState) (rate : ℕ) (b : Bool) (h : List Entry) → IsTail h (if b then h else add k q (Zone place state rate) h)
  zone_if_adds place state rate true h = tail_all h
  zone_if_adds place state rate false h = inr (tail_all h)

  zone_adds : (seen : List Node) (place : Place) (h : List Entry) → IsTail h (zone doc k q seen place h)
  zone_adds seen place h =
      zone_if_adds place (state_in doc seen place) (rate_in doc (mode q h) seen place) (is_rated (state_in doc seen place) (rate_in doc (mode q h) seen place) (rated q place h)) h

  pass_on : (h : List Entry) → IsTail (add k q Pass h) (if true then whole_pass doc k q h else h)
  pass_on h =
      let p = add k q Pass h in
      let m = marks doc k q p in
      let o = set_mode doc k q m in
      tail_trans p m (set_zones doc k q o) (each_adds (mark doc k q) mark_adds (node_names p) p)
      (tail_trans m o (set_zones doc k q o) (mode_adds m) (each_adds (zone doc k q (nodes q o)) (zone_adds (nodes q o)) (places (nodes q o)) o))

  pass_needs : (b : Bool) (h : List Entry) → Needs (if b then whole_pass doc k q h else h) h b
  pass_needs true h = (λ is. absurd (longer _ h (if true then whole_pass doc k q h else h) (pass_on h) is), λ is. absurd (true_is is))
  pass_needs false h = idle h

  pass_is : (period : ℕ) (o : Option ℕ) → is_after_pass doc k q period o ≡ false ↔ nat_lt (local doc q.process k) (pass_after doc q period o) ≡ true
  pass_is period None = (λ is. absurd (true_is is), λ is. grind (arith, nat_tests))
  pass_is period (Some last) = (λ is. grind (arith, nat_tests), λ is. grind (arith, nat_tests))

  pass_waits : (h : List Entry) → Waits (pass doc k q h) h (is_early (local doc q.process k) (pass_at doc q h))
  pass_waits h =
      let needs = pass_needs (is_pass_due doc k q h) h in
      let tells = pass_is (pass_period doc q h) (last_pass q h) in
      (λ is. tells.0 (needs.0 is), λ is. needs.1 (tells.1 is))

-- ---- deletes

module _ (doc : Doc) (k : ℕ) (q : Identity) where
  delete_none : (pod : Key) (given : Version) (node : ℕ) (node_given : Version) (at : ℕ) (b : Bool) (h : List Entry) → Needs (if b then add_delete k q pod given node node_given at h else h) h b
  delete_none pod given node node_given at true h = busy _ h
  delete_none pod given node node_given at false h = idle h

  evict_due_waits : (pod : Key) (given : Version) (node : ℕ) (node_given : Version) (o : Due) (h : List Entry) → Waits (evict_due doc k q pod given node node_given o h) h (is_early (wall doc q.process k) (time_of o))
  evict_due_waits pod given node node_given Never h = never h
  evict_due_waits pod given node node_given (At at) h =
      let needs = delete_none pod given node node_given at (nat_le at (wall doc q.process k)) h in
      let tells = due_is at (wall doc q.process k) in
      (λ is. tells.0 (needs.0 is), λ is. needs.1 (tells.1 is))

  evict_on_waits : (pod : Key) (x : Version × Pod) (o : Option (Version × Node)) (h : List Entry) → Waits (evict_on doc k q pod x o h) h (is_early (wall doc q.process k) (due_on x.1 o))
  evict_on_waits pod x None h = never h
  evict_on_waits pod x (Some y) h = evict_due_waits pod x.0 x.1.node y.0 (due x.1 y.1) h

  evict_seen_waits : (pod : Key) (stale : Bool) (o : Option (Version × Pod)) (h : List Entry) → Waits (evict_seen doc k q pod stale o h) h (is_early (wall doc q.process k) (due_seen q stale o h))
  evict_seen_waits pod true o h = never h
  evict_seen_waits pod false None h = never h
  evict_seen_waits pod false (Some x) h = evict_on_waits pod x (seen_node q x.1.node h) h

  sighted_none : (pod : Key) (x : Version × Pod) (at : ℕ) (b : Bool) (h : List Entry) → Needs (if b then add k q (Delete pod x.0 no_version at (try_delete_alone q pod x.0 h)) h else h) h b
  sighted_none pod x at true h = busy _ h
  sighted_none pod x at false h = idle h

  sighted_waits : (pod : Key) (stale : Bool) (o : Option (Version × Pod)) (d : Due) (h : List Entry) → Waits (evict_sighted doc k q pod stale o d h) h (is_early (wall doc q.process k) (due_sighted stale o d))
  sighted_waits pod true o d h = never h
  sighted_waits pod false None d h = never h
  sighted_waits pod false (Some x) Never h = never h
  sighted_waits pod false (Some x) (At at) h =
      let needs = sighted_none pod x at (nat_le at (wall doc q.process k)) h in
      let tells = due_is at (wall doc q.process k) in
      (λ is. tells.0 (needs.0 is), λ is. needs.1 (tells.1 is))

  evict_waits : (pod : Key) (h : List Entry) → Waits (evict doc k q pod h) h (is_early (wall doc q.process k) (due_at doc q pod h))
  evict_waits pod h = by_rule doc.settings.rules.evict_from
    where
      by_rule : (rule : EvictRule) → Waits (evict_by rule doc k q pod h) h (is_early (wall doc q.process k) (due_at_by rule doc q pod h))
      by_rule evictions.Added = evict_seen_waits pod (is_stale q pod h) (seen_pod q pod h) h
      by_rule evictions.Seen = sighted_waits pod (is_stale q pod h) (seen_pod q pod h) (sighted_due doc q pod h) h

  delete_adds : (pod : Key) (given : Version) (node : ℕ) (node_given : Version) (at : ℕ) (b : Bool) (h : List Entry) → IsTail h (if b then add_delete k q pod given node node_given at h else h)
  delete_adds pod given node node_given at true h = inr (tail_all h)
  delete_adds pod given node node_given at false h = tail_all h

  evict_due_adds : (pod : Key) (given : Version) (node : ℕ) (node_given : Version) (o : Due) (h : List Entry) → IsTail h (evict_due doc k q pod given node node_given o h)
  evict_due_adds pod given node node_given Never h = tail_all h
  evict_due_adds pod given node node_given (At at) h = delete_adds pod given node node_given at (nat_le at (wall doc q.process k)) h

  evict_on_adds : (pod : Key) (x : Version × Pod) (o : Option (Version × Node)) (h : List Entry) → IsTail h (evict_on doc k q pod x o h)
  evict_on_adds pod x None h = tail_all h
  evict_on_adds pod x (Some y) h = evict_due_adds pod x.0 x.1.node y.0 (due x.1 y.1) h

  evict_seen_adds : (pod : Key) (stale : Bool) (o : Option (Version × Pod)) (h : List Entry) → IsTail h (evict_seen doc k q pod stale o h)
  evict_seen_adds pod true o h = tail_all h
  evict_seen_adds pod false None h = tail_all h
  evict_seen_adds pod false (Some x) h = evict_on_adds pod x (seen_node q x.1.node h) h

  evict_adds : (pod : Key) (h : List Entry) → IsTail h (evict doc k q pod h)
  evict_adds pod h = by_rule doc.settings.rules.evict_from
    where
      by_test : (x : Version × Pod) (at : ℕ) (b : Bool) → IsTail h (if b then add k q (Delete pod x.0 no_version at (try_delete_alone q pod x.0 h)) h else h)
      by_test x at true = inr (tail_all h)
      by_test x at false = tail_all h

      by_sight : (stale : Bool) (o : Option (Version × Pod)) (d : Due) → IsTail h (evict_sighted doc k q pod stale o d h)
      by_sight true o d = tail_all h
      by_sight false None d = tail_all h
      by_sight false (Some x) Never = tail_all h
      by_sight false (Some x) (At at) = by_test x at (nat_le at (wall doc q.process k))

      by_rule : (rule : EvictRule) → IsTail h (evict_by rule doc k q pod h)
      by_rule evictions.Added = evict_seen_adds pod (is_stale q pod h) (seen_pod q pod h) h
      by_rule evictions.Seen = by_sight (is_stale q pod h) (seen_pod q pod h) (sighted_due doc q pod h)

  within_adds : (x : ℕ × Key) (h : List Entry) → IsTail h (evict_within doc k q x h)
  within_adds x h = by_room (has_room doc q k 0 h)
    where
      by_room : (b : Bool) → IsTail h (if b then evict doc k q x.1 h else h)
      by_room true = evict_adds x.1 h
      by_room false = tail_all h

  -- before the soonest is before each
  dues_early : (reads : ℕ) (xs : List Key) (h : List Entry) → is_early reads (dues_at doc q xs h) ≡ true → (pod : Key) → Among pod xs → is_early reads (due_at doc q pod h) ≡ true
  dues_early reads [] h is pod at = absurd at
  dues_early reads (x ∷ xs) h is pod (inl same) = subst (λ z. is_early reads (due_at doc q z h) ≡ true) (sym same) (sooner_both reads (due_at doc q x h) (dues_at doc q xs h) is).0
  dues_early reads (x ∷ xs) h is pod (inr at) = dues_early reads xs h (sooner_both reads (due_at doc q x h) (dues_at doc q xs h) is).1 pod at

  early_dues : (reads : ℕ) (xs : List Key) (h : List Entry) → ((pod : Key) → Among pod xs → is_early reads (due_at doc q pod h) ≡ true) → is_early reads (dues_at doc q xs h) ≡ true
  early_dues reads [] h each = refl
  early_dues reads (x ∷ xs) h each = both_sooner reads (due_at doc q x h) (dues_at doc q xs h) (each x (inl refl)) (early_dues reads xs h (λ pod at. each pod (inr at)))

  -- ---- the deletes of all pods

  -- a due is that of a pod
  insert_from : (at : ℕ) (pod : Key) (ys : List (ℕ × Key)) (x : ℕ × Key) → Among x (insert_due at pod ys) → (x.1 ≡ pod) ⊎ Among x ys
  insert_from at pod [] x (inl is) = inl (ap (λ (x : ℕ × Key). x.1) is)
  insert_from at pod [] x (inr mine) = absurd mine
  insert_from at pod (y ∷ ys) x mine = by_order (insert_from at pod ys x) (nat_le at y.0) mine
    where
      by_order : (Among x (insert_due at pod ys) → (x.1 ≡ pod) ⊎ Among x ys) → (b : Bool) → Among x (elim b [ true ↦ (at, pod) ∷ y ∷ ys | false ↦ y ∷ insert_due at pod ys ]) → (x.1 ≡ pod) ⊎ Among x (y ∷ ys)
      by_order later true (inl is) = inl (ap (λ (x : ℕ × Key). x.1) is)
      by_order later true (inr mine) = inr mine
      by_order later false (inl is) = inr (inl is)
      by_order later false (inr mine) = ⊎_elim (λ is. inl is) (λ mine. inr (inr mine)) (later mine)

  dues_of_pods : (h : List Entry) (pods : List Key) (x : ℕ × Key) → Among x (dues doc q pods h) → Among x.1 pods
  dues_of_pods h [] x mine = absurd mine
  dues_of_pods h (pod ∷ pods) x mine = by_due (dues_of_pods h pods x) (due_by doc.settings.rules.evict_from doc q pod h) mine
    where
      by_due : (Among x (dues doc q pods h) → Among x.1 pods) → (d : Due) → Among x (and_due pod d (dues doc q pods h)) → (x.1 ≡ pod) ⊎ Among x.1 pods
      by_due later Never mine = inr (later mine)
      by_due later (At at) mine = ⊎_elim (λ is. inl is) (λ mine. inr (later mine)) (insert_from at pod (dues doc q pods h) x mine)

  -- a pod that is due never has no time
  never_at : (pod : Key) (h : List Entry) → due_by doc.settings.rules.evict_from doc q pod h ≡ Never → due_at doc q pod h ≡ None
  never_at pod h = by_rule doc.settings.rules.evict_from
    where
      by_node : (x : Version × Pod) (o : Option (Version × Node)) → due_on_seen x.1 o ≡ Never → due_on x.1 o ≡ None
      by_node x None is = refl
      by_node x (Some y) is = ap time_of is

      by_pod : (stale : Bool) (o : Option (Version × Pod)) → in_cache q o h ≡ Never → due_seen q stale o h ≡ None
      by_pod true o is = refl
      by_pod false None is = refl
      by_pod false (Some x) is = by_node x (seen_node q x.1.node h) is

      by_sight : (stale : Bool) (o : Option (Version × Pod)) (d : Due) → d ≡ Never → due_sighted stale o d ≡ None
      by_sight true o d is = refl
      by_sight false None d is = refl
      by_sight false (Some x) d is = ap time_of is

      by_rule : (rule : EvictRule) → due_by rule doc q pod h ≡ Never → due_at_by rule doc q pod h ≡ None
      by_rule evictions.Added is = by_pod (is_stale q pod h) (seen_pod q pod h) is
      by_rule evictions.Seen is = by_sight (is_stale q pod h) (seen_pod q pod h) (sighted_due doc q pod h) is

  early_never : (reads : ℕ) (o : Option ℕ) → o ≡ None → is_early reads o ≡ true
  early_never reads o is = ap (is_early reads) is

  abbrev IsEarlyDelete : List Entry → Type 0
  IsEarlyDelete h = (is_early (wall doc q.process k) (dues_at doc q (pod_keys h) h) || is_early (local doc q.process k) (room_at doc q h)) ≡ true

  or_left : (a b : Bool) → a ≡ true → (a || b) ≡ true
  or_left a b is = ap (λ x. x || b) is

  or_right : (a b : Bool) → b ≡ true → (a || b) ≡ true
  or_right true b is = refl
  or_right false b is = is

  or_one : (a b : Bool) → (a || b) ≡ true → (a ≡ true) ⊎ (b ≡ true)
  or_one true b is = inl refl
  or_one false b is = inr is

  -- within the limit each that is due is deleted
  roomy_still : (h : List Entry) → has_room doc q k 0 h ≡ true → for_each (evict_within doc k q) (dues doc q (pod_keys h) h) h ≡ h → is_early (wall doc q.process k) (dues_at doc q (pod_keys h) h) ≡ true
  roomy_still h room still = early_dues (wall doc q.process k) (pod_keys h) h (λ pod among. by_due pod among (due_by doc.settings.rules.evict_from doc q pod h) refl)
    where
      by_due : (pod : Key) → Among pod (pod_keys h) → (d : Due) → due_by doc.settings.rules.evict_from doc q pod h ≡ d → is_early (wall doc q.process k) (due_at doc q pod h) ≡ true
      by_due pod among Never is = early_never (wall doc q.process k) (due_at doc q pod h) (never_at pod h is)
      by_due pod among (At at) is =
          let one = each_still (evict_within doc k q) within_adds (dues doc q (pod_keys h) h) h still (at, pod) (pods_of_dues doc q h (pod_keys h) pod at is among) in
          (evict_waits pod h).0 (subst (λ b. (if b then evict doc k q pod h else h) ≡ h) room one)

  within_still : (h : List Entry) → (doc.settings.rules.evict_burst == 0) ≡ false → for_each (evict_within doc k q) (dues doc q (pod_keys h) h) h ≡ h → IsEarlyDelete h
  within_still h limited still = by_room (has_room doc q k 0 h) refl
    where
      Time : Bool
      Time = is_early (wall doc q.process k) (dues_at doc q (pod_keys h) h)

      by_room : (b : Bool) → has_room doc q k 0 h ≡ b → IsEarlyDelete h
      by_room true room = or_left Time (is_early (local doc q.process k) (room_at doc q h)) (roomy_still h room still)
      by_room false room =
          or_right Time (is_early (local doc q.process k) (room_at doc q h))
          (subst (λ b. is_early (local doc q.process k) (cond b (Some 0) (room_from doc q 0 h)) ≡ true) (sym limited) ((rooms_wait doc k q 0 h).0 room))

  still_within : (h : List Entry) → (doc.settings.rules.evict_burst == 0) ≡ false → IsEarlyDelete h → for_each (evict_within doc k q) (dues doc q (pod_keys h) h) h ≡ h
  still_within h limited early = still_each (evict_within doc k q) (dues doc q (pod_keys h) h) h (λ x among. by_cause x among (or_one (is_early (wall doc q.process k) (dues_at doc q (pod_keys h) h)) (is_early (local doc q.process k) (room_at doc q h)) early))
    where
      by_test : (b : Bool) (x : ℕ × Key) → evict doc k q x.1 h ≡ h → (if b then evict doc k q x.1 h else h) ≡ h
      by_test true x is = is
      by_test false x is = refl

      by_cause : (x : ℕ × Key) → Among x (dues doc q (pod_keys h) h) → (is_early (wall doc q.process k) (dues_at doc q (pod_keys h) h) ≡ true) ⊎ (is_early (local doc q.process k) (room_at doc q h) ≡ true) → evict_within doc k q x h ≡ h
      by_cause x among (inl time) = by_test (has_room doc q k 0 h) x ((evict_waits x.1 h).1 (dues_early (wall doc q.process k) (pod_keys h) h time x.1 (dues_of_pods h (pod_keys h) x among)))
      by_cause x among (inr room) =
          let none : has_room doc q k 0 h ≡ false = (rooms_wait doc k q 0 h).1 (subst (λ b. is_early (local doc q.process k) (cond b (Some 0) (room_from doc q 0 h)) ≡ true) limited room) in
          subst (λ b. (if b then evict doc k q x.1 h else h) ≡ h) (sym none) refl

  evicted_still : (h : List Entry) → evicted doc k q h ≡ h ↔ IsEarlyDelete h
  evicted_still h = by_limit (doc.settings.rules.evict_burst == 0) refl
    where
      Time : Bool
      Time = is_early (wall doc q.process k) (dues_at doc q (pod_keys h) h)

      Room : Bool → Bool
      Room b = is_early (local doc q.process k) (cond b (Some 0) (room_from doc q 0 h))

      free : (Time || Room true) ≡ true → Time ≡ true
      free is = ⊎_elim (λ time. time) (λ room. absurd (false_is (sym (zero_never (local doc q.process k)) ∙ room))) (or_one Time (Room true) is)

      Waited : Bool → Type 0
      Waited b = elim b [ true ↦ for_each (evict doc k q) (pod_keys h) h | false ↦ for_each (evict_within doc k q) (dues doc q (pod_keys h) h) h ] ≡ h ↔ (Time || Room b) ≡ true

      by_limit : (b : Bool) → (doc.settings.rules.evict_burst == 0) ≡ b → Waited b
      by_limit true is = (
        λ still. or_left Time (Room true) (early_dues (wall doc q.process k) (pod_keys h) h (λ pod at. (evict_waits pod h).0 (each_still (evict doc k q) evict_adds (pod_keys h) h still pod at))),
        λ early. still_each (evict doc k q) (pod_keys h) h (λ pod at. (evict_waits pod h).1 (dues_early (wall doc q.process k) (pod_keys h) h (free early) pod at)),
      )
      by_limit false is = (
        λ still. subst (λ b. (Time || Room b) ≡ true) is (within_still h is still),
        λ early. still_within h is (subst (λ b. (Time || Room b) ≡ true) (sym is) early),
      )

module _ (doc : Doc) (k : ℕ) (q : Identity) where
  -- untaints and swaps

  untaint_needs : (name : ℕ) (given : Version) (node : Node) (b : Bool) (h : List Entry) → Needs (if b then add_untaint k q name given node h else h) h b
  untaint_needs name given node true h = busy _ h
  untaint_needs name given node false h = idle h

  swap_needs : (name : ℕ) (given : Version) (node : Node) (wanted : ℕ) (b : Bool) (h : List Entry) → Needs (if b then add_swap doc k q name given node wanted h else h) h b
  swap_needs name given node wanted true h = busy _ h
  swap_needs name given node wanted false h = idle h

  clean_as_needs : (name : ℕ) (given : Version) (node : Node) (w : Wants) (h : List Entry) → Needs (clean_as doc k q name given node w h) h (is_unclean node w)
  clean_as_needs name given node Nothing h = untaint_needs name given node (has_condition node) h
  clean_as_needs name given node (Wanted wanted) h = swap_needs name given node wanted (list_any (is_opposite wanted) node.taints) h
  clean_as_needs name given node Whatever h = idle h

  clean_seen_needs : (name : ℕ) (stale : Bool) (o : Option (Version × Node)) (h : List Entry) → is_stripped doc.settings.rules.first_sight k q name h ≡ false
      → Needs (clean_seen doc k q name stale o h) h (is_unclean_seen (mode q h) stale o)
  clean_seen_needs name true o h kept = idle h
  clean_seen_needs name false None h kept = idle h
  clean_seen_needs name false (Some x) h kept =
      subst (λ b. Needs (clean_as doc k q name x.0 x.1 (wants (b || mode q h) x.1) h) h (is_unclean x.1 (wants (mode q h) x.1))) (sym kept)
      (clean_as_needs name x.0 x.1 (wants (mode q h) x.1) h)

  clean_needs : (name : ℕ) (h : List Entry) → is_stripped doc.settings.rules.first_sight k q name h ≡ false → Needs (clean doc k q name h) h (is_clean_due q h name)
  clean_needs name h kept = clean_seen_needs name (is_stale q (node_key name) h) (seen_node q name h) h kept

  untaint_adds : (name : ℕ) (given : Version) (node : Node) (b : Bool) (h : List Entry) → IsTail h (if b then add_untaint k q name given node h else h)
  untaint_adds name given node true h = inr (tail_all h)
  untaint_adds name given node false h = tail_all h

  swap_adds : (name : ℕ) (given : Version) (node : Node) (wanted : ℕ) (b : Bool) (h : List Entry) → IsTail h (if b then add_swap doc k q name given node wanted h else h)
  swap_adds name given node wanted true h = inr (tail_all h)
  swap_adds name given node wanted false h = tail_all h

  clean_as_adds : (name : ℕ) (given : Version) (node : Node) (w : Wants) (h : List Entry) → IsTail h (clean_as doc k q name given node w h)
  clean_as_adds name given node Nothing h = untaint_adds name given node (has_condition node) h
  clean_as_adds name given node (Wanted wanted) h = swap_adds name given node wanted (list_any (is_opposite wanted) node.taints) h
  clean_as_adds name given node Whatever h = tail_all h

  clean_seen_adds : (name : ℕ) (stale : Bool) (o : Option (Version × Node)) (h : List Entry) → IsTail h (clean_seen doc k q name stale o h)
  clean_seen_adds name true o h = tail_all h
  clean_seen_adds name false None h = tail_all h
  clean_seen_adds name false (Some x) h = clean_as_adds name x.0 x.1 (wants (is_stripped doc.settings.rules.first_sight k q name h || mode q h) x.1) h

  clean_adds : (name : ℕ) (h : List Entry) → IsTail h (clean doc k q name h)
  clean_adds name h = clean_seen_adds name (is_stale q (node_key name) h) (seen_node q name h) h

  -- where the tick of a pass strips nodes no pass is at this beat
  none_stripped : (sight : SightRule) (name : ℕ) (h : List Entry) → (minds_passes judges.Tick sight ≡ true → is_pass_tick k q h ≡ false) → is_stripped sight k q name h ≡ false
  none_stripped Keep name h none = refl
  none_stripped Strip name h none = ap (λ b. b && not (is_known q name (before_pass q h))) (none refl)

  cleaned_needs : (h : List Entry) → HadNoPass doc k q h → Needs (cleaned doc k q h) h (has_clean_due doc q h)
  cleaned_needs h none = by_rule doc.settings.rules.judge none
    where
      by_rule : (rule : JudgeRule) → (minds_passes rule doc.settings.rules.first_sight ≡ true → is_pass_tick k q h ≡ false) → Needs (cleaned_by rule doc k q h) h (has_clean_due_by rule q h)
      by_rule judges.Tick none =
          let kept : (name : ℕ) → is_stripped doc.settings.rules.first_sight k q name h ≡ false = λ name. none_stripped doc.settings.rules.first_sight name h none in (
            λ is. none_any (is_clean_due q h) (node_names h) (λ name at. (clean_needs name h (kept name)).0 (each_still (clean doc k q) clean_adds (node_names h) h is name at)),
            λ is. still_each (clean doc k q) (node_names h) h (λ name at. (clean_needs name h (kept name)).1 (any_none (is_clean_due q h) (node_names h) is name at)),
          )
      by_rule judges.Pass none = subst (λ b. Needs (if b then judge_all doc k q (passes q h) h else h) h false) (sym (none refl)) (idle h)

  -- heads

  taint_as_adds : (place : Place) (name : ℕ) (w : Option ℕ) (o : Option (Version × Node)) (h : List Entry) → IsTail h (taint_as doc k q place name w o h)
  taint_as_adds place name None o h = tail_all h
  taint_as_adds place name (Some wanted) None h = tail_all h
  taint_as_adds place name (Some wanted) (Some x) h = inr (tail_all h)

  taint_head_adds : (place : Place) (o : Option Queued) (h : List Entry) → IsTail h (taint_head doc k q place o h)
  taint_head_adds place None h = tail_all h
  taint_head_adds place (Some x) h = taint_as_adds place x.1 (waits q place x.1 h) (seen_node q x.1 h) h

  taint_if_adds : (place : Place) (b : Bool) (h : List Entry) → IsTail h (if b then taint_first doc k q place h else h)
  taint_if_adds place true h = taint_head_adds place (head_of q place (node_names h) h) h
  taint_if_adds place false h = tail_all h

  taint_adds : (place : Place) (h : List Entry) → IsTail h (taint doc k q place h)
  taint_adds place h = taint_if_adds place (has_token doc q k place h) h

  -- the first of two is one of them
  first_or : (a b : Option Queued) (x : Queued) → first a b ≡ Some x → (a ≡ Some x) ⊎ (b ≡ Some x)
  first_or None b x is = inr is
  first_or (Some a) None x is = inl is
  first_or (Some a) (Some b) x is = by_test (nat_lt b.0 a.0) is
    where
      by_test : (t : Bool) → Some (cond t b a) ≡ Some x → (Some a ≡ Some x) ⊎ (Some b ≡ Some x)
      by_test true is = inr is
      by_test false is = inl is

  -- who is queued waits
  queued_waits : (place : Place) (at name : ℕ) (w : Option ℕ) (x : Queued) → queued_as at name w ≡ Some x → (x.1 ≡ name) × ((wanted : ℕ) × (w ≡ Some wanted))
  queued_waits place at name None x is = absurd (none_is x is)
  queued_waits place at name (Some wanted) x is = (ap (λ (y : Queued). y.1) (sym (some_is (at, name) x is)), (wanted, refl))

  abbrev Waiting : Place → List Entry → Queued → Type 0
  Waiting place h x = (wanted : ℕ) × (waits q place x.1 h ≡ Some wanted)

  head_waits : (place : Place) (names : List ℕ) (h : List Entry) (x : Queued) → head_of q place names h ≡ Some x → Waiting place h x
  head_waits place [] h x is = absurd (none_is x is)
  head_waits place (name ∷ names) h x is =
      by_one (head_waits place names h x) (first_or (queued_as (queued q place name h) name (waits q place name h)) (head_of q place names h) x is)
    where
      by_one : (head_of q place names h ≡ Some x → Waiting place h x) → (queued_as (queued q place name h) name (waits q place name h) ≡ Some x) ⊎ (head_of q place names h ≡ Some x) → Waiting place h x
      by_one rest (inl this) = let w = queued_waits place (queued q place name h) name (waits q place name h) x this in (w.1.0, ap (λ n. waits q place n h) w.0 ∙ w.1.1)
      by_one rest (inr later) = rest later

  waits_seen : (on : Bool) (place : Place) (o : Option (Version × Node)) (wanted : ℕ) → lacks_in on place o ≡ Some wanted → (y : Version × Node) × (o ≡ Some y)
  waits_seen on place None wanted is = absurd (none_is wanted is)
  waits_seen on place (Some y) wanted is = (y, refl)

  as_longer : (place : Place) (name wanted : ℕ) (y : Version × Node) (w : Option ℕ) (o : Option (Version × Node)) (h : List Entry) → w ≡ Some wanted → o ≡ Some y → taint_as doc k q place name w o h ≡ h → ⊥
  as_longer place name wanted y None o h waits seen is = none_is wanted waits
  as_longer place name wanted y (Some v) None h waits seen is = none_is y seen
  as_longer place name wanted y (Some v) (Some z) h waits seen is = grew _ h is

  head_needs : (place : Place) (o : Option Queued) (h : List Entry) → head_of q place (node_names h) h ≡ o → Needs (taint_head doc k q place o h) h (has o)
  head_needs place None h found = idle h
  head_needs place (Some x) h found = (λ is. by_wait (head_waits place (node_names h) h x found) is, λ is. absurd (true_is is))
    where
      by_wait : Waiting place h x → taint_head doc k q place (Some x) h ≡ h → true ≡ false
      by_wait w is =
          let y = waits_seen (mode q h) place (seen_node q x.1 h) w.0 w.1 in
          absurd (as_longer place x.1 w.0 y.0 (waits q place x.1 h) (seen_node q x.1 h) h w.1 y.1 is)

  taint_needs : (place : Place) (b : Bool) (h : List Entry) → Needs (if b then taint_first doc k q place h else h) h (b && has (head_of q place (node_names h) h))
  taint_needs place true h = head_needs place (head_of q place (node_names h) h) h refl
  taint_needs place false h = idle h

  -- both, or not: the token is early, or nobody waits
  both_wait : (token head : Bool) (reads : ℕ) (o : Option ℕ) → (token ≡ false ↔ is_early reads o ≡ true) → (token && head) ≡ false ↔ is_early reads (only_if head o) ≡ true
  both_wait token false reads o tells = (λ is. refl, λ is. none_and token false (λ x. refl))
  both_wait true true reads o tells = (λ is. absurd (true_is is), tells.1)
  both_wait false true reads o tells = (λ is. tells.0 refl, λ is. refl)

  -- pushes

  push_as_busy : (place : Place) (name : ℕ) (given : Version) (node : Node) (w : Wants) (h : List Entry) → Needs (push_as doc k q place name given node w h) h true
  push_as_busy place name given node Nothing h = busy _ h
  push_as_busy place name given node (Wanted wanted) h = busy _ h
  push_as_busy place name given node Whatever h = busy _ h

  push_seen_busy : (place : Place) (name : ℕ) (o : Option (Version × Node)) (h : List Entry) → Needs (push_seen doc k q place name o h) h true
  push_seen_busy place name None h = busy _ h
  push_seen_busy place name (Some x) h = push_as_busy place name x.0 x.1 (wants_ready x.1.ready) h

  push_first_needs : (place : Place) (names : List ℕ) (h : List Entry) → Needs (push_first doc k q place names h) h (has_first names)
  push_first_needs place [] h = idle h
  push_first_needs place (name ∷ names) h = push_seen_busy place name (seen_node q name h) h

  push_needs : (place : Place) (names : List ℕ) (b : Bool) (h : List Entry) → Needs (if b then push_first doc k q place names h else h) h (b && has_first names)
  push_needs place names true h = push_first_needs place names h
  push_needs place names false h = idle h

  push_as_adds : (place : Place) (name : ℕ) (given : Version) (node : Node) (w : Wants) (h : List Entry) → IsTail h (push_as doc k q place name given node w h)
  push_as_adds place name given node Nothing h = inr (tail_all h)
  push_as_adds place name given node (Wanted wanted) h = inr (tail_all h)
  push_as_adds place name given node Whatever h = inr (tail_all h)

  push_seen_adds : (place : Place) (name : ℕ) (o : Option (Version × Node)) (h : List Entry) → IsTail h (push_seen doc k q place name o h)
  push_seen_adds place name None h = inr (tail_all h)
  push_seen_adds place name (Some x) h = push_as_adds place name x.0 x.1 (wants_ready x.1.ready) h

  push_first_adds : (place : Place) (names : List ℕ) (h : List Entry) → IsTail h (push_first doc k q place names h)
  push_first_adds place [] h = tail_all h
  push_first_adds place (name ∷ names) h = push_seen_adds place name (seen_node q name h) h

  push_if_adds : (place : Place) (names : List ℕ) (b : Bool) (h : List Entry) → IsTail h (if b then push_first doc k q place names h else h)
  push_if_adds place names true h = push_first_adds place names h
  push_if_adds place names false h = tail_all h

  push_adds : (place : Place) (h : List Entry) → IsTail h (push doc k q place h)
  push_adds place h = push_if_adds place (queue doc q place (passes q h)) (has_token doc q k place h) h

  -- turns of either kind

  turn_needs : (rule : JudgeRule) (place : Place) (h : List Entry) → Needs (turn_by rule doc k q place h) h (has_token doc q k place h && has_head_by rule doc q place h)
  turn_needs judges.Tick place h = taint_needs place (has_token doc q k place h) h
  turn_needs judges.Pass place h = push_needs place (queue doc q place (passes q h)) (has_token doc q k place h) h

  turn_adds : (rule : JudgeRule) (place : Place) (h : List Entry) → IsTail h (turn_by rule doc k q place h)
  turn_adds judges.Tick place h = taint_adds place h
  turn_adds judges.Pass place h = push_adds place h

  turn_waits : (place : Place) (h : List Entry) → Waits (turn_by doc.settings.rules.judge doc k q place h) h (is_early (local doc q.process k) (head_at doc q place h))
  turn_waits place h =
      let needs = turn_needs doc.settings.rules.judge place h in
      let grown = subst (λ b. b ≡ false ↔ is_early (local doc q.process k) (token_at doc q place h) ≡ true) (sym (token_is_there doc q k place h))
      (full_waits (is_full_by doc.settings.rules.bucket doc q place h) (local doc q.process k) (local doc q.process (base q place h)) (rated q place h)) in
      let tells = both_wait (has_token doc q k place h) (has_head doc q place h) (local doc q.process k) (token_at doc q place h) grown in
      (λ is. tells.0 (needs.0 is), λ is. needs.1 (tells.1 is))

  tainted_turns : (rule : JudgeRule) (h : List Entry) → tainted_by rule doc k q h ≡ for_each (turn_by rule doc k q) (queue_places_by rule q h) h
  tainted_turns judges.Tick h = refl
  tainted_turns judges.Pass h = refl

  tainted_waits : (h : List Entry) → Waits (tainted doc k q h) h (is_early (local doc q.process k) (heads_at doc q (queue_places doc q h) h))
  tainted_waits h = (
    λ is. early_heads doc q (local doc q.process k) (queue_places doc q h) h (λ place at. (turn_waits place h).0 (each_still turn (turn_adds doc.settings.rules.judge) (queue_places doc q h) h (sym turns ∙ is) place at)),
    λ is. turns ∙ still_each turn (queue_places doc q h) h (λ place at. (turn_waits place h).1 (heads_early doc q (local doc q.process k) (queue_places doc q h) h is place at)),
  )
    where
      turn : Place → List Entry → List Entry
      turn = turn_by doc.settings.rules.judge doc k q

      turns : tainted doc k q h ≡ for_each turn (queue_places doc q h) h
      turns = tainted_turns doc.settings.rules.judge h

  -- ---- the tick

  -- of a synced tick
  record Early (h : List Entry) : Type 0 where
    clean : has_clean_due doc q h ≡ false
    reading : is_early (local doc q.process k) (sooner (pass_at doc q h) (heads_at doc q (queue_places doc q h) h)) ≡ true
    time : (is_early (wall doc q.process k) (dues_at doc q (pod_keys h) h) || is_early (local doc q.process k) (room_at doc q h)) ≡ true

  still_early : (h : List Entry) → HadNoPass doc k q h → IsStillSynced doc k q h → Early h
  still_early h none s =
      record {
        clean = (cleaned_needs h none).0 s.cleans;
        reading = both_sooner (local doc q.process k) (pass_at doc q h) (heads_at doc q (queue_places doc q h) h) ((pass_waits doc k q h).0 s.passes) ((tainted_waits h).0 s.taints);
        time = (evicted_still doc k q h).0 s.evicts;
      }

  early_still : (h : List Entry) → HadNoPass doc k q h → Early h → IsStillSynced doc k q h
  early_still h none s =
      let both = sooner_both (local doc q.process k) (pass_at doc q h) (heads_at doc q (queue_places doc q h) h) s.reading in
      record {
        passes = (pass_waits doc k q h).1 both.0;
        cleans = (cleaned_needs h none).1 s.clean;
        taints = (tainted_waits h).1 both.1;
        evicts = (evicted_still doc k q h).1 s.time;
      }

  only_early : (reads : ℕ) (b : Bool) (o : Option ℕ) → (b ≡ true → is_early reads o ≡ true) → is_early reads (only_if b o) ≡ true
  only_early reads true o is = is refl
  only_early reads false o is = refl

  early_only : (reads : ℕ) (b : Bool) (o : Option ℕ) → is_early reads (only_if b o) ≡ true → b ≡ true → is_early reads o ≡ true
  early_only reads true o is yet = is
  early_only reads false o is yet = absurd (false_is yet)

  only_early_or : (b : Bool) (o : Option ℕ) (other : Bool) → (b ≡ true → (is_early (wall doc q.process k) o || other) ≡ true) → (is_early (wall doc q.process k) (only_if b o) || other) ≡ true
  only_early_or true o other is = is refl
  only_early_or false o other is = refl

  early_only_or : (b : Bool) (o : Option ℕ) (other : Bool) → (is_early (wall doc q.process k) (only_if b o) || other) ≡ true → b ≡ true → (is_early (wall doc q.process k) o || other) ≡ true
  early_only_or true o other is yet = is
  early_only_or false o other is yet = absurd (false_is yet)

  tick_early : (h : List Entry) → HadNoPass doc k q h → tick doc k q h ≡ h → IsEarlyTick doc k q h
  tick_early h none is =
      let s = (ticks_add_by_parts doc k q h).0 is in
      let early : is_synced q h ≡ true → Early h = λ yet. still_early h none (s.synced yet) in
      record {
        at_once = none_or (is_sync_at_once doc q h) (is_synced q h && has_clean_due doc q h) ((sync_waits doc k q h).0 s.syncs).at_once
            (none_and (is_synced q h) (has_clean_due doc q h) (λ yet. (early yet).clean));
        reading = both_sooner (local doc q.process k) (sync_at doc q h) (synced_reading doc q h) ((sync_waits doc k q h).0 s.syncs).reading
            (only_early (local doc q.process k) (is_synced q h) (sooner (pass_at doc q h) (heads_at doc q (queue_places doc q h) h)) (λ yet. (early yet).reading));
        time = only_early_or (is_synced q h) (dues_at doc q (pod_keys h) h) (is_early (local doc q.process k) (room_at doc q h)) (λ yet. (early yet).time);
      }

  early_tick : (h : List Entry) → HadNoPass doc k q h → IsEarlyTick doc k q h → tick doc k q h ≡ h
  early_tick h none s =
      let parts = or_none (is_sync_at_once doc q h) (is_synced q h && has_clean_due doc q h) s.at_once in
      let readings = sooner_both (local doc q.process k) (sync_at doc q h) (synced_reading doc q h) s.reading in
      (ticks_add_by_parts doc k q h).1 (record {
        syncs = (sync_waits doc k q h).1 (record { at_once = parts.0; reading = readings.0 });
        synced = λ yet. early_still h none (record {
          clean = and_none (is_synced q h) (has_clean_due doc q h) parts.1 yet;
          reading = early_only (local doc q.process k) (is_synced q h) (sooner (pass_at doc q h) (heads_at doc q (queue_places doc q h) h)) readings.1 yet;
          time = early_only_or (is_synced q h) (dues_at doc q (pod_keys h) h) (is_early (local doc q.process k) (room_at doc q h)) s.time yet;
        });
      })

pub syncs_wake : SyncsWake
syncs_wake doc k q h = sync_waits doc k q h

pub passes_wake : PassesWake
passes_wake doc k q h = pass_waits doc k q h

pub cleans_wake : CleansWake
cleans_wake doc k q name h kept = clean_needs doc k q name h kept

pub judges_wake : JudgesWake
judges_wake doc k q h none = cleaned_needs doc k q h none

pub heads_wake : HeadsWake
heads_wake doc k q place h = turn_waits doc k q place h

pub deletes_wake : DeletesWake
deletes_wake doc k q pod h = evict_waits doc k q pod h

pub rooms_wake : RoomsWake
rooms_wake doc k q after h = rooms_wait doc k q after h

pub ticks_wake : TicksWake
ticks_wake doc k q h none = (tick_early doc k q h none, early_tick doc k q h none)
