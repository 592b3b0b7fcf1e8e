-- For what a term's tick is wanted, as the agenda reads it from the history.
use Rattle.std.proofs.Common.{◌≡◌, ◌↔◌, ◌∙◌, ◌⊎◌, inl, inr, ℕ, ◌+◌, ◌≤◌, ◌<◌, ◌==◌, min, ◌&&◌, ◌||◌, not, nat_lt, cond, Bool, true, false, List, [], ◌∷◌, Option, Some, None, IfSome, IfNone, option_map, refl, sym, ap, arith}
use Rattle.std.proofs.lemmas.Bool.Decides.{nat_tests}
use Rattle.std.specs.List.{list_any}
use Rattle.kube_base.specs.declared.numbers.Local.{Local}
use Rattle.kube_base.specs.declared.numbers.Version.{Version}
use Rattle.kube_objects.specs.declared.key.Key.{Key}
use Rattle.kube_objects.specs.declared.node.Node.{Node}
use Rattle.kube_objects.specs.declared.pod.Due.{Due}
use Rattle.kube_objects.specs.declared.pod.Due.TheVariants.{Never, At}
use Rattle.kube_objects.specs.declared.pod.Pod.{Pod}
use Rattle.kube_objects.specs.declared.rules.EvictRule.{EvictRule}
use Rattle.kube_objects.specs.declared.rules.EvictRule.TheVariants as evictions
use Rattle.kube_objects.specs.declared.rules.JudgeRule.{JudgeRule}
use Rattle.kube_objects.specs.declared.rules.JudgeRule.TheVariants as judges
use Rattle.kube_objects.specs.Clocks.{local}
use Rattle.kube_objects.specs.Document.{Doc}
use Rattle.kube_objects.specs.Entry.{Entry, Identity, Place}
use Rattle.kube_objects.specs.Health.{last_pass, pass_period}
use Rattle.kube_objects.specs.Judgement.{passes, queue}
use Rattle.kube_objects.specs.Modes.{mode}
use Rattle.kube_objects.specs.Newest.{has, only_if}
use Rattle.kube_objects.specs.Seen.{is_pod, is_stale, is_synced, node_names, pod_keys, seen_node, seen_pod}
use Rattle.kube_objects.specs.Sightings.{sighted_due}
use Rattle.kube_objects.specs.Stored.{node_key}
use Rattle.kube_objects.specs.Tainting.{Queued, Wants, Nothing, Wanted, Whatever, head_of, waits, wants}
use Rattle.kube_objects.specs.Tick.{has_room}
use Rattle.kube_objects.specs.Tokens.{base, is_full_by, rated}
use Rattle.kube_objects.specs.Tolerations.{due}
use Rattle.history_laws.proofs.Plainly.{false_is, none_is}
use Rattle.history_laws.proofs.Ticks.{Each, IsPodKey, pods_only}
use Rattle.agenda_laws.specs.Ticking as agenda
use Rattle.agenda_laws.specs.Ticking.{due_at, due_at_by, due_seen, due_sighted, dues_at, has_clean_due, has_clean_due_by, has_first, has_head, has_head_by, heads_at, is_clean_due, is_due_at_once, is_sync_at_once, is_unclean, is_unclean_seen, pass_at, queue_places, queue_places_by, room_at, room_from, synced_reading, term_time, time_of, token_at}
use Rattle.agenda_laws.specs.Times.{is_early, sooner}
use Rattle.agenda_laws.proofs.Between.{both_sooner, early_same, sooner_both}
use Rattle.agenda_laws.proofs.Ticking.{early_heads, full_waits, heads_early, rooms_wake}
use Rattle.controller_core.proofs.Starting.{no_pass}
use Rattle.controller_core.specs.HeadsStand.{HasHeadBy}
use Rattle.controller_core.specs.Wakes.{IsAwaited, IsLeastAwaited, IsRoomReading, IsTokenReading, is_before, is_cleaned_by, is_cleaned_now, is_token_at, pass_reading}
use Rattle.controller_core.specs.Working.{kept}
use Rattle.tick_laws.specs.Judged.{cleans, dirty_as, due_as, due_by, due_on, is_dirty, sighted_as, term_due}
use Rattle.tick_laws.specs.Room.{AreUpTo}
use Rattle.tick_laws.specs.Walks.{Among}
use Rattle.tick_laws.proofs.Cleaning.{dirty_seen}
use Rattle.tick_laws.proofs.Evicting.{due_seen as seen_as_due, due_sighted as sighted_as_due}
use Rattle.tick_laws.proofs.Named.{node_is_named, pod_is_named}
use Rattle.tick_laws.proofs.Quiet.{head_some}
use Rattle.tick_laws.proofs.Heads.{head_waits}
use Rattle.tick_laws.proofs.Pushing.{queued_among}
use Rattle.tick_laws.proofs.Tainting.{since_waits, waiting, waiting_place}
use Rattle.watch_cache.specs.Stands.{ticks}
use Rattle.world_process.specs.Beats.{reading_of}
use Rattle.world_process.specs.OwnTerm.{HasBegun}
use Rattle.world_process.proofs.Begun.{unticked_clean, unticked_never, unticked_unseen}

-- ---- tests

same-tests : (a b : Bool) → (a ≡ true → b ≡ true) → (b ≡ true → a ≡ true) → a ≡ b
same-tests true b there back = sym (there refl)
same-tests false true there back = back refl
same-tests false false there back = refl

or-right : (a b : Bool) → b ≡ true → (a || b) ≡ true
or-right true b is = refl
or-right false b is = is

-- ---- at once

module _ (doc : Doc) (q : Identity) (h : List Entry) (begun : HasBegun q h) where
  clean-is : (name : ℕ) → is_clean_due q h name ≡ is_dirty q name h
  clean-is name = by_seen (is_stale q (node_key name) h) (seen_node q name h)
    where
      by_wants : (node : Node) (w : Wants) → is_unclean node w ≡ cleans w node
      by_wants node Nothing = refl
      by_wants node (Wanted wanted) = refl
      by_wants node Whatever = refl

      by_seen : (stale : Bool) (o : Option (Version × Node)) → is_unclean_seen (mode q h) stale o ≡ dirty_as stale (mode q h) o
      by_seen true o = refl
      by_seen false None = refl
      by_seen false (Some x) = by_wants x.1 (wants (mode q h) x.1)

  no-clean : (names : List ℕ) → ((name : ℕ) → is_dirty q name h ≡ false) → list_any (is_clean_due q h) names ≡ false
  no-clean [] none = refl
  no-clean (name ∷ names) none = ap (λ b. b || list_any (is_clean_due q h) names) (clean-is name ∙ none name) ∙ no-clean names none

  some-clean : (name : ℕ) → is_dirty q name h ≡ true → (names : List ℕ) → Among name names → list_any (is_clean_due q h) names ≡ true
  some-clean name dirty [] at = absurd at
  some-clean name dirty (n ∷ names) (inl is) = ap (λ b. b || list_any (is_clean_due q h) names) (clean-is n ∙ ap (λ m. is_dirty q m h) (sym is) ∙ dirty)
  some-clean name dirty (n ∷ names) (inr at) = or-right (is_clean_due q h n) (list_any (is_clean_due q h) names) (some-clean name dirty names at)

  -- only a term that has synced sees something
  dirty-synced : (name : ℕ) → is_dirty q name h ≡ true → is_synced q h ≡ true
  dirty-synced name dirty = by_synced (is_synced q h) refl
    where
      by_synced : (b : Bool) → is_synced q h ≡ b → b ≡ true
      by_synced true is = refl
      by_synced false is = absurd (false_is (sym (unticked_clean q name h (begun.unsynced is)) ∙ dirty))

  busy-clean : (name : ℕ) → is_dirty q name h ≡ true → (is_synced q h && list_any (is_clean_due q h) (node_names h)) ≡ true
  busy-clean name dirty =
      let seen = dirty_seen q name h dirty in
      ap (λ b. b && list_any (is_clean_due q h) (node_names h)) (dirty-synced name dirty)
      ∙ some-clean name dirty (node_names h) (node_is_named q name h seen.0 seen.1)

  -- by when nodes are judged
  none-due : (rule : JudgeRule) → ((name : ℕ) → is_cleaned_by rule q name h ≡ false) → has_clean_due_by rule q h ≡ false
  none-due judges.Tick none = no-clean (node_names h) none
  none-due judges.Pass none = refl

  some-due : (rule : JudgeRule) (name : ℕ) → is_cleaned_by rule q name h ≡ true → (is_synced q h && has_clean_due_by rule q h) ≡ true
  some-due judges.Tick name dirty = busy-clean name dirty
  some-due judges.Pass name dirty = absurd (false_is dirty)

  pub at-once-is : (b : Bool) → (b ≡ false → (is_sync_at_once doc q h ≡ false) × ((n : ℕ) → is_cleaned_now doc q n h ≡ false))
      → (b ≡ true → (is_sync_at_once doc q h ≡ true) ⊎ ((n : ℕ) × (is_cleaned_now doc q n h ≡ true))) → b ≡ is_due_at_once doc q h
  at-once-is false quiet busy =
      let s = quiet refl in
      sym (ap (λ b. b || (is_synced q h && has_clean_due doc q h)) s.0
      ∙ ap (λ b. is_synced q h && b) (none-due doc.settings.rules.judge s.1)
      ∙ and-false (is_synced q h))
    where
      and-false : (b : Bool) → (b && false) ≡ false
      and-false true = refl
      and-false false = refl
  at-once-is true quiet busy = sym (by_cause (busy refl))
    where
      by_cause : (is_sync_at_once doc q h ≡ true) ⊎ ((n : ℕ) × (is_cleaned_now doc q n h ≡ true)) → is_due_at_once doc q h ≡ true
      by_cause (inl sync) = ap (λ b. b || (is_synced q h && has_clean_due doc q h)) sync
      by_cause (inr dirty) = or-right (is_sync_at_once doc q h) (is_synced q h && has_clean_due doc q h) (some-due doc.settings.rules.judge dirty.0 dirty.1)

-- ---- from a reading

some-waits : (o : Option ℕ) → has o ≡ true → (wanted : ℕ) × (o ≡ Some wanted)
some-waits None is = absurd (false_is is)
some-waits (Some wanted) is = (wanted, refl)

early-always : (now : ℕ) (b : Bool) (o : Option ℕ) → (b ≡ true → is_early now o ≡ true) → is_early now (only_if b o) ≡ true
early-always now true o is = is refl
early-always now false o is = refl

-- a reading as it is kept comes no later, and where it comes is one that can be kept
below : (now at : ℕ) → nat_lt now at ≡ true → at ≤ 18446744073709551615 → now < 18446744073709551615
below now at before fits = let less : now < at = grind (arith, nat_tests) in omega (arith, less, fits)

early-kept : (now : ℕ) (o : Option ℕ) → now < 18446744073709551615 → is_early now o ≡ true → is_early now (option_map kept o) ≡ true
early-kept now None within early = refl
early-kept now (Some at) within early =
    let less : now < at = grind (arith, nat_tests) in
    let still : now < kept at = omega (arith, less, within) in
    grind (arith, nat_tests)

kept-early : (now : ℕ) (o : Option ℕ) → is_early now (option_map kept o) ≡ true → is_early now o ≡ true
kept-early now None early = refl
kept-early now (Some at) early =
    let least : ℕ = kept at in
    let less : now < least = grind (arith, nat_tests) in
    let more : now < at = omega (arith, less) in
    grind (arith, nat_tests)

pub kept-same : (now : ℕ) (o : Option ℕ) → now < 18446744073709551615 → is_early now (option_map kept o) ≡ is_early now o
kept-same now o within = same-tests (is_early now (option_map kept o)) (is_early now o) (kept-early now o) (early-kept now o within)

fits : (now at : ℕ) → nat_lt now (kept at) ≡ true → nat_lt now 18446744073709551615 ≡ true
fits now at early =
    let least : ℕ = kept at in
    let less : now < least = grind (arith, nat_tests) in
    let more : now < 18446744073709551615 = omega (arith, less) in
    grind (arith, nat_tests)

within-kept : (now one : ℕ) (o : Option ℕ) → is_early now (option_map kept (sooner (Some one) o)) ≡ true → nat_lt now 18446744073709551615 ≡ true
within-kept now one None early = fits now one early
within-kept now one (Some other) early = fits now (min one other) early

not-early : (at : ℕ) → is_early at (Some at) ≡ true → ⊥
not-early at is = grind (arith, nat_tests)

module _ (doc : Doc) (q : Identity) (h : List Entry) where
  -- before the reading of a token it isn't there, and so at no reading before
  tells : (zone : Place) (at : ℕ) → is_token_at doc q zone h at ≡ false ↔ is_early at (token_at doc q zone h) ≡ true
  tells zone at = full_waits (is_full_by doc.settings.rules.bucket doc q zone h) at (local doc q.process (base q zone h)) (rated q zone h)

  token-first : (zone : Place) (at : ℕ) → token_at doc q zone h ≡ Some at → (is_token_at doc q zone h at ≡ true) × ((earlier : ℕ) → is_token_at doc q zone h earlier ≡ true → at ≤ earlier)
  token-first zone at is = (by_test (is_token_at doc q zone h at) refl, λ earlier there. by_order earlier there (nat_lt earlier at) refl)
    where
      by_test : (b : Bool) → is_token_at doc q zone h at ≡ b → b ≡ true
      by_test true there = refl
      by_test false none = absurd (not-early at (sym (ap (is_early at) is) ∙ (tells zone at).0 none))

      by_order : (earlier : ℕ) → is_token_at doc q zone h earlier ≡ true → (b : Bool) → nat_lt earlier at ≡ b → at ≤ earlier
      by_order earlier there true before = absurd (false_is (sym ((tells zone earlier).1 (ap (is_early earlier) is ∙ before)) ∙ there))
      by_order earlier there false after = grind (arith, nat_tests)

  token-is : (zone : Place) (at : ℕ) → is_token_at doc q zone h at ≡ true → ((earlier : ℕ) → is_token_at doc q zone h earlier ≡ true → at ≤ earlier) → token_at doc q zone h ≡ Some at
  token-is zone at there least = by_token (token_at doc q zone h) refl
    where
      by_token : (o : Option ℕ) → token_at doc q zone h ≡ o → o ≡ Some at
      by_token None is = absurd (false_is (sym ((tells zone at).1 (ap (is_early at) is)) ∙ there))
      by_token (Some first) is =
          let found = token-first zone first is in
          let one = least first found.0 in
          let two = found.1 at there in
          let same : first ≡ at = omega (arith, one, two) in
          ap Some same

  -- who comes first, by when nodes are judged
  has-head : (rule : JudgeRule) (zone : Place) → has_head_by rule doc q zone h ≡ true → HasHeadBy rule doc q h zone
  has-head judges.Tick zone = by_head (head_of q zone (node_names h) h) refl
    where
      by_head : (o : Option Queued) → head_of q zone (node_names h) h ≡ o → has o ≡ true → (name : ℕ) × (has (waits q zone name h) ≡ true)
      by_head None head is = absurd (false_is is)
      by_head (Some y) head is = let found = since_waits q zone y.1 y.0 h (head_waits q zone (node_names h) h y head) in (y.1, ap has found.1)
  has-head judges.Pass zone = by_queue (queue doc q zone (passes q h)) refl
    where
      by_queue : (names : List ℕ) → queue doc q zone (passes q h) ≡ names → has_first names ≡ true → (name : ℕ) × (rest : List ℕ) × (queue doc q zone (passes q h) ≡ name ∷ rest)
      by_queue [] queued is = absurd (false_is is)
      by_queue (name ∷ rest) queued is = (name, rest, queued)

  head-there : (rule : JudgeRule) (zone : Place) → HasHeadBy rule doc q h zone → (has_head_by rule doc q zone h ≡ true) × Among zone (queue_places_by rule q h)
  head-there judges.Tick zone head =
      let w = some-waits (waits q zone head.0 h) head.1 in
      let x = waiting q zone head.0 w.0 h w.1 in
      (ap (λ (o : Option Queued). has o) (head_some q zone h head.0 w.0 w.1 (node_names h) (node_is_named q head.0 h x.x x.sees)).1, waiting_place q zone head.0 w.0 h w.1)
  head-there judges.Pass zone head = (ap has_first head.2, queued_among doc q zone h head.0 head.1 head.2)

  -- the zone's reading in the history is the one at which its token is there and its queue has a head
  head-reading : (zone : Place) (at : ℕ) → agenda.head_at doc q zone h ≡ Some at → IsTokenReading doc q h zone at
  head-reading zone at = by_head (has_head doc q zone h) refl
    where
      by_head : (b : Bool) → has_head doc q zone h ≡ b → only_if b (token_at doc q zone h) ≡ Some at → IsTokenReading doc q h zone at
      by_head false head is = absurd (none_is at is)
      by_head true head is =
          let first = token-first zone at is in
          record { there = first.0; least = first.1; head = has-head doc.settings.rules.judge zone head }

  reading-head : (zone : Place) (at : ℕ) → IsTokenReading doc q h zone at → (agenda.head_at doc q zone h ≡ Some at) × Among zone (queue_places doc q h)
  reading-head zone at r =
      let head = head-there doc.settings.rules.judge zone r.head in
      (ap (λ b. only_if b (token_at doc q zone h)) head.0 ∙ token-is zone at r.there r.least, head.1)

  abbrev least_reading : Option ℕ
  least_reading = sooner (pass_at doc q h) (heads_at doc q (queue_places doc q h) h)

  same-pass : ¬ (last_pass q h ≡ None) → pass_reading doc q h ≡ pass_at doc q h
  same-pass some = by_pass (last_pass q h) refl
    where
      by_pass : (o : Option ℕ) → last_pass q h ≡ o → option_map (λ k. local doc q.process k + pass_period doc q h) o ≡ Some (agenda.pass_after doc q (pass_period doc q h) o)
      by_pass None is = absurd (some is)
      by_pass (Some last) is = refl

  module _ (some : ¬ (last_pass q h ≡ None)) (at : ℕ) (s : IsLeastAwaited doc q h at) where
    early-zone : (now : ℕ) → nat_lt now at ≡ true → (zone : Place) → is_early now (agenda.head_at doc q zone h) ≡ true
    early-zone now before zone = by_head (agenda.head_at doc q zone h) refl
      where
        by_head : (o : Option ℕ) → agenda.head_at doc q zone h ≡ o → is_early now o ≡ true
        by_head None is = refl
        by_head (Some other) is = let le = s.least other (inr (zone, head-reading zone other is)) in grind (arith, nat_tests)

    before-exact : (now : ℕ) → nat_lt now at ≡ true → is_early now least_reading ≡ true
    before-exact now before =
        let le = s.least (agenda.pass_after doc q (pass_period doc q h) (last_pass q h)) (inl (same-pass some)) in
        let pass : is_early now (pass_at doc q h) ≡ true = grind (arith, nat_tests) in
        both_sooner now (pass_at doc q h) (heads_at doc q (queue_places doc q h) h) pass (early_heads doc q now (queue_places doc q h) h (λ zone among. early-zone now before zone))

    before-all : (now : ℕ) → nat_lt now at ≡ true → is_early now (option_map kept least_reading) ≡ true
    before-all now before = early-kept now least_reading (below now at before s.fits) (before-exact now before)

    exact-before : IsAwaited doc q h at → (now : ℕ) → is_early now least_reading ≡ true → nat_lt now at ≡ true
    exact-before there now early = by_cause there (sooner_both now (pass_at doc q h) (heads_at doc q (queue_places doc q h) h) early)
      where
        by_cause : IsAwaited doc q h at → (is_early now (pass_at doc q h) ≡ true) × (is_early now (heads_at doc q (queue_places doc q h) h) ≡ true) → nat_lt now at ≡ true
        by_cause (inl pass) e = ap (is_early now) (sym pass ∙ same-pass some) ∙ e.0
        by_cause (inr head) e =
            let r = reading-head head.0 at head.1 in
            ap (is_early now) (sym r.0) ∙ heads_early doc q now (queue_places doc q h) h e.1 head.0 r.1

    all-before : (now : ℕ) → is_early now (option_map kept least_reading) ≡ true → nat_lt now at ≡ true
    all-before now early = by_there s.there
      where
        by_there : IsAwaited doc q h at ⊎ (at ≡ 18446744073709551615) → nat_lt now at ≡ true
        by_there (inl there) = exact-before there now (kept-early now least_reading early)
        by_there (inr greatest) = ap (nat_lt now) greatest ∙ within-kept now (agenda.pass_after doc q (pass_period doc q h) (last_pass q h)) (heads_at doc q (queue_places doc q h) h) early

    synced-is : Some at ≡ option_map kept least_reading
    synced-is = early_same (Some at) (option_map kept least_reading) (λ now. same-tests (nat_lt now at) (is_early now (option_map kept least_reading)) (before-all now) (all-before now))

  module _ (begun : HasBegun q h) where
    not-synced : last_pass q h ≡ None → (b : Bool) → is_synced q h ≡ b → b ≡ false
    not-synced none true is = absurd (false_is (ap has (sym none) ∙ begun.passed is))
    not-synced none false is = refl

    synced-once : ¬ (last_pass q h ≡ None) → (b : Bool) → is_synced q h ≡ b → b ≡ true
    synced-once some true is = refl
    synced-once some false is = absurd (some (no_pass q h (begun.unsynced is)))

    pub reading-is : (o : Option Local) → IfNone o (last_pass q h ≡ None) → IfSome o (λ at. ¬ (last_pass q h ≡ None)) → IfSome o (λ at. IsLeastAwaited doc q h at.0) → reading_of o ≡ option_map kept (synced_reading doc q h)
    reading-is None none some least = sym (ap (λ b. option_map kept (only_if b least_reading)) (not-synced none (is_synced q h) refl))
    reading-is (Some at) none some least = synced-is some at.0 least ∙ ap (λ b. option_map kept (only_if b least_reading)) (sym (synced-once some (is_synced q h) refl))

-- ---- from a time of day

module _ (doc : Doc) (q : Identity) (h : List Entry) where
  time-is : (key : Key) → is_pod key.kind ≡ true → due_at doc q key h ≡ time_of (term_due doc q key h)
  time-is key kind = by_rule doc.settings.rules.evict_from
    where
      by_node : (x : Pod) (o : Option (Version × Node)) → agenda.due_on x o ≡ time_of (due_on x o)
      by_node x None = refl
      by_node x (Some y) = refl

      by_stale : (b : Bool) (o : Option (Version × Pod)) → due_seen q b o h ≡ time_of (due_as q b o h)
      by_stale true o = refl
      by_stale false None = refl
      by_stale false (Some x) = by_node x.1 (seen_node q x.1.node h)

      by_sight : (b : Bool) (o : Option (Version × Pod)) (at : Due) → due_sighted b o at ≡ time_of (sighted_as b o at)
      by_sight true o at = refl
      by_sight false None at = refl
      by_sight false (Some x) at = refl

      by_rule : (rule : EvictRule) → due_at_by rule doc q key h ≡ time_of (due_by rule doc q key h)
      by_rule evictions.Added = by_stale (is_stale q key h) (seen_pod q key h) ∙ ap (λ b. time_of (due_as q (not b || is_stale q key h) (seen_pod q key h) h)) (sym kind)
      by_rule evictions.Seen =
          by_sight (is_stale q key h) (seen_pod q key h) (sighted_due doc q key h)
          ∙ ap (λ b. time_of (sighted_as (not b || is_stale q key h) (seen_pod q key h) (sighted_due doc q key h))) (sym kind)

  all-early : (w : ℕ) → ((key : Key) → is_early w (time_of (term_due doc q key h)) ≡ true) → (keys : List Key) → Each IsPodKey keys → is_early w (dues_at doc q keys h) ≡ true
  all-early w each [] kinds = refl
  all-early w each (key ∷ keys) kinds = both_sooner w (due_at doc q key h) (dues_at doc q keys h) (ap (is_early w) (time-is key kinds.0) ∙ each key) (all-early w each keys kinds.1)

  each-early : (w : ℕ) (key : Key) (keys : List Key) → Among key keys → is_early w (dues_at doc q keys h) ≡ true → is_early w (due_at doc q key h) ≡ true
  each-early w key [] at early = absurd at
  each-early w key (k ∷ keys) (inl is) early = ap (λ x. is_early w (due_at doc q x h)) is ∙ (sooner_both w (due_at doc q k h) (dues_at doc q keys h) early).0
  each-early w key (k ∷ keys) (inr at) early = each-early w key keys at (sooner_both w (due_at doc q k h) (dues_at doc q keys h) early).1

  -- only a pod that is seen is ever due
  record IsSeenPod (key : Key) : Type 0 where
    kind : is_pod key.kind ≡ true
    x : Version × Pod
    sees : seen_pod q key h ≡ Some x

  due-seen : (key : Key) (at : ℕ) → term_due doc q key h ≡ At at → IsSeenPod key
  due-seen key at is = by_rule doc.settings.rules.evict_from is
    where
      by_rule : (rule : EvictRule) → due_by rule doc q key h ≡ At at → IsSeenPod key
      by_rule evictions.Added is = let s = seen_as_due q key h at is in record { kind = s.kind; x = s.x; sees = s.sees }
      by_rule evictions.Seen is = let s = sighted_as_due doc q key h at is in record { kind = s.kind; x = s.x; sees = s.sees }

  -- before the first tick none is
  unticked-due : (key : Key) → ticks q h ≡ 0 → term_due doc q key h ≡ Never
  unticked-due key none = by_rule doc.settings.rules.evict_from
    where
      by_sight : (b : Bool) (at : Due) → sighted_as b None at ≡ Never
      by_sight true at = refl
      by_sight false at = refl

      by_rule : (rule : EvictRule) → due_by rule doc q key h ≡ Never
      by_rule evictions.Added = unticked_never q key h none
      by_rule evictions.Seen =
          ap (λ o. sighted_as (not (is_pod key.kind) || is_stale q key h) o (sighted_due doc q key h)) (unticked_unseen q key h none)
          ∙ by_sight (not (is_pod key.kind) || is_stale q key h) (sighted_due doc q key h)

  module _ (begun : HasBegun q h) where
    due-synced : (key : Key) (at : ℕ) → term_due doc q key h ≡ At at → (b : Bool) → is_synced q h ≡ b → b ≡ true
    due-synced key at due true is = refl
    due-synced key at due false is = absurd (never-at at (sym (unticked-due key (begun.unsynced is)) ∙ due))
      where
        never-at : (at : ℕ) → Never ≡ At at → ⊥
        never-at at is = cc

    later : (w at : ℕ) → ((key : Key) (other : ℕ) → term_due doc q key h ≡ At other → at ≤ other) → nat_lt w at ≡ true → (key : Key) → is_early w (time_of (term_due doc q key h)) ≡ true
    later w at least before key = by_due (term_due doc q key h) refl
      where
        by_due : (d : Due) → term_due doc q key h ≡ d → is_early w (time_of d) ≡ true
        by_due Never is = refl
        by_due (At other) is = let le = least key other is in grind (arith, nat_tests)

    sooner-than : (w at : ℕ) (key : Key) → term_due doc q key h ≡ At at → is_early w (dues_at doc q (pod_keys h) h) ≡ true → nat_lt w at ≡ true
    sooner-than w at key is early =
        let s = due-seen key at is in
        ap (is_early w) (sym (time-is key s.kind ∙ ap time_of is)) ∙ each-early w key (pod_keys h) (pod_is_named q key h s.x s.kind s.sees) early

    pub time-least : (w : ℕ) (o : Option ℕ) → IfSome o (λ at. (key : Key) × (term_due doc q key h ≡ At at)) → IfSome o (λ at. (key : Key) (other : ℕ) → term_due doc q key h ≡ At other → at ≤ other)
        → IfNone o ((key : Key) → term_due doc q key h ≡ Never) → is_early w o ≡ is_early w (term_time doc q h)
    time-least w None there least none =
        sym (early-always w (is_synced q h) (dues_at doc q (pod_keys h) h) (λ _. all-early w (λ key. ap (λ d. is_early w (time_of d)) (none key)) (pod_keys h) (pods_only h)))
    time-least w (Some at) there least none =
        same-tests (nat_lt w at) (is_early w (dues_at doc q (pod_keys h) h)) (λ before. all-early w (later w at least before) (pod_keys h) (pods_only h)) (sooner-than w at there.0 there.1)
        ∙ ap (λ b. is_early w (only_if b (dues_at doc q (pod_keys h) h))) (sym (due-synced there.0 at there.1 (is_synced q h) refl))

-- ---- from the reading at which the limit lets another go

before-early : (now : ℕ) (o : Option ℕ) → is_before now o ≡ is_early now o
before-early now None = refl
before-early now (Some at) = refl

not-before-first : (now : ℕ) → nat_lt now 0 ≡ false
not-before-first now = grind (arith, nat_tests)

room-is : (doc : Doc) (k : ℕ) (q : Identity) (h : List Entry) → is_early (local doc q.process k) (room_at doc q h) ≡ not ((doc.settings.rules.evict_burst == 0) || has_room doc q k 0 h)
room-is doc k q h = by_limit (doc.settings.rules.evict_burst == 0)
  where
    by_room : (b : Bool) → has_room doc q k 0 h ≡ b → is_early (local doc q.process k) (room_from doc q 0 h) ≡ not b
    by_room false none = (rooms_wake doc k q 0 h).0 none
    by_room true room = by_early (is_early (local doc q.process k) (room_from doc q 0 h)) refl
      where
        by_early : (b : Bool) → is_early (local doc q.process k) (room_from doc q 0 h) ≡ b → b ≡ false
        by_early true early = absurd (false_is (sym ((rooms_wake doc k q 0 h).1 early) ∙ room))
        by_early false late = refl

    by_limit : (b : Bool) → is_early (local doc q.process k) (cond b (Some 0) (room_from doc q 0 h)) ≡ not (b || has_room doc q k 0 h)
    by_limit true = not-before-first (local doc q.process k)
    by_limit false = by_room (has_room doc q k 0 h) refl

pub room-reading : (doc : Doc) (k : ℕ) (q : Identity) (h : List Entry) (o : Option ℕ) → IsRoomReading doc q h o → AreUpTo k h → is_early (local doc q.process k) o ≡ is_early (local doc q.process k) (room_at doc q h)
room-reading doc k q h o reads upto = sym (before-early (local doc q.process k) o) ∙ reads k upto ∙ sym (room-is doc k q h)
