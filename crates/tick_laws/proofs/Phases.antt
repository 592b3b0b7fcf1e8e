-- Which entries each phase of a tick adds, and what a phase leaves as it was.
use Rattle.std.proofs.Common.{◌≡◌, ◌∙◌, ℕ, ◌+◌, ◌==◌, ◌&&◌, not, Bool, true, false, List, [], ◌∷◌, Option, Some, None, refl, sym, ap, subst}
use Rattle.std.specs.Prelude.{if◌then◌else◌}
use Rattle.kube_base.specs.declared.numbers.Version.{Version}
use Rattle.kube_objects.specs.declared.call.Answer.{Answer}
use Rattle.kube_objects.specs.declared.deed.Actor.{Actor}
use Rattle.kube_objects.specs.declared.key.Key.{Key}
use Rattle.kube_objects.specs.declared.node.Node.{Node}
use Rattle.kube_objects.specs.declared.rules.EvictRule.{EvictRule}
use Rattle.kube_objects.specs.declared.rules.EvictRule.TheVariants.{Added, Seen}
use Rattle.kube_objects.specs.declared.rules.SightRule.{SightRule}
use Rattle.kube_objects.specs.declared.rules.SightRule.TheVariants.{Keep, Strip}
use Rattle.kube_objects.specs.Document.{Doc, of_millis}
use Rattle.kube_objects.specs.Entry.{Entry, Identity, Place, Fact, Ticks, Tick, Sync, Pass, Mark, Mode, Zone, Untaint, Swap, Head, Delete, Skip, actor_of, entry}
use Rattle.kube_objects.specs.Health.{and_name, at_pass, before_pass, is_found, is_known, is_pass, last_pass, marked_name, marked_since, pass_period, pass_says, pods_to_write, work_of}
use Rattle.kube_objects.specs.Judgement.{counts, had_turn, marks as marks_of, passes, queue, queue_head, turns_on}
use Rattle.kube_objects.specs.Modes.{place_eq, mode}
use Rattle.kube_objects.specs.Newest.{newest, when, only_if, join, or_else, or_zero}
use Rattle.kube_objects.specs.Identities.{is_by}
use Rattle.kube_objects.specs.Seen.{is_accepted, is_refused, is_pod}
use Rattle.kube_objects.specs.Stored.{node_key}
use Rattle.kube_objects.specs.Tick.{add, is_stripped, sync, set_mode, zone, set_zones, marks, pass, clean, cleaned, tainted, evict, evicted, tick}
use Rattle.kube_objects.specs.Tokens.{is_zone, rated_says, rated, has_rate, is_base, base, fills, fills_zone, grown, is_full, is_there}
use Rattle.kube_objects.proofs.Passes.{IsQuiet, and_last, counts_kept as quiet_counts, passes_grow, queue_grows}
use Rattle.history_laws.proofs.Plainly.{false_is, true_is, none_is, some_is}
use Rattle.history_laws.proofs.Ticks.{IsDeleteBy, MadeTick, WritesOver, IsPodKey, is_looking, is_cleaning, is_heading, evict_step, evicted_each, kept_sync, kept_mode, kept_zone, kept_rest, kept_pass, kept_clean, kept_cleaned, kept_tainted, walk_sync, walk_pass, walk_cleaned, walk_tainted, walk_evicted, walk_tick}
use Rattle.tick_laws.specs.Judged.{waits_since}
use Rattle.tick_laws.specs.Rows.{no_heads, IsFresh}
use Rattle.tick_laws.specs.Since.{IsReached, AreReached}
use Rattle.watch_cache.proofs.Frames.{upper}
use Rattle.watch_cache.specs.Stands.{is_tick_by}
use Rattle.tick_laws.proofs.Foreign.{foreign_change}
use Rattle.tick_laws.proofs.Reached.{own_reached, sync_reached, refused_node_reached, refused_pod_reached, refused_alone_reached}
use Rattle.tick_laws.proofs.Waiting.{no_heads_more, delete_key, fresh_same}

-- ---- the entries of each phase

abbrev pub is_passing : Tick → Bool
is_passing Pass = true
is_passing (Mark name given written a) = true
is_passing (Mode on) = true
is_passing (Zone place state rate) = true
is_passing _ = false

looking_passes : (t : Tick) → is_looking t ≡ true → is_passing t ≡ true
looking_passes Pass is = refl
looking_passes t is = is

module _ (doc : Doc) (k : ℕ) (q : Identity) (P : List Entry → Type 0) where
  module _ (more : (t : Tick) (h : List Entry) → is_passing t ≡ true → P h → P (add k q t h)) where
    looked : (t : Tick) (h : List Entry) → is_looking t ≡ true → MadeTick doc k q t h → WritesOver q t h → P h → P (add k q t h)
    looked t h is made over p = more t h (looking_passes t is) p

    pub mode_step : (h : List Entry) → P h → P (set_mode doc k q h)
    mode_step = kept_mode doc k q P looked

    pub zone_step : (seen : List Node) (place : Place) (h : List Entry) → P h → P (zone doc k q seen place h)
    zone_step = kept_zone doc k q P looked

    -- marks, mode and zones, after the entry of the pass
    pub pass_rest : (h : List Entry) → P h → P (set_zones doc k q (set_mode doc k q (marks doc k q h)))
    pass_rest = kept_rest doc k q P looked

    pub pass_keeps : (h : List Entry) → P h → P (pass doc k q h)
    pass_keeps = kept_pass doc k q P (λ h p. more Pass h refl p) pass_rest

  module _ (more : (t : Tick) (h : List Entry) → is_cleaning t ≡ true → MadeTick doc k q t h → P h → P (add k q t h)) where
    pub clean_step : (name : ℕ) (h : List Entry) → P h → P (clean doc k q name h)
    clean_step = kept_clean doc k q P (λ t h is made over p. more t h is made p)

    pub cleaned_keeps : (h : List Entry) → P h → P (cleaned doc k q h)
    cleaned_keeps = kept_cleaned doc k q P (λ t h is made over p. more t h is made p)

  module _ (more : (t : Tick) (h : List Entry) → is_heading t ≡ true → MadeTick doc k q t h → P h → P (add k q t h)) where
    pub tainted_keeps : (h : List Entry) → P h → P (tainted doc k q h)
    tainted_keeps = kept_tainted doc k q P (λ t h is made over p. more t h is made p)

  module _ (more : (pod : Key) (given node_given : Version) (at : ℕ) (a : Option Answer) (h : List Entry) → is_pod pod.kind ≡ true → P h → P (add k q (Delete pod given node_given at a) h)) where
    pub evict_keeps : (pod : Key) (h : List Entry) → IsPodKey pod → P h → P (evict doc k q pod h)
    evict_keeps pod h kind p = evict_step doc k q P pod h kind p (λ given node_given at a made. more pod given node_given at a h kind p)

    pub evicted_keeps : (h : List Entry) → P h → P (evicted doc k q h)
    evicted_keeps h p = evicted_each doc k q P evict_keeps h p

-- ---- what an entry leaves that is of another kind

pub pass_kept : (q : Identity) (k : ℕ) (h : List Entry) (t : Tick) → is_passing t ≡ false → last_pass q (add k q t h) ≡ last_pass q h
pass_kept q k h Pass is = absurd (true_is is)
pass_kept q k h t is = refl

pub period_kept : (doc : Doc) (q : Identity) (k : ℕ) (h : List Entry) (t : Tick) → is_passing t ≡ false → pass_period doc q (add k q t h) ≡ pass_period doc q h
period_kept doc q k h Pass is = absurd (true_is is)
period_kept doc q k h (Mark name given written a) is = absurd (true_is is)
period_kept doc q k h t is = refl

pub rated_kept : (q : Identity) (k : ℕ) (h : List Entry) (t : Tick) → is_passing t ≡ false → (place : Place) → rated q place (add k q t h) ≡ rated q place h
rated_kept q k h Pass is place = absurd (true_is is)
rated_kept q k h (Zone p s rate) is place = absurd (true_is is)
rated_kept q k h t is place = refl

pub base_kept : (q : Identity) (k : ℕ) (h : List Entry) (t : Tick) → is_passing t ≡ false → is_heading t ≡ false → (place : Place) → base q place (add k q t h) ≡ base q place h
base_kept q k h (Zone p s rate) is other place = absurd (true_is is)
base_kept q k h (Head p name wanted given written a) is other place = absurd (true_is other)
base_kept q k h (Skip p name) is other place = absurd (true_is other)
base_kept q k h t is other place = refl

pub full_kept : (doc : Doc) (q : Identity) (k : ℕ) (h : List Entry) (t : Tick) → is_passing t ≡ false → is_heading t ≡ false → (place : Place)
    → is_full doc q place (add k q t h) ≡ is_full doc q place h
full_kept doc q k h (Zone p s rate) is other place = absurd (true_is is)
full_kept doc q k h (Head p name wanted given written a) is other place = absurd (true_is other)
full_kept doc q k h (Skip p name) is other place = absurd (true_is other)
full_kept doc q k h t is other place = refl

pub before_kept : (q : Identity) (k : ℕ) (h : List Entry) (t : Tick) → is_passing t ≡ false → before_pass q (add k q t h) ≡ before_pass q h
before_kept q k h Pass is = absurd (true_is is)
before_kept q k h t is = refl

pub known_kept : (q : Identity) (k : ℕ) (h : List Entry) (t : Tick) → is_passing t ≡ false → (name : ℕ) → is_known q name (add k q t h) ≡ is_known q name h
known_kept q k h Pass is name = absurd (true_is is)
known_kept q k h t is name = refl

pub stripped_kept : (rule : SightRule) (q : Identity) (k : ℕ) (h : List Entry) (t : Tick) → is_passing t ≡ false → (name : ℕ)
    → is_stripped rule k q name (add k q t h) ≡ is_stripped rule k q name h
stripped_kept Keep q k h t is name = refl
stripped_kept Strip q k h Pass is name = absurd (true_is is)
stripped_kept Strip q k h t is name = refl

-- an entry that is of no pass leaves who counts as pushed, and one that is no turn the queues too
quiet_entry : (q : Identity) (k : ℕ) (t : Tick) → is_passing t ≡ false → IsQuiet q (entry k 4 q (Ticks t))
quiet_entry q k t is = record { marks = λ name. by_marks name t is; turns = by_turns t is }
  where
    by_marks : (name : ℕ) (t : Tick) → is_passing t ≡ false → marks_of q name (actor_of q) (Ticks t) ≡ false
    by_marks name (Mark n given written a) is = absurd (true_is is)
    by_marks name t is = refl

    by_turns : (t : Tick) → is_passing t ≡ false → turns_on q (actor_of q) (Ticks t) ≡ false
    by_turns (Mode on) is = absurd (true_is is)
    by_turns t is = refl

quiet_passes : (q : Identity) (k : ℕ) (h : List Entry) (t : Tick) → is_passing t ≡ false → passes q (add k q t h) ≡ and_last (entry k 4 q (Ticks t)) (passes q h)
quiet_passes q k h t is = passes_grow q (entry k 4 q (Ticks t)) h (by_tick t is)
  where
    by_tick : (t : Tick) → is_passing t ≡ false → is_pass q (actor_of q) (Ticks t) ≡ false
    by_tick Pass is = absurd (true_is is)
    by_tick t is = refl

pub counts_kept : (doc : Doc) (q : Identity) (k : ℕ) (h : List Entry) (t : Tick) → is_passing t ≡ false → (place : Place) (name : ℕ)
    → counts doc q place name (passes q (add k q t h)) ≡ counts doc q place name (passes q h)
counts_kept doc q k h t is place name =
    ap (counts doc q place name) (quiet_passes q k h t is) ∙ quiet_counts q (entry k 4 q (Ticks t)) (quiet_entry q k t is) doc place name (passes q h)

pub queue_kept : (doc : Doc) (q : Identity) (k : ℕ) (h : List Entry) (t : Tick) → is_passing t ≡ false → is_heading t ≡ false → (place : Place)
    → queue doc q place (passes q (add k q t h)) ≡ queue doc q place (passes q h)
queue_kept doc q k h t is other place =
    ap (queue doc q place) (quiet_passes q k h t is)
    ∙ queue_grows doc q place (entry k 4 q (Ticks t)) (passes q h) (quiet_entry q k t is)
    ∙ by_tick t other
  where
    by_tick : (t : Tick) → is_heading t ≡ false → queue_head doc q place (passes q h) (actor_of q) (Ticks t) (queue doc q place (passes q h)) ≡ queue doc q place (passes q h)
    by_tick (Head p name wanted given written a) other = absurd (true_is other)
    by_tick (Skip p name) other = absurd (true_is other)
    by_tick t other = refl

pub mode_kept : (q : Identity) (k : ℕ) (h : List Entry) (t : Tick) → is_passing t ≡ false → mode q (add k q t h) ≡ mode q h
mode_kept q k h (Mode on) is = absurd (true_is is)
mode_kept q k h t is = refl

pub heads_kept : (q : Identity) (k : ℕ) (h : List Entry) (t : Tick) → is_heading t ≡ false → no_heads q k h ≡ true → no_heads q k (add k q t h) ≡ true
heads_kept q k h (Head p name wanted given written a) is none = absurd (true_is is)
heads_kept q k h t is none = no_heads_more q k h t refl none

-- ---- what the limits of zones, the passes and the mode look at, through a phase that has no entry of theirs

pub record KeepsLimits (q : Identity) (h g : List Entry) : Type 0 where
  pub passed : last_pass q g ≡ last_pass q h
  pub period : (doc : Doc) → pass_period doc q g ≡ pass_period doc q h
  pub rated : (place : Place) → rated q place g ≡ rated q place h
  pub base : (place : Place) → base q place g ≡ base q place h
  pub full : (doc : Doc) (place : Place) → is_full doc q place g ≡ is_full doc q place h
  pub mode : mode q g ≡ mode q h
  pub before : before_pass q g ≡ before_pass q h
  pub known : (name : ℕ) → is_known q name g ≡ is_known q name h
  pub counts : (doc : Doc) (place : Place) (name : ℕ) → counts doc q place name (passes q g) ≡ counts doc q place name (passes q h)
  pub queue : (doc : Doc) (place : Place) → queue doc q place (passes q g) ≡ queue doc q place (passes q h)

limits_same : (q : Identity) (h : List Entry) → KeepsLimits q h h
limits_same q h =
    record {
      passed = refl;
      period = λ doc. refl;
      rated = λ place. refl;
      base = λ place. refl;
      full = λ doc place. refl;
      mode = refl;
      before = refl;
      known = λ name. refl;
      counts = λ doc place name. refl;
      queue = λ doc place. refl;
    }

limits_more : (q : Identity) (k : ℕ) (h g : List Entry) (t : Tick) → is_passing t ≡ false → is_heading t ≡ false → KeepsLimits q h g → KeepsLimits q h (add k q t g)
limits_more q k h g t unpassing unheading s =
    record {
      passed = pass_kept q k g t unpassing ∙ s.passed;
      period = λ doc. period_kept doc q k g t unpassing ∙ s.period doc;
      rated = λ place. rated_kept q k g t unpassing place ∙ s.rated place;
      base = λ place. base_kept q k g t unpassing unheading place ∙ s.base place;
      full = λ doc place. full_kept doc q k g t unpassing unheading place ∙ s.full doc place;
      mode = mode_kept q k g t unpassing ∙ s.mode;
      before = before_kept q k g t unpassing ∙ s.before;
      known = λ name. known_kept q k g t unpassing name ∙ s.known name;
      counts = λ doc place name. counts_kept doc q k g t unpassing place name ∙ s.counts doc place name;
      queue = λ doc place. queue_kept doc q k g t unpassing unheading place ∙ s.queue doc place;
    }

cleaning_alone : (t : Tick) → is_cleaning t ≡ true → (is_passing t ≡ false) × (is_heading t ≡ false)
cleaning_alone (Untaint name given written a) is = (refl, refl)
cleaning_alone (Swap name wanted given written a) is = (refl, refl)
cleaning_alone t is = absurd (false_is is)

heading_alone : (t : Tick) → is_heading t ≡ true → is_passing t ≡ false
heading_alone (Head place name wanted given written a) is = refl
heading_alone (Skip place name) is = refl
heading_alone t is = absurd (false_is is)

passing_alone : (t : Tick) → is_passing t ≡ true → is_heading t ≡ false
passing_alone (Head place name wanted given written a) is = absurd (false_is is)
passing_alone (Skip place name) is = absurd (false_is is)
passing_alone t is = refl

module _ (doc : Doc) (k : ℕ) (q : Identity) (h : List Entry) where
  pub sync_limits : KeepsLimits q h (sync doc k q h)
  sync_limits = kept_sync doc k q (KeepsLimits q h) (λ g s. limits_more q k h g Sync refl refl s) h (limits_same q h)

  pub cleaned_limits : KeepsLimits q h (cleaned doc k q h)
  cleaned_limits =
      cleaned_keeps doc k q (KeepsLimits q h) (λ t g is made s. limits_more q k h g t (cleaning_alone t is).0 (cleaning_alone t is).1 s) h (limits_same q h)

  pub evicted_limits : KeepsLimits q h (evicted doc k q h)
  evicted_limits = evicted_keeps doc k q (KeepsLimits q h) (λ pod given node_given at a g made s. limits_more q k h g (Delete pod given node_given at a) refl refl s) h (limits_same q h)

  -- queued taints take tokens, and leave the rest of this
  pub tainted_passed : last_pass q (tainted doc k q h) ≡ last_pass q h
  tainted_passed = tainted_keeps doc k q (λ g. last_pass q g ≡ last_pass q h) (λ t g is made s. pass_kept q k g t (heading_alone t is) ∙ s) h refl

  pub tainted_period : pass_period doc q (tainted doc k q h) ≡ pass_period doc q h
  tainted_period = tainted_keeps doc k q (λ g. pass_period doc q g ≡ pass_period doc q h) (λ t g is made s. period_kept doc q k g t (heading_alone t is) ∙ s) h refl

  pub tainted_rated : (place : Place) → rated q place (tainted doc k q h) ≡ rated q place h
  tainted_rated place = tainted_keeps doc k q (λ g. rated q place g ≡ rated q place h) (λ t g is made s. rated_kept q k g t (heading_alone t is) place ∙ s) h refl

  pub tainted_mode : mode q (tainted doc k q h) ≡ mode q h
  tainted_mode = tainted_keeps doc k q (λ g. mode q g ≡ mode q h) (λ t g is made s. mode_kept q k g t (heading_alone t is) ∙ s) h refl

  pub tainted_before : before_pass q (tainted doc k q h) ≡ before_pass q h
  tainted_before = tainted_keeps doc k q (λ g. before_pass q g ≡ before_pass q h) (λ t g is made s. before_kept q k g t (heading_alone t is) ∙ s) h refl

  pub tainted_known : (name : ℕ) → is_known q name (tainted doc k q h) ≡ is_known q name h
  tainted_known name =
      tainted_keeps doc k q (λ g. is_known q name g ≡ is_known q name h) (λ t g is made s. known_kept q k g t (heading_alone t is) name ∙ s) h refl

  -- ---- one node's untaint or swap leaves who is stripped

  pub clean_stripped : (rule : SightRule) (name m : ℕ) → is_stripped rule k q m (clean doc k q name h) ≡ is_stripped rule k q m h
  clean_stripped rule name m =
      clean_step doc k q (λ g. is_stripped rule k q m g ≡ is_stripped rule k q m h) (λ t g is made s. stripped_kept rule q k g t (cleaning_alone t is).0 m ∙ s) name h refl

  -- ---- before the queued taints there are none

  pub sync_heads : no_heads q k h ≡ true → no_heads q k (sync doc k q h) ≡ true
  sync_heads = kept_sync doc k q (λ g. no_heads q k g ≡ true) (λ g s. heads_kept q k g Sync refl s) h

  pub pass_heads : no_heads q k h ≡ true → no_heads q k (pass doc k q h) ≡ true
  pass_heads = pass_keeps doc k q (λ g. no_heads q k g ≡ true) (λ t g is s. heads_kept q k g t (passing_alone t is) s) h

  pub cleaned_heads : no_heads q k h ≡ true → no_heads q k (cleaned doc k q h) ≡ true
  cleaned_heads = cleaned_keeps doc k q (λ g. no_heads q k g ≡ true) (λ t g is made s. heads_kept q k g t (cleaning_alone t is).1 s) h

  -- ---- deletes leave since when nodes wait

  pub evicted_since : ((place : Place) (name : ℕ) → IsFresh q k place name h)
      → (place : Place) (name : ℕ) → (waits_since q place name (evicted doc k q h) ≡ waits_since q place name h) × IsFresh q k place name (evicted doc k q h)
  evicted_since fresh place name =
      evicted_keeps doc k q (λ g. (waits_since q place name g ≡ waits_since q place name h) × IsFresh q k place name g)
      (λ pod given node_given at a g kind s. (
        delete_key q k place name pod given node_given at a g kind s.1 ∙ s.0,
        fresh_same q k place name (Delete pod given node_given at a) g (delete_key q k place name pod given node_given at a g kind s.1) s.1,
      ))
      h (refl, fresh place name)

-- ---- stale keys are reached, through each phase

refused_reached : (rule : EvictRule) (doc : Doc) (k : ℕ) (q : Identity) (pod : Key) (given node_given : Version) (at : ℕ) (a : Option Answer) (h : List Entry) → IsDeleteBy rule doc k q pod given node_given at a h → is_refused a ≡ true
    → IsReached q h pod
refused_reached Added doc k q pod given node_given at a h d refused = refused_pod_reached q pod h (given, d.x) (node_given, d.y) d.sees d.sees_node (ap is_refused (sym d.is) ∙ refused)
refused_reached Seen doc k q pod given node_given at a h d refused = refused_alone_reached q pod h (given, d.x) d.sees (ap is_refused (sym d.is) ∙ refused)

made_reached : (doc : Doc) (k : ℕ) (q : Identity) (t : Tick) (h : List Entry) → MadeTick doc k q t h → AreReached q h → AreReached q (add k q t h)
made_reached doc k q Sync h made old = sync_reached q k h
made_reached doc k q (Untaint name given written a) h made old = own_reached q k h (Untaint name given written a) refl old (λ key is. by_test key (is_refused a) refl is)
  where
    by_test : (key : Key) (b : Bool) → is_refused a ≡ b → when b (node_key name) ≡ Some key → IsReached q h key
    by_test key false refused is = absurd (none_is key is)
    by_test key true refused is = subst (IsReached q h) (some_is (node_key name) key is) (refused_node_reached q name h (given, made.0) made.1 (ap is_refused (sym made.2) ∙ refused))
made_reached doc k q (Swap name wanted given written a) h made old = own_reached q k h (Swap name wanted given written a) refl old (λ key is. by_test key (is_refused a) refl is)
  where
    by_test : (key : Key) (b : Bool) → is_refused a ≡ b → when b (node_key name) ≡ Some key → IsReached q h key
    by_test key false refused is = absurd (none_is key is)
    by_test key true refused is = subst (IsReached q h) (some_is (node_key name) key is) (refused_node_reached q name h (given, made.0) made.1 (ap is_refused (sym made.2) ∙ refused))
made_reached doc k q (Delete pod given node_given at a) h made old = own_reached q k h (Delete pod given node_given at a) refl old (λ key is. by_test key (is_refused a) refl is)
  where
    by_test : (key : Key) (b : Bool) → is_refused a ≡ b → when b pod ≡ Some key → IsReached q h key
    by_test key false refused is = absurd (none_is key is)
    by_test key true refused is = subst (IsReached q h) (some_is pod key is) (refused_reached doc.settings.rules.evict_from doc k q pod given node_given at a h made.0 refused)
made_reached doc k q t h made old = own_reached q k h t refl old (λ key is. absurd (none_is key is))

module _ (doc : Doc) (k : ℕ) (q : Identity) (h : List Entry) (old : AreReached q h) where
  pub reached_after_sync : AreReached q (sync doc k q h)
  reached_after_sync = walk_sync doc k q (AreReached q) (made_reached doc k q) h old

  pub reached_after_pass : AreReached q (pass doc k q h)
  reached_after_pass = walk_pass doc k q (AreReached q) (made_reached doc k q) h old

  pub reached_after_cleaned : AreReached q (cleaned doc k q h)
  reached_after_cleaned = walk_cleaned doc k q (AreReached q) (made_reached doc k q) h old

  pub reached_after_tainted : AreReached q (tainted doc k q h)
  reached_after_tainted = walk_tainted doc k q (AreReached q) (made_reached doc k q) h old

  pub reached_after_evicted : AreReached q (evicted doc k q h)
  reached_after_evicted = walk_evicted doc k q (AreReached q) (made_reached doc k q) h old

  pub reached_after_tick : AreReached q (tick doc k q h)
  reached_after_tick = walk_tick doc k q (AreReached q) (made_reached doc k q) h old

-- ---- an entry that is no own entry of a tick

pub foreign_limits : (q : Identity) (h : List Entry) (e : Entry) → is_tick_by q e.actor e.fact ≡ false → KeepsLimits q h (e ∷ h)
foreign_limits q h e other =
    record {
      passed = ap (λ o. upper o (last_pass q h)) (by_pass e.actor e.fact other);
      period = λ doc. ap (λ x.
          elim (doc.settings.rules.ready_millis == 0) [
            | true ↦ of_millis doc.settings.monitor_period_millis
            | false ↦ of_millis doc.settings.monitor_period_millis
                + work_of doc.settings.rules.ready_millis doc.settings.rules.ready_burst (pods_to_write q x.0 x.1)
          ]) (pair_is (by_marked e.actor e.fact other) (ap (λ o. or_else [] (upper o (newest (λ e T. at_pass q (λ T. Some T) e.actor e.fact T) h))) (by_at (λ T. Some T) e.actor e.fact other)));
      rated = λ place. ap (λ o. join (upper o (newest (λ e T. rated_says q place e.actor e.fact T) h))) (by_rated place e.actor e.fact other);
      base = λ place. ap (λ b. or_zero (upper (when b e.beat) (newest (λ e T. when (is_base q place e.actor e.fact T) e.beat) h))) (by_base place e.actor e.fact other);
      full = λ doc place. by_full doc place (is_full doc q place h) e.actor e.fact other;
      mode = (foreign_change q h e other).mode;
      before = ap (λ o. or_else [] (upper o (newest (λ e T. at_pass q (λ T. Some T) e.actor e.fact T) h))) (by_at (λ T. Some T) e.actor e.fact other);
      known = λ name. ap (λ o. or_else false (upper o (newest (λ e T. at_pass q (λ T. Some (is_found q name T)) e.actor e.fact T) h)))
          (by_at (λ T. Some (is_found q name T)) e.actor e.fact other);
      counts = λ doc place name. ap (counts doc q place name) passes_are ∙ quiet_counts q e quiet doc place name (passes q h);
      queue = λ doc place. ap (queue doc q place) passes_are ∙ queue_grows doc q place e (passes q h) quiet ∙ by_head doc place e.actor e.fact other;
    }
  where
    and_false : (b : Bool) → (b && false) ≡ false
    and_false true = refl
    and_false false = refl

    pass_tick : (who : Actor) (t : Tick) → is_by q who ≡ false → pass_says q e.beat who (Ticks t) ≡ None
    pass_tick who Pass is = ap (λ b. when b e.beat) is
    pass_tick who t is = refl

    by_pass : (who : Actor) (d : Fact) → is_tick_by q who d ≡ false → pass_says q e.beat who d ≡ None
    by_pass who (Ticks t) is = pass_tick who t is
    by_pass who d is = refl

    pair_is : {a b : List ℕ} {f g : List Entry} → a ≡ b → f ≡ g → ◌≡◌ {A = List ℕ × List Entry} (a, f) (b, g)
    pair_is one two = cc

    marked_tick : (who : Actor) (t : Tick) → is_by q who ≡ false → (elim (is_pass q who (Ticks t)) [ true ↦ [] | false ↦ and_name (marked_name q who (Ticks t)) (marked_since q h) ]) ≡ marked_since q h
    marked_tick who Pass is = ap (λ b. elim b [ true ↦ [] | false ↦ marked_since q h ]) is
    marked_tick who (Mark node given written tried) is = ap (λ b. and_name (when (b && is_accepted tried) node) (marked_since q h)) is
    marked_tick who t is = refl

    by_marked : (who : Actor) (d : Fact) → is_tick_by q who d ≡ false → (elim (is_pass q who d) [ true ↦ [] | false ↦ and_name (marked_name q who d) (marked_since q h) ]) ≡ marked_since q h
    by_marked who (Ticks t) is = marked_tick who t is
    by_marked who d is = refl

    at_tick : {A : Type 0} (f : List Entry → Option A) (who : Actor) (t : Tick) → is_by q who ≡ false → at_pass q f who (Ticks t) h ≡ None
    at_tick f who Pass is = ap (λ b. only_if b (f h)) is
    at_tick f who t is = refl

    by_at : {A : Type 0} (f : List Entry → Option A) (who : Actor) (d : Fact) → is_tick_by q who d ≡ false → at_pass q f who d h ≡ None
    by_at f who (Ticks t) is = at_tick f who t is
    by_at f who d is = refl

    pass_of : (who : Actor) (t : Tick) → is_by q who ≡ false → is_pass q who (Ticks t) ≡ false
    pass_of who Pass is = is
    pass_of who t is = refl

    by_no_pass : (who : Actor) (d : Fact) → is_tick_by q who d ≡ false → is_pass q who d ≡ false
    by_no_pass who (Ticks t) is = pass_of who t is
    by_no_pass who d is = refl

    passes_are : passes q (e ∷ h) ≡ and_last e (passes q h)
    passes_are = passes_grow q e h (by_no_pass e.actor e.fact other)

    marks_tick : (name : ℕ) (who : Actor) (t : Tick) → is_by q who ≡ false → marks_of q name who (Ticks t) ≡ false
    marks_tick name who (Mark n given written a) is = ap (λ b. b && (n == name && is_accepted a)) is
    marks_tick name who t is = refl

    by_marks : (name : ℕ) (who : Actor) (d : Fact) → is_tick_by q who d ≡ false → marks_of q name who d ≡ false
    by_marks name who (Ticks t) is = marks_tick name who t is
    by_marks name who d is = refl

    turns_tick : (who : Actor) (t : Tick) → is_by q who ≡ false → turns_on q who (Ticks t) ≡ false
    turns_tick who (Mode true) is = is
    turns_tick who t is = refl

    by_turns : (who : Actor) (d : Fact) → is_tick_by q who d ≡ false → turns_on q who d ≡ false
    by_turns who (Ticks t) is = turns_tick who t is
    by_turns who d is = refl

    quiet : IsQuiet q e
    quiet = record { marks = λ name. by_marks name e.actor e.fact other; turns = by_turns e.actor e.fact other }

    not_mine : (at : Place) (place : Place) (who : Actor) → is_by q who ≡ false → (counted written : Bool) (names : List ℕ)
        → (if place_eq at place && is_by q who then had_turn counted written names else names) ≡ names
    not_mine at place who is counted written names =
        ap (λ b. (if place_eq at place && b then had_turn counted written names else names)) is
        ∙ ap (λ b. (if b then had_turn counted written names else names)) (and_false (place_eq at place))

    head_tick : (doc : Doc) (place : Place) (who : Actor) (t : Tick) → is_by q who ≡ false
        → queue_head doc q place (passes q h) who (Ticks t) (queue doc q place (passes q h)) ≡ queue doc q place (passes q h)
    head_tick doc place who (Head at n wanted given written a) is =
        not_mine at place who is (counts doc q place n (passes q h)) (is_accepted a) (queue doc q place (passes q h))
    head_tick doc place who (Skip at n) is = not_mine at place who is (counts doc q place n (passes q h)) true (queue doc q place (passes q h))
    head_tick doc place who t is = refl

    by_head : (doc : Doc) (place : Place) (who : Actor) (d : Fact) → is_tick_by q who d ≡ false
        → queue_head doc q place (passes q h) who d (queue doc q place (passes q h)) ≡ queue doc q place (passes q h)
    by_head doc place who (Ticks t) is = head_tick doc place who t is
    by_head doc place who d is = refl

    rated_tick : (place : Place) (who : Actor) (t : Tick) → is_by q who ≡ false → rated_says q place who (Ticks t) h ≡ None
    rated_tick place who Pass is = ap (λ b. only_if b (when (not (is_zone q place h)) None)) is
    rated_tick place who (Zone at state rate) is = ap (λ b. when (place_eq at place && b) (Some (state, rate))) is ∙ ap (λ b. when b (Some (state, rate))) (and_false (place_eq at place))
    rated_tick place who t is = refl

    by_rated : (place : Place) (who : Actor) (d : Fact) → is_tick_by q who d ≡ false → rated_says q place who d h ≡ None
    by_rated place who (Ticks t) is = rated_tick place who t is
    by_rated place who d is = refl

    base_tick : (place : Place) (who : Actor) (t : Tick) → is_by q who ≡ false → is_base q place who (Ticks t) h ≡ false
    base_tick place who (Zone at state rate) is = ap (λ b. place_eq at place && (b && not (has_rate rate (rated q place h)))) is ∙ and_false (place_eq at place)
    base_tick place who (Head at node wanted given written a) is = ap (λ b. place_eq at place && b) is ∙ and_false (place_eq at place)
    base_tick place who (Skip at node) is = ap (λ b. place_eq at place && b) is ∙ and_false (place_eq at place)
    base_tick place who t is = refl

    by_base : (place : Place) (who : Actor) (d : Fact) → is_tick_by q who d ≡ false → is_base q place who d h ≡ false
    by_base place who (Ticks t) is = base_tick place who t is
    by_base place who d is = refl

    and_not : (full at : Bool) → (full && not (at && false)) ≡ full
    and_not true true = refl
    and_not true false = refl
    and_not false at = refl

    full_tick : (doc : Doc) (place : Place) (full : Bool) (who : Actor) (t : Tick) → is_by q who ≡ false → fills doc q place e.beat who (Ticks t) h full ≡ full
    full_tick doc place full who (Zone at state rate) is =
        ap (λ b. elim b [
          | true ↦ fills_zone (rated q place h) (not (has_rate rate (rated q place h))) (is_there full (grown doc q e.beat place h) (rated q place h)) full
          | false ↦ full
        ]) (ap (λ b. place_eq at place && b) is ∙ and_false (place_eq at place))
    full_tick doc place full who (Head at node wanted given written a) is = ap (λ b. full && not (place_eq at place && b)) is ∙ and_not full (place_eq at place)
    full_tick doc place full who (Skip at node) is = ap (λ b. full && not (place_eq at place && b)) is ∙ and_not full (place_eq at place)
    full_tick doc place full who t is = refl

    by_full : (doc : Doc) (place : Place) (full : Bool) (who : Actor) (d : Fact) → is_tick_by q who d ≡ false → fills doc q place e.beat who d h full ≡ full
    by_full doc place full who (Ticks t) is = full_tick doc place full who t is
    by_full doc place full who d is = refl
