-- One walk through a tick, for every property that each of its entries keeps.
use Rattle.std.proofs.Common.{◌≡◌, ◌≤◌, inl, inr, subst, ℕ, ◌==◌, ◌&&◌, ◌||◌, not, nat_lt, nat_le, if◌then◌else◌, Bool, true, false, List, [], ◌∷◌, Option, Some, None, refl, sym, ◌∙◌, arith}
use Rattle.std.specs.Prelude.{if◌then◌else◌}
use Rattle.std.specs.List.{list_any}
use Rattle.std.specs.declared.cmp.Ordering.{Ordering}
use Rattle.std.specs.declared.cmp.Ordering.TheVariants.{Less, Equal, Greater}
use Rattle.kube_base.specs.declared.numbers.Version.{Version}
use Rattle.kube_objects.specs.declared.call.Answer.{Answer}
use Rattle.kube_objects.specs.declared.key.Key.{Key}
use Rattle.kube_objects.specs.declared.node.Node.{Node}
use Rattle.kube_objects.specs.declared.node.Ready.{Ready}
use Rattle.kube_objects.specs.declared.node.Taint.{Taint}
use Rattle.kube_objects.specs.declared.node.ZoneState.{ZoneState}
use Rattle.kube_objects.specs.declared.node.ZoneState.TheVariants.{Normal, Partial, Full}
use Rattle.kube_objects.specs.declared.pod.Due.{Due}
use Rattle.kube_objects.specs.declared.pod.Due.TheVariants.{Never, At}
use Rattle.kube_objects.specs.declared.pod.Pod.{Pod}
use Rattle.kube_objects.specs.declared.rules.EvictRule.{EvictRule}
use Rattle.kube_objects.specs.declared.rules.EvictRule.TheVariants.{Added, Seen}
use Rattle.kube_objects.specs.declared.rules.JudgeRule.{JudgeRule}
use Rattle.kube_objects.specs.declared.rules.JudgeRule.TheVariants as judge_rules
use Rattle.kube_objects.specs.declared.settings.RatePolicy.{RatePolicy}
use Rattle.kube_objects.specs.declared.settings.RatePolicy.TheVariants.{Standard, Gentle, Halt}
use Rattle.kube_objects.specs.Clocks.{wall, whole_second}
use Rattle.kube_objects.specs.Document.{Doc}
use Rattle.kube_objects.specs.Entry.{Entry, Identity, Place, Tick, Sync, Pass, Mark, Mode, Zone, Untaint, Swap, Head, Delete, Skip}
use Rattle.kube_objects.specs.Health.{is_pass_due, is_pass_tick, before_pass, is_silent, is_unknown, marked, ready_heartbeat, with_mark}
use Rattle.kube_objects.specs.InForce.{watches}
use Rattle.kube_objects.specs.Deletes.{no_version}
use Rattle.kube_objects.specs.Judgement.{Passed, passes, has_turned_on, judged, is_new, is_healthy, is_crossed, queue}
use Rattle.kube_objects.specs.Keys.{key_cmp}
use Rattle.kube_objects.specs.Modes.{nodes, places, state_in, size_in, rate_in, all_full, mode}
use Rattle.kube_objects.specs.Newest.{when}
use Rattle.kube_objects.specs.Seen.{seen_node, seen_pod, is_fresh, is_synced, is_stale, node_names, is_pod, pod_key, pod_keys, insert_once, insert_named, named}
use Rattle.kube_objects.specs.Sightings.{sighted_due}
use Rattle.kube_objects.specs.Stored.{Write, write_of, node_key}
use Rattle.kube_objects.specs.Tainting.{Wants, Nothing, Wanted, Whatever, wants, wants_ready, has_condition, is_opposite, waits, Queued, head_of}
use Rattle.kube_objects.specs.Tick.{has_settled, is_stripped, new_taint, crossed, cleaned_by, judge, judge_seen, judge_all, add_crossed, tainted_by, push, push_as, push_seen, push_first}
use Rattle.kube_objects.specs.Tick.{evict_by, evict_sighted, evict_within, due_by, insert_due, and_due, dues, has_room}
use Rattle.kube_objects.specs.Tick.{add, for_each, sync, mark_as, mark_seen, mark, is_same_mode, mode_as, set_mode, zone_as, zone, set_zones, marks, pass, clean_as, clean_seen, clean, cleaned, taint_as, taint_head, taint, tainted, evict_due, evict_on, evict_seen, evict, evicted, tick, whole_pass, add_untaint, add_swap, taint_first, add_delete, phases}
use Rattle.kube_objects.specs.Tokens.{rated, is_rated, has_token}
use Rattle.kube_objects.specs.Tolerations.{due}
use Rattle.kube_objects.specs.Tries.{try_node, try_delete, try_delete_alone}
use Rattle.kube_objects.specs.Zones.{state_rate, partial_rate, full_rate, rate_of}
use Rattle.history_laws.specs.Tails.{Among}
use Rattle.history_laws.proofs.Plainly.{true_is}

-- a try to write a node as the cache has it
abbrev pub IsTry : Identity → ℕ → Version → Option Answer → List Entry → Type 0
IsTry q name given answer h = (node : Node) × (seen_node q name h ≡ Some (given, node)) × (answer ≡ try_node q name given h)

-- a try to delete a pod that is due on its node, both as the cache has them
pub record IsDelete (doc : Doc) (k : ℕ) (q : Identity) (pod : Key) (given node_given : Version) (at : ℕ) (answer : Option Answer) (h : List Entry) : Type 0 where
  pub kind : is_pod pod.kind ≡ true
  pub x : Pod
  pub y : Node
  pub sees : seen_pod q pod h ≡ Some (given, x)
  pub sees_node : seen_node q x.node h ≡ Some (node_given, y)
  pub time : due x y ≡ At at
  pub test : nat_le at (wall doc q.process k) ≡ true
  pub is : answer ≡ try_delete q pod given x.node node_given h

-- a try to delete a pod that is due by what the term has seen of it, by the pod's version alone
pub record IsSightedDelete (doc : Doc) (k : ℕ) (q : Identity) (pod : Key) (given node_given : Version) (at : ℕ) (answer : Option Answer) (h : List Entry) : Type 0 where
  pub kind : is_pod pod.kind ≡ true
  pub x : Pod
  pub sees : seen_pod q pod h ≡ Some (given, x)
  pub time : sighted_due doc q pod h ≡ At at
  pub test : nat_le at (wall doc q.process k) ≡ true
  pub no_node : node_given ≡ no_version
  pub is : answer ≡ try_delete_alone q pod given h

abbrev pub IsDeleteBy : EvictRule → Doc → ℕ → Identity → Key → Version → Version → ℕ → Option Answer → List Entry → Type 0
IsDeleteBy Added doc k q pod given node_given at answer h = IsDelete doc k q pod given node_given at answer h
IsDeleteBy Seen doc k q pod given node_given at answer h = IsSightedDelete doc k q pod given node_given at answer h

-- a further delete is within the limit, where there is one
abbrev pub HasRoom : Doc → ℕ → Identity → List Entry → Type 0
HasRoom doc k q h = (doc.settings.rules.evict_burst == 0) ≡ false → has_room doc q k 0 h ≡ true

-- a rate isn't above the primary one, where the secondary one isn't
abbrev pub IsRate : Doc → ℕ → Type 0
IsRate doc rate = doc.settings.secondary_rate ≤ doc.settings.primary_rate → rate ≤ doc.settings.primary_rate

-- what is known of a tick's entry when it is made
abbrev pub MadeTick : Doc → ℕ → Identity → Tick → List Entry → Type 0
MadeTick doc k q Sync h = Unit {0}
MadeTick doc k q Pass h = Unit {0}
MadeTick doc k q (Mark name given node answer) h = IsTry q name given answer h
MadeTick doc k q (Mode on) h = Unit {0}
MadeTick doc k q (Zone place state rate) h = IsRate doc rate
MadeTick doc k q (Untaint name given node answer) h = IsTry q name given answer h
MadeTick doc k q (Swap name wanted given node answer) h = IsTry q name given answer h
MadeTick doc k q (Head place name wanted given node answer) h = (has_token doc q k place h ≡ true) × IsTry q name given answer h
MadeTick doc k q (Delete pod given node_given at answer) h = IsDeleteBy doc.settings.rules.evict_from doc k q pod given node_given at answer h × HasRoom doc k q h
MadeTick doc k q (Skip place name) h = has_token doc q k place h ≡ true

-- a try to write a node over what the cache has, with its heartbeat
pub record IsOver (q : Identity) (name : ℕ) (given : Version) (written : Node) (answer : Option Answer) (h : List Entry) : Type 0 where
  pub node : Node
  pub sees : seen_node q name h ≡ Some (given, node)
  pub tried : answer ≡ try_node q name given h
  pub heartbeat : ready_heartbeat written.ready ≡ ready_heartbeat node.ready

-- what a tick's entry writes
abbrev pub WritesOver : Identity → Tick → List Entry → Type 0
WritesOver q (Mark name given written answer) h = IsOver q name given written answer h
WritesOver q (Untaint name given written answer) h = IsOver q name given written answer h
WritesOver q (Swap name wanted given written answer) h = IsOver q name given written answer h
WritesOver q (Head place name wanted given written answer) h = IsOver q name given written answer h
WritesOver q (Delete pod given node_given due answer) h = is_pod pod.kind ≡ true
WritesOver q _ h = Unit {0}

-- ---- the entries of each phase

-- marks, the mode and zones' rates, which follow the entry of a pass
abbrev pub is_looking : Tick → Bool
is_looking (Mark name given written a) = true
is_looking (Mode on) = true
is_looking (Zone place state rate) = true
is_looking _ = false

abbrev pub is_cleaning : Tick → Bool
is_cleaning (Untaint name given written a) = true
is_cleaning (Swap name wanted given written a) = true
is_cleaning _ = false

abbrev pub is_heading : Tick → Bool
is_heading (Head place name wanted given written a) = true
is_heading (Skip place name) = true
is_heading _ = false

abbrev pub is_deleting : Tick → Bool
is_deleting (Delete pod given node_given at a) = true
is_deleting _ = false

-- ---- rates

rate_most : (doc : Doc) (on : Bool) (s : ZoneState) (size : ℕ)
    → IsRate doc (rate_of on s doc.settings.rate_policy doc.settings.primary_rate doc.settings.secondary_rate doc.settings.large_zone size)
rate_most doc true s size le = omega arith
rate_most doc false s size le = by_state s
  where
    by_partial : (policy : RatePolicy) → partial_rate policy doc.settings.secondary_rate doc.settings.large_zone size ≤ doc.settings.primary_rate
    by_partial Standard = by_size (nat_lt doc.settings.large_zone size)
      where
        by_size : (b : Bool) → (if b then doc.settings.secondary_rate else 0) ≤ doc.settings.primary_rate
        by_size true = le
        by_size false = omega arith
    by_partial Gentle = le
    by_partial Halt = omega arith

    by_full : (policy : RatePolicy) → full_rate policy doc.settings.primary_rate doc.settings.secondary_rate ≤ doc.settings.primary_rate
    by_full Standard = omega arith
    by_full Gentle = le
    by_full Halt = omega arith

    by_state : (s : ZoneState) → state_rate s doc.settings.rate_policy doc.settings.primary_rate doc.settings.secondary_rate doc.settings.large_zone size ≤ doc.settings.primary_rate
    by_state Normal = omega arith
    by_state Partial = by_partial doc.settings.rate_policy
    by_state Full = by_full doc.settings.rate_policy

-- ---- the keys of pods

-- what holds of each of some things
abbrev pub Each : {A : Type 0} → (A → Type 0) → List A → Type 0
Each P [] = Unit {0}
Each P (x ∷ xs) = P x × Each P xs

insert_each : {A : Type 0} (compare : A → A → Ordering) (P : A → Type 0) (x : A) (ys : List A) → P x → Each P ys → Each P (insert_once compare x ys)
insert_each compare P x [] new old = (new, tt)
insert_each compare P x (y ∷ ys) new old = by_order (compare x y) (insert_each compare P x ys new old.1)
  where
    by_order : (o : Ordering) → Each P (insert_once compare x ys) → Each P (elim o [ Less ↦ x ∷ y ∷ ys | Equal ↦ y ∷ ys | Greater ↦ y ∷ insert_once compare x ys ])
    by_order Less later = (new, old)
    by_order Equal later = old
    by_order Greater later = (old.0, later)

abbrev pub IsPodKey : Key → Type 0
IsPodKey key = is_pod key.kind ≡ true

pods_more : (o : Option Write) (keys : List Key) → Each IsPodKey keys → Each IsPodKey (insert_named key_cmp (named pod_key o) keys)
pods_more None keys old = old
pods_more (Some w) keys old = by_kind (is_pod w.0.kind) refl
  where
    by_kind : (b : Bool) → is_pod w.0.kind ≡ b → Each IsPodKey (insert_named key_cmp (when b w.0) keys)
    by_kind true is = insert_each key_cmp IsPodKey w.0 keys is old
    by_kind false is = old

pub pods_only : (h : List Entry) → Each IsPodKey (pod_keys h)
pods_only [] = tt
pods_only (e ∷ h) = pods_more (write_of e.fact) (pod_keys h) (pods_only h)

insert_due_each : (at : ℕ) (pod : Key) (xs : List (ℕ × Key)) → IsPodKey pod → Each (λ x. IsPodKey x.1) xs → Each (λ x. IsPodKey x.1) (insert_due at pod xs)
insert_due_each at pod [] new old = (new, tt)
insert_due_each at pod (x ∷ xs) new old = by_order (nat_le at x.0) (insert_due_each at pod xs new old.1)
  where
    by_order : (b : Bool) → Each (λ x. IsPodKey x.1) (insert_due at pod xs) → Each (λ x. IsPodKey x.1) (elim b [ true ↦ (at, pod) ∷ x ∷ xs | false ↦ x ∷ insert_due at pod xs ])
    by_order true later = (new, old)
    by_order false later = (old.0, later)

and_due_each : (pod : Key) (d : Due) (xs : List (ℕ × Key)) → IsPodKey pod → Each (λ x. IsPodKey x.1) xs → Each (λ x. IsPodKey x.1) (and_due pod d xs)
and_due_each pod Never xs new old = old
and_due_each pod (At at) xs new old = insert_due_each at pod xs new old

-- a due that is put among others is there, and so are they
due_in : (at : ℕ) (pod : Key) (ys : List (ℕ × Key)) → Among (at, pod) (insert_due at pod ys)
due_in at pod [] = inl refl
due_in at pod (y ∷ ys) = by_order (due_in at pod ys) (nat_le at y.0)
  where
    by_order : Among (at, pod) (insert_due at pod ys) → (b : Bool) → Among (at, pod) (elim b [ true ↦ (at, pod) ∷ y ∷ ys | false ↦ y ∷ insert_due at pod ys ])
    by_order later true = inl refl
    by_order later false = inr later

due_keeps : (at : ℕ) (pod : Key) (ys : List (ℕ × Key)) (x : ℕ × Key) → Among x ys → Among x (insert_due at pod ys)
due_keeps at pod [] x there = absurd there
due_keeps at pod (y ∷ ys) x there = by_order (due_keeps at pod ys x) (nat_le at y.0) there
  where
    by_order : (Among x ys → Among x (insert_due at pod ys)) → (b : Bool) → Among x (y ∷ ys) → Among x (elim b [ true ↦ (at, pod) ∷ y ∷ ys | false ↦ y ∷ insert_due at pod ys ])
    by_order later true there = inr there
    by_order later false (inl is) = inl is
    by_order later false (inr there) = inr (later there)

-- pods with their dues are pods
pub dues_only : (doc : Doc) (q : Identity) (h : List Entry) (pods : List Key) → Each IsPodKey pods → Each (λ x. IsPodKey x.1) (dues doc q pods h)
dues_only doc q h [] all = tt
dues_only doc q h (pod ∷ pods) all = and_due_each pod (due_by doc.settings.rules.evict_from doc q pod h) (dues doc q pods h) all.0 (dues_only doc q h pods all.1)

-- each pod that is due ever has one
pub pods_of_dues : (doc : Doc) (q : Identity) (h : List Entry) (pods : List Key) (pod : Key) (at : ℕ) → due_by doc.settings.rules.evict_from doc q pod h ≡ At at → Among pod pods → Among (at, pod) (dues doc q pods h)
pods_of_dues doc q h [] pod at due there = absurd there
pods_of_dues doc q h (p ∷ pods) pod at due (inl is) =
    subst (λ p. Among (at, pod) (and_due p (due_by doc.settings.rules.evict_from doc q p h) (dues doc q pods h))) is
    (subst (λ d. Among (at, pod) (and_due pod d (dues doc q pods h))) (sym due) (due_in at pod (dues doc q pods h)))
pods_of_dues doc q h (p ∷ pods) pod at due (inr there) = by_due (pods_of_dues doc q h pods pod at due there) (due_by doc.settings.rules.evict_from doc q p h)
  where
    by_due : Among (at, pod) (dues doc q pods h) → (d : Due) → Among (at, pod) (and_due p d (dues doc q pods h))
    by_due later Never = later
    by_due later (At other) = due_keeps other p (dues doc q pods h) (at, pod) later

-- what the delete of one pod keeps that is due by what is stored, the look at the pod keeps
pub evict_added : (doc : Doc) (k : ℕ) (q : Identity) (P : List Entry → Type 0) (pod : Key) (h : List Entry) → IsPodKey pod → P h
    → ((given node_given : Version) (at : ℕ) (a : Option Answer) → IsDelete doc k q pod given node_given at a h → P (add k q (Delete pod given node_given at a) h)) → P (evict_by Added doc k q pod h)
evict_added doc k q P pod h kind p more = by_stale (is_stale q pod h) (seen_pod q pod h) refl
  where
    by_time : (x : Version × Pod) (y : Version × Node) → seen_pod q pod h ≡ Some x → seen_node q x.1.node h ≡ Some y → (at : ℕ) → due x.1 y.1 ≡ At at → (b : Bool) → nat_le at (wall doc q.process k) ≡ b
        → P (if b then add_delete k q pod x.0 x.1.node y.0 at h else h)
    by_time x y sees sees_node at time false test = p
    by_time x y sees sees_node at time true test =
        more x.0 y.0 at (try_delete q pod x.0 x.1.node y.0 h) (record { kind = kind; x = x.1; y = y.1; sees = sees; sees_node = sees_node; time = time; test = test; is = refl })

    by_due : (x : Version × Pod) (y : Version × Node) → seen_pod q pod h ≡ Some x → seen_node q x.1.node h ≡ Some y → (o : Due) → due x.1 y.1 ≡ o → P (evict_due doc k q pod x.0 x.1.node y.0 o h)
    by_due x y sees sees_node Never time = p
    by_due x y sees sees_node (At at) time = by_time x y sees sees_node at time (nat_le at (wall doc q.process k)) refl

    by_node : (x : Version × Pod) → seen_pod q pod h ≡ Some x → (o : Option (Version × Node)) → seen_node q x.1.node h ≡ o → P (evict_on doc k q pod x o h)
    by_node x sees None sees_node = p
    by_node x sees (Some y) sees_node = by_due x y sees sees_node (due x.1 y.1) refl

    by_stale : (b : Bool) (o : Option (Version × Pod)) → seen_pod q pod h ≡ o → P (evict_seen doc k q pod b o h)
    by_stale true o is = p
    by_stale false None is = p
    by_stale false (Some x) is = by_node x is (seen_node q x.1.node h) refl

-- and by what the term has seen
pub evict_sight : (doc : Doc) (k : ℕ) (q : Identity) (P : List Entry → Type 0) (pod : Key) (h : List Entry) → IsPodKey pod → P h
    → ((given node_given : Version) (at : ℕ) (a : Option Answer) → IsSightedDelete doc k q pod given node_given at a h → P (add k q (Delete pod given node_given at a) h)) → P (evict_by Seen doc k q pod h)
evict_sight doc k q P pod h kind p more = by_stale (is_stale q pod h) (seen_pod q pod h) refl (sighted_due doc q pod h) refl
  where
    by_time : (x : Version × Pod) → seen_pod q pod h ≡ Some x → (at : ℕ) → sighted_due doc q pod h ≡ At at → (b : Bool) → nat_le at (wall doc q.process k) ≡ b
        → P (if b then add k q (Delete pod x.0 no_version at (try_delete_alone q pod x.0 h)) h else h)
    by_time x sees at time false test = p
    by_time x sees at time true test =
        more x.0 no_version at (try_delete_alone q pod x.0 h) (record { kind = kind; x = x.1; sees = sees; time = time; test = test; no_node = refl; is = refl })

    by_stale : (b : Bool) (o : Option (Version × Pod)) → seen_pod q pod h ≡ o → (d : Due) → sighted_due doc q pod h ≡ d → P (evict_sighted doc k q pod b o d h)
    by_stale true o sees d time = p
    by_stale false None sees d time = p
    by_stale false (Some x) sees Never time = p
    by_stale false (Some x) sees (At at) time = by_time x sees at time (nat_le at (wall doc q.process k)) refl

pub evict_step : (doc : Doc) (k : ℕ) (q : Identity) (P : List Entry → Type 0) (pod : Key) (h : List Entry) → IsPodKey pod → P h
    → ((given node_given : Version) (at : ℕ) (a : Option Answer) → IsDeleteBy doc.settings.rules.evict_from doc k q pod given node_given at a h → P (add k q (Delete pod given node_given at a) h)) → P (evict doc k q pod h)
evict_step doc k q P pod h kind p more = by_rule doc.settings.rules.evict_from more
  where
    by_rule : (rule : EvictRule) → ((given node_given : Version) (at : ℕ) (a : Option Answer) → IsDeleteBy rule doc k q pod given node_given at a h → P (add k q (Delete pod given node_given at a) h)) → P (evict_by rule doc k q pod h)
    by_rule Added more = evict_added doc k q P pod h kind p more
    by_rule Seen more = evict_sight doc k q P pod h kind p more

-- what the look at each pod keeps, the phase of deletes keeps
pub evicted_each : (doc : Doc) (k : ℕ) (q : Identity) (P : List Entry → Type 0) → ((pod : Key) (h : List Entry) → IsPodKey pod → P h → P (evict doc k q pod h)) → (h : List Entry) → P h → P (evicted doc k q h)
evicted_each doc k q P one h p = by_limit (doc.settings.rules.evict_burst == 0)
  where
    free : (keys : List Key) (h : List Entry) → Each IsPodKey keys → P h → P (for_each (evict doc k q) keys h)
    free [] h all p = p
    free (pod ∷ pods) h all p = free pods (evict doc k q pod h) all.1 (one pod h all.0 p)

    by_room : (x : ℕ × Key) (h : List Entry) → IsPodKey x.1 → P h → (b : Bool) → P (if b then evict doc k q x.1 h else h)
    by_room x h kind p true = one x.1 h kind p
    by_room x h kind p false = p

    within : (xs : List (ℕ × Key)) (h : List Entry) → Each (λ x. IsPodKey x.1) xs → P h → P (for_each (evict_within doc k q) xs h)
    within [] h all p = p
    within (x ∷ xs) h all p = within xs (evict_within doc k q x h) all.1 (by_room x h all.0 p (has_room doc q k 0 h))

    by_limit : (b : Bool) → P (elim b [ true ↦ for_each (evict doc k q) (pod_keys h) h | false ↦ for_each (evict_within doc k q) (dues doc q (pod_keys h) h) h ])
    by_limit true = free (pod_keys h) h (pods_only h) p
    by_limit false = within (dues doc q (pod_keys h) h) h (dues_only doc q h (pod_keys h) (pods_only h)) p

-- ---- judgement at passes

-- what the try of a pass for one node keeps, the look at the node keeps: an untaint, or the swap of a node that wants this taint
pub judge_step : (doc : Doc) (k : ℕ) (q : Identity) (P : List Entry → Type 0) (x : Passed) (name : ℕ) (h : List Entry) → P h
    → ((z : Version × Node) → seen_node q name h ≡ Some z → P (add_untaint k q name z.0 z.1 h))
    → ((y z : Version × Node) → seen_node q name x.before ≡ Some y → seen_node q name h ≡ Some z → (wanted : ℕ) → judged q name x y.1 ≡ Wanted wanted
    → P (add_crossed doc k q name z.0 z.1 (is_new doc q name x.before) (Wanted wanted) h)) → P (judge doc k q x name h)
judge_step doc k q P x name h p untaints swaps = by_stale (is_stale q (node_key name) h) (seen_node q name x.before) refl (seen_node q name h) refl
  where
    by_crossed : (y z : Version × Node) → seen_node q name x.before ≡ Some y → seen_node q name h ≡ Some z → (w : Wants) → judged q name x y.1 ≡ w
        → P (add_crossed doc k q name z.0 z.1 (is_new doc q name x.before) w h)
    by_crossed y z was is (Wanted wanted) wants = swaps y z was is wanted wants
    by_crossed y z was is Nothing wants = p
    by_crossed y z was is Whatever wants = p

    by_untaint : (z : Version × Node) → seen_node q name h ≡ Some z → (b : Bool) → P (if b then add_untaint k q name z.0 z.1 h else h)
    by_untaint z is false = p
    by_untaint z is true = untaints z is

    by_test : (y z : Version × Node) → seen_node q name x.before ≡ Some y → seen_node q name h ≡ Some z → (b c : Bool)
        → P (if b then add_crossed doc k q name z.0 z.1 (is_new doc q name x.before) (judged q name x y.1) h else (if c then add_untaint k q name z.0 z.1 h else h))
    by_test y z was is true c = by_crossed y z was is (judged q name x y.1) refl
    by_test y z was is false c = by_untaint z is c

    by_stale : (b : Bool) (o : Option (Version × Node)) → seen_node q name x.before ≡ o → (r : Option (Version × Node)) → seen_node q name h ≡ r → P (judge_seen doc k q name x b o r h)
    by_stale true o was r is = p
    by_stale false None was r is = p
    by_stale false (Some y) was None is = p
    by_stale false (Some y) was (Some z) is =
        by_test y z was is (is_crossed (judged q name x y.1) z.1) (has_condition z.1 && (is_new doc q name x.before || is_healthy (judged q name x y.1) || has_turned_on q x))

-- and what the turn of a zone's first push keeps, that of the zone: it is skipped, or its node wants this taint
pub push_step : (doc : Doc) (k : ℕ) (q : Identity) (P : List Entry → Type 0) (place : Place) (h : List Entry) → P h
    → ((name : ℕ) → has_token doc q k place h ≡ true → P (add k q (Skip place name) h))
    → ((name : ℕ) (x : Version × Node) → has_token doc q k place h ≡ true → seen_node q name h ≡ Some x → (wanted : ℕ) → wants_ready x.1.ready ≡ Wanted wanted
    → P (push_as doc k q place name x.0 x.1 (Wanted wanted) h)) → P (push doc k q place h)
push_step doc k q P place h p skips heads = by_token (has_token doc q k place h) refl
  where
    by_wants : has_token doc q k place h ≡ true → (name : ℕ) (x : Version × Node) → seen_node q name h ≡ Some x → (w : Wants) → wants_ready x.1.ready ≡ w → P (push_as doc k q place name x.0 x.1 w h)
    by_wants token name x is (Wanted wanted) wants = heads name x token is wanted wants
    by_wants token name x is Nothing wants = skips name token
    by_wants token name x is Whatever wants = skips name token

    by_seen : has_token doc q k place h ≡ true → (name : ℕ) (o : Option (Version × Node)) → seen_node q name h ≡ o → P (push_seen doc k q place name o h)
    by_seen token name None is = skips name token
    by_seen token name (Some x) is = by_wants token name x is (wants_ready x.1.ready) refl

    by_first : has_token doc q k place h ≡ true → (names : List ℕ) → P (push_first doc k q place names h)
    by_first token [] = p
    by_first token (name ∷ names) = by_seen token name (seen_node q name h) refl

    by_token : (b : Bool) → has_token doc q k place h ≡ b → P (if b then push_first doc k q place (queue doc q place (passes q h)) h else h)
    by_token false token = p
    by_token true token = by_first token (queue doc q place (passes q h))

-- what a step for each of some things keeps
pub every : {A : Type 0} (f : A → List Entry → List Entry) (P : List Entry → Type 0) → ((a : A) (h : List Entry) → P h → P (f a h)) → (xs : List A) (h : List Entry) → P h → P (for_each f xs h)
every f P keeps [] h p = p
every f P keeps (x ∷ xs) h p = every f P keeps xs (f x h) (keeps x h p)

-- what the look at each node keeps, by either rule, the phase of untaints and swaps keeps
pub cleaned_each : (doc : Doc) (k : ℕ) (q : Identity) (P : List Entry → Type 0) → ((name : ℕ) (h : List Entry) → P h → P (clean doc k q name h))
    → ((x : Passed) (name : ℕ) (h : List Entry) → P h → P (judge doc k q x name h)) → (h : List Entry) → P h → P (cleaned doc k q h)
cleaned_each doc k q P cleans judges h p = by_rule doc.settings.rules.judge
  where
    by_passes : (xs : List Passed) → P (judge_all doc k q xs h)
    by_passes [] = p
    by_passes (x ∷ xs) = every (judge doc k q x) P (judges x) (node_names h) h p

    by_pass : (b : Bool) → P (if b then judge_all doc k q (passes q h) h else h)
    by_pass false = p
    by_pass true = by_passes (passes q h)

    by_rule : (rule : JudgeRule) → P (cleaned_by rule doc k q h)
    by_rule judge_rules.Tick = every (clean doc k q) P cleans (node_names h) h p
    by_rule judge_rules.Pass = by_pass (is_pass_tick k q h)

-- and what the look at each zone keeps, the phase of queued taints
pub tainted_each : (doc : Doc) (k : ℕ) (q : Identity) (P : List Entry → Type 0) → ((place : Place) (h : List Entry) → P h → P (taint doc k q place h))
    → ((place : Place) (h : List Entry) → P h → P (push doc k q place h)) → (h : List Entry) → P h → P (tainted doc k q h)
tainted_each doc k q P taints pushes h p = by_rule doc.settings.rules.judge
  where
    by_rule : (rule : JudgeRule) → P (tainted_by rule doc k q h)
    by_rule judge_rules.Tick = every (taint doc k q) P taints (places (nodes q h)) h p
    by_rule judge_rules.Pass = every (push doc k q) P pushes (places (nodes q (before_pass q h))) h p

-- ---- marks, the mode, zones and, by the rule of ticks, untaints, swaps and heads

-- what the mark of one node keeps, the look at the node keeps
pub mark_step : (doc : Doc) (k : ℕ) (q : Identity) (P : List Entry → Type 0) (name : ℕ) (h : List Entry) → P h
    → ((x : Version × Node) → seen_node q name h ≡ Some x → P (add k q (Mark name x.0 (with_mark (whole_second (wall doc q.process k)) x.1) (try_node q name x.0 h)) h)) → P (mark doc k q name h)
mark_step doc k q P name h p marks = by_seen (seen_node q name h) refl
  where
    by_test : (x : Version × Node) → seen_node q name h ≡ Some x → (b : Bool) → P (mark_as k q name x.0 (when b (with_mark (whole_second (wall doc q.process k)) x.1)) h)
    by_test x is false = p
    by_test x is true = marks x is

    by_seen : (o : Option (Version × Node)) → seen_node q name h ≡ o → P (mark_seen doc k q name o h)
    by_seen None is = p
    by_seen (Some x) is = by_test x is (not (is_unknown x.1.ready) && is_silent doc q k name x.1.ready h)

pub mode_step : (doc : Doc) (k : ℕ) (q : Identity) (P : List Entry → Type 0) (h : List Entry) → P h → ((on : Bool) → P (add k q (Mode on) h)) → P (set_mode doc k q h)
mode_step doc k q P h p modes = by_mode (all_full doc (nodes q h))
  where
    by_test : (on b : Bool) → P (if b then h else add k q (Mode on) h)
    by_test on true = p
    by_test on false = modes on

    by_mode : (on : Bool) → P (mode_as k q on h)
    by_mode on = by_test on (is_same_mode on (mode q h))

pub zone_step : (doc : Doc) (k : ℕ) (q : Identity) (P : List Entry → Type 0) (seen : List Node) (place : Place) (h : List Entry) → P h
    → ((s : ZoneState) (rate : ℕ) → IsRate doc rate → P (add k q (Zone place s rate) h)) → P (zone doc k q seen place h)
zone_step doc k q P seen place h p zones = by_state (state_in doc seen place) (rate_in doc (mode q h) seen place) (rate_most doc (mode q h) (state_in doc seen place) (size_in place seen))
  where
    by_test : (s : ZoneState) (rate : ℕ) → IsRate doc rate → (b : Bool) → P (if b then h else add k q (Zone place s rate) h)
    by_test s rate most true = p
    by_test s rate most false = zones s rate most

    by_state : (s : ZoneState) (rate : ℕ) → IsRate doc rate → P (zone_as k q place s rate h)
    by_state s rate most = by_test s rate most (is_rated s rate (rated q place h))

-- an untaint, or the swap of a node that wants this taint
pub clean_step : (doc : Doc) (k : ℕ) (q : Identity) (P : List Entry → Type 0) (name : ℕ) (h : List Entry) → P h
    → ((x : Version × Node) → seen_node q name h ≡ Some x → P (add_untaint k q name x.0 x.1 h))
    → ((x : Version × Node) → seen_node q name h ≡ Some x → (wanted : ℕ) → wants (is_stripped doc.settings.rules.first_sight k q name h || mode q h) x.1 ≡ Wanted wanted
    → P (add_swap doc k q name x.0 x.1 wanted h)) → P (clean doc k q name h)
clean_step doc k q P name h p untaints swaps = by_stale (is_stale q (node_key name) h) (seen_node q name h) refl
  where
    by_untaint : (x : Version × Node) → seen_node q name h ≡ Some x → (b : Bool) → P (if b then add_untaint k q name x.0 x.1 h else h)
    by_untaint x is false = p
    by_untaint x is true = untaints x is

    by_swap : (x : Version × Node) (wanted : ℕ) → P (add_swap doc k q name x.0 x.1 wanted h) → (b : Bool) → P (if b then add_swap doc k q name x.0 x.1 wanted h else h)
    by_swap x wanted swapped false = p
    by_swap x wanted swapped true = swapped

    by_wants : (x : Version × Node) → seen_node q name h ≡ Some x → (w : Wants) → wants (is_stripped doc.settings.rules.first_sight k q name h || mode q h) x.1 ≡ w → P (clean_as doc k q name x.0 x.1 w h)
    by_wants x is Nothing want = by_untaint x is (has_condition x.1)
    by_wants x is (Wanted wanted) want = by_swap x wanted (swaps x is wanted want) (list_any (is_opposite wanted) x.1.taints)
    by_wants x is Whatever want = p

    by_stale : (b : Bool) (o : Option (Version × Node)) → seen_node q name h ≡ o → P (clean_seen doc k q name b o h)
    by_stale true o is = p
    by_stale false None is = p
    by_stale false (Some x) is = by_wants x is (wants (is_stripped doc.settings.rules.first_sight k q name h || mode q h) x.1) refl

-- a zone's head, whose node waits for this taint
pub taint_step : (doc : Doc) (k : ℕ) (q : Identity) (P : List Entry → Type 0) (place : Place) (h : List Entry) → P h
    → ((name wanted : ℕ) (x : Version × Node) → has_token doc q k place h ≡ true → waits q place name h ≡ Some wanted → seen_node q name h ≡ Some x → P (taint_as doc k q place name (Some wanted) (Some x) h)) → P (taint doc k q place h)
taint_step doc k q P place h p heads = by_token (has_token doc q k place h) refl
  where
    by_seen : has_token doc q k place h ≡ true → (name : ℕ) (w : Option ℕ) → waits q place name h ≡ w → (o : Option (Version × Node)) → seen_node q name h ≡ o → P (taint_as doc k q place name w o h)
    by_seen token name None waiting o is = p
    by_seen token name (Some wanted) waiting None is = p
    by_seen token name (Some wanted) waiting (Some x) is = heads name wanted x token waiting is

    by_head : has_token doc q k place h ≡ true → (o : Option Queued) → P (taint_head doc k q place o h)
    by_head token None = p
    by_head token (Some head) = by_seen token head.1 (waits q place head.1 h) refl (seen_node q head.1 h) refl

    by_token : (b : Bool) → has_token doc q k place h ≡ b → P (if b then taint_first doc k q place h else h)
    by_token false token = p
    by_token true token = by_head token (head_of q place (node_names h) h)

-- ---- what each entry of a phase keeps, the phase keeps

-- a mark leaves the heartbeat
marked_heartbeat : (at : ℕ) (o : Option Ready) → (marked at o).heartbeat ≡ ready_heartbeat o
marked_heartbeat at None = refl
marked_heartbeat at (Some r) = refl

-- so does a swap of a pass
crossed_heartbeat : (new : Bool) (taint : Taint) (node : Node) → ready_heartbeat (crossed new taint node).ready ≡ ready_heartbeat node.ready
crossed_heartbeat true taint node = refl
crossed_heartbeat false taint node = refl

module _ (doc : Doc) (k : ℕ) (q : Identity) (P : List Entry → Type 0) where
  pub kept_sync : ((h : List Entry) → P h → P (add k q Sync h)) → (h : List Entry) → P h → P (sync doc k q h)
  kept_sync more h p = by_test (has_settled doc k q h && (watches doc q.process h && not (is_fresh q h)))
    where
      by_test : (b : Bool) → P (if b then add k q Sync h else h)
      by_test true = more h p
      by_test false = p

  -- a pass, of what its entry and the rest keep
  pub kept_pass : ((h : List Entry) → P h → P (add k q Pass h)) → ((h : List Entry) → P h → P (set_zones doc k q (set_mode doc k q (marks doc k q h)))) → (h : List Entry) → P h → P (pass doc k q h)
  kept_pass passes rest h p = by_test (is_pass_due doc k q h)
    where
      by_test : (b : Bool) → P (if b then whole_pass doc k q h else h)
      by_test false = p
      by_test true = rest (add k q Pass h) (passes h p)

  -- a tick, of what its phases keep
  pub kept_tick : ((h : List Entry) → P h → P (sync doc k q h)) → ((h : List Entry) → P h → P (pass doc k q h)) → ((h : List Entry) → P h → P (cleaned doc k q h))
      → ((h : List Entry) → P h → P (tainted doc k q h)) → ((h : List Entry) → P h → P (evicted doc k q h)) → (h : List Entry) → P h → P (tick doc k q h)
  kept_tick syncs passes cleans taints evicts h p = by_test (is_synced q (sync doc k q h))
    where
      by_test : (b : Bool) → P (if b then phases doc k q (sync doc k q h) else (sync doc k q h))
      by_test false = syncs h p
      by_test true =
          let a = sync doc k q h in
          let b = pass doc k q a in
          let c = cleaned doc k q b in
          evicts (tainted doc k q c) (taints c (cleans b (passes a (syncs h p))))

  module _ (more : (t : Tick) (h : List Entry) → is_looking t ≡ true → MadeTick doc k q t h → WritesOver q t h → P h → P (add k q t h)) where
    kept_mark : (name : ℕ) (h : List Entry) → P h → P (mark doc k q name h)
    kept_mark name h p =
        mark_step doc k q P name h p
        (λ x is. more _ h refl (x.1, is, refl) (record { node = x.1; sees = is; tried = refl; heartbeat = marked_heartbeat (whole_second (wall doc q.process k)) x.1.ready }) p)

    pub kept_marks : (h : List Entry) → P h → P (marks doc k q h)
    kept_marks h p = every (mark doc k q) P kept_mark (node_names h) h p

    pub kept_mode : (h : List Entry) → P h → P (set_mode doc k q h)
    kept_mode h p = mode_step doc k q P h p (λ on. more (Mode on) h refl tt tt p)

    pub kept_zone : (seen : List Node) (place : Place) (h : List Entry) → P h → P (zone doc k q seen place h)
    kept_zone seen place h p = zone_step doc k q P seen place h p (λ s rate most. more (Zone place s rate) h refl most tt p)

    pub kept_zones : (h : List Entry) → P h → P (set_zones doc k q h)
    kept_zones h p = every (zone doc k q (nodes q h)) P (kept_zone (nodes q h)) (places (nodes q h)) h p

    -- marks, mode and zones, after the entry of the pass
    pub kept_rest : (h : List Entry) → P h → P (set_zones doc k q (set_mode doc k q (marks doc k q h)))
    kept_rest h p = kept_zones (set_mode doc k q (marks doc k q h)) (kept_mode (marks doc k q h) (kept_marks h p))

  module _ (more : (t : Tick) (h : List Entry) → is_cleaning t ≡ true → MadeTick doc k q t h → WritesOver q t h → P h → P (add k q t h)) where
    pub kept_clean : (name : ℕ) (h : List Entry) → P h → P (clean doc k q name h)
    kept_clean name h p =
        clean_step doc k q P name h p (λ x is. more _ h refl (x.1, is, refl) (record { node = x.1; sees = is; tried = refl; heartbeat = refl }) p)
        (λ x is wanted want. more _ h refl (x.1, is, refl) (record { node = x.1; sees = is; tried = refl; heartbeat = refl }) p)

    kept_judge : (x : Passed) (name : ℕ) (h : List Entry) → P h → P (judge doc k q x name h)
    kept_judge x name h p =
        judge_step doc k q P x name h p (λ z is. more _ h refl (z.1, is, refl) (record { node = z.1; sees = is; tried = refl; heartbeat = refl }) p)
        (λ y z was is wanted wants. more _ h refl (z.1, is, refl) (record { node = z.1; sees = is; tried = refl; heartbeat = crossed_heartbeat (is_new doc q name x.before) (new_taint doc k q wanted) z.1 }) p)

    pub kept_cleaned : (h : List Entry) → P h → P (cleaned doc k q h)
    kept_cleaned h p = cleaned_each doc k q P kept_clean kept_judge h p

  module _ (more : (t : Tick) (h : List Entry) → is_heading t ≡ true → MadeTick doc k q t h → WritesOver q t h → P h → P (add k q t h)) where
    kept_taint : (place : Place) (h : List Entry) → P h → P (taint doc k q place h)
    kept_taint place h p =
        taint_step doc k q P place h p (λ name wanted x token waiting is. more _ h refl (token, (x.1, is, refl)) (record { node = x.1; sees = is; tried = refl; heartbeat = refl }) p)

    kept_push : (place : Place) (h : List Entry) → P h → P (push doc k q place h)
    kept_push place h p =
        push_step doc k q P place h p (λ name token. more (Skip place name) h refl token tt p)
        (λ name x token is wanted wants. more _ h refl (token, (x.1, is, refl)) (record { node = x.1; sees = is; tried = refl; heartbeat = refl }) p)

    pub kept_tainted : (h : List Entry) → P h → P (tainted doc k q h)
    kept_tainted h p = tainted_each doc k q P kept_taint kept_push h p

-- ---- the walk

module _ (doc : Doc) (k : ℕ) (q : Identity) (P : List Entry → Type 0) (more : (t : Tick) (h : List Entry) → MadeTick doc k q t h → P h → P (add k q t h)) where
  each : {A : Type 0} (f : A → List Entry → List Entry) (Q : A → Type 0) → ((a : A) (h : List Entry) → Q a → P h → P (f a h)) → (xs : List A) (h : List Entry) → Each Q xs → P h → P (for_each f xs h)
  each f Q keeps [] h all p = p
  each f Q keeps (x ∷ xs) h all p = each f Q keeps xs (f x h) all.1 (keeps x h all.0 p)

  pub walk_sync : (h : List Entry) → P h → P (sync doc k q h)
  walk_sync = kept_sync doc k q P (λ h p. more Sync h tt p)

  pub walk_pass : (h : List Entry) → P h → P (pass doc k q h)
  walk_pass = kept_pass doc k q P (λ h p. more Pass h tt p) (kept_rest doc k q P (λ t h kind made over p. more t h made p))

  pub walk_cleaned : (h : List Entry) → P h → P (cleaned doc k q h)
  walk_cleaned = kept_cleaned doc k q P (λ t h kind made over p. more t h made p)

  pub walk_tainted : (h : List Entry) → P h → P (tainted doc k q h)
  walk_tainted = kept_tainted doc k q P (λ t h kind made over p. more t h made p)

  walk_evict : (pod : Key) (h : List Entry) → IsPodKey pod → HasRoom doc k q h → P h → P (evict doc k q pod h)
  walk_evict pod h kind room p = evict_step doc k q P pod h kind p (λ given node_given at a made. more (Delete pod given node_given at a) h (made, room) p)

  walk_within : (x : ℕ × Key) (h : List Entry) → IsPodKey x.1 → P h → P (evict_within doc k q x h)
  walk_within x h kind p = by_room (has_room doc q k 0 h) refl
    where
      by_room : (b : Bool) → has_room doc q k 0 h ≡ b → P (if b then evict doc k q x.1 h else h)
      by_room false is = p
      by_room true is = walk_evict x.1 h kind (λ limited. is) p

  pub walk_evicted : (h : List Entry) → P h → P (evicted doc k q h)
  walk_evicted h p = by_limit (doc.settings.rules.evict_burst == 0) refl
    where
      by_limit : (b : Bool) → (doc.settings.rules.evict_burst == 0) ≡ b
          → P (elim b [ true ↦ for_each (evict doc k q) (pod_keys h) h | false ↦ for_each (evict_within doc k q) (dues doc q (pod_keys h) h) h ])
      by_limit true free =
          each (evict doc k q) IsPodKey (λ pod g kind p. walk_evict pod g kind (λ limited. absurd (true_is (sym free ∙ limited))) p) (pod_keys h) h (pods_only h) p
      by_limit false limited =
          each (evict_within doc k q) (λ x. IsPodKey x.1) walk_within (dues doc q (pod_keys h) h) h (dues_only doc q h (pod_keys h) (pods_only h)) p

  pub walk_tick : (h : List Entry) → P h → P (tick doc k q h)
  walk_tick = kept_tick doc k q P walk_sync walk_pass walk_cleaned walk_tainted walk_evicted

-- what each entry keeps that writes over what the cache has, a tick keeps
module _ (doc : Doc) (k : ℕ) (q : Identity) (P : List Entry → Type 0) (more : (t : Tick) (h : List Entry) → WritesOver q t h → P h → P (add k q t h)) where
  over_evict : (pod : Key) (h : List Entry) → IsPodKey pod → P h → P (evict doc k q pod h)
  over_evict pod h kind p = evict_step doc k q P pod h kind p (λ given node_given at a made. more (Delete pod given node_given at a) h kind p)

  pub over_tick : (h : List Entry) → P h → P (tick doc k q h)
  over_tick =
      kept_tick doc k q P (kept_sync doc k q P (λ h p. more Sync h tt p))
      (kept_pass doc k q P (λ h p. more Pass h tt p) (kept_rest doc k q P (λ t h kind made over p. more t h over p)))
      (kept_cleaned doc k q P (λ t h kind made over p. more t h over p))
      (kept_tainted doc k q P (λ t h kind made over p. more t h over p)) (evicted_each doc k q P over_evict)
