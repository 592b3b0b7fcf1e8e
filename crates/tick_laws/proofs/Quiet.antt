-- A tick adds nothing exactly where it is quiet.
use Rattle.std.proofs.Common.{◌≡◌, ◌∙◌, ◌⊎◌, inl, inr, ℕ, ◌<◌, ◌≤◌, ◌==◌, ◌&&◌, not, Bool, true, false, List, [], ◌∷◌, length, Option, Some, None, refl, sym, ap, subst, arith}
use Rattle.std.specs.Prelude.{if◌then◌else◌}
use Rattle.std.specs.Ordering.{nat_cmp}
use Rattle.kube_objects.specs.declared.key.Key.{Key}
use Rattle.kube_objects.specs.declared.rules.JudgeRule.{JudgeRule}
use Rattle.kube_objects.specs.declared.rules.JudgeRule.TheVariants as judges
use Rattle.kube_objects.specs.Clocks.{wall}
use Rattle.kube_objects.specs.Document.{Doc}
use Rattle.kube_objects.specs.Entry.{Entry, Identity, Place, Pass, Sync}
use Rattle.kube_objects.specs.Health.{before_pass, is_pass_due, is_pass_tick}
use Rattle.kube_objects.specs.InForce.{watches}
use Rattle.kube_objects.specs.Judgement.{Passed, passes, queue}
use Rattle.kube_objects.specs.Keys.{key_cmp}
use Rattle.kube_objects.specs.Modes.{place_cmp, nodes, places}
use Rattle.kube_objects.specs.Seen.{is_fresh, is_synced, node_names, pod_keys}
use Rattle.kube_objects.specs.Tainting.{waits, queued, queued_as, first, Queued, head_of}
use Rattle.kube_objects.specs.Tick.{add, for_each, has_settled, sync, pass, clean, cleaned, cleaned_by, judge, judge_all, push, taint, tainted, tainted_by, evict, evict_within, evicted, dues, has_room, tick_after, tick, whole_pass, phases}
use Rattle.kube_objects.specs.Tokens.{has_token}
use Rattle.history_laws.proofs.Plainly.{false_is, true_is}
use Rattle.history_laws.proofs.Ticks.{Each, HasRoom, IsPodKey, dues_only, pods_only}
use Rattle.tick_laws.specs.Judged.{is_by_now, is_to_clean, is_to_try, key_if, term_due}
use Rattle.tick_laws.specs.Quiet.{AreClean, AreTried, AreUnqueued, IsOutOfRoom, IsQuietTerm, IsQuietTick}
use Rattle.tick_laws.specs.Ticked.{IsTicked}
use Rattle.tick_laws.specs.Walks.{Among}
use Rattle.tick_laws.proofs.Cleaning.{clean_adds, clean_end, clean_idle, to_clean_seen}
use Rattle.tick_laws.proofs.Evicting.{due_among, evict_adds, evict_either, evict_end, evict_idle}
use Rattle.tick_laws.proofs.Judging.{is_tried, judge_adds, judge_end, judge_idle}
use Rattle.tick_laws.proofs.Named.{node_is_named}
use Rattle.tick_laws.proofs.Orders.{names_strict, keys_strict, places_strict}
use Rattle.tick_laws.proofs.Phases.{pass_rest}
use Rattle.tick_laws.proofs.Pushing.{push_adds, push_either, push_end, push_no_token, push_nobody, queued_among}
use Rattle.tick_laws.proofs.Tainting.{taint_no_token, taint_nobody, taint_adds, taint_either, taint_end, since_waits, waiting, waiting_place}
use Rattle.tick_laws.proofs.Heads.{head_waits}
use Rattle.tick_laws.proofs.Ticked.{ticked_keeps, sync_ticked, pass_ticked, cleaned_ticked, tainted_ticked, evicted_ticked, clean_ticked, judge_ticked, taint_ticked, evict_ticked, ticked_more, ticked_same}
use Rattle.tick_laws.proofs.Walks.{after_none}

-- ---- histories grow

pub ticked_longer : (q : Identity) (k : ℕ) (h g : List Entry) → IsTicked q k h g → length h ≤ length g
ticked_longer q k h g s = ticked_keeps q k (λ g. length h ≤ length g) (λ t g le. omega (arith, le)) h g s (omega arith)

-- where each leaves the history or adds to it, and one of them adds to it as it is at first, something is added
pub some_grows : {A : Type 0} (f : A → List Entry → List Entry) → ((a : A) (h : List Entry) → length h ≤ length (f a h)) → (h : List Entry)
    → ((a : A) → (f a h ≡ h) ⊎ (length h < length (f a h))) → (n : A) → length h < length (f n h) → (names : List A) → Among n names → length h < length (for_each f names h)
some_grows {A} f longer h either n busy [] there = absurd there
some_grows {A} f longer h either n busy (m ∷ ms) there = by_first (either m) (some_grows f longer h either n busy ms)
  where
    rest : (ms : List A) (g : List Entry) → length g ≤ length (for_each f ms g)
    rest [] g = omega arith
    rest (x ∷ xs) g = omega (arith, longer x g, rest xs (f x g))

    later : (Among n ms → length h < length (for_each f ms h)) → f m h ≡ h → (n ≡ m) ⊎ Among n ms → length h < length (for_each f ms h)
    later next idle (inl is) = absurd (omega (arith, busy, ap (λ (a : A). length (f a h)) is, ap length idle))
    later next idle (inr there) = next there

    by_first : (f m h ≡ h) ⊎ (length h < length (f m h)) → (Among n ms → length h < length (for_each f ms h)) → length h < length (for_each f ms (f m h))
    by_first (inl idle) next = subst (λ g. length h < length (for_each f ms g)) (sym idle) (later next idle there)
    by_first (inr grows) next = omega (arith, grows, rest ms (f m h))

is_no : (b : Bool) → (b ≡ true → ⊥) → b ≡ false
is_no true none = absurd (none refl)
is_no false none = refl

-- ---- who waits makes a head

pub head_some : (q : Identity) (place : Place) (h : List Entry) (n wanted : ℕ) → waits q place n h ≡ Some wanted → (names : List ℕ) → Among n names → (y : Queued) × (head_of q place names h ≡ Some y)
head_some q place h n wanted now [] there = absurd there
head_some q place h n wanted now (m ∷ ms) (inl is) = by_rest (head_of q place ms h) (ap (λ n. waits q place n h) (sym is) ∙ now)
  where
    by_rest : (r : Option Queued) → waits q place m h ≡ Some wanted → (y : Queued) × (first (queued_as (queued q place m h) m (waits q place m h)) r ≡ Some y)
    by_rest None mine = ((queued q place m h, m), ap (λ o. first (queued_as (queued q place m h) m o) None) mine)
    by_rest (Some x) mine = (_, ap (λ o. first (queued_as (queued q place m h) m o) (Some x)) mine)
head_some q place h n wanted now (m ∷ ms) (inr there) = by_first (queued_as (queued q place m h) m (waits q place m h)) (head_some q place h n wanted now ms there)
  where
    by_first : (o : Option Queued) → (y : Queued) × (head_of q place ms h ≡ Some y) → (y : Queued) × (first o (head_of q place ms h) ≡ Some y)
    by_first None found = found
    by_first (Some x) found = (_, ap (first (Some x)) found.1)

-- ---- each phase

module _ (doc : Doc) (k : ℕ) (q : Identity) (h : List Entry) where
  pub sync_none : (has_settled doc k q h && (watches doc q.process h && not (is_fresh q h))) ≡ false → sync doc k q h ≡ h
  sync_none is = ap (λ b. (if b then add k q Sync h else h)) is

  pub sync_grows : (has_settled doc k q h && (watches doc q.process h && not (is_fresh q h))) ≡ true → length h < length (sync doc k q h)
  sync_grows is = subst (λ b. length h < length (if b then add k q Sync h else h)) (sym is) (omega arith)

  pub pass_none : is_pass_due doc k q h ≡ false → pass doc k q h ≡ h
  pass_none is = ap (λ b. (if b then whole_pass doc k q h else h)) is

  clean_none : ((name : ℕ) → is_to_clean doc k q name h ≡ false) → for_each (clean doc k q) (node_names h) h ≡ h
  clean_none none = ap (λ names. for_each (clean doc k q) names h) (sym (after_none nat_cmp names_strict (node_names h))) ∙ clean_end doc k q None h h (λ m later. none m)

  judge_none : (xs : List Passed) → AreTried doc q xs h → judge_all doc k q xs h ≡ h
  judge_none [] none = refl
  judge_none (x ∷ xs) none =
      ap (λ names. for_each (judge doc k q x) names h) (sym (after_none nat_cmp names_strict (node_names h))) ∙ judge_end doc k q x None h h (λ m later. none m)

  pub cleaned_none : AreClean doc.settings.rules.judge doc k q h → cleaned doc k q h ≡ h
  cleaned_none none = by_rule doc.settings.rules.judge none
    where
      by_pass : (b : Bool) → (b ≡ true → AreTried doc q (passes q h) h) → (if b then judge_all doc k q (passes q h) h else h) ≡ h
      by_pass true none = judge_none (passes q h) (none refl)
      by_pass false none = refl

      by_rule : (rule : JudgeRule) → AreClean rule doc k q h → cleaned_by rule doc k q h ≡ h
      by_rule judges.Tick none = clean_none none
      by_rule judges.Pass none = by_pass (is_pass_tick k q h) none

  clean_grows : (name : ℕ) → is_to_clean doc k q name h ≡ true → length h < length (for_each (clean doc k q) (node_names h) h)
  clean_grows name busy =
      let x = to_clean_seen doc k q name h busy in
      some_grows (clean doc k q) (λ name g. ticked_longer q k g (clean doc k q name g) (clean_ticked doc k q name g)) h either name (grows name busy) (node_names h) (node_is_named q name h x.0 x.1)
    where
      grows : (name : ℕ) → is_to_clean doc k q name h ≡ true → length h < length (clean doc k q name h)
      grows name busy =
          let x = to_clean_seen doc k q name h busy in
          subst (λ g. length h < length g) (sym (clean_adds doc k q name h x.0 busy x.1)) (omega arith)

      by_busy : (name : ℕ) (b : Bool) → is_to_clean doc k q name h ≡ b → (clean doc k q name h ≡ h) ⊎ (length h < length (clean doc k q name h))
      by_busy name false is = inl (clean_idle doc k q name h is)
      by_busy name true is = inr (grows name is)

      either : (name : ℕ) → (clean doc k q name h ≡ h) ⊎ (length h < length (clean doc k q name h))
      either name = by_busy name (is_to_clean doc k q name h) refl

  judge_grows : (x : Passed) (name : ℕ) → is_to_try doc q x name h ≡ true → length h < length (for_each (judge doc k q x) (node_names h) h)
  judge_grows x name busy =
      let s = is_tried doc k q x name h busy in
      some_grows (judge doc k q x) (λ name g. ticked_longer q k g (judge doc k q x name g) (judge_ticked doc k q x name g)) h either name (grows name busy) (node_names h) (node_is_named q name h s.z s.sees)
    where
      grows : (name : ℕ) → is_to_try doc q x name h ≡ true → length h < length (judge doc k q x name h)
      grows name busy = subst (λ g. length h < length g) (sym (judge_adds doc k q x name h (is_tried doc k q x name h busy))) (omega arith)

      by_busy : (name : ℕ) (b : Bool) → is_to_try doc q x name h ≡ b → (judge doc k q x name h ≡ h) ⊎ (length h < length (judge doc k q x name h))
      by_busy name false is = inl (judge_idle doc k q x name h is)
      by_busy name true is = inr (grows name is)

      either : (name : ℕ) → (judge doc k q x name h ≡ h) ⊎ (length h < length (judge doc k q x name h))
      either name = by_busy name (is_to_try doc q x name h) refl

  pub cleaned_still : length (cleaned doc k q h) ≤ length h → AreClean doc.settings.rules.judge doc k q h
  cleaned_still still = by_rule doc.settings.rules.judge still
    where
      tried : (xs : List Passed) → length (judge_all doc k q xs h) ≤ length h → AreTried doc q xs h
      tried [] still = tt
      tried (x ∷ xs) still = λ name. is_no (is_to_try doc q x name h) (λ busy. omega (arith, still, judge_grows x name busy))

      by_pass : (b : Bool) → length (if b then judge_all doc k q (passes q h) h else h) ≤ length h → b ≡ true → AreTried doc q (passes q h) h
      by_pass true still is = tried (passes q h) still
      by_pass false still is = absurd (false_is is)

      by_rule : (rule : JudgeRule) → length (cleaned_by rule doc k q h) ≤ length h → AreClean rule doc k q h
      by_rule judges.Tick still = λ name. is_no (is_to_clean doc k q name h) (λ busy. omega (arith, still, clean_grows name busy))
      by_rule judges.Pass still = by_pass (is_pass_tick k q h) still

  quiet_zone : (place : Place) → ((name : ℕ) → has_token doc q k place h ≡ true → waits q place name h ≡ None) → taint doc k q place h ≡ h
  quiet_zone place none = by_token (has_token doc q k place h) refl
    where
      by_token : (b : Bool) → has_token doc q k place h ≡ b → taint doc k q place h ≡ h
      by_token false token = taint_no_token doc k q place h token
      by_token true token = taint_nobody doc k q place h (λ m. ap (λ o. key_if o (queued q place m h)) (none m token))

  taint_none : ((place : Place) (name : ℕ) → has_token doc q k place h ≡ true → waits q place name h ≡ None) → for_each (taint doc k q) (places (nodes q h)) h ≡ h
  taint_none none =
      ap (λ names. for_each (taint doc k q) names h) (sym (after_none place_cmp places_strict (places (nodes q h)))) ∙ taint_end doc k q None h h (λ place later. quiet_zone place (none place))

  quiet_queue : (place : Place) → (has_token doc q k place h ≡ true → queue doc q place (passes q h) ≡ []) → push doc k q place h ≡ h
  quiet_queue place none = by_token (has_token doc q k place h) refl
    where
      by_token : (b : Bool) → has_token doc q k place h ≡ b → push doc k q place h ≡ h
      by_token false token = push_no_token doc k q place h token
      by_token true token = push_nobody doc k q place h (none token)

  push_none : ((place : Place) → has_token doc q k place h ≡ true → queue doc q place (passes q h) ≡ []) → for_each (push doc k q) (places (nodes q (before_pass q h))) h ≡ h
  push_none none =
      ap (λ names. for_each (push doc k q) names h) (sym (after_none place_cmp places_strict (places (nodes q (before_pass q h)))))
      ∙ push_end doc k q None h h (λ place later. quiet_queue place (none place))

  pub tainted_none : AreUnqueued doc.settings.rules.judge doc k q h → tainted doc k q h ≡ h
  tainted_none none = by_rule doc.settings.rules.judge none
    where
      by_rule : (rule : JudgeRule) → AreUnqueued rule doc k q h → tainted_by rule doc k q h ≡ h
      by_rule judges.Tick none = taint_none none
      by_rule judges.Pass none = push_none none

  taint_grows : (place : Place) (name wanted : ℕ) → has_token doc q k place h ≡ true → waits q place name h ≡ Some wanted → length h < length (for_each (taint doc k q) (places (nodes q h)) h)
  taint_grows place name wanted token now =
      let w = waiting q place name wanted h now in
      let head = head_some q place h name wanted now (node_names h) (node_is_named q name h w.x w.sees) in
      let found = since_waits q place head.0.1 head.0.0 h (head_waits q place (node_names h) h head.0 head.1) in
      let x = waiting q place head.0.1 found.0 h found.1 in
      some_grows (taint doc k q) (λ place g. ticked_longer q k g (taint doc k q place g) (taint_ticked doc k q place g)) h either place
      (subst (λ g. length h < length g) (sym (taint_adds doc k q place h head.0.0 head.0.1 found.0 x.x token head.1 found.1 x.sees)) (omega arith))
      (places (nodes q h)) (waiting_place q place name wanted h now)
    where
      either : (place : Place) → (taint doc k q place h ≡ h) ⊎ (length h < length (taint doc k q place h))
      either place = taint_either doc k q place h (λ g. (g ≡ h) ⊎ (length h < length g)) (inl refl) (λ at n wanted w token head. inr (omega arith))

  push_grows : (place : Place) (name : ℕ) (names : List ℕ) → has_token doc q k place h ≡ true → queue doc q place (passes q h) ≡ name ∷ names
      → length h < length (for_each (push doc k q) (places (nodes q (before_pass q h))) h)
  push_grows place name names token is =
      some_grows (push doc k q) (λ place g. ticked_longer q k g (push doc k q place g) (push_ticked place g)) h either place
      (subst (λ g. length h < length g) (sym (push_adds doc k q place h name names token is)) (omega arith))
      (places (nodes q (before_pass q h))) (queued_among doc q place h name names is)
    where
      either : (place : Place) → (push doc k q place h ≡ h) ⊎ (length h < length (push doc k q place h))
      either place = push_either doc k q place h (λ g. (g ≡ h) ⊎ (length h < length g)) (inl refl) (λ name names token is. inr (omega arith))

      push_ticked : (place : Place) (g : List Entry) → IsTicked q k g (push doc k q place g)
      push_ticked place g = push_either doc k q place g (IsTicked q k g) (ticked_same q k g) (λ name names token is. ticked_more q k g g _ (ticked_same q k g))

  pub tainted_still : length (tainted doc k q h) ≤ length h → AreUnqueued doc.settings.rules.judge doc k q h
  tainted_still still = by_rule doc.settings.rules.judge still
    where
      by_waits : length (for_each (taint doc k q) (places (nodes q h)) h) ≤ length h → (place : Place) (name : ℕ) → has_token doc q k place h ≡ true
          → (o : Option ℕ) → waits q place name h ≡ o → o ≡ None
      by_waits still place name token None now = refl
      by_waits still place name token (Some wanted) now = absurd (omega (arith, still, taint_grows place name wanted token now))

      by_queue : length (for_each (push doc k q) (places (nodes q (before_pass q h))) h) ≤ length h → (place : Place) → has_token doc q k place h ≡ true
          → (names : List ℕ) → queue doc q place (passes q h) ≡ names → names ≡ []
      by_queue still place token [] is = refl
      by_queue still place token (name ∷ names) is = absurd (omega (arith, still, push_grows place name names token is))

      by_rule : (rule : JudgeRule) → length (tainted_by rule doc k q h) ≤ length h → AreUnqueued rule doc k q h
      by_rule judges.Tick still = λ place name token. by_waits still place name token (waits q place name h) refl
      by_rule judges.Pass still = λ place token. by_queue still place token (queue doc q place (passes q h)) refl

  abbrev Evicted : Bool → List Entry
  Evicted b = elim b [ true ↦ for_each (evict doc k q) (pod_keys h) h | false ↦ for_each (evict_within doc k q) (dues doc q (pod_keys h) h) h ]

  abbrev NoneByNow : Type 0
  NoneByNow = (key : Key) → is_by_now (wall doc q.process k) (term_due doc q key h) ≡ false

  within_none : ((x : ℕ × Key) → IsPodKey x.1 → evict_within doc k q x h ≡ h) → (xs : List (ℕ × Key)) → Each (λ x. IsPodKey x.1) xs → for_each (evict_within doc k q) xs h ≡ h
  within_none idle [] pods = refl
  within_none idle (x ∷ xs) pods = ap (for_each (evict_within doc k q) xs) (idle x pods.0) ∙ within_none idle xs pods.1

  pub evicted_none : NoneByNow ⊎ IsOutOfRoom doc k q h → evicted doc k q h ≡ h
  evicted_none none = by_limit (doc.settings.rules.evict_burst == 0) refl none
    where
      by_test : (b : Bool) (x : ℕ × Key) → evict doc k q x.1 h ≡ h → (if b then evict doc k q x.1 h else h) ≡ h
      by_test true x is = is
      by_test false x is = refl

      pods : Each (λ x. IsPodKey x.1) (dues doc q (pod_keys h) h)
      pods = dues_only doc q h (pod_keys h) (pods_only h)

      by_limit : (b : Bool) → (doc.settings.rules.evict_burst == 0) ≡ b → NoneByNow ⊎ IsOutOfRoom doc k q h → Evicted b ≡ h
      by_limit true free (inl none) = ap (λ keys. for_each (evict doc k q) keys h) (sym (after_none key_cmp keys_strict (pod_keys h))) ∙ evict_end doc k q None h h (λ key later. none key)
      by_limit true free (inr out) = absurd (true_is (sym free ∙ out.limited))
      by_limit false limited (inl none) = within_none (λ x kind. by_test (has_room doc q k 0 h) x (evict_idle doc k q x.1 h kind (none x.1))) (dues doc q (pod_keys h) h) pods
      by_limit false limited (inr out) = within_none (λ x kind. ap (λ b. (if b then evict doc k q x.1 h else h)) out.none) (dues doc q (pod_keys h) h) pods

  pub evicted_grows : (key : Key) → is_by_now (wall doc q.process k) (term_due doc q key h) ≡ true → HasRoom doc k q h → length h < length (evicted doc k q h)
  evicted_grows key now room = by_limit (doc.settings.rules.evict_burst == 0) refl
    where
      found : (at : ℕ) × Among key (pod_keys h) × Among (at, key) (dues doc q (pod_keys h) h)
      found = due_among doc q h key (wall doc q.process k) now

      either : (key : Key) → (evict doc k q key h ≡ h) ⊎ (length h < length (evict doc k q key h))
      either key = evict_either doc k q key h (λ g. (g ≡ h) ⊎ (length h < length g)) (inl refl) (λ given node_given at a. inr (omega arith))

      busy : length h < length (evict doc k q key h)
      busy = subst (λ g. length h < length g) (sym (evict_adds doc k q key h now).is) (omega arith)

      within : (x : ℕ × Key) → (evict_within doc k q x h ≡ h) ⊎ (length h < length (evict_within doc k q x h))
      within x = by_room (has_room doc q k 0 h)
        where
          by_room : (b : Bool) → ((if b then evict doc k q x.1 h else h) ≡ h) ⊎ (length h < length (if b then evict doc k q x.1 h else h))
          by_room true = either x.1
          by_room false = inl refl

      longer : (x : ℕ × Key) (g : List Entry) → length g ≤ length (evict_within doc k q x g)
      longer x g = by_room (has_room doc q k 0 g)
        where
          by_room : (b : Bool) → length g ≤ length (if b then evict doc k q x.1 g else g)
          by_room true = ticked_longer q k g (evict doc k q x.1 g) (evict_ticked doc k q x.1 g)
          by_room false = omega arith

      by_limit : (b : Bool) → (doc.settings.rules.evict_burst == 0) ≡ b → length h < length (Evicted b)
      by_limit true free = some_grows (evict doc k q) (λ key g. ticked_longer q k g (evict doc k q key g) (evict_ticked doc k q key g)) h either key busy (pod_keys h) found.1
      by_limit false limited =
          some_grows (evict_within doc k q) longer h within (found.0, key)
          (subst (λ b. length h < length (if b then evict doc k q key h else h)) (sym (room limited)) busy) (dues doc q (pod_keys h) h) found.2

-- a pass adds its own entry at least
pub pass_grows : (doc : Doc) (k : ℕ) (q : Identity) (h : List Entry) → is_pass_due doc k q h ≡ true → length h < length (pass doc k q h)
pass_grows doc k q h due =
    subst (λ b. length h < length (if b then whole_pass doc k q h else h)) (sym due)
    (pass_rest doc k q (λ g. length h < length g) (λ t g is less. omega (arith, less)) (add k q Pass h) (omega arith))

-- ---- the tick

pub quiet_adds_nothing : (doc : Doc) (k : ℕ) (q : Identity) (h : List Entry) → IsQuietTick doc k q h → tick doc k q h ≡ h
quiet_adds_nothing doc k q h quiet = ap (tick_after doc k q) (sync_none doc k q h quiet.sync) ∙ by_synced (is_synced q h) refl
  where
    by_synced : (b : Bool) → is_synced q h ≡ b → (if b then phases doc k q h else h) ≡ h
    by_synced false synced = refl
    by_synced true synced =
        let s = quiet.term synced in
        ap (λ g. evicted doc k q (tainted doc k q (cleaned doc k q g))) (pass_none doc k q h s.pass)
        ∙ ap (λ g. evicted doc k q (tainted doc k q g)) (cleaned_none doc k q h s.nodes)
        ∙ ap (evicted doc k q) (tainted_none doc k q h s.heads)
        ∙ evicted_none doc k q h s.pods

module _ (doc : Doc) (k : ℕ) (q : Identity) where
  sync_longer : (h : List Entry) → length h ≤ length (sync doc k q h)
  sync_longer h = ticked_longer q k h (sync doc k q h) (sync_ticked doc k q h)

  pass_longer : (h : List Entry) → length h ≤ length (pass doc k q h)
  pass_longer h = ticked_longer q k h (pass doc k q h) (pass_ticked doc k q h)

  cleaned_longer : (h : List Entry) → length h ≤ length (cleaned doc k q h)
  cleaned_longer h = ticked_longer q k h (cleaned doc k q h) (cleaned_ticked doc k q h)

  tainted_longer : (h : List Entry) → length h ≤ length (tainted doc k q h)
  tainted_longer h = ticked_longer q k h (tainted doc k q h) (tainted_ticked doc k q h)

  evicted_longer : (h : List Entry) → length h ≤ length (evicted doc k q h)
  evicted_longer h = ticked_longer q k h (evicted doc k q h) (evicted_ticked doc k q h)

  term_longer : (h : List Entry) (b : Bool) → length h ≤ length (if b then phases doc k q h else h)
  term_longer h false = omega arith
  term_longer h true =
      let a = pass doc k q h in
      let b = cleaned doc k q a in
      let c = tainted doc k q b in
      omega (arith, pass_longer h, cleaned_longer a, tainted_longer b, evicted_longer c)

  pub tick_longer : (h : List Entry) → length h ≤ length (tick doc k q h)
  tick_longer h = omega (arith, sync_longer h, term_longer (sync doc k q h) (is_synced q (sync doc k q h)))

  module _ (h : List Entry) (still : length (evicted doc k q (tainted doc k q (cleaned doc k q (pass doc k q h)))) ≡ length h) where
    still_pass : is_pass_due doc k q h ≡ false
    still_pass = is_no (is_pass_due doc k q h) busy
      where
        busy : is_pass_due doc k q h ≡ true → ⊥
        busy due =
            let a = pass doc k q h in
            let b = cleaned doc k q a in
            omega (arith, still, pass_grows doc k q h due, cleaned_longer a, tainted_longer b, evicted_longer (tainted doc k q b))

    without_pass : length (evicted doc k q (tainted doc k q (cleaned doc k q h))) ≡ length h
    without_pass = ap (λ g. length (evicted doc k q (tainted doc k q (cleaned doc k q g)))) (sym (pass_none doc k q h still_pass)) ∙ still

    still_nodes : AreClean doc.settings.rules.judge doc k q h
    still_nodes =
        let b = cleaned doc k q h in
        cleaned_still doc k q h (omega (arith, without_pass, tainted_longer b, evicted_longer (tainted doc k q b)))

    without_cleaned : length (evicted doc k q (tainted doc k q h)) ≡ length h
    without_cleaned = ap (λ g. length (evicted doc k q (tainted doc k q g))) (sym (cleaned_none doc k q h still_nodes)) ∙ without_pass

    still_heads : AreUnqueued doc.settings.rules.judge doc k q h
    still_heads = tainted_still doc k q h (omega (arith, without_cleaned, evicted_longer (tainted doc k q h)))

    without_tainted : length (evicted doc k q h) ≡ length h
    without_tainted = ap (λ g. length (evicted doc k q g)) (sym (tainted_none doc k q h still_heads)) ∙ without_cleaned

    none_by_now : HasRoom doc k q h → (key : Key) → is_by_now (wall doc q.process k) (term_due doc q key h) ≡ false
    none_by_now room key = is_no (is_by_now (wall doc q.process k) (term_due doc q key h)) busy
      where
        busy : is_by_now (wall doc q.process k) (term_due doc q key h) ≡ true → ⊥
        busy now = omega (arith, without_tainted, evicted_grows doc k q h key now room)

    still_pods : ((key : Key) → is_by_now (wall doc q.process k) (term_due doc q key h) ≡ false) ⊎ IsOutOfRoom doc k q h
    still_pods = by_limit (doc.settings.rules.evict_burst == 0) refl (has_room doc q k 0 h) refl
      where
        by_limit : (b : Bool) → (doc.settings.rules.evict_burst == 0) ≡ b → (room : Bool) → has_room doc q k 0 h ≡ room
            → ((key : Key) → is_by_now (wall doc q.process k) (term_due doc q key h) ≡ false) ⊎ IsOutOfRoom doc k q h
        by_limit true free room is = inl (none_by_now (λ limited. absurd (true_is (sym free ∙ limited))))
        by_limit false limited true is = inl (none_by_now (λ limited. is))
        by_limit false limited false is = inr (record { limited = limited; none = is })

    pub still_term : IsQuietTerm doc k q h
    still_term = record { pass = still_pass; nodes = still_nodes; heads = still_heads; pods = still_pods }

  pub still_is_quiet : (h : List Entry) → tick doc k q h ≡ h → IsQuietTick doc k q h
  still_is_quiet h still = record { sync = unsynced; term = by_synced }
    where
      unsynced : (has_settled doc k q h && (watches doc q.process h && not (is_fresh q h))) ≡ false
      unsynced = is_no (has_settled doc k q h && (watches doc q.process h && not (is_fresh q h))) busy
        where
          busy : (has_settled doc k q h && (watches doc q.process h && not (is_fresh q h))) ≡ true → ⊥
          busy due = omega (arith, ap length still, sync_grows doc k q h due, term_longer (sync doc k q h) (is_synced q (sync doc k q h)))

      by_synced : is_synced q h ≡ true → IsQuietTerm doc k q h
      by_synced synced = still_term h (ap length (sym (ap (λ b. (if b then phases doc k q h else h)) synced) ∙ sym (ap (tick_after doc k q) (sync_none doc k q h unsynced)) ∙ still))
