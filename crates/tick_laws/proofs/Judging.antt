-- The untaints and swaps of a pass, where nodes are judged at passes alone.
use Rattle.std.proofs.Common.{◌≡◌, ◌∙◌, ℕ, ◌==◌, ◌&&◌, ◌||◌, Bool, true, false, List, Option, Some, None, refl, sym, ap, subst, Less}
use Rattle.std.specs.Prelude.{if◌then◌else◌}
use Rattle.std.specs.Ordering.{nat_cmp}
use Rattle.kube_base.specs.declared.numbers.Version.{Version}
use Rattle.kube_objects.specs.declared.call.Answer.{Answer}
use Rattle.kube_objects.specs.declared.node.Node.{Node}
use Rattle.kube_objects.specs.Document.{Doc}
use Rattle.kube_objects.specs.Entry.{Entry, Identity, Tick}
use Rattle.kube_objects.specs.Judgement.{Passed, has_turned_on, is_crossed, is_healthy, is_new, judged}
use Rattle.kube_objects.specs.Seen.{is_stale, node_names, seen_node}
use Rattle.kube_objects.specs.Stored.{next_version, node_key}
use Rattle.kube_objects.specs.Tainting.{Wants, Nothing, Wanted, Whatever, has_condition}
use Rattle.kube_objects.specs.Tick.{add, add_crossed, add_untaint, for_each, judge, judge_as, judge_seen}
use Rattle.kube_objects.specs.Tries.{try_node}
use Rattle.history_laws.proofs.Plainly.{false_is}
use Rattle.tick_laws.specs.Changes.{IsCleaningOn, IsGiven, judged_node, judging}
use Rattle.tick_laws.specs.Judged.{is_dirty, is_to_try, tried_as, tries}
use Rattle.tick_laws.specs.Walks.{Among, after, is_after}
use Rattle.tick_laws.proofs.Cleaning.{tried_dirty}
use Rattle.tick_laws.proofs.Frames.{cleaning_change, given_node, swap_is, untaint_is}
use Rattle.tick_laws.proofs.Named.{node_names_ascend}
use Rattle.tick_laws.proofs.Orders.{names_strict}
use Rattle.tick_laws.proofs.Walks.{walk_end, walk_next}

module _ (doc : Doc) (k : ℕ) (q : Identity) (x : Passed) where
  -- ---- one node

  -- the entry by which it is tried, which wanted this as the pass saw it
  abbrev pub judging_of : ℕ → Version → Node → Wants → Option Answer → Tick
  judging_of name given node w a = judging doc k q name given node (is_new doc q name x.before) (is_crossed w node) w a

  abbrev pub judged_of : ℕ → Node → Wants → Node
  judged_of name node w = judged_node doc k q node (is_new doc q name x.before) (is_crossed w node) w

  -- one that isn't to be tried adds nothing
  pub judge_idle : (name : ℕ) (h : List Entry) → is_to_try doc q x name h ≡ false → judge doc k q x name h ≡ h
  judge_idle name h = by_stale (is_stale q (node_key name) h) (seen_node q name x.before) (seen_node q name h)
    where
      by_tests : (z : Version × Node) (w : Wants) (b c : Bool) → (b || c) ≡ false
          → (if b then add_crossed doc k q name z.0 z.1 (is_new doc q name x.before) w h else (if c then add_untaint k q name z.0 z.1 h else h)) ≡ h
      by_tests z w true c idle = absurd (false_is (sym idle))
      by_tests z w false true idle = absurd (false_is (sym idle))
      by_tests z w false false idle = refl

      by_stale : (b : Bool) (was is : Option (Version × Node)) → tried_as doc q name x b was is ≡ false → judge_seen doc k q name x b was is h ≡ h
      by_stale true was is idle = refl
      by_stale false None is idle = refl
      by_stale false (Some y) None idle = refl
      by_stale false (Some y) (Some z) idle =
          let w = judged q name x y.1 in
          by_tests z w (is_crossed w z.1) (has_condition z.1 && (is_new doc q name x.before || is_healthy w || has_turned_on q x)) idle

  -- one that is to be was seen before the marks and is now
  pub record IsTried (name : ℕ) (h : List Entry) : Type 0 where
    pub y : Version × Node
    pub z : Version × Node
    pub saw : seen_node q name x.before ≡ Some y
    pub sees : seen_node q name h ≡ Some z
    pub fresh : is_stale q (node_key name) h ≡ false
    pub is : tries doc q name x (judged q name x y.1) z.1 ≡ true

  pub is_tried : (name : ℕ) (h : List Entry) → is_to_try doc q x name h ≡ true → IsTried name h
  is_tried name h busy = by_stale (is_stale q (node_key name) h) (seen_node q name x.before) (seen_node q name h) refl refl refl busy
    where
      by_stale : (b : Bool) (was now : Option (Version × Node)) → is_stale q (node_key name) h ≡ b → seen_node q name x.before ≡ was → seen_node q name h ≡ now
          → tried_as doc q name x b was now ≡ true → IsTried name h
      by_stale true was now stale saw sees busy = absurd (false_is busy)
      by_stale false None now stale saw sees busy = absurd (false_is busy)
      by_stale false (Some y) None stale saw sees busy = absurd (false_is busy)
      by_stale false (Some y) (Some z) stale saw sees busy = record { y = y; z = z; saw = saw; sees = sees; fresh = stale; is = busy }

  -- and adds one entry
  pub judge_adds : (name : ℕ) (h : List Entry) (s : IsTried name h)
      → judge doc k q x name h ≡ add k q (judging_of name s.z.0 s.z.1 (judged q name x s.y.1) (try_node q name s.z.0 h)) h
  judge_adds name h s =
      ap (λ b. judge_seen doc k q name x b (seen_node q name x.before) (seen_node q name h) h) s.fresh
      ∙ ap (λ o. judge_seen doc k q name x false o (seen_node q name h) h) s.saw
      ∙ ap (λ o. judge_seen doc k q name x false (Some s.y) o h) s.sees
      ∙ by_wants (judged q name x s.y.1) s.is
    where
      new : Bool
      new = is_new doc q name x.before

      a : Option Answer
      a = try_node q name s.z.0 h

      by_untaint : (c : Bool) → c ≡ true → (if c then add_untaint k q name s.z.0 s.z.1 h else h) ≡ add_untaint k q name s.z.0 s.z.1 h
      by_untaint c busy = ap (λ b. (if b then add_untaint k q name s.z.0 s.z.1 h else h)) busy

      by_crossed : (wanted : ℕ) (b c : Bool) → (b || c) ≡ true
          → (if b then add_crossed doc k q name s.z.0 s.z.1 new (Wanted wanted) h else (if c then add_untaint k q name s.z.0 s.z.1 h else h))
          ≡ add k q (judging doc k q name s.z.0 s.z.1 new b (Wanted wanted) a) h
      by_crossed wanted true c busy = refl
      by_crossed wanted false true busy = refl
      by_crossed wanted false false busy = absurd (false_is busy)

      by_wants : (w : Wants) → tries doc q name x w s.z.1 ≡ true
          → judge_as doc k q name x s.z.0 s.z.1 w h ≡ add k q (judging_of name s.z.0 s.z.1 w a) h
      by_wants Nothing busy = by_untaint (has_condition s.z.1 && (new || true || has_turned_on q x)) busy
      by_wants (Wanted wanted) busy =
          by_crossed wanted (is_crossed (Wanted wanted) s.z.1) (has_condition s.z.1 && (new || false || has_turned_on q x)) busy
      by_wants Whatever busy = by_untaint (has_condition s.z.1 && (new || false || has_turned_on q x)) busy

  pub judging_is : (name : ℕ) (given : Version) (node : Node) (w : Wants) (a : Option Answer) → IsCleaningOn name (judged_of name node w) a (judging_of name given node w a)
  judging_is name given node w a = by_wants (is_crossed w node) w
    where
      new : Bool
      new = is_new doc q name x.before

      by_wants : (b : Bool) (w : Wants) → IsCleaningOn name (judged_node doc k q node new b w) a (judging doc k q name given node new b w a)
      by_wants true (Wanted wanted) = swap_is name wanted given (judged_node doc k q node new true (Wanted wanted)) a
      by_wants true Nothing = untaint_is name given (judged_node doc k q node new true Nothing) a
      by_wants true Whatever = untaint_is name given (judged_node doc k q node new true Whatever) a
      by_wants false (Wanted wanted) = untaint_is name given (judged_node doc k q node new false (Wanted wanted)) a
      by_wants false Nothing = untaint_is name given (judged_node doc k q node new false Nothing) a
      by_wants false Whatever = untaint_is name given (judged_node doc k q node new false Whatever) a

  -- the judgement of a node leaves the history, or adds one such entry
  pub judge_either : (name : ℕ) (h : List Entry) (P : List Entry → Type 0) → P h
      → ((t : Tick) (written : Node) (a : Option Answer) → IsCleaningOn name written a t → IsGiven (next_version h) a → P (add k q t h)) → P (judge doc k q x name h)
  judge_either name h P same more = by_busy (is_to_try doc q x name h) refl
    where
      by_busy : (b : Bool) → is_to_try doc q x name h ≡ b → P (judge doc k q x name h)
      by_busy false is = subst P (sym (judge_idle name h is)) same
      by_busy true is =
          let s = is_tried name h is in
          let w = judged q name x s.y.1 in
          let a = try_node q name s.z.0 h in
          subst P (sym (judge_adds name h s)) (more (judging_of name s.z.0 s.z.1 w a) (judged_of name s.z.1 w) a (judging_is name s.z.0 s.z.1 w a) (given_node q name s.z.0 h))

  -- and the others are judged as before
  pub judge_others : (name : ℕ) (h : List Entry) (m : ℕ) → (name == m) ≡ false → is_dirty q m (judge doc k q x name h) ≡ is_dirty q m h
  judge_others name h m apart =
      judge_either name h (λ g. is_dirty q m g ≡ is_dirty q m h) refl
      (λ t written a is given. tried_dirty q h (add k q t h) name written a (cleaning_change q k h name written a t is given) m apart)

  -- ---- the walk over nodes; h is the history at the phase's start, and now the one that is reached

  pub judge_next : (c : Option ℕ) (n : ℕ) (h now : List Entry) → is_after nat_cmp c n ≡ true → Among n (node_names h)
      → ((m : ℕ) → is_after nat_cmp c m ≡ true → nat_cmp m n ≡ Less → is_to_try doc q x m now ≡ false)
      → for_each (judge doc k q x) (after nat_cmp c (node_names h)) now ≡ for_each (judge doc k q x) (after nat_cmp (Some n) (node_names h)) (judge doc k q x n now)
  judge_next c n h now later there idle =
      walk_next nat_cmp names_strict (judge doc k q x) c n (node_names h) now later (node_names_ascend h) there (λ m after_c below. judge_idle m now (idle m after_c below))

  pub judge_end : (c : Option ℕ) (h now : List Entry) → ((m : ℕ) → is_after nat_cmp c m ≡ true → is_to_try doc q x m now ≡ false)
      → for_each (judge doc k q x) (after nat_cmp c (node_names h)) now ≡ now
  judge_end c h now idle = walk_end nat_cmp names_strict (judge doc k q x) c (node_names h) now (node_names_ascend h) (λ m after_c. judge_idle m now (idle m after_c))
