-- The phase of untaints and swaps.
use Rattle.std.proofs.Common.{◌≡◌, ◌∙◌, ℕ, ◌==◌, Bool, true, false, List, Option, Some, None, refl, sym, ap, subst, Less, ◌||◌}
use Rattle.std.specs.Prelude.{if◌then◌else◌}
use Rattle.std.specs.Ordering.{nat_cmp}
use Rattle.kube_base.specs.declared.numbers.Version.{Version}
use Rattle.kube_objects.specs.declared.call.Answer.{Answer}
use Rattle.kube_objects.specs.declared.call.Answer.TheVariants as answer
use Rattle.kube_objects.specs.declared.key.Key.{Key}
use Rattle.kube_objects.specs.declared.node.Node.{Node}
use Rattle.kube_objects.specs.Document.{Doc}
use Rattle.kube_objects.specs.Entry.{Entry, Identity, Place, Tick}
use Rattle.kube_objects.specs.Modes.{mode}
use Rattle.kube_objects.specs.Seen.{seen_node, seen_pod, is_stale, node_names}
use Rattle.kube_objects.specs.Stored.{next_version, node_key}
use Rattle.kube_objects.specs.Tainting.{Wants, Nothing, Wanted, Whatever, wants, waits}
use Rattle.kube_objects.specs.Tick.{add, for_each, clean_as, clean_seen, clean, add_untaint, add_swap, is_stripped}
use Rattle.kube_objects.specs.Tries.{try_node}
use Rattle.history_laws.proofs.Plainly.{false_is}
use Rattle.tick_laws.specs.Changes.{IsChange, IsCleaningOn, noted_by, refused_by, IsGiven, cleaning, cleaned_node}
use Rattle.tick_laws.specs.Judged.{cleans, dirty_as, is_dirty, is_to_clean, seen_due}
use Rattle.tick_laws.specs.Walks.{Among, is_after, after}
use Rattle.tick_laws.proofs.Frames.{cleaning_change, given_node, untaint_is, swap_is}
use Rattle.tick_laws.proofs.Named.{node_names_ascend}
use Rattle.tick_laws.proofs.Orders.{names_strict}
use Rattle.tick_laws.proofs.Tried.{noted_dirty, noted_waits, noted_due, refused_others, refused_dues, refused_waits, same_dirties, same_dues}
use Rattle.tick_laws.proofs.Walks.{walk_next, walk_end}
use Rattle.watch_cache.specs.Kept.{is_on}

-- ---- after a try to clean a node, whatever its answer, the others are judged as before

module _ (q : Identity) (h g : List Entry) (name : ℕ) (written : Node) where
  pub tried_dirty : (a : Option Answer) → IsChange q h g (noted_by name written a) (refused_by (node_key name) a) → (m : ℕ) → (name == m) ≡ false → is_dirty q m g ≡ is_dirty q m h
  tried_dirty None s m apart = same_dirties q h g s m
  tried_dirty (Some (answer.Done v)) s m apart = noted_dirty q h g name v written s m apart
  tried_dirty (Some answer.Absent) s m apart = refused_others q h g name s m apart
  tried_dirty (Some answer.Exists) s m apart = refused_others q h g name s m apart
  tried_dirty (Some (answer.Conflict v)) s m apart = refused_others q h g name s m apart

  pub tried_due : (a : Option Answer) → IsChange q h g (noted_by name written a) (refused_by (node_key name) a) → (key : Key) → is_on name (seen_pod q key h) ≡ false → seen_due q key g ≡ seen_due q key h
  tried_due None s key off = same_dues q h g s key
  tried_due (Some (answer.Done v)) s key off = noted_due q h g name v written s key off
  tried_due (Some answer.Absent) s key off = refused_dues q h g name s key
  tried_due (Some answer.Exists) s key off = refused_dues q h g name s key
  tried_due (Some (answer.Conflict v)) s key off = refused_dues q h g name s key

  pub tried_waits : (a : Option Answer) → IsChange q h g (noted_by name written a) (refused_by (node_key name) a) → (place : Place) (m : ℕ) → (name == m) ≡ false → waits q place m g ≡ waits q place m h
  tried_waits None s place m apart = refused_waits q h g None s place m
  tried_waits (Some (answer.Done v)) s place m apart = noted_waits q h g name v written s place m apart
  tried_waits (Some answer.Absent) s place m apart = refused_waits q h g (Some (node_key name)) s place m
  tried_waits (Some answer.Exists) s place m apart = refused_waits q h g (Some (node_key name)) s place m
  tried_waits (Some (answer.Conflict v)) s place m apart = refused_waits q h g (Some (node_key name)) s place m

-- a dirty node is seen, and isn't stale
found_as : (q : Identity) (name : ℕ) (h : List Entry) (on : Bool) → dirty_as (is_stale q (node_key name) h) on (seen_node q name h) ≡ true
    → (x : Version × Node) × (seen_node q name h ≡ Some x)
found_as q name h on is = by_seen (is_stale q (node_key name) h) (seen_node q name h) is refl
  where
    by_seen : (b : Bool) (o : Option (Version × Node)) → dirty_as b on o ≡ true → seen_node q name h ≡ o → (x : Version × Node) × (seen_node q name h ≡ Some x)
    by_seen true o is sees = absurd (false_is is)
    by_seen false None is sees = absurd (false_is is)
    by_seen false (Some x) is sees = (x, sees)

pub dirty_seen : (q : Identity) (name : ℕ) (h : List Entry) → is_dirty q name h ≡ true → (x : Version × Node) × (seen_node q name h ≡ Some x)
dirty_seen q name h is = found_as q name h (mode q h) is

module _ (doc : Doc) (k : ℕ) (q : Identity) where
  -- where it isn't, it is to be cleaned where it is dirty
  pub to_clean_kept : (name : ℕ) (h : List Entry) → is_stripped doc.settings.rules.first_sight k q name h ≡ false → is_to_clean doc k q name h ≡ is_dirty q name h
  to_clean_kept name h kept = ap (λ b. dirty_as (is_stale q (node_key name) h) (b || mode q h) (seen_node q name h)) kept

  pub to_clean_seen : (name : ℕ) (h : List Entry) → is_to_clean doc k q name h ≡ true → (x : Version × Node) × (seen_node q name h ≡ Some x)
  to_clean_seen name h is = found_as q name h (is_stripped doc.settings.rules.first_sight k q name h || mode q h) is

  -- ---- one node

  -- what it wants as the tick cleans it
  abbrev pub wants_clean : ℕ → Node → List Entry → Wants
  wants_clean name node h = wants (is_stripped doc.settings.rules.first_sight k q name h || mode q h) node

  -- one that isn't to be cleaned adds nothing
  pub clean_idle : (name : ℕ) (h : List Entry) → is_to_clean doc k q name h ≡ false → clean doc k q name h ≡ h
  clean_idle name h = by_stale (is_stale q (node_key name) h) (seen_node q name h)
    where
      by_wants : (given : Version) (node : Node) (w : Wants) → cleans w node ≡ false → clean_as doc k q name given node w h ≡ h
      by_wants given node Nothing quiet = ap (λ b. (if b then add_untaint k q name given node h else h)) quiet
      by_wants given node (Wanted wanted) quiet = ap (λ b. (if b then add_swap doc k q name given node wanted h else h)) quiet
      by_wants given node Whatever quiet = refl

      by_stale : (b : Bool) (o : Option (Version × Node)) → dirty_as b (is_stripped doc.settings.rules.first_sight k q name h || mode q h) o ≡ false
          → clean_seen doc k q name b o h ≡ h
      by_stale true o quiet = refl
      by_stale false None quiet = refl
      by_stale false (Some x) quiet = by_wants x.0 x.1 (wants_clean name x.1 h) quiet

  -- one that is to be is seen, and adds one entry
  pub clean_adds : (name : ℕ) (h : List Entry) (x : Version × Node) → is_to_clean doc k q name h ≡ true → seen_node q name h ≡ Some x
      → clean doc k q name h ≡ add k q (cleaning doc k q name x.0 x.1 (wants_clean name x.1 h) (try_node q name x.0 h)) h
  clean_adds name h x busy sees =
      let strips = is_stripped doc.settings.rules.first_sight k q name h in
      ap (λ o. clean_seen doc k q name (is_stale q (node_key name) h) o h) sees
      ∙ by_stale (is_stale q (node_key name) h) (subst (λ o. dirty_as (is_stale q (node_key name) h) (strips || mode q h) o ≡ true) sees busy)
    where
      by_wants : (w : Wants) → cleans w x.1 ≡ true → clean_as doc k q name x.0 x.1 w h ≡ add k q (cleaning doc k q name x.0 x.1 w (try_node q name x.0 h)) h
      by_wants Nothing busy = ap (λ b. (if b then add_untaint k q name x.0 x.1 h else h)) busy
      by_wants (Wanted wanted) busy = ap (λ b. (if b then add_swap doc k q name x.0 x.1 wanted h else h)) busy
      by_wants Whatever busy = absurd (false_is busy)

      by_stale : (b : Bool) → dirty_as b (is_stripped doc.settings.rules.first_sight k q name h || mode q h) (Some x) ≡ true
          → clean_seen doc k q name b (Some x) h ≡ add k q (cleaning doc k q name x.0 x.1 (wants_clean name x.1 h) (try_node q name x.0 h)) h
      by_stale true busy = absurd (false_is busy)
      by_stale false busy = by_wants (wants_clean name x.1 h) busy

  pub cleaning_is : (name : ℕ) (given : Version) (node : Node) (w : Wants) (a : Option Answer) → IsCleaningOn name (cleaned_node doc k q node w) a (cleaning doc k q name given node w a)
  cleaning_is name given node Nothing a = untaint_is name given (cleaned_node doc k q node Nothing) a
  cleaning_is name given node (Wanted wanted) a = swap_is name wanted given (cleaned_node doc k q node (Wanted wanted)) a
  cleaning_is name given node Whatever a = untaint_is name given (cleaned_node doc k q node Whatever) a

  -- a clean leaves the history, or adds one such entry
  pub clean_either : (name : ℕ) (h : List Entry) (P : List Entry → Type 0) → P h
      → ((t : Tick) (written : Node) (a : Option Answer) → IsCleaningOn name written a t → IsGiven (next_version h) a → P (add k q t h)) → P (clean doc k q name h)
  clean_either name h P same more = by_busy (is_to_clean doc k q name h) refl
    where
      by_busy : (b : Bool) → is_to_clean doc k q name h ≡ b → P (clean doc k q name h)
      by_busy false is = subst P (sym (clean_idle name h is)) same
      by_busy true is =
          let found = to_clean_seen name h is in
          let x = found.0 in
          let w = wants_clean name x.1 h in
          let a = try_node q name x.0 h in
          subst P (sym (clean_adds name h x is found.1)) (more (cleaning doc k q name x.0 x.1 w a) (cleaned_node doc k q x.1 w) a (cleaning_is name x.0 x.1 w a) (given_node q name x.0 h))

  -- and the others are judged as before
  pub clean_others : (name : ℕ) (h : List Entry) (m : ℕ) → (name == m) ≡ false → is_dirty q m (clean doc k q name h) ≡ is_dirty q m h
  clean_others name h m apart =
      clean_either name h (λ g. is_dirty q m g ≡ is_dirty q m h) refl
      (λ t written a is given. tried_dirty q h (add k q t h) name written a (cleaning_change q k h name written a t is given) m apart)

  -- ---- the walk over those that are to be cleaned; h is the history at the phase's start, and now the one that is reached

  pub clean_next : (c : Option ℕ) (n : ℕ) (h now : List Entry) → is_after nat_cmp c n ≡ true → Among n (node_names h)
      → ((m : ℕ) → is_after nat_cmp c m ≡ true → nat_cmp m n ≡ Less → is_to_clean doc k q m now ≡ false)
      → for_each (clean doc k q) (after nat_cmp c (node_names h)) now ≡ for_each (clean doc k q) (after nat_cmp (Some n) (node_names h)) (clean doc k q n now)
  clean_next c n h now later there idle =
      walk_next nat_cmp names_strict (clean doc k q) c n (node_names h) now later (node_names_ascend h) there (λ m after_c below. clean_idle m now (idle m after_c below))

  pub clean_end : (c : Option ℕ) (h now : List Entry) → ((m : ℕ) → is_after nat_cmp c m ≡ true → is_to_clean doc k q m now ≡ false)
      → for_each (clean doc k q) (after nat_cmp c (node_names h)) now ≡ now
  clean_end c h now idle = walk_end nat_cmp names_strict (clean doc k q) c (node_names h) now (node_names_ascend h) (λ m after_c. clean_idle m now (idle m after_c))
