-- The walk over the nodes that are to be untainted or swapped.
use Rattle.std.proofs.Common.{◌≡◌, ◌∙◌, ℕ, ◌<◌, ◌==◌, true, false, List, Option, Some, None, refl, sym, ap, arith, Less}
use Rattle.std.proofs.lemmas.Bool.Decides.{nat_tests}
use Rattle.std.specs.Ordering.{nat_cmp}
use Rattle.kube_objects.specs.declared.deed.Deed.{Deed}
use Rattle.kube_objects.specs.declared.rules.JudgeRule.TheVariants as judges
use Rattle.kube_objects.specs.Document.{Doc}
use Rattle.kube_objects.specs.Entry.{Entry, Identity}
use Rattle.kube_objects.specs.Seen.{node_names}
use Rattle.kube_objects.specs.Tick.{clean, cleaned, cleaned_by, for_each}
use Rattle.object_store.specs.declared.store.Store.{Store}
use Rattle.tick_laws.specs.Judged.{is_dirty, is_to_clean}
use Rattle.tick_laws.specs.Walks.{Among, after, is_after}
use Rattle.tick_laws.proofs.Cleaning.{clean_end, clean_next, clean_others, dirty_seen}
use Rattle.tick_laws.proofs.Named.{node_is_named}
use Rattle.tick_laws.proofs.Orders.{names_strict}
use Rattle.tick_laws.proofs.Walks.{after_none}
use Rattle.term_state.specs.declared.cluster.Cluster.{Cluster}
use Rattle.term_state.specs.declared.told.Told.{Told}
use Rattle.term_state.specs.declared.view.View.{View}
use Rattle.term_state.specs.Queues.{ComesAfter, IsNextAfter}
use Rattle.term_state.specs.MidTick.{IsView, MidTick}
use Rattle.term_state.proofs.Viewing.{view_ticked}
use Rattle.controller_core.specs.Cleaning.{AreKept}
use Rattle.controller_core.proofs.Cleaning.Keeping.{clean_keeps, kept_dirty, kept_more}
use Rattle.controller_core.proofs.Cursors.{after_is, comes_later, is_later}

less_is : (m n : ℕ) → nat_cmp m n ≡ Less → m < n
less_is m n is = grind (arith, nat_tests)

apart_is : (n m : ℕ) → n < m → (n == m) ≡ false
apart_is n m less = grind (arith, nat_tests)

-- h is the history at the start, now the one that is reached, and c the name that the walk is at
pub record Walking (doc : Doc) (k : ℕ) (q : Identity) (before : List Deed) (h now : List Entry) (c : Option ℕ) (t : Cluster) (s : Store) (v : View) (told : Told) : Type 0 where
  pub kept : AreKept doc k q now
  pub running : MidTick doc q k before now t s told
  pub view : IsView doc k q now v
  pub follows : for_each (clean doc k q) (after nat_cmp c (node_names h)) now ≡ cleaned doc k q h
  pub untouched : (m : ℕ) → ComesAfter c m → is_dirty q m now ≡ is_dirty q m h

pub begin_walk : (doc : Doc) (k : ℕ) (q : Identity) (before : List Deed) (h : List Entry) (t : Cluster) (s : Store) (v : View) (told : Told) → doc.settings.rules.judge ≡ judges.Tick → AreKept doc k q h
    → MidTick doc q k before h t s told → IsView doc k q h v
    → Walking doc k q before h h None t s v told
begin_walk doc k q before h t s v told at_ticks kept r view =
    record {
      kept = kept;
      running = r;
      view = view;
      follows = ap (λ names. for_each (clean doc k q) names h) (after_none nat_cmp names_strict (node_names h)) ∙ sym (ap (λ rule. cleaned_by rule doc k q h) at_ticks);
      untouched = λ m later. refl;
    }

pub next_dirty : (q : Identity) (now : List Entry) (c : Option ℕ) (n : ℕ) → IsNextAfter (λ n. is_dirty q n now) c (Some n) → is_dirty q n now ≡ true
next_dirty q now c n (later, dirty, none) = dirty

pub next_walk : (doc : Doc) (k : ℕ) (q : Identity) (before : List Deed) (h now : List Entry) (c : Option ℕ) (n : ℕ) (t u : Cluster) (s z : Store) (v : View) (told more : Told)
    → Walking doc k q before h now c t s v told → IsNextAfter (λ n. is_dirty q n now) c (Some n) → MidTick doc q k before (clean doc k q n now) u z more
    → Walking doc k q before h (clean doc k q n now) (Some n) u z v more
next_walk doc k q before h now c n t u s z v told more w (later, dirty, none) r =
    record {
      kept = kept_more doc k q n now w.kept;
      running = r;
      view = view_ticked doc k q now (clean doc k q n now) v (clean_keeps doc k q n now).ticked w.view;
      follows = sym (clean_next doc k q c n h now (after_is c n later) named idle) ∙ w.follows;
      untouched = λ m less. clean_others doc k q n now m (apart_is n m less) ∙ w.untouched m (comes_later c n m later less);
    }
  where
    named : Among n (node_names h)
    named =
        let seen = dirty_seen q n h (sym (w.untouched n later) ∙ dirty) in
        node_is_named q n h seen.0 seen.1

    idle : (m : ℕ) → is_after nat_cmp c m ≡ true → nat_cmp m n ≡ Less → is_to_clean doc k q m now ≡ false
    idle m after_c below = kept_dirty doc k q now w.kept m ∙ none m (is_later c m after_c) (less_is m n below)

-- none that is to be cleaned is left
pub end_walk : (doc : Doc) (k : ℕ) (q : Identity) (before : List Deed) (h now : List Entry) (c : Option ℕ) (t : Cluster) (s : Store) (v : View) (told : Told)
    → Walking doc k q before h now c t s v told → IsNextAfter (λ n. is_dirty q n now) c None → now ≡ cleaned doc k q h
end_walk doc k q before h now c t s v told w none = sym (clean_end doc k q c h now (λ m after_c. kept_dirty doc k q now w.kept m ∙ none m (is_later c m after_c))) ∙ w.follows
