-- Untainting or swapping one node.
use Rattle.std.proofs.Common.{◌≡◌, ◌∙◌, ◌&&◌, ◌||◌, ℕ, Bool, true, false, List, Option, Some, None, refl, sym, ap, subst}
use Rattle.kube_base.specs.declared.numbers.Version.{Version}
use Rattle.kube_objects.specs.declared.call.Answer.{Answer}
use Rattle.kube_objects.specs.declared.node.Node.{Node}
use Rattle.kube_objects.specs.Document.{Doc}
use Rattle.kube_objects.specs.Entry.{Entry, Identity}
use Rattle.kube_objects.specs.Modes.{mode}
use Rattle.kube_objects.specs.Newest.{has}
use Rattle.kube_objects.specs.Seen.{is_stale, seen_node}
use Rattle.kube_objects.specs.Tainting.{Wants, Nothing, Wanted, Whatever, has_condition, wants}
use Rattle.kube_objects.specs.Tick.{add, add_untaint, clean, clean_as, clean_seen, is_stripped}
use Rattle.std.specs.Prelude.{if◌then◌else◌}
use Rattle.std.proofs.Math.Bool.{and-true}
use Rattle.kube_objects.specs.Stored.{node_key}
use Rattle.kube_objects.specs.Tries.{try_node}
use Rattle.history_laws.proofs.Plainly.{none_is}
use Rattle.tick_laws.specs.Changes.{IsCleaningOn, cleaned_node, cleaning}
use Rattle.tick_laws.specs.Judged.{is_dirty}
use Rattle.tick_laws.proofs.Cleaning.{clean_adds, cleaning_is, dirty_seen, to_clean_kept}
use Rattle.term_state.specs.declared.writes.NodeWrite.{NodeWrite}
use Rattle.term_state.specs.Writes.{IsWrite}
use Rattle.controller_core.specs.Cleaning.{write_for}
use Rattle.controller_core.specs.Trying.{AddsTry}

-- a node that is to be cleaned is seen
pub unseen : (q : Identity) (name : ℕ) (h : List Entry) → is_dirty q name h ≡ true → None ≡ seen_node q name h → ⊥
unseen q name h dirty none =
    let seen = dirty_seen q name h dirty in
    none_is seen.0 (none ∙ seen.1)

-- the entry of a clean is such a write
cleaning_write : (doc : Doc) (k : ℕ) (q : Identity) (name : ℕ) (given : Version) (node : Node) (w : Wants) (written : Node) (a : Option Answer) → written ≡ cleaned_node doc k q node w
    → IsWrite (write_for w) name written a (cleaning doc k q name given node w a)
cleaning_write doc k q name given node w written a is =
    by_wants w (subst (λ n. IsCleaningOn name n a (cleaning doc k q name given node w a)) (sym is) (cleaning_is doc k q name given node w a))
  where
    by_wants : (w : Wants) → IsCleaningOn name written a (cleaning doc k q name given node w a) → IsWrite (write_for w) name written a (cleaning doc k q name given node w a)
    by_wants Nothing s = record { try = s.try; stale = s.stale; act = refl }
    by_wants (Wanted wanted) s = record { try = s.try; stale = s.stale; act = refl }
    by_wants Whatever s = record { try = s.try; stale = s.stale; act = refl }

-- the try of a clean
pub cleans_by : (doc : Doc) (k : ℕ) (q : Identity) (name : ℕ) (h : List Entry) (given : Version) (node written : Node) (on : Bool) (w : Wants) (kind : NodeWrite) → is_dirty q name h ≡ true
    → is_stripped doc.settings.rules.first_sight k q name h ≡ false
    → Some (given, node) ≡ seen_node q name h → on ≡ mode q h → w ≡ wants on node → written ≡ cleaned_node doc k q node w → kind ≡ write_for w
    → AddsTry k q h (clean doc k q name h) (record { name = name; given = given; written = written; write = kind })
cleans_by doc k q name h given node written on w kind dirty kept sees on_is wants_is written_is kind_is =
    let a = try_node q name given h in
    record {
      tick = cleaning doc k q name given node w a;
      adds = ap (λ w. add k q (cleaning doc k q name given node w a) h) (wants_is ∙ ap (λ b. wants b node) (on_is ∙ sym (ap (λ b. b || mode q h) kept)))
          ∙ sym (clean_adds doc k q name h (given, node) (to_clean_kept doc k q name h kept ∙ dirty) (sym sees));
      write = subst (λ x. IsWrite x name written a (cleaning doc k q name given node w a)) (sym kind_is) (cleaning_write doc k q name given node w written a written_is);
      seen = ap has (sym sees);
    }

-- a node that is stripped is untainted where it has a condition taint, and else nothing is done
pub strips_by : (doc : Doc) (k : ℕ) (q : Identity) (name : ℕ) (h : List Entry) (x : Version × Node) → is_stripped doc.settings.rules.first_sight k q name h ≡ true
    → is_stale q (node_key name) h ≡ false → seen_node q name h ≡ Some x → clean doc k q name h ≡ (if has_condition x.1 && true then add_untaint k q name x.0 x.1 h else h)
strips_by doc k q name h x strips fresh sees =
    (λ i. clean_seen doc k q name (fresh i) (sees i) h)
    ∙ ap (λ b. clean_as doc k q name x.0 x.1 (wants (b || mode q h) x.1) h) strips
    ∙ ap (λ b. (if b then add_untaint k q name x.0 x.1 h else h)) (sym (and-true (has_condition x.1)))

-- one that is stale, or isn't seen, isn't cleaned
pub stale_is : (doc : Doc) (k : ℕ) (q : Identity) (name : ℕ) (h : List Entry) → is_stale q (node_key name) h ≡ true → clean doc k q name h ≡ h
stale_is doc k q name h stale = ap (λ b. clean_seen doc k q name b (seen_node q name h) h) stale

pub unseen_is : (doc : Doc) (k : ℕ) (q : Identity) (name : ℕ) (h : List Entry) → None ≡ seen_node q name h → clean doc k q name h ≡ h
unseen_is doc k q name h none = ap (λ o. clean_seen doc k q name (is_stale q (node_key name) h) o h) (sym none) ∙ by_stale (is_stale q (node_key name) h)
  where
    by_stale : (b : Bool) → clean_seen doc k q name b None h ≡ h
    by_stale true = refl
    by_stale false = refl
