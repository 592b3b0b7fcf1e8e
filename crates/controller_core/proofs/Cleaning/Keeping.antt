-- What an untaint or a swap of one node keeps, and who is stripped.
use Rattle.std.proofs.Common.{◌≡◌, ◌∙◌, ◌&&◌, ◌||◌, not, ℕ, Bool, true, false, List, Option, Some, None, refl, sym, ap, subst}
use Rattle.kube_base.specs.declared.numbers.Version.{Version}
use Rattle.kube_objects.specs.declared.node.Node.{Node}
use Rattle.kube_objects.specs.declared.rules.SightRule.{SightRule}
use Rattle.kube_objects.specs.declared.rules.SightRule.TheVariants.{Keep, Strip}
use Rattle.kube_objects.specs.Document.{Doc}
use Rattle.kube_objects.specs.Entry.{Entry, Identity}
use Rattle.kube_objects.specs.Health.{is_known, is_pass_tick, before_pass}
use Rattle.kube_objects.specs.Modes.{mode}
use Rattle.kube_objects.specs.Newest.{has}
use Rattle.kube_objects.specs.Seen.{is_stale, seen_node}
use Rattle.kube_objects.specs.Stored.{node_key}
use Rattle.kube_objects.specs.Tainting.{Wants, Nothing, Wanted, Whatever}
use Rattle.kube_objects.specs.Tick.{add, clean, is_stripped, new_taint, swapped, untainted}
use Rattle.kube_objects.specs.Tries.{try_node}
use Rattle.history_laws.proofs.Plainly.{false_is}
use Rattle.tick_laws.specs.Changes.{cleaning}
use Rattle.tick_laws.specs.Judged.{dirty_as, is_dirty, is_to_clean}
use Rattle.tick_laws.proofs.Cleaning.{clean_adds, clean_idle, to_clean_kept, to_clean_seen, wants_clean}
use Rattle.controller_core.specs.Cleaning.{AreKept}
use Rattle.controller_core.proofs.Judgement.Steps.{KeepsAll, all_same, swap_keeps, untaint_keeps}

module _ (doc : Doc) (k : ℕ) (q : Identity) where
  pub clean_keeps : (name : ℕ) (h : List Entry) → KeepsAll doc q k name h (clean doc k q name h)
  clean_keeps name h = by_busy (is_to_clean doc k q name h) refl
    where
      by_wants : (x : Version × Node) → has (seen_node q name h) ≡ true → (w : Wants) → KeepsAll doc q k name h (add k q (cleaning doc k q name x.0 x.1 w (try_node q name x.0 h)) h)
      by_wants x there Nothing = untaint_keeps doc q k name h x.0 (untainted x.1) there
      by_wants x there (Wanted wanted) = swap_keeps doc q k name h x.0 (swapped (new_taint doc k q wanted) x.1) there wanted
      by_wants x there Whatever = untaint_keeps doc q k name h x.0 (untainted x.1) there

      by_busy : (b : Bool) → is_to_clean doc k q name h ≡ b → KeepsAll doc q k name h (clean doc k q name h)
      by_busy false is = subst (KeepsAll doc q k name h) (sym (clean_idle doc k q name h is)) (all_same doc q k name h)
      by_busy true is =
          let found = to_clean_seen doc k q name h is in
          subst (KeepsAll doc q k name h) (sym (clean_adds doc k q name h found.0 is found.1)) (by_wants found.0 (ap has found.1) (wants_clean doc k q name found.0.1 h))

  -- no node that is seen is stripped: who is to be cleaned is who is dirty
  pub kept_dirty : (h : List Entry) → AreKept doc k q h → (n : ℕ) → is_to_clean doc k q n h ≡ is_dirty q n h
  kept_dirty h kept n = by_seen (seen_node q n h) refl
    where
      by_none : (stale a b : Bool) → dirty_as stale a None ≡ dirty_as stale b None
      by_none true a b = refl
      by_none false a b = refl

      by_seen : (o : Option (Version × Node)) → seen_node q n h ≡ o → is_to_clean doc k q n h ≡ is_dirty q n h
      by_seen None sees =
          ap (dirty_as (is_stale q (node_key n) h) _) sees ∙ by_none (is_stale q (node_key n) h) _ _ ∙ sym (ap (dirty_as (is_stale q (node_key n) h) _) sees)
      by_seen (Some x) sees = to_clean_kept doc k q n h (kept n (ap has sees))

  -- a clean leaves it so
  pub kept_more : (name : ℕ) (h : List Entry) → AreKept doc k q h → AreKept doc k q (clean doc k q name h)
  kept_more name h kept n there =
      let s = clean_keeps name h in
      s.stripped n ∙ kept n (sym (s.seen n) ∙ there)

  -- a node that isn't seen isn't cleaned
  pub clean_unseen : (name : ℕ) (h : List Entry) → has (seen_node q name h) ≡ false → clean doc k q name h ≡ h
  clean_unseen name h none = clean_idle doc k q name h (by_seen (is_stale q (node_key name) h) (seen_node q name h) none)
    where
      by_seen : (stale : Bool) (o : Option (Version × Node)) → has o ≡ false → dirty_as stale (is_stripped doc.settings.rules.first_sight k q name h || mode q h) o ≡ false
      by_seen true o none = refl
      by_seen false None none = refl
      by_seen false (Some x) none = absurd (false_is (sym none))

-- in a tick without a pass no node is
pub kept_between : (doc : Doc) (k : ℕ) (q : Identity) (h : List Entry) → is_pass_tick k q h ≡ false → AreKept doc k q h
kept_between doc k q h between n there = by_rule doc.settings.rules.first_sight
  where
    by_rule : (r : SightRule) → is_stripped r k q n h ≡ false
    by_rule Keep = refl
    by_rule Strip = ap (λ b. b && not (is_known q n (before_pass q h))) between
