-- A node leaves: its place and the last slot were taken out.
use Rattle.std.proofs.Common.{◌≡◌, ◌≢◌, ℕ, ◌==◌, ◌<◌, [], ◌∷◌, ◌++◌, Some, None, cond, length, set, ap, sym, ◌∙◌, subst}
use Rattle.std.specs.BTreeMap.{BTreeMap, Updates}
use Rattle.std.specs.Ordering.{nat_cmp}
use Rattle.std.specs.Prelude.{IsSome}
use Rattle.taint_queue.specs.Placed.{beat_at, place, HasItsNode, IsKept}
use Rattle.taint_queue.specs.Queue.{waits_since}
use Rattle.taint_queue.specs.Slots.{slots}
use Rattle.taint_queue.specs.declared.queue.Queue.{Queue}
use Rattle.taint_queue.specs.declared.tournament.Tournament.{Tournament}
use Rattle.taint_queue.specs.declared.waiting.Waiting.{Waiting}
use Rattle.taint_queue.proofs.Places.{filled_beat, filled_kept, filled_known, last_known, left_beat, left_kept, left_known, left_slot, placed_so}

module _ (old : Queue) (places : BTreeMap ℕ ℕ) (tree : Tournament) (node slot : ℕ) (last : Waiting) (here : place old.places node ≡ Some slot)
    (taken : Updates nat_cmp old.places places node None) (popped : slots old.tree ≡ slots tree ++ last ∷ []) where
  known : HasItsNode (place old.places) (slots tree ++ last ∷ [])
  known = subst (HasItsNode (place old.places)) popped old.has_its_node

  kept : IsKept (place old.places) (slots tree ++ last ∷ [])
  kept = subst (IsKept (place old.places)) popped old.is_kept

  gone : (q : ℕ) → place places q ≡ cond (node == q) None (place old.places q)
  gone = placed_so old.places places node None taken

  as_before : (q : ℕ) → cond (node == q) None (beat_at (place old.places) (slots tree ++ last ∷ []) q) ≡ cond (node == q) None (waits_since old q)
  as_before q = ap (λ xs. cond (node == q) None (beat_at (place old.places) xs q)) (sym popped)

  pub last_has_its_place : last.node ≢ node → IsSome (place places last.node)
  last_has_its_place = last_known (place old.places) (place places) (slots tree) last node kept gone

  pub own_slot_is_left : last.node ≢ node → slot < length (slots tree)
  own_slot_is_left = left_slot (place old.places) (place places) (slots tree) last node slot known kept here gone

  -- the last slot was the node's own
  module _ (mine : last.node ≡ node) where
    pub own_known : HasItsNode (place places) (slots tree)
    own_known = left_known (place old.places) (place places) (slots tree) last node slot known kept here gone mine

    pub own_kept : IsKept (place places) (slots tree)
    own_kept = left_kept (place old.places) (place places) (slots tree) last node slot known kept here gone mine

    pub own_beats : (q : ℕ) → beat_at (place places) (slots tree) q ≡ cond (node == q) None (waits_since old q)
    own_beats q = left_beat (place old.places) (place places) (slots tree) last node slot known kept here gone mine q ∙ as_before q

  -- the last slot's node fills the node's own
  module _ (other : last.node ≢ node) (filled : BTreeMap ℕ ℕ) (full : Tournament)
      (moved : (q : ℕ) → place filled q ≡ cond (last.node == q) (Some slot) (place places q)) (put : slots full ≡ set (slots tree) slot last) where
    pub other_known : HasItsNode (place filled) (slots full)
    other_known = subst (HasItsNode (place filled)) (sym put)
        (filled_known (place old.places) (place places) (slots tree) last node slot known kept here gone (place filled) other moved)

    pub other_kept : IsKept (place filled) (slots full)
    other_kept = subst (IsKept (place filled)) (sym put)
        (filled_kept (place old.places) (place places) (slots tree) last node slot known kept here gone (place filled) other moved)

    pub other_beats : (q : ℕ) → beat_at (place filled) (slots full) q ≡ cond (node == q) None (waits_since old q)
    other_beats q =
        ap (λ xs. beat_at (place filled) xs q) put
        ∙ filled_beat (place old.places) (place places) (slots tree) last node slot known kept here gone (place filled) other moved q
        ∙ as_before q
