-- The slots of the waiting nodes, through the changes of a queue.
use Rattle.std.proofs.Common.{◌≡◌, ◌≢◌, ℕ, ◌<◌, ◌≤◌, ◌==◌, true, false, cond, List, [], ◌∷◌, ◌++◌, Option, Some, None, length, length-append, set, refl, ap, sym, ◌∙◌, subst, arith, ◌⊎◌, inl, inr}
use Rattle.std.proofs.lemmas.Bool.{cases_eq, cases_lt}
use Rattle.std.proofs.lemmas.Bool.Decides.{nat_tests}
use Rattle.std.proofs.lemmas.Option.{slice_get_within}
use Rattle.std.specs.List.{slice_get}
use Rattle.std.specs.Prelude.{option_and_then, unwrap_or, is_some, IsSome, MatchOption}
use Rattle.std.specs.Map.{lookup}
use Rattle.std.specs.BTreeMap.{is_at, BTreeMap, Updates}
use Rattle.std.specs.Option.{option_map}
use Rattle.std.specs.Ordering.{is_eq, nat_cmp}
use Rattle.kube_base.specs.declared.numbers.Beat.{Beat}
use Rattle.kube_base.proofs.Lists.{get-end, get-set_other, get-set_same}
use Rattle.taint_queue.specs.Placed.{beat_at, beat_of, node_of, place, HasItsNode, IsKept}
use Rattle.taint_queue.specs.declared.waiting.Waiting.{Waiting}
use Rattle.taint_queue.proofs.Slots.{front_same}

same_test : (a b : ℕ) → is_eq (nat_cmp a b) ≡ (a == b)
same_test a b = grind (arith, nat_tests)

-- the map's own clause
pub placed_so : (m n : BTreeMap ℕ ℕ) (node : ℕ) (w : Option ℕ) → Updates nat_cmp m n node w → (q : ℕ) → place n q ≡ cond (node == q) w (place m q)
placed_so m n node w u q = u.0 q ∙ ap (λ b. cond b w (place m q)) (same_test node q)

at_itself : (a : ℕ) {X : Type 0} (x y : X) → cond (a == a) x y ≡ x
at_itself a x y = ap (λ b. cond b x y) (itself a)
  where
    itself : (a : ℕ) → (a == a) ≡ true
    itself a = grind (arith, nat_tests)

at_other : (a b : ℕ) {X : Type 0} (x y : X) → a ≢ b → cond (a == b) x y ≡ y
at_other a b x y ne = ap (λ t. cond t x y) (apart a b ne)
  where
    apart : (a b : ℕ) → a ≢ b → (a == b) ≡ false
    apart a b ne = grind (arith, nat_tests)

inner : (a b : ℕ) → Some a ≡ Some b → a ≡ b
inner a b e = cc

-- a slot whose node is known is a slot
is_slot : (xs : List Waiting) (s q : ℕ) → node_of (slice_get xs s) ≡ Some q → s < length xs
is_slot xs s q e = by_entry (slice_get xs s) refl e
  where
    by_entry : (o : Option Waiting) → slice_get xs s ≡ o → node_of o ≡ Some q → s < length xs
    by_entry None is e = cc
    by_entry (Some w) is e = slice_get_within xs s w is

pub slot_within : (P : ℕ → Option ℕ) (xs : List Waiting) → HasItsNode P xs → (node slot : ℕ) → P node ≡ Some slot → slot < length xs
slot_within P xs known node slot e = is_slot xs slot node (known node slot e)

-- two nodes with one slot are one
one_node : (P : ℕ → Option ℕ) (xs : List Waiting) → HasItsNode P xs → (a b slot : ℕ) → P a ≡ Some slot → P b ≡ Some slot → a ≡ b
one_node P xs known a b slot e f = inner a b (sym (known a slot e) ∙ known b slot f)

-- a beat is read at the slot
beat_by : (P Q : ℕ → Option ℕ) (xs ys : List Waiting) (q : ℕ) → Q q ≡ P q → ((s : ℕ) → P q ≡ Some s → slice_get ys s ≡ slice_get xs s) → beat_at Q ys q ≡ beat_at P xs q
beat_by P Q xs ys q e same = ap (option_and_then (λ s. beat_of (slice_get ys s))) e ∙ by_place (P q) (λ s f. same s f)
  where
    by_place : (o : Option ℕ) → ((s : ℕ) → o ≡ Some s → slice_get ys s ≡ slice_get xs s) → option_and_then (λ s. beat_of (slice_get ys s)) o ≡ option_and_then (λ s. beat_of (slice_get xs s)) o
    by_place None f = refl
    by_place (Some s) f = ap beat_of (f s refl)

-- ---- a node is given a new beat in its slot
module _ (P : ℕ → Option ℕ) (xs : List Waiting) (node slot : ℕ) (w : Waiting) (known : HasItsNode P xs) (kept : IsKept P xs) (here : P node ≡ Some slot) (mine : w.node ≡ node) where
  pub moved_known : HasItsNode P (set xs slot w)
  moved_known q s e = by_slot (cases_eq s slot)
    where
      by_slot : (s ≡ slot) ⊎ (s ≢ slot) → node_of (slice_get (set xs slot w) s) ≡ Some q
      by_slot (inl f) =
          ap (λ k. node_of (slice_get (set xs slot w) k)) f ∙ ap node_of (get-set_same xs slot w (slot_within P xs known node slot here)) ∙ ap Some (mine ∙ one_node P xs known node q slot here (e ∙ ap Some f))
      by_slot (inr ne) = ap node_of (get-set_other xs slot s w ne) ∙ known q s e

  pub moved_kept : IsKept P (set xs slot w)
  moved_kept s entry e = by_slot (cases_eq s slot)
    where
      by_slot : (s ≡ slot) ⊎ (s ≢ slot) → P entry.node ≡ Some s
      by_slot (inl f) =
          let is : Some w ≡ Some entry = sym (get-set_same xs slot w (slot_within P xs known node slot here)) ∙ ap (slice_get (set xs slot w)) (sym f) ∙ e in
          let same : w.node ≡ entry.node = ap_node is in
          ap P (sym same ∙ mine) ∙ here ∙ ap Some (sym f)
        where
          ap_node : Some w ≡ Some entry → w.node ≡ entry.node
          ap_node e = inner w.node entry.node (ap node_of e)
      by_slot (inr ne) = kept s entry (sym (get-set_other xs slot s w ne) ∙ e)

  pub moved_beat : (q : ℕ) → beat_at P (set xs slot w) q ≡ cond (node == q) (Some w.at) (beat_at P xs q)
  moved_beat q = by_node (cases_eq node q)
    where
      by_node : (node ≡ q) ⊎ (node ≢ q) → beat_at P (set xs slot w) q ≡ cond (node == q) (Some w.at) (beat_at P xs q)
      by_node (inl e) =
          subst (λ k. beat_at P (set xs slot w) k ≡ cond (node == k) (Some w.at) (beat_at P xs k)) e
          (ap (option_and_then (λ s. beat_of (slice_get (set xs slot w) s))) here ∙ ap beat_of (get-set_same xs slot w (slot_within P xs known node slot here)) ∙ sym (at_itself node (Some w.at) (beat_at P xs node)))
      by_node (inr ne) =
          beat_by P P xs (set xs slot w) q refl (λ s e. get-set_other xs slot s w (λ f. ne (one_node P xs known node q slot here (e ∙ ap Some f))))
          ∙ sym (at_other node q (Some w.at) (beat_at P xs q) ne)

-- a node with a slot waits
pub held_beat : (P : ℕ → Option ℕ) (xs : List Waiting) → HasItsNode P xs → (node slot : ℕ) (at : Beat) → P node ≡ Some slot → option_map (λ (b : Beat). at) (beat_at P xs node) ≡ Some at
held_beat P xs known node slot at here =
    ap (λ o. option_map (λ (b : Beat). at) (option_and_then (λ s. beat_of (slice_get xs s)) o)) here ∙ by_entry (slice_get xs slot) (known node slot here)
  where
    by_entry : (o : Option Waiting) → node_of o ≡ Some node → option_map (λ (b : Beat). at) (beat_of o) ≡ Some at
    by_entry None e = cc
    by_entry (Some w) e = refl

-- ---- a node gets a slot at the end
module _ (P Q : ℕ → Option ℕ) (xs : List Waiting) (node : ℕ) (w : Waiting) (known : HasItsNode P xs) (kept : IsKept P xs) (absent : P node ≡ None) (mine : w.node ≡ node)
    (set_so : (q : ℕ) → Q q ≡ cond (node == q) (Some (length xs)) (P q)) where
  old_slot : (q s : ℕ) → P q ≡ Some s → slice_get (xs ++ w ∷ []) s ≡ slice_get xs s
  old_slot q s e = front_same xs (w ∷ []) s (slot_within P xs known q s e)

  pub added_known : HasItsNode Q (xs ++ w ∷ [])
  added_known q s e = by_node (cases_eq node q)
    where
      by_node : (node ≡ q) ⊎ (node ≢ q) → node_of (slice_get (xs ++ w ∷ []) s) ≡ Some q
      by_node (inl f) =
          let is : Some (length xs) ≡ Some s = sym (set_so q ∙ ap (λ k. cond (node == k) (Some (length xs)) (P q)) (sym f) ∙ at_itself node (Some (length xs)) (P q)) ∙ e in
          ap (λ k. node_of (slice_get (xs ++ w ∷ []) k)) (sym (inner (length xs) s is)) ∙ ap node_of (get-end xs w) ∙ ap Some (mine ∙ f)
      by_node (inr ne) =
          let old : P q ≡ Some s = sym (set_so q ∙ at_other node q (Some (length xs)) (P q) ne) ∙ e in
          ap node_of (old_slot q s old) ∙ known q s old

  pub added_kept : IsKept Q (xs ++ w ∷ [])
  added_kept s entry e = by_slot (cases_lt s (length xs))
    where
      by_slot : (s < length xs) ⊎ (length xs ≤ s) → Q entry.node ≡ Some s
      by_slot (inl h) =
          let old : P entry.node ≡ Some s = kept s entry (sym (front_same xs (w ∷ []) s h) ∙ e) in
          set_so entry.node ∙ at_other node entry.node (Some (length xs)) (P entry.node) (λ f. none_some (ap P f ∙ old)) ∙ old
        where
          none_some : P node ≡ Some s → ⊥
          none_some f = cc
      by_slot (inr h) =
          let here : s ≡ length xs = omega (arith, h, slice_get_within (xs ++ w ∷ []) s entry e, length-append xs (w ∷ [])) in
          let is : Some w ≡ Some entry = sym (get-end xs w) ∙ ap (slice_get (xs ++ w ∷ [])) (sym here) ∙ e in
          let same : node ≡ entry.node = sym mine ∙ inner w.node entry.node (ap node_of is) in
          set_so entry.node ∙ ap (λ k. cond (node == k) (Some (length xs)) (P entry.node)) (sym same) ∙ at_itself node (Some (length xs)) (P entry.node) ∙ ap Some (sym here)

  pub added_beat : (q : ℕ) → beat_at Q (xs ++ w ∷ []) q ≡ cond (node == q) (Some w.at) (beat_at P xs q)
  added_beat q = by_node (cases_eq node q)
    where
      by_node : (node ≡ q) ⊎ (node ≢ q) → beat_at Q (xs ++ w ∷ []) q ≡ cond (node == q) (Some w.at) (beat_at P xs q)
      by_node (inl e) =
          subst (λ k. beat_at Q (xs ++ w ∷ []) k ≡ cond (node == k) (Some w.at) (beat_at P xs k)) e
          (ap (option_and_then (λ s. beat_of (slice_get (xs ++ w ∷ []) s))) (set_so node ∙ at_itself node (Some (length xs)) (P node)) ∙ ap beat_of (get-end xs w) ∙ sym (at_itself node (Some w.at) (beat_at P xs node)))
      by_node (inr ne) =
          beat_by P Q xs (xs ++ w ∷ []) q (set_so q ∙ at_other node q (Some (length xs)) (P q) ne) (λ s e. old_slot q s e)
          ∙ sym (at_other node q (Some w.at) (beat_at P xs q) ne)

-- ---- places that are as they were
pub same_known : (P Q : ℕ → Option ℕ) (xs : List Waiting) → ((q : ℕ) → Q q ≡ P q) → HasItsNode P xs → HasItsNode Q xs
same_known P Q xs same known q s e = known q s (sym (same q) ∙ e)

pub same_kept : (P Q : ℕ → Option ℕ) (xs : List Waiting) → ((q : ℕ) → Q q ≡ P q) → IsKept P xs → IsKept Q xs
same_kept P Q xs same kept s entry e = same entry.node ∙ kept s entry e

pub unchanged_places : (m n : BTreeMap ℕ ℕ) → n.entries ≡ m.entries → (q : ℕ) → place n q ≡ place m q
unchanged_places m n e q = ap (λ es. lookup (is_at (nat_cmp q)) es) e

-- a place was kept and taken back
pub undone : (P Q R : ℕ → Option ℕ) (node slot : ℕ) → P node ≡ None → ((q : ℕ) → Q q ≡ cond (node == q) (Some slot) (P q)) → ((q : ℕ) → R q ≡ cond (node == q) None (Q q)) → (q : ℕ) → R q ≡ P q
undone P Q R node slot absent add take q = by_node (cases_eq node q)
  where
    by_node : (node ≡ q) ⊎ (node ≢ q) → R q ≡ P q
    by_node (inl e) = subst (λ k. R k ≡ P k) e (take node ∙ at_itself node None (Q node) ∙ sym absent)
    by_node (inr ne) = take q ∙ at_other node q None (Q q) ne ∙ add q ∙ at_other node q (Some slot) (P q) ne

-- a node that had no place has none
pub none_taken : (P Q : ℕ → Option ℕ) (node : ℕ) → P node ≡ None → ((q : ℕ) → Q q ≡ cond (node == q) None (P q)) → (q : ℕ) → Q q ≡ P q
none_taken P Q node absent take q = by_node (cases_eq node q)
  where
    by_node : (node ≡ q) ⊎ (node ≢ q) → Q q ≡ P q
    by_node (inl e) = subst (λ k. Q k ≡ P k) e (take node ∙ at_itself node None (P node) ∙ sym absent)
    by_node (inr ne) = take q ∙ at_other node q None (P q) ne

some_beat : (o : Option Beat) (at : Beat) → option_map (λ (b : Beat). at) o ≡ Some at → o ≡ Some (unwrap_or o at)
some_beat None at e = cc
some_beat (Some b) at e = refl

-- a node that waits keeps its beat
pub beat_stays : (P : ℕ → Option ℕ) (xs : List Waiting) → HasItsNode P xs → (node slot : ℕ) (at : Beat) → P node ≡ Some slot
    → (q : ℕ) → beat_at P xs q ≡ cond (node == q) (Some (unwrap_or (beat_at P xs node) at)) (beat_at P xs q)
beat_stays P xs known node slot at here q = by_node (cases_eq node q)
  where
    by_node : (node ≡ q) ⊎ (node ≢ q) → beat_at P xs q ≡ cond (node == q) (Some (unwrap_or (beat_at P xs node) at)) (beat_at P xs q)
    by_node (inl e) = subst (λ k. beat_at P xs k ≡ cond (node == k) (Some (unwrap_or (beat_at P xs node) at)) (beat_at P xs k)) e
        (some_beat (beat_at P xs node) at (held_beat P xs known node slot at here) ∙ sym (at_itself node (Some (unwrap_or (beat_at P xs node) at)) (beat_at P xs node)))
    by_node (inr ne) = sym (at_other node q (Some (unwrap_or (beat_at P xs node) at)) (beat_at P xs q) ne)

pub no_beat : (P : ℕ → Option ℕ) (xs : List Waiting) (node : ℕ) → P node ≡ None → beat_at P xs node ≡ None
no_beat P xs node absent = ap (option_and_then (λ s. beat_of (slice_get xs s))) absent

-- ---- a node leaves: the last slot is taken out, and fills the node's own
module _ (P Q : ℕ → Option ℕ) (ys : List Waiting) (last : Waiting) (node slot : ℕ) (known : HasItsNode P (ys ++ last ∷ [])) (kept : IsKept P (ys ++ last ∷ [])) (here : P node ≡ Some slot)
    (gone : (q : ℕ) → Q q ≡ cond (node == q) None (P q)) where
  last_place : P last.node ≡ Some (length ys)
  last_place = kept (length ys) last (get-end ys last)

  q_old : (q s : ℕ) → Q q ≡ Some s → (node ≢ q) × (P q ≡ Some s)
  q_old q s e = by_node (cases_eq node q)
    where
      by_node : (node ≡ q) ⊎ (node ≢ q) → (node ≢ q) × (P q ≡ Some s)
      by_node (inl f) = absurd (none_some (sym (gone q ∙ ap (λ k. cond (node == k) None (P q)) (sym f) ∙ at_itself node None (P q)) ∙ e))
        where
          none_some : {A : Type 0} {x : A} → None ≡ Some x → ⊥
          none_some e = cc
      by_node (inr ne) = (ne, sym (gone q ∙ at_other node q None (P q) ne) ∙ e)

  not_last : (q s : ℕ) → P q ≡ Some s → q ≢ last.node → s < length ys
  not_last q s e ne =
      let long = slot_within P (ys ++ last ∷ []) known q s e in
      let apart : s ≢ length ys = λ f. ne (one_node P (ys ++ last ∷ []) known q last.node s e (last_place ∙ ap Some (sym f))) in
      omega (arith, long, apart, length-append ys (last ∷ []))

  shorter : (q s : ℕ) → P q ≡ Some s → q ≢ last.node → slice_get ys s ≡ slice_get (ys ++ last ∷ []) s
  shorter q s e ne = sym (front_same ys (last ∷ []) s (not_last q s e ne))

  -- what an entry of the shorter list is kept at
  still : (s : ℕ) (entry : Waiting) → slice_get ys s ≡ Some entry → (P entry.node ≡ Some s) × (s < length ys)
  still s entry e =
      let h = slice_get_within ys s entry e in
      (kept s entry (front_same ys (last ∷ []) s h ∙ e), h)

  pub left_slot : last.node ≢ node → slot < length ys
  left_slot other = not_last node slot here (λ f. other (sym f))

  module _ (mine : last.node ≡ node) where
    pub left_known : HasItsNode Q ys
    left_known q s e =
        let old = q_old q s e in
        ap node_of (shorter q s old.1 (λ f. old.0 (sym mine ∙ sym f))) ∙ known q s old.1

    pub left_kept : IsKept Q ys
    left_kept s entry e =
        let old = still s entry e in
        let apart : node ≢ entry.node = λ f. omega (arith, old.1, inner (length ys) s (sym last_place ∙ ap P (mine ∙ f) ∙ old.0)) in
        gone entry.node ∙ at_other node entry.node None (P entry.node) apart ∙ old.0

    pub left_beat : (q : ℕ) → beat_at Q ys q ≡ cond (node == q) None (beat_at P (ys ++ last ∷ []) q)
    left_beat q = by_node (cases_eq node q)
      where
        by_node : (node ≡ q) ⊎ (node ≢ q) → beat_at Q ys q ≡ cond (node == q) None (beat_at P (ys ++ last ∷ []) q)
        by_node (inl e) = subst (λ k. beat_at Q ys k ≡ cond (node == k) None (beat_at P (ys ++ last ∷ []) k)) e
            (no_beat Q ys node (gone node ∙ at_itself node None (P node)) ∙ sym (at_itself node None (beat_at P (ys ++ last ∷ []) node)))
        by_node (inr ne) =
            beat_by P Q (ys ++ last ∷ []) ys q (gone q ∙ at_other node q None (P q) ne) (λ s e. shorter q s e (λ f. ne (sym mine ∙ sym f)))
            ∙ sym (at_other node q None (beat_at P (ys ++ last ∷ []) q) ne)

  module _ (R : ℕ → Option ℕ) (other : last.node ≢ node) (moved : (q : ℕ) → R q ≡ cond (last.node == q) (Some slot) (Q q)) where
    slot_left : slot < length ys
    slot_left = left_slot other

    pub filled_known : HasItsNode R (set ys slot last)
    filled_known q s e = by_node (cases_eq last.node q)
      where
        by_node : (last.node ≡ q) ⊎ (last.node ≢ q) → node_of (slice_get (set ys slot last) s) ≡ Some q
        by_node (inl f) =
            let is : Some slot ≡ Some s = sym (moved q ∙ ap (λ k. cond (last.node == k) (Some slot) (Q q)) (sym f) ∙ at_itself last.node (Some slot) (Q q)) ∙ e in
            ap (λ k. node_of (slice_get (set ys slot last) k)) (sym (inner slot s is)) ∙ ap node_of (get-set_same ys slot last slot_left) ∙ ap Some f
        by_node (inr ne) =
            let old = q_old q s (sym (moved q ∙ at_other last.node q (Some slot) (Q q) ne) ∙ e) in
            let apart : s ≢ slot = λ f. old.0 (one_node P (ys ++ last ∷ []) known node q slot here (old.1 ∙ ap Some f)) in
            ap node_of (get-set_other ys slot s last apart) ∙ ap node_of (shorter q s old.1 (λ f. ne (sym f))) ∙ known q s old.1

    pub filled_kept : IsKept R (set ys slot last)
    filled_kept s entry e = by_slot (cases_eq s slot)
      where
        by_slot : (s ≡ slot) ⊎ (s ≢ slot) → R entry.node ≡ Some s
        by_slot (inl f) =
            let is : Some last ≡ Some entry = sym (get-set_same ys slot last slot_left) ∙ ap (slice_get (set ys slot last)) (sym f) ∙ e in
            let same : last.node ≡ entry.node = inner last.node entry.node (ap node_of is) in
            ap R (sym same) ∙ moved last.node ∙ at_itself last.node (Some slot) (Q last.node) ∙ ap Some (sym f)
        by_slot (inr ne) =
            let old = still s entry (sym (get-set_other ys slot s last ne) ∙ e) in
            let from_last : last.node ≢ entry.node = λ f. omega (arith, old.1, inner (length ys) s (sym last_place ∙ ap P f ∙ old.0)) in
            let from_node : node ≢ entry.node = λ f. ne (inner s slot (sym old.0 ∙ ap P (sym f) ∙ here)) in
            moved entry.node ∙ at_other last.node entry.node (Some slot) (Q entry.node) from_last ∙ gone entry.node ∙ at_other node entry.node None (P entry.node) from_node ∙ old.0

    pub filled_beat : (q : ℕ) → beat_at R (set ys slot last) q ≡ cond (node == q) None (beat_at P (ys ++ last ∷ []) q)
    filled_beat q = by_node (cases_eq node q)
      where
        at_last : (last.node ≡ q) ⊎ (last.node ≢ q) → node ≢ q → beat_at R (set ys slot last) q ≡ beat_at P (ys ++ last ∷ []) q
        at_last (inl f) ne = subst (λ k. beat_at R (set ys slot last) k ≡ beat_at P (ys ++ last ∷ []) k) f
            (ap (option_and_then (λ s. beat_of (slice_get (set ys slot last) s))) (moved last.node ∙ at_itself last.node (Some slot) (Q last.node)) ∙ ap beat_of (get-set_same ys slot last slot_left)
            ∙ sym (ap (option_and_then (λ s. beat_of (slice_get (ys ++ last ∷ []) s))) last_place ∙ ap beat_of (get-end ys last)))
        at_last (inr far) ne =
            beat_by P R (ys ++ last ∷ []) (set ys slot last) q (moved q ∙ at_other last.node q (Some slot) (Q q) far ∙ gone q ∙ at_other node q None (P q) ne)
            (λ s e. get-set_other ys slot s last (λ f. ne (one_node P (ys ++ last ∷ []) known node q slot here (e ∙ ap Some f))) ∙ shorter q s e (λ f. far (sym f)))

        by_node : (node ≡ q) ⊎ (node ≢ q) → beat_at R (set ys slot last) q ≡ cond (node == q) None (beat_at P (ys ++ last ∷ []) q)
        by_node (inl e) = subst (λ k. beat_at R (set ys slot last) k ≡ cond (node == k) None (beat_at P (ys ++ last ∷ []) k)) e
            (no_beat R (set ys slot last) node (moved node ∙ at_other last.node node (Some slot) (Q node) other ∙ gone node ∙ at_itself node None (P node)) ∙ sym (at_itself node None (beat_at P (ys ++ last ∷ []) node)))
        by_node (inr ne) = at_last (cases_eq last.node q) ne ∙ sym (at_other node q None (beat_at P (ys ++ last ∷ []) q) ne)

-- ---- the head
pub head_waits : (P : ℕ → Option ℕ) (xs : List Waiting) → IsKept P xs → (w : Waiting) (slot : ℕ) → slice_get xs slot ≡ Some w → beat_at P xs w.node ≡ Some w.at
head_waits P xs kept w slot e = ap (option_and_then (λ s. beat_of (slice_get xs s))) (kept slot w e) ∙ ap beat_of e

entry_of : (o : Option Waiting) (q : ℕ) (at : Beat) → node_of o ≡ Some q → beat_of o ≡ Some at → o ≡ Some (record { at = at; node = q })
entry_of None q at e f = cc
entry_of (Some w) q at e f = ap Some (joined w q at (inner w.node q e) (inside w.at at f))
  where
    inside : (a b : Beat) → Some a ≡ Some b → a ≡ b
    inside a b e = cc

    joined : (w : Waiting) (q : ℕ) (at : Beat) → w.node ≡ q → w.at ≡ at → w ≡ record { at = at; node = q }
    joined w q at e f = λ i. record { at = f i; node = e i }

pub waiter_slot : (P : ℕ → Option ℕ) (xs : List Waiting) → HasItsNode P xs → (q : ℕ) (at : Beat) → beat_at P xs q ≡ Some at → (slot : ℕ) × (slice_get xs slot ≡ Some (record { at = at; node = q }))
waiter_slot P xs known q at e = by_place (P q) refl e
  where
    by_place : (o : Option ℕ) → P q ≡ o → option_and_then (λ s. beat_of (slice_get xs s)) o ≡ Some at → (slot : ℕ) × (slice_get xs slot ≡ Some (record { at = at; node = q }))
    by_place None is e = cc
    by_place (Some s) is e = (s, entry_of (slice_get xs s) q at (known q s is) e)

-- ---- what a test or a `let else` knows
pub some_place : (o : Option ℕ) → is_some o ≡ true → (s : ℕ) × (o ≡ Some s)
some_place None e = cc
some_place (Some s) e = (s, refl)

pub no_place : (o : Option ℕ) → is_some o ≡ false → o ≡ None
no_place None e = refl
no_place (Some s) e = cc

pub none_from : {X : Type 0} (o : Option X) → ((x : X) → o ≡ Some x → ⊥) → o ≡ None
none_from None f = refl
none_from (Some x) f = absurd (f x refl)

pub nothing_popped : (r : Option Waiting) (xs ys : List Waiting) → MatchOption r (xs ≡ []) (λ entry. xs ≡ ys ++ entry ∷ []) → ((x : Waiting) → r ≡ Some x → ⊥) → xs ≡ []
nothing_popped None xs ys h f = h
nothing_popped (Some x) xs ys h f = absurd (f x refl)

-- the last node keeps its place while another leaves
pub last_known : (P Q : ℕ → Option ℕ) (ys : List Waiting) (last : Waiting) (node : ℕ) → IsKept P (ys ++ last ∷ []) → ((q : ℕ) → Q q ≡ cond (node == q) None (P q)) → last.node ≢ node → IsSome (Q last.node)
last_known P Q ys last node kept gone other =
    subst IsSome (sym (gone last.node ∙ at_other node last.node None (P last.node) (λ e. other (sym e)) ∙ kept (length ys) last (get-end ys last))) refl

-- ---- a node that waited nowhere is entered with a new slot

pub record Entered (P Q : ℕ → Option ℕ) (xs : List Waiting) (w : Waiting) : Type 0 where
  pub known : HasItsNode Q (xs ++ w ∷ [])
  pub kept : IsKept Q (xs ++ w ∷ [])
  pub beat : (q : ℕ) → beat_at Q (xs ++ w ∷ []) q ≡ cond (w.node == q) (Some (unwrap_or (beat_at P xs w.node) w.at)) (beat_at P xs q)

pub entered : (m n : BTreeMap ℕ ℕ) (xs : List Waiting) (w : Waiting) (slot : ℕ) → HasItsNode (place m) xs → IsKept (place m) xs → is_some (place m w.node) ≡ false
    → slot ≡ length xs → Updates nat_cmp m n w.node (Some slot) → Entered (place m) (place n) xs w
entered m n xs w slot known kept out last u =
    let absent = no_place (place m w.node) out in
    let add = subst (λ s. (q : ℕ) → place n q ≡ cond (w.node == q) (Some s) (place m q)) last (placed_so m n w.node (Some slot) u) in
    record {
      known = added_known (place m) (place n) xs w.node w known kept absent refl add;
      kept = added_kept (place m) (place n) xs w.node w known kept absent refl add;
      beat = λ q. added_beat (place m) (place n) xs w.node w known kept absent refl add q
          ∙ ap (λ o. cond (w.node == q) (Some (unwrap_or o w.at)) (beat_at (place m) xs q)) (sym (no_beat (place m) xs w.node absent));
    }
