-- Since when nodes wait: within a tick, after a queued taint, after another entry.
use Rattle.std.proofs.Common.{◌≡◌, ◌∙◌, ◌⊎◌, inl, inr, ℕ, ◌==◌, ◌&&◌, not, Bool, true, false, List, [], ◌∷◌, Option, Some, None, refl, sym, ap, subst, arith, length}
use Rattle.std.proofs.lemmas.Bool.{eqb-true, eq-eqb}
use Rattle.kube_base.specs.declared.numbers.Version.{Version}
use Rattle.kube_objects.specs.declared.call.Answer.{Answer}
use Rattle.kube_objects.specs.declared.key.Key.{Key}
use Rattle.kube_objects.specs.declared.node.Node.{Node}
use Rattle.kube_objects.specs.Entry.{Entry, Identity, Place, Fact, Ticks, Tick, Head, Delete, actor_of}
use Rattle.kube_objects.specs.Identities.{is_by}
use Rattle.kube_objects.specs.Newest.{newest, when, has, or_zero}
use Rattle.kube_objects.specs.Seen.{is_pod}
use Rattle.kube_objects.specs.Tainting.{waits, is_tick_of, before_tick, begins_row, queued}
use Rattle.kube_objects.specs.Tick.{add}
use Rattle.history_laws.proofs.Plainly.{false_is, none_is, and_left, and_right}
use Rattle.tick_laws.specs.Judged.{key_if, waits_since}
use Rattle.tick_laws.specs.Rows.{is_no_head, no_heads, settled, IsFresh}
use Rattle.tick_laws.proofs.Evicting.{deleted_waits}
use Rattle.tick_laws.proofs.Frames.{delete_change}
use Rattle.tick_laws.proofs.Ticked.{own_before, is_own_tick, before_short}
use Rattle.watch_cache.proofs.Frames.{upper}
use Rattle.watch_cache.proofs.Ticks.{same_self}

abbrev pub last_key : Identity → Place → ℕ → List Entry → Option ℕ
last_key q place name = newest (λ e T. when (begins_row q place name e.beat e.actor e.fact T) e.beat)

-- ---- within a tick without a queued taint so far

abbrev Rows : Identity → ℕ → Place → ℕ → List Entry → List Entry → Type 0
Rows q k place name h old =
    (has (waits q place name old) ≡ false → (h ≡ old) ⊎ (queued q place name h ≡ k)) × (has (waits q place name old) ≡ true → queued q place name h ≡ queued q place name old)

abbrev After : Identity → ℕ → Place → ℕ → Entry → List Entry → List Entry → Option ℕ → Type 0
After q k place name e h before says =
    (has (waits q place name before) ≡ false → ((e ∷ h) ≡ before) ⊎ (or_zero (upper says (last_key q place name h)) ≡ k))
    × (has (waits q place name before) ≡ true → or_zero (upper says (last_key q place name h)) ≡ queued q place name before)

rows_more : (q : Identity) (k : ℕ) (place : Place) (name : ℕ) (e : Entry) (h : List Entry) → (no_heads q k h ≡ true → Rows q k place name h (before_tick q k h)) → no_heads q k (e ∷ h) ≡ true
    → Rows q k place name (e ∷ h) (before_tick q k (e ∷ h))
rows_more q k place name e h old none = by_test (is_tick_of q k e.beat e.actor e.fact) refl none
  where
    says_now : (b : Bool) (at : ℕ) → at ≡ k → has (waits q place name (before_tick q k h)) ≡ b → no_heads q k h ≡ true → After q k place name e h (before_tick q k h) (when (not b) at)
    says_now false at is now heads = (λ none. inr is, λ some. absurd (false_is (sym now ∙ some)))
    says_now true at is now heads = (λ none. absurd (false_is (sym none ∙ now)), λ some. (old heads).1 some)

    of_tick : is_by q e.actor ≡ true → e.beat ≡ k → no_heads q k h ≡ true → After q k place name e h (before_tick q k h) (when (is_by q e.actor && not (has (waits q place name (before_tick q e.beat h)))) e.beat)
    of_tick own at heads =
        subst (λ b. After q k place name e h (before_tick q k h) (when (b && not (has (waits q place name (before_tick q e.beat h)))) e.beat)) (sym own)
        (subst (λ j. After q k place name e h (before_tick q k h) (when (not (has (waits q place name (before_tick q j h)))) e.beat)) (sym at)
        (says_now (has (waits q place name (before_tick q k h))) e.beat at refl heads))

    by_fact : (d : Fact) → is_tick_of q k e.beat e.actor d ≡ true → (is_no_head d && no_heads q k h) ≡ true → After q k place name e h (before_tick q k h) (when (begins_row q place name e.beat e.actor d h) e.beat)
    by_fact (Ticks (Head p n wanted given written a)) is heads = absurd (false_is heads)
    by_fact (Ticks t) is heads = of_tick (and_right (e.beat == k) (is_by q e.actor) is) (eqb-true e.beat k (and_left (e.beat == k) (is_by q e.actor) is)) heads
    by_fact d is heads = absurd (false_is is)

    by_test : (b : Bool) → is_tick_of q k e.beat e.actor e.fact ≡ b → elim b [ true ↦ is_no_head e.fact && no_heads q k h | false ↦ true ] ≡ true
        → Rows q k place name (e ∷ h) (elim b [ true ↦ before_tick q k h | false ↦ e ∷ h ])
    by_test false is heads = (λ none. inl refl, λ some. refl)
    by_test true is heads = by_fact e.fact is heads

pub rows : (q : Identity) (k : ℕ) (place : Place) (name : ℕ) (h : List Entry) → no_heads q k h ≡ true → Rows q k place name h (before_tick q k h)
rows q k place name [] none = (λ none. inl refl, λ some. refl)
rows q k place name (e ∷ h) none = rows_more q k place name e h (rows q k place name h) none

-- since when a node waits once untaints and swaps are done: by whether it waits now, and since when it did before the tick
pub settle : (q : Identity) (k : ℕ) (place : Place) (name : ℕ) (h : List Entry) → no_heads q k h ≡ true
    → waits_since q place name h ≡ settled (waits q place name h) k (waits_since q place name (before_tick q k h))
settle q k place name h none = by_now (waits q place name h) (waits q place name (before_tick q k h)) refl refl (rows q k place name h none)
  where
    by_now : (now old : Option ℕ) → waits q place name h ≡ now → waits q place name (before_tick q k h) ≡ old
        → (has old ≡ false → (h ≡ before_tick q k h) ⊎ (queued q place name h ≡ k)) × (has old ≡ true → queued q place name h ≡ queued q place name (before_tick q k h))
        → key_if now (queued q place name h) ≡ settled now k (key_if old (queued q place name (before_tick q k h)))
    by_now None old is was r = refl
    by_now (Some wanted) None is was r = begins (r.0 refl)
      where
        begins : (h ≡ before_tick q k h) ⊎ (queued q place name h ≡ k) → Some (queued q place name h) ≡ Some k
        begins (inl same) = absurd (none_is wanted (sym was ∙ ap (waits q place name) (sym same) ∙ is))
        begins (inr at) = ap (λ (n : ℕ). Some n) at
    by_now (Some wanted) (Some before) is was r = ap (λ (n : ℕ). Some n) (r.1 refl)

-- a tick that has made no entry yet has no queued taint
pub no_heads_start : (q : Identity) (k : ℕ) (h : List Entry) → before_tick q k h ≡ h → no_heads q k h ≡ true
no_heads_start q k [] is = refl
no_heads_start q k (e ∷ h) is = by_test (is_tick_of q k e.beat e.actor e.fact) is
  where
    by_test : (b : Bool) → ◌≡◌ {A = List Entry} (elim b [ true ↦ before_tick q k h | false ↦ e ∷ h ]) (e ∷ h) → ◌≡◌ {A = Bool} (elim b [ true ↦ is_no_head e.fact && no_heads q k h | false ↦ true ]) true
    by_test true same = absurd (omega (arith, before_short q k h, ap length same))
    by_test false same = refl

-- and another entry keeps this
pub no_heads_more : (q : Identity) (k : ℕ) (h : List Entry) (t : Tick) → is_no_head (Ticks t) ≡ true → no_heads q k h ≡ true → no_heads q k (add k q t h) ≡ true
no_heads_more q k h t no_head none =
    ap (λ b. elim b [ true ↦ is_no_head (Ticks t) && no_heads q k h | false ↦ true ]) (is_own_tick q k t) ∙ ap (λ b. b && no_heads q k h) no_head ∙ none

-- ---- after an own entry that is no queued taint and leaves who waits

quiet_says : (q : Identity) (k : ℕ) (place : Place) (name : ℕ) (t : Tick) (h : List Entry) → is_no_head (Ticks t) ≡ true
    → queued q place name (add k q t h) ≡ or_zero (upper (when (not (has (waits q place name (before_tick q k h)))) k) (last_key q place name h))
quiet_says q k place name (Head p n wanted given written a) h no_head = absurd (false_is no_head)
quiet_says q k place name t h no_head = ap (λ b. or_zero (upper (when (b && not (has (waits q place name (before_tick q k h)))) k) (last_key q place name h))) (same_self q)

pub quiet_key : (q : Identity) (k : ℕ) (place : Place) (name : ℕ) (t : Tick) (h : List Entry) → is_no_head (Ticks t) ≡ true → waits q place name (add k q t h) ≡ waits q place name h
    → IsFresh q k place name h → waits_since q place name (add k q t h) ≡ waits_since q place name h
quiet_key q k place name t h no_head same fresh =
    ap (λ o. key_if o (queued q place name (add k q t h))) same
    ∙ ap (key_if (waits q place name h)) (quiet_says q k place name t h no_head)
    ∙ by_before (waits q place name (before_tick q k h)) fresh
  where
    by_now : (o : Option ℕ) (at : ℕ) → (key_if o at ≡ None) ⊎ (key_if o at ≡ Some k) → key_if o k ≡ key_if o at
    by_now None at f = refl
    by_now (Some wanted) at (inl is) = absurd (none_is at (sym is))
    by_now (Some wanted) at (inr is) = sym is

    by_before : (o : Option ℕ) → (o ≡ None → (waits_since q place name h ≡ None) ⊎ (waits_since q place name h ≡ Some k))
        → key_if (waits q place name h) (or_zero (upper (when (not (has o)) k) (last_key q place name h))) ≡ waits_since q place name h
    by_before None f = by_now (waits q place name h) (queued q place name h) (f refl)
    by_before (Some wanted) f = refl

-- a delete
pub delete_key : (q : Identity) (k : ℕ) (place : Place) (name : ℕ) (pod : Key) (given node_given : Version) (at : ℕ) (a : Option Answer) (h : List Entry) → is_pod pod.kind ≡ true → IsFresh q k place name h
    → waits_since q place name (add k q (Delete pod given node_given at a) h) ≡ waits_since q place name h
delete_key q k place name pod given node_given at a h kind fresh =
    quiet_key q k place name (Delete pod given node_given at a) h refl
    (deleted_waits q h (add k q (Delete pod given node_given at a) h) pod a (delete_change q k h pod given node_given at a) kind place name) fresh

-- ---- after a queued taint

-- its node is at the back, with this beat, where it still waits
pub head_key : (q : Identity) (k : ℕ) (at place : Place) (name wanted : ℕ) (given : Version) (written : Node) (a : Option Answer) (h : List Entry)
    → queued q place name (add k q (Head at name wanted given written a) h) ≡ k
head_key q k at place name wanted given written a h =
    ap (λ b. or_zero (upper (when (b && is_by q (actor_of q)) k) (last_key q place name h))) (eq-eqb name name refl) ∙ ap (λ b. or_zero (upper (when b k) (last_key q place name h))) (same_self q)

-- another's place is as before
pub other_key : (q : Identity) (k : ℕ) (at place : Place) (name other wanted : ℕ) (given : Version) (written : Node) (a : Option Answer) (h : List Entry) → (other == name) ≡ false
    → queued q place name (add k q (Head at other wanted given written a) h) ≡ queued q place name h
other_key q k at place name other wanted given written a h apart = ap (λ b. or_zero (upper (when (b && is_by q (actor_of q)) k) (last_key q place name h))) apart

-- ---- nodes that didn't wait before the tick wait since its beat

fresh_by : (now : Option ℕ) (k at : ℕ) → at ≡ k → (key_if now at ≡ None) ⊎ (key_if now at ≡ Some k)
fresh_by None k at is = inl refl
fresh_by (Some wanted) k at is = inr (ap (λ (n : ℕ). Some n) is)

-- once untaints and swaps are done
pub fresh_settled : (q : Identity) (k : ℕ) (place : Place) (name : ℕ) (h : List Entry) → no_heads q k h ≡ true → IsFresh q k place name h
fresh_settled q k place name h none before =
    subst (λ o. (o ≡ None) ⊎ (o ≡ Some k)) (sym (settle q k place name h none ∙ ap (λ o. settled (waits q place name h) k (key_if o (queued q place name (before_tick q k h)))) before)) (by_now (waits q place name h))
  where
    by_now : (o : Option ℕ) → (settled o k None ≡ None) ⊎ (settled o k None ≡ Some k)
    by_now None = inl refl
    by_now (Some wanted) = inr refl

-- after an entry that leaves since when the node waits
pub fresh_same : (q : Identity) (k : ℕ) (place : Place) (name : ℕ) (t : Tick) (h : List Entry) → waits_since q place name (add k q t h) ≡ waits_since q place name h → IsFresh q k place name h
    → IsFresh q k place name (add k q t h)
fresh_same q k place name t h same fresh before =
    subst (λ o. (o ≡ None) ⊎ (o ≡ Some k)) (sym same) (fresh (ap (waits q place name) (sym (own_before q k t h)) ∙ before))

-- after its own queued taint
pub fresh_head : (q : Identity) (k : ℕ) (at place : Place) (name wanted : ℕ) (given : Version) (written : Node) (a : Option Answer) (h : List Entry)
    → IsFresh q k place name (add k q (Head at name wanted given written a) h)
fresh_head q k at place name wanted given written a h before =
    let g = add k q (Head at name wanted given written a) h in
    fresh_by (waits q place name g) k (queued q place name g) (head_key q k at place name wanted given written a h)

-- what a queued taint of another node leaves, where that node is seen as before
pub other_since : (q : Identity) (k : ℕ) (at place : Place) (name other wanted : ℕ) (given : Version) (written : Node) (a : Option Answer) (h : List Entry) → (other == name) ≡ false
    → waits q place name (add k q (Head at other wanted given written a) h) ≡ waits q place name h
    → waits_since q place name (add k q (Head at other wanted given written a) h) ≡ waits_since q place name h
other_since q k at place name other wanted given written a h apart same =
    ap (λ o. key_if o (queued q place name (add k q (Head at other wanted given written a) h))) same
    ∙ ap (key_if (waits q place name h)) (other_key q k at place name other wanted given written a h apart)
