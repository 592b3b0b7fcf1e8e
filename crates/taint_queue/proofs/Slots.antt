-- What a write to one slot of a tournament tree leaves.
use Rattle.std.proofs.Common.{◌≡◌, ◌≢◌, ℕ, zero, suc, ◌+◌, ◌-◌, ◌*◌, ◌/◌, ◌<◌, ◌≤◌, List, [], ◌∷◌, ◌++◌, Bool, true, false, cond, Option, Some, None, IfSome, length, length-append, set, refl, ap, sym, ◌∙◌, subst, arith, ◌⊎◌, inl, inr}
use Rattle.std.proofs.lemmas.Bool.{cases_eq, cases_lt}
use Rattle.std.proofs.lemmas.Option.{slice_get_past, slice_get_within}
use Rattle.std.proofs.lemmas.Bool.Decides.{nat_tests}
use Rattle.std.specs.List.{slice_get}
use Rattle.kube_base.proofs.Lists.{get-end, get-set_other, get-set_same}
use Rattle.taint_queue.specs.Order.{comes_first, earliest}
use Rattle.taint_queue.specs.Tidy.{best, IsTidy, IsTidyBut}
use Rattle.taint_queue.specs.declared.waiting.Waiting.{Waiting}

best_same : (waiting least : List Waiting) (i at : ℕ) (v : Waiting) → 2 * i + 1 ≢ at → 2 * i + 2 ≢ at → best waiting (set least at v) i ≡ best waiting least i
best_same waiting least i at v left right =
    ap (λ x. earliest (earliest (slice_get waiting i) x) (slice_get (set least at v) (2 * i + 2))) (get-set_other least at (2 * i + 1) v left)
    ∙ ap (λ x. earliest (earliest (slice_get waiting i) (slice_get least (2 * i + 1))) x) (get-set_other least at (2 * i + 2) v right)

written : (waiting least : List Waiting) (at : ℕ) (v : Waiting) → at < length least → Some v ≡ best waiting least at
    → slice_get (set least at v) at ≡ best waiting (set least at v) at
written waiting least at v h is =
    get-set_same least at v h ∙ is ∙ sym (best_same waiting least at at v (λ e. omega (arith, e)) (λ e. omega (arith, e)))

-- the slot above is the one that a write may leave untidy
pub one_up : (waiting least : List Waiting) (at : ℕ) (v : Waiting) → IsTidyBut waiting least at → 0 < at → at < length least → Some v ≡ best waiting least at
    → IsTidyBut waiting (set least at v) ((at - 1) / 2)
one_up waiting least at v tidy up h is i apart = by_slot (cases_eq i at)
  where
    left : 2 * i + 1 ≢ at
    left e = apart (omega (arith, e))

    right : 2 * i + 2 ≢ at
    right e = apart (omega (arith, e))

    by_slot : (i ≡ at) ⊎ (i ≢ at) → slice_get (set least at v) i ≡ best waiting (set least at v) i
    by_slot (inl e) = subst (λ k. slice_get (set least at v) k ≡ best waiting (set least at v) k) (sym e) (written waiting least at v h is)
    by_slot (inr ne) = get-set_other least at i v ne ∙ tidy i ne ∙ sym (best_same waiting least i at v left right)

-- above the first slot there is none
pub at_top : (waiting least : List Waiting) (v : Waiting) → IsTidyBut waiting least 0 → 0 < length least → Some v ≡ best waiting least 0
    → IsTidy waiting (set least 0 v)
at_top waiting least v tidy h is i = by_slot (cases_eq i 0)
  where
    by_slot : (i ≡ 0) ⊎ (i ≢ 0) → slice_get (set least 0 v) i ≡ best waiting (set least 0 v) i
    by_slot (inl e) = subst (λ k. slice_get (set least 0 v) k ≡ best waiting (set least 0 v) k) (sym e) (written waiting least 0 v h is)
    by_slot (inr ne) = get-set_other least 0 i v ne ∙ tidy i ne ∙ sym (best_same waiting least i 0 v (λ e. omega (arith, e)) (λ e. omega (arith, e)))

-- ---- a slot at the end
pub front_same : (xs ys : List Waiting) (k : ℕ) → k < length xs → slice_get (xs ++ ys) k ≡ slice_get xs k
front_same [] ys k h = absurd (omega (arith, h))
front_same (x ∷ xs) ys zero h = refl
front_same (x ∷ xs) ys (suc k) h = front_same xs ys k (omega (arith, h))

same_beside : (xs ys : List Waiting) (k : ℕ) → length (xs ++ ys) ≤ length xs + 1 → k ≢ length xs → slice_get (xs ++ ys) k ≡ slice_get xs k
same_beside xs ys k long apart = by_order (cases_lt k (length xs))
  where
    by_order : (k < length xs) ⊎ (length xs ≤ k) → slice_get (xs ++ ys) k ≡ slice_get xs k
    by_order (inl h) = front_same xs ys k h
    by_order (inr h) = slice_get_past (xs ++ ys) k (omega (arith, h, apart, long)) ∙ sym (slice_get_past xs k h)

best_beside : (ws ls wr lr : List Waiting) (i n : ℕ) → n ≡ length ws → n ≡ length ls → length (ws ++ wr) ≤ length ws + 1 → length (ls ++ lr) ≤ length ls + 1
    → i ≢ n → 2 * i + 1 ≢ n → 2 * i + 2 ≢ n → best (ws ++ wr) (ls ++ lr) i ≡ best ws ls i
best_beside ws ls wr lr i n wn ln wl ll own left right =
    ap (λ x. earliest (earliest x (slice_get (ls ++ lr) (2 * i + 1))) (slice_get (ls ++ lr) (2 * i + 2))) (same_beside ws wr i wl (λ e. own (e ∙ sym wn)))
    ∙ ap (λ x. earliest (earliest (slice_get ws i) x) (slice_get (ls ++ lr) (2 * i + 2))) (same_beside ls lr (2 * i + 1) ll (λ e. left (e ∙ sym ln)))
    ∙ ap (λ x. earliest (earliest (slice_get ws i) (slice_get ls (2 * i + 1))) x) (same_beside ls lr (2 * i + 2) ll (λ e. right (e ∙ sym ln)))

one_more : (xs : List Waiting) (w : Waiting) → length (xs ++ w ∷ []) ≤ length xs + 1
one_more xs w = omega (arith, length-append xs (w ∷ []))

-- a slot was added at the end, below the slot (n - 1) / 2
pub pushed_tidy : (waiting least : List Waiting) (w : Waiting) (n : ℕ) → IsTidy waiting least → n ≡ length waiting → n ≡ length least → 0 < n
    → IsTidyBut (waiting ++ w ∷ []) (least ++ w ∷ []) ((n - 1) / 2)
pushed_tidy waiting least w n tidy wn ln up i apart = by_slot (cases_eq i n)
  where
    ws : List Waiting
    ws = waiting ++ w ∷ []

    ls : List Waiting
    ls = least ++ w ∷ []

    past : (k : ℕ) → n < k → slice_get ls k ≡ None
    past k h = slice_get_past ls k (omega (arith, length-append least (w ∷ []), ln, h))

    by_slot : (i ≡ n) ⊎ (i ≢ n) → slice_get ls i ≡ best ws ls i
    by_slot (inl e) =
        ap (slice_get ls) (e ∙ ln) ∙ get-end least w
        ∙ sym (ap (λ x. earliest (earliest x (slice_get ls (2 * i + 1))) (slice_get ls (2 * i + 2))) (ap (slice_get ws) (e ∙ wn) ∙ get-end waiting w)
        ∙ ap (λ x. earliest (earliest (Some w) x) (slice_get ls (2 * i + 2))) (past (2 * i + 1) (omega (arith, e)))
        ∙ ap (λ x. earliest (Some w) x) (past (2 * i + 2) (omega (arith, e))))
    by_slot (inr ne) =
        same_beside least (w ∷ []) i (one_more least w) (λ e. ne (e ∙ sym ln)) ∙ tidy i
        ∙ sym (best_beside waiting least (w ∷ []) (w ∷ []) i n wn ln (one_more waiting w) (one_more least w) ne (λ e. apart (omega (arith, e))) (λ e. apart (omega (arith, e))))

-- the slot at the end was taken out
pub popped_tidy : (ws ls wr lr : List Waiting) (n : ℕ) → IsTidy (ws ++ wr) (ls ++ lr) → n ≡ length ws → n ≡ length ls → length (ws ++ wr) ≤ length ws + 1 → length (ls ++ lr) ≤ length ls + 1 → 0 < n
    → IsTidyBut ws ls ((n - 1) / 2)
popped_tidy ws ls wr lr n tidy wn ln wl ll up i apart = by_order (cases_lt i n)
  where
    past : (k : ℕ) → n ≤ k → slice_get ls k ≡ None
    past k h = slice_get_past ls k (omega (arith, ln, h))

    by_order : (i < n) ⊎ (n ≤ i) → slice_get ls i ≡ best ws ls i
    by_order (inl h) =
        sym (front_same ls lr i (omega (arith, h, ln))) ∙ tidy i
        ∙ best_beside ws ls wr lr i n wn ln wl ll (λ e. omega (arith, e, h)) (λ e. apart (omega (arith, e))) (λ e. apart (omega (arith, e)))
    by_order (inr h) =
        past i h
        ∙ sym (ap (λ x. earliest (earliest x (slice_get ls (2 * i + 1))) (slice_get ls (2 * i + 2))) (slice_get_past ws i (omega (arith, wn, h)))
        ∙ ap (λ x. earliest x (slice_get ls (2 * i + 2))) (past (2 * i + 1) (omega (arith, h)))
        ∙ past (2 * i + 2) (omega (arith, h)))

-- the entry of a slot was replaced
pub put_tidy : (waiting least : List Waiting) (slot : ℕ) (w : Waiting) → IsTidy waiting least → IsTidyBut (set waiting slot w) least slot
put_tidy waiting least slot w tidy i apart =
    tidy i ∙ sym (ap (λ x. earliest (earliest x (slice_get least (2 * i + 1))) (slice_get least (2 * i + 2))) (get-set_other waiting slot i w apart))

-- ---- the first slot has the earliest of all
abbrev Leq : Option Waiting → Option Waiting → Type 0
Leq a None = Unit {0}
Leq None (Some b) = ⊥
Leq (Some a) (Some b) = comes_first a b ≡ true

itself_first : (a : Waiting) → comes_first a a ≡ true
itself_first a = grind (arith, nat_tests)

either_first : (a b : Waiting) → comes_first a b ≡ false → comes_first b a ≡ true
either_first a b h = grind (arith, nat_tests)

first_trans : (a b c : Waiting) → comes_first a b ≡ true → comes_first b c ≡ true → comes_first a c ≡ true
first_trans a b c h k = grind (arith, nat_tests)

leq_itself : (a : Option Waiting) → Leq a a
leq_itself None = tt
leq_itself (Some a) = itself_first a

leq_trans : (a b c : Option Waiting) → Leq a b → Leq b c → Leq a c
leq_trans a b None h k = tt
leq_trans None None (Some c) h k = absurd k
leq_trans (Some a) None (Some c) h k = absurd k
leq_trans None (Some b) (Some c) h k = absurd h
leq_trans (Some a) (Some b) (Some c) h k = first_trans a b c h k

leq_left : (a b : Option Waiting) → Leq (earliest a b) a
leq_left None b = tt
leq_left (Some a) None = itself_first a
leq_left (Some a) (Some b) = by_test (comes_first a b) (λ h. either_first a b h)
  where
    by_test : (t : Bool) → (t ≡ false → comes_first b a ≡ true) → comes_first (cond t a b) a ≡ true
    by_test true f = itself_first a
    by_test false f = f refl

leq_right : (a b : Option Waiting) → Leq (earliest a b) b
leq_right a None = tt
leq_right None (Some b) = itself_first b
leq_right (Some a) (Some b) = by_test (comes_first a b) (λ h. h)
  where
    by_test : (t : Bool) → (t ≡ true → comes_first a b ≡ true) → comes_first (cond t a b) b ≡ true
    by_test true f = f refl
    by_test false f = itself_first b

-- no slot has an earlier one than the slot above it
above_first : (waiting least : List Waiting) → IsTidy waiting least → (i : ℕ) → i ≢ 0 → Leq (slice_get least ((i - 1) / 2)) (slice_get least i)
above_first waiting least tidy i ne = by_side (cases_eq i (2 * ((i - 1) / 2) + 1))
  where
    own : Option Waiting
    own = slice_get waiting ((i - 1) / 2)

    left : Option Waiting
    left = slice_get least (2 * ((i - 1) / 2) + 1)

    right : Option Waiting
    right = slice_get least (2 * ((i - 1) / 2) + 2)

    over_left : Leq (slice_get least ((i - 1) / 2)) left
    over_left = subst (λ x. Leq x left) (sym (tidy ((i - 1) / 2))) (leq_trans (earliest (earliest own left) right) (earliest own left) left (leq_left (earliest own left) right) (leq_right own left))

    over_right : Leq (slice_get least ((i - 1) / 2)) right
    over_right = subst (λ x. Leq x right) (sym (tidy ((i - 1) / 2))) (leq_right (earliest own left) right)

    by_side : (i ≡ 2 * ((i - 1) / 2) + 1) ⊎ (i ≢ 2 * ((i - 1) / 2) + 1) → Leq (slice_get least ((i - 1) / 2)) (slice_get least i)
    by_side (inl e) = subst (λ k. Leq (slice_get least ((i - 1) / 2)) (slice_get least k)) (sym e) over_left
    by_side (inr far) =
        let e : i ≡ 2 * ((i - 1) / 2) + 2 = omega (arith, ne, far) in
        subst (λ k. Leq (slice_get least ((i - 1) / 2)) (slice_get least k)) (sym e) over_right

-- the first slot has none that is later than another slot's
lower : (waiting least : List Waiting) → IsTidy waiting least → (n i : ℕ) → i ≤ n → Leq (slice_get least 0) (slice_get least i)
lower waiting least tidy zero i h =
    let e : 0 ≡ i = omega (arith, h) in
    subst (λ k. Leq (slice_get least 0) (slice_get least k)) e (leq_itself (slice_get least 0))
lower waiting least tidy (suc n) i h = by_slot (cases_eq i 0) (lower waiting least tidy n ((i - 1) / 2) (omega (arith, h)))
  where
    by_slot : (i ≡ 0) ⊎ (i ≢ 0) → Leq (slice_get least 0) (slice_get least ((i - 1) / 2)) → Leq (slice_get least 0) (slice_get least i)
    by_slot (inl e) k = subst (λ k. Leq (slice_get least 0) (slice_get least k)) (sym e) (leq_itself (slice_get least 0))
    by_slot (inr ne) k = leq_trans (slice_get least 0) (slice_get least ((i - 1) / 2)) (slice_get least i) k (above_first waiting least tidy i ne)

leq_own : (waiting least : List Waiting) → IsTidy waiting least → (i : ℕ) → Leq (slice_get least i) (slice_get waiting i)
leq_own waiting least tidy i =
    let own = slice_get waiting i in
    let left = slice_get least (2 * i + 1) in
    let right = slice_get least (2 * i + 2) in
    subst (λ x. Leq x own) (sym (tidy i)) (leq_trans (earliest (earliest own left) right) (earliest own left) own (leq_left (earliest own left) right) (leq_left own left))

earliest_of : (a b : Option Waiting) (v : Waiting) → earliest a b ≡ Some v → (a ≡ Some v) ⊎ (b ≡ Some v)
earliest_of None b v h = inr h
earliest_of (Some a) None v h = inl h
earliest_of (Some a) (Some b) v h = by_test (comes_first a b) h
  where
    by_test : (t : Bool) → Some (cond t a b) ≡ Some v → (Some a ≡ Some v) ⊎ (Some b ≡ Some v)
    by_test true e = inl e
    by_test false e = inr e

-- what a slot has is the node of some slot
attained : (waiting least : List Waiting) → IsTidy waiting least → (n i : ℕ) (v : Waiting) → length least ≤ n + i → slice_get least i ≡ Some v
    → (slot : ℕ) × (slice_get waiting slot ≡ Some v)
attained waiting least tidy zero i v long h = absurd (omega (arith, slice_get_within least i v h, long))
attained waiting least tidy (suc n) i v long h =
    from_side (earliest_of (earliest (slice_get waiting i) (slice_get least (2 * i + 1))) (slice_get least (2 * i + 2)) v (sym (tidy i) ∙ h))
    (attained waiting least tidy n (2 * i + 1) v (omega (arith, long)))
    (attained waiting least tidy n (2 * i + 2) v (omega (arith, long)))
  where
    from_pair : (slice_get waiting i ≡ Some v) ⊎ (slice_get least (2 * i + 1) ≡ Some v) → (slice_get least (2 * i + 1) ≡ Some v → (slot : ℕ) × (slice_get waiting slot ≡ Some v)) → (slot : ℕ) × (slice_get waiting slot ≡ Some v)
    from_pair (inl e) f = (i, e)
    from_pair (inr e) f = f e

    from_side : (earliest (slice_get waiting i) (slice_get least (2 * i + 1)) ≡ Some v) ⊎ (slice_get least (2 * i + 2) ≡ Some v)
        → (slice_get least (2 * i + 1) ≡ Some v → (slot : ℕ) × (slice_get waiting slot ≡ Some v)) → (slice_get least (2 * i + 2) ≡ Some v → (slot : ℕ) × (slice_get waiting slot ≡ Some v))
        → (slot : ℕ) × (slice_get waiting slot ≡ Some v)
    from_side (inl e) f g = from_pair (earliest_of (slice_get waiting i) (slice_get least (2 * i + 1)) v e) f
    from_side (inr e) f g = g e

-- what the first slot has, if there is one
pub first_there : (waiting least : List Waiting) → IsTidy waiting least → (r : Option Waiting) → r ≡ slice_get least 0
    → IfSome r (λ first. (slot : ℕ) × (slice_get waiting slot ≡ Some first))
first_there waiting least tidy None e = tt
first_there waiting least tidy (Some v) e = attained waiting least tidy (length least) 0 v (omega arith) (sym e)

pub first_least : (waiting least : List Waiting) → IsTidy waiting least → (r : Option Waiting) → r ≡ slice_get least 0
    → IfSome r (λ first. (slot : ℕ) (entry : Waiting) → slice_get waiting slot ≡ Some entry → comes_first first entry ≡ true)
first_least waiting least tidy None e = tt
first_least waiting least tidy (Some v) e = λ slot entry h.
    subst (λ x. Leq x (Some entry)) (sym e)
    (subst (λ x. Leq (slice_get least 0) x) h
    (leq_trans (slice_get least 0) (slice_get least slot) (slice_get waiting slot) (lower waiting least tidy slot slot (omega arith)) (leq_own waiting least tidy slot)))
