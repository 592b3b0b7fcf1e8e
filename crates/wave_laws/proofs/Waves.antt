-- A node's taint comes after those of the nodes ahead of it, under the project's own rules.
use Rattle.std.proofs.Common.{◌≡◌, ◌∙◌, ◌⊎◌, ◌≤◌, ◌<◌, ℕ, zero, suc, ◌+◌, ◌-◌, ◌*◌, ◌==◌, ◌&&◌, ◌||◌, nat_lt, if◌then◌else◌, Bool, true, false, List, [], ◌∷◌, length, filter, Option, Some, None, refl, sym, ap, subst, inl, inr, arith}
use Rattle.std.specs.Prelude.{if◌then◌else◌}
use Rattle.std.proofs.lemmas.Bool.{lt-ltb, eq-eqb}
use Rattle.std.proofs.Math.Nat.{suc-mul}
use Rattle.std.proofs.lemmas.List.Sums.{length-filter}
use Rattle.kube_objects.specs.Clocks.{local}
use Rattle.kube_objects.specs.Document.{Doc}
use Rattle.kube_objects.specs.Entry.{Entry, Identity, Place}
use Rattle.kube_objects.specs.Newest.{has}
use Rattle.kube_objects.specs.Own.{ReleasesByStop, JudgesByOwn}
use Rattle.kube_objects.specs.Seen.{node_names}
use Rattle.kube_objects.specs.Tainting.{waits, queued}
use Rattle.kube_objects.specs.Tokens.{base, token_size, has_token}
use Rattle.kube_objects.proofs.Clocks.{local_up}
use Rattle.history.specs.History.{history}
use Rattle.history.specs.Evictions.{after_turn}
use Rattle.history_laws.proofs.Plainly.{none_is, some_is, true_is}
use Rattle.history_laws.proofs.Tailed.{tail_trans}
use Rattle.outage_laws.specs.Attended.{IsAttended, Attends}
use Rattle.span_laws.specs.Spans.{RunsAtLeast, IsEnough}
use Rattle.span_laws.proofs.Spans.{readings_grow}
use Rattle.tick_laws.specs.Judged.{key_if, waits_since}
use Rattle.tick_laws.specs.Rows.{settled}
use Rattle.tick_laws.specs.Walks.{Among}
use Rattle.tick_laws.proofs.Heads.{Precedes}
use Rattle.tick_laws.proofs.Named.{node_is_named}
use Rattle.tick_laws.proofs.Tainting.{waiting, since_waits}
use Rattle.row_laws.specs.Keys.{is_waiting}
use Rattle.wave_laws.specs.Waves.{queue_at, served_at, is_ahead, ahead, KeepsRate, IsTainted, IsServedBy, TaintsCome, TaintsComeAnyway}
use Rattle.wave_laws.proofs.Queue.{settles, next_since, key_within, base_within, served_tail, in_history}
use Rattle.wave_laws.proofs.Heads.{Taken, Stays, stays, idle, Spent, spent}
use Rattle.wave_laws.proofs.Tokens.{queue_base, token_there}

-- ---- the nodes ahead

-- by beat and name before another one
abbrev pub IsBefore : ℕ → ℕ → ℕ → ℕ → Type 0
IsBefore b x at n = (b < at) ⊎ ((b ≡ at) × (x < n))

-- all nodes ahead of n are in a list
abbrev Covers : Identity → Place → ℕ → List ℕ → List Entry → Type 0
Covers q place n xs h = (x b at : ℕ) → waits_since q place x h ≡ Some b → waits_since q place n h ≡ Some at → IsBefore b x at n → Among x xs

-- a list without one of its elements
record Rest (x : ℕ) (xs : List ℕ) : Type 0 where
  ys : List ℕ
  less : suc (length ys) ≡ length xs
  others : (z : ℕ) → Among z xs → (z ≡ x → ⊥) → Among z ys

rest : (x : ℕ) (xs : List ℕ) → Among x xs → Rest x xs
rest x [] there = absurd there
rest x (y ∷ ys) (inl same) = record { ys = ys; less = refl; others = λ z at differs. of z at differs }
  where
    of : (z : ℕ) → (z ≡ y) ⊎ Among z ys → (z ≡ x → ⊥) → Among z ys
    of z (inl is) differs = absurd (differs (is ∙ sym same))
    of z (inr at) differs = at
rest x (y ∷ ys) (inr there) = more (rest x ys there)
  where
    more : Rest x ys → Rest x (y ∷ ys)
    more r = record { ys = y ∷ r.ys; less = ap suc r.less; others = λ z at differs. of z at differs }
      where
        of : (z : ℕ) → (z ≡ y) ⊎ Among z ys → (z ≡ x → ⊥) → Among z (y ∷ r.ys)
        of z (inl is) differs = inl is
        of z (inr at) differs = inr (r.others z at differs)

-- ---- to the next tick

module _ (doc : Doc) (own : ReleasesByStop doc) (judges : JudgesByOwn doc) (q : Identity) (place : Place) (n k : ℕ) (here : IsAttended doc q k) where
  -- a node that waits, and wasn't tainted
  abbrev Unserved : ℕ → Type 0
  Unserved at = (waits_since q place n (queue_at doc q k) ≡ Some at) × (waits_since q place n (served_at doc q k) ≡ Some at)

  module _ (next : IsAttended doc q (suc k)) where
    -- who is ahead of it in the next tick's queue was so after this one's taints
    was_ahead : (at : ℕ) → Unserved at → (x b later : ℕ) → waits_since q place x (queue_at doc q (suc k)) ≡ Some b → waits_since q place n (queue_at doc q (suc k)) ≡ Some later → IsBefore b x later n
        → (waits_since q place x (served_at doc q k) ≡ Some b) × IsBefore b x at n
    was_ahead at unserved x b later mine its order = by_old (waits q place n (queue_at doc q (suc k))) (waits q place x (queue_at doc q (suc k))) (waits_since q place x (served_at doc q k)) refl its_key my_key
      where
        its_key : settled (waits q place n (queue_at doc q (suc k))) (suc k) (Some at) ≡ Some later
        its_key = sym (settles doc own q (suc k) place n ∙ ap (settled (waits q place n (queue_at doc q (suc k))) (suc k)) (next_since doc own judges q k here next place n ∙ unserved.1)) ∙ its

        my_key : settled (waits q place x (queue_at doc q (suc k))) (suc k) (waits_since q place x (served_at doc q k)) ≡ Some b
        my_key = sym (settles doc own q (suc k) place x ∙ ap (settled (waits q place x (queue_at doc q (suc k))) (suc k)) (next_since doc own judges q k here next place x)) ∙ mine

        early : at ≤ k
        early =
            let found = since_waits q place n at (queue_at doc q k) unserved.0 in
            omega (arith, key_within doc own q k here place n, found.2)

        not_new : suc k ≡ b → at ≡ later → ⊥
        not_new new same = by_order order
          where
            by_order : IsBefore b x later n → ⊥
            by_order (inl lt) = omega (arith, lt, new, same, early)
            by_order (inr both) = omega (arith, both.0, new, same, early)

        by_old : (its mine old : Option ℕ) → waits_since q place x (served_at doc q k) ≡ old → settled its (suc k) (Some at) ≡ Some later → settled mine (suc k) old ≡ Some b → (old ≡ Some b) × IsBefore b x at n
        by_old None mine old is key own = absurd (none_is later key)
        by_old (Some wanted) None old is key own = absurd (none_is b own)
        by_old (Some wanted) (Some other) None is key own = absurd (not_new (some_is (suc k) b own) (some_is at later key))
        by_old (Some wanted) (Some other) (Some old) is key own = (own, subst (λ at. IsBefore b x at n) (sym (some_is at later key)) order)

    next_covers : (at : ℕ) (xs : List ℕ) → Unserved at → Covers q place n xs (queue_at doc q k) → Covers q place n xs (queue_at doc q (suc k))
    next_covers at xs unserved covers x b later mine its order = by_stay (stays doc own judges q k place here x)
      where
        old : (waits_since q place x (served_at doc q k) ≡ Some b) × IsBefore b x at n
        old = was_ahead at unserved x b later mine its order

        by_stay : Stays doc own judges q k place x (queue_at doc q k) (served_at doc q k) → Among x xs
        by_stay (inl same) = covers x b at (sym same ∙ old.0) unserved.0 old.1
        by_stay (inr (none, taken)) = absurd (none_is b (sym none ∙ old.0))

    -- without a node that was tainted
    next_fewer : (at : ℕ) (xs : List ℕ) (gone : ℕ) → Unserved at → Covers q place n xs (queue_at doc q k) → waits_since q place gone (served_at doc q k) ≡ None → (r : Rest gone xs)
        → Covers q place n r.ys (queue_at doc q (suc k))
    next_fewer at xs gone unserved covers none r x b later mine its order =
        r.others x (next_covers at xs unserved covers x b later mine its order)
        (λ same. none_is b (sym (ap (λ x. waits_since q place x (served_at doc q k)) same ∙ none) ∙ (was_ahead at unserved x b later mine its order).0))

  -- it waits and stays, or it doesn't wait, or it is tainted
  data Serving : Type 0 where
    Waits : (at : ℕ) → Unserved at → Serving
    Served : IsTainted doc q place n k ⊎ (is_waiting q place n (queue_at doc q k) ≡ false) → Serving

  tainted_is : Taken q place n k (served_at doc q k) → IsTainted doc q place n k
  tainted_is s = record {
    wanted = s.wanted;
    given = s.given;
    written = s.written;
    version = s.version;
    before = s.before;
    stands = tail_trans _ (served_at doc q k) (history doc (suc k)) s.stands (tail_trans (served_at doc q k) (after_turn doc q.process k) (history doc (suc k)) (served_tail doc own q k here) (in_history doc own q k here));
  }

  serving : Serving
  serving = by_waits (waits q place n (queue_at doc q k)) refl (stays doc own judges q k place here n)
    where
      by_waits : (o : Option ℕ) → waits q place n (queue_at doc q k) ≡ o → Stays doc own judges q k place n (queue_at doc q k) (served_at doc q k) → Serving
      by_waits None is stay = Served (inr (ap has is))
      by_waits (Some wanted) is (inr (none, taken)) = Served (inl (tainted_is taken))
      by_waits (Some wanted) is (inl same) =
          let key : waits_since q place n (queue_at doc q k) ≡ Some (queued q place n (queue_at doc q k)) = ap (λ o. key_if o (queued q place n (queue_at doc q k))) is in
          Waits (queued q place n (queue_at doc q k)) (key, same ∙ key)

-- ---- tick by tick

some_beats : (rate slow interval enough : ℕ) → IsEnough rate token_size interval → IsEnough slow interval enough → 1 ≤ enough
unfolding token_size
some_beats rate slow interval (suc enough) token time = omega arith
some_beats rate slow zero zero token time = absurd (omega (arith, token))
some_beats rate slow (suc interval) zero token time = absurd (omega (arith, time))

module _ (doc : Doc) (own : ReleasesByStop doc) (judges : JudgesByOwn doc) (q : Identity) (place : Place) (n m y e last : ℕ) (attends : Attends doc q m e) (begin : m ≤ y) (end : last ≤ e) (rate slow interval enough : ℕ) (keeps : KeepsRate doc q place rate y e)
    (runs : RunsAtLeast doc q.process y e slow) (token : IsEnough rate token_size interval) (time : IsEnough slow interval enough) (to : y ≤ e) where
  some : 1 ≤ enough
  some = some_beats rate slow interval enough token time

  here_at : (k : ℕ) → m ≤ k → k ≤ e → IsAttended doc q k
  here_at k from le = attends k from le

  first : IsAttended doc q y
  first = attends y begin to

  -- by beat f the token is there, if no queued taint takes it before
  abbrev Ready : ℕ → ℕ → Type 0
  Ready f k = local doc q.process (base q place (queue_at doc q k)) + interval ≤ local doc q.process f

  record Reached (k : ℕ) : Type 0 where
    f : ℕ
    xs : List ℕ
    from : y ≤ k
    within : k ≤ f
    bound : f + length xs * enough ≤ last
    ready : Ready f k
    covers : Covers q place n xs (queue_at doc q k)

  abbrev Goal : Type 0
  Goal = IsServedBy doc q place n m last

  now : (k : ℕ) → Reached k → IsTainted doc q place n k ⊎ (is_waiting q place n (queue_at doc q k) ≡ false) → Goal
  now k s served = (k, omega (arith, begin, s.from), omega (arith, s.within, s.bound), served)

  -- the head was tainted
  after_head : (k at : ℕ) (here : IsAttended doc q k) (s : Reached k) → Unserved doc own judges q place n k here at → Spent doc own judges q k place n at (served_at doc q k) → (k < last) × (IsAttended doc q (suc k) → Reached (suc k))
  after_head k at here s unserved head = (
    lt,
    λ next. record {
      f = k + enough;
      xs = r.ys;
      from = omega (arith, s.from);
      within = omega (arith, some);
      bound = omega (arith, product, s.within, s.bound);
      ready = ready next;
      covers = next_fewer doc own judges q place n k here next at s.xs head.name unserved s.covers head.gone r;
    },
  )
    where
      differs : head.name ≡ n → ⊥
      differs same = none_is at (sym head.gone ∙ ap (λ x. waits_since q place x (served_at doc q k)) same ∙ unserved.1)

      order : Precedes head.beat head.name at n → IsBefore head.beat head.name at n
      order (inl lt) = inl lt
      order (inr both) = inr (both.0, omega (arith, both.1, differs))

      r : Rest head.name s.xs
      r = rest head.name s.xs (s.covers head.name head.beat at head.was unserved.0 (order head.first))

      product : length s.xs * enough ≡ length r.ys * enough + enough
      product = ap (λ c. c * enough) (sym r.less) ∙ suc-mul (length r.ys) enough

      lt : k < last
      lt = omega (arith, product, some, s.within, s.bound)

      ready : IsAttended doc q (suc k) → Ready (k + enough) (suc k)
      ready next =
          let same : base q place (queue_at doc q (suc k)) ≡ k = queue_base doc own judges q place rate y e first keeps k s.from (omega (arith, lt, end)) here next ∙ head.base in
          subst (λ b. local doc q.process b + interval ≤ local doc q.process (k + enough)) (sym same)
          (readings_grow doc q.process y e slow interval enough runs time k (k + enough) s.from (omega arith) (omega (arith, product, s.within, s.bound, end)))

  -- the token isn't there yet
  after_none : (k at : ℕ) (here : IsAttended doc q k) (s : Reached k) → Unserved doc own judges q place n k here at → has_token doc q k place (queue_at doc q k) ≡ false → (k < last) × (IsAttended doc q (suc k) → Reached (suc k))
  after_none k at here s unserved none = (
    omega (arith, lt, s.bound),
    λ next. record {
      f = s.f;
      xs = s.xs;
      from = omega (arith, s.from);
      within = omega (arith, lt);
      bound = s.bound;
      ready = ready next;
      covers = next_covers doc own judges q place n k here next at s.xs unserved s.covers;
    },
  )
    where
      differs : k ≡ s.f → ⊥
      differs same =
          true_is (sym (token_there doc own judges q place rate y e first keeps interval k token s.from (omega (arith, s.within, s.bound, end)) here
          (subst (λ f. Ready f k) (sym same) s.ready)) ∙ none)

      lt : k < s.f
      lt = omega (arith, s.within, differs)

      ready : IsAttended doc q (suc k) → Ready s.f (suc k)
      ready next =
          let same : base q place (queue_at doc q (suc k)) ≡ base q place (queue_at doc q k) = queue_base doc own judges q place rate y e first keeps k s.from (omega (arith, lt, s.bound, end)) here next ∙ (idle doc own judges q k place none).base in
          subst (λ b. local doc q.process b + interval ≤ local doc q.process s.f) (sym same) s.ready

  step : (k : ℕ) → Reached k → (k < last → Reached (suc k) → Goal) → Goal
  step k s go = by_serving (serving doc own judges q place n k here)
    where
      here : IsAttended doc q k
      here = here_at k (omega (arith, begin, s.from)) (omega (arith, s.within, s.bound, end))

      later : (k < last) × (IsAttended doc q (suc k) → Reached (suc k)) → Goal
      later (lt, next) = go lt (next (here_at (suc k) (omega (arith, begin, s.from)) (omega (arith, lt, end))))

      by_token : (at : ℕ) → Unserved doc own judges q place n k here at → (b : Bool) → has_token doc q k place (queue_at doc q k) ≡ b → Goal
      by_token at unserved true is = later (after_head k at here s unserved (spent doc own judges q k place here n at unserved.0 is))
      by_token at unserved false is = later (after_none k at here s unserved is)

      by_serving : Serving doc own judges q place n k here → Goal
      by_serving (Served served) = now k s served
      by_serving (Waits at unserved) = by_token at unserved (has_token doc q k place (queue_at doc q k)) refl

  search : (fuel k : ℕ) → k + fuel ≡ last → Reached k → Goal
  search zero k is s = step k s (λ lt next. absurd (omega (arith, is, lt)))
  search (suc fuel) k is s = step k s (λ lt next. search fuel (suc k) (omega (arith, is)) next)

  -- up to the beat from which the rate stays
  pub wait : (fuel k full : ℕ) (xs : List ℕ) → k + fuel ≡ y → m ≤ k → y ≤ full → full + length xs * enough ≤ last → Ready full y → Covers q place n xs (queue_at doc q k) → Goal
  wait zero k full xs is from le bound ready covers =
      let same : k ≡ y = omega (arith, is) in
      search (last - y) y (omega (arith, le, bound)) (record { f = full; xs = xs; from = omega arith; within = le; bound = bound; ready = ready; covers = subst (λ k. Covers q place n xs (queue_at doc q k)) same covers })
  wait (suc fuel) k full xs is from le bound ready covers = by_serving (λ covers. wait fuel (suc k) full xs (omega (arith, is)) (omega (arith, from)) le bound ready covers) (serving doc own judges q place n k here)
    where
      here : IsAttended doc q k
      here = here_at k from (omega (arith, is, to))

      next : IsAttended doc q (suc k)
      next = here_at (suc k) (omega (arith, from)) (omega (arith, is, to))

      by_serving : (Covers q place n xs (queue_at doc q (suc k)) → Goal) → Serving doc own judges q place n k here → Goal
      by_serving go (Served served) = (k, from, omega (arith, is, le, bound), served)
      by_serving go (Waits at unserved) = go (next_covers doc own judges q place n k here next at xs unserved covers)

-- ---- the nodes ahead at first

filter_among : (test : ℕ → Bool) (x : ℕ) (xs : List ℕ) → test x ≡ true → Among x xs → Among x (filter test xs)
filter_among test x [] passes there = absurd there
filter_among test x (z ∷ zs) passes there = by_test (filter_among test x zs passes) (test z) refl there
  where
    by_test : (Among x zs → Among x (filter test zs)) → (b : Bool) → test z ≡ b → (x ≡ z) ⊎ Among x zs → Among x (if b then z ∷ filter test zs else filter test zs)
    by_test below true is (inl same) = inl same
    by_test below true is (inr at) = inr (below at)
    by_test below false is (inl same) = absurd (true_is (sym passes ∙ ap test same ∙ is))
    by_test below false is (inr at) = below at

module _ (q : Identity) (place : Place) (n : ℕ) (h : List Entry) where
  pub all_ahead : Covers q place n (filter (is_ahead q place n h) (node_names h)) h
  all_ahead x b at mine its order =
      let found = since_waits q place x b h mine in
      let other = since_waits q place n at h its in
      let w = waiting q place x found.0 h found.1 in
      filter_among (is_ahead q place n h) x (node_names h) (passes found.0 found.1 found.2 other.2 order) (node_is_named q x h w.x w.sees)
    where
      or_true : (c : Bool) → (c || true) ≡ true
      or_true true = refl
      or_true false = refl

      passes : (wanted : ℕ) → waits q place x h ≡ Some wanted → queued q place x h ≡ b → queued q place n h ≡ at → IsBefore b x at n → is_ahead q place n h x ≡ true
      passes wanted now mine its (inl lt) =
          ap (λ o. has o && (nat_lt (queued q place x h) (queued q place n h) || ((queued q place x h == queued q place n h) && nat_lt x n))) now
          ∙ ap (λ c. c || ((queued q place x h == queued q place n h) && nat_lt x n)) (lt-ltb (queued q place x h) (queued q place n h) (omega (arith, mine, its, lt)))
      passes wanted now mine its (inr (same, less)) =
          ap (λ o. has o && (nat_lt (queued q place x h) (queued q place n h) || ((queued q place x h == queued q place n h) && nat_lt x n))) now
          ∙ ap (λ c. nat_lt (queued q place x h) (queued q place n h) || (c && nat_lt x n)) (eq-eqb (queued q place x h) (queued q place n h) (mine ∙ same ∙ sym its))
          ∙ ap (λ c. nat_lt (queued q place x h) (queued q place n h) || c) (lt-ltb x n less)
          ∙ or_true (nat_lt (queued q place x h) (queued q place n h))

pub taints_come : TaintsCome
taints_come doc own judges q place n m y e attends begin rate slow interval enough full keeps runs token time from ready bound =
    let h = queue_at doc q m in
    let xs = filter (is_ahead q place n h) (node_names h) in
    let count : length xs * enough ≡ ahead q place n h * enough = ap (λ c. c * enough) (length-filter (is_ahead q place n h) (node_names h)) in
    wait doc own judges q place n m y e (full + ahead q place n h * enough) attends begin bound rate slow interval enough keeps runs token time (omega (arith, from, bound))
    (y - m) m full xs (omega (arith, begin)) (omega arith) from (omega (arith, count)) ready (all_ahead q place n h)

pub taints_come_anyway : TaintsComeAnyway
taints_come_anyway doc own judges q place n m y e attends begin rate slow interval enough keeps runs token time bound =
    subst (IsServedBy doc q place n m) sum
    (taints_come doc own judges q place n m y e attends begin rate slow interval enough (y + enough) keeps runs token time (omega arith)
    (omega (
      arith,
      local_up doc q.process (base q place (queue_at doc q y)) y (base_within doc own q y (attends y begin (omega (arith, bound))) place),
      readings_grow doc q.process y e slow interval enough runs time y (y + enough) (omega arith) (omega arith) (omega (arith, sum, bound)),
    ))
    (omega (arith, sum, bound)))
  where
    sum : (y + enough) + ahead q place n (queue_at doc q m) * enough ≡ y + (ahead q place n (queue_at doc q m) + 1) * enough
    sum =
        let one : ahead q place n (queue_at doc q m) + 1 ≡ suc (ahead q place n (queue_at doc q m)) = omega arith in
        let product : (ahead q place n (queue_at doc q m) + 1) * enough ≡ ahead q place n (queue_at doc q m) * enough + enough = ap (λ c. c * enough) one ∙ suc-mul (ahead q place n (queue_at doc q m)) enough in
        omega (arith, product)
