-- A node's taint comes no sooner than those of the nodes ahead of it, an interval apart: under the project's own rules.
use Rattle.std.proofs.Common.{◌≡◌, ◌∙◌, ◌⊎◌, ◌≤◌, ◌<◌, ℕ, zero, suc, ◌+◌, ◌-◌, ◌*◌, ◌==◌, ◌&&◌, ◌||◌, nat_lt, if◌then◌else◌, Bool, true, false, List, [], ◌∷◌, length, filter, Option, Some, None, refl, sym, ap, subst, inl, inr, arith}
use Rattle.std.specs.Prelude.{if◌then◌else◌}
use Rattle.std.specs.Ordering.{nat_cmp}
use Rattle.std.proofs.lemmas.Bool.{eqb-true, ltb-true, cases_eq}
use Rattle.std.proofs.Math.Nat.{suc-mul, mul-le-mul_right}
use Rattle.std.proofs.lemmas.List.Sums.{length-filter}
use Rattle.kube_objects.specs.Document.{Doc}
use Rattle.kube_objects.specs.Entry.{Entry, Identity, Place}
use Rattle.kube_objects.specs.Newest.{has}
use Rattle.kube_objects.specs.Own.{ReleasesByStop, JudgesByOwn, StartsEmpty}
use Rattle.kube_objects.specs.Seen.{node_names}
use Rattle.kube_objects.specs.Tainting.{waits, queued}
use Rattle.kube_objects.specs.Tokens.{base, token_size, has_token}
use Rattle.history_laws.proofs.Plainly.{none_is, some_is, false_is, and_left, and_right}
use Rattle.outage_laws.specs.Attended.{IsAttended, Attends}
use Rattle.row_laws.specs.Keys.{is_waiting}
use Rattle.span_laws.specs.Spans.{RunsAtMost, IsNeeded}
use Rattle.span_laws.proofs.Spans.{readings_last}
use Rattle.tick_laws.specs.Judged.{key_if, waits_since}
use Rattle.tick_laws.specs.Rows.{settled}
use Rattle.tick_laws.specs.Walks.{Among, Ascends}
use Rattle.tick_laws.proofs.Heads.{Precedes}
use Rattle.tick_laws.proofs.Named.{node_names_ascend}
use Rattle.tick_laws.proofs.Orders.{names_strict}
use Rattle.tick_laws.proofs.Tainting.{since_waits}
use Rattle.tick_laws.proofs.Walks.{above_less}
use Rattle.wave_laws.specs.Waves.{queue_at, served_at, is_ahead, ahead, KeepsRate, LeavesTainted, LeaveTaintedOnly, TaintsTakeTime}
use Rattle.wave_laws.proofs.Queue.{settles, next_since, key_within, base_within}
use Rattle.wave_laws.proofs.Heads.{before, Stays, stays, Idle, idle, Spent, spent}
use Rattle.wave_laws.proofs.Tokens.{queue_base, token_over}
use Rattle.wave_laws.proofs.Waves.{IsBefore}

-- ---- who waits has a key

module _ (q : Identity) (place : Place) (x : ℕ) (h : List Entry) where
  waits_is : is_waiting q place x h ≡ true → waits_since q place x h ≡ Some (queued q place x h)
  waits_is is = by_now (waits q place x h) is
    where
      by_now : (o : Option ℕ) → has o ≡ true → key_if o (queued q place x h) ≡ Some (queued q place x h)
      by_now None is = absurd (false_is is)
      by_now (Some wanted) is = refl

  waits_none : is_waiting q place x h ≡ false → waits_since q place x h ≡ None
  waits_none is = by_now (waits q place x h) is
    where
      by_now : (o : Option ℕ) → has o ≡ false → key_if o (queued q place x h) ≡ None
      by_now None is = refl
      by_now (Some wanted) is = absurd (false_is (sym is))

  waits_then : (b : ℕ) → waits_since q place x h ≡ Some b → is_waiting q place x h ≡ true
  waits_then b is = let found = since_waits q place x b h is in ap has found.1

-- ---- lists of different names

abbrev Distinct : List ℕ → Type 0
Distinct [] = Unit {0}
Distinct (x ∷ xs) = (Among x xs → ⊥) × Distinct xs

filter_only : (test : ℕ → Bool) (x : ℕ) (xs : List ℕ) → Among x (filter test xs) → (test x ≡ true) × Among x xs
filter_only test x [] there = absurd there
filter_only test x (y ∷ ys) there = by_test (filter_only test x ys) (test y) refl there
  where
    later : (test x ≡ true) × Among x ys → (test x ≡ true) × ((x ≡ y) ⊎ Among x ys)
    later (passes, at) = (passes, inr at)

    by_test : (Among x (filter test ys) → (test x ≡ true) × Among x ys) → (b : Bool) → test y ≡ b → Among x (if b then y ∷ filter test ys else filter test ys) → (test x ≡ true) × ((x ≡ y) ⊎ Among x ys)
    by_test below true is (inl same) = (ap test same ∙ is, inl same)
    by_test below true is (inr at) = later (below at)
    by_test below false is at = later (below at)

filter_distinct : (test : ℕ → Bool) (xs : List ℕ) → Ascends nat_cmp xs → Distinct (filter test xs)
filter_distinct test [] order = tt
filter_distinct test (y ∷ ys) order = by_test (filter_distinct test ys order.1) (test y)
  where
    itself : Among y ys → ⊥
    itself at = omega (arith, before y y (above_less nat_cmp names_strict y y ys at order.0))

    by_test : Distinct (filter test ys) → (b : Bool) → Distinct (if b then y ∷ filter test ys else filter test ys)
    by_test below true = (λ at. itself (filter_only test y ys at).1, below)
    by_test below false = below

-- without a name
record Dropped (x : ℕ) (xs : List ℕ) : Type 0 where
  ys : List ℕ
  distinct : Distinct ys
  less : length xs ≤ suc (length ys)
  kept : (z : ℕ) → Among z ys → Among z xs × (z ≡ x → ⊥)

drop : (x : ℕ) (xs : List ℕ) → Distinct xs → Dropped x xs
drop x [] d = record { ys = []; distinct = tt; less = omega arith; kept = λ z at. absurd at }
drop x (y ∷ ys) d = by_case (cases_eq y x) (drop x ys d.1)
  where
    by_case : (y ≡ x) ⊎ (y ≡ x → ⊥) → Dropped x ys → Dropped x (y ∷ ys)
    by_case (inl same) r = record { ys = ys; distinct = d.1; less = omega arith; kept = λ z at. (inr at, λ is. d.0 (subst (λ z. Among z ys) (is ∙ sym same) at)) }
    by_case (inr differs) r = record { ys = y ∷ r.ys; distinct = (λ at. d.0 (r.kept y at).0, r.distinct); less = omega (arith, r.less); kept = λ z at. of z at }
      where
        of : (z : ℕ) → (z ≡ y) ⊎ Among z r.ys → ((z ≡ y) ⊎ Among z ys) × (z ≡ x → ⊥)
        of z (inl is) = (inl is, λ same. differs (sym is ∙ same))
        of z (inr at) = (inr (r.kept z at).0, (r.kept z at).1)

-- ---- tick by tick

module _ (doc : Doc) (own : ReleasesByStop doc) (judges : JudgesByOwn doc) (empty : StartsEmpty doc) (q : Identity) (place : Place) (n m t : ℕ) (attends : Attends doc q m t) (least : m ≤ t) (only : LeaveTaintedOnly doc q place n m t) (rate fast interval needed : ℕ) (keeps : KeepsRate doc q place rate m t)
    (runs : RunsAtMost doc q.process m t fast) (token : IsNeeded rate token_size interval) (time : IsNeeded fast interval needed) where
  first : IsAttended doc q m
  first = attends m (omega arith) least

  -- its key in beat m
  abbrev at : ℕ
  at = queued q place n (queue_at doc q m)

  -- of the nodes that were ahead those that still wait, and a beat before which the next taint doesn't come
  record Left (k : ℕ) : Type 0 where
    xs : List ℕ
    distinct : Distinct xs
    low : ℕ
    soonest : (low ≤ k) ⊎ ((m ≤ base q place (queue_at doc q k)) × (low ≤ base q place (queue_at doc q k) + needed))
    bound : m + ahead q place n (queue_at doc q m) * needed ≤ low + length xs * needed
    were : (x : ℕ) → Among x xs → is_ahead q place n (queue_at doc q m) x ≡ true
    waiting : (x : ℕ) → Among x xs → (b : ℕ) × (waits_since q place x (queue_at doc q k) ≡ Some b) × IsBefore b x at n
    key : (b : ℕ) → waits_since q place n (queue_at doc q k) ≡ Some b → at ≤ b

  -- a taint now isn't too soon
  not_before : (k : ℕ) → m ≤ k → k ≤ t → (s : Left k) → has_token doc q k place (queue_at doc q k) ≡ true → s.low ≤ k
  not_before k from to s there = by_soonest s.soonest
    where
      here : IsAttended doc q k
      here = attends k from to

      by_soonest : (s.low ≤ k) ⊎ ((m ≤ base q place (queue_at doc q k)) × (s.low ≤ base q place (queue_at doc q k) + needed)) → s.low ≤ k
      by_soonest (inl le) = le
      by_soonest (inr both) =
          let last : base q place (queue_at doc q k) + needed ≤ k =
          readings_last doc q.process m t fast interval needed runs time (base q place (queue_at doc q k)) k both.0 (base_within doc own q k here place) to
          (token_over doc own judges q place rate m t first keeps empty interval k token from to here there) in
          omega (arith, last, both.1)

  module _ (k : ℕ) (from : m ≤ k) (lt : k < t) where
    here : IsAttended doc q k
    here = attends k from (omega (arith, lt))

    next : IsAttended doc q (suc k)
    next = attends (suc k) (omega (arith, from)) (omega (arith, lt))

    next_is : (x : ℕ) → waits_since q place x (queue_at doc q (suc k)) ≡ settled (waits q place x (queue_at doc q (suc k))) (suc k) (waits_since q place x (served_at doc q k))
    next_is x = settles doc own q (suc k) place x ∙ ap (settled (waits q place x (queue_at doc q (suc k))) (suc k)) (next_since doc own judges q k here next place x)

    -- who waits after the taints waits on
    goes_on : (x b : ℕ) → is_ahead q place n (queue_at doc q m) x ≡ true → waits_since q place x (served_at doc q k) ≡ Some b → waits_since q place x (queue_at doc q (suc k)) ≡ Some b
    goes_on x b was is =
        next_is x ∙ ap (settled (waits q place x (queue_at doc q (suc k))) (suc k)) is
        ∙ by_now (waits q place x (queue_at doc q (suc k))) (only x k was from lt (waits_then q place x (served_at doc q k) b is))
      where
        by_now : (o : Option ℕ) → has o ≡ true → settled o (suc k) (Some b) ≡ Some b
        by_now None is = absurd (false_is is)
        by_now (Some wanted) is = refl

    key_on : Left k → (b : ℕ) → waits_since q place n (queue_at doc q (suc k)) ≡ Some b → at ≤ b
    key_on s b is = by_old (waits q place n (queue_at doc q (suc k))) (waits_since q place n (served_at doc q k)) refl (sym (next_is n) ∙ is)
      where
        early : at ≤ m
        early = key_within doc own q m first place n

        of : (c : ℕ) → waits_since q place n (served_at doc q k) ≡ Some c → Stays doc own judges q k place n (queue_at doc q k) (served_at doc q k) → at ≤ c
        of c was (inl same) = s.key c (sym same ∙ was)
        of c was (inr (none, taken)) = absurd (none_is c (sym none ∙ was))

        by_old : (now old : Option ℕ) → waits_since q place n (served_at doc q k) ≡ old → settled now (suc k) old ≡ Some b → at ≤ b
        by_old None old was key = absurd (none_is b key)
        by_old (Some wanted) None was key = omega (arith, some_is (suc k) b key, early, from)
        by_old (Some wanted) (Some c) was key = omega (arith, some_is c b key, of c was (stays doc own judges q k place here n))

    -- no taint
    after_none : (s : Left k) → Idle doc own judges q k place (served_at doc q k) → Left (suc k)
    after_none s none = record {
      xs = s.xs;
      distinct = s.distinct;
      low = s.low;
      soonest = later s.soonest;
      bound = s.bound;
      were = s.were;
      waiting = λ x there. on x there (s.waiting x there);
      key = key_on s;
    }
      where
        same : base q place (queue_at doc q k) ≡ base q place (queue_at doc q (suc k))
        same = sym (queue_base doc own judges q place rate m t first keeps k from (omega (arith, lt)) here next ∙ none.base)

        later : (s.low ≤ k) ⊎ ((m ≤ base q place (queue_at doc q k)) × (s.low ≤ base q place (queue_at doc q k) + needed)) → (s.low ≤ suc k) ⊎ ((m ≤ base q place (queue_at doc q (suc k))) × (s.low ≤ base q place (queue_at doc q (suc k)) + needed))
        later (inl le) = inl (omega (arith, le))
        later (inr both) = inr (omega (arith, both.0, same), omega (arith, both.1, same))

        on : (x : ℕ) → Among x s.xs → (b : ℕ) × (waits_since q place x (queue_at doc q k) ≡ Some b) × IsBefore b x at n → (b : ℕ) × (waits_since q place x (queue_at doc q (suc k)) ≡ Some b) × IsBefore b x at n
        on x there (b, is, order) = (b, goes_on x b (s.were x there) (none.since x ∙ is), order)

    -- a taint of the head
    after_head : (s : Left k) → s.low ≤ k → (x b : ℕ) → Spent doc own judges q k place x b (served_at doc q k) → Left (suc k)
    after_head s le x b head = record {
      xs = r.ys;
      distinct = r.distinct;
      low = k + needed;
      soonest = inr (omega (arith, from, same), omega (arith, same));
      bound = omega (arith, s.bound, le, product);
      were = λ x there. s.were x (r.kept x there).0;
      waiting = λ x there. on x (r.kept x there) (s.waiting x (r.kept x there).0);
      key = key_on s;
    }
      where
        r : Dropped head.name s.xs
        r = drop head.name s.xs s.distinct

        same : base q place (queue_at doc q (suc k)) ≡ k
        same = queue_base doc own judges q place rate m t first keeps k from (omega (arith, lt)) here next ∙ head.base

        product : length s.xs * needed ≤ length r.ys * needed + needed
        product = subst (λ c. length s.xs * needed ≤ c) (suc-mul (length r.ys) needed) (mul-le-mul_right needed r.less)

        on : (x : ℕ) → Among x s.xs × (x ≡ head.name → ⊥) → (b : ℕ) × (waits_since q place x (queue_at doc q k) ≡ Some b) × IsBefore b x at n → (b : ℕ) × (waits_since q place x (queue_at doc q (suc k)) ≡ Some b) × IsBefore b x at n
        on x (there, differs) (b, is, order) = (b, goes_on x b (s.were x there) (head.others x differs ∙ is), order)

    step : Left k → Left (suc k)
    step s = by_token (has_token doc q k place (queue_at doc q k)) refl
      where
        -- nobody ahead is left
        stop : s.low ≤ k → s.xs ≡ [] → Left (suc k)
        stop le is = record {
          xs = [];
          distinct = tt;
          low = s.low;
          soonest = inl (omega (arith, le));
          bound = omega (arith, s.bound, ap (λ (xs : List ℕ). length xs * needed) is);
          were = λ x there. absurd there;
          waiting = λ x there. absurd there;
          key = key_on s;
        }

        by_left : s.low ≤ k → has_token doc q k place (queue_at doc q k) ≡ true → (xs : List ℕ) → s.xs ≡ xs → Left (suc k)
        by_left le is [] same = stop le same
        by_left le is (x ∷ xs) same =
            let found = s.waiting x (subst (Among x) (sym same) (inl refl)) in
            after_head s le x found.0 (spent doc own judges q k place here x found.0 found.1 is)

        by_token : (b : Bool) → has_token doc q k place (queue_at doc q k) ≡ b → Left (suc k)
        by_token true is = by_left (not_before k from (omega (arith, lt)) s is) is s.xs refl
        by_token false is = after_none s (idle doc own judges q k place is)

  go : Left m → (i : ℕ) → m + i ≤ t → Left (m + i)
  go start zero le = let same : m ≡ m + 0 = omega arith in subst Left same start
  go start (suc i) le = let same : suc (m + i) ≡ m + suc i = omega arith in subst Left same (step (m + i) (omega arith) (omega (arith, le)) (go start i (omega (arith, le))))

  -- at its own taint nobody ahead is left
  ends : LeavesTainted doc q place n t → Left t → m + ahead q place n (queue_at doc q m) * needed ≤ t
  ends leaves s = by_token (has_token doc q t place (queue_at doc q t)) refl
    where
      here_last : IsAttended doc q t
      here_last = attends t least (omega arith)

      key_now : waits_since q place n (queue_at doc q t) ≡ Some (queued q place n (queue_at doc q t))
      key_now = waits_is q place n (queue_at doc q t) leaves.0

      gone : waits_since q place n (served_at doc q t) ≡ None
      gone = waits_none q place n (served_at doc q t) leaves.1

      stays_not : waits_since q place n (served_at doc q t) ≡ waits_since q place n (queue_at doc q t) → ⊥
      stays_not same = none_is (queued q place n (queue_at doc q t)) (sym gone ∙ same ∙ key_now)

      not_after : (beat b x : ℕ) → at ≤ beat → IsBefore b x at n → Precedes beat n b x → ⊥
      not_after beat b x le (inl less) (inl lt) = omega (arith, le, less, lt)
      not_after beat b x le (inl less) (inr both) = omega (arith, le, less, both.0)
      not_after beat b x le (inr order) (inl lt) = omega (arith, le, order.0, lt)
      not_after beat b x le (inr order) (inr both) = omega (arith, order.1, both.1)

      of_head : (x b : ℕ) → IsBefore b x at n → (head : Spent doc own judges q t place x b (served_at doc q t)) → (n ≡ head.name) ⊎ (n ≡ head.name → ⊥) → ⊥
      of_head x b order head (inr differs) = stays_not (head.others n differs)
      of_head x b order head (inl same) =
          not_after head.beat b x (s.key head.beat (ap (λ n. waits_since q place n (queue_at doc q t)) same ∙ head.was)) order (subst (λ name. Precedes head.beat name b x) (sym same) head.first)

      by_left : s.low ≤ t → has_token doc q t place (queue_at doc q t) ≡ true → (xs : List ℕ) → s.xs ≡ xs → m + ahead q place n (queue_at doc q m) * needed ≤ t
      by_left le is [] same = omega (arith, le, s.bound, ap (λ (xs : List ℕ). length xs * needed) same)
      by_left le is (x ∷ xs) same =
          let found = s.waiting x (subst (Among x) (sym same) (inl refl)) in
          let head = spent doc own judges q t place here_last x found.0 found.1 is in
          absurd (of_head x found.0 found.2 head (cases_eq n head.name))

      by_token : (b : Bool) → has_token doc q t place (queue_at doc q t) ≡ b → m + ahead q place n (queue_at doc q m) * needed ≤ t
      by_token true is = by_left (not_before t least (omega arith) s is) is s.xs refl
      by_token false is = absurd (stays_not ((idle doc own judges q t place is).since n))

  start : is_waiting q place n (queue_at doc q m) ≡ true → Left m
  start waits_now = record {
    xs = filter test names;
    distinct = filter_distinct test names (node_names_ascend (queue_at doc q m));
    low = m;
    soonest = inl (omega arith);
    bound = omega (arith, ap (λ c. c * needed) (length-filter test names));
    were = λ x there. (filter_only test x names there).0;
    waiting = λ x there. of x (filter_only test x names there).0;
    key = λ b is. omega (arith, some_is at b (sym (waits_is q place n (queue_at doc q m) waits_now) ∙ is));
  }
    where
      test : ℕ → Bool
      test = is_ahead q place n (queue_at doc q m)

      names : List ℕ
      names = node_names (queue_at doc q m)

      order : (x key : ℕ) → (nat_lt key at || ((key == at) && nat_lt x n)) ≡ true → IsBefore key x at n
      order x key is = by_less (nat_lt key at) refl is
        where
          by_less : (b : Bool) → nat_lt key at ≡ b → (b || ((key == at) && nat_lt x n)) ≡ true → IsBefore key x at n
          by_less true less is = inl (ltb-true key at less)
          by_less false less is = inr (eqb-true key at (and_left (key == at) (nat_lt x n) is), ltb-true x n (and_right (key == at) (nat_lt x n) is))

      of : (x : ℕ) → is_ahead q place n (queue_at doc q m) x ≡ true → (b : ℕ) × (waits_since q place x (queue_at doc q m) ≡ Some b) × IsBefore b x at n
      of x is =
          let key = queued q place x (queue_at doc q m) in
          let later = nat_lt key at || ((key == at) && nat_lt x n) in
          (key, waits_is q place x (queue_at doc q m) (and_left (is_waiting q place x (queue_at doc q m)) later is), order x key (and_right (is_waiting q place x (queue_at doc q m)) later is))

pub taints_take_time : TaintsTakeTime
taints_take_time doc own judges empty q place n m t attends least waits_now leaves only rate fast interval needed keeps runs token time =
    let same : m + (t - m) ≡ t = omega (arith, least) in
    ends doc own judges empty q place n m t attends least only rate fast interval needed keeps runs token time leaves
    (subst (Left doc own judges empty q place n m t attends least only rate fast interval needed keeps runs token time) same
    (go doc own judges empty q place n m t attends least only rate fast interval needed keeps runs token time (start doc own judges empty q place n m t attends least only rate fast interval needed keeps runs token time waits_now) (t - m) (omega (arith, least))))
