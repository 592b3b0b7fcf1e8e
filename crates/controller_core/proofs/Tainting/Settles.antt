-- Settling who waits.
use Rattle.std.proofs.Common.{◌≡◌, ◌∙◌, ℕ, ◌<◌, ◌==◌, Bool, true, false, cond, List, Option, Some, None, refl, sym, ap, subst, arith, unwrap_or}
use Rattle.std.proofs.lemmas.Bool.{eqb-true}
use Rattle.std.proofs.lemmas.Bool.Decides.{nat_tests}
use Rattle.std.specs.Ordering.{nat_cmp}
use Rattle.kube_base.specs.declared.numbers.Version.{Version}
use Rattle.kube_objects.specs.declared.node.Node.{Node}
use Rattle.kube_objects.specs.Entry as entry
use Rattle.kube_objects.specs.Entry.{Entry, Identity}
use Rattle.kube_objects.specs.Modes.{is_in, mode}
use Rattle.kube_objects.specs.Newest.{has, only_if}
use Rattle.kube_objects.specs.Seen.{seen_node}
use Rattle.kube_objects.specs.Tainting.{before_tick, lacks, lacks_in, queued, waits}
use Rattle.history_laws.proofs.Plainly.{false_is}
use Rattle.taint_zones.specs.declared.place.Place.{Place}
use Rattle.taint_zones.specs.declared.queues.Queues.{Queues}
use Rattle.taint_zones.specs.Places.{of_place}
use Rattle.taint_zones.specs.Waiting.{moved_in, since}
use Rattle.tick_laws.specs.Judged.{key_if, waits_since}
use Rattle.tick_laws.specs.Rows.{no_heads, settled}
use Rattle.tick_laws.specs.Walks.{is_after}
use Rattle.tick_laws.proofs.Waiting.{settle}
use Rattle.term_state.specs.ClusterStands.{has_moved}
use Rattle.term_state.specs.declared.cluster.Cluster.{Cluster}
use Rattle.term_state.specs.Queues.{IsNextAfter}
use Rattle.term_state.specs.MidTick.{IsMoved}
use Rattle.controller_core.specs.QueuesStand.{QueuesStand}
use Rattle.controller_core.specs.Settling.{IsWaitingIn, is_zone}
use Rattle.controller_core.proofs.Cursors.{after_is, comes_later, is_later}

-- ---- where a node waits

pub not_seen : (q : Identity) (h : List Entry) (name : ℕ) → seen_node q name h ≡ None → IsWaitingIn q h name None
not_seen q h name none zone = ap (λ o. has (lacks_in (mode q h) zone o)) none

pub not_lacking : (q : Identity) (h : List Entry) (name : ℕ) (x : Version × Node) → seen_node q name h ≡ Some x → lacks (mode q h) x.1 ≡ None → IsWaitingIn q h name None
not_lacking q h name x sees none zone =
    ap (λ o. has (lacks_in (mode q h) zone o)) sees ∙ ap (λ o. has (only_if (is_in zone x.1) o)) none ∙ by_test (is_in zone x.1)
  where
    by_test : (b : Bool) → has {A = ℕ} (only_if b None) ≡ false
    by_test true = refl
    by_test false = refl

pub lacking_in : (q : Identity) (h : List Entry) (name wanted : ℕ) (x : Version × Node) → seen_node q name h ≡ Some x → lacks (mode q h) x.1 ≡ Some wanted
    → IsWaitingIn q h name (Some (record { region = x.1.region; zone = x.1.zone }))
lacking_in q h name wanted x sees is zone =
    ap (λ o. has (lacks_in (mode q h) zone o)) sees ∙ ap (λ o. has (only_if (is_in zone x.1) o)) is ∙ by_test (is_in zone x.1)
  where
    by_test : (b : Bool) → has (only_if b (Some wanted)) ≡ b
    by_test true = refl
    by_test false = refl

-- ---- the walk over the nodes that moved; those after the cursor are as before the tick

abbrev pub AreSettled : Identity → ℕ → List Entry → Option ℕ → Queues → Type 0
AreSettled q k h c queues = (place : entry.Place) (n : ℕ)
    → since queues (of_place place) n ≡ cond (is_after nat_cmp c n) (waits_since q place n (before_tick q k h)) (waits_since q place n h)

-- a node that waits as before the tick does so since when it did
pub unmoved : (q : Identity) (k : ℕ) (h : List Entry) (place : entry.Place) (n : ℕ) → no_heads q k h ≡ true → waits q place n h ≡ waits q place n (before_tick q k h)
    → waits_since q place n h ≡ waits_since q place n (before_tick q k h)
unmoved q k h place n none same =
    settle q k place n h none
    ∙ ap (λ o. settled o k (waits_since q place n (before_tick q k h))) same
    ∙ by_now (waits q place n (before_tick q k h)) (queued q place n (before_tick q k h))
  where
    by_now : (o : Option ℕ) (at : ℕ) → settled o k (key_if o at) ≡ key_if o at
    by_now None at = refl
    by_now (Some wanted) at = refl

-- the node that is settled
settled_here : (o : Option ℕ) (place : Option Place) (zone : Place) (k : ℕ) (old : Option ℕ) → has o ≡ is_zone place zone → moved_in place zone k old ≡ settled o k old
settled_here None None zone k old is = refl
settled_here (Some wanted) None zone k old is = absurd (false_is (sym is))
settled_here None (Some place) zone k old is = ap (λ b. cond b (Some (unwrap_or old k)) None) (sym is)
settled_here (Some wanted) (Some place) zone k old is = ap (λ b. cond b (Some (unwrap_or old k)) None) (sym is) ∙ by_old old
  where
    by_old : (old : Option ℕ) → Some (unwrap_or old k) ≡ settled (Some wanted) k old
    by_old None = refl
    by_old (Some at) = refl

not_after_itself : (n : ℕ) → is_after nat_cmp (Some n) n ≡ false
not_after_itself n = grind (arith, nat_tests)

past_is : (c n : ℕ) → is_after nat_cmp (Some c) n ≡ true → c < n
past_is c n is = grind (arith, nat_tests)

before_it : (c n : ℕ) → (c == n) ≡ false → is_after nat_cmp (Some c) n ≡ false → n < c
before_it c n apart is = grind (arith, nat_tests)

module _ (q : Identity) (k : ℕ) (h : List Entry) (cluster : Cluster) (none : no_heads q k h ≡ true) (moved : IsMoved q k h cluster) where
  pub begin_settling : (queues : Queues) → QueuesStand q (before_tick q k h) queues → AreSettled q k h None queues
  begin_settling queues s place n = s place n

  pub next_settled : (c : Option ℕ) (n at : ℕ) (place : Option Place) (old new : Queues) → AreSettled q k h c old → IsNextAfter (has_moved cluster) c (Some n) → IsWaitingIn q h n place → at ≡ k
      → ((zone : Place) (other : ℕ) → since new zone other ≡ cond (n == other) (moved_in place zone at (since old zone n)) (since old zone other))
      → AreSettled q k h (Some n) new
  next_settled c n at place old new s (later, there, between) waiting is now zone m = now (of_place zone) m ∙ by_name (n == m) refl
    where
      here : moved_in place (of_place zone) at (since old (of_place zone) n) ≡ cond (is_after nat_cmp (Some n) n) (waits_since q zone n (before_tick q k h)) (waits_since q zone n h)
      here =
          ap (λ b. moved_in place (of_place zone) b (since old (of_place zone) n)) is
          ∙ ap (moved_in place (of_place zone) k) (s zone n ∙ ap (λ b. cond b (waits_since q zone n (before_tick q k h)) (waits_since q zone n h)) (after_is c n later))
          ∙ settled_here (waits q zone n h) place (of_place zone) k (waits_since q zone n (before_tick q k h)) (waiting zone)
          ∙ sym (settle q k zone n h none)
          ∙ ap (λ b. cond b (waits_since q zone n (before_tick q k h)) (waits_since q zone n h)) (sym (not_after_itself n))

      by_past : (n == m) ≡ false → (b : Bool) → is_after nat_cmp (Some n) m ≡ b → since old (of_place zone) m ≡ cond b (waits_since q zone m (before_tick q k h)) (waits_since q zone m h)
      by_past apart true past =
          s zone m ∙ ap (λ b. cond b (waits_since q zone m (before_tick q k h)) (waits_since q zone m h)) (after_is c m (comes_later c n m later (past_is n m past)))
      by_past apart false past = s zone m ∙ by_cursor (is_after nat_cmp c m) refl
        where
          by_cursor : (b : Bool) → is_after nat_cmp c m ≡ b → cond b (waits_since q zone m (before_tick q k h)) (waits_since q zone m h) ≡ waits_since q zone m h
          by_cursor false test = refl
          by_cursor true test = sym (unmoved q k h zone m none (moved m (between m (is_later c m test) (before_it n m apart past)) zone))

      by_name : (b : Bool) → (n == m) ≡ b → cond b (moved_in place (of_place zone) at (since old (of_place zone) n)) (since old (of_place zone) m)
          ≡ cond (is_after nat_cmp (Some n) m) (waits_since q zone m (before_tick q k h)) (waits_since q zone m h)
      by_name false apart = by_past apart (is_after nat_cmp (Some n) m) refl
      by_name true same =
          subst (λ m. moved_in place (of_place zone) at (since old (of_place zone) n) ≡ cond (is_after nat_cmp (Some n) m) (waits_since q zone m (before_tick q k h)) (waits_since q zone m h))
          (eqb-true n m same) here

  pub end_settling : (c : Option ℕ) (queues : Queues) → AreSettled q k h c queues → IsNextAfter (has_moved cluster) c None → QueuesStand q h queues
  end_settling c queues s end place n = s place n ∙ by_cursor (is_after nat_cmp c n) refl
    where
      by_cursor : (b : Bool) → is_after nat_cmp c n ≡ b → cond b (waits_since q place n (before_tick q k h)) (waits_since q place n h) ≡ waits_since q place n h
      by_cursor false test = refl
      by_cursor true test = sym (unmoved q k h place n none (moved n (end n (is_later c n test)) place))
