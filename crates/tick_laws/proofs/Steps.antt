-- What each entry of a tick adds to the pods that the tick may look at.
use Rattle.std.proofs.Common.{◌≡◌, ◌⊎◌, inl, inr, ℕ, ◌+◌, ◌*◌, ◌≤◌, Bool, true, false, cond, List, [], ◌∷◌, length, Option, Some, refl, ap, arith}
use Rattle.kube_base.specs.declared.numbers.Version.{Version}
use Rattle.kube_objects.specs.declared.call.Answer.{Answer}
use Rattle.kube_objects.specs.declared.call.Answer.TheVariants as answer
use Rattle.kube_objects.specs.declared.key.Key.{Key}
use Rattle.kube_objects.specs.declared.key.Kind.{Kind}
use Rattle.kube_objects.specs.declared.key.Kind.TheVariants as kind
use Rattle.kube_objects.specs.declared.rules.EvictRule.{EvictRule}
use Rattle.kube_objects.specs.declared.rules.EvictRule.TheVariants as evictions
use Rattle.kube_objects.specs.Entry.{Entry, Identity, Tick, Sync, Delete}
use Rattle.kube_objects.specs.Seen.{is_pod}
use Rattle.kube_objects.specs.Stored.{tick_write}
use Rattle.kube_objects.specs.Tainting.{is_tick_of, before_tick}
use Rattle.kube_objects.specs.Tick.{add}
use Rattle.history_laws.proofs.Plainly.{false_is}
use Rattle.tick_laws.specs.Since.{keys_since}
use Rattle.tick_laws.specs.Steps.{pods_on, kind_cost, write_costs, back_kind, back_costs, back_by, own_cost, entry_cost, fact_cost, tick_cost}
use Rattle.tick_laws.specs.Ticked.{IsTicked}
use Rattle.tick_laws.specs.ToJudge.{has_new_taints, is_back, is_to_judge}
use Rattle.tick_laws.proofs.Ticked.{is_own_tick, before_short, ticked_keeps}
use Rattle.watch_cache.proofs.Ticks.{is_sync}

module _ (q : Identity) (k : ℕ) (h : List Entry) where
  pub cost_added : (t : Tick) → tick_cost q k (add k q t h) ≡ entry_cost q h (add k q t h) t + tick_cost q k h
  cost_added t = ap (λ b. elim b [ true ↦ entry_cost q h (add k q t h) t + tick_cost q k h | false ↦ 0 ]) (is_own_tick q k t)

  pub cost_grows : (t : Tick) → tick_cost q k h ≤ tick_cost q k (add k q t h)
  cost_grows t = omega (arith, cost_added t)

  -- a sync
  pub cost_sync : tick_cost q k (add k q Sync h)
      ≡ (length (keys_since q h) + 2 * write_costs q (is_to_judge q h (add k q Sync h)) (add k q Sync h) (keys_since q h)) + tick_cost q k h
  cost_sync = cost_added Sync

  -- an own write
  own_least : (g : List Entry) (t : Tick) → is_sync t ≡ false → own_cost q h g (tick_write t) ≤ entry_cost q h g t
  own_least g Sync other = omega arith
  own_least g (Delete pod given node_given at a) other = omega arith
  own_least g t other = omega arith

  pub cost_own : (t : Tick) → is_sync t ≡ false → own_cost q h (add k q t h) (tick_write t) + tick_cost q k h ≤ tick_cost q k (add k q t h)
  cost_own t other = omega (arith, cost_added t, own_least (add k q t h) t other)

  -- a delete
  pub cost_delete : (pod : Key) (given node_given : Version) (at : ℕ) (a : Option Answer) → 2 + tick_cost q k h ≤ tick_cost q k (add k q (Delete pod given node_given at a) h)
  cost_delete pod given node_given at a = omega (arith, cost_added (Delete pod given node_given at a))

  pub cost_gone : (pod : Key) (given node_given : Version) (at : ℕ) (v : Version) → is_pod pod.kind ≡ true
      → 4 + tick_cost q k h ≤ tick_cost q k (add k q (Delete pod given node_given at (Some (answer.Done v))) h)
  cost_gone pod given node_given at v is = omega (arith, cost_added (Delete pod given node_given at (Some (answer.Done v))), by_kind pod.kind is)
    where
      gone : List Entry
      gone = add k q (Delete pod given node_given at (Some (answer.Done v))) h

      by_kind : (x : Kind) → is_pod x ≡ true → kind_cost q (has_new_taints q h gone) gone pod.name x ≡ 1
      by_kind kind.Node is = absurd (false_is is)
      by_kind kind.Lease is = absurd (false_is is)
      by_kind kind.Pod is = refl

-- a test that more nodes pass counts no less
pub costs_grow : (q : Identity) (h : List Entry) (test more : ℕ → Bool) → ((n : ℕ) → test n ≡ true → more n ≡ true) → (keys : List Key)
    → write_costs q test h keys ≤ write_costs q more h keys
costs_grow q h test more all [] = omega arith
costs_grow q h test more all (key ∷ keys) = omega (arith, by_kind key.kind, costs_grow q h test more all keys)
  where
    by_test : (a b : Bool) (n : ℕ) → (a ≡ true → b ≡ true) → cond a n 0 ≤ cond b n 0
    by_test true true n passes = omega arith
    by_test true false n passes = absurd (false_is (passes refl))
    by_test false b n passes = omega arith

    by_kind : (x : Kind) → kind_cost q test h key.name x ≤ kind_cost q more h key.name x
    by_kind kind.Node = by_test (test key.name) (more key.name) (pods_on q key.name h) (all key.name)
    by_kind kind.Lease = omega arith
    by_kind kind.Pod = omega arith

-- one that passes for either reason counts for one of them
pub costs_part : (q : Identity) (h : List Entry) (test one other : ℕ → Bool) → ((n : ℕ) → test n ≡ true → (one n ≡ true) ⊎ (other n ≡ true)) → (keys : List Key)
    → write_costs q test h keys ≤ write_costs q one h keys + back_costs q other h keys
costs_part q h test one other all [] = omega arith
costs_part q h test one other all (key ∷ keys) = omega (arith, by_kind key.kind, costs_part q h test one other all keys)
  where
    by_test : (a b c : Bool) (n : ℕ) → (a ≡ true → (b ≡ true) ⊎ (c ≡ true)) → cond a n 0 ≤ cond b n 0 + cond c n 0
    by_test false b c n passes = omega arith
    by_test true true c n passes = omega arith
    by_test true false true n passes = omega arith
    by_test true false false n passes = none (passes refl)
      where
        none : (false ≡ true) ⊎ (false ≡ true) → n ≤ 0
        none (inl is) = absurd (false_is is)
        none (inr is) = absurd (false_is is)

    by_kind : (x : Kind) → kind_cost q test h key.name x ≤ kind_cost q one h key.name x + back_kind q other h key.name x
    by_kind kind.Node = by_test (test key.name) (one key.name) (other key.name) (pods_on q key.name h) (all key.name)
    by_kind kind.Lease = omega arith
    by_kind kind.Pod = omega arith

-- what a sync may judge, by either rule
pub sync_costs : (rule : EvictRule) (q : Identity) (h g : List Entry) (test : ℕ → Bool) → ((n : ℕ) → test n ≡ true → (is_to_judge q h g n ≡ true) ⊎ (is_back rule q h g n ≡ true))
    → 2 * write_costs q test g (keys_since q h) ≤ 2 * write_costs q (is_to_judge q h g) g (keys_since q h) + back_by rule q h g
sync_costs evictions.Added q h g test all = let grows = costs_grow q g test (is_to_judge q h g) alone (keys_since q h) in omega (arith, grows)
  where
    by_either : (n : ℕ) → (is_to_judge q h g n ≡ true) ⊎ (false ≡ true) → is_to_judge q h g n ≡ true
    by_either n (inl is) = is
    by_either n (inr is) = absurd (false_is is)

    alone : (n : ℕ) → test n ≡ true → is_to_judge q h g n ≡ true
    alone n passes = by_either n (all n passes)
sync_costs evictions.Seen q h g test all = let part = costs_part q g test (is_to_judge q h g) (is_back evictions.Seen q h g) all (keys_since q h) in omega (arith, part)

-- a phase adds to it, and takes nothing away
pub cost_ticked : (q : Identity) (k : ℕ) (h g : List Entry) → IsTicked q k h g → tick_cost q k h ≤ tick_cost q k g
cost_ticked q k h g s = ticked_keeps q k (λ g. tick_cost q k h ≤ tick_cost q k g) (λ t g le. omega (arith, le, cost_grows q k g t)) h g s (omega arith)

-- ---- a tick begins with nothing

pub cost_start : (q : Identity) (k : ℕ) (h : List Entry) → before_tick q k h ≡ h → tick_cost q k h ≡ 0
cost_start q k [] is = refl
cost_start q k (e ∷ h) is = by_test (is_tick_of q k e.beat e.actor e.fact) is
  where
    by_test : (b : Bool) → ◌≡◌ {A = List Entry} (elim b [ true ↦ before_tick q k h | false ↦ e ∷ h ]) (e ∷ h) → ◌≡◌ {A = ℕ} (elim b [ true ↦ fact_cost q h (e ∷ h) e.fact + tick_cost q k h | false ↦ 0 ]) 0
    by_test true same = absurd (omega (arith, before_short q k h, ap length same))
    by_test false same = refl
