-- What own entries of one tick keep, and that each phase of a tick adds no others.
use Rattle.std.proofs.Common.{◌≡◌, ◌∙◌, ℕ, ◌&&◌, Bool, true, false, List, [], ◌∷◌, Option, Some, None, refl, sym, ap, subst, arith, length, ◌≤◌}
use Rattle.std.specs.Prelude.{if◌then◌else◌}
use Rattle.std.proofs.lemmas.Bool.{eq-eqb}
use Rattle.std.specs.Ordering.{nat_cmp}
use Rattle.kube_base.specs.declared.numbers.Version.{Version}
use Rattle.kube_objects.specs.declared.key.Key.{Key}
use Rattle.kube_objects.specs.declared.node.Node.{Node}
use Rattle.kube_objects.specs.Document.{Doc}
use Rattle.kube_objects.specs.Entry.{Entry, Identity, Place, Ticks, Tick, Sync, Delete, actor_of}
use Rattle.kube_objects.specs.Identities.{is_by}
use Rattle.kube_objects.specs.InForce.{watches}
use Rattle.kube_objects.specs.Judgement.{Passed}
use Rattle.kube_objects.specs.Keys.{key_cmp}
use Rattle.kube_objects.specs.Seen.{is_synced, named, node_name, pod_key, node_names, pod_keys, seen_node}
use Rattle.kube_objects.specs.Stored.{tick_write}
use Rattle.kube_objects.specs.Tainting.{is_tick_of, before_tick, waits, Queued, head_of}
use Rattle.kube_objects.specs.Tick.{add, sync, pass, clean, cleaned, taint_as, taint_head, taint, tainted, evict, evicted, judge, taint_first}
use Rattle.kube_objects.specs.Tokens.{has_token}
use Rattle.kube_objects.specs.Wire.{loses_requests}
use Rattle.history_laws.proofs.Ticks.{walk_sync, walk_pass, walk_cleaned, walk_tainted, walk_evicted}
use Rattle.history_laws.proofs.Named.{named_keeps}
use Rattle.tick_laws.specs.Ticked.{ticked, IsTicked}
use Rattle.tick_laws.specs.Walks.{Among}
use Rattle.tick_laws.proofs.Cleaning.{clean_either}
use Rattle.tick_laws.proofs.Evicting.{evict_either}
use Rattle.tick_laws.proofs.Frames.{own_synced}
use Rattle.tick_laws.proofs.Judging.{judge_either}
use Rattle.tick_laws.proofs.Orders.{names_strict, keys_strict}
use Rattle.tick_laws.proofs.Syncing.{sync_synced}
use Rattle.watch_cache.proofs.Ticks.{same_self}

-- ---- own entries on top of own entries

pub ticked_same : (q : Identity) (k : ℕ) (h : List Entry) → IsTicked q k h h
ticked_same q k h = record { ticks = []; is = refl }

pub ticked_more : (q : Identity) (k : ℕ) (h g : List Entry) (t : Tick) → IsTicked q k h g → IsTicked q k h (add k q t g)
ticked_more q k h g t s = record { ticks = t ∷ s.ticks; is = ap (add k q t) s.is }

-- what holds at first and is kept by each entry
pub ticked_keeps : (q : Identity) (k : ℕ) (P : List Entry → Type 0) → ((t : Tick) (g : List Entry) → P g → P (add k q t g)) → (h g : List Entry) → IsTicked q k h g → P h → P g
ticked_keeps q k P more h g s p = subst P (sym s.is) (each s.ticks)
  where
    each : (ts : List Tick) → P (ticked k q ts h)
    each [] = p
    each (t ∷ ts) = more t (ticked k q ts h) (each ts)

pub ticked_then : (q : Identity) (k : ℕ) (h g i : List Entry) → IsTicked q k h g → IsTicked q k g i → IsTicked q k h i
ticked_then q k h g i s t = ticked_keeps q k (IsTicked q k h) (λ tick f. ticked_more q k h f tick) g i t s

-- ---- what they keep

pub is_own_tick : (q : Identity) (k : ℕ) (t : Tick) → is_tick_of q k k (actor_of q) (Ticks t) ≡ true
is_own_tick q k t = ap (λ b. b && is_by q (actor_of q)) (eq-eqb k k refl) ∙ same_self q

pub own_before : (q : Identity) (k : ℕ) (t : Tick) (h : List Entry) → before_tick q k (add k q t h) ≡ before_tick q k h
own_before q k t h = ap (λ b. elim b [ true ↦ before_tick q k h | false ↦ add k q t h ]) (is_own_tick q k t)

pub before_short : (q : Identity) (k : ℕ) (h : List Entry) → length (before_tick q k h) ≤ length h
before_short q k [] = omega arith
before_short q k (e ∷ h) = by_test (is_tick_of q k e.beat e.actor e.fact) (before_short q k h)
  where
    by_test : (b : Bool) → length (before_tick q k h) ≤ length h → length {A = Entry} (elim b [ true ↦ before_tick q k h | false ↦ e ∷ h ]) ≤ length (e ∷ h)
    by_test true le = omega (arith, le)
    by_test false le = omega arith

module _ (q : Identity) (k : ℕ) (h g : List Entry) (s : IsTicked q k h g) where
  pub ticked_before : before_tick q k g ≡ before_tick q k h
  ticked_before = ticked_keeps q k (λ g. before_tick q k g ≡ before_tick q k h) (λ t g is. own_before q k t g ∙ is) h g s refl

  pub ticked_losses : (p : ℕ) → loses_requests p g ≡ loses_requests p h
  ticked_losses p = ticked_keeps q k (λ g. loses_requests p g ≡ loses_requests p h) (λ t g is. is) h g s refl

  pub ticked_watches : (doc : Doc) (p : ℕ) → watches doc p g ≡ watches doc p h
  ticked_watches doc p = ticked_keeps q k (λ g. watches doc p g ≡ watches doc p h) (λ t g is. is) h g s refl

  pub ticked_node_names : (n : ℕ) → Among n (node_names h) → Among n (node_names g)
  ticked_node_names n there = ticked_keeps q k (λ g. Among n (node_names g)) (λ t g. named_keeps nat_cmp names_strict.same node_name n (named node_name (tick_write t)) (node_names g)) h g s there

  pub ticked_pod_keys : (key : Key) → Among key (pod_keys h) → Among key (pod_keys g)
  ticked_pod_keys key there = ticked_keeps q k (λ g. Among key (pod_keys g)) (λ t g. named_keeps key_cmp keys_strict.same pod_key key (named pod_key (tick_write t)) (pod_keys g)) h g s there

  -- a term that has synced stays so
  pub ticked_synced : is_synced q h ≡ true → is_synced q g ≡ true
  ticked_synced = ticked_keeps q k (λ g. is_synced q g ≡ true) more h g s
    where
      more : (t : Tick) (g : List Entry) → is_synced q g ≡ true → is_synced q (add k q t g) ≡ true
      more Sync g is = sync_synced q k g
      more t g is = own_synced q k g t refl ∙ is

-- ---- the phases

module _ (doc : Doc) (k : ℕ) (q : Identity) where
  pub sync_ticked : (h : List Entry) → IsTicked q k h (sync doc k q h)
  sync_ticked h = walk_sync doc k q (IsTicked q k h) (λ t g made. ticked_more q k h g t) h (ticked_same q k h)

  pub pass_ticked : (h : List Entry) → IsTicked q k h (pass doc k q h)
  pass_ticked h = walk_pass doc k q (IsTicked q k h) (λ t g made. ticked_more q k h g t) h (ticked_same q k h)

  pub cleaned_ticked : (h : List Entry) → IsTicked q k h (cleaned doc k q h)
  cleaned_ticked h = walk_cleaned doc k q (IsTicked q k h) (λ t g made. ticked_more q k h g t) h (ticked_same q k h)

  pub tainted_ticked : (h : List Entry) → IsTicked q k h (tainted doc k q h)
  tainted_ticked h = walk_tainted doc k q (IsTicked q k h) (λ t g made. ticked_more q k h g t) h (ticked_same q k h)

  pub evicted_ticked : (h : List Entry) → IsTicked q k h (evicted doc k q h)
  evicted_ticked h = walk_evicted doc k q (IsTicked q k h) (λ t g made. ticked_more q k h g t) h (ticked_same q k h)

  -- and their steps

  pub clean_ticked : (name : ℕ) (h : List Entry) → IsTicked q k h (clean doc k q name h)
  clean_ticked name h = clean_either doc k q name h (IsTicked q k h) (ticked_same q k h) (λ t written a is given. ticked_more q k h h t (ticked_same q k h))

  pub judge_ticked : (x : Passed) (name : ℕ) (h : List Entry) → IsTicked q k h (judge doc k q x name h)
  judge_ticked x name h = judge_either doc k q x name h (IsTicked q k h) (ticked_same q k h) (λ t written a is given. ticked_more q k h h t (ticked_same q k h))

  pub evict_ticked : (pod : Key) (h : List Entry) → IsTicked q k h (evict doc k q pod h)
  evict_ticked pod h = evict_either doc k q pod h (IsTicked q k h) (ticked_same q k h) (λ given node_given at a. ticked_more q k h h (Delete pod given node_given at a) (ticked_same q k h))

  pub taint_ticked : (place : Place) (h : List Entry) → IsTicked q k h (taint doc k q place h)
  taint_ticked place h = by_token (has_token doc q k place h)
    where
      by_seen : (name : ℕ) (o : Option ℕ) (x : Option (Version × Node)) → IsTicked q k h (taint_as doc k q place name o x h)
      by_seen name None x = ticked_same q k h
      by_seen name (Some wanted) None = ticked_same q k h
      by_seen name (Some wanted) (Some x) = ticked_more q k h h _ (ticked_same q k h)

      by_head : (o : Option Queued) → IsTicked q k h (taint_head doc k q place o h)
      by_head None = ticked_same q k h
      by_head (Some head) = by_seen head.1 (waits q place head.1 h) (seen_node q head.1 h)

      by_token : (b : Bool) → IsTicked q k h (if b then taint_first doc k q place h else h)
      by_token false = ticked_same q k h
      by_token true = by_head (head_of q place (node_names h) h)
