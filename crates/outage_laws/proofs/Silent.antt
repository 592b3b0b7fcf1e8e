-- From the last pass that hears of a node to its mark, under the project's own rules.
use Rattle.std.proofs.Common.{◌≡◌, ◌≤◌, ◌<◌, ℕ, zero, suc, ◌+◌, ◌-◌, ◌&&◌, not, Bool, true, false, List, ◌∷◌, Option, Some, None, refl, sym, ap, ◌∙◌, subst, inr, ⊎_elim, arith, if◌then◌else◌}
use Rattle.std.specs.Prelude.{if◌then◌else◌}
use Rattle.std.proofs.lemmas.Bool.{cases_eq}
use Rattle.kube_base.specs.declared.numbers.Version.{Version}
use Rattle.kube_objects.specs.declared.call.Answer.TheVariants as answer
use Rattle.kube_objects.specs.declared.node.Node.{Node}
use Rattle.kube_objects.specs.Answers.{versioned, as_kind, node_in}
use Rattle.kube_objects.specs.Clocks.{local}
use Rattle.kube_objects.specs.Document.{Doc}
use Rattle.kube_objects.specs.Entry.{Entry, Identity, Ticks, Tick, Sync, Pass, Mark, entry}
use Rattle.kube_objects.specs.Health.{is_found, hears}
use Rattle.kube_objects.specs.InForce.{watches}
use Rattle.kube_objects.specs.Newest.{has}
use Rattle.kube_objects.specs.Own.{ReleasesByStop, ProbesByRun}
use Rattle.kube_objects.specs.Seen.{is_fresh, node_names}
use Rattle.kube_objects.specs.Stored.{Held, node_key, stored}
use Rattle.kube_objects.specs.Tick.{add, has_settled, marks, set_mode, set_zones, whole_pass, evicted, tainted, cleaned}
use Rattle.kube_objects.specs.Wire.{loses_requests}
use Rattle.history.specs.Evictions.{after_turn, stored_node}
use Rattle.history.specs.History.{history, at_turn}
use Rattle.history.specs.Steps.{elector_turn}
use Rattle.history_laws.specs.Tails.{IsTail}
use Rattle.history_laws.proofs.Plainly.{true_is, false_is}
use Rattle.history_laws.proofs.Tailed.{tail_all, tail_trans, turn_tail}
use Rattle.eviction_laws.proofs.Cache.{Mirrors, mirrors_sync, mirrors_more, fresh}
use Rattle.outage_laws.specs.Attended.{IsAttended, Attends}
use Rattle.outage_laws.specs.Passes.{synced_at, has_pass}
use Rattle.outage_laws.specs.Marked.{grace_period, IsPosted, StaysPosted, IsMarked, IsLastHeard, NodesAreMarked}
use Rattle.outage_laws.proofs.Turns.{ready, to_tick, next_turn, below_processes}
use Rattle.outage_laws.proofs.Rest.{is_pass, keep_later, keep_passed, keep_mode, keep_zones}
use Rattle.outage_laws.proofs.Passes.{turn_phases, passes_find}
use Rattle.history_laws.proofs.Named.{named_node}
use Rattle.outage_laws.proofs.Marked.{Heard, foreign_heard, own_heard, passed, Stands, stands_more, reach}

-- ---- a tick's sync

record Synced (q : Identity) (h : List Entry) : Type 0 where
  mirrors : Mirrors q h
  passes : loses_requests q.process h ≡ false

module _ (doc : Doc) (own : ReleasesByStop doc) (q : Identity) (k : ℕ) (attended : IsAttended doc q k) where
  abbrev begun : List Entry
  begun = elector_turn doc k q.process (at_turn doc q.process k)

  synced : Synced q (synced_at doc q k)
  synced =
      subst (λ b. Synced q (if (b && (watches doc q.process begun && not (is_fresh q begun))) then add k q Sync begun else begun)) (sym (ready doc own q k attended).settled)
      (subst (λ b. Synced q (if (b && not (is_fresh q begun)) then add k q Sync begun else begun)) (sym (ready doc own q k attended).watching) (by_test (is_fresh q begun) refl))
    where
      by_test : (b : Bool) → is_fresh q begun ≡ b → Synced q (if (not b) then add k q Sync begun else begun)
      by_test true is = record { mirrors = fresh q begun is; passes = (ready doc own q k attended).passing }
      by_test false is = record { mirrors = mirrors_sync q begun k; passes = (ready doc own q k attended).passing }

  heard_sync : (name a : ℕ) → Heard q name a (at_turn doc q.process k) → Heard q name a (synced_at doc q k)
  heard_sync name a s = by_test (has_settled doc k q begun && (watches doc q.process begun && not (is_fresh q begun)))
    where
      at_tick : Heard q name a begun
      at_tick = to_tick doc own q (Heard q name a) (foreign_heard q name a) k attended s

      by_test : (b : Bool) → Heard q name a (if b then add k q Sync begun else begun)
      by_test true = record { probe = at_tick.probe; known = at_tick.known }
      by_test false = at_tick

  found : (name : ℕ) → IsPosted (stored_node name (synced_at doc q k)) → is_found q name (synced_at doc q k) ≡ true
  found name posted = ap (λ o. has (as_kind node_in o)) (synced.mirrors (node_key name)) ∙ by_stored (stored_node name (synced_at doc q k)) posted
    where
      by_stored : (o : Option (Version × Node)) → IsPosted o → has o ≡ true
      by_stored None posted = absurd posted
      by_stored (Some x) posted = refl

  -- the turn stands in the history
  in_history : IsTail (after_turn doc q.process k) (history doc (suc k))
  in_history = turn_tail doc (suc q.process) k (below_processes doc q k attended)

  below : (x : Entry) (h g : List Entry) → IsTail (x ∷ h) g → IsTail h g
  below x h g at = tail_trans h (x ∷ h) g (inr (tail_all h)) at

  -- the entries of the tick but its pass leave when the node was heard of
  module _ (name a e : ℕ) (from : a ≤ k) (to : k ≤ e) (s : IsLastHeard doc q name a e) where
    abbrev InBeat : List Entry → Type 0
    InBeat h = IsTail h (history doc (suc k)) → Heard q name a h

    one : (t : Tick) → is_pass t ≡ false → (h : List Entry) → InBeat h → InBeat (add k q t h)
    one t other h old at = own_heard q name a k t h other (λ is. ⊎_elim (λ same. sym same) (λ differs. absurd (s.mode k h (omega (arith, from, differs)) to (subst (λ t. IsTail (add k q t h) (history doc (suc k))) is at))) (cases_eq a k)) (old (below _ h (history doc (suc k)) at))

    with_pass : has_pass doc q k ≡ true → Heard q name a (add k q Pass (synced_at doc q k)) → Heard q name a (after_turn doc q.process k)
    with_pass due heard =
        let h = synced_at doc q k in
        let e = turn_phases doc own q k attended ∙ ap (λ b. evicted doc k q (tainted doc k q (cleaned doc k q (if b then whole_pass doc k q h else h)))) due in
        subst (Heard q name a) (sym e) (keep_passed doc k q InBeat one (add k q Pass h) (λ at. heard) (subst (λ g. IsTail g (history doc (suc k))) e in_history))

    without_pass : has_pass doc q k ≡ false → Heard q name a (synced_at doc q k) → Heard q name a (after_turn doc q.process k)
    without_pass missing heard =
        let h = synced_at doc q k in
        let e = turn_phases doc own q k attended ∙ ap (λ b. evicted doc k q (tainted doc k q (cleaned doc k q (if b then whole_pass doc k q h else h)))) missing in
        subst (Heard q name a) (sym e) (keep_later doc k q InBeat one h (λ at. heard) (subst (λ g. IsTail g (history doc (suc k))) e in_history))

    -- with the entry of the pass
    at_pass : has_pass doc q k ≡ true → IsPosted (stored_node name (synced_at doc q k)) → (a < k → Heard q name a (synced_at doc q k)) → Heard q name a (add k q Pass (synced_at doc q k))
    at_pass due posted old = ⊎_elim first later (cases_eq a k)
      where
        first : a ≡ k → Heard q name a (add k q Pass (synced_at doc q k))
        first is = passed q name a k (synced_at doc q k) (found name posted) true (subst (λ k. hears q name (synced_at doc q k) ≡ true) is s.heard) (λ b. sym is, λ b. absurd (true_is b))

        later : (a ≡ k → ⊥) → Heard q name a (add k q Pass (synced_at doc q k))
        later differs = let lt : a < k = omega (arith, from, differs) in
            passed q name a k (synced_at doc q k) (found name posted) false (s.silent k lt to due) (λ b. absurd (false_is b), λ b. old lt)

    after : IsPosted (stored_node name (synced_at doc q k)) → (a < k → Heard q name a (at_turn doc q.process k)) → Heard q name a (at_turn doc q.process (suc k))
    after posted old = next_turn doc own q (Heard q name a) (foreign_heard q name a) k (below_processes doc q k attended) (by_pass (has_pass doc q k) refl)
      where
        by_pass : (b : Bool) → has_pass doc q k ≡ b → Heard q name a (after_turn doc q.process k)
        by_pass true due = with_pass due (at_pass due posted (λ lt. heard_sync name a (old lt)))
        by_pass false missing = ⊎_elim (λ is. absurd (false_is (sym missing ∙ subst (λ k. has_pass doc q k ≡ true) is s.pass))) (λ differs. without_pass missing (heard_sync name a (old (omega (arith, from, differs))))) (cases_eq a k)

    -- the mark
    marks_now : ProbesByRun doc → has_pass doc q k ≡ true → a < k → IsPosted (stored_node name (synced_at doc q k)) → Heard q name a (at_turn doc q.process k) → local doc q.process a + (grace_period doc + 1) ≤ local doc q.process k → IsMarked doc q name k
    marks_now by_run due lt posted old over = by_held (stored (node_key name) (synced_at doc q k)) refl posted
      where
        heard : Heard q name a (add k q Pass (synced_at doc q k))
        heard = at_pass due posted (λ lt. heard_sync name a old)

        finish : Stands q name k (marks doc k q (add k q Pass (synced_at doc q k))) → IsMarked doc q name k
        finish m =
            let g = add k q Pass (synced_at doc q k) in
            let b = set_mode doc k q (marks doc k q g) in
            let more = λ (t : Tick) (other : is_pass t ≡ false) (f : List Entry) (s : Stands q name k f). stands_more q name k (entry k 4 q (Ticks t)) f s in
            let done : Stands q name k (evicted doc k q (tainted doc k q (cleaned doc k q (set_zones doc k q b)))) =
            keep_later doc k q (Stands q name k) more (set_zones doc k q b) (keep_zones doc k q (Stands q name k) more b (keep_mode doc k q (Stands q name k) more (marks doc k q g) m)) in
            let e = turn_phases doc own q k attended ∙ ap (λ b. evicted doc k q (tainted doc k q (cleaned doc k q (if b then whole_pass doc k q (synced_at doc q k) else synced_at doc q k)))) due in
            let all = subst (Stands q name k) (sym e) done in
            record { given = all.given; written = all.written; version = all.version; before = all.before; stands = tail_trans (entry k 4 q (Ticks (Mark name all.given all.written (Some (answer.Done all.version)))) ∷ all.before) (after_turn doc q.process k) (history doc (suc k)) all.stands in_history }

        by_node : (held : Held) → stored (node_key name) (synced_at doc q k) ≡ Some held → (o : Option Node) → node_in held.object ≡ o → IsPosted (versioned held.version o) → IsMarked doc q name k
        by_node held here None is known = absurd known
        by_node held here (Some node) is known =
            finish (reach doc by_run q name a k held node known over (node_names (add k q Pass (synced_at doc q k))) (add k q Pass (synced_at doc q k)) (named_node name (add k q Pass (synced_at doc q k)) held here)
            (record { heard = heard; mirrors = mirrors_more q (synced_at doc q k) k Pass synced.mirrors; passes = synced.passes; here = here; is = is }))

        by_held : (o : Option Held) → stored (node_key name) (synced_at doc q k) ≡ o → IsPosted (as_kind node_in o) → IsMarked doc q name k
        by_held None here known = absurd known
        by_held (Some held) here known = by_node held here (node_in held.object) refl known

-- ---- beat by beat

heard_at : (doc : Doc) → ReleasesByStop doc → (q : Identity) (name a e m : ℕ) → Attends doc q a e → IsLastHeard doc q name a e → m ≤ e → StaysPosted doc q name a m → (n : ℕ) → a + n < m → Heard q name a (at_turn doc q.process (suc (a + n)))
heard_at doc own q name a e m attends s end posted zero lt =
    let same : a + 0 ≡ a = omega arith in
    subst (λ k. Heard q name a (at_turn doc q.process (suc k))) (sym same)
    (after doc own q a (attends a (omega arith) (omega (arith, lt, end))) name a e (omega arith) (omega (arith, lt, end)) s (posted a (omega arith) (omega (arith, lt))) (λ less. absurd (omega (arith, less))))
heard_at doc own q name a e m attends s end posted (suc n) lt =
    let same : a + suc n ≡ suc (a + n) = omega arith in
    let old = heard_at doc own q name a e m attends s end posted n (omega (arith, lt)) in
    subst (λ k. Heard q name a (at_turn doc q.process (suc k))) (sym same)
    (after doc own q (suc (a + n)) (attends (suc (a + n)) (omega arith) (omega (arith, lt, end))) name a e (omega arith) (omega (arith, lt, end)) s (posted (suc (a + n)) (omega arith) (omega (arith, lt))) (λ less. old))

pub nodes_are_marked : NodesAreMarked
nodes_are_marked doc own free by_run q name a e attends s slow fast near far slowly fastly near_needed far_enough some enough needed most is need greatest within =
    let p = passes_find doc own free q a e attends s.pass slow fast near far slowly fastly near_needed far_enough some (grace_period doc + 1) enough needed most (omega arith) is need greatest within in
    (p.0, p.3, p.4, p.1.after, λ posted. at p.0 p.1.after p.2 p.1.pass p.1.over posted)
  where
    at : (m : ℕ) → a < m → m ≤ e → has_pass doc q m ≡ true → local doc q.process a + (grace_period doc + 1) ≤ local doc q.process m → StaysPosted doc q name a m → IsMarked doc q name m
    at zero lt end due over posted = absurd (omega (arith, lt))
    at (suc m) lt end due over posted =
        let same : a + (m - a) ≡ m = omega (arith, lt) in
        let old : Heard q name a (at_turn doc q.process (suc m)) = subst (λ k. Heard q name a (at_turn doc q.process (suc k))) same (heard_at doc own q name a e (suc m) attends s end posted (m - a) (omega (arith, lt))) in
        marks_now doc own q (suc m) (attends (suc m) (omega (arith, lt)) end) name a e (omega (arith, lt)) end s by_run due lt (posted (suc m) (omega (arith, lt)) (omega arith)) old over
