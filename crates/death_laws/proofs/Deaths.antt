-- The bounds of a node's death, one after the other, under the project's own rules.
use Rattle.std.proofs.Common.{◌≡◌, ◌∙◌, ◌≤◌, ◌<◌, ℕ, suc, ◌+◌, ◌-◌, ◌*◌, ◌&&◌, Bool, true, false, Some, refl, sym, ap, subst, ⊎_elim, arith}
use Rattle.std.proofs.Math.Nat.{mul-le-mul_right}
use Rattle.std.proofs.lemmas.Bool.{cases_lt, cases_eq}
use Rattle.kube_objects.specs.declared.key.Key.{Key}
use Rattle.kube_objects.specs.declared.node.Effect.TheVariants.{NoExecute}
use Rattle.kube_objects.specs.declared.node.Taint.{Taint}
use Rattle.kube_objects.specs.Clocks.{whole_second}
use Rattle.kube_objects.specs.Document.{Doc, of_seconds}
use Rattle.kube_objects.specs.Entry.{Identity}
use Rattle.kube_objects.specs.Health.{hears, pass_period, is_after_pass}
use Rattle.kube_objects.specs.Own.{ReleasesByStop, EvictsByOwn, PassesTakeNoWork, ProbesByRun}
use Rattle.kube_objects.specs.Seen.{is_pod}
use Rattle.kube_objects.specs.Tick.{new_taint}
use Rattle.kube_objects.specs.Tolerations.{first_tolerating}
use Rattle.history.specs.Evictions.{after_turn}
use Rattle.history_laws.proofs.Plainly.{true_is, and_left, and_right, and_both}
use Rattle.span_laws.specs.Spans.{RunsAtLeast, IsEnough}
use Rattle.outage_laws.specs.Gone.{IsDated, IsAmong, tolerated_for, IsDoomed}
use Rattle.outage_laws.specs.Marked.{IsLastHeard}
use Rattle.outage_laws.specs.Passes.{synced_at, has_pass}
use Rattle.outage_laws.proofs.Gone.{pods_go}
use Rattle.outage_laws.proofs.Passes.{next_pass}
use Rattle.outage_laws.proofs.Silent.{nodes_are_marked}
use Rattle.heard_laws.specs.Heard.{IsLastTold, IsLatestRenewal}
use Rattle.heard_laws.proofs.Dead.{last_words_are_soon}
use Rattle.heard_laws.proofs.Heard.{passes_hear_in_time, renewals_are_heard, first_hears}
use Rattle.heard_laws.proofs.Said.{IsLast, last_of}
use Rattle.wave_laws.specs.Waves.{queue_at, ahead, IsServedBy}
use Rattle.wave_laws.proofs.Waves.{taints_come_anyway}
use Rattle.death_laws.specs.Deaths.{WatchesOver, IsPaced, MarkedAfter, DeadNodesAreMarked, DeathsAreMarked, DeadNodesEnd, PodsGoAfterFailovers}

-- ---- the mark

module _ (doc : Doc) (own : ReleasesByStop doc) (free : PassesTakeNoWork doc) (by_run : ProbesByRun doc) (q : Identity) (name a e v : ℕ) (watches : WatchesOver doc q name a e) (told : IsLastTold doc name v e) (slow near far enough needed most : ℕ) (paced : IsPaced doc q a e slow near far enough needed most)
    (latest : ℕ) (first : a ≤ latest) (word : v + far ≤ suc latest) (within : latest + most ≤ e) where
  abbrev hears_at : ℕ → Bool
  hears_at k = has_pass doc q k && hears q name (synced_at doc q k)

  due : has_pass doc q a ≡ true
  due = ap (is_after_pass doc a q (pass_period doc q (synced_at doc q a))) watches.first

  -- the last pass that hears of the node
  last : IsLast hears_at a (e - a)
  last = last_of hears_at a (e - a) (and_both (has_pass doc q a) (hears q name (synced_at doc q a)) due (first_hears q name (synced_at doc q a) watches.first))

  end : last.at ≤ e
  end = omega (arith, last.most, first, within)

  pass : has_pass doc q last.at ≡ true
  pass = and_left (has_pass doc q last.at) (hears q name (synced_at doc q last.at)) last.is

  heard : hears q name (synced_at doc q last.at) ≡ true
  heard = and_right (has_pass doc q last.at) (hears q name (synced_at doc q last.at)) last.is

  silent : (k : ℕ) → last.at < k → k ≤ e → has_pass doc q k ≡ true → hears q name (synced_at doc q k) ≡ false
  silent k after le passes = by_test (hears q name (synced_at doc q k)) refl
    where
      by_test : (b : Bool) → hears q name (synced_at doc q k) ≡ b → b ≡ false
      by_test false is = refl
      by_test true is = absurd (true_is (sym (and_both (has_pass doc q k) (hears q name (synced_at doc q k)) passes is) ∙ last.none k after (omega (arith, le, first, within))))

  is_last : IsLastHeard doc q name last.at e
  is_last = record { pass = pass; heard = heard; silent = silent; mode = λ k before after le at. watches.mode k before (omega (arith, last.least, after)) le at }

  early : last.at ≤ latest
  early =
      ⊎_elim (λ same. omega (arith, same, first)) (λ lt. omega (arith, lt, word))
      (passes_hear_in_time doc own free q name a last.at e v watches.attends due told slow far paced.slowly paced.far_enough paced.some last.least end
      (record { pass = pass; heard = heard; found = watches.stored last.at last.least end }))

  -- not before the latest renewal
  since : IsLatestRenewal name told.x told.before → a ≤ v → v ≤ last.at
  since renews from = by_pass some_pass
    where
      -- a pass from then on
      some_pass : (k : ℕ) × (v ≤ k) × (k ≤ e) × (has_pass doc q k ≡ true)
      some_pass = ⊎_elim (λ same. (a, omega (arith, same), omega (arith, first, within), due)) (λ other. next (omega (arith, from, other))) (cases_eq v a)
        where
          next : a < v → (k : ℕ) × (v ≤ k) × (k ≤ e) × (has_pass doc q k ≡ true)
          next lt =
              let r = last_of (has_pass doc q) a (v - 1 - a) due in
              let n = next_pass doc own free q a e watches.attends slow far paced.slowly paced.far_enough r.at r.least paced.some (omega (arith, r.most, word, within, lt)) r.is in
              (n.at, ⊎_elim (λ before. absurd (true_is (sym n.pass ∙ r.none n.at n.after (omega (arith, before, lt))))) (λ le. le) (cases_lt n.at v), omega (arith, n.most, r.most, word, within, lt), n.pass)

      by_pass : (k : ℕ) × (v ≤ k) × (k ≤ e) × (has_pass doc q k ≡ true) → v ≤ last.at
      by_pass k =
          let h = renewals_are_heard doc own q name a e v watches.attends watches.first from told renews k.0 k.1 k.2 k.3 in
          ⊎_elim (λ lt. absurd (true_is (sym h.4 ∙ silent h.0 lt (omega (arith, h.2, k.2)) h.3))) (λ le. omega (arith, le, h.1)) (cases_lt last.at h.0)

  pub marks : MarkedAfter doc q name a e v latest near far enough needed most (IsLatestRenewal name told.x told.before)
  marks =
      let m =
      nodes_are_marked doc own free by_run q name last.at e (λ k low high. watches.attends k (omega (arith, low, last.least)) high) is_last slow paced.fast near far (λ j low high. paced.slowly j (omega (arith, low, last.least)) high)
      (λ j low high. paced.fastly j (omega (arith, low, last.least)) high) paced.near_needed paced.far_enough paced.some enough needed most paced.is_enough paced.is_needed paced.greatest (let le = early in omega (arith, le, within)) in
      record {
        p = last.at;
        m = m.0;
        heard = is_last;
        from = last.least;
        upto = early;
        since = since;
        after = m.3;
        at_most = m.1;
        at_least = m.2;
        soon = let le = early in omega (arith, paced.greatest (m.0 - last.at) m.1, m.3, le);
        marked = m.4;
      }

pub dead_nodes_are_marked : DeadNodesAreMarked
dead_nodes_are_marked doc own free by_run q name a e v watches told slow near far enough needed most paced latest first word within = marks doc own free by_run q name a e v watches told slow near far enough needed most paced latest first word within

pub deaths_are_marked : DeathsAreMarked
deaths_are_marked doc own free by_run q name a e v watches told slow near far enough needed most paced short long s last kubelet sound one lives some alone reach latest first word within =
    let soon = last_words_are_soon doc short long s last e v kubelet name sound own one lives some alone reach told in
    marks doc own free by_run q name a e v watches told slow near far enough needed most paced latest first (omega (arith, soon, word)) within

-- ---- the taint, and the pods

pub dead_nodes_end : DeadNodesEnd
dead_nodes_end doc own free by_run judges q name a e v watches told slow near far enough needed most paced latest first word within place y k rate interval turn last late keeps interval_enough turn_enough few last_is end =
    (marked, t.0, t.1, omega (arith, t.2, bound, last_is), t.3, gone)
  where
    marked : MarkedAfter doc q name a e v latest near far enough needed most (IsLatestRenewal name told.x told.before)
    marked = marks doc own free by_run q name a e v watches told slow near far enough needed most paced latest first word within

    from : a ≤ marked.m
    from = omega (arith, marked.from, marked.after)

    few_ahead : ahead q place name (queue_at doc q marked.m) ≤ k
    few_ahead = few marked.m from marked.soon

    bound : (ahead q place name (queue_at doc q marked.m) + 1) * turn ≤ (k + 1) * turn
    bound = mul-le-mul_right turn (let le = few_ahead in omega (arith, le))

    runs : RunsAtLeast doc q.process y e slow
    runs j low high = paced.slowly j (omega (arith, low, late, first)) high

    t : IsServedBy doc q place name marked.m (y + (ahead q place name (queue_at doc q marked.m) + 1) * turn)
    t =
        taints_come_anyway doc own judges q place name marked.m y e (λ j low high. watches.attends j (omega (arith, low, from)) high) (omega (arith, marked.soon, late)) rate slow interval turn keeps runs interval_enough turn_enough
        (omega (arith, bound, last_is, end))

    gone : EvictsByOwn doc → IsDated doc q.process → (seconds beats j : ℕ) → IsEnough slow (of_seconds seconds) beats → last + beats ≤ j → j ≤ e → (key : Key) → is_pod key.kind ≡ true → IsDoomed doc q t.0 seconds key (after_turn doc q.process j) → ⊥
    gone evicts dated seconds beats j is le stop key kind doomed =
        pods_go doc own evicts q t.0 j seconds slow beats dated (watches.attends j (omega (arith, from, t.1, t.2, bound, last_is, le)) stop) (λ i low high. paced.slowly i (omega (arith, low, from, t.1)) (omega (arith, high, stop))) is
        (omega (arith, t.2, bound, last_is, le)) key kind doomed

-- ---- another's taint

pub pods_go_after_failovers : PodsGoAfterFailovers
pods_go_after_failovers doc own evicts r q t k seconds slow enough same dated attended runs is le key kind doomed = pods_go doc own evicts q t k seconds slow enough dated attended runs is le key kind mine
  where
    taint_is : (wanted : ℕ) → new_taint doc t r wanted ≡ new_taint doc t q wanted
    taint_is wanted = ap (λ at. record { key = wanted; value = 0; effect = NoExecute; added = Some (record { 0 = whole_second at }) }) same

    mine : IsDoomed doc q t seconds key (after_turn doc q.process k)
    mine = record {
      pod = doomed.pod;
      node = doomed.node;
      wanted = doomed.wanted;
      has_pod = doomed.has_pod;
      has_node = doomed.has_node;
      tainted = subst (λ (x : Taint). IsAmong x doomed.node.1.taints) (taint_is doomed.wanted) doomed.tainted;
      tolerated = subst (λ (x : Taint). tolerated_for (first_tolerating doomed.pod.1.tolerations x) ≡ Some seconds) (taint_is doomed.wanted) doomed.tolerated;
    }
