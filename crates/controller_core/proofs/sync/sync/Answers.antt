use Rattle.std.proofs.Common.{◌≡◌, ◌∙◌, ◌⊎◌, ◌+◌, ◌||◌, ℕ, Bool, List, ◌&&◌, not, false, true, ap, drop, refl, sym, subst, arith}
use Rattle.std.specs.Prelude.{if◌then◌else◌}
use Rattle.std.proofs.lemmas.Result.{on_ok_weaker}
use Rattle.std.specs.BTreeSet.{contains}
use Rattle.std.specs.Ordering.{nat_cmp}
use Rattle.kube_objects.specs.declared.key.Key.{Key}
use Rattle.kube_objects.specs.declared.rules.EvictRule.TheVariants.{Seen}
use Rattle.kube_objects.specs.Document.{Doc}
use Rattle.kube_objects.specs.Entry.{Entry, Identity, Sync}
use Rattle.kube_objects.specs.Feeds.{is_among}
use Rattle.kube_objects.specs.InForce.{watches}
use Rattle.kube_objects.specs.Seen.{is_fresh, is_synced}
use Rattle.kube_objects.specs.Stored.{node_key}
use Rattle.history_laws.proofs.Plainly.{false_is}
use Rattle.object_store.specs.Stands.{changed_in}
use Rattle.kube_objects.specs.Tick.{add, has_settled, sync}
use Rattle.tick_laws.specs.Since.{keys_since}
use Rattle.tick_laws.specs.Steps.{pods_back, write_costs}
use Rattle.tick_laws.specs.ToJudge.{is_back, is_to_judge}
use Rattle.tick_laws.proofs.Steps.{cost_sync, sync_costs}
use Rattle.tick_laws.proofs.Syncing.{sync_synced}
use Rattle.tick_laws.proofs.Ticked.{own_before}
use Rattle.term_state.specs.ClusterStands.{ClusterStands}
use Rattle.term_state.specs.MidTick.{IsMoved}
use Rattle.term_state.specs.Sights.{IsAlike, SightedBy, spent}
use Rattle.term_state.specs.Taking.{is_open}
use Rattle.controller_core.specs.Costs.{HaveCost}
use Rattle.controller_core.specs.Left.{LeftBut}
use Rattle.controller_core.proofs.Syncing.Noting.{all_ok, begun_sights, noted_all, retained_more, synced_sights}
use Rattle.controller_core.proofs.Syncing.Synced.{changed_since, store_synced, sync_moved}
use Rattle.controller_core.proofs.sync.sync.Goals as goal

-- where the term hasn't settled
unsettled : (doc : Doc) (k : ℕ) (q : Identity) (h : List Entry) (b : Bool) → b ≡ has_settled doc k q h → b ≡ false → sync doc k q h ≡ h
unsettled doc k q h b is off = ap (λ c. (if (c && (watches doc q.process h && not (is_fresh q h))) then add k q Sync h else h)) (sym is ∙ off)

pub returns-then-not-has_settled-clause-stands : goal.returns-then-not-has_settled-clause-stands
returns-then-not-has_settled-clause-stands g c doc k q h settles s st r v from =
    subst (λ f. ClusterStands q f c.args.cluster.now × HaveCost q k h f (spent c.args.cluster.now c.args.steps.now + pods_back doc q h f) (spent c.args.cluster.now c.args.steps.now))
    (sym (unsettled doc k q h c.has_settled.result (c.has_settled.ensures doc k q h settles v.reading) c.if-not-has_settled.true)) (s, omega arith)

pub returns-then-not-has_settled-clause-store : goal.returns-then-not-has_settled-clause-store
returns-then-not-has_settled-clause-store g c doc k q h st = store_synced k q h c.args.store.now (has_settled doc k q h && (watches doc q.process h && not (is_fresh q h))) st

pub returns-then-not-has_settled-clause-moved : goal.returns-then-not-has_settled-clause-moved
returns-then-not-has_settled-clause-moved g c doc k q h settles s st r v m beneath =
    subst (λ f. IsMoved q k f c.args.cluster.now) (sym (unsettled doc k q h c.has_settled.result (c.has_settled.ensures doc k q h settles v.reading) c.if-not-has_settled.true)) m

pub returns-then-not-has_settled-clause-sights : goal.returns-then-not-has_settled-clause-sights
returns-then-not-has_settled-clause-sights g c doc k q h settles s st r v start from rows = (
  from,
  subst (λ f. SightedBy doc.settings.rules.evict_from doc k q f c.args.cluster.now)
      (sym (unsettled doc k q h c.has_settled.result (c.has_settled.ensures doc k q h settles v.reading) c.if-not-has_settled.true))
      (begun_sights doc.settings.rules.evict_from doc k q h c.args.cluster.now start rows),
  λ unsynced. rows,
)

-- where there is no sync
none_is : (doc : Doc) (k : ℕ) (q : Identity) (h : List Entry) (b : Bool) → b ≡ (watches doc q.process h && not (is_fresh q h)) → b ≡ false → sync doc k q h ≡ h
none_is doc k q h b is off = by_settled (has_settled doc k q h)
  where
    by_settled : (s : Bool) → (if (s && (watches doc q.process h && not (is_fresh q h))) then add k q Sync h else h) ≡ h
    by_settled true = ap (λ c. (if c then add k q Sync h else h)) (sym is ∙ off)
    by_settled false = refl

pub returns-then-not-syncs-clause-stands : goal.returns-then-not-syncs-clause-stands
returns-then-not-syncs-clause-stands g c doc k q h settles s st r v from =
    subst (λ f. ClusterStands q f c.args.cluster.now × HaveCost q k h f (spent c.args.cluster.now c.args.steps.now + pods_back doc q h f) (spent c.args.cluster.now c.args.steps.now)) (sym (none_is doc k q h c.syncs.result (c.syncs.ensures doc q h s st v.watch) c.if-not-syncs.true)) (s, omega arith)

pub returns-then-not-syncs-clause-store : goal.returns-then-not-syncs-clause-store
returns-then-not-syncs-clause-store g c doc k q h st = store_synced k q h c.args.store.now (has_settled doc k q h && (watches doc q.process h && not (is_fresh q h))) st

pub returns-then-not-syncs-clause-moved : goal.returns-then-not-syncs-clause-moved
returns-then-not-syncs-clause-moved g c doc k q h settles s st r v m beneath =
    subst (λ f. IsMoved q k f c.args.cluster.now) (sym (none_is doc k q h c.syncs.result (c.syncs.ensures doc q h s st v.watch) c.if-not-syncs.true)) m

pub returns-then-not-syncs-clause-sights : goal.returns-then-not-syncs-clause-sights
returns-then-not-syncs-clause-sights g c doc k q h settles s st r v start from rows = (
  from,
  subst (λ f. SightedBy doc.settings.rules.evict_from doc k q f c.args.cluster.now) (sym (none_is doc k q h c.syncs.result (c.syncs.ensures doc q h s st v.watch) c.if-not-syncs.true))
      (begun_sights doc.settings.rules.evict_from doc k q h c.args.cluster.now start rows),
  λ unsynced. rows,
)

-- where there is one
comes : (doc : Doc) (k : ℕ) (q : Identity) (h : List Entry) (s b : Bool) → s ≡ has_settled doc k q h → s ≡ true → b ≡ (watches doc q.process h && not (is_fresh q h)) → b ≡ true → sync doc k q h ≡ add k q Sync h
comes doc k q h s b settled yet is on =
    ap (λ c. (if (c && (watches doc q.process h && not (is_fresh q h))) then add k q Sync h else h)) (sym settled ∙ yet)
    ∙ ap (λ c. (if c then add k q Sync h else h)) (sym is ∙ on)

pub returns-clause-stands : goal.returns-clause-stands
returns-clause-stands g c doc k q h settles s st r v from =
    let after = add k q Sync h in
    let is = comes doc k q h c.has_settled.result c.syncs.result (c.has_settled.ensures doc k q h settles v.reading) c.if-not-has_settled.false (c.syncs.ensures doc q h s st v.watch) c.if-not-syncs.false in
    let since = changed_since q h c.args.store.now c.position-position.result st (c.position-position.ensures q h s) in
    let names = contains nat_cmp c.in_ok-to_judge.to_judge in
    let open_keys = subst (λ keys. LeftBut q after keys c.in_ok-to_judge.to_judge c.take_over.new.self) (sym since) (c.in_ok-to_judge.ensures.stands q k h s st r) in
    let one = c.in_ok-to_judge.ensures.counted q h s st in
    let rule = doc.settings.rules.evict_from in
    let fewer = sync_costs rule q h after names (λ n there. subst (λ r. (is_to_judge q h after n ≡ true) ⊎ (is_back r q h after n ≡ true)) from (c.in_ok-to_judge.ensures.judged q k h s st n there).1) in
    on_ok_weaker c.judge_changes.result
    (λ both. subst (λ f. ClusterStands q f c.judge_changes.new.cluster × HaveCost q k h f (spent c.args.cluster.now c.args.steps.now + pods_back doc q h f) (spent c.judge_changes.new.cluster c.judge_changes.new.steps)) (sym is) (
      both.0,
      omega (arith, one, c.take_over.ensures.untouched_len, both.1, cost_sync q k h, ap (write_costs q names after) since, fewer),
    ))
    (c.judge_changes.ensures.stands q after open_keys (sync_synced q k h))

pub returns-clause-store : goal.returns-clause-store
returns-clause-store g c doc k q h st = store_synced k q h c.args.store.now (has_settled doc k q h && (watches doc q.process h && not (is_fresh q h))) st

pub returns-clause-moved : goal.returns-clause-moved
returns-clause-moved g c doc k q h settles s st r v m beneath =
    let is = comes doc k q h c.has_settled.result c.syncs.result (c.has_settled.ensures doc k q h settles v.reading) c.if-not-has_settled.false (c.syncs.ensures doc q h s st v.watch) c.if-not-syncs.false in
    let since = changed_since q h c.args.store.now c.position-position.result st (c.position-position.ensures q h s) in
    on_ok_weaker c.judge_changes.result
    (λ more. sync_moved q k h (sync doc k q h) (drop c.position-position.result (changed_in c.args.store.now)) c.args.cluster.now c.judge_changes.new.cluster since is beneath
    (λ n. more n ∙ ap (λ b. is_among (drop c.position-position.result (changed_in c.args.store.now)) (node_key n) || b) (c.in_ok-to_judge.ensures.moved n)) m)
    c.judge_changes.ensures.moved

pub returns-clause-sights : goal.returns-clause-sights
returns-clause-sights g c doc k q h settles s st r v start from rows =
    let after = add k q Sync h in
    let rule = doc.settings.rules.evict_from in
    let old = c.args.cluster.now in
    let mid = c.take_over.new.self in
    let new = c.judge_changes.new.cluster in
    let is = comes doc k q h c.has_settled.result c.syncs.result (c.has_settled.ensures doc k q h settles v.reading) c.if-not-has_settled.false (c.syncs.ensures doc q h s st v.watch) c.if-not-syncs.false in
    let keys = drop c.position-position.result (changed_in c.args.store.now) in
    let since : keys ≡ keys_since q h = changed_since q h c.args.store.now c.position-position.result st (c.position-position.ensures q h s) in
    let names = c.in_ok-to_judge.to_judge in
    let left = subst (λ xs. LeftBut q after xs names mid) (sym since) (c.in_ok-to_judge.ensures.stands q k h s st r) in
    let synced = sync_synced q k h in
    let alike : old.evict_from ≡ Seen → (p : Key) → is_open q after keys (contains nat_cmp names) p ≡ false → IsAlike q h after p =
    λ seen p out. c.in_ok-to_judge.ensures.untouched q k h s st r seen p (ap (λ xs. is_open q after xs (contains nat_cmp names) p) (sym since) ∙ out) in
    all_ok c.judge_changes.result
    c.judge_changes.ensures.retained
    (c.judge_changes.ensures.none q after left synced)
    (c.judge_changes.ensures.touched q after left synced)
    (λ retained none touched. (
      retained.from ∙ c.take_over.ensures.retained.from ∙ from,
      subst (λ f. SightedBy rule doc k q f new) (sym is)
          (synced_sights rule doc k q h after old new (own_before q k Sync h ∙ start) (retained_more old mid new c.take_over.ensures.retained retained) from
          (λ added p. none (c.take_over.ensures.retained.from ∙ from ∙ added) p ∙ c.take_over.ensures.touched p)
          (λ seen p out. alike (from ∙ seen) p (noted_all q after keys names mid new (touched (c.take_over.ensures.retained.from ∙ from ∙ seen)) p out).1)
          rows),
      λ unsynced. absurd (false_is (sym unsynced ∙ ap (is_synced q) is ∙ synced)),
    ))
