use Rattle.std.proofs.Common.{◌≡◌, ◌∙◌, false, cond, length, ap, sym, subst, arith}
use Rattle.std.specs.BTreeSet.{contains}
use Rattle.std.specs.Ordering.{nat_cmp}
use Rattle.std.proofs.lemmas.List.{length-drop}
use Rattle.kube_objects.specs.Entry.{Sync}
use Rattle.kube_objects.specs.Feeds.{is_among}
use Rattle.kube_objects.specs.Stored.{node_key, stored, writes}
use Rattle.kube_objects.specs.Tick.{add}
use Rattle.object_store.specs.FeedLaws.{total_since}
use Rattle.object_store.specs.Stands as feed
use Rattle.object_store.specs.StoreAnswers.{changed_keys}
use Rattle.tick_laws.specs.Since.{keys_since}
use Rattle.tick_laws.proofs.Syncing.{sync_shows}
use Rattle.watch_cache.specs.TaintChanges.{IsSettled, appears}
use Rattle.watch_cache.specs.Stands.{kept_in}
use Rattle.watch_cache.proofs.Syncs.{synced_few, written-count}
use Rattle.term_state.specs.Sights.{is_by_sight}
use Rattle.term_state.proofs.Takes.{kept_same, keys_same, since_is, taken_alike, taken_over, to_judge}
use Rattle.term_state.proofs.cluster.Cluster.take_over.Goals as goal

pub returns-then-position-changes-clause-stands : goal.returns-then-position-changes-clause-stands
returns-then-position-changes-clause-stands g c q k h s st r =
    let count : length (feed.changed_in c.args.store.now) ≡ writes h = ap length st.changes ∙ ap length (keys_same h) ∙ written-count h in
    let position = c.position-position.ensures.kept ∙ s.cache.position in
    absurd (omega (arith, count, position, synced_few q h, c.changes.ensures))

pub returns-clause-stands : goal.returns-clause-stands
returns-clause-stands g c q k h s st r =
    let old = c.args.self.now.cache in
    let since = c.since-since.result in
    let count : length (changed_keys h) ≡ writes h = ap length (keys_same h) ∙ written-count h in
    let position = c.position-position.ensures.kept ∙ s.cache.position in
    let given = c.since-since.ensures.keys h st in
    let keys = given ∙ since_is q h c.position-position.result position in
    let whole : length (feed.changed_since since) ≡ writes h =
    omega (arith, total_since since, c.since-since.ensures.start, ap length given, length-drop c.position-position.result (changed_keys h), count, synced_few q h, position) in
    taken_over q k h c.args.self.now c.sync_since.new.self c.args.store.now s st r (contains nat_cmp c.in_ok-names.names)
    (λ n among out. subst (IsSettled old n) (c.since-since.ensures.shown h (node_key n) st) (c.in_ok-names.ensures.settled n (ap (λ ks. is_among ks (node_key n)) keys ∙ among) out))
    (λ key. c.in_ok-sync_since.ensures.kept key
    ∙ ap (λ ks. cond (is_among ks key) (feed.shown_since since key) (kept_in old key)) keys
    ∙ ap (λ x. cond (is_among (keys_since q h) key) x (kept_in old key)) (c.since-since.ensures.shown h key st))
    c.in_ok-sync_since.ensures.stale c.in_ok-sync_since.ensures.synced (c.in_ok-sync_since.ensures.position ∙ whole)

pub returns-then-position-changes-clause-judged : goal.returns-then-position-changes-clause-judged
returns-then-position-changes-clause-judged g c q k h s st =
    let count : length (feed.changed_in c.args.store.now) ≡ writes h = ap length st.changes ∙ ap length (keys_same h) ∙ written-count h in
    let position = c.position-position.ensures.kept ∙ s.cache.position in
    absurd (omega (arith, count, position, synced_few q h, c.changes.ensures))

pub returns-clause-judged : goal.returns-clause-judged
returns-clause-judged g c q k h s st n there =
    let since = c.since-since.result in
    let keys = c.since-since.ensures.keys h st ∙ since_is q h c.position-position.result (c.position-position.ensures.kept ∙ s.cache.position) in
    let now = c.since-since.ensures.shown h (node_key n) st ∙ kept_same (stored (node_key n) h) ∙ sym (sync_shows q k h (node_key n)) in (
      ap (λ ks. is_among ks (node_key n)) (sym keys) ∙ c.in_ok-names.ensures.changed n there,
      to_judge q n h (add k q Sync h) c.args.self.now.cache (feed.shown_since since (node_key n)) s.cache now c.args.self.now.evict_from c.keeps_rows.result c.keeps_rows.ensures (c.in_ok-names.ensures.unsettled n there),
    )

pub returns-then-position-changes-clause-untouched : goal.returns-then-position-changes-clause-untouched
returns-then-position-changes-clause-untouched g c q k h s st r =
    let count : length (feed.changed_in c.args.store.now) ≡ writes h = ap length st.changes ∙ ap length (keys_same h) ∙ written-count h in
    let position = c.position-position.ensures.kept ∙ s.cache.position in
    absurd (omega (arith, count, position, synced_few q h, c.changes.ensures))

pub returns-clause-untouched : goal.returns-clause-untouched
returns-clause-untouched g c q k h s st r seen key out =
    let old = c.args.self.now.cache in
    let keys = c.since-since.ensures.keys h st ∙ since_is q h c.position-position.result (c.position-position.ensures.kept ∙ s.cache.position) in
    let kept = c.keeps_rows.ensures ∙ ap is_by_sight seen in
    taken_alike q k h c.args.self.now c.sync_since.new.self c.args.store.now s st r (contains nat_cmp c.in_ok-names.names)
    (λ n among off. subst (IsSettled old n) (c.since-since.ensures.shown h (node_key n) st) (c.in_ok-names.ensures.settled n (ap (λ ks. is_among ks (node_key n)) keys ∙ among) off))
    (λ n among off. subst (λ x. appears old n x ≡ false) (c.since-since.ensures.shown h (node_key n) st) (c.in_ok-names.ensures.appeared kept n (ap (λ ks. is_among ks (node_key n)) keys ∙ among) off))
    key out

pub returns-clause-counted : goal.returns-clause-counted
returns-clause-counted g c q h s st =
    let position = c.position-position.ensures.kept ∙ s.cache.position in
    let keys = c.since-since.ensures.keys h st ∙ since_is q h c.position-position.result position in
    omega (arith, c.in_ok-sync_since.ensures.counted, ap length keys)
