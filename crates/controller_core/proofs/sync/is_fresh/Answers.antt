use Rattle.std.proofs.Common.{◌≡◌, ◌∙◌, ◌==◌, ◌&&◌, length, ap, sym}
use Rattle.kube_objects.specs.Stored.{writes}
use Rattle.tick_laws.proofs.Syncing.{fresh_is}
use Rattle.watch_cache.specs.Stands.{synced_writes}
use Rattle.watch_cache.proofs.Syncs.{written-count}
use Rattle.term_state.proofs.Takes.{keys_same}
use Rattle.controller_core.proofs.sync.is_fresh.Goals as goal

pub returns-then-is_synced : goal.returns-then-is_synced
returns-then-is_synced c q h s st =
    let count : c.changes.result ≡ writes h = c.changes.ensures ∙ ap length st.changes ∙ ap length (keys_same h) ∙ written-count h in
    let synced = sym (c.is_synced.ensures q h s) ∙ c.if-is_synced.true in
    sym (fresh_is q h
    ∙ ap (λ b. b && (synced_writes q h == writes h)) synced
    ∙ ap (λ n. n == writes h) (sym (c.position.ensures q h s))
    ∙ ap (λ n. c.position.result == n) (sym count))

pub returns-else-is_synced : goal.returns-else-is_synced
returns-else-is_synced c q h s st =
    let synced = sym (c.is_synced.ensures q h s) ∙ c.if-is_synced.false in
    c.if-is_synced.false ∙ sym (fresh_is q h ∙ ap (λ b. b && (synced_writes q h == writes h)) synced)
