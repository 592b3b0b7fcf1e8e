use Rattle.std.proofs.Common.{◌≡◌, ◌∙◌, false, IfNone, IfSome, sym, subst}
use Rattle.tick_laws.specs.Judged.{due_by, is_by_now}
use Rattle.term_state.specs.Evictions.{IsEvictionBy}
use Rattle.term_state.specs.Sights.{SettledBy}
use Rattle.term_state.proofs.cluster.Cluster.eviction.Goals as goal

pub returns-in-Added-clause-some : goal.returns-in-Added-clause-some
returns-in-Added-clause-some g c doc q h nodes pods s from settled synced =
    subst (λ rule. IfSome c.eviction_on_node.result (IsEvictionBy rule doc q h c.args.key.now)) (sym c.in-Added.is ∙ from) (c.eviction_on_node.ensures.some q h nodes pods s synced)

pub returns-in-Added-clause-none : goal.returns-in-Added-clause-none
returns-in-Added-clause-none g c doc q h nodes pods s from settled synced =
    subst (λ rule. IfNone c.eviction_on_node.result (is_by_now c.args.now.0 (due_by rule doc q c.args.key.now h) ≡ false)) (sym c.in-Added.is ∙ from) (c.eviction_on_node.ensures.none q h nodes pods s synced)

pub returns-in-Seen-clause-some : goal.returns-in-Seen-clause-some
returns-in-Seen-clause-some g c doc q h nodes pods s from settled synced =
    let rows = subst (λ rule. SettledBy rule doc q h pods c.args.self.now) (sym (sym c.in-Seen.is ∙ from)) settled in
    subst (λ rule. IfSome c.eviction_by_row.result (IsEvictionBy rule doc q h c.args.key.now)) (sym c.in-Seen.is ∙ from) (c.eviction_by_row.ensures.some doc q h nodes pods s rows synced)

pub returns-in-Seen-clause-none : goal.returns-in-Seen-clause-none
returns-in-Seen-clause-none g c doc q h nodes pods s from settled synced =
    let rows = subst (λ rule. SettledBy rule doc q h pods c.args.self.now) (sym (sym c.in-Seen.is ∙ from)) settled in
    subst (λ rule. IfNone c.eviction_by_row.result (is_by_now c.args.now.0 (due_by rule doc q c.args.key.now h) ≡ false)) (sym c.in-Seen.is ∙ from)
    (c.eviction_by_row.ensures.none doc q h nodes pods s rows synced)
