use Rattle.std.proofs.Common.{◌≡◌, ◌∙◌, ◌≤◌, ℕ, refl, sym}
use Rattle.kube_objects.specs.declared.key.Key.{Key}
use Rattle.kube_objects.specs.declared.pod.Due.TheVariants.{Never, At}
use Rattle.evict_queue.specs.Queue.{due_in}
use Rattle.tick_laws.specs.Judged.{term_due}
use Rattle.term_state.specs.ClusterStands.{no_node, no_pod}
use Rattle.term_state.proofs.Closing.{if_none_weaker, if_some_weaker}
use Rattle.term_state.proofs.Settling.{dues_stand}
use Rattle.term_state.proofs.cluster.Cluster.least_due.Goals as goal

pub returns-clause-there : goal.returns-clause-there
returns-clause-there c doc q h s from settled =
    let same = λ (key : Key). dues_stand doc.settings.rules.evict_from doc q h no_node no_pod c.args.self.now from s settled key refl in
    if_some_weaker (λ at. (key : Key) × (due_in c.args.self.now.dues key ≡ At at)) (λ at. (key : Key) × (term_due doc q key h ≡ At at))
    c.least.result (λ at f. (f.0, sym (same f.0) ∙ f.1)) c.least.ensures.there

pub returns-clause-least : goal.returns-clause-least
returns-clause-least c doc q h s from settled =
    let same = λ (key : Key). dues_stand doc.settings.rules.evict_from doc q h no_node no_pod c.args.self.now from s settled key refl in
    if_some_weaker (λ at. (other : ℕ) (key : Key) → due_in c.args.self.now.dues key ≡ At other → at ≤ other) (λ at. (key : Key) (other : ℕ) → term_due doc q key h ≡ At other → at ≤ other)
    c.least.result (λ at f key other is. f other key (same key ∙ is)) c.least.ensures.least

pub returns-clause-none : goal.returns-clause-none
returns-clause-none c doc q h s from settled =
    let same = λ (key : Key). dues_stand doc.settings.rules.evict_from doc q h no_node no_pod c.args.self.now from s settled key refl in
    if_none_weaker ((key : Key) → due_in c.args.self.now.dues key ≡ Never) ((key : Key) → term_due doc q key h ≡ Never) c.least.result (λ f key. sym (same key) ∙ f key) c.least.ensures.none
