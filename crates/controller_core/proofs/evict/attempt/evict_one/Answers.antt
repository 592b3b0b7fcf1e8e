use Rattle.std.proofs.Common.{◌≡◌, ◌∙◌, false, None, ap, sym, subst}
use Rattle.std.proofs.lemmas.Result.{on_ok_weaker}
use Rattle.std.specs.Option.{IfNone}
use Rattle.kube_objects.specs.Entry.{Delete}
use Rattle.kube_objects.specs.Stored.{try_write}
use Rattle.kube_objects.specs.Tainting.{waits}
use Rattle.kube_objects.specs.Tick.{add, evict}
use Rattle.history_laws.proofs.Plainly.{false_is}
use Rattle.tick_laws.specs.Judged.{is_by_now, term_due}
use Rattle.tick_laws.proofs.Evicting.{deleted_waits}
use Rattle.tick_laws.proofs.Frames.{delete_change}
use Rattle.tick_laws.proofs.Ticked.{own_before}
use Rattle.term_state.specs.ClusterStands.{but_pod, no_node}
use Rattle.controller_core.specs.Deleting.{Deleting, answered, named_version}
use Rattle.controller_core.proofs.Evicting.Attempting.{attempts}
use Rattle.controller_core.proofs.evict.attempt.evict_one.Goals as goal

pub returns-in_default-clause-stands : goal.returns-in_default-clause-stands
returns-in_default-clause-stands g c doc k q before h pods r v now =
    let due = term_due doc q c.args.pod h in
    let quiet : is_by_now c.args.view.now.wall.0 due ≡ false =
    subst (λ o. IfNone o (is_by_now c.args.view.now.wall.0 due ≡ false)) c.in_default.is (c.eviction.ensures.none doc q h no_node pods r.dues.cluster r.dues.from r.dues.settled r.synced) in
    absurd (false_is (sym (ap (λ n. is_by_now n due) (sym v.time) ∙ quiet) ∙ now))

pub returns-clause-stands : goal.returns-clause-stands
returns-clause-stands g c doc k q before h pods r v now =
    let pod = c.args.pod in
    let e = c.in-Some.eviction in
    let answer = c.in_ok-answer.answer in
    let x = attempts doc k q pod h e doc.settings.rules.evict_from (c.in-Some.ensures.some doc q h no_node pods r.dues.cluster r.dues.from r.dues.settled r.synced) now in
    let node_given = named_version e.node in
    let tick = Delete pod e.given node_given e.due.0 answer in
    let after = add k q tick h in
    let is : answer ≡ answered q pod e h = c.in_ok-answer.ensures.answer q h r.store v.passes in
    let adds : evict doc k q pod h ≡ after = x.adds ∙ ap (λ a. add k q (Delete pod e.given node_given e.due.0 a) h) (sym is) in
    let change = delete_change q k h pod e.given node_given e.due.0 answer in
    on_ok_weaker c.note.result
    (λ dues. subst (λ f. Deleting doc q k before f (but_pod pod pods) c.note.new.cluster c.try_eviction.new.store c.tell.new.told) (sym adds) (record {
      dues = dues;
      moved = λ n out place. deleted_waits q h after pod answer change x.kind place n ∙ r.moved n (sym (c.note.ensures.moved n) ∙ out) place ∙ ap (waits q place n) (sym (own_before q k tick h));
      store = c.in_ok-answer.ensures.stands q k h tick r.store v.passes (ap (try_write (pod, None)) is);
      told = c.in_ok-tell.ensures q k before h e.given node_given r.told;
      synced = change.synced ∙ r.synced;
    }))
    (c.note.ensures.stands doc k q h e.given node_given pods r.dues x.kind x.due)
