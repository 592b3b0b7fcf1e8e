use Rattle.std.proofs.Common.{◌≡◌, ◌∙◌, sym, subst, arith}
use Rattle.kube_objects.specs.Tick.{add}
use Rattle.kube_objects.specs.Tries.{try_node}
use Rattle.tick_laws.proofs.Ticked.{own_before}
use Rattle.term_state.specs.Sights.{SightedBy}
use Rattle.term_state.proofs.Writing.{write_change, write_cost, write_is}
use Rattle.term_state.proofs.writes.try_write.Goals as goal

pub returns-clause-stands : goal.returns-clause-stands
returns-clause-stands g c doc k q before h tick r v is there =
    let name = c.args.made.name in
    let given = c.args.made.given in
    let a = c.in_ok-answer.answer in
    let answered : a ≡ try_node q name given h = c.in_ok-answer.ensures.answer q h r.store v.passes in
    let change = write_change k q h name given c.args.made.written c.args.made.write tick a answered is in
    let both = c.in_ok-note_answer.ensures.stands q k h (add k q tick h) r.cluster r.moved r.synced (own_before q k tick h) change in
    let old = subst (λ rule. SightedBy rule doc k q h c.args.cluster.now) (sym r.from) r.sights in
    let sights = c.in_ok-note_answer.ensures.sights doc q k h (add k q tick h) r.cluster r.synced (own_before q k tick h) change there old in
    record {
      cluster = both.0;
      from = c.in_ok-note_answer.ensures.retained.from ∙ r.from;
      sights = subst (λ rule. SightedBy rule doc k q (add k q tick h) c.note_answer.new.self) r.from sights;
      moved = both.1;
      store = c.in_ok-answer.ensures.stands q k h tick r.store v.passes is.try.write;
      told = c.in_ok-tell.ensures q k before h tick r.told (write_is k q h name given c.args.made.written c.args.made.write tick a answered is).act;
      synced = change.synced ∙ r.synced;
    }

pub returns-clause-counted : goal.returns-clause-counted
returns-clause-counted g c doc k q before h tick r v is =
    let name = c.args.made.name in
    let given = c.args.made.given in
    let a = c.in_ok-answer.answer in
    let answered : a ≡ try_node q name given h = c.in_ok-answer.ensures.answer q h r.store v.passes in
    let change = write_change k q h name given c.args.made.written c.args.made.write tick a answered is in
    let counted = c.in_ok-note_answer.ensures.counted q h (add k q tick h) r.cluster r.synced change in
    omega (arith, counted, write_cost k q h name given c.args.made.written c.args.made.write tick a answered is)
