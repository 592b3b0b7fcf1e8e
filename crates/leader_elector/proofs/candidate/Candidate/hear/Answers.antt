use Rattle.leader_elector.proofs.Taken.{answered-never, takes-ask, takes-silent}
use Rattle.std.specs.Prelude.{if◌then◌else◌}
use Rattle.std.proofs.Common.{◌≡◌, ◌∙◌, ◌∷◌, None, true, false, sym, ap, subst, refl}
use Rattle.kube_base.specs.declared.numbers.Local.{Local}
use Rattle.kube_objects.specs.Elector.{Fails, Succeeds, leads}
use Rattle.kube_objects.specs.Entry.{Delivers, Leads, Plain, entry}
use Rattle.kube_objects.specs.Turns.{react, with_reply}
use Rattle.kube_objects.specs.Wire.{send}
use Rattle.kube_objects.proofs.OwnCalls.{call_in-with_reply}
use Rattle.leader_elector.specs.Calls.{TakesReply}
use Rattle.leader_elector.specs.Moves.{Asked, Received, reacted}
use Rattle.leader_elector.specs.Plain.{moment_of}
use Rattle.leader_elector.specs.Stands.{ElectorStands, follow_of}
use Rattle.leader_elector.proofs.Own.{asked-settled, settled-own}
use Rattle.leader_elector.proofs.candidate.Candidate.hear.Goals as goal

pub returns-in_default-clause-counts : goal.returns-in_default-clause-counts
returns-in_default-clause-counts c doc q h k call s waits_are now wall room is =
    absurd (subst (λ r. Received doc k q call c.args.reply.now h c.receive.new.self r) c.in_default.is (c.receive.ensures.counts doc q h k call s.elector s.leads waits_are now wall is))

pub returns-in-Fails-clause-counts : goal.returns-in-Fails-clause-counts
returns-in-Fails-clause-counts c doc q h k call s waits_are now wall room is =
    let g = with_reply k q call c.args.reply.now h in
    let t = c.in-Some.ensures.counts doc q h k call s.elector s.leads waits_are now wall is in (
      ap (λ f. react doc k q (leads q h) f g) (sym t.0 ∙ ap follow_of c.in-Fails.is),
      record {
        elector = t.1;
        settled = settled-own q h k 3 (Delivers call c.args.reply.now true) (λ n. refl);
        leads = s.leads;
        unreleased = s.unreleased;
      },
    )

pub returns-in-Asks-clause-counts : goal.returns-in-Asks-clause-counts
returns-in-Asks-clause-counts c doc q h k call s waits_are now wall room is =
    let g = with_reply k q call c.args.reply.now h in
    let t = c.in-Some.ensures.counts doc q h k call s.elector s.leads waits_are now wall is in
    let asks : reacted doc k q call c.args.reply.now h ≡ send doc k 3 q Plain c.in-Asks.request g = ap (λ f. react doc k q (leads q h) f g) (sym t.0 ∙ ap follow_of c.in-Asks.is) in
    let a : Asked doc k 3 q g (reacted doc k q call c.args.reply.now h) (λ x. ElectorStands doc q x c.ask.new.self) c.ask.result = c.ask.ensures.history doc q g _ k 3 t.1 now room asks in
    asked-settled a (λ sent arrives stands settled. record { elector = stands; settled = settled; leads = s.leads; unreleased = s.unreleased })

pub returns-in-Succeeds-clause-counts : goal.returns-in-Succeeds-clause-counts
returns-in-Succeeds-clause-counts c doc q h k call s waits_are now wall room is =
    let g = with_reply k q call c.args.reply.now h in
    let version = c.in-Succeeds.field-0 in
    let t = c.in-Some.ensures.counts doc q h k call s.elector s.leads waits_are now wall is in
    let next : reacted doc k q call c.args.reply.now h ≡ entry k 3 q (Leads version) ∷ g =
    ap (λ f. react doc k q (leads q h) f g) (sym t.0 ∙ ap follow_of c.in-Succeeds.is) ∙ ap (λ b. (if b then g else entry k 3 q (Leads version) ∷ g)) s.leads in
    (version, next, record { elector = subst (λ e. ElectorStands doc q g e) (sym c.win.ensures.0) t.1; idle = call_in-with_reply q h k call c.args.reply.now; unreleased = s.unreleased; now = ap (λ (x : Local). x.0) c.win.ensures.1 ∙ now })

pub returns-in_default-clause-takes : goal.returns-in_default-clause-takes
returns-in_default-clause-takes c w counts waits = absurd (answered-never c.receive.result c.in_default.is (c.receive.ensures.held w counts waits))

pub returns-in-Fails-clause-takes : goal.returns-in-Fails-clause-takes
returns-in-Fails-clause-takes c w counts waits = takes-silent c.in-Some.follow Fails (ap follow_of c.in-Fails.is) refl (c.in-Some.ensures.held w counts waits)

pub returns-in-Asks-clause-takes : goal.returns-in-Asks-clause-takes
returns-in-Asks-clause-takes c w counts waits =
    takes-ask c.in-Some.follow c.in-Asks.request c.ask.result (ap follow_of c.in-Asks.is) (c.in-Some.ensures.held w counts waits) c.ask.ensures.same c.ask.ensures.asks

pub returns-in-Succeeds-clause-takes : goal.returns-in-Succeeds-clause-takes
returns-in-Succeeds-clause-takes c w counts waits = (
  subst (λ e. TakesReply c.args.waits.now false c.args.self.now.elector (moment_of c.args.self.now.elector c.args.now.0 c.args.wall.0) w c.args.reply.now e true None) (sym c.win.ensures.0)
      (takes-silent c.in-Some.follow (Succeeds c.in-Succeeds.field-0) (ap follow_of c.in-Succeeds.is) refl (c.in-Some.ensures.held w counts waits)),
  ap (λ (x : Local). x.0) c.win.ensures.1,
)
