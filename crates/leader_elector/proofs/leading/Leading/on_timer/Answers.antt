use Rattle.std.proofs.Common.{◌≡◌, ◌∙◌, ◌+◌, ◌<◌, ◌^◌, Some, nat_lt, sym, ap, subst, true, false}
use Rattle.std.specs.Prelude.{if◌then◌else◌}
use Rattle.kube_objects.specs.Clocks.{local}
use Rattle.kube_objects.specs.Elector.{deadline, leads}
use Rattle.kube_objects.specs.Process.{begun, call_in}
use Rattle.kube_objects.specs.Turns.{end_as, end_term, try, expired}
use Rattle.kube_objects.proofs.OwnCalls.{begun-expiry}
use Rattle.leader_elector.specs.Moves.{Asked}
use Rattle.leader_elector.specs.Stands.{ElectorStands}
use Rattle.leader_elector.proofs.Beginning.{before, reached}
use Rattle.leader_elector.proofs.Expiry.{deadline-expiry, leads-expiry, unreleased-expiry}
use Rattle.leader_elector.proofs.Own.{asked-settled}
use Rattle.leader_elector.proofs.leading.Leading.on_timer.Goals as goal

pub returns-then-now-self-clause-turns : goal.returns-then-now-self-clause-turns
returns-then-now-self-clause-turns c doc q h k s now wall room =
    let e = expired doc k q h in
    let late : nat_lt c.args.now.0 c.args.self.deadline.0 ≡ false = reached c.args.now.0 c.args.self.deadline.0 c.if-now-self.true in
    let at : Some c.args.self.deadline.0 ≡ deadline doc q e = s.deadline ∙ sym (deadline-expiry doc k q h (call_in q h)) in
    let room_now : begun q e + 1 < 2 ^ 64 = subst (λ n. n + 1 < 2 ^ 64) (sym (begun-expiry doc k q h (call_in q h))) room in
    c.end_by_rule.ensures.turns doc q e k (c.expire-expired.ensures.stands doc q h k s.elector s.leads tt now) at (unreleased-expiry doc k q h (call_in q h) s.unreleased) now late wall room_now

pub returns-in-Some-clause-turns : goal.returns-in-Some-clause-turns
returns-in-Some-clause-turns c doc q h k s now wall room =
    let e = expired doc k q h in
    let early : nat_lt (local doc q.process k) c.args.self.deadline.0 ≡ true = ap (λ x. nat_lt x c.args.self.deadline.0) (sym now) ∙ before c.args.now.0 c.args.self.deadline.0 c.if-now-self.false in
    let at : deadline doc q e ≡ Some c.args.self.deadline.0 = deadline-expiry doc k q h (call_in q h) ∙ sym s.deadline in
    let led : leads q e ≡ true = leads-expiry doc k q h (call_in q h) ∙ s.leads in
    let room_now : begun q e + 1 < 2 ^ 64 = subst (λ n. n + 1 < 2 ^ 64) (sym (begun-expiry doc k q h (call_in q h))) room in
    let a : Asked doc k 4 q e (try doc k q e) (λ x. ElectorStands doc q x c.attempt.new.self) c.in-Some.ask =
    c.in-Some.ensures.history doc q e k (c.expire-expired.ensures.stands doc q h k s.elector s.leads tt now) led (c.expire-expired.ensures.fast doc q h k s.elector s.settled now) now wall room_now in (
      ap (λ x. end_term doc k q x e) at ∙ ap (λ b. (if b then e else end_as doc.settings.rules.release doc k q e)) early,
      asked-settled a (λ sent arrives stands settled. record {
        elector = stands;
        settled = settled;
        leads = led;
        deadline = sym at;
        unreleased = unreleased-expiry doc k q h (call_in q h) s.unreleased;
      }),
    )

pub returns-in-None-clause-turns : goal.returns-in-None-clause-turns
returns-in-None-clause-turns c doc q h k s now wall room =
    let e = expired doc k q h in
    let early : nat_lt (local doc q.process k) c.args.self.deadline.0 ≡ true = ap (λ x. nat_lt x c.args.self.deadline.0) (sym now) ∙ before c.args.now.0 c.args.self.deadline.0 c.if-now-self.false in
    let at : deadline doc q e ≡ Some c.args.self.deadline.0 = deadline-expiry doc k q h (call_in q h) ∙ sym s.deadline in
    let led : leads q e ≡ true = leads-expiry doc k q h (call_in q h) ∙ s.leads in
    let room_now : begun q e + 1 < 2 ^ 64 = subst (λ n. n + 1 < 2 ^ 64) (sym (begun-expiry doc k q h (call_in q h))) room in
    let t = c.in-None.ensures.history doc q e k (c.expire-expired.ensures.stands doc q h k s.elector s.leads tt now) led (c.expire-expired.ensures.fast doc q h k s.elector s.settled now) now wall room_now in (
      ap (λ x. end_term doc k q x e) at ∙ ap (λ b. (if b then e else end_as doc.settings.rules.release doc k q e)) early,
      t.1,
      record {
        elector = t.2;
        settled = c.expire-expired.ensures.settled doc q h k s.elector s.settled now t.0;
        leads = led;
        deadline = sym at;
        unreleased = unreleased-expiry doc k q h (call_in q h) s.unreleased;
      },
    )
