use Rattle.std.proofs.Common.{◌≡◌, ◌∙◌, ◌+◌, Bool, true, false, Some, refl, sym, ap, subst}
use Rattle.kube_base.specs.declared.numbers.Local.{Local}
use Rattle.kube_base.specs.declared.numbers.ProcId.{ProcId}
use Rattle.kube_objects.specs.CallSlots.{next_number}
use Rattle.kube_objects.specs.Clocks.{wall as wall_at}
use Rattle.kube_objects.specs.Entry.{Emptying, Look}
use Rattle.kube_objects.specs.Identities.{identity}
use Rattle.kube_objects.specs.Newest.{added, join, when}
use Rattle.kube_objects.specs.Process.{begun, last_call, release_begun}
use Rattle.kube_objects.specs.Releases.{after_look, empty_or_end, is_mine, react_in_release}
use Rattle.kube_objects.specs.Turns.{with_reply}
use Rattle.kube_objects.specs.Wire.{next_call, send}
use Rattle.kube_objects.proofs.OwnCalls.{counted-call, mine, said}
use Rattle.leader_elector.specs.Stands.{IsTimingOf, releasing_identity}
use Rattle.leader_elector.proofs.Begins.{emptying-begun, kind_of-call, look-kind, next-in}
use Rattle.leader_elector.proofs.releasing.Releasing.on_reply.Goals as goal

pub returns-in-Some-clause-counts : goal.returns-in-Some-clause-counts
returns-in-Some-clause-counts c doc q h k call s now wall room up is =
    let self = c.args.self in
    let rule = doc.settings.rules.release in
    let reply = c.args.reply in
    let request = c.in-Some.request in
    let g = with_reply k q call reply h in
    let of_call = kind_of-call s.call call (sym s.waits ∙ counted-call doc q k c.args.number h call is) in
    let looks : self.looks ≡ true = by_test self.looks (λ silent. let none = c.in-Some.ensures.emptying silent in cc) in
    let look = look-kind s.call.kind (sym s.looks ∙ looks) in
    let begun_at = look.0 in
    let kind : call.kind ≡ Look begun_at = sym of_call ∙ look.1 in
    let who : releasing_identity self ≡ q = λ i. identity (s.process i) (s.incarnation i) in
    let found : after_look rule q (wall_at doc q.process k) (is_mine q h) reply ≡ Some request =
    (λ i. after_look (sym s.timing.release i) (sym who i) (sym wall i) (sym s.mine i) reply) ∙ sym (c.in-Some.ensures.look looks) in
    let empty = c.empty-ask.ensures in
    let ask = c.empty-ask.result in
    let number : ask.number ≡ begun q h + 1 = empty.number ∙ ap next_number s.calls ∙ next-in (begun q h) room in
    let next = next_call q k (Emptying begun_at) ask.request g in
    record {
      kind = Emptying begun_at;
      sent =
          ap (λ x. react_in_release doc k q x reply g) kind
          ∙ ap (λ o. empty_or_end doc k q begun_at o g) found
          ∙ ap (λ r. send doc k 3 q (Emptying begun_at) r g) (sym empty.request);
      number = number;
      stands = λ arrives. record {
        process = ap (λ (m : ProcId). m.0) empty.same.0 ∙ s.process;
        incarnation = empty.same.1 ∙ s.incarnation;
        timing = subst (λ t. IsTimingOf doc q.process t) (sym empty.same.2) s.timing;
        calls = empty.calls ∙ number ∙ sym (ap (λ b. added b (begun q h)) (mine q));
        call = next;
        waits = ap (λ b. join (said (when b (Some next)) (last_call q g))) (mine q);
        held = empty.held ∙ (λ i. Some (number i, now i));
        late = empty.late ∙ (λ i. now i + s.timing.timeout i + 1);
        looks = empty.looks;
        from = s.from;
        began = emptying-begun rule begun_at s.from (ap (release_begun rule) (sym look.1) ∙ s.began);
        until = ap (λ (x : Local). x.0) empty.kept.0 ∙ s.until;
        mine = empty.kept.1 ∙ s.mine;
        ending = empty.kept.2 ∙ s.ending;
        runs = s.runs;
      };
    }
  where
    by_test : (b : Bool) → (b ≡ false → ⊥) → b ≡ true
    by_test true other = refl
    by_test false other = absurd (other refl)
