use Rattle.std.proofs.Common.{◌≡◌, ◌∙◌, ◌+◌, Some, false, true, refl, sym, ap}
use Rattle.kube_objects.specs.Clocks.{wall as wall_at}
use Rattle.kube_objects.specs.Elector.{release_from, shown}
use Rattle.kube_objects.specs.Identities.{identity}
use Rattle.kube_objects.specs.Newest.{added, join, or_else, when}
use Rattle.kube_objects.specs.Process.{begun, last_call}
use Rattle.kube_objects.specs.Releases.{shows_own}
use Rattle.kube_objects.specs.Wire.{next_call}
use Rattle.kube_objects.proofs.OwnCalls.{mine, said}
use Rattle.leader_elector.specs.Moves.{with_begin}
use Rattle.leader_elector.specs.Plain.{identity_of}
use Rattle.leader_elector.specs.Releases.{request_by}
use Rattle.leader_elector.proofs.Begins.{call-begun, call-looks, call-opens, call_kind, first-call}
use Rattle.leader_elector.proofs.Frames.{last_ending, last_mine, last_releasing}
use Rattle.leader_elector.proofs.releasing.Releasing.begin.Goals as goal

pub returns-clause-begins : goal.returns-clause-begins
returns-clause-begins c doc q h k step s now wall room =
    let e = c.args.elector in
    let request = c.in_ok-request.request in
    let kind = call_kind k request in
    let rule = doc.settings.rules.release in
    let own = release_from q (wall_at doc q.process k) (shown q h) in
    let g = with_begin k step q c.args.ending h in
    let call = next_call q k kind request g in
    let who : identity_of e ≡ q = λ i. identity (s.process i) (s.incarnation i) in
    let asked : request_by rule own ≡ Some request =
    (λ i. request_by (sym s.timing.release i) (release_from (sym who i) (sym wall i) (sym s.shown i))) ∙ sym c.first_request.ensures ∙ c.in_ok-request.was in (
      (kind, request),
      first-call rule k q (wall_at doc q.process k) (shown q h) request asked,
      record {
        kind = kind;
        sent = refl;
        number = c.begin-number.ensures.number doc q h s.slot room;
        stands = λ arrives. record {
          process = s.process;
          incarnation = s.incarnation;
          timing = s.timing;
          calls = c.begin-number.ensures.count ∙ c.begin-number.ensures.number doc q h s.slot room ∙ sym (ap (λ b. added b (begun q h)) (mine q));
          call = call;
          waits = λ i. join (said (when (mine q i) (call-opens k request call i)) (last_call q g));
          held = c.begin-number.ensures.held ∙ (λ i. Some (c.begin-number.ensures.number doc q h s.slot room i, now i));
          late = λ i. now i + s.timing.timeout i + 1;
          looks = c.is_look.ensures ∙ call-looks k request;
          from = k;
          began = call-begun rule own request k asked;
          until = λ i. now i + s.timing.renew i;
          mine = c.is_mine-mine.ensures ∙ (λ i. shows_own (who i) (s.shown i)) ∙ sym (ap (λ b. or_else false (said (when b (shows_own q (shown q h))) (last_mine q h))) (mine q));
          ending = sym (ap (λ b. or_else false (said (when b c.args.ending) (last_ending q h))) (mine q));
          runs = ap (λ b. or_else false (said (when b true) (last_releasing q h))) (mine q);
        };
      },
    )
