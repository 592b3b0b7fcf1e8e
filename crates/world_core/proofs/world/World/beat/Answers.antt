use Rattle.std.proofs.Common.{◌≡◌, ◌+◌, ◌++◌, [], sym, ap, ◌∙◌, subst}
use Rattle.std.proofs.lemmas.List.{append-nil}
use Rattle.kube_objects.specs.Document.{processes}
use Rattle.kube_objects.specs.InFlight.{requests_due, replies_due}
use Rattle.history.specs.History.{history}
use Rattle.history.specs.Printed.{printed}
use Rattle.history.specs.Steps.{first_starts, turns, answer_all, deliver_all}
use Rattle.world_core.specs.declared.world.World.{World}
use Rattle.world_process.specs.Plain.{IsFew, SentByKnown, BackToKnown}
use Rattle.world_core.specs.Worlds.{IsPlaced, MidBeat, WorldStands, names_of}
use Rattle.world_core.proofs.Beats.{one, two, three, beat-is, few-three, few-one, few-starts, requests-starts, replies-starts, replies-answers, unticked-three, unticked-next, in-time-three, in-time-next, world-next}
use Rattle.world_core.proofs.Known.{requests-known, replies-known}
use Rattle.world_core.proofs.Writing.{beat-writable, lawful-few}
use Rattle.world_core.proofs.world.World.beat.Goals as goal

pub returns-clause-stands : goal.returns-clause-stands
returns-clause-stands g c doc k h few s =
    let n = processes doc in
    let before = printed h in
    let h1 = one doc k h in
    let h2 = two doc k h in
    let h3 = three doc k h in
    let is = beat-is doc k h in
    let h0 = first_starts doc k h in
    let few4 : IsFew (turns doc k n h3) = subst IsFew is few in
    let few3 = few-three doc k h few4 in
    let few1 = few-one doc k h few3 in
    let r0 : MidBeat doc k before (requests_due k h) (replies_due k h) h c.args.self.now c.new-deeds.result = record { world = s.within; told = ap (λ ds. before ++ ds) c.new-deeds.ensures ∙ append-nil before } in
    let started = c.in_ok-first_starts.ensures.stands doc k before (requests_due k h) (replies_due k h) h r0 (few-starts doc k h few1) in
    let placed = subst (IsPlaced doc k) (sym c.in_ok-first_starts.ensures.kept.place) s.placed in
    let scripted = c.in_ok-script.ensures.stands doc k before (requests_due k h) (replies_due k h) h0 started placed few1 in
    let r1 = scripted.running in
    let asked : requests_due k h1 ≡ requests_due k h = scripted.requests ∙ requests-starts doc k k h in
    let r2 = c.in_ok-arrivals.ensures.stands doc k before (requests_due k h) (replies_due k h) h1 r1 (subst (SentByKnown n h1) asked (requests-known n k h1 r1.world.rest.plain)) in
    let same2 : answer_all doc k (requests_due k h) h1 ≡ h2 = ap (λ ss. answer_all doc k ss h1) (sym asked) in
    let r2' : MidBeat doc k before [] (replies_due k h) h2 c.arrivals.new.self c.arrivals.new.deeds = subst (λ g. MidBeat doc k before [] (replies_due k h) g c.arrivals.new.self c.arrivals.new.deeds) same2 r2 in
    let back : replies_due k h2 ≡ replies_due k h = replies-answers doc k (requests_due k h1) h1 (λ p. (r1.world.rest.wire.delays p).1.0) ∙ scripted.replies ∙ replies-starts doc k k h in
    let same3 : deliver_all doc k (replies_due k h) h2 ≡ h3 = ap (λ bs. deliver_all doc k bs h2) (sym back) in
    let r3 = c.in_ok-deliveries.ensures.stands doc k before [] (replies_due k h) h2 r2' (subst (BackToKnown n h2) back (replies-known n k h2 r2'.world.rest.plain)) (subst IsFew (sym same3) few3) in
    let r3' : MidBeat doc k before [] [] h3 c.deliveries.new.self c.deliveries.new.deeds = subst (λ g. MidBeat doc k before [] [] g c.deliveries.new.self c.deliveries.new.deeds) same3 r3 in
    let r4 = c.in_ok-turns.ensures.stands doc k before [] [] h3 r3' (unticked-three doc k h s.unticked) (in-time-three doc k h s.in_time) few4 in
    let w : World = record c.turns.new.self { beat = record { 0 = c.turns.new.self.beat.0 + 1 } } in
    let place = c.in_ok-turns.ensures.kept.place ∙ c.in_ok-deliveries.ensures.kept.place ∙ c.in_ok-arrivals.ensures.kept.place in
    (subst (λ g. WorldStands doc (k + 1) g w) (sym is) (world-next doc k (turns doc k n h3) c.turns.new.self r4.world (subst (IsPlaced doc (k + 1)) (sym place) scripted.placed) (unticked-next doc k h s.unticked) (in-time-next doc k h s.in_time)), r4.told ∙ ap printed (sym is))

pub returns-clause-writable : goal.returns-clause-writable
returns-clause-writable g c doc k own stands within =
    let told = (returns-clause-stands g c doc k (history doc k) (lawful-few doc k own.lawful within) stands).1 in
    beat-writable (names_of c.args.self.now) doc k c.turns.new.deeds c.len-held.ensures.names own.lawful own.named within told
