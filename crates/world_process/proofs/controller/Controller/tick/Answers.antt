use Rattle.std.proofs.Common.{◌≡◌, true, false, Some, refl, sym, ap, ◌∙◌, subst}
use Rattle.std.specs.Prelude.{IfSome, is_some}
use Rattle.std.proofs.lemmas.Result.{on_ok_weaker}
use Rattle.kube_objects.specs.Identities.{identity}
use Rattle.kube_objects.specs.Pauses.{is_paused}
use Rattle.kube_objects.specs.Process.{alive}
use Rattle.controller_core.specs.TermStands.{TermStands}
use Rattle.leader_elector.specs.Stands.{acting_identity}
use Rattle.world_process.specs.Controllers.{Ticked}
use Rattle.world_process.specs.Processes.{leads_if_up}
use Rattle.world_process.proofs.Acting.{acting-ticks, paused-ticks, role-led, ticked-acting, ticked-not, unled-ticks, view-is}
use Rattle.world_process.proofs.controller.Controller.tick.Goals as goal

pub returns-in_default-clause-stands : goal.returns-in_default-clause-stands
returns-in_default-clause-stands g c doc k p h s store at watch passes can =
    let self = c.args.self.now in
    ticked-not doc k p h self c.args.store.now c.args.deeds.now
    (unled-ticks doc k p h (sym (c.acting.ensures.leads doc k p self.incarnation h s.role s.clock at) ∙ ap is_some c.in_default.is)) s store

pub returns-then-is_paused-clause-stands : goal.returns-then-is_paused-clause-stands
returns-then-is_paused-clause-stands g c doc k p h s store at watch passes can =
    let self = c.args.self.now in
    let paused : is_paused doc p k ≡ true = ap (is_paused doc p) (sym at) ∙ sym (c.is_paused.ensures doc p s.pauses) ∙ c.if-is_paused.true in
    ticked-not doc k p h self c.args.store.now c.args.deeds.now (paused-ticks doc k p h paused) s store

pub returns-clause-stands : goal.returns-clause-stands
returns-clause-stands g c doc k p h s store at watch passes can =
    let self = c.args.self.now in
    let i = self.incarnation in
    let q = identity p i in
    let some = ap is_some c.in-Some.is in
    let up : alive p h ≡ Some i = subst (λ o. IfSome o (λ a. alive p h ≡ Some i)) c.in-Some.is (c.acting.ensures.up doc p i h s.role) in
    let who : acting_identity c.in-Some.acting ≡ q = subst (λ o. IfSome o (λ a. acting_identity a ≡ q)) c.in-Some.is (c.acting.ensures.identity doc p i h s.role) in
    let awake : is_paused doc p k ≡ false = ap (is_paused doc p) (sym at) ∙ sym (c.is_paused.ensures doc p s.pauses) ∙ c.if-is_paused.false in
    let on = sym (ap (λ o. leads_if_up doc k p o h) up) ∙ sym (c.acting.ensures.leads doc k p i h s.role s.clock at) ∙ some in
    let view = view-is doc k q h self.clock _ s.clock watch passes at c.local-now.ensures.value c.wall_at-wall.ensures.value in
    let went = (c.in_ok-printed.ensures doc k q h (subst (TermStands doc q h) (sym c.deref_mut.ensures.value) (s.term.each i up).term) store view who can.in_beats can.upto (role-led doc k p i h self.role s.role up on) (can.fresh q refl) (can.unpassed q refl) (can.few q)).0 in
    on_ok_weaker c.append.result
    (λ told. subst (Ticked doc k p h _ c.tick.new.store c.args.deeds.now) (sym told)
    (ticked-acting doc k p h self c.tick.new.self c.tick.new.store c.args.deeds.now c.in_ok-printed.printed (acting-ticks doc k p i h can.goes awake up on) up s went))
    c.append.ensures.ok
