use Rattle.std.proofs.Common.{◌≡◌, ◌∙◌, sym, ap, subst}
use Rattle.kube_objects.specs.Elector.{attempt}
use Rattle.kube_objects.specs.declared.call.Request.{Request}
use Rattle.kube_objects.specs.declared.call.Request.TheVariants.{Get}
use Rattle.kube_objects.specs.Entry.{CallKind, Plain}
use Rattle.kube_objects.specs.Stored.{election}
use Rattle.kube_objects.specs.Wire.{send}
use Rattle.leader_elector.specs.Moves.{Asked}
use Rattle.leader_elector.specs.Stands.{ElectorStands}
use Rattle.leader_elector.proofs.Beginning.{attempt-fast, attempt-slow, attempt-candidate}
use Rattle.leader_elector.proofs.elector.Elector.begin.Goals.{else-self-via-then-self+else-led, else-self-via-else-self}
use Rattle.leader_elector.proofs.elector.Elector.begin.Goals as goal

pub returns-then-led-clause-history : goal.returns-then-led-clause-history
returns-then-led-clause-history c doc q h k s led now wall room =
    subst (λ x. Asked doc k 4 q h (send doc k 4 q x.0 x.1 h) (λ y. ElectorStands doc q y c.renew.new.self) c.renew.result)
    (sym (attempt-fast doc k q h (sym s.timing.fast ∙ c.if-self.true) (led ∙ c.if-led.true)))
    (c.renew.ensures.history doc q h k s now wall room)

pub returns-clause-history : goal.returns-clause-history
returns-clause-history c doc q h k s led now wall room =
    let plain : attempt doc q k h ≡ (Plain, Get election) =
    elim c.else-self.branch [
      | else-self-via-then-self+else-led w ↦ attempt-candidate doc k q h (sym s.timing.fast ∙ w.if-self.true) (led ∙ w.if-led.false)
      | else-self-via-else-self w ↦ attempt-slow doc k q h (sym s.timing.fast ∙ w.if-self.false)
    ] in
    c.ask.ensures.history doc q h _ k 4 s now room (ap (λ (x : CallKind × Request). send doc k 4 q x.0 x.1 h) plain)
