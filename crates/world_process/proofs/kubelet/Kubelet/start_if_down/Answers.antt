use Rattle.std.proofs.Common.{◌∷◌, None, sym, ◌∙◌}
use Rattle.kube_objects.specs.declared.script.What.TheVariants as what
use Rattle.kube_objects.specs.Entry.{Event, script_entry}
use Rattle.world_process.proofs.Kubelets.{kubelet-begun, kubelet-begun-not, kubelet-down, kubelet-event}
use Rattle.world_process.proofs.Scripted.{begun-few, plain-script}
use Rattle.world_process.proofs.kubelet.Kubelet.start_if_down.Goals as goal

pub returns-then-is_some-clause-stands : goal.returns-then-is_some-clause-stands
returns-then-is_some-clause-stands c doc n k id h s at plain few = kubelet-begun-not doc k id h c.args.self.now (sym c.is_some.ensures ∙ c.if-is_some.true) s

pub returns-clause-stands : goal.returns-clause-stands
returns-clause-stands c doc n k id h s at plain few =
    let self = c.args.self.now in
    let e = script_entry k 1 (Event (what.Start id) None) in
    let down = kubelet-down doc id.0 h self (sym c.is_some.ensures ∙ c.if-is_some.false) s in
    kubelet-begun doc k id h c.start.new.self down
    (c.start.ensures.stands doc n k 1 id.0 (e ∷ h) (kubelet-event doc id.0 k 1 (what.Start id) None h self s) at (plain-script n k 1 (Event (what.Start id) None) h plain) (begun-few doc k id h down few))
