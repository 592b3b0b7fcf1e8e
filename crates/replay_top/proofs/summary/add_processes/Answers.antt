use Rattle.std.proofs.Common.{◌++◌, codes, decimal, length, ap, sym, ◌∙◌, append_assoc}
use Rattle.replay_top.specs.Summary.{processes_text}
use Rattle.replay_top.proofs.summary.add_processes.Goals as goal

pub returns : goal.returns
unfolding processes_text
returns c =
    let old = c.args.text.now.items in
    let controllers = decimal (length c.args.document.now.controllers) in
    let kubelets = codes " kubelets=" ++ decimal (length c.args.document.now.kubelets) in
    c.in_ok-add_length-2.ensures
    ∙ ap (λ l. l ++ kubelets) c.in_ok-add_length.ensures
    ∙ append_assoc old (codes "controllers=" ++ controllers) kubelets
    ∙ ap (λ l. old ++ l) (sym (append_assoc (codes "controllers=" ++ controllers) (codes " kubelets=") (decimal (length c.args.document.now.kubelets))))
