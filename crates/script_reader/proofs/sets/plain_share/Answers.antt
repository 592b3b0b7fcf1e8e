use Rattle.std.proofs.Common.{Some, codes, sym, ap, ◌∙◌}
use Rattle.std.proofs.lemmas.Slice.Eq.{bytes_eq-Decides}
use Rattle.serde_json.specs.View.{view}
use Rattle.script_reader.proofs.PlainShares.{plain-share, both-members}
use Rattle.script_reader.proofs.sets.plain_share.Goals as goal

pub returns-then-pods-le100000 : goal.returns-then-pods-le100000
returns-then-pods-le100000 c =
    plain-share (view c.args.value.now) (view c.in_ok-first.node.now) (view c.in_ok-last.pods.now) c.in_ok-text.text.now c.in_ok-pods.pods
    (sym c.in_ok-members.ensures ∙ ap Some (both-members c.in_ok-members.members.now.entries (c.in_ok-first.first.now, c.in_ok-first.node.now)
    (c.in_ok-last.last.now, c.in_ok-last.pods.now) (sym c.len.ensures.len ∙ c.if-len-eq2.true) c.in_ok-first.ensures.first c.in_ok-last.ensures.last
    (sym c.as_str-then-len-eq2.ensures.value ∙ (bytes_eq-Decides _ (codes "node")).0 (sym c.if-eq.ensures))
    (sym c.as_str-then-eq.ensures.value ∙ (bytes_eq-Decides _ (codes "pods")).0 (sym c.if-eq-2.ensures))))
    (sym c.in_ok-text.ensures) (sym c.if-is_name.ensures) (sym c.in_ok-pods.ensures) c.if-pods-ge1.true c.if-pods-le100000.true
