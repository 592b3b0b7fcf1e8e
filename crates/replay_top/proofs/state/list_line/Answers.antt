use Rattle.std.proofs.Common.{◌≡◌, ◌≤◌, ◌++◌, codes, false, Some, sym, ap, ◌∙◌, subst, arith}
use Rattle.serde_json.specs.Data.{depth}
use Rattle.serde_json.specs.Read.{max_depth, read}
use Rattle.serde_json.specs.View.{view}
use Rattle.serde_json.specs.Written.{compact_text, has_float}
use Rattle.manifest_json.specs.Walk.{list_walk}
use Rattle.manifest_json.specs.Written.{list_of}
use Rattle.replay_top.specs.State.{line_of}
use Rattle.replay_top.proofs.Plain.{list-plain}
use Rattle.replay_top.proofs.state.list_line.Goals as goal

pub returns-clause-text : goal.returns-clause-text
unfolding line_of
returns-clause-text c =
    let names = c.args.names.now in
    let list = list_of names c.args.known.now c.args.items.now in
    let value = c.in_ok-list.ensures.value in
    let plain = list-plain names c.args.known.now c.args.items.now in
    let text = c.in_ok-to_string.ensures.text (ap has_float value ∙ plain.floats) ∙ ap compact_text value in
    c.in_ok-add.ensures ∙ ap (λ l. l ++ codes "\n") (ap (λ v. v.items) c.into_bytes-text.ensures.value ∙ text)

pub returns-clause-reads_back : goal.returns-clause-reads_back
returns-clause-reads_back c =
    let names = c.args.names.now in
    let known = c.args.known.now in
    let items = c.args.items.now in
    let value = c.in_ok-list.ensures.value in
    let plain = list-plain names known items in
    let text = c.in_ok-to_string.ensures.text (ap has_float value ∙ plain.floats) ∙ ap compact_text value in
    let short : depth (view c.in_ok-list.list) ≤ max_depth = subst (λ d. depth d ≤ max_depth) (sym value) (omega (arith, plain.deep)) in
    record {
      text = ap read (sym text) ∙ c.in_ok-to_string.ensures.reads_back short ∙ ap Some value;
      list = λ scale readable path. ap (list_walk scale names known path) (sym value) ∙ c.in_ok-list.ensures.reads_back scale readable path;
    }
