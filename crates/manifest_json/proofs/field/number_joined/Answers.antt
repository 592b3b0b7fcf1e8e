use Rattle.std.proofs.Common.{◌++◌, ap₂, sym, subst}
use Rattle.std.proofs.lemmas.Str.{IsUtf8-append}
use Rattle.std.specs.Str.{IsUtf8}
use Rattle.manifest_json.proofs.NamesKept.{numbered-kept, same-kept}
use Rattle.manifest_json.proofs.field.number_joined.Goals as goal

pub number_joined-requires-clause-text : goal.number_joined-requires-clause-text
number_joined-requires-clause-text c =
    subst IsUtf8 (sym (ap₂ (λ front back. front ++ back) c.as_bytes.ensures.value c.as_bytes-2.ensures.value))
    (IsUtf8-append c.args.front.now c.args.back.now c.utf8.front c.utf8.back)

pub returns-in-Ok-clause-names : goal.returns-in-Ok-clause-names
returns-in-Ok-clause-names c =
    numbered-kept c.args.names.now c.number_joined.new.self (c.as_bytes.result.now ++ c.as_bytes-2.result.now) c.in-Ok.ensures.held

pub returns-in-Err-clause-names : goal.returns-in-Err-clause-names
returns-in-Err-clause-names c = same-kept c.args.names.now c.number_joined.new.self c.in-Err.ensures.err
