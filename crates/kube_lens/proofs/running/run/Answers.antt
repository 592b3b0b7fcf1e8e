use Rattle.std.proofs.Common.{List, ℕ, [], Some, None, map, string_bytes, refl, sym, ap, subst, ◌∙◌, ◌≡◌}
use Rattle.run_edge.specs.Outcome.{Ends, Reply, Unread}
use Rattle.run_edge.specs.declared.status.Verdict.TheVariants.{Done}
use Rattle.lens_calm.specs.Answers as bounds_flags
use Rattle.lens_plan.specs.Answers as tune
use Rattle.lens_room.specs.Flags.{behind}
use Rattle.lens_room.specs.FlagReplies.{answer_to}
use Rattle.kube_lens.specs.Commands.{command_of}
use Rattle.kube_lens.specs.Outcome.{help, usage}
use Rattle.kube_lens.specs.declared.asked.Asked.TheVariants.{Margin}
use Rattle.kube_lens.specs.declared.command.Command.TheVariants.{Help, Flags, BoundsFlags, Tune, Asks}
use Rattle.kube_lens.proofs.Commanded.{ends-commanded, ends-left, ends-said, ends-unread, never-said}
use Rattle.kube_lens.proofs.PremiseLaws.{safe-premise, unsafe-premise}
use Rattle.kube_lens.proofs.running.run.Goals as goal

pub returns-in-Some-Help-clause-text : goal.returns-in-Some-Help-clause-text
returns-in-Some-Help-clause-text g c bytes told =
    let words : List (List ℕ) = map string_bytes c.args.words.now.items in
    let left = g.S.Source.left c.args.source.now in
    let before = g.K.Sink.taken c.args.sink.now in
    let after = g.K.Sink.taken c.tell.new.sink in
    let found : Some Help ≡ command_of words = ap Some (sym c.in-Some-Help.field-0-is) ∙ sym c.in-Some-Help.is ∙ c.command_in.ensures in
    let told_help : Ends (Unread help bytes) (Some bytes) before after c.tell.result
    = subst (λ text. Ends (Unread (let r : Reply = record { verdict = Done; text = text } in r) bytes) (Some bytes) before after c.tell.result) c.help.ensures (c.tell.ensures.text bytes) in
    ends-commanded words bytes (Some Help) left before after c.tell.result found (ends-unread help bytes left before after c.tell.result told told_help)

pub returns-in-Some-Flags-clause-text : goal.returns-in-Some-Flags-clause-text
returns-in-Some-Flags-clause-text g c bytes told =
    let words : List (List ℕ) = map string_bytes c.args.words.now.items in
    let left = g.S.Source.left c.args.source.now in
    let before = g.K.Sink.taken c.args.sink.now in
    let after = g.K.Sink.taken c.run.new.sink in
    let found : Some Flags ≡ command_of words = ap Some (sym c.in-Some-Flags.field-0-is) ∙ sym c.in-Some-Flags.is ∙ c.command_in.ensures in
    ends-commanded words bytes (Some Flags) left before after c.run.result found (ends-unread (answer_to (behind words)) bytes left before after c.run.result told (c.run.ensures.text bytes))

pub returns-in-Some-BoundsFlags-clause-text : goal.returns-in-Some-BoundsFlags-clause-text
returns-in-Some-BoundsFlags-clause-text g c bytes told =
    let words : List (List ℕ) = map string_bytes c.args.words.now.items in
    let left = g.S.Source.left c.args.source.now in
    let before = g.K.Sink.taken c.args.sink.now in
    let after = g.K.Sink.taken c.run-in-Some-BoundsFlags.new.sink in
    let found : Some BoundsFlags ≡ command_of words = ap Some (sym c.in-Some-BoundsFlags.field-0-is) ∙ sym c.in-Some-BoundsFlags.is ∙ c.command_in.ensures in
    ends-commanded words bytes (Some BoundsFlags) left before after c.run-in-Some-BoundsFlags.result found (ends-unread (bounds_flags.answer_to (behind words)) bytes left before after c.run-in-Some-BoundsFlags.result told (c.run-in-Some-BoundsFlags.ensures.text bytes))

pub returns-in-Some-Tune-clause-text : goal.returns-in-Some-Tune-clause-text
returns-in-Some-Tune-clause-text g c bytes told =
    let words : List (List ℕ) = map string_bytes c.args.words.now.items in
    let left = g.S.Source.left c.args.source.now in
    let before = g.K.Sink.taken c.args.sink.now in
    let after = g.K.Sink.taken c.run-in-Some-Tune.new.sink in
    let found : Some Tune ≡ command_of words = ap Some (sym c.in-Some-Tune.field-0-is) ∙ sym c.in-Some-Tune.is ∙ c.command_in.ensures in
    ends-commanded words bytes (Some Tune) left before after c.run-in-Some-Tune.result found (ends-left (tune.Answers (behind words) bytes) bytes left before after c.run-in-Some-Tune.result told (c.run-in-Some-Tune.ensures.text bytes))

pub returns-in-Some-Tune-clause-tuned : goal.returns-in-Some-Tune-clause-tuned
returns-in-Some-Tune-clause-tuned g c is = (refl, refl, c.run-in-Some-Tune.ensures.text [])

pub returns-in-Some-Tune-clause-unread : goal.returns-in-Some-Tune-clause-unread
returns-in-Some-Tune-clause-unread g c reply is =
    let words : List (List ℕ) = map string_bytes c.args.words.now.items in
    let found : Some Tune ≡ command_of words = ap Some (sym c.in-Some-Tune.field-0-is) ∙ sym c.in-Some-Tune.is ∙ c.command_in.ensures in
    absurd (never-said words (Some Tune) reply found refl is)

pub returns-in-Some-Flags-clause-flags_safe : goal.returns-in-Some-Flags-clause-flags_safe
returns-in-Some-Flags-clause-flags_safe g c flags command read is = c.run.ensures.safe flags read is

pub returns-in-Some-Flags-clause-flags_not_safe : goal.returns-in-Some-Flags-clause-flags_not_safe
returns-in-Some-Flags-clause-flags_not_safe g c flags command read is = c.run.ensures.not_safe flags read is

pub returns-in-Some-Asks-clause-text : goal.returns-in-Some-Asks-clause-text
returns-in-Some-Asks-clause-text g c bytes told =
    let words : List (List ℕ) = map string_bytes c.args.words.now.items in
    let asked = c.in-Some-Asks.asked in
    let found : Some (Asks asked) ≡ command_of words = ap Some (sym c.in-Some-Asks.field-0-is) ∙ sym c.in-Some-Asks.is ∙ c.command_in.ensures in
    ends-commanded words bytes (Some (Asks asked)) (g.S.Source.left c.ask.new.source) (g.K.Sink.taken c.args.sink.now) (g.K.Sink.taken c.ask.new.sink) c.ask.result found (c.ask.ensures.text bytes told)

pub returns-in-Some-Asks-clause-safe : goal.returns-in-Some-Asks-clause-safe
returns-in-Some-Asks-clause-safe g c bytes d told read command is =
    let words : List (List ℕ) = map string_bytes c.args.words.now.items in
    let found : Some (Asks c.in-Some-Asks.asked) ≡ Some (Asks Margin) = ap Some (sym c.in-Some-Asks.field-0-is) ∙ sym c.in-Some-Asks.is ∙ c.command_in.ensures ∙ command in
    let margin : c.in-Some-Asks.asked ≡ Margin = cc in
    safe-premise bytes d read c.in-Some-Asks.asked _ _ _ c.ask.result margin (c.ask.ensures.text bytes told) is

pub returns-in-Some-Asks-clause-not_safe : goal.returns-in-Some-Asks-clause-not_safe
returns-in-Some-Asks-clause-not_safe g c bytes d told read command is =
    let words : List (List ℕ) = map string_bytes c.args.words.now.items in
    let found : Some (Asks c.in-Some-Asks.asked) ≡ Some (Asks Margin) = ap Some (sym c.in-Some-Asks.field-0-is) ∙ sym c.in-Some-Asks.is ∙ c.command_in.ensures ∙ command in
    let margin : c.in-Some-Asks.asked ≡ Margin = cc in
    unsafe-premise bytes d read c.in-Some-Asks.asked _ _ _ c.ask.result margin (c.ask.ensures.text bytes told) is

pub returns-in-None-clause-text : goal.returns-in-None-clause-text
returns-in-None-clause-text g c bytes told =
    let words : List (List ℕ) = map string_bytes c.args.words.now.items in
    let left = g.S.Source.left c.args.source.now in
    let before = g.K.Sink.taken c.args.sink.now in
    let after = g.K.Sink.taken c.tell_usage.new.sink in
    let found : None ≡ command_of words = sym c.in-None.is ∙ c.command_in.ensures in
    ends-commanded words bytes None left before after c.tell_usage.result found (ends-unread usage bytes left before after c.tell_usage.result told (c.tell_usage.ensures.text bytes))

pub returns-in-None-clause-usage : goal.returns-in-None-clause-usage
returns-in-None-clause-usage g c other = (refl, refl, c.tell_usage.ensures.status, c.tell_usage.ensures.text [])

pub returns-in-None-clause-unread : goal.returns-in-None-clause-unread
returns-in-None-clause-unread g c reply is =
    let words : List (List ℕ) = map string_bytes c.args.words.now.items in
    let found : None ≡ command_of words = sym c.in-None.is ∙ c.command_in.ensures in
    (refl, refl, ends-said words None usage reply (g.K.Sink.taken c.args.sink.now) (g.K.Sink.taken c.tell_usage.new.sink) c.tell_usage.result found refl is (c.tell_usage.ensures.text []))

pub returns-in-Some-Help-clause-unread : goal.returns-in-Some-Help-clause-unread
returns-in-Some-Help-clause-unread g c reply is =
    let words : List (List ℕ) = map string_bytes c.args.words.now.items in
    let before = g.K.Sink.taken c.args.sink.now in
    let after = g.K.Sink.taken c.tell.new.sink in
    let found : Some Help ≡ command_of words = ap Some (sym c.in-Some-Help.field-0-is) ∙ sym c.in-Some-Help.is ∙ c.command_in.ensures in
    let told_help : Ends (Unread help []) (Some []) before after c.tell.result
    = subst (λ text. Ends (Unread (let r : Reply = record { verdict = Done; text = text } in r) []) (Some []) before after c.tell.result) c.help.ensures (c.tell.ensures.text []) in
    (refl, refl, ends-said words (Some Help) help reply before after c.tell.result found refl is told_help)

pub returns-in-Some-Flags-clause-unread : goal.returns-in-Some-Flags-clause-unread
returns-in-Some-Flags-clause-unread g c reply is =
    let words : List (List ℕ) = map string_bytes c.args.words.now.items in
    let found : Some Flags ≡ command_of words = ap Some (sym c.in-Some-Flags.field-0-is) ∙ sym c.in-Some-Flags.is ∙ c.command_in.ensures in
    (refl, refl, ends-said words (Some Flags) (answer_to (behind words)) reply (g.K.Sink.taken c.args.sink.now) (g.K.Sink.taken c.run.new.sink) c.run.result found refl is (c.run.ensures.text []))

pub returns-in-Some-BoundsFlags-clause-unread : goal.returns-in-Some-BoundsFlags-clause-unread
returns-in-Some-BoundsFlags-clause-unread g c reply is =
    let words : List (List ℕ) = map string_bytes c.args.words.now.items in
    let found : Some BoundsFlags ≡ command_of words = ap Some (sym c.in-Some-BoundsFlags.field-0-is) ∙ sym c.in-Some-BoundsFlags.is ∙ c.command_in.ensures in
    (refl, refl, ends-said words (Some BoundsFlags) (bounds_flags.answer_to (behind words)) reply (g.K.Sink.taken c.args.sink.now) (g.K.Sink.taken c.run-in-Some-BoundsFlags.new.sink) c.run-in-Some-BoundsFlags.result found refl is (c.run-in-Some-BoundsFlags.ensures.text []))

pub returns-in-Some-Asks-clause-unread : goal.returns-in-Some-Asks-clause-unread
returns-in-Some-Asks-clause-unread g c reply is =
    let words : List (List ℕ) = map string_bytes c.args.words.now.items in
    let asked = c.in-Some-Asks.asked in
    let found : Some (Asks asked) ≡ command_of words = ap Some (sym c.in-Some-Asks.field-0-is) ∙ sym c.in-Some-Asks.is ∙ c.command_in.ensures in
    absurd (never-said words (Some (Asks asked)) reply found refl is)
